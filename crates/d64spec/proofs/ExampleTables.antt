-- Document 01's worked examples hold: one statement for each table of specs/Examples and specs/Trial. Where a definition is wrong, the check names
-- the table that fails, and of the P table the rows. Not here: specs/TwoFaults (OrderTables).
use mathlib.Core.Path.{◌≡◌, refl}
use mathlib.Core.List.{[], ◌∷◌, map}
use Rattle.d64spec.specs.Lists.{ascending, descending, range}
use Rattle.d64spec.specs.Answers.{first}
use Rattle.d64spec.specs.Geometry.{allocation_order, allocation_tracks, first_on, layout35, on_disk, sector_number, sectors_of_track, sectors_on, total, tracks}
use Rattle.d64spec.specs.Image.{disk, image, put}
use Rattle.d64spec.specs.Chain.{decode_directory_link, decode_file_link, directory_link, file_link, link_to}
use Rattle.d64spec.specs.Directory.{directory_sectors, file_of, files, first_link, name_of, occupied, padded, slot_in, slots_in, valid_name, valid_type}
use Rattle.d64spec.specs.Owner.{claim_count, claim_list, claims_of, free_for_directory, free_for_files}
use Rattle.d64spec.specs.Bits.{bit_of, binary}
use Rattle.d64spec.specs.Map.{bitmap_byte, entry_correct, expected_bit, expected_entry, map_bit, map_ones, rewrite_map, wrong_bits}
use Rattle.d64spec.specs.Check.{check_directory, check_disk, check_entry, check_image, check_slot, right_size}
use Rattle.d64spec.specs.Reply.{files_named, reply, storable_kind, valid_name_argument, writable}
use Rattle.d64spec.specs.Format.{call_format, format_header, formatted_disk, formatted_map, free_after_format}
use Rattle.d64spec.specs.Read.{call_read, call_tell, no_information, tell_reply}
use Rattle.d64spec.specs.Store.{call_store, empty_slots, grow_directory, last_of, new_entry, overwrite_slot, placement, sectors_needed, slot_place_for, stored_disk, write_slot}
use Rattle.d64spec.specs.Scratch.{call_scratch, scratched_disk}
use Rattle.d64spec.specs.Call.{attempt, call_check, output_buffer, perform}
use Rattle.d64spec.specs.Listing.{bytes_of_track18, call_listing, digit, disk_of_track18, free_total, head_frame, line, listing_output, listing_text, refusal_line, sleeve_output, slot_frame}
use Rattle.d64spec.specs.Host.{answer_block, host_call}
use Rattle.d64spec.specs.Examples.{StartThere, broken, broken_steps, broken_written, broken_zones, content, contents_of, disk_at, entry_of, example_steps, formatted, grown, holds, house_tracks, is_done, last_sector, scratched_again, step_holds, stored_once, table, track_bytes, with_file, written_holds, written_numbers, zone_holds, zones}
use Rattle.d64spec.specs.Trial.{after_call, broken_calls, call_holds, check_rows, entry_on19, fields_of, fresh_image, image_far, image_of, image_with_a, image_with_ab, image_with_eight, read_rows, sent, sleeve_rows, small_layout, tell_rows, with_ends, write_rows}

-- every row, and the first bytes of sectors in every image
pub record TableHolds : Type 0 where
  pub rows : broken table ≡ []
  pub starts : StartThere table

-- THE EXAMPLES MARKED P HOLD
pub table-holds : TableHolds
unfolding table holds disk last_sector sector_number on_disk layout35 first_on sectors_on total tracks map_ones map_bit bit_of sectors_needed allocation_order allocation_tracks ascending descending sectors_of_track last_of put
table-holds = record {
  rows = refl;
  starts = ((λ img. refl), ((λ img. refl), ((λ img. refl), ((λ img. refl), tt))));
}

-- NUMBERS, LOW BYTE FIRST: the count of a slot, read and written, and every byte of the answer block's length and sectors
pub written-hold : broken_written written_numbers ≡ []
unfolding written_numbers written_holds entry_of new_entry padded answer_block
written-hold = refl

-- THE SIXTEEN DIGITS: 0123456789ABCDEF (01, Sleeve listing)
pub digits_are : map digit (range 0 16)
    ≡ 0x30 ∷ 0x31 ∷ 0x32 ∷ 0x33 ∷ 0x34 ∷ 0x35 ∷ 0x36 ∷ 0x37 ∷ 0x38 ∷ 0x39 ∷ 0x41 ∷ 0x42 ∷ 0x43 ∷ 0x44 ∷ 0x45 ∷ 0x46 ∷ []
unfolding digit
digits_are = refl

-- THE PUBLISHED LAYOUT: document 01's table of tracks
pub zones-hold : broken_zones zones ≡ []
unfolding zones zone_holds layout35 sectors_on first_on ascending
zones-hold = refl

-- HOUSE ORDER, track by track
pub order-holds : allocation_tracks layout35 ≡ house_tracks
unfolding house_tracks allocation_tracks ascending descending tracks layout35
order-holds = refl

-- THE OTHER EXAMPLES HOLD: format, store, scratch, a directory that grows, and the whole listing
pub steps-hold : broken_steps example_steps ≡ []
unfolding table holds last_sector content formatted with_file stored_once scratched_again grown track_bytes disk_at is_done contents_of step_holds example_steps sector_number on_disk layout35 first_on sectors_on total tracks map_ones map_bit bit_of sectors_needed allocation_order allocation_tracks ascending descending sectors_of_track last_of put formatted_disk formatted_map format_header free_after_format padded expected_entry expected_bit bitmap_byte binary rewrite_map claim_count claim_list claims_of directory_sectors files occupied file_of slot_in slots_in first_link link_to file_link directory_link decode_file_link decode_directory_link free_for_files free_for_directory empty_slots slot_place_for first placement stored_disk write_slot overwrite_slot grow_directory new_entry scratched_disk check_disk check_directory check_slot check_entry entry_correct wrong_bits valid_type valid_name name_of call_listing listing_output listing_text head_frame slot_frame line digit free_total disk_of_track18 disk refusal_line
steps-hold = refl

-- the calls on a small disk, by subject
pub record CallsHold : Type 0 where
  pub checks : broken_calls check_rows ≡ []
  pub reads : broken_calls read_rows ≡ []
  pub writes : broken_calls write_rows ≡ []
  pub tells : broken_calls tell_rows ≡ []
  pub sleeves : broken_calls sleeve_rows ≡ []

-- WHOLE CALLS ON A SMALL DISK: the check's numbers with their places, and what each call leaves and reports (every number, and their order: OrderTables)
pub calls-hold : CallsHold
unfolding check_rows read_rows write_rows tell_rows sleeve_rows image_with_eight image_far sleeve_output bytes_of_track18 listing_output call_listing listing_text head_frame slot_frame line digit free_total disk_of_track18 refusal_line call_holds image_of fresh_image image_with_a image_with_ab after_call entry_on19 with_ends sent small_layout fields_of host_call perform reply attempt output_buffer answer_block call_check call_format call_read call_store call_scratch call_tell tell_reply no_information check_image right_size valid_name_argument storable_kind writable files_named image disk put first sector_number on_disk first_on sectors_on total tracks map_ones map_bit bit_of sectors_needed allocation_order allocation_tracks ascending descending sectors_of_track last_of formatted_disk formatted_map format_header free_after_format padded expected_entry expected_bit bitmap_byte binary rewrite_map claim_count claim_list claims_of directory_sectors files occupied file_of slot_in slots_in first_link link_to file_link directory_link decode_file_link decode_directory_link free_for_files free_for_directory empty_slots slot_place_for placement stored_disk write_slot overwrite_slot grow_directory new_entry scratched_disk check_disk check_directory check_slot check_entry entry_correct wrong_bits valid_type valid_name name_of
calls-hold = record {
  checks = refl;
  reads = refl;
  writes = refl;
  tells = refl;
  sleeves = refl;
}
