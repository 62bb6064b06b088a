-- Document 01's order, computed on images with two faults: one statement over the tables of specs/TwoFaults. Where two tests are swapped in a call and in its
-- conditions (specs/Order) alike, every theorem still holds, and a table here does not: the check names it.
use mathlib.Core.Path.{◌≡◌, refl}
use mathlib.Core.List.{[]}
use Rattle.d64spec.specs.Lists.{ascending, descending}
use Rattle.d64spec.specs.Answers.{first}
use Rattle.d64spec.specs.Geometry.{allocation_order, allocation_tracks, first_on, on_disk, sector_number, sectors_of_track, sectors_on, total, tracks}
use Rattle.d64spec.specs.Image.{disk, image, put}
use Rattle.d64spec.specs.Chain.{decode_directory_link, decode_file_link, directory_link, file_link, link_to}
use Rattle.d64spec.specs.Directory.{directory_sectors, file_of, files, first_link, name_of, occupied, padded, slot_in, slots_in, valid_name, valid_type}
use Rattle.d64spec.specs.Owner.{claim_count, claim_list, claims_of, free_for_directory, free_for_files}
use Rattle.d64spec.specs.Bits.{bit_of, binary}
use Rattle.d64spec.specs.Map.{bitmap_byte, entry_correct, expected_bit, expected_entry, map_bit, map_ones, rewrite_map, wrong_bits}
use Rattle.d64spec.specs.Check.{check_directory, check_disk, check_entry, check_image, check_slot, right_size}
use Rattle.d64spec.specs.Reply.{files_named, reply, storable_kind, valid_name_argument, writable}
use Rattle.d64spec.specs.Format.{call_format, format_header, formatted_disk, formatted_map, free_after_format}
use Rattle.d64spec.specs.Read.{call_read, call_tell, no_information, tell_reply}
use Rattle.d64spec.specs.Store.{call_store, empty_slots, grow_directory, last_of, new_entry, overwrite_slot, placement, sectors_needed, slot_place_for, stored_disk, write_slot}
use Rattle.d64spec.specs.Scratch.{call_scratch, scratched_disk}
use Rattle.d64spec.specs.Call.{attempt, call_check, output_buffer, perform}
use Rattle.d64spec.specs.Listing.{call_listing, digit, disk_of_track18, free_total, head_frame, line, listing_reply, listing_text, slot_frame}
use Rattle.d64spec.specs.Host.{answer_block, host_call}
use Rattle.d64spec.specs.Trial.{entry_on19, fields_of, small_layout}
use Rattle.d64spec.specs.TwoFaults.{alone_rows, broken_faults, check_pairs, fault_holds, format_pairs, listing_pairs, read_pairs, scratch_pairs, sound, spoil, store_pairs, tell_pairs}

-- each fault alone, and the neighbouring pairs of each call's order
pub record PairsHold : Type 0 where
  pub alone : broken_faults alone_rows ≡ []
  pub checks : broken_faults check_pairs ≡ []
  pub formats : broken_faults format_pairs ≡ []
  pub reads : broken_faults read_pairs ≡ []
  pub stores : broken_faults store_pairs ≡ []
  pub scratches : broken_faults scratch_pairs ≡ []
  pub tells : broken_faults tell_pairs ≡ []
  pub listings : broken_faults listing_pairs ≡ []

-- OF TWO FAULTS, DOCUMENT 01'S FIRST: every neighbouring pair of every call
pub pairs-hold : PairsHold
unfolding alone_rows check_pairs format_pairs read_pairs store_pairs scratch_pairs tell_pairs listing_pairs fault_holds spoil sound listing_reply call_listing listing_text head_frame slot_frame line digit free_total disk_of_track18 entry_on19 small_layout fields_of host_call perform reply attempt output_buffer answer_block call_check call_format call_read call_store call_scratch call_tell tell_reply no_information check_image right_size valid_name_argument storable_kind writable files_named image disk put first sector_number on_disk first_on sectors_on total tracks map_ones map_bit bit_of sectors_needed allocation_order allocation_tracks ascending descending sectors_of_track last_of formatted_disk formatted_map format_header free_after_format padded expected_entry expected_bit bitmap_byte binary rewrite_map claim_count claim_list claims_of directory_sectors files occupied file_of slot_in slots_in first_link link_to file_link directory_link decode_file_link decode_directory_link free_for_files free_for_directory empty_slots slot_place_for placement stored_disk write_slot overwrite_slot grow_directory new_entry scratched_disk check_disk check_directory check_slot check_entry entry_correct wrong_bits valid_type valid_name name_of
pairs-hold = record {
  alone = refl;
  checks = refl;
  formats = refl;
  reads = refl;
  stores = refl;
  scratches = refl;
  tells = refl;
  listings = refl;
}
