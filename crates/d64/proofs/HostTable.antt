-- Tell and the listing as host calls, computed: the one place that says their bytes and the order of their refusals apart from the definitions
-- (01, Tell; Host calls; Sleeve listing; 02, §8). In order: tell's 25 bytes; both calls on the small disk of d64spec's specs/Trial; the number of a layout.
use Prim.Native.Nat.{ℕ}
use mathlib.Core.Path.{◌≡◌, refl}
use mathlib.Core.List.{[], ◌∷◌, ◌++◌, map}
use lib.ListN.{drop, replicate, take}
use Rattle.d64spec.specs.Lists.{ascending, Bytes, descending, range, zeros}
use Rattle.d64spec.specs.Answers.{first}
use Rattle.d64spec.specs.Geometry.{Geometry, layout35, layout40, speed_dos, dolphin, allocation_order, allocation_tracks, first_on, on_disk, sector_number}
use Rattle.d64spec.specs.Geometry.{sectors_of_track, sectors_on, total, tracks}
use Rattle.d64spec.specs.Image.{disk, image, put}
use Rattle.d64spec.specs.Chain.{decode_directory_link, decode_file_link, directory_link, file_link, link_to}
use Rattle.d64spec.specs.Directory.{directory_sectors, file_of, files, first_link, name_of, occupied, padded, slot_in, slots_in, valid_name, valid_type}
use Rattle.d64spec.specs.Owner.{claim_count, claim_list, claims_of, free_for_directory, free_for_files}
use Rattle.d64spec.specs.Bits.{bit_of, binary}
use Rattle.d64spec.specs.Map.{bitmap_byte, entry_correct, expected_bit, expected_entry, map_bit, map_ones, rewrite_map, wrong_bits}
use Rattle.d64spec.specs.Check.{check_directory, check_disk, check_entry, check_image, check_slot, right_size}
use Rattle.d64spec.specs.Reply.{files_named, reply, storable_kind, valid_name_argument, writable}
use Rattle.d64spec.specs.Format.{call_format, format_header, formatted_disk, formatted_map, free_after_format}
use Rattle.d64spec.specs.Read.{call_tell}
use Rattle.d64spec.specs.Store.{call_store, empty_slots, grow_directory, last_of, new_entry, overwrite_slot, placement, sectors_needed, slot_place_for}
use Rattle.d64spec.specs.Store.{stored_disk, write_slot}
use Rattle.d64spec.specs.Call.{attempt, output_buffer, perform}
use Rattle.d64spec.specs.Listing.{call_listing, digit, disk_of_track18, free_total, head_frame, line, listing_text, slot_frame}
use Rattle.d64spec.specs.Layouts.{layout_numbered}
use Rattle.d64spec.specs.Host.{answer_block, host_call}
use Rattle.d64spec.specs.Trial.{after_call, fresh_image, image_with_a, lent, name_a, sent, small_layout}
use Rattle.d64spec.specs.Host.{HostReply}
use Rattle.d64.specs.HostForms.{entry_bytes, host_form, host_listing_in, host_tell_in, list_into, tell_into}

-- TELL'S 25 BYTES: type, name, first track and sector, then count and length, low byte first. With 40 tracks a file of 749 sectors ($2ED) may have
-- 190,246 bytes ($2E726)
pub entry-computed :
    entry_bytes (record { type_byte = 0xC2; name_bytes = range 0x41 16; first_track = 17; first_sector = 4; sector_count = 749; byte_length = 190246 })
    ≡ 0xC2 ∷ (range 0x41 16 ++ (17 ∷ 4 ∷ 0xED ∷ 0x02 ∷ 0x26 ∷ 0xE7 ∷ 0x02 ∷ 0x00 ∷ []))
unfolding entry_bytes
entry-computed = refl

-- ---- the small disk, which holds A, PRG, 300 bytes in 19/0 and 19/1

-- what the host sees: the number, the answer block, the output
abbrev seen : HostReply → Bytes
seen r = r.number ∷ (r.block_after ++ r.output_after)

-- a refusal without a place
abbrev unplaced_block : Bytes
unplaced_block = 0 ∷ 0 ∷ 255 ∷ zeros 6

-- both calls in any layout
abbrev host_tell : Geometry → Bytes → Bytes → ℕ → Bytes → HostReply
host_tell g img block position entry = host_form img entry block (tell_into g img position entry)

abbrev host_listing : Geometry → Bytes → Bytes → Bytes → HostReply
host_listing g b block text = host_form b text block (list_into g b text)

-- TELL: done, with the rest of the entry as it was, and with no rest; 13 before 16; 16 for a short entry; 16 for the block before all
pub tells-computed : map seen
    (host_tell small_layout image_with_a (lent 9) 0 (lent 27)
    ∷ host_tell small_layout image_with_a (lent 9) 0 (lent 25)
    ∷ host_tell small_layout image_with_a (lent 9) 1 (lent 24)
    ∷ host_tell small_layout image_with_a (lent 9) 0 (lent 24)
    ∷ host_tell small_layout [] (lent 9) 0 (lent 24)
    ∷ host_tell small_layout [] (lent 8) 0 (lent 24)
    ∷ [])
    ≡ (0 ∷ (unplaced_block ++ (0x82 ∷ (name_a ++ (replicate 15 0xA0 ++ (19 ∷ 0 ∷ 2 ∷ 0 ∷ 44 ∷ 1 ∷ 0 ∷ 0 ∷ lent 2))))))
    ∷ (0 ∷ (unplaced_block ++ (0x82 ∷ (name_a ++ (replicate 15 0xA0 ++ (19 ∷ 0 ∷ 2 ∷ 0 ∷ 44 ∷ 1 ∷ 0 ∷ 0 ∷ []))))))
    ∷ (13 ∷ (unplaced_block ++ lent 24))
    ∷ (16 ∷ (unplaced_block ++ lent 24))
    ∷ (1 ∷ (unplaced_block ++ lent 24))
    ∷ (16 ∷ (lent 8 ++ lent 24))
    ∷ []
unfolding host_form tell_into entry_bytes fresh_image image_with_a after_call sent small_layout host_call perform reply attempt output_buffer answer_block call_format call_store call_tell check_image right_size valid_name_argument storable_kind writable files_named image disk put first sector_number on_disk first_on sectors_on total tracks map_ones map_bit bit_of sectors_needed allocation_order allocation_tracks ascending descending sectors_of_track last_of formatted_disk formatted_map format_header free_after_format padded expected_entry expected_bit bitmap_byte binary rewrite_map claim_count claim_list claims_of directory_sectors files occupied file_of slot_in slots_in first_link link_to file_link directory_link decode_file_link decode_directory_link free_for_files free_for_directory empty_slots slot_place_for placement stored_disk write_slot overwrite_slot grow_directory new_entry check_disk check_directory check_slot check_entry entry_correct wrong_bits valid_type valid_name name_of
tells-computed = refl

-- LISTING: done, with the length of its 85 bytes and no sectors, and the rest of the text as it was, and with no rest; 16 for a short text;
-- 1 before 16; 16 for the block before all
pub listings-computed : map (λ r. r.number ∷ (r.block_after ++ drop 85 r.output_after))
    (host_listing small_layout (take 768 image_with_a) (lent 9) (lent 87)
    ∷ host_listing small_layout (take 768 image_with_a) (lent 9) (lent 85)
    ∷ host_listing small_layout (take 768 image_with_a) (lent 9) (lent 84)
    ∷ host_listing small_layout (take 767 image_with_a) (lent 9) (lent 84)
    ∷ host_listing small_layout (take 767 image_with_a) (lent 10) (lent 84)
    ∷ [])
    ≡ (0 ∷ 0 ∷ 0 ∷ 255 ∷ 85 ∷ (zeros 5 ++ lent 2))
    ∷ (0 ∷ 0 ∷ 0 ∷ 255 ∷ 85 ∷ zeros 5)
    ∷ (16 ∷ unplaced_block)
    ∷ (1 ∷ unplaced_block)
    ∷ (16 ∷ lent 10)
    ∷ []
unfolding host_form list_into call_listing listing_text head_frame slot_frame line digit free_total disk_of_track18 fresh_image image_with_a after_call sent small_layout host_call perform reply attempt output_buffer answer_block call_format call_store check_image right_size valid_name_argument storable_kind writable files_named image disk put first sector_number on_disk first_on sectors_on total tracks map_ones map_bit bit_of sectors_needed allocation_order allocation_tracks ascending descending sectors_of_track last_of formatted_disk formatted_map format_header free_after_format padded expected_entry expected_bit bitmap_byte binary rewrite_map claim_count claim_list claims_of directory_sectors files occupied file_of slot_in slots_in first_link link_to file_link directory_link decode_file_link decode_directory_link free_for_files free_for_directory empty_slots slot_place_for placement stored_disk write_slot overwrite_slot grow_directory new_entry check_disk check_directory check_slot check_entry entry_correct wrong_bits valid_type valid_name name_of
listings-computed = refl

-- ---- the number of a layout (02, §8)

-- 17 behind the block's 16 and before all else; 0, 1 and 2 name a layout, and the size is asked next
pub layouts-computed : map seen
    (host_tell_in 3 [] (lent 9) 0 (lent 24)
    ∷ host_tell_in 3 [] (lent 8) 0 (lent 24)
    ∷ host_tell_in 2 [] (lent 9) 0 (lent 24)
    ∷ host_tell_in 1 [] (lent 9) 0 (lent 24)
    ∷ host_tell_in 0 [] (lent 9) 0 (lent 24)
    ∷ host_listing_in 3 [] (lent 9) (lent 24)
    ∷ host_listing_in 3 [] (lent 8) (lent 24)
    ∷ host_listing_in 2 [] (lent 9) (lent 24)
    ∷ [])
    ≡ (17 ∷ (unplaced_block ++ lent 24))
    ∷ (16 ∷ (lent 8 ++ lent 24))
    ∷ (1 ∷ (unplaced_block ++ lent 24))
    ∷ (1 ∷ (unplaced_block ++ lent 24))
    ∷ (1 ∷ (unplaced_block ++ lent 24))
    ∷ (17 ∷ (unplaced_block ++ lent 24))
    ∷ (16 ∷ (lent 8 ++ lent 24))
    ∷ (1 ∷ (unplaced_block ++ lent 24))
    ∷ []
unfolding host_tell_in host_listing_in host_form tell_into list_into layout_numbered layout35 speed_dos dolphin layout40 reply answer_block call_tell call_listing check_image right_size sectors_on total
layouts-computed = refl
