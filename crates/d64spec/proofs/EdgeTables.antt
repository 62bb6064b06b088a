-- The rows of specs/Edges hold: what the worked examples do not reach, computed, so that a definition that is wrong only there is refused.
use Prim.Native.Nat.{ℕ, ◌*◌}
use mathlib.Core.Path.{◌≡◌, refl}
use mathlib.Core.List.{[], ◌∷◌, ◌++◌, map}
use lib.ListN.{drop, replicate, take}
use Rattle.d64spec.specs.Lists.{ascending, descending, join, range, zeros}
use Rattle.d64spec.specs.Answers.{answer_of, first}
use Rattle.d64spec.specs.Geometry.{allocation_order, allocation_tracks, first_on, layout35, on_disk, sector_number, sectors_of_track, sectors_on, total, tracks}
use Rattle.d64spec.specs.Image.{disk, image, put}
use Rattle.d64spec.specs.Chain.{decode_directory_link, decode_file_link, directory_link, file_link, link_to}
use Rattle.d64spec.specs.Directory.{directory_sectors, file_of, files, first_link, name_of, occupied, padded, plain_entry_of, plain_list, slot_in, slots_in, valid_name, valid_type}
use Rattle.d64spec.specs.Owner.{claim_count, claim_list, claims_of, free_for_directory, free_for_files}
use Rattle.d64spec.specs.Bits.{bit_of, binary}
use Rattle.d64spec.specs.Map.{bitmap_byte, entry_correct, expected_bit, expected_entry, map_bit, map_ones, rewrite_map, wrong_bits}
use Rattle.d64spec.specs.Check.{check_directory, check_disk, check_entry, check_image, check_slot, right_size}
use Rattle.d64spec.specs.Reply.{files_named, reply, storable_kind, valid_name_argument, writable}
use Rattle.d64spec.specs.Format.{call_format, format_header, formatted_disk, formatted_map, free_after_format}
use Rattle.d64spec.specs.Read.{call_read, call_tell, no_information, tell_reply}
use Rattle.d64spec.specs.Store.{call_store, empty_slots, grow_directory, last_of, new_entry, overwrite_slot, placement, sectors_needed, slot_place_for, stored_disk, write_slot}
use Rattle.d64spec.specs.Scratch.{call_scratch, scratched_disk}
use Rattle.d64spec.specs.Call.{attempt, call_check, check, format, output_buffer, perform, read, scratch, store}
use Rattle.d64spec.specs.Listing.{bytes_of_track18, call_listing, digit, disk_of_track18, free_total, head_frame, line, listing_output, listing_reply, listing_text, refusal_line, sleeve_output, slot_frame}
use Rattle.d64spec.specs.Host.{answer_block, host_call}
use Rattle.d64spec.specs.Run.{run}
use Rattle.d64spec.specs.Trial.{after_call, answer_bytes, entry_on19, fields_of, fresh_image, head_of_d, image_with_a, image_with_ab, image_with_eight, lent, lent_block, name_a, name_b, requests, sent, small_layout, with_ends}
use Rattle.d64spec.specs.Edges.{answers_at, bitmaps, dirty_hole, faults_at, filled_hole, first_and_last, formatted180, formatted180_with, hole_filled, house_numbers, longer_numbers, many_free, name16, on_track18, same_bitmaps, sent600, shown_faults, written_part, wrong_tracks}
use Rattle.d64spec.specs.SpareBits.{broken_entries, entries_after, entry_holds, spare_disk, spare_eight, spare_full, zone_rows}
use Rattle.d64spec.specs.MapPlace.{broken_places, each_named, named_alone, place_holds, place_rows}
use Rattle.d64spec.specs.Retired.{numbers, prg_c, retiring, sparing, usr_a, usr_b, usr_disk, usr_lines}

-- DOCUMENT 01'S TABLE OF ANSWERS, for every place
pub answers-are : (t s n : ℕ) → map (λ f. answer_bytes (answer_of f)) (faults_at t s n) ≡ answers_at t s n
answers-are t s n = refl

-- HOUSE ORDER, sector by sector
pub house-numbers : map (sector_number layout35) (allocation_order layout35) ≡ house_numbers
unfolding house_numbers allocation_order allocation_tracks sectors_of_track sectors_on sector_number first_on ascending descending tracks layout35
house-numbers = refl

-- track 18's sectors are 357 to 375
pub numbers-of-18 : map (sector_number layout35) (sectors_of_track layout35 18) ≡ ascending 357 375
unfolding sectors_of_track sectors_on sector_number first_on ascending layout35
numbers-of-18 = refl

-- TRACK t HAS FOUR BYTES AT 4t
pub map-at35 : (t : ℕ) → layout35.map_at t ≡ 4 * t
unfolding layout35
map-at35 t = refl

-- THE BIT OF EACH SECTOR: all 24 bits of the entries of all 35 tracks
pub bits_are : map wrong_tracks bitmaps ≡ replicate 5 []
unfolding bitmaps wrong_tracks same_bitmaps map_bit bit_of ascending layout35
bits_are = refl

-- THE ONES among a track's own sectors, where all 24 bits are 1; tracks 0 and 36, where a sector of such bytes has some too, have none (02, §4)
pub ones-are : map (map_ones layout35 (join (replicate 37 (85 ∷ replicate 3 0xFF)))) (ascending 0 36)
    ≡ 0 ∷ replicate 17 21 ++ (replicate 7 19 ++ (replicate 6 18 ++ (replicate 5 17 ++ (0 ∷ []))))
unfolding map_ones map_bit bit_of sectors_on ascending layout35
ones-are = refl

-- the same where half of the bits or fewer are 1, on a track of 21, 19, 18 and 17 sectors (02, §4)
pub halves_are : map (λ b. map (map_ones layout35 (same_bitmaps b)) (1 ∷ 18 ∷ 25 ∷ 31 ∷ []))
    ((0xAA ∷ 0xAA ∷ 0xAA ∷ []) ∷ (0xCC ∷ 0xCC ∷ 0xCC ∷ []) ∷ (0xF0 ∷ 0xF0 ∷ 0xF0 ∷ []) ∷ (0x00 ∷ 0xFF ∷ 0x00 ∷ []) ∷ (0x00 ∷ 0x00 ∷ 0xFF ∷ []) ∷ [])
    ≡ (10 ∷ 9 ∷ 9 ∷ 8 ∷ []) ∷ (10 ∷ 9 ∷ 8 ∷ 8 ∷ []) ∷ (9 ∷ 8 ∷ 8 ∷ 8 ∷ []) ∷ (8 ∷ 8 ∷ 8 ∷ 8 ∷ []) ∷ (5 ∷ 3 ∷ 2 ∷ 1 ∷ []) ∷ []
unfolding same_bitmaps map_ones map_bit bit_of sectors_on layout35
halves_are = refl

-- BITS PAST A TRACK'S LAST SECTOR, in each zone (02, §5)
pub zones-are : broken_entries zone_rows ≡ []
unfolding zone_rows entry_holds entry_correct wrong_bits map_ones map_bit bit_of expected_entry expected_bit bitmap_byte binary sectors_on layout35
zones-are = refl

-- THE SECTOR THAT ANSWER 8 NAMES, in each zone (02, §3)
pub places-are : broken_places place_rows ≡ []
unfolding place_rows place_holds wrong_bits map_bit bit_of sectors_on layout35
places-are = refl

-- EACH BIT OF EACH TRACK ALONE: 24 bits of 35 tracks
pub alone-are : map named_alone (ascending 1 35)
    ≡ replicate 17 (each_named 21) ++ (replicate 7 (each_named 19) ++ (replicate 6 (each_named 18) ++ replicate 5 (each_named 17)))
unfolding named_alone wrong_bits map_bit bit_of sectors_on ascending layout35
alone-are = refl

-- EVERY BYTE OF 18/0 after a format
pub formatted-180 : formatted_disk layout35 name16 0xFF 0x80 357 ≡ formatted180
unfolding formatted180_with formatted_disk formatted_map format_header free_after_format padded expected_entry expected_bit bitmap_byte binary map_bit bit_of ascending sector_number first_on sectors_on tracks put layout35
formatted-180 = refl

-- ---- calls on the small disk

-- what they give
pub record EdgesHold : Type 0 where
  -- tell gives the type byte as it stands, of USR files too (02, §12): A's is locked
  pub usr_told : map (λ p. fields_of (tell_reply (call_tell small_layout usr_disk p))) (0 ∷ 1 ∷ [])
      ≡ (0 ∷ 0 ∷ 0 ∷ 255 ∷ 0xC3 ∷ (name_a ++ (replicate 15 0xA0 ++ (19 ∷ 0 ∷ 2 ∷ 300 ∷ []))))
      ∷ (0 ∷ 0 ∷ 0 ∷ 255 ∷ 0x83 ∷ (name_b ++ (replicate 15 0xA0 ++ (19 ∷ 2 ∷ 1 ∷ 10 ∷ [])))) ∷ []
  -- USR files are listed and read
  pub usr_listed : sleeve_output small_layout usr_disk ≡ head_of_d ++ (usr_lines ++ (0x30 ∷ 0x30 ∷ 0x30 ∷ 0x37 ∷ 0x0A ∷ []))
  pub usr_read : (host_call small_layout usr_disk lent_block (read name_b (lent 12))).output_after ≡ range 1 10 ++ lent 2
  -- no store makes one; they stay until they are scratched, and 19/0 and 19/1 are zeros then
  pub usr_numbers : numbers small_layout usr_disk (sparing ++ retiring) ≡ 10 ∷ 10 ∷ 12 ∷ 0 ∷ 0 ∷ 0 ∷ 0 ∷ 10 ∷ []
  pub usr_spared : plain_list small_layout (disk (run small_layout usr_disk sparing)) ≡ usr_a ∷ usr_b ∷ prg_c ∷ []
  pub usr_scratched : plain_list small_layout (disk (run small_layout usr_disk (sparing ++ retiring))) ≡ usr_b ∷ prg_c ∷ []
  pub usr_cleared : take 512 (drop 768 (run small_layout usr_disk (sparing ++ retiring))) ≡ zeros 512
  -- bits past a track's last sector (02, §5): B is stored in 19/2, and A in 19/0 and 19/1 scratched; a format clears them; the directory grows
  pub spare_stored : entries_after spare_disk (store name_b 1 (7 ∷ []) ∷ []) ≡ 1 ∷ 0xAC ∷ 0x5A ∷ 0xC3 ∷ 7 ∷ 0xF8 ∷ 0x57 ∷ 0x99 ∷ []
  pub spare_scratched : entries_after spare_disk (store name_b 1 (7 ∷ []) ∷ scratch name_a ∷ []) ≡ 1 ∷ 0xAC ∷ 0x5A ∷ 0xC3 ∷ 9 ∷ 0xFB ∷ 0x57 ∷ 0x99 ∷ []
  pub spare_formatted : entries_after spare_disk (format name_a 1 2 ∷ []) ≡ 1 ∷ 0x04 ∷ 0x00 ∷ 0x00 ∷ 10 ∷ 0xFF ∷ 0x03 ∷ 0x00 ∷ []
  pub spare_grown : entries_after spare_eight (store name_a 2 sent ∷ []) ≡ 0 ∷ 0xA8 ∷ 0x5A ∷ 0xC3 ∷ 0 ∷ 0x00 ∷ 0x54 ∷ 0x99 ∷ []
  -- and they are no room: the disk is full, or the directory is
  pub spare_numbers : numbers small_layout spare_eight (requests (check ∷ store name_a 2 sent ∷ store name_b 1 [] ∷ check ∷ [])) ≡ 0 ∷ 0 ∷ 15 ∷ 0 ∷ []
  pub spare_no_slot : numbers small_layout spare_full (requests (check ∷ store name_a 1 [] ∷ [])) ≡ 0 ∷ 14 ∷ []
  -- a file on track 18 is read, and no byte behind its last
  pub on18 : (host_call small_layout on_track18 lent_block (read name_a (replicate 257 7))).output_after ≡ range 2 254 ++ (100 ∷ 7 ∷ 7 ∷ [])
  -- freed sectors are used again by the same rule, whatever they hold; bytes 00-01 of a slot stay, and so does all that is free
  pub hole : written_part filled_hole ≡ hole_filled
  -- every call on an image that is longer gives 1
  pub longer : longer_numbers ≡ replicate 7 1
  -- the listing gives the disk name and the ids as they stand, F0F1 .. FEFF and FF80, and the sum in two bytes, 10F7
  pub ends : first_and_last (sleeve_output small_layout many_free)
      ≡ join (map (λ c. 0x46 ∷ c ∷ []) (range 0x30 10 ++ range 0x41 6)) ++ (0x46 ∷ 0x46 ∷ 0x38 ∷ 0x30 ∷ 0x0A ∷ 0x31 ∷ 0x30 ∷ 0x46 ∷ 0x37 ∷ 0x0A ∷ [])
  -- the faults that track 18 shows: 02, 04, 05, 06
  pub shown : map (sleeve_output small_layout) shown_faults
      ≡ (0x30 ∷ 0x32 ∷ 0x0A ∷ []) ∷ (0x30 ∷ 0x34 ∷ 0x0A ∷ []) ∷ (0x30 ∷ 0x35 ∷ 0x0A ∷ []) ∷ (0x30 ∷ 0x36 ∷ 0x0A ∷ []) ∷ []

-- WHAT NO EXAMPLE REACHES, on a small disk
pub edges-hold : EdgesHold
unfolding spare_disk spare_eight spare_full image_with_eight entry_on19 with_ends usr_disk plain_list plain_entry_of on_track18 written_part filled_hole hole_filled dirty_hole sent600 longer_numbers many_free first_and_last shown_faults call_listing listing_text head_frame slot_frame line digit free_total disk_of_track18 listing_reply sleeve_output bytes_of_track18 listing_output refusal_line after_call fresh_image image_with_a image_with_ab sent small_layout fields_of host_call perform reply attempt output_buffer answer_block call_check call_format call_read call_store call_scratch call_tell tell_reply no_information check_image right_size valid_name_argument storable_kind writable files_named image disk put first sector_number on_disk first_on sectors_on total tracks map_ones map_bit bit_of sectors_needed allocation_order allocation_tracks ascending descending sectors_of_track last_of formatted_disk formatted_map format_header free_after_format padded expected_entry expected_bit bitmap_byte binary rewrite_map claim_count claim_list claims_of directory_sectors files occupied file_of slot_in slots_in first_link link_to file_link directory_link decode_file_link decode_directory_link free_for_files free_for_directory empty_slots slot_place_for placement stored_disk write_slot overwrite_slot grow_directory new_entry scratched_disk check_disk check_directory check_slot check_entry entry_correct wrong_bits valid_type valid_name name_of
edges-hold = record {
  usr_told = refl;
  usr_listed = refl;
  usr_read = refl;
  usr_numbers = refl;
  usr_spared = refl;
  usr_scratched = refl;
  usr_cleared = refl;
  spare_stored = refl;
  spare_scratched = refl;
  spare_formatted = refl;
  spare_grown = refl;
  spare_numbers = refl;
  spare_no_slot = refl;
  on18 = refl;
  hole = refl;
  longer = refl;
  ends = refl;
  shown = refl;
}
