-- The rows of specs/LayoutRows and specs/TwoLayouts hold (02, §8): a layout that is wrong in one place, or numbered otherwise, is refused.
use mathlib.Core.Path.{◌≡◌, refl}
use mathlib.Core.Bool.{false}
use mathlib.Core.List.{[], ◌∷◌, ◌++◌, map}
use lib.ListN.{replicate}
use Rattle.d64spec.specs.Lists.{ascending, descending, part, zeros}
use Rattle.d64spec.specs.Answers.{first}
use Rattle.d64spec.specs.Geometry.{allocation_order, allocation_tracks, dolphin, first_on, layout35, layout40, on_disk, sector_number, sectors_of_track, sectors_on, speed_dos, total, tracks}
use Rattle.d64spec.specs.Layouts.{layout_numbered}
use Rattle.d64spec.specs.Image.{disk, image, put}
use Rattle.d64spec.specs.Chain.{decode_directory_link, decode_file_link, directory_link, file_link, link_to}
use Rattle.d64spec.specs.Directory.{directory_sectors, file_of, files, first_link, name_of, occupied, padded, slot_in, slots_in, valid_name, valid_type}
use Rattle.d64spec.specs.Owner.{claim_count, claim_list, claims_of, free_for_directory, free_for_files}
use Rattle.d64spec.specs.Bits.{bit_of, binary}
use Rattle.d64spec.specs.Map.{bitmap_byte, entry_correct, expected_bit, expected_entry, map_bit, map_ones, rewrite_map, wrong_bits}
use Rattle.d64spec.specs.Check.{check_directory, check_disk, check_entry, check_image, check_slot, right_size}
use Rattle.d64spec.specs.Reply.{files_named, reply, storable_kind, valid_name_argument, writable}
use Rattle.d64spec.specs.Format.{call_format, format_header, formatted_disk, formatted_map, free_after_format}
use Rattle.d64spec.specs.Read.{call_read, call_tell, no_information, tell_reply}
use Rattle.d64spec.specs.Store.{call_store, empty_slots, grow_directory, last_of, new_entry, overwrite_slot, placement, sectors_needed, slot_place_for, stored_disk, write_slot}
use Rattle.d64spec.specs.Scratch.{call_scratch, scratched_disk}
use Rattle.d64spec.specs.Call.{attempt, call_check, check, output_buffer, perform, scratch, store}
use Rattle.d64spec.specs.Listing.{call_listing, digit, disk_of_track18, free_total, head_frame, line, listing_output, listing_reply, listing_text, refusal_line, slot_frame}
use Rattle.d64spec.specs.Host.{answer_block, host_call, host_call_in, perform_in}
use Rattle.d64spec.specs.Examples.{house_tracks}
use Rattle.d64spec.specs.Trial.{name_a, name_b}
use Rattle.d64spec.specs.MapPlace.{each_named}
use Rattle.d64spec.specs.Edges.{bitmaps, formatted180_with, house_numbers, name16}
use Rattle.d64spec.specs.LayoutRows.{StartThere40, all_refused, behind_dolphin, behind_speed_dos, block_first, broken_layouts, extra_ones, first_two, has, has_in, named_extra, others_in, places_dolphin, places_speed_dos, replies_in, right_extra, rows35, rows40, sum_line, sum_of, wrong_extra}
use Rattle.d64spec.specs.TwoLayouts.{accepts, after_in, formatted_once, in_both, refuses36, says_in, small_dolphin, small_speed_dos, small_with, stored_in}

-- ---- the layouts

-- what 02, §8, says of each number
pub record LayoutsHold : Type 0 where
  pub zero : broken_layouts 0 rows35 ≡ []
  pub one : broken_layouts 1 (rows40 places_speed_dos) ≡ []
  pub two : broken_layouts 2 (rows40 places_dolphin) ≡ []

-- SECTORS, ZONES, HOUSE ORDER AND MAP PLACES of the three layouts
pub layouts-hold : LayoutsHold
unfolding broken_layouts has_in has rows35 rows40 layout_numbered house_tracks house_numbers sector_number on_disk layout35 layout40 speed_dos dolphin first_on sectors_on total tracks allocation_order allocation_tracks ascending descending sectors_of_track
layouts-hold = record { zero = refl; one = refl; two = refl }

-- WHERE 36/0 AND 40/16 START
pub starts-hold : StartThere40
unfolding disk
starts-hold = record { first36 = λ img. refl; last40 = λ img. refl }

-- THE BITS OF TRACKS 36 TO 40, all 24 of each, in both layouts: which sector each is, the ones counted, entries right and wrong, the sector that answer 8 names
pub record ExtraHold : Type 0 where
  pub speed_dos_bits : map (wrong_extra speed_dos 0xC0) bitmaps ≡ replicate 5 []
  pub dolphin_bits : map (wrong_extra dolphin 0xAC) bitmaps ≡ replicate 5 []
  pub speed_dos_ones : extra_ones speed_dos 0xC0 ≡ 0 ∷ 17 ∷ 17 ∷ 17 ∷ 17 ∷ 17 ∷ 0 ∷ []
  pub dolphin_ones : extra_ones dolphin 0xAC ≡ 0 ∷ 17 ∷ 17 ∷ 17 ∷ 17 ∷ 17 ∷ 0 ∷ []
  pub speed_dos_right : map (right_extra speed_dos 0xC0) (ascending 36 40) ≡ replicate 5 first_two
  pub dolphin_right : map (right_extra dolphin 0xAC) (ascending 36 40) ≡ replicate 5 first_two
  pub speed_dos_named : map (named_extra speed_dos 0xC0) (ascending 36 40) ≡ replicate 5 (each_named 17)
  pub dolphin_named : map (named_extra dolphin 0xAC) (ascending 36 40) ≡ replicate 5 (each_named 17)
  -- an entry at the other layout's place says nothing
  pub elsewhere : map (λ t. right_extra speed_dos 0xAC t ++ right_extra dolphin 0xC0 t) (ascending 36 40) ≡ replicate 5 (replicate 12 false)

pub extra-hold : ExtraHold
unfolding bitmaps wrong_extra extra_ones right_extra named_extra entry_correct wrong_bits map_bit map_ones bit_of sectors_on ascending layout40 speed_dos dolphin
extra-hold = record {
  speed_dos_bits = refl;
  dolphin_bits = refl;
  speed_dos_ones = refl;
  dolphin_ones = refl;
  speed_dos_right = refl;
  dolphin_right = refl;
  speed_dos_named = refl;
  dolphin_named = refl;
  elsewhere = refl;
}

-- ---- a formatted disk

-- every byte of 18/0, and the sum of the listing: 749 is 02ED, 664 is 0298; an entry of the other layout counts nothing
pub record Formatted40 : Type 0 where
  pub speed_dos_bytes : formatted_disk speed_dos name16 0xFF 0x80 357 ≡ formatted180_with behind_speed_dos
  pub dolphin_bytes : formatted_disk dolphin name16 0xFF 0x80 357 ≡ formatted180_with behind_dolphin
  pub sums : map (λ g. sum_of g behind_speed_dos) (layout35 ∷ speed_dos ∷ dolphin ∷ []) ≡ 664 ∷ 749 ∷ 664 ∷ []
  pub other_sums : map (λ g. sum_of g behind_dolphin) (layout35 ∷ speed_dos ∷ dolphin ∷ []) ≡ 664 ∷ 664 ∷ 749 ∷ []
  pub lines : map sum_line (layout35 ∷ speed_dos ∷ dolphin ∷ [])
      ≡ (0x30 ∷ 0x32 ∷ 0x39 ∷ 0x38 ∷ 0x0A ∷ []) ∷ (0x30 ∷ 0x32 ∷ 0x45 ∷ 0x44 ∷ 0x0A ∷ []) ∷ (0x30 ∷ 0x32 ∷ 0x45 ∷ 0x44 ∷ 0x0A ∷ []) ∷ []

pub formatted-40 : Formatted40
unfolding formatted180_with sum_of sum_line formatted_disk formatted_map format_header free_after_format padded expected_entry expected_bit bitmap_byte binary map_bit bit_of ascending sector_number first_on sectors_on tracks put layout35 layout40 speed_dos dolphin call_listing listing_output listing_text head_frame slot_frame line digit free_total disk_of_track18 disk refusal_line check_directory check_entry link_to directory_link decode_directory_link on_disk total slot_in slots_in valid_type valid_name name_of
formatted-40 = record { speed_dos_bytes = refl; dolphin_bytes = refl; sums = refl; other_sums = refl; lines = refl }

-- ---- calls that name any number

-- on an image of no bytes, with wrong arguments
pub record NumbersHold : Type 0 where
  pub known : map (λ n. replies_in n (replicate 9 0xEE)) (0 ∷ 1 ∷ 2 ∷ []) ≡ replicate 3 (all_refused 1)
  pub unknown : map (λ n. replies_in n (replicate 9 0xEE)) (3 ∷ 4 ∷ 35 ∷ 40 ∷ 255 ∷ 256 ∷ 257 ∷ 4294967295 ∷ []) ≡ replicate 8 (all_refused 17)
  pub block : map (λ n. replies_in n (replicate 8 0xEE)) (0 ∷ 3 ∷ 4294967295 ∷ []) ≡ replicate 3 block_first
  pub others : map others_in (0 ∷ 1 ∷ 2 ∷ 3 ∷ 256 ∷ 4294967295 ∷ [])
      ≡ replicate 3 ((1 ∷ 0 ∷ 0 ∷ 255 ∷ []) ∷ (1 ∷ 0 ∷ 0 ∷ 255 ∷ []) ∷ []) ++ replicate 3 ((17 ∷ 0 ∷ 0 ∷ 255 ∷ []) ∷ (17 ∷ 0 ∷ 0 ∷ 255 ∷ []) ∷ [])

-- ANY OTHER NUMBER GIVES 17, before 1, 9 and 10 and behind the block's 16
pub numbers-hold : NumbersHold
unfolding replies_in others_in host_call_in perform_in layout_numbered reply attempt output_buffer answer_block call_check check_image right_size call_format call_read call_store call_scratch call_tell tell_reply no_information call_listing listing_reply total sectors_on layout35 layout40 speed_dos dolphin
numbers-hold = record { known = refl; unknown = refl; block = refl; others = refl }

-- ---- two layouts that share a size and not a map

-- what the calls give
pub record TwoHold : Type 0 where
  -- a format in one layout leaves the other's entry 0
  pub once : says_in small_speed_dos formatted_once check ≡ accepts
  pub not_twice : says_in small_dolphin formatted_once check ≡ refuses36
  -- with both entries right, the image is accepted in both
  pub first : says_in small_speed_dos in_both check ≡ accepts
  pub second : says_in small_dolphin in_both check ≡ accepts
  -- AFTER A STORE IN ONE IT IS ACCEPTED IN THAT ONE ALONE: the other's entry still says that 36/0 is free
  pub stored_first : map (λ g. says_in g (stored_in small_speed_dos) check) (small_speed_dos ∷ small_dolphin ∷ []) ≡ accepts ∷ refuses36 ∷ []
  pub stored_second : map (λ g. says_in g (stored_in small_dolphin) check) (small_speed_dos ∷ small_dolphin ∷ []) ≡ refuses36 ∷ accepts ∷ []
  pub entries_first : part 0xAC 0xC3 (stored_in small_speed_dos) ≡ 4 ∷ 0x0F ∷ 0x00 ∷ 0x00 ∷ (zeros 16 ++ (3 ∷ 0x0E ∷ 0x00 ∷ 0x00 ∷ []))
  pub entries_second : part 0xAC 0xC3 (stored_in small_dolphin) ≡ 3 ∷ 0x0E ∷ 0x00 ∷ 0x00 ∷ (zeros 16 ++ (4 ∷ 0x0F ∷ 0x00 ∷ 0x00 ∷ []))
  -- a call that names the other layout is refused so, and changes nothing
  pub refused_store : says_in small_dolphin (stored_in small_speed_dos) (store name_b 1 []) ≡ refuses36
  pub refused_scratch : says_in small_dolphin (stored_in small_speed_dos) (scratch name_a) ≡ refuses36

pub two-layouts : TwoHold
unfolding after_in says_in formatted_once in_both stored_in small_speed_dos small_dolphin small_with host_call perform reply attempt output_buffer answer_block call_check call_format call_store call_scratch check_image right_size valid_name_argument storable_kind writable files_named image disk put first sector_number on_disk first_on sectors_on total tracks map_ones map_bit bit_of sectors_needed allocation_order allocation_tracks ascending descending sectors_of_track last_of formatted_disk formatted_map format_header free_after_format padded expected_entry expected_bit bitmap_byte binary rewrite_map claim_count claim_list claims_of directory_sectors files occupied file_of slot_in slots_in first_link link_to file_link directory_link decode_file_link decode_directory_link free_for_files free_for_directory empty_slots slot_place_for placement stored_disk write_slot overwrite_slot grow_directory new_entry scratched_disk check_disk check_directory check_slot check_entry entry_correct wrong_bits valid_type valid_name name_of
two-layouts = record {
  once = refl;
  not_twice = refl;
  first = refl;
  second = refl;
  stored_first = refl;
  stored_second = refl;
  entries_first = refl;
  entries_second = refl;
  refused_store = refl;
  refused_scratch = refl;
}
