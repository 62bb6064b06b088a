-- The numbers of the owner table, computed on a small disk of d64spec's specs/Trial: the one place that says them apart from the definitions.
use mathlib.Core.Path.{◌≡◌, refl}
use mathlib.Core.List.{◌∷◌}
use Rattle.d64spec.specs.Lists.{ascending, descending, zeros}
use Rattle.d64spec.specs.Answers.{first}
use Rattle.d64spec.specs.Geometry.{allocation_order, allocation_tracks, first_on, on_disk, sector_number, sectors_of_track, sectors_on, total, tracks}
use Rattle.d64spec.specs.Image.{Disk, disk, image, put}
use Rattle.d64spec.specs.Chain.{decode_directory_link, decode_file_link, directory_link, file_link, link_to}
use Rattle.d64spec.specs.Directory.{directory_sectors, file_of, files, first_link, name_of, occupied, padded, slot_in, slots_in, valid_name, valid_type}
use Rattle.d64spec.specs.Owner.{claim_count, claim_list, claims_of, free_for_directory, free_for_files}
use Rattle.d64spec.specs.Bits.{bit_of, binary}
use Rattle.d64spec.specs.Map.{bitmap_byte, entry_correct, expected_bit, expected_entry, map_bit, map_ones, rewrite_map, wrong_bits}
use Rattle.d64spec.specs.Check.{check_directory, check_disk, check_entry, check_image, check_slot, right_size}
use Rattle.d64spec.specs.Reply.{files_named, reply, storable_kind, valid_name_argument, writable}
use Rattle.d64spec.specs.Format.{call_format, format_header, formatted_disk, formatted_map, free_after_format}
use Rattle.d64spec.specs.Store.{call_store, empty_slots, grow_directory, last_of, new_entry, overwrite_slot, placement, sectors_needed, slot_place_for, stored_disk, write_slot}
use Rattle.d64spec.specs.Call.{attempt, output_buffer, perform}
use Rattle.d64spec.specs.Host.{host_call}
use Rattle.d64spec.specs.Trial.{after_call, fresh_image, image_far, image_with_a, image_with_ab, sent, small_layout}
use Rattle.owners.specs.OwnerTable.{map_table, directory_table, owner_table}

-- the small disk with a file in slot 0 and one in slot 8
abbrev far_disk : Disk
far_disk = disk image_far

-- THE NUMBERS THEMSELVES, there: 18/0 the map's, 18/1 and 18/2 the directory's, 19/0 and 19/1 the file's in slot 0, 19/2 the file's in slot 8
pub numbers-computed : owner_table small_layout (directory_sectors small_layout far_disk) (files small_layout far_disk) ≡ 1 ∷ 2 ∷ 2 ∷ 3 ∷ 3 ∷ 11 ∷ zeros 7
unfolding owner_table directory_table map_table small_layout image_far image_with_ab image_with_a fresh_image after_call sent host_call perform reply attempt output_buffer call_format call_store check_image right_size valid_name_argument storable_kind writable files_named image disk put first sector_number on_disk first_on sectors_on total tracks sectors_needed allocation_order allocation_tracks ascending descending sectors_of_track last_of formatted_disk formatted_map format_header free_after_format padded expected_entry expected_bit bitmap_byte binary rewrite_map claim_count claim_list claims_of directory_sectors files occupied file_of slot_in slots_in first_link link_to file_link directory_link decode_file_link decode_directory_link free_for_files free_for_directory empty_slots slot_place_for placement stored_disk write_slot overwrite_slot grow_directory new_entry check_disk check_directory check_slot check_entry entry_correct wrong_bits map_ones map_bit bit_of valid_type valid_name name_of
numbers-computed = refl
