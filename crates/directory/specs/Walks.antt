-- The walk of the directory with a table of track 18's owners, and the same as bits (01, Order of the check, step 2; 02, §4). Laws: proofs/WalkLaws;
-- that it is the walk in every layout: Layout18Laws.
use Rattle.std.specs.Prelude.{ℕ, ◌-◌, ◌*◌, ◌≤◌, ◌<◌, ◌≡◌, List, [], ◌∷◌, ◌++◌, map, take, replicate, Result as CodeResult, Ok, Err}
use Rattle.d64spec.specs.Lists.{Bytes, All, zeros}
use Rattle.d64spec.specs.Answers.{Address, Result, refused, done}
use Rattle.d64spec.specs.Geometry.{Geometry, sector_number, map_address, directory_start}
use Rattle.d64spec.specs.Chain.{to, directory_link, steps, walk}
use Rattle.d64spec.specs.Listing.{disk_of_track18}
use Rattle.answers.specs.declared.Fault.{Fault}
use Rattle.answers.specs.Faults.{fault_of}
use Rattle.owners.specs.OwnerTable.{owned, with_owner, directory_owner}
use Rattle.owners.specs.Masks.{owned_mask}
use Rattle.directory.specs.declared.walk.Walk.{Walk}
use Rattle.directory.specs.Directories.{sectors_of}

-- track 18 alone, as a layout: its 19 sectors have the numbers 0 to 18. What is read of it holds in every layout whose track 18 has 19 sectors
unfoldable pub layout18 : Geometry
layout18 = record { counts = replicate 17 0 ++ (19 ∷ []); map_at = λ t. 4 * t }

-- the sectors of a walk, and the table after it
pub record Marked : Type 0 where
  pub sectors : List Address
  pub table : List ℕ

-- the definition's walk, with the table after it
unfoldable pub marked : List ℕ → Result (List Address) → Result Marked
marked own (refused f) = refused f
marked own (done ds) = done (record { sectors = ds; table = with_owner directory_owner (map (sector_number layout18) ds) own })

-- the definition's walk of the directory from a table, with the table after it
abbrev pub directory_walk : Bytes → List ℕ → Result Marked
directory_walk b own = marked own (walk layout18 (directory_link layout18) (disk_of_track18 layout18 b) (steps layout18) (owned own) map_address 255
    (to directory_start))

-- w is that walk, done, and own' the table it leaves
pub record IsWalk (b own : List ℕ) (w : Walk) (own' : List ℕ) : Type 0 where
  pub told : directory_walk b own ≡ done (record { sectors = sectors_of w.sectors w.count; table = own' })
  pub rest : w.sectors ≡ take w.count w.sectors ++ zeros (18 - w.count)
  pub few : w.count ≤ 18
  pub inside : All (λ s. s < 19) w.sectors
  pub used : w.used ≡ owned_mask own' 0 19

-- what the walk gives, and the table it leaves where nothing is refused
abbrev pub Walked : Bytes → List ℕ → CodeResult Walk Fault → List ℕ → Type 0
Walked b own (Ok w) own' = IsWalk b own w own'
Walked b own (Err f) own' = directory_walk b own ≡ refused (fault_of f)
