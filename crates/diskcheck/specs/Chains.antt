-- A file's chain, claimed sector by sector in the owner table (01, Chains; Order of the check, 3).
-- In order: what a claim answers; the definition's walk with the table after it; a track's mask; what the loop may rely on. Laws: proofs/ChainLaws.
use Rattle.std.specs.Prelude.{ℕ, ◌+◌, ◌-◌, ◌≤◌, ◌<◌, ◌*◌, ◌≡◌, cond, ◌&&◌, List, map, length, get_or, set, eqb, ltb, leb, Result as CodeResult, Ok, Err}
use Rattle.d64spec.specs.Lists.{Bytes}
use Rattle.d64spec.specs.Answers.{Address, Result, refused, done}
use Rattle.d64spec.specs.Geometry.{Geometry, total, sector_number}
use Rattle.d64spec.specs.Image.{disk}
use Rattle.d64spec.specs.Chain.{link_to, file_link, steps, walk}
use Rattle.geometry.specs.declared.Address.{Address as CodeAddress}
use Rattle.answers.specs.declared.Place.{Place}
use Rattle.answers.specs.declared.Fault.{Fault}
use Rattle.answers.specs.declared.Fault.TheVariants.{BadLink}
use Rattle.answers.specs.Faults.{result_of}
use Rattle.owners.specs.Masks.{Masks}
use Rattle.owners.specs.OwnerTable.{owned, with_owner}
use Rattle.diskcheck.specs.EndTable.{end_of}
use Rattle.diskcheck.specs.declared.chain.Claim.{Claim}

-- the sectors of a chain counted, where its data end, and the table after it
pub record Claimed : Type 0 where
  pub count : ℕ
  pub end : ℕ
  pub table : List ℕ

-- what a claim's answer means, with the table that it leaves where nothing is refused
abbrev pub claim_of : CodeResult Claim Fault → List ℕ → Result Claimed
claim_of r own = result_of (λ (c : Claim). record { count = c.count; end = c.end; table = own }) r

-- the place of a fault of the link that `holder` holds (01, Answer numbers: sector holding it, slot)
abbrev pub held_by : CodeAddress → ℕ → Place
held_by holder slot = record { track = holder.track; sector = holder.sector; slot = slot }

-- what a link off the disk, of the bytes t and s, says that `holder` holds after n sectors of a chain: its end, where one of them holds it and it is
-- 00 and then 01 to FF; else it is bad (01, Chains)
unfoldable pub claim_off : ℕ → ℕ → ℕ → CodeAddress → ℕ → CodeResult Claim Fault
claim_off t s n holder slot = cond (eqb t 0 && ltb 0 s && ltb 0 n) (Ok (record { count = n; end = s })) (Err (BadLink (held_by holder slot)))

-- the sectors of a walk claimed for the owner `id`
unfoldable pub claimed : Geometry → Bytes → ℕ → List ℕ → Result (List Address) → Result Claimed
claimed g img id own (refused f) = refused f
claimed g img id own (done l) = done (record { count = length l; end = end_of g img l; table = with_owner id (map (sector_number g) l) own })

-- the definition's walk of the chain that a first link to track t, sector s starts, which the sector `holder` holds
unfoldable pub chain_walk : Geometry → Bytes → List ℕ → Address → ℕ → ℕ → ℕ → Result (List Address)
chain_walk g img own holder slot t s = walk g (file_link g) (disk img) (steps g) (owned own) holder slot (link_to g t s)

-- the masks with these bits of a track's sectors more; tracks 1 to 40 have one
unfoldable pub with_mask : List ℕ → ℕ → ℕ → List ℕ
with_mask used t m = cond (leb 1 t && leb t 40) (set used (t - 1) (get_or used (t - 1) 0 + m)) used

-- where the track has a mask, there is room for these bits in it
pub record MaskRoom (used : List ℕ) (t m : ℕ) : Type 0 where
  pub fits : 1 ≤ t → t ≤ 40 → get_or used (t - 1) 0 + m < 16777216

-- an image and a table of the right size, masks that say the same, and one of the 144 numbers of slots
pub record Ready (g : Geometry) (img own used : List ℕ) (number : ℕ) : Type 0 where
  pub size : length img ≡ 256 * total g
  pub long : length own ≡ total g
  pub masks : Masks g own used
  pub slot : number < 144
