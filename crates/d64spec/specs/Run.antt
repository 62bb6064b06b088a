-- Demand 3: a whole list of host calls, each given the image as the one before left it (01, What demand 3 compares).
-- In order: requests and the run; the plain list; sectors given back; what reads report; the claim. The theorem: proofs/RunTheorem, `demand-3`.
use Rattle.std.specs.Prelude.{ℕ, zero, suc, ◌≤◌, ◌<◌, ◌≡◌, not, ◌⊎◌, length}
use mathlib.Core.List.{List, [], ◌∷◌, Perm, Mem}
use Rattle.d64spec.specs.Lists.{Bytes, part, filter, equal, zeros}
use Rattle.d64spec.specs.Geometry.{Geometry, total}
use Rattle.d64spec.specs.Image.{disk}
use Rattle.d64spec.specs.Directory.{File, PlainEntry, name_of, files, plain_list}
use Rattle.d64spec.specs.Owner.{claim_count, Free}
use Rattle.d64spec.specs.Accepted.{Accepted}
use Rattle.d64spec.specs.Call.{Call, check, format, read, store, scratch}
use Rattle.d64spec.specs.Host.{HostReply, host_call, little_endian}

-- a call as the host makes it, with the bytes lent for the answer. A library call lends none, and counts as one with nine bytes
pub record Request : Type 0 where
  pub block : Bytes
  pub call : Call

-- the host call's reply
abbrev pub serve : Geometry → Bytes → Request → HostReply
serve g img q = host_call g img q.block q.call

-- the image after a call
abbrev pub after : Geometry → Bytes → Request → Bytes
after g img q = (serve g img q).image_after

-- the image after all of them
abbrev pub run : Geometry → Bytes → List Request → Bytes
run g img [] = img
run g img (q ∷ l) = run g (after g img q) l

-- ---- the plain list

-- it is fed each call, its arguments and its answer number: format answered 0 empties it, store answered 0 adds what was handed in,
-- scratch answered 0 removes the entry of that name; any other call, and any refused one, leaves it as it is
unfoldable pub plain_list_after : List PlainEntry → Call → ℕ → List PlainEntry
plain_list_after l check n = l
plain_list_after l (read name out) n = l
plain_list_after l (format name i j) zero = []
plain_list_after l (format name i j) (suc n) = l
plain_list_after l (store name kind bytes) zero = record { name = name; kind = kind; content = bytes } ∷ l
plain_list_after l (store name kind bytes) (suc n) = l
plain_list_after l (scratch name) zero = filter (λ e. not (equal name e.name)) l
plain_list_after l (scratch name) (suc n) = l

-- the plain list after all of them
abbrev pub plain_list_run : Geometry → Bytes → List PlainEntry → List Request → List PlainEntry
plain_list_run g img l [] = l
plain_list_run g img l (q ∷ qs) = plain_list_run g (after g img q) (plain_list_after l q.call (serve g img q).number) qs

-- ---- sectors given back

-- a call answered 0 gives back each sector that had an owner before it and has none after it
pub record GivesBack (g : Geometry) (img : Bytes) (q : Request) (n : ℕ) : Type 0 where
  pub answered : (serve g img q).number ≡ 0
  pub owned : 0 < claim_count g (disk img) n
  pub freed : Free g (disk (after g img q)) n

-- some call of the list gave n back
abbrev pub GivenBack : Geometry → Bytes → List Request → ℕ → Type 0
GivenBack g img [] n = ⊥
GivenBack g img (q ∷ l) n = GivesBack g img q n ⊎ GivenBack g (after g img q) l n

-- ---- sectors visited

-- a read answered 0 reports, in the block's last two bytes, as many sectors as the chain of the file of that name has, never more than `most`
abbrev pub ReadReports : Geometry → ℕ → Bytes → Call → HostReply → Type 0
ReadReports g most img check r = Unit {0}
ReadReports g most img (format name i j) r = Unit {0}
ReadReports g most img (store name kind bytes) r = Unit {0}
ReadReports g most img (scratch name) r = Unit {0}
ReadReports g most img (read name out) r =
    r.number ≡ 0
    → (f : File) × Mem f (files g (disk img)) × (name_of f.slot.bytes ≡ name)
    × (part 7 8 r.block_after ≡ little_endian 2 (length f.sectors)) × (length f.sectors ≤ most)

-- every read of the list reports so
abbrev pub ReadsReport : Geometry → ℕ → Bytes → List Request → Type 0
ReadsReport g most img [] = Unit {0}
ReadsReport g most img (q ∷ l) = ReadReports g most img q.call (serve g img q) × ReadsReport g most (after g img q) l

-- ---- the claim

-- demand 3 of a start image and a list of requests; the image holds exactly the plain list where each entry is one file and each file one entry
pub record RunHolds (g : Geometry) (most : ℕ) (img : Bytes) (l : List Request) : Type 0 where
  pub accepted : Accepted g (run g img l)
  pub holds : Perm (plain_list g (disk (run g img l))) (plain_list_run g img (plain_list g (disk img)) l)
  pub zeroed : (n : ℕ) → n < total g → GivenBack g img l n → Free g (disk (run g img l)) n → disk (run g img l) n ≡ zeros 256
  pub reads : ReadsReport g most img l
