-- A whole list of calls as the mastering program makes them (01, What demand 3 compares): each exported function meets its contract on the image that
-- the one before left. That this is the run of demand 3: proofs/RunServed, `calls-run`.
use Rattle.std.specs.Prelude.{ℕ, ◌≡◌, List, [], ◌∷◌}
use Rattle.d64spec.specs.Lists.{Bytes}
use Rattle.d64spec.specs.Geometry.{Geometry}
use Rattle.d64spec.specs.Host.{HostReply, host_call_in}
use Rattle.d64spec.specs.Run.{Request, serve, after, run, RunHolds}
use Rattle.d64spec.specs.SpareBits.{SpareKept}
use Rattle.d64spec.specs.Retired.{StartKept}
use Rattle.d64.specs.HostCalls.{HostServed}

-- what each of the calls l, which all name the layout of number n, returned and left in lent memory, as its contract says of it
abbrev pub Served : ℕ → Bytes → List Request → List HostReply → Type 0
Served n img [] [] = Unit {0}
Served n img [] (r ∷ rs) = ⊥
Served n img (q ∷ l) [] = ⊥
Served n img (q ∷ l) (r ∷ rs) =
    HostServed (host_call_in n img q.block q.call) r.number r.image_after r.output_after r.block_after × Served n r.image_after l rs

-- the image after the last of them
abbrev pub image_left : Bytes → List HostReply → Bytes
image_left img [] = img
image_left img (r ∷ rs) = image_left r.image_after rs

-- the replies of the run that demand 3 is stated over
abbrev pub replies : Geometry → Bytes → List Request → List HostReply
replies g img [] = []
replies g img (q ∷ l) = serve g img q ∷ replies g (after g img q) l

-- demand 3 of what the calls returned and left: they are the run's, and the run holds, and keeps the files that were there at the start (02, §12) and the
-- bits past the tracks' last sectors (02, §5); a read visits at most `most` sectors
pub record CallsHold (g : Geometry) (most : ℕ) (img : Bytes) (l : List Request) (rs : List HostReply) : Type 0 where
  pub replied : rs ≡ replies g img l
  pub left : image_left img rs ≡ run g img l
  pub holds : RunHolds g most img l
  pub kept : StartKept g img l
  pub spare : SpareKept g img l
