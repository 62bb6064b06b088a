-- Demand 3 of running code (01, What demand 3 compares; 02, §8): a list of calls that all name one layout and each met its contract is the run
-- that demand 3 is stated over. Assumes nothing.
use Prim.Native.Nat.{ℕ}
use mathlib.Core.Path.{◌≡◌, refl, ap, ap₂, ◌∙◌}
use mathlib.Core.List.{List, [], ◌∷◌}
use Rattle.d64spec.specs.Lists.{Bytes}
use Rattle.d64spec.specs.Answers.{done}
use Rattle.d64spec.specs.Geometry.{Geometry}
use Rattle.d64spec.specs.Accepted.{Accepted}
use Rattle.d64spec.specs.Host.{HostReply}
use Rattle.d64spec.specs.Layouts.{layout_numbered, sizes_of}
use Rattle.d64spec.specs.Run.{Request, serve, after, run}
use Rattle.d64spec.proofs.LayoutLaws.{known}
use Rattle.d64spec.proofs.LayoutTheorem.{call-in, demand-3-bound}
use Rattle.d64spec.proofs.RetiredTheorem.{start-kept}
use Rattle.d64spec.proofs.SpareTheorem.{spare-kept}
use Rattle.d64.specs.Runs.{Served, image_left, replies, CallsHold}

module _ (n : ℕ) (g : Geometry) (named : layout_numbered n ≡ done g) where
  -- what the calls gave is what the run gives
  served-run : (img : Bytes) (l : List Request) (rs : List HostReply) → Served n img l rs → (rs ≡ replies g img l) × (image_left img rs ≡ run g img l)
  served-run img [] [] s = (refl, refl)
  served-run img [] (r ∷ rs) s = absurd s
  served-run img (q ∷ l) [] s = absurd s
  served-run img (q ∷ l) (r ∷ rs) s =
      let e : r ≡ serve g img q = s.0.reply ∙ call-in n g named img q.block q.call in
      let rest = served-run r.image_after l rs s.1 in
      let same : r.image_after ≡ after g img q = ap (λ (x : HostReply). x.image_after) e in (
        ap₂ (λ (x : HostReply) (y : List HostReply). x ∷ y) e (rest.0 ∙ ap (λ (i : Bytes). replies g i l) same),
        rest.1 ∙ ap (λ (i : Bytes). run g i l) same,
      )

  -- DEMAND 3 OF RUNNING CODE: any list of calls of the exported functions that all name one layout, on any image that is accepted in it. A read visits at
  -- most 681 sectors in layout 0, and 766 in the others; the run keeps what was there
  pub calls-run : (img : Bytes) (l : List Request) (rs : List HostReply) → Accepted g img → Served n img l rs
      → CallsHold g (sizes_of n).longest_chain img l rs
  calls-run img l rs a s =
      let h = served-run img l rs s in
      let valid = (known n g named).valid in
      record { replied = h.0; left = h.1; holds = demand-3-bound n g named img l a; kept = start-kept g valid img l a; spare = spare-kept g valid img l }
