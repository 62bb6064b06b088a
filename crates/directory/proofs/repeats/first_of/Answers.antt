-- `directory::repeats::first_of` meets its contract. The loop keeps `Searching`: the pairs held are the names passed, their hashes are seen, and none of
-- them repeats an earlier one. Assumes nothing.
use Prim.Native.Nat.{ℕ, ◌%◌}
use mathlib.Core.Path.{◌≡◌, sym, ap, ◌∙◌}
use lib.ListN.{take}
use mathlib.Core.Bool.{true, false}
use native.Mathlib.Omega.{arith}
use borrow.Author.Rules.{rules}
use Rattle.directory.specs.NameWords.{holds}
use Rattle.directory.proofs.SearchLaws.{thirty, searching-empty, searching-found, searching-new, new-hash}
use Rattle.directory.proofs.repeats.first_of.Goals as goal

pub returns-then-among : goal.returns-then-among
returns-then-among g c =
    let t = thirty c.slot_at-slot.ensures (search rules) c.requires.0 c.requires.4 in
    let met : holds (take c.loop-k.n c.loop-k.names) c.eight_at.result c.eight_at-then-slot-ne0.result ≡ true = sym c.among.ensures ∙ c.if-among.true in
    searching-found c.loop-k.invariant (omega arith) _ t c.slot_at-slot.ensures.bytes c.if-slot-ne0.true _ _ c.eight_at.ensures
    c.eight_at-then-slot-ne0.ensures met

pub loop-k-preserved : goal.loop-k-preserved
loop-k-preserved g c =
    let t = thirty c.slot_at-slot.ensures (search rules) c.requires.0 c.requires.4 in
    elim c.if-slot-ne0.branch [
      | goal.then-slot-ne0+else-seen-h w ↦
          -- where the inner branches meet, the name is new
          let fresh : holds (take c.loop-k.n c.loop-k.names) w.eight_at.result w.eight_at-then-slot-ne0.result ≡ false = elim w.else-seen-h.branch [
            | goal.else-seen-h-via-then-seen-h+else-among v ↦ sym v.among.ensures ∙ v.if-among.false
            | goal.else-seen-h-via-else-seen-h v ↦ new-hash c.loop-k.invariant _ _ (ap (λ (h : ℕ). h % g.row.H) w.hash-h.ensures) v.if-seen-h.false
          ] in
          rw (w.seen-is, w.names-is, w.n-is)
          (searching-new c.loop-k.invariant (omega arith) _ t c.slot_at-slot.ensures.bytes w.if-slot-ne0.true _ _ w.eight_at.ensures
          w.eight_at-then-slot-ne0.ensures (omega arith) (omega arith) (ap (λ (h : ℕ). h % g.row.H) w.hash-h.ensures) fresh (omega arith))
      | goal.else-slot-ne0 w ↦
          rw (w.seen-is, w.names-is, w.n-is)
          (searching-empty c.loop-k.invariant (omega arith) _ t c.slot_at-slot.ensures.bytes w.if-slot-ne0.false)
    ]
