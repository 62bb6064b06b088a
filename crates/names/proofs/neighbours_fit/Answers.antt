-- `names::neighbours_fit` meets its contract. The loop keeps: no other byte stands behind a $A0 up to here, so that the neighbours from here on decide.
-- Assumes nothing.
use mathlib.Core.Path.{◌≡◌, sym, ◌∙◌}
use Prim.Native.Nat.{ℕ, ◌+◌, ◌≤◌, ◌<◌}
use native.Mathlib.Omega.{arith}
use lib.ListN.{length}
use Rattle.d64spec.specs.Lists.{Bytes, byte}
use Rattle.d64spec.specs.Directory.{name_field}
use Rattle.names.proofs.PaddingLaws.{padded_once-letter, padded_once-padding, padded_once-broken}
use Rattle.names.proofs.NameLaws.{length-name_field, byte-name_field}
use Rattle.names.proofs.neighbours_fit.Goals as goal

-- two neighbours of a name
record Neighbours (s : Bytes) (i : ℕ) : Type 0 where
  more : i + 1 < length (name_field s)
  here : byte (name_field s) i ≡ byte s (i + 3)
  next : byte (name_field s) (i + 1) ≡ byte s (i + 4)

neighbours : (s : Bytes) (i : ℕ) → 19 ≤ length s → i < 15 → Neighbours s i
neighbours s i whole h = record {
  more = omega (arith, length-name_field s whole);
  here = sym (byte-name_field s (i + 3) i (omega arith) (omega arith));
  next = sym (byte-name_field s (i + 4) (i + 1) (omega arith) (omega arith));
}

pub returns-then-slot-i-2 : goal.returns-then-slot-i-2
returns-then-slot-i-2 c =
    let i = c.loop-i.i in
    let n = neighbours c.args.slot.now i c.requires.whole (omega arith) in
    sym (padded_once-broken _ i n.more (omega arith) (λ e. omega arith)) ∙ c.loop-i.invariant

pub loop-i-preserved : goal.loop-i-preserved
loop-i-preserved c =
    let i = c.loop-i.i in
    let n = neighbours c.args.slot.now i c.requires.whole (omega arith) in
    elim c.else-slot-i.branch [
      | goal.else-slot-i-via-then-slot-i+else-slot-i-2 w ↦
          let e = w.if-slot-i-2.false in sym (padded_once-padding _ i n.more (omega arith)) ∙ c.loop-i.invariant
      | goal.else-slot-i-via-else-slot-i w ↦
          let e = w.if-slot-i.false in sym (padded_once-letter _ i n.more (λ z. omega arith)) ∙ c.loop-i.invariant
    ]

pub returns : goal.returns
returns c =
    let all : c.loop-i.i ≡ c.args.end = omega arith in
    sym c.requires.rest ∙ (rw all at c.loop-i.invariant)
