-- A text that is written from its front, piece by piece, until it is full.
-- In order: the invariant; a piece put in its place; a piece written through a part that was lent. Assumes nothing.
use Prim.Native.Nat.{ℕ, ◌+◌, ◌-◌, ◌≤◌}
use native.Mathlib.Omega.{arith}
use mathlib.Core.Path.{◌≡◌, refl, sym, ap, ◌∙◌}
use mathlib.Core.List.{[], ◌++◌, append_assoc, append-nil}
use lib.ListN.{length, take, drop, length-append}
use lib.Seq.{length-take-le, take_at, take_all, drop-drop}
use Rattle.d64spec.specs.Lists.{Bytes, splice}
use Rattle.d64spec.proofs.SpliceLaws.{length-splice}

-- below `at` stands the beginning of the whole, `rest` is what it still lacks, and there is exactly room for that
pub record Writing (whole rest text : Bytes) (at : ℕ) : Type 0 where
  pub size : at + length rest ≡ length text
  pub written : take at text ++ rest ≡ whole

pub writing_start : (whole text : Bytes) → length whole ≡ length text → Writing whole whole text 0
writing_start whole text e = record { size = omega arith; written = refl }

pub writing-finished : {whole rest text : Bytes} {at : ℕ} → Writing whole rest text at → rest ≡ [] → text ≡ whole
writing-finished {whole} {rest} {text} {at} w e =
    let none : length rest ≡ 0 = ap length e in
    let all : take at text ≡ text = take_all at text (omega (arith, w.size)) in
    let end : take at text ++ rest ≡ text = rw (e, append-nil) all in
    sym end ∙ w.written

module _ {whole rest text : Bytes} {at : ℕ} (w : Writing whole rest text at) (piece more : Bytes) (e : rest ≡ piece ++ more) where
  fits : at + length piece ≤ length text
  fits = omega (arith, w.size, ap length e, length-append piece more)

  pub writing-moved : Writing whole more (splice text at piece) (at + length piece)
  writing-moved =
      let front : length (take at text ++ piece) ≡ at + length piece = omega (arith, fits, length-append (take at text) piece, length-take-le at text (omega (arith, fits))) in
      let behind : Bytes = drop (at + length piece) text in
      record {
        size = omega (arith, w.size, ap length e, length-append piece more, length-splice text at piece fits);
        written =
            ap (λ (l : Bytes). take (at + length piece) l ++ more) (sym (append_assoc (take at text) piece behind))
            ∙ ap (λ (l : Bytes). l ++ more) (take_at (take at text ++ piece) behind (at + length piece) front)
            ∙ append_assoc (take at text) piece more
            ∙ ap (λ (l : Bytes). take at text ++ l) (sym e)
            ∙ w.written;
      }

  -- what comes back of a loan of the bytes from `at` to `end` when the piece fills them
  pub writing-lent : (end : ℕ) → end ≡ at + length piece → {part : Bytes} → part ≡ piece → Writing whole more (take at text ++ (part ++ drop (end - at) (drop at text))) end
  writing-lent end reached {part} same =
      let behind : at + (end - at) ≡ at + length piece = omega arith in
      rw (same, drop-drop (end - at) at text, behind, reached) writing-moved

-- the same for the first piece
pub writing-front : {whole rest text : Bytes} → Writing whole rest text 0 → (piece more : Bytes) → rest ≡ piece ++ more → (end : ℕ)
    → end ≡ length piece → {part : Bytes} → part ≡ piece → Writing whole more (part ++ drop end text) end
writing-front w piece more e end reached same =
    let all : end - 0 ≡ end = omega arith in
    rw all at (writing-lent w piece more e end (omega arith) same)
