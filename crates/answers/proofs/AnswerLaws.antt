-- Answers by their variants, the nine bytes of the block, and what the host gets (01, Answer numbers; Host calls).
-- Assumes nothing.
use Prim.Native.Nat.{ℕ, ◌/◌, ◌%◌}
use native.Mathlib.Omega.{arith}
use mathlib.Core.Path.{◌≡◌, refl, ap, ap₂, ◌∙◌}
use mathlib.Core.List.{[], ◌∷◌, ◌++◌}
use lib.ListN.{length}
use borrow.Author.Tests.{eq-eqb, ne_eqb}
use Rattle.d64spec.specs.Lists.{Bytes}
use Rattle.d64spec.specs.Answers.{answer_of, wrong_buffer}
use Rattle.d64spec.specs.Answers as answer
use Rattle.d64spec.specs.Host.{answer_block, little_endian}
use Rattle.answers.specs.Faults.{meant, called_answer, reported, block_of, Filled, Given}
use Rattle.std.specs.Prelude.{Result, Ok, Err, cond, eqb}
use Rattle.std.specs.Result.{result_unwrap_or}
use Rattle.answers.specs.declared.Fault.{Fault}
use Rattle.answers.specs.declared.Answer.{Answer}
use Rattle.answers.specs.declared.Done.{Done}

-- four bytes as code computes them: each from the whole number, not from what the byte before it left
pub four-low-first : (n : ℕ) → ◌≡◌ {A = Bytes} (n % 256 ∷ n / 256 % 256 ∷ n / 65536 % 256 ∷ n / 16777216 % 256 ∷ []) (little_endian 4 n)
four-low-first n =
    let third : n / 256 / 256 ≡ n / 65536 = omega arith in
    let fourth : n / 256 / 256 / 256 ≡ n / 16777216 = omega arith in
    rw (fourth, third)

-- the block's nine bytes as the code computes them
pub block-bytes-of : (a : answer.Answer) (n k : ℕ) → ◌≡◌ {A = Bytes}
    (a.track ∷ a.sector ∷ a.slot ∷ n % 256 ∷ n / 256 % 256 ∷ n / 65536 % 256 ∷ n / 16777216 % 256 ∷ k % 256 ∷ k / 256 % 256 ∷ [])
    (block_of a n k)
unfolding answer_block
block-bytes-of a n k = ap (λ l. a.track ∷ a.sector ∷ a.slot ∷ (l ++ little_endian 2 k)) (four-low-first n)

-- ---- what the host gets: of any answer and any report, and then of what a call gives

-- a block that is not nine bytes: 16, and the block as it was
pub filled-misfit : (a : answer.Answer) (d : Done) (block : Bytes) → (length block ≡ 9 → ⊥) → Filled a d block 16 block
filled-misfit a d block misfit = let other = ne_eqb (length block) 9 misfit in record { number = rw other; filled = rw other }

-- nine bytes: the number of the answer, and its block over the whole of the host's
pub filled-nine : (a : answer.Answer) (d : Done) (block : Bytes) {bs block' : Bytes} → length block ≡ 9 → bs ≡ block_of a d.length d.sectors → block' ≡ bs
    → Filled a d block a.number block'
filled-nine a d block nine built copied =
    let same = eq-eqb (length block) 9 nine in
    record { number = rw same; filled = rw same (copied ∙ built) }

-- a call's answer, with what it reports
pub given-filled : (outcome : Result Done Fault) {a : answer.Answer} {d : Done} {block block' : Bytes} {r : ℕ} → a ≡ called_answer outcome
    → d ≡ reported outcome → Filled a d block r block' → Given outcome block r block'
given-filled outcome {a} {d} {block} {block'} {r} answered told f =
    let nine = eqb (length block) 9 in
    record {
      number = f.number ∙ ap (λ (x : answer.Answer). cond nine x.number (answer_of wrong_buffer).number) answered;
      filled = f.filled ∙ ap₂ (λ (x : answer.Answer) (y : Done). cond nine (block_of x y.length y.sectors) block) answered told;
    }

pub given-misfit : (outcome : Result Done Fault) (block : Bytes) → (length block ≡ 9 → ⊥) → Given outcome block 16 block
given-misfit outcome block misfit = given-filled outcome refl refl (filled-misfit (called_answer outcome) (reported outcome) block misfit)

-- what a call reports: where it reports nothing, 0 and 0
pub reported-or : {d : Done} {n k : ℕ} → (outcome : Result Done Fault) → d ≡ result_unwrap_or outcome (record { length = n; sectors = k }) → n ≡ 0 → k ≡ 0
    → d ≡ reported outcome
unfolding reported
reported-or (Ok x) is bare zero = is
reported-or (Err f) is bare zero = is ∙ ap₂ (λ (n k : ℕ). record { length = n; sectors = k }) bare zero

pub given-nine : (outcome : Result Done Fault) (block : Bytes) (a : Answer) (d : Done) (bs block' : Bytes) → length block ≡ 9 → meant a ≡ called_answer outcome
    → d ≡ reported outcome → bs ≡ block_of (meant a) d.length d.sectors → block' ≡ bs → Given outcome block a.number block'
given-nine outcome block a d bs block' nine answered told built copied = given-filled outcome answered told (filled-nine (meant a) d block nine built copied)
