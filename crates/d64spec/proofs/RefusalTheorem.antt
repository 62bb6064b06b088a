-- What the host sees of a call: a refused one changes nothing but its answer block, and that names the first fault; a check and a format that are done report
-- 0 and 0 (demand 1; 01, Answer numbers; Host calls).
use Prim.Native.Nat.{ℕ}
use native.Mathlib.Omega.{arith}
use mathlib.Core.Path.{◌≡◌, refl, sym, ap, ◌∙◌}
use mathlib.Core.Bool.{Bool, true, false}
use mathlib.Core.List.{[], ◌∷◌, ◌++◌}
use lib.ListN.{length}
use lib.Dec.{eqb}
use borrow.Author.Tests.{eqb-true, eqb-false}
use Rattle.d64spec.proofs.HostLaws.{right-block, wrong-block}
use Rattle.d64spec.proofs.OrderTheorem.{first-fault, some-fault}
use Rattle.d64spec.proofs.ResultLaws.{then-done}
use Rattle.d64spec.proofs.CallLaws.{format-done}
use Rattle.d64spec.proofs.RefusalLaws.{zero-change}
use Rattle.d64spec.specs.Lists.{Bytes, zeros}
use Rattle.d64spec.specs.Answers.{Fault, answer_of, done}
use Rattle.d64spec.specs.Geometry.{Geometry, Valid}
use Rattle.d64spec.specs.Image.{image}
use Rattle.d64spec.specs.Check.{check_image}
use Rattle.d64spec.specs.Reply.{Change, changed, reply, unchanged}
use Rattle.d64spec.specs.Format.{formatted_disk}
use Rattle.d64spec.specs.Call.{Call, attempt, call_check, check, format, output_buffer, perform}
use Rattle.d64spec.specs.Host.{HostReply, answer_block, host_call, host_reply, little_endian}
use Rattle.d64spec.specs.Order.{FirstFails, conditions}
use Rattle.d64spec.specs.Facts.{LeftAlone}

-- REFUSED CALLS CHANGE NO BYTE of the image and of the output, whatever the bytes, the call and the block
pub refused-left : (g : Geometry) → Valid g → (img block : Bytes) (c : Call) → ((host_call g img block c).number ≡ 0 → ⊥) → LeftAlone img (output_buffer c) block (host_call g img block c)
unfolding answer_block
refused-left g v img block c h = go (eqb (length block) 9) refl
  where
    go : (b : Bool) → eqb (length block) 9 ≡ b → LeftAlone img (output_buffer c) block (host_call g img block c)
    go true t =
        let nine : length block ≡ 9 = eqb-true (length block) 9 t in
        let e = right-block g img block c nine in
        let w = some-fault g v img c (λ z. h (ap (λ (r : HostReply). r.number) e ∙ z)) in
        rw (e, w.2) (record { image = refl; output = refl; reports = λ n. refl; other_block = λ n. absurd (n nine) })
    go false t =
        let other : length block ≡ 9 → ⊥ = eqb-false (length block) 9 t in
        rw (wrong-block g img block c other) (record { image = refl; output = refl; reports = λ n. absurd (other n); other_block = λ n. refl })

module _ (g : Geometry) (v : Valid g) (img block : Bytes) where
  -- THE HOST SEES THE FIRST FAULT: its number, its place in the block, a report of 0 and 0, and no byte changed
  pub host-first-fault : (c : Call) (f : Fault) → length block ≡ 9 → FirstFails (conditions g img c) f
      → host_call g img block c ≡ record { number = (answer_of f).number; image_after = img; output_after = output_buffer c; block_after = (answer_of f).track ∷ (answer_of f).sector ∷ (answer_of f).slot ∷ zeros 6 }
  unfolding answer_block
  host-first-fault c f nine h = right-block g img block c nine ∙ ap host_reply (first-fault g v img c f h)

-- ---- calls that are done

module _ (g : Geometry) (img block : Bytes) where
  -- a call that answers 0 had nine bytes for its answer, and is done
  host-zero : (c : Call) → (host_call g img block c).number ≡ 0 → (length block ≡ 9) × ((ch : Change) × (attempt g img c ≡ done ch))
  unfolding perform
  host-zero c h = go (eqb (length block) 9) refl
    where
      go : (b : Bool) → eqb (length block) 9 ≡ b → (length block ≡ 9) × ((ch : Change) × (attempt g img c ≡ done ch))
      go true t =
          let nine : length block ≡ 9 = eqb-true (length block) 9 t in
          let e : (perform g img c).answer.number ≡ 0 = ap (λ (r : HostReply). r.number) (sym (right-block g img block c nine)) ∙ h in
          (nine, ((perform g img c).change, zero-change img (output_buffer c) (attempt g img c) e))
      go false t = absurd (let e : ◌≡◌ {A = ℕ} 16 0 = ap (λ (r : HostReply). r.number) (sym (wrong-block g img block c (eqb-false (length block) 9 t))) ∙ h in omega arith)

  -- what it leaves
  host-done : (c : Call) (ch : Change) → length block ≡ 9 → attempt g img c ≡ done ch
      → host_call g img block c ≡ record { number = 0; image_after = ch.image_after; output_after = ch.output_after; block_after = 0 ∷ 0 ∷ 255 ∷ (little_endian 4 ch.reported_length ++ little_endian 2 ch.reported_sectors) }
  unfolding perform reply answer_block
  host-done c ch nine e = right-block g img block c nine ∙ ap (λ x. host_reply (reply img (output_buffer c) x)) e

  -- A CHECK ANSWERED 0 reports 0 and 0, and changes no byte
  pub host-check-done : (host_call g img block check).number ≡ 0
      → host_call g img block check ≡ record { number = 0; image_after = img; output_after = []; block_after = 0 ∷ 0 ∷ 255 ∷ zeros 6 }
  unfolding attempt call_check
  host-check-done h =
      let w = host-zero check h in
      let step = then-done (check_image g img) (done (unchanged img [])) w.1.0 w.1.1 in
      host-done check (unchanged img []) w.0 (rw step.1)

  -- A FORMAT ANSWERED 0 reports 0 and 0
  pub host-format-done : (name : Bytes) (id1 id2 : ℕ) → (host_call g img block (format name id1 id2)).number ≡ 0
      → host_call g img block (format name id1 id2) ≡ record { number = 0; image_after = image g (formatted_disk g name id1 id2); output_after = []; block_after = 0 ∷ 0 ∷ 255 ∷ zeros 6 }
  unfolding attempt
  host-format-done name id1 id2 h =
      let w = host-zero (format name id1 id2) h in
      let done-with = (format-done g img name id1 id2 w.1.0 w.1.1).change in
      host-done (format name id1 id2) (changed (image g (formatted_disk g name id1 id2)) 0 0) w.0 (w.1.1 ∙ ap done (sym done-with))
