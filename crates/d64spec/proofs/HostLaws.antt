-- The host calls: what they leave in lent memory, and what their answer block can be read for (01, Host calls).
use Prim.Native.Nat.{ℕ, ◌+◌, ◌*◌, ◌<◌}
use native.Mathlib.Omega.{arith}
use mathlib.Core.Path.{◌≡◌, refl, sym, ap, ◌∙◌}
use mathlib.Core.Bool.{Bool, true, false, cond}
use mathlib.Core.Logic.{◌↔◌}
use lib.ListN.{length}
use lib.Dec.{eqb}
use borrow.Author.Tests.{eq-eqb, ne_eqb, eqb-true}
use Rattle.d64spec.specs.Lists.{Bytes, byte}
use Rattle.d64spec.specs.Answers.{Result, done, refused}
use Rattle.d64spec.specs.Geometry.{Geometry, Valid, total}
use Rattle.d64spec.specs.Image.{disk}
use Rattle.d64spec.specs.Chain.{chain_data}
use Rattle.d64spec.specs.Check.{DirectoryContents, check_disk, check_image, right_size}
use Rattle.d64spec.specs.Accepted.{Accepted}
use Rattle.d64spec.specs.Reply.{Change, reply}
use Rattle.d64spec.specs.Call.{Call, attempt, call_check, check, format, output_buffer, perform, read, scratch, store}
use Rattle.d64spec.specs.Host.{HostReply, answer_block, block_refused, host_call, host_reply, little_endian}
use Rattle.d64spec.proofs.ResultLaws.{then-done, done_inj}
use Rattle.d64spec.proofs.CallLaws.{format-done, read_done, store-done, scratch-done}
use Rattle.d64spec.proofs.SpliceLaws.{length-splice}
use Rattle.d64spec.proofs.CheckLaws.{disk-sound}
use Rattle.d64spec.proofs.FormatLaws.{format-step}
use Rattle.d64spec.proofs.ScratchStep.{scratch-step}
use Rattle.d64spec.proofs.StoreStep.{store_step}
use Rattle.d64spec.proofs.ExactTheorem.{check-exact}

-- ---- the block

-- A BLOCK THAT IS NOT NINE BYTES: 16, and nothing is written
pub wrong-block : (g : Geometry) (img block : Bytes) (c : Call) → (length block ≡ 9 → ⊥) → host_call g img block c ≡ block_refused img block c
unfolding host_call
wrong-block g img block c h = rw (ne_eqb (length block) 9 h)

-- NINE BYTES: the call's reply
pub right-block : (g : Geometry) (img block : Bytes) (c : Call) → length block ≡ 9 → host_call g img block c ≡ host_reply (perform g img c)
unfolding host_call
right-block g img block c h = rw (eq-eqb (length block) 9 h)

-- what holds of both holds of every host call
by-block : (P : HostReply → Type 0) (g : Geometry) (img block : Bytes) (c : Call) → (length block ≡ 9 → P (host_reply (perform g img c))) → P (block_refused img block c) → P (host_call g img block c)
unfolding host_call
by-block P g img block c f h = go (eqb (length block) 9) refl
  where
    go : (b : Bool) → eqb (length block) 9 ≡ b → P (cond b (host_reply (perform g img c)) (block_refused img block c))
    go true t = f (eqb-true (length block) 9 t)
    go false t = h

-- the block keeps its length
pub block-length : (g : Geometry) (img block : Bytes) (c : Call) → length (host_call g img block c).block_after ≡ length block
unfolding answer_block
block-length g img block c = by-block (λ r. length r.block_after ≡ length block) g img block c (λ e. sym e) refl

-- two bytes tell a number below 65,536, and four one below 4,294,967,296
pub two_bytes : (v : ℕ) → v < 65536 → byte (little_endian 2 v) 0 + 256 * byte (little_endian 2 v) 1 ≡ v
two_bytes v h = omega arith

pub four_bytes_lem : (v : ℕ) → v < 4294967296 → byte (little_endian 4 v) 0 + 256 * (byte (little_endian 4 v) 1 + 256 * (byte (little_endian 4 v) 2 + 256 * byte (little_endian 4 v) 3)) ≡ v
four_bytes_lem v h = omega arith

-- A CHECK ANSWERS 0 EXACTLY FOR AN ACCEPTED IMAGE
pub host-check : (g : Geometry) → Valid g → (img block : Bytes) → length block ≡ 9 → ((host_call g img block check).number ≡ 0) ↔ Accepted g img
host-check g v img block h = rw (right-block g img block check h) (check-exact g v img)

-- ---- the image and the output

module _ (g : Geometry) (v : Valid g) (img : Bytes) where
  pub accepted-of : right_size g img ≡ true → (c : DirectoryContents) → check_disk g (disk img) ≡ done c → Accepted g img
  unfolding right_size
  accepted-of s c e = record { size = eqb-true (length img) (256 * total g) s; content = (disk-sound g v (disk img) c e).0 }

  size_of : right_size g img ≡ true → length img ≡ 256 * total g
  unfolding right_size
  size_of s = eqb-true (length img) (256 * total g) s

  image-kept : (c : Call) (ch : Change) → attempt g img c ≡ done ch → length ch.image_after ≡ length img
  unfolding attempt reply call_check
  image-kept check ch e = ap (λ (x : Change). length x.image_after) (sym (done_inj (then-done (check_image g img) _ ch e).2))
  image-kept (format name i j) ch e = (format-step g v img name i j ch e).accepted.size ∙ sym (size_of (format-done g img name i j ch e).size)
  image-kept (read name out) ch e = ap (λ (x : Change). length x.image_after) (sym (read_done g img name out ch e).change)
  image-kept (store name kind bs) ch e =
      let h = store-done g img name kind bs ch e in
      (store_step g v img (accepted-of h.size h.contents h.checked) name kind bs ch e).accepted.size ∙ sym (size_of h.size)
  image-kept (scratch name) ch e =
      let h = scratch-done g img name ch e in
      (scratch-step g v img (accepted-of h.size h.contents h.checked) name ch e).accepted.size ∙ sym (size_of h.size)

-- the image keeps its length, accepted or not
pub image-length : (g : Geometry) → Valid g → (img block : Bytes) (c : Call) → length (host_call g img block c).image_after ≡ length img
unfolding perform reply
image-length g v img block c = by-block (λ r. length r.image_after ≡ length img) g img block c (λ h. go (attempt g img c) refl) refl
  where
    go : (x : Result Change) → attempt g img c ≡ x → length (reply img (output_buffer c) x).change.image_after ≡ length img
    go (refused f) e = refl
    go (done ch) e = image-kept g v img c ch e

out-kept : (g : Geometry) (img : Bytes) (c : Call) (ch : Change) → attempt g img c ≡ done ch → length ch.output_after ≡ length (output_buffer c)
unfolding attempt output_buffer call_check
out-kept g img check ch e = ap (λ (x : Change). length x.output_after) (sym (done_inj (then-done (check_image g img) _ ch e).2))
out-kept g img (format name i j) ch e = ap (λ (x : Change). length x.output_after) (sym (format-done g img name i j ch e).change)
out-kept g img (read name out) ch e =
    let h = read_done g img name out ch e in
    let b : Bytes = chain_data g (disk img) h.file.sectors in
    ap (λ (x : Change). length x.output_after) (sym h.change) ∙ length-splice out 0 b (omega (arith, h.fits))
out-kept g img (store name kind bs) ch e = ap (λ (x : Change). length x.output_after) (sym (store-done g img name kind bs ch e).change)
out-kept g img (scratch name) ch e = ap (λ (x : Change). length x.output_after) (sym (scratch-done g img name ch e).change)

-- and so does the output
pub out-length : (g : Geometry) (img block : Bytes) (c : Call) → length (host_call g img block c).output_after ≡ length (output_buffer c)
unfolding perform reply
out-length g img block c = by-block (λ r. length r.output_after ≡ length (output_buffer c)) g img block c (λ h. go (attempt g img c) refl) refl
  where
    go : (x : Result Change) → attempt g img c ≡ x → length (reply img (output_buffer c) x).change.output_after ≡ length (output_buffer c)
    go (refused f) e = refl
    go (done ch) e = out-kept g img c ch e
