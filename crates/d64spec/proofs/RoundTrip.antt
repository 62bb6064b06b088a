-- What is stored is what is read.
use Prim.Native.Nat.{ℕ, ◌≤◌}
use mathlib.Core.Path.{◌≡◌, sym, ap, ap₂, ◌∙◌, subst}
use mathlib.Core.Bool.{true}
use mathlib.Core.List.{List, ◌∷◌, ◌++◌, Memᴰ}
use lib.ListN.{length}
use Rattle.d64spec.proofs.CallLaws.{store-done}
use Rattle.d64spec.proofs.StoreStep.{store_step, store-enough}
use Rattle.d64spec.proofs.OtherBytes.{after-disk}
use Rattle.d64spec.proofs.ChangesTheorem.{Takes, store-takes, store-change, leaves}
use Rattle.d64spec.proofs.ExactTheorem.{read-gives}
use Rattle.d64spec.specs.Lists.{Bytes, splice}
use Rattle.d64spec.specs.Answers.{Address, done}
use Rattle.d64spec.specs.Geometry.{Geometry, Valid}
use Rattle.d64spec.specs.Image.{disk}
use Rattle.d64spec.specs.Chain.{chain_data}
use Rattle.d64spec.specs.Directory.{File, files, name_of}
use Rattle.d64spec.specs.Map.{rewrite_map}
use Rattle.d64spec.specs.Accepted.{Accepted}
use Rattle.d64spec.specs.Reply.{Change, reply, valid_name_argument}
use Rattle.d64spec.specs.Read.{call_read}
use Rattle.d64spec.specs.Store.{call_store, sectors_needed, stored_disk}
use Rattle.d64spec.specs.Changes.{added_sectors}

-- WHAT IS STORED IS READ: after a store that is done, a read of that name gives the bytes handed in, where the output has room, and reports their length and the sectors that they need
pub stored-read : (g : Geometry) → Valid g → (img : Bytes) → Accepted g img → (name : Bytes) (kind : ℕ) (bs : Bytes) (ch : Change) → call_store g img name kind bs ≡ done ch
    → (out : Bytes) → length bs ≤ length out
    → call_read g ch.image_after name out
    ≡ done (record { image_after = ch.image_after; output_after = splice out 0 bs; reported_length = length bs; reported_sectors = sectors_needed (length bs) })
unfolding stored_disk reply
stored-read g v img a name kind bs ch e out fits =
    let t : Takes g img bs = store-takes g img name kind bs ch e in
    let l : List Address = t.start ∷ t.others in
    let k = leaves g img name kind bs ch e t.place t.start t.others t.found t.sectors v a in
    let acc : Accepted g ch.image_after = (store_step g v img a name kind bs ch e).accepted in
    let z : disk ch.image_after ≡ rewrite_map g _
    = ap (λ (x : Change). disk x.image_after) (store-change g img name kind bs ch e t.place t.start t.others t.found t.sectors)
    ∙ after-disk g v img a _ (added_sectors t.place ++ l) k.prepared in
    let there : Memᴰ k.file (files g (disk ch.image_after)) = rw z k.there in
    let bytes : chain_data g (disk ch.image_after) k.file.sectors ≡ bs = rw (z, k.sectors) k.content in
    let many : length k.file.sectors ≡ sectors_needed (length bs) = ap length (k.sectors ∙ sym t.sectors) ∙ store-enough (store-done g img name kind bs ch e) in
    gives acc (store-done g img name kind bs ch e).asked k.file there k.named bytes many
  where
    -- the read of a file that is there, at these bytes and these sectors
    gives : Accepted g ch.image_after → valid_name_argument name ≡ true → (f : File) → Memᴰ f (files g (disk ch.image_after)) → name_of f.slot.bytes ≡ name
        → chain_data g (disk ch.image_after) f.sectors ≡ bs → length f.sectors ≡ sectors_needed (length bs)
        → call_read g ch.image_after name out
        ≡ done (record { image_after = ch.image_after; output_after = splice out 0 bs; reported_length = length bs; reported_sectors = sectors_needed (length bs) })
    gives acc asked f m named bytes many =
        read-gives g v ch.image_after acc name out asked f m named (subst (λ (y : Bytes). length y ≤ length out) (sym bytes) fits)
        ∙ ap₂ (λ (y : Bytes) (n : ℕ). done (record { image_after = ch.image_after; output_after = splice out 0 y; reported_length = length y; reported_sectors = n })) bytes many
