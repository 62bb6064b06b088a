-- A scratch that is done.
use Prim.Native.Nat.{ℕ, ◌<◌, ◌-◌}
use mathlib.Core.Path.{◌≡◌, refl, sym, ap, ◌∙◌}
use mathlib.Core.List.Perm
use mathlib.Core.List.{List, [], ◌∷◌, Perm, Memᴰ}
use lib.ListN.{length}
use Rattle.d64spec.specs.Lists.{All, Bytes, equal, zeros}
use Rattle.d64spec.specs.Answers.{done, not_found}
use Rattle.d64spec.specs.Geometry.{Geometry, Valid, total}
use Rattle.d64spec.specs.Image.{Disk, disk, image}
use Rattle.d64spec.specs.Directory.{File, directory_sectors, file_of, files, name_of, occupied, plain_list, slots_from}
use Rattle.d64spec.specs.Owner.{claim_count}
use Rattle.d64spec.specs.Accepted.{Accepted, AcceptedDisk}
use Rattle.d64spec.specs.Reply.{Change, files_named, reply}
use Rattle.d64spec.specs.Scratch.{call_scratch, scratched_disk}
use Rattle.d64spec.specs.Call.{Call, scratch}
use Rattle.d64spec.specs.Host.{HostReply, host_reply}
use Rattle.d64spec.specs.Run.{ReadReports, plain_list_after}
use Rattle.d64spec.proofs.ListLaws.{eq-of-equal}
use Rattle.d64spec.proofs.CallLaws.{ScratchDone, scratch-done}
use Rattle.d64spec.proofs.ReadLaws.{first-kept}
use Rattle.d64spec.proofs.RunLaws.{StepHolds}
use Rattle.d64spec.proofs.FrameLaws.{Sound}
use Rattle.d64spec.proofs.ImageLaws.{Whole, disk-whole, image-size, image-disk}
use Rattle.d64spec.proofs.SplitLaws.{split-at-mem, all-mem, mem-filter, mem-map}
use Rattle.d64spec.proofs.SlotLaws.{Placed, slots-placed}
use Rattle.d64spec.proofs.ScratchLaws.{OccupiedSlot, is_occupied}
use Rattle.d64spec.proofs.ScratchedLaws.{scratch-whole, scratch-accepted, scratch-plain_list, scratch-given, scratch-kept}

-- a reply that leaves the image of a disk
pub disk-step : (g : Geometry) (img : Bytes) (c : Call) (r : HostReply) (e : Disk) → r.image_after ≡ image g e → Whole g e → AcceptedDisk g e
    → Perm (plain_list g e) (plain_list_after (plain_list g (disk img)) c r.number)
    → ((n : ℕ) → n < total g → 0 < claim_count g (disk img) n → claim_count g e n ≡ 0 → e n ≡ zeros 256)
    → ((n : ℕ) → n < total g → claim_count g (disk img) n ≡ 0 → claim_count g e n ≡ 0 → disk img n ≡ zeros 256 → e n ≡ zeros 256)
    → ReadReports g (total g - 2) img c r → StepHolds g img c r
disk-step g img c r e z w a h given kept reported =
    let q : disk r.image_after ≡ e = ap disk z ∙ image-disk g e w in
    record {
      accepted = record { size = ap length z ∙ image-size g e w; content = rw q a };
      holds = rw q h;
      given = λ n b o f. ap (λ (x : Disk). x n) q ∙ given n b o (rw q at f);
      kept = λ n b o f y. ap (λ (x : Disk). x n) q ∙ kept n b o (rw q at f) y;
      read = reported;
    }

pub sound-of : (g : Geometry) (d : Disk) → AcceptedDisk g d → Sound g d
sound-of g d a = record { directory = a.directory; entry = a.entry; names = a.names; once = a.once }

-- a file of a disk: its slot among the slots
pub record Found (g : Geometry) (d : Disk) (f : File) : Type 0 where
  pub place : OccupiedSlot g d
  pub is : file_of g d place.slot ≡ f

pub found : (g : Geometry) (d : Disk) (f : File) → Memᴰ f (files g d) → Found g d f
unfolding files occupied
found g d f m =
    let a = mem-map (file_of g d) (occupied g d) m in
    let b = mem-filter is_occupied (slots_from g d 0 (directory_sectors g d)) a.1 in
    record {
      place = record { slot = a.0; split = split-at-mem b.0; used = b.1; placed = all-mem (Placed g (directory_sectors g d)) b.0 (slots-placed g d 0 (directory_sectors g d)) };
      is = a.2;
    }

all-unit : {A : Type 0} (l : List A) → All (λ x. Unit {0}) l
all-unit [] = tt
all-unit (x ∷ l) = (tt, all-unit l)

-- a scratch that is done has found a file of that name
pub scratch-finds : {g : Geometry} {img name : Bytes} {ch : Change} (h : ScratchDone g img name ch) → Memᴰ h.file (files g (disk img)) × (name ≡ name_of h.file.slot.bytes)
unfolding files_named
scratch-finds {g} {img} {name} h =
    let k = first-kept (λ f. equal name (name_of f.slot.bytes)) (λ f. Unit {0}) not_found (files g (disk img)) h.file (all-unit (files g (disk img))) h.found in
    (k.element, eq-of-equal name (name_of h.file.slot.bytes) k.test)

module _ (g : Geometry) (v : Valid g) (img : Bytes) (a : Accepted g img) where
  by-found : (name : Bytes) (f : File) (r : HostReply) → Found g (disk img) f → name ≡ name_of f.slot.bytes → r.number ≡ 0
      → r.image_after ≡ image g (scratched_disk g (disk img) f) → StepHolds g img (scratch name) r
  unfolding scratched_disk plain_list_after file_of
  by-found name f r o e n z =
      let d : Disk = disk img in
      let w : Whole g d = disk-whole g img a.size in
      let q : Sound g d = sound-of g d a.content in
      let p : OccupiedSlot g d = o.place in
      let z' : r.image_after ≡ image g (scratched_disk g d (file_of g d p.slot)) = z ∙ ap (λ (x : File). image g (scratched_disk g d x)) (sym o.is) in
      let e' : name ≡ name_of p.slot.bytes = e ∙ ap (λ (x : File). name_of x.slot.bytes) (sym o.is) in
      disk-step g img (scratch name) r (scratched_disk g d (file_of g d p.slot)) z' (scratch-whole g v d w q p) (scratch-accepted g v d w q p)
      (rw (n, e') (rw (scratch-plain_list g v d w q p) (Perm.refl _)))
      (λ m b. scratch-given g v d w q p m)
      (λ m b h k y. scratch-kept g v d w q p m h k ∙ y)
      tt

  pub scratch-step : (name : Bytes) (ch : Change) → call_scratch g img name ≡ done ch → StepHolds g img (scratch name) (host_reply (reply img [] (done ch)))
  unfolding reply
  scratch-step name ch e =
      let h : ScratchDone g img name ch = scratch-done g img name ch e in
      let k = scratch-finds h in
      by-found name h.file (host_reply (reply img [] (done ch))) (found g (disk img) h.file k.0) k.1 refl (ap (λ (x : Change). x.image_after) (sym h.change))
