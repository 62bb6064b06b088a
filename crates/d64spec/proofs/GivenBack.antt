-- What each call gives back (01, What demand 3 compares: "A call answered 0 gives back each sector that had an owner before it and has none after it"):
-- a check, a read and a store none, a scratch exactly the sectors of the file of that name, a format each owned sector but 18/0 and 18/1.
-- In order: an owner, and a claim; a call answered 0; the five calls.
use Prim.Native.Nat.{ℕ, ◌+◌, ◌<◌}
use native.Mathlib.Omega.{arith}
use mathlib.Core.Path.{◌≡◌, refl, sym, ap, ◌∙◌, subst}
use mathlib.Core.Bool.{Bool, true, false}
use mathlib.Core.Logic.{◌↔◌}
use mathlib.Core.List.{◌∷◌, ◌++◌, map, Memᴰ}
use lib.ListN.{length}
use lib.Dec.{eqb}
use borrow.Author.Tests.{eq-eqb, eqb-true, eqb-false, ne_eqb}
use Rattle.d64spec.specs.Lists.{Bytes, count, indicator}
use Rattle.d64spec.specs.Answers.{done}
use Rattle.d64spec.specs.Geometry.{Geometry, Valid, directory_start, map_address, sector_number}
use Rattle.d64spec.specs.Image.{Disk, disk, image}
use Rattle.d64spec.specs.Directory.{File, file_of, files, name_of}
use Rattle.d64spec.specs.Owner.{Among, Owner, Owns, claim_count, nobody, the_directory, the_file, the_map}
use Rattle.d64spec.specs.Map.{rewrite_map}
use Rattle.d64spec.specs.Check.{check_image}
use Rattle.d64spec.specs.Accepted.{Accepted}
use Rattle.d64spec.specs.Reply.{Change}
use Rattle.d64spec.specs.Store.{stored_disk}
use Rattle.d64spec.specs.Scratch.{scratched_disk}
use Rattle.d64spec.specs.Call.{Call, attempt, call_check, check, format, output_buffer, perform, read, scratch, store}
use Rattle.d64spec.specs.Host.{HostReply}
use Rattle.d64spec.specs.Run.{GivesBack, Request, after, serve}
use Rattle.d64spec.specs.Changes.{added_sectors}
use Rattle.d64spec.proofs.ResultLaws.{done_inj, then-done}
use Rattle.d64spec.proofs.CallLaws.{format-done, read_done}
use Rattle.d64spec.proofs.RefusalLaws.{zero-change}
use Rattle.d64spec.proofs.FrameLaws.{Sound}
use Rattle.d64spec.proofs.ImageLaws.{Whole, disk-whole, image-disk}
use Rattle.d64spec.proofs.MapWriteLaws.{rewrite-claims, rewrite-whole}
use Rattle.d64spec.proofs.ScratchLaws.{OccupiedSlot, claim_count-of, claims2}
use Rattle.d64spec.proofs.ScratchedLaws.{claims3, scratch-whole}
use Rattle.d64spec.proofs.ScratchStep.{Found, found, sound-of}
use Rattle.d64spec.proofs.FormatLaws.{blank_disk, blank-claims, blank-sound, blank-whole, formatted-same, name-short}
use Rattle.d64spec.proofs.OtherBytes.{after-disk}
use Rattle.d64spec.proofs.ChangesTheorem.{Takes, leaves, scratch-change, store-change, store-takes}
use Rattle.d64spec.proofs.HostLaws.{right-block, wrong-block}
use Rattle.d64spec.proofs.OwnerTheorem.{claims-some, map-claims, some-owner}

-- ---- an owner, and a claim

-- A SECTOR HAS AN OWNER exactly where there is a claim on it
pub owned-exact : (g : Geometry) (d : Disk) (n : ℕ) → (0 < claim_count g d n) ↔ ((o : Owner) × Owns g d o n × (o ≡ nobody → ⊥))
owned-exact g d n = (
  (λ h. let w = some-owner g d n in (w.0, w.1, λ e. let f : Owns g d nobody n = subst (λ (o : Owner). Owns g d o n) e w.1 in omega arith)),
  (λ w. go w.0 w.1 w.2),
)
  where
    go : (o : Owner) → Owns g d o n → (o ≡ nobody → ⊥) → 0 < claim_count g d n
    go the_map h e = omega (arith, claim_count-of g d n, map-claims g d n h)
    go the_directory h e = omega (arith, claim_count-of g d n)
    go nobody h e = absurd (e refl)
    go (the_file f) h e = omega (arith, claim_count-of g d n, claims-some g n (files g d) h.0 h.1)

-- ---- a call answered 0

-- the change of a request that was answered 0
pub record Answered (g : Geometry) (img : Bytes) (c : Call) (img' : Bytes) : Type 0 where
  pub change : Change
  pub attempted : attempt g img c ≡ done change
  pub image : img' ≡ change.image_after

pub answered-zero : (g : Geometry) (img : Bytes) (q : Request) → (serve g img q).number ≡ 0 → Answered g img q.call (after g img q)
unfolding perform
answered-zero g img q h = go (eqb (length q.block) 9) refl
  where
    go : (b : Bool) → eqb (length q.block) 9 ≡ b → Answered g img q.call (after g img q)
    go true t =
        let e = right-block g img q.block q.call (eqb-true (length q.block) 9 t) in
        record {
          change = (perform g img q.call).change;
          attempted = zero-change img (output_buffer q.call) (attempt g img q.call) (sym (ap (λ (r : HostReply). r.number) e) ∙ h);
          image = ap (λ (r : HostReply). r.image_after) e;
        }
    go false t = absurd (let z : (serve g img q).number ≡ 16 = ap (λ (r : HostReply). r.number) (wrong-block g img q.block q.call (eqb-false (length q.block) 9 t)) in omega arith)

module _ (g : Geometry) (img : Bytes) (q : Request) (n : ℕ) where
  -- the same of a call that is known
  answered-as : (c : Call) → q.call ≡ c → (serve g img q).number ≡ 0 → Answered g img c (after g img q)
  answered-as c is h = subst (λ (x : Call). Answered g img x (after g img q)) is (answered-zero g img q h)

  -- ---- check and read

  -- a call that leaves the image gives back none
  same-image : ((serve g img q).number ≡ 0 → after g img q ≡ img) → GivesBack g img q n → ⊥
  same-image same b = let z : claim_count g (disk (after g img q)) n ≡ claim_count g (disk img) n = ap (λ (x : Bytes). claim_count g (disk x) n) (same b.answered) in omega (arith, b.owned, b.freed)

  -- A CHECK GIVES BACK NONE
  pub check-gives-none : q.call ≡ check → GivesBack g img q n → ⊥
  unfolding attempt call_check
  check-gives-none is = same-image (λ h.
      let w = answered-as check is h in
      w.image ∙ ap (λ (x : Change). x.image_after) (sym (done_inj (then-done (check_image g img) _ w.change w.attempted).2)))

  -- A READ GIVES BACK NONE
  pub read-gives-none : (name out : Bytes) → q.call ≡ read name out → GivesBack g img q n → ⊥
  unfolding attempt
  read-gives-none name out is = same-image (λ h.
      let w = answered-as (read name out) is h in
      w.image ∙ ap (λ (x : Change). x.image_after) (sym (read_done g img name out w.change w.attempted).change))

  module _ (v : Valid g) where
    -- ---- store

    -- A STORE GIVES BACK NONE
    pub store-gives-none : Accepted g img → (name : Bytes) (kind : ℕ) (bs : Bytes) → q.call ≡ store name kind bs → GivesBack g img q n → ⊥
    unfolding attempt stored_disk
    store-gives-none a name kind bs is b =
        let w = answered-as (store name kind bs) is b.answered in
        let t : Takes g img bs = store-takes g img name kind bs w.change w.attempted in
        let k = leaves g img name kind bs w.change w.attempted t.place t.start t.others t.found t.sectors v a in
        let z : disk (after g img q) ≡ _ = ap disk (w.image ∙ ap (λ (x : Change). x.image_after) (store-change g img name kind bs w.change w.attempted t.place t.start t.others t.found t.sectors))
        ∙ after-disk g v img a _ (added_sectors t.place ++ (t.start ∷ t.others)) k.prepared in
        let same = ap (λ (x : Disk). claim_count g x n) z in
        omega (arith, b.owned, b.freed, k.claims n)

    -- ---- scratch

    -- the claims after a scratch are those before it without the file's
    scratch-claims : (a : Accepted g img) (f : File) → Found g (disk img) f → claim_count g (disk (image g (scratched_disk g (disk img) f))) n + count n (map (sector_number g) f.sectors) ≡ claim_count g (disk img) n
    unfolding scratched_disk file_of
    scratch-claims a f o =
        let d : Disk = disk img in
        let w : Whole g d = disk-whole g img a.size in
        let s : Sound g d = sound-of g d a.content in
        let p : OccupiedSlot g d = o.place in
        subst (λ (x : File). claim_count g (disk (image g (scratched_disk g d x))) n + count n (map (sector_number g) x.sectors) ≡ claim_count g d n) o.is
        (rw (image-disk g (scratched_disk g d (file_of g d p.slot)) (scratch-whole g v d w s p)) (omega (arith, claims3 g v d w s p n, claims2 g v d w s p n)))

    -- A SCRATCH GIVES BACK exactly the sectors of the file of that name
    pub scratch-gives-back : (a : Accepted g img) (name : Bytes) → q.call ≡ scratch name → (serve g img q).number ≡ 0
        → (f : File) → Memᴰ f (files g (disk img)) → name_of f.slot.bytes ≡ name → GivesBack g img q n ↔ Among g n f.sectors
    unfolding attempt
    scratch-gives-back a name is h f m named =
        let w = answered-as (scratch name) is h in
        let e : after g img q ≡ image g (scratched_disk g (disk img) f) = w.image ∙ ap (λ (x : Change). x.image_after) (scratch-change g img a name w.change w.attempted f m named) in
        let z : claim_count g (disk (after g img q)) n ≡ claim_count g (disk (image g (scratched_disk g (disk img) f))) n = ap (λ (x : Bytes). claim_count g (disk x) n) e in
        let c = scratch-claims a f (found g (disk img) f m) in (
          (λ b. omega (arith, b.owned, b.freed)),
          (λ k. record { answered = h; owned = omega arith; freed = omega (arith, a.content.once n) }),
        )

    -- ---- format

    -- A FORMAT GIVES BACK exactly what had an owner but 18/0 and 18/1
    pub format-gives-back : (name : Bytes) (id1 id2 : ℕ) → q.call ≡ format name id1 id2 → (serve g img q).number ≡ 0
        → GivesBack g img q n ↔ ((0 < claim_count g (disk img) n) × (n ≡ sector_number g map_address → ⊥) × (n ≡ sector_number g directory_start → ⊥))
    unfolding attempt
    format-gives-back name id1 id2 is h =
        let w = answered-as (format name id1 id2) is h in
        let k = format-done g img name id1 id2 w.change w.attempted in
        let short = name-short name k.asked in
        let b : Disk = blank_disk g name id1 id2 in
        let whole : Whole g b = blank-whole g v name id1 id2 short in
        let sound : Sound g b = blank-sound g v name id1 id2 short in
        let e : after g img q ≡ image g (rewrite_map g b) = w.image ∙ ap (λ (x : Change). x.image_after) (sym k.change) ∙ formatted-same g v name id1 id2 short in
        let z : claim_count g (disk (after g img q)) n ≡ indicator (eqb n (sector_number g map_address)) + indicator (eqb n (sector_number g directory_start)) =
        ap (λ (x : Disk). claim_count g x n) (ap disk e ∙ image-disk g (rewrite_map g b) (rewrite-whole g v b whole sound)) ∙ rewrite-claims g v b whole sound n ∙ blank-claims g v name id1 id2 short n in (
          (λ y. (
            y.owned,
            (λ same. let one : indicator (eqb n (sector_number g map_address)) ≡ 1 = ap indicator (eq-eqb n (sector_number g map_address) same) in omega (arith, y.freed)),
            (λ same. let one : indicator (eqb n (sector_number g directory_start)) ≡ 1 = ap indicator (eq-eqb n (sector_number g directory_start) same) in omega (arith, y.freed)),
          )),
          (λ y.
              let none : indicator (eqb n (sector_number g map_address)) ≡ 0 = ap indicator (ne_eqb n (sector_number g map_address) y.1) in
              let none' : indicator (eqb n (sector_number g directory_start)) ≡ 0 = ap indicator (ne_eqb n (sector_number g directory_start) y.2) in
              record { answered = h; owned = y.0; freed = omega arith }),
        )
