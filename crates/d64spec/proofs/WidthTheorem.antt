-- Every report fits the answer block, so that its nine bytes are bytes and give back the reply's numbers (01, Host calls).
use Prim.Native.Nat.{ℕ, zero, suc, ◌+◌, ◌*◌, ◌-◌, ◌≤◌, ◌<◌}
use native.Mathlib.Omega.{arith}
use mathlib.Core.Path.{◌≡◌, refl}
use mathlib.Core.Bool.{true}
use mathlib.Core.List.{List, [], ◌∷◌, map}
use lib.ListN.{length, drop, get_or, length-append, length-take, length-drop, length-map}
use lib.Dec.{eqb, leb}
use borrow.Author.Tests.{eq-eqb, leb-true, ne_eqb}
use Rattle.d64spec.specs.Lists.{All, Bytes, byte, equal, part, sum}
use Rattle.d64spec.specs.Answers.{Address, Answer, Fault, Result, ◌>>=◌, ◌>>◌, bad_kind_argument, bad_name_argument, directory_full, disk_full, done, first, name_exists, need, not_found, refused, write_forbidden, wrong_buffer, wrong_size}
use Rattle.d64spec.specs.Geometry.{Geometry, Valid, on_disk, sector_number, sectors_on, total, tracks}
use Rattle.d64spec.specs.Layouts.{layout_numbered}
use Rattle.d64spec.specs.Image.{Disk, disk}
use Rattle.d64spec.specs.Chain.{chain_data}
use Rattle.d64spec.specs.Directory.{File, Slot, files, name_of, occupied_in}
use Rattle.d64spec.specs.Owner.{free_for_directory, free_for_files}
use Rattle.d64spec.specs.Check.{DirectoryContents, check_directory, check_disk, check_image, right_size}
use Rattle.d64spec.specs.Accepted.{AcceptedDisk}
use Rattle.d64spec.specs.Reply.{Change, Reply, files_named, reply, storable_kind, valid_name_argument, writable}
use Rattle.d64spec.specs.Format.{call_format}
use Rattle.d64spec.specs.Read.{call_read, call_tell, tell_reply}
use Rattle.d64spec.specs.Store.{SlotPlace, call_store, empty_slots, in_empty_slot, in_new_sector, placement, sectors_needed, slot_place_for}
use Rattle.d64spec.specs.Scratch.{call_scratch}
use Rattle.d64spec.specs.Call.{Call, attempt, call_check, check, format, output_buffer, perform, read, scratch, store}
use Rattle.d64spec.specs.Listing.{call_listing, disk_of_track18, list_slots, listing_reply, listing_text}
use Rattle.d64spec.specs.Host.{answer_block, host_call, host_call_in, perform_in}
use Rattle.d64spec.specs.Facts.{AnswerFits, GivesBackReply, ReplyFits}
use Rattle.d64spec.proofs.PigeonholeLaws.{pigeon}
use Rattle.d64spec.proofs.BoundLaws.{file-bound, sector_number-lt}
use Rattle.d64spec.proofs.ReadLaws.{first-kept}
use Rattle.d64spec.proofs.CheckLaws.{disk-sound}
use Rattle.d64spec.proofs.FrameLaws.{all_map}
use Rattle.d64spec.proofs.StoreStep.{placement-length, placement-taken}
use Rattle.d64spec.proofs.LayoutLaws.{known, layout-cases}
use Rattle.d64spec.proofs.HostLaws.{four_bytes_lem, right-block, two_bytes}
use Rattle.d64spec.proofs.OutcomeLaws.{Outcome, Refusals, bind-outcome, then-outcome, need-outcome, first-refusals, list_slots-refusals}
use Rattle.d64spec.proofs.PlaceLaws.{FaultFits, check_directory-fits, check_disk-fits, entry-fits, plain_fits, slots-fit}

-- ---- lengths

-- the data of a chain: at most 254 bytes in each sector
data-le : (g : Geometry) (d : Disk) → ((n : ℕ) → length (d n) ≤ 256) → (l : List Address) → length (chain_data g d l) ≤ 254 * length l
data-le g d w [] = omega arith
data-le g d w (r ∷ []) =
    let s : Bytes = d (sector_number g r) in
    omega (arith, length-take (byte s 1 + 1 - 2) (drop 2 s), length-drop 2 s, w (sector_number g r))
data-le g d w (r ∷ q ∷ l) =
    let s : Bytes = d (sector_number g r) in
    omega (arith, length-append (part 2 255 s) (chain_data g d (q ∷ l)), length-take 254 (drop 2 s), data-le g d w (q ∷ l))

sector-le : (img : Bytes) (n : ℕ) → length (disk img n) ≤ 256
unfolding disk
sector-le img n = omega (arith, length-take 256 (drop (256 * n) img))

needed-le : (n : ℕ) → n ≤ 254 * sectors_needed n
unfolding sectors_needed
needed-le zero = omega arith
needed-le (suc n) = rw (ne_eqb (suc n) 0 (λ e. omega arith)) (omega arith)

-- so many sectors for files are there
placement-le : (g : Geometry) (d : Disk) (k : ℕ) → k ≤ length (free_for_files g d) → k ≤ total g
placement-le g d k h =
    let t = placement-taken g d k in
    omega (arith, pigeon (total g) (map (sector_number g) (placement g d k)) (below (placement g d k) t.on) t.few, length-map (placement g d k) (sector_number g), placement-length g d k h)
  where
    below : (l : List Address) → All (λ r. on_disk g r ≡ true) l → All (λ x. x < total g) (map (sector_number g) l)
    below [] a = tt
    below (r ∷ l) a = (sector_number-lt g r a.0, below l a.1)

sum-le24 : (l : List ℕ) → ((t : ℕ) → get_or l t 0 ≤ 24) → sum l ≤ 24 * length l
sum-le24 [] f = omega arith
sum-le24 (x ∷ l) f = omega (arith, f 0, sum-le24 l (λ t. f (suc t)))

total-le : (g : Geometry) → Valid g → total g ≤ 24 * tracks g
unfolding total tracks sectors_on
total-le g v = sum-le24 g.counts (λ t. v.small (suc t))

-- ---- the calls

-- what a call that is done reports: no more bytes and sectors than the disk has
pub record ReportFits (g : Geometry) (ch : Change) : Type 0 where
  pub bytes : ch.reported_length ≤ 254 * total g
  pub sectors : ch.reported_sectors ≤ total g

module _ (g : Geometry) (v : Valid g) (few : tracks g < 256) (img : Bytes) where
  -- the length and the sectors of a file that a call finds
  file-report : (name : Bytes) (c : DirectoryContents) → check_disk g (disk img) ≡ done c → (f : File) → first not_found (files_named name (files g (disk img))) ≡ done f
      → (length (chain_data g (disk img) f.sectors) ≤ 254 * total g) × (length f.sectors ≤ total g)
  unfolding files_named
  file-report name c e f h =
      let a : AcceptedDisk g (disk img) = (disk-sound g v (disk img) c e).0 in
      let k = first-kept (λ f. equal name (name_of f.slot.bytes)) (λ f. length f.sectors ≤ total g - 2) not_found (files g (disk img)) f (file-bound g (disk img) v a) h in
      let b : length f.sectors ≤ total g - 2 = k.fact in
      (omega (arith, data-le g (disk img) (sector-le img) f.sectors), omega arith)

  slot_place-fits : Refusals FaultFits (slot_place_for g (disk img))
  unfolding slot_place_for
  slot_place-fits = go (empty_slots g (disk img))
    where
      go : (l : List Slot) → Refusals {A = SlotPlace} FaultFits (elim l as (λ x. Result SlotPlace) [ [] ↦ first directory_full (free_for_directory g (disk img)) >>= (λ r. done (in_new_sector r)) | s ∷ l ↦ done (in_empty_slot s) ])
      go [] = bind-outcome FaultFits (λ x. Unit {0}) (first directory_full (free_for_directory g (disk img))) _ (first-refusals FaultFits directory_full (free_for_directory g (disk img)) (plain_fits 14 (omega arith))) (λ r e. tt)
      go (s ∷ l) = tt

  -- a call's outcome fits
  abbrev Fits : Result Change → Type 0
  Fits x = Outcome FaultFits (ReportFits g) x

  sized-fits : (r : Result Change) → Fits r → Fits (need (right_size g img) wrong_size >> r)
  sized-fits r h = need-outcome FaultFits (ReportFits g) (right_size g img) wrong_size r (plain_fits 1 (omega arith)) (λ e. h)

  named-fits : (name : Bytes) (r : Result Change) → Fits r → Fits (need (valid_name_argument name) bad_name_argument >> r)
  named-fits name r h = need-outcome FaultFits (ReportFits g) (valid_name_argument name) bad_name_argument r (plain_fits 9 (omega arith)) (λ e. h)

  checked-fits : (r : Result Change) → ((c : DirectoryContents) → check_disk g (disk img) ≡ done c → Fits r) → Fits (check_disk g (disk img) >> r)
  checked-fits r h = then-outcome FaultFits (ReportFits g) (check_disk g (disk img)) r (check_disk-fits g v few (disk img)) h

  allowed-fits : (r : Result Change) → Fits r → Fits (need (writable g (disk img)) write_forbidden >> r)
  allowed-fits r h = need-outcome FaultFits (ReportFits g) (writable g (disk img)) write_forbidden r (plain_fits 11 (omega arith)) (λ e. h)

  found-fits : (name : Bytes) (k : File → Result Change) → ((f : File) → first not_found (files_named name (files g (disk img))) ≡ done f → Fits (k f))
      → Fits (first not_found (files_named name (files g (disk img))) >>= k)
  found-fits name k h =
      bind-outcome FaultFits (ReportFits g) (first not_found (files_named name (files g (disk img)))) k (first-refusals FaultFits not_found (files_named name (files g (disk img))) (plain_fits 13 (omega arith))) h

  pub attempt-fits : (c : Call) → Fits (attempt g img c)
  unfolding attempt call_check check_image call_format call_read call_store call_scratch
  attempt-fits check =
      then-outcome FaultFits (ReportFits g) (check_image g img) _
      (need-outcome FaultFits (λ x. Unit {0}) (right_size g img) wrong_size _ (plain_fits 1 (omega arith)) (λ s. check_disk-fits g v few (disk img)))
      (λ x e. record { bytes = omega arith; sectors = omega arith })
  attempt-fits (format name i j) = sized-fits _ (named-fits name _ (record { bytes = omega arith; sectors = omega arith }))
  attempt-fits (read name out) =
      sized-fits _ (named-fits name _ (checked-fits _ (λ c e. found-fits name _ (λ f h.
      need-outcome FaultFits (ReportFits g) (leb (length (chain_data g (disk img) f.sectors)) (length out)) wrong_buffer _ (plain_fits 16 (omega arith)) (λ b.
      let k = file-report name c e f h in record { bytes = k.0; sectors = k.1 })))))
  attempt-fits (store name kind bs) =
      sized-fits _ (named-fits name _
      (need-outcome FaultFits (ReportFits g) (storable_kind kind) bad_kind_argument _ (plain_fits 10 (omega arith)) (λ k. checked-fits _ (λ c e. allowed-fits _
      (need-outcome FaultFits (ReportFits g) (eqb (length (files_named name (files g (disk img)))) 0) name_exists _ (plain_fits 12 (omega arith)) (λ n.
      bind-outcome FaultFits (ReportFits g) (slot_place_for g (disk img)) _ slot_place-fits (λ p q.
      need-outcome FaultFits (ReportFits g) (leb (sectors_needed (length bs)) (length (free_for_files g (disk img)))) disk_full _ (plain_fits 15 (omega arith)) (λ r.
      let b : sectors_needed (length bs) ≤ total g = placement-le g (disk img) (sectors_needed (length bs)) (leb-true (sectors_needed (length bs)) (length (free_for_files g (disk img))) r) in
      record { bytes = omega (arith, needed-le (length bs)); sectors = b }))))))))
  attempt-fits (scratch name) =
      sized-fits _ (named-fits name _ (checked-fits _ (λ c e. allowed-fits _ (found-fits name _ (λ f h.
      let k = file-report name c e f h in record { bytes = k.0; sectors = k.1 })))))

  -- EVERY REPORT FITS THE ANSWER BLOCK: the reply to every call, on every image
  pub reply-fits : (c : Call) → ReplyFits (perform g img c)
  unfolding perform reply
  reply-fits c = go (attempt g img c) (attempt-fits c)
    where
      go : (x : Result Change) → Outcome FaultFits (ReportFits g) x → ReplyFits (reply img (output_buffer c) x)
      go (refused f) p = record { answer = p; reported_length = omega arith; reported_sectors = omega arith }
      go (done ch) p = record {
        answer = plain_fits 0 (omega arith);
        reported_length = omega (arith, p.bytes, total-le g v);
        reported_sectors = omega (arith, p.sectors, total-le g v);
      }

-- ---- tell and the listing, which have no block: their answers fit all the same

answer-fits : {A : Type 0} (f : Result A → Answer) (x : Result A) → ((y : Fault) → FaultFits y → AnswerFits (f (refused y))) → ((y : A) → AnswerFits (f (done y)))
    → Refusals FaultFits x → AnswerFits (f x)
answer-fits f (refused y) r d p = r y p
answer-fits f (done y) r d p = d y

module _ (g : Geometry) (v : Valid g) (few : tracks g < 256) where
  pub tell-fits : (img : Bytes) (position : ℕ) → AnswerFits (tell_reply (call_tell g img position)).answer
  unfolding call_tell tell_reply
  tell-fits img position =
      answer-fits (λ x. (tell_reply x).answer) (call_tell g img position) (λ f p. p) (λ i. plain_fits 0 (omega arith))
      (need-outcome FaultFits (λ x. Unit {0}) (right_size g img) wrong_size _ (plain_fits 1 (omega arith))
      (λ s. then-outcome FaultFits (λ x. Unit {0}) (check_disk g (disk img)) _ (check_disk-fits g v few (disk img))
      (λ c e. bind-outcome FaultFits (λ x. Unit {0}) (first not_found (drop position (files g (disk img)))) _ (first-refusals FaultFits not_found (drop position (files g (disk img))) (plain_fits 13 (omega arith)))
      (λ f h. tt))))

  pub listing-answer-fits : (b out : Bytes) → AnswerFits (listing_reply out (call_listing g b out)).answer
  unfolding call_listing listing_reply
  listing-answer-fits b out =
      answer-fits (λ x. (listing_reply out x).answer) (call_listing g b out) (λ f p. p) (λ l. plain_fits 0 (omega arith))
      (need-outcome FaultFits (λ x. Unit {0}) (eqb (length b) (256 * sectors_on g 18)) wrong_size _ (plain_fits 1 (omega arith))
      (λ s. bind-outcome FaultFits (λ x. Unit {0}) (check_directory g (disk_of_track18 g b)) _ (check_directory-fits g v few (disk_of_track18 g b))
      (λ ds e. then-outcome FaultFits (λ x. Unit {0}) (list_slots [] (occupied_in g (disk_of_track18 g b) ds)) _
      (list_slots-refusals FaultFits [] (occupied_in g (disk_of_track18 g b) ds) (all_map (entry-fits g v few) (occupied_in g (disk_of_track18 g b) ds) (slots-fit g v few (disk_of_track18 g b) ds e)))
      (λ x e'. need-outcome FaultFits (λ x. Unit {0}) (leb (length (listing_text g (disk_of_track18 g b) (occupied_in g (disk_of_track18 g b) ds))) (length out)) wrong_buffer _ (plain_fits 16 (omega arith)) (λ r. tt)))))

-- ---- the block

-- THE BLOCK GIVES BACK A REPLY THAT FITS
pub block-gives : (r : Reply) → ReplyFits r → GivesBackReply (answer_block r) r
unfolding answer_block
block-gives r f = record {
  size = refl;
  bytes = λ i. go i;
  track = refl;
  sector = refl;
  slot = refl;
  reported_length = four_bytes_lem r.change.reported_length f.reported_length;
  reported_sectors = two_bytes r.change.reported_sectors f.reported_sectors;
}
  where
    go : (i : ℕ) → byte (answer_block r) i < 256
    go zero = f.answer.track
    go (suc zero) = f.answer.sector
    go (suc (suc zero)) = f.answer.slot
    go (suc (suc (suc zero))) = omega arith
    go (suc (suc (suc (suc zero)))) = omega arith
    go (suc (suc (suc (suc (suc zero))))) = omega arith
    go (suc (suc (suc (suc (suc (suc zero)))))) = omega arith
    go (suc (suc (suc (suc (suc (suc (suc zero))))))) = omega arith
    go (suc (suc (suc (suc (suc (suc (suc (suc zero)))))))) = omega arith
    go (suc (suc (suc (suc (suc (suc (suc (suc (suc i))))))))) = omega arith

-- the block after a host call that was lent nine bytes
pub host-gives : (g : Geometry) → Valid g → tracks g < 256 → (img block : Bytes) (c : Call) → length block ≡ 9 → GivesBackReply (host_call g img block c).block_after (perform g img c)
host-gives g v few img block c h = rw (right-block g img block c h) (block-gives (perform g img c) (reply-fits g v few img c))

-- ---- a call that names its layout by any number (02, §8)

pub reply-fits-in : (n : ℕ) (img : Bytes) (c : Call) → ReplyFits (perform_in n img c)
unfolding perform_in perform reply
reply-fits-in n img c =
    layout-cases (ReplyFits (perform_in n img c)) n in-layout
    (λ e. rw e (record { answer = plain_fits 17 (omega arith); reported_length = omega arith; reported_sectors = omega arith }))
  where
    in-layout : (g : Geometry) → layout_numbered n ≡ done g → ReplyFits (perform_in n img c)
    in-layout g e = rw e (reply-fits g (known n g e).valid (omega (arith, (known n g e).few)) img c)

pub host-gives-in : (n : ℕ) (img block : Bytes) (c : Call) → length block ≡ 9 → GivesBackReply (host_call_in n img block c).block_after (perform_in n img c)
unfolding host_call_in
host-gives-in n img block c h = rw (eq-eqb (length block) 9 h) (block-gives (perform_in n img c) (reply-fits-in n img c))
