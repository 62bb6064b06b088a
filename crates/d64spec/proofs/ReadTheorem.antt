-- What is read and what is told: the one file of a name, whole; the file at a position; and how many bytes a file holds (01, Read; Tell; Chains).
use Prim.Native.Nat.{ℕ, zero, suc, ◌+◌, ◌*◌, ◌-◌, ◌/◌, ◌%◌, ◌≤◌, ◌<◌}
use native.Mathlib.Omega.{arith}
use mathlib.Core.Path.{◌≡◌, refl, sym, ap, ◌∙◌, subst}
use mathlib.Core.Bool.{Bool, true, false, cond}
use mathlib.Core.List.{List, [], ◌∷◌, ◌++◌, map, Memᴰ}
use lib.ListN.{length, drop, get_or}
use Rattle.d64spec.specs.Lists.{All, Bytes, byte, equal}
use Rattle.d64spec.specs.Answers.{Address, Fault, address, done, first, not_found, wrong_size}
use Rattle.d64spec.specs.Geometry.{Geometry, Valid, directory_start, on_disk, sector_number, total}
use Rattle.d64spec.specs.Image.{Disk, disk}
use Rattle.d64spec.specs.Chain.{Chain, Link, bad, chain_data, decode_file_link, ends, file_link, link_to, to}
use Rattle.d64spec.specs.Directory.{File, entry_byte, files, first_link, name_field, name_of, padded, plain_entry_of, plain_list, valid_name}
use Rattle.d64spec.specs.Check.{check_disk, right_size}
use Rattle.d64spec.specs.Accepted.{Accepted, AcceptedDisk, ValidEntry}
use Rattle.d64spec.specs.Reply.{Change, files_named}
use Rattle.d64spec.specs.Read.{FileInformation, call_read, call_tell}
use Rattle.d64spec.specs.Store.{last_of}
use Rattle.d64spec.specs.Call.{attempt, output_buffer, perform, read}
use Rattle.d64spec.specs.Facts.{FileLength, WasRead, WasTold}
use Rattle.d64spec.proofs.ListLaws.{eq-of-equal}
use Rattle.d64spec.proofs.ResultLaws.{need-done, then-done, bind_done, done_inj, refused≢done}
use Rattle.d64spec.proofs.BoundLaws.{file_link-on}
use Rattle.d64spec.proofs.RuleLaws.{name-exact}
use Rattle.d64spec.proofs.CallLaws.{read_done}
use Rattle.d64spec.proofs.ReadLaws.{first-kept}
use Rattle.d64spec.proofs.WalkLaws.{chain-on}
use Rattle.d64spec.proofs.CheckLaws.{first_link-on}
use Rattle.d64spec.proofs.ImageLaws.{disk-whole}
use Rattle.d64spec.proofs.SplitLaws.{mem-mid, all-mem}
use Rattle.d64spec.proofs.NamedLaws.{files_named-one}
use Rattle.d64spec.proofs.RefusalLaws.{zero-change}
use Rattle.d64spec.proofs.OtherBytes.{byte_small}
use Rattle.d64spec.proofs.LengthLaws.{data-byte, data-length}
use Rattle.d64spec.proofs.HostLaws.{accepted-of}

-- ---- links

-- a link to a sector is no end, and leads to that sector
link_to-to : (g : Geometry) (t s : ℕ) (r : Address) → link_to g t s ≡ to r → address t s ≡ r
unfolding link_to
link_to-to g t s r e = go (on_disk g (address t s)) e
  where
    go : (b : Bool) → cond b (to (address t s)) bad ≡ to r → address t s ≡ r
    go true e' = cc
    go false e' = absurd (let z : ◌≡◌ {A = ℕ} 0 1 = cc in omega arith)

pub link_to-ends : (g : Geometry) (t s : ℕ) → link_to g t s ≡ ends → ⊥
unfolding link_to
link_to-ends g t s e = go (on_disk g (address t s)) e
  where
    go : (b : Bool) → cond b (to (address t s)) bad ≡ ends → ⊥
    go true e' = let z : ◌≡◌ {A = ℕ} 0 1 = cc in omega arith
    go false e' = let z : ◌≡◌ {A = ℕ} 0 1 = cc in omega arith

-- the last link of a file has a second byte of 1 or more
decode-ends : (g : Geometry) (t n : ℕ) → decode_file_link g t n ≡ ends → 1 ≤ n
unfolding decode_file_link
decode-ends g zero zero e = absurd (let z : ◌≡◌ {A = ℕ} 0 1 = cc in omega arith)
decode-ends g zero (suc n) e = omega arith
decode-ends g (suc t) n e = absurd (link_to-ends g (suc t) n e)

chain-last : (g : Geometry) (step : Bytes → Link) (d : Disk) (k : Link) (r : Address) (l : List Address) → Chain g step d k (r ∷ l) → step (d (sector_number g (last_of r l))) ≡ ends
unfolding last_of
chain-last g step d k r [] c = c.1
chain-last g step d k r (q ∷ l) c = chain-last g step d (step (d (sector_number g r))) q l c.1

-- a file starts at the sector that its slot names
file-start : (g : Geometry) (d : Disk) (f : File) → ValidEntry g d f → (l : List Address) × (f.sectors ≡ address (entry_byte f.slot.bytes 0x03) (entry_byte f.slot.bytes 0x04) ∷ l)
unfolding first_link
file-start g d f e = go f.sectors e.chain
  where
    t : ℕ
    t = entry_byte f.slot.bytes 0x03

    s : ℕ
    s = entry_byte f.slot.bytes 0x04

    go : (m : List Address) → Chain g (file_link g) d (link_to g t s) m → (l : List Address) × (m ≡ address t s ∷ l)
    go [] c = absurd (link_to-ends g t s c)
    go (r ∷ l) c = (l, ap (λ (x : Address). x ∷ l) (sym (link_to-to g t s r c.0)))

-- ---- how many bytes a file holds

module _ (g : Geometry) (img : Bytes) (size : length img ≡ 256 * total g) where
  full : (l : List Address) → All (λ x. x < total g) (map (sector_number g) l) → All (λ r. length (disk img (sector_number g r)) ≡ 256) l
  full [] a = tt
  full (r ∷ l) a = ((disk-whole g img size).full (sector_number g r) a.0, full l a.1)

  entry_length : ((k : ℕ) → byte img k < 256) → (f : File) → ValidEntry g (disk img) f → FileLength g (disk img) f
  unfolding file_link last_of first_link
  entry_length small f e =
      let s = file-start g (disk img) f e in
      let r : Address = address (entry_byte f.slot.bytes 0x03) (entry_byte f.slot.bytes 0x04) in
      let l : List Address = s.0 in
      let c : Chain g (file_link g) (disk img) (first_link g (disk img) f.slot) (r ∷ l) = rw s.1 at e.chain in
      let on : All (λ x. x < total g) (map (sector_number g) (r ∷ l)) = chain-on g (file_link g) (disk img) (file_link-on g) (first_link g (disk img) f.slot) (r ∷ l) (first_link-on g (disk img) f.slot) c in
      let n : ℕ = byte (disk img (sector_number g (last_of r l))) 1 in
      let low : 1 ≤ n = decode-ends g (byte (disk img (sector_number g (last_of r l))) 0) n (chain-last g (file_link g) (disk img) (first_link g (disk img) f.slot) r l c) in
      let high : n ≤ 255 = omega (arith, byte_small img small (sector_number g (last_of r l)) 1) in
      let z : length (chain_data g (disk img) (r ∷ l)) ≡ 254 * length l + (n - 1) = data-length g (disk img) r l (full (r ∷ l) on) high in
      record { some = rw s.1 (omega arith); low = rw s.1 low; high = rw s.1 high; bytes = rw s.1 (omega arith) }

-- A FILE OF k SECTORS HOLDS 254(k-1) + n-1 BYTES: each file of an accepted image of bytes
pub file-length : (g : Geometry) (img : Bytes) → Accepted g img → ((k : ℕ) → byte img k < 256) → (f : File) → Memᴰ f (files g (disk img)) → FileLength g (disk img) f
file-length g img a small f m = entry_length g img a.size small f (all-mem (ValidEntry g (disk img)) m a.content.entry)

-- EACH BYTE OF A FILE, on an accepted image: byte i is byte 2 + i % 254 of the sector i / 254 of its chain. The default of get_or is met by no byte
pub file-bytes : (g : Geometry) (img : Bytes) → Accepted g img → (f : File) → Memᴰ f (files g (disk img))
    → (i : ℕ) → i < length (chain_data g (disk img) f.sectors)
    → byte (chain_data g (disk img) f.sectors) i ≡ byte (disk img (sector_number g (get_or f.sectors (i / 254) directory_start))) (2 + i % 254)
file-bytes g img a f m i h = bytes-at f.sectors on i h
  where
    e : ValidEntry g (disk img) f
    e = all-mem (ValidEntry g (disk img)) m a.content.entry

    on : All (λ x. x < total g) (map (sector_number g) f.sectors)
    on = chain-on g (file_link g) (disk img) (file_link-on g) (first_link g (disk img) f.slot) f.sectors (first_link-on g (disk img) f.slot) e.chain

    bytes-at : (l : List Address) → All (λ x. x < total g) (map (sector_number g) l) → (i : ℕ) → i < length (chain_data g (disk img) l)
        → byte (chain_data g (disk img) l) i ≡ byte (disk img (sector_number g (get_or l (i / 254) directory_start))) (2 + i % 254)
    bytes-at [] o i h = absurd (omega arith)
    bytes-at (r ∷ l) o i h = data-byte g (disk img) directory_start r l (full g img a.size (r ∷ l) o) i h

-- ---- read

mem-of-map : {A B : Type 0} (f : A → B) {x : A} {l : List A} → Memᴰ x l → Memᴰ (f x) (map f l)
mem-of-map f (mathlib.Core.List.Memᴰ.head e) = mathlib.Core.List.Memᴰ.head (ap f e)
mem-of-map f (mathlib.Core.List.Memᴰ.tail m) = mathlib.Core.List.Memᴰ.tail (mem-of-map f m)

module _ (g : Geometry) (v : Valid g) (img : Bytes) where
  was_read : (name out : Bytes) (ch : Change) → call_read g img name out ≡ done ch → WasRead g img name out ch
  unfolding files_named plain_list plain_entry_of
  was_read name out ch e =
      let r = read_done g img name out ch e in
      let f : File = r.file in
      let acc : Accepted g img = accepted-of g v img r.size r.contents r.checked in
      let a : AcceptedDisk g (disk img) = acc.content in
      let k = first-kept (λ f. equal name (name_of f.slot.bytes)) (ValidEntry g (disk img)) not_found (files g (disk img)) f a.entry r.found in
      record {
        accepted = acc;
        file = f;
        element = k.element;
        named = sym (eq-of-equal name (name_of f.slot.bytes) k.test);
        only = λ f' m e'. done_inj (sym (files_named-one name (files g (disk img)) f' m e' (a.names name)) ∙ r.found);
        listed = mem-of-map (plain_entry_of g (disk img)) k.element;
        room = r.fits;
        output = ap (λ (x : Change). x.output_after) (sym r.change);
        image = ap (λ (x : Change). x.image_after) (sym r.change);
        reported_length = ap (λ (x : Change). x.reported_length) (sym r.change);
        reported_sectors = ap (λ (x : Change). x.reported_sectors) (sym r.change);
      }

  -- WHAT IS READ: a read answered 0, on any image
  pub read-answered : (name out : Bytes) → (perform g img (read name out)).answer.number ≡ 0 → WasRead g img name out (perform g img (read name out)).change
  unfolding perform attempt output_buffer
  read-answered name out e = was_read name out (perform g img (read name out)).change (zero-change img out (call_read g img name out) e)

-- ---- tell

module _ {A : Type 0} where
  -- a list taken apart before its element number n
  record At (n : ℕ) (l : List A) (x : A) : Type 0 where
    front : List A
    back : List A
    whole : l ≡ front ++ x ∷ back
    place : length front ≡ n

  first-at : (f : Fault) (n : ℕ) (l : List A) (x : A) → first f (drop n l) ≡ done x → At n l x
  unfolding first
  first-at f zero [] x e = refused≢done f x e
  first-at f (suc n) [] x e = refused≢done f x e
  first-at f zero (y ∷ l) x e = record { front = []; back = l; whole = ap (λ (z : A). z ∷ l) (done_inj e); place = refl }
  first-at f (suc n) (y ∷ l) x e =
      let r = first-at f n l x e in
      record { front = y ∷ r.front; back = r.back; whole = ap (λ (z : List A). y ∷ z) r.whole; place = ap suc r.place }

valid-name : (b : Bytes) → valid_name b ≡ true → name_field b ≡ padded (name_of b)
unfolding padded
valid-name b e = ((name-exact b).0 e).padding

module _ (g : Geometry) (v : Valid g) (img : Bytes) where
  -- WHAT IS TOLD: the file at the position, counted from 0 among the occupied slots
  pub tell-done : (position : ℕ) (i : FileInformation) → call_tell g img position ≡ done i → WasTold g img position i
  unfolding call_tell
  tell-done position i e =
      let h1 = need-done (right_size g img) wrong_size _ i e in
      let h2 = then-done (check_disk g (disk img)) _ i h1.1 in
      let h3 = bind_done (first not_found (drop position (files g (disk img)))) _ i h2.2 in
      let f : File = h3.0 in
      let z = done_inj h3.2 in
      let acc : Accepted g img = accepted-of g v img h1.0 h2.0 h2.1 in
      let p = first-at not_found position (files g (disk img)) f h3.1 in
      let m : Memᴰ f (files g (disk img)) = subst (λ (l : List File). Memᴰ f l) (sym p.whole) (mem-mid p.front f p.back) in
      let y : ValidEntry g (disk img) f = all-mem (ValidEntry g (disk img)) m acc.content.entry in
      let s = file-start g (disk img) f y in
      record {
        accepted = acc;
        front = p.front;
        file = f;
        back = p.back;
        whole = p.whole;
        before = p.place;
        type_byte = ap (λ (x : FileInformation). x.type_byte) (sym z);
        name_bytes = ap (λ (x : FileInformation). x.name_bytes) (sym z) ∙ valid-name f.slot.bytes y.name;
        further = s.0;
        first = s.1 ∙ ap (λ (x : FileInformation). address x.first_track x.first_sector ∷ s.0) z;
        sector_count = ap (λ (x : FileInformation). x.sector_count) (sym z) ∙ y.sector_count;
        byte_length = ap (λ (x : FileInformation). x.byte_length) (sym z);
      }
