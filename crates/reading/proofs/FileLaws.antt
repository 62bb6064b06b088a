-- A file of a checked image, as its entry gives it (01, The directory; Chains): the chain from the entry's first sector on, and the file's length.
use Prim.Native.Nat.{ℕ, zero, suc, ◌<◌}
use native.Mathlib.Omega.{arith}
use mathlib.Core.Path.{◌≡◌, refl, sym, ap, ◌∙◌}
use mathlib.Core.Bool.{Bool, true, false, cond}
use mathlib.Core.List.{List, [], ◌∷◌, Memᴰ}
use lib.ListN.{length, drop}
use Rattle.d64spec.specs.Lists.{Bytes, byte}
use Rattle.d64spec.specs.Answers.{Address, Fault, done, first}
use Rattle.d64spec.specs.Geometry.{Geometry, on_disk}
use Rattle.d64spec.specs.Layouts.{Known}
use Rattle.d64spec.specs.Image.{disk}
use Rattle.d64spec.specs.Chain.{to, bad, link_to, file_link, Chain, chain_data}
use Rattle.d64spec.specs.Directory.{Slot, file_of, files, first_link, count_of}
use Rattle.d64spec.specs.Accepted.{Accepted, ValidEntry}
use Rattle.d64spec.proofs.ResultLaws.{done_inj, refused≢done}
use Rattle.d64spec.proofs.SplitLaws.{all-mem}
use Rattle.diskcheck.specs.EndTable.{end_of}
use Rattle.diskcheck.proofs.CheckedLaws.{end-tells}
use Rattle.reading.specs.ChainReads.{sectors_from, data_from, ChainFrom}
use Rattle.reading.specs.FileSlots.{first_of, FileEntry}
use Rattle.reading.proofs.ChainStepLaws.{chain-bad, sectors-first}

-- the file at a position is one of the files
pub first-drop : {A : Type 0} (f : Fault) (n : ℕ) (l : List A) (x : A) → first f (drop n l) ≡ done x → Memᴰ x l
unfolding first
first-drop f zero [] x e = refused≢done f x e
first-drop f (suc n) [] x e = refused≢done f x e
first-drop f zero (y ∷ l) x e = Memᴰ.head (sym (done_inj e))
first-drop f (suc n) (y ∷ l) x e = Memᴰ.tail (first-drop f n l x e)

module _ (g : Geometry) (img : Bytes) (s : Slot) where
  -- a slot's file starts at the sector that its entry names
  record Starts : Type 0 where
    on : on_disk g (first_of s.bytes) ≡ true
    sectors : (file_of g (disk img) s).sectors ≡ sectors_from g img (first_of s.bytes)
    chain : Chain g (file_link g) (disk img) (to (first_of s.bytes)) (file_of g (disk img) s).sectors

  starts : ValidEntry g (disk img) (file_of g (disk img) s) → Starts
  unfolding file_of first_link link_to sectors_from
  starts v = go (on_disk g (first_of s.bytes)) refl v.chain
    where
      go : (b : Bool) → on_disk g (first_of s.bytes) ≡ b
          → Chain g (file_link g) (disk img) (cond b (to (first_of s.bytes)) bad) (file_of g (disk img) s).sectors → Starts
      go true e c = record { on = e; sectors = rw e; chain = c }
      go false e c = chain-bad g (file_link g) (disk img) (file_of g (disk img) s).sectors c

module _ (g : Geometry) (kn : Known g) (img : Bytes) (a : Accepted g img) (s : Slot) (element : Memᴰ (file_of g (disk img) s) (files g (disk img))) where
  valid : ValidEntry g (disk img) (file_of g (disk img) s)
  valid = all-mem (ValidEntry g (disk img)) element a.content.entry

  pub sectors-of : (file_of g (disk img) s).sectors ≡ sectors_from g img (first_of s.bytes)
  sectors-of = (starts g img s valid).sectors

  pub chain-of : ChainFrom g img (first_of s.bytes)
  chain-of = let h = starts g img s valid in record { size = a.size; on = h.on; chain = rw h.sectors at h.chain }

  -- THE ENTRY OF A FILE of an accepted image of bytes, with where its data end
  pub entry_of : ((k : ℕ) → byte img k < 256) → length s.bytes ≡ 30 → {last : ℕ} → last ≡ end_of g img (file_of g (disk img) s).sectors
      → FileEntry g img s.bytes last
  unfolding file_of data_from
  entry_of small full {last} end =
      let l = end-tells g kn img a small (file_of g (disk img) s) element in
      let e = sectors-of in
      let count : count_of s.bytes ≡ length (sectors_from g img (first_of s.bytes)) = valid.sector_count ∙ ap length e in
      record {
        full = full;
        chain = chain-of;
        count = count;
        some = omega (arith, count, ap length (sectors-first chain-of).1);
        low = omega (arith, l.low, end);
        bytes = ap (λ (m : List Address). length (chain_data g (disk img) m)) (sym e) ∙ omega (arith, l.bytes, end, valid.sector_count);
      }
