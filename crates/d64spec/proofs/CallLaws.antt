-- What a call that is done says: each of its tests passed, and the change is the one that its last line gives. Every law about a done call cites these.
use Prim.Native.Nat.{ℕ, ◌≤◌}
use mathlib.Core.Path.{◌≡◌}
use mathlib.Core.Bool.{true}
use lib.ListN.{length}
use lib.Dec.{eqb, leb}
use borrow.Author.Tests.{eqb-true, leb-true}
use Rattle.d64spec.proofs.ResultLaws.{need-done, then-done, bind_done, done_inj}
use Rattle.d64spec.specs.Lists.{Bytes}
use Rattle.d64spec.specs.Answers.{bad_kind_argument, bad_name_argument, disk_full, done, first, name_exists, not_found, write_forbidden, wrong_buffer, wrong_size}
use Rattle.d64spec.specs.Geometry.{Geometry}
use Rattle.d64spec.specs.Image.{disk, image}
use Rattle.d64spec.specs.Chain.{chain_data}
use Rattle.d64spec.specs.Directory.{File, files}
use Rattle.d64spec.specs.Owner.{free_for_files}
use Rattle.d64spec.specs.Check.{DirectoryContents, check_disk, right_size}
use Rattle.d64spec.specs.Reply.{Change, changed, files_named, storable_kind, valid_name_argument, writable}
use Rattle.d64spec.specs.Format.{call_format, formatted_disk}
use Rattle.d64spec.specs.Read.{call_read, read_change}
use Rattle.d64spec.specs.Store.{SlotPlace, call_store, sectors_needed, slot_place_for, store_change}
use Rattle.d64spec.specs.Scratch.{call_scratch, scratch_change}

-- a format that is done
pub record FormatDone (g : Geometry) (img name : Bytes) (i j : ℕ) (ch : Change) : Type 0 where
  pub size : right_size g img ≡ true
  pub asked : valid_name_argument name ≡ true
  pub change : changed (image g (formatted_disk g name i j)) 0 0 ≡ ch

pub format-done : (g : Geometry) (img name : Bytes) (i j : ℕ) (ch : Change) → call_format g img name i j ≡ done ch → FormatDone g img name i j ch
unfolding call_format
format-done g img name i j ch e =
    let h1 = need-done (right_size g img) wrong_size _ ch e in
    let h2 = need-done (valid_name_argument name) bad_name_argument _ ch h1.1 in
    record { size = h1.0; asked = h2.0; change = done_inj h2.1 }

-- a read that is done
pub record ReadDone (g : Geometry) (img name out : Bytes) (ch : Change) : Type 0 where
  pub size : right_size g img ≡ true
  pub asked : valid_name_argument name ≡ true
  pub contents : DirectoryContents
  pub checked : check_disk g (disk img) ≡ done contents
  pub file : File
  pub found : first not_found (files_named name (files g (disk img))) ≡ done file
  pub fits : length (chain_data g (disk img) file.sectors) ≤ length out
  pub change : read_change g img out file ≡ ch

pub read_done : (g : Geometry) (img name out : Bytes) (ch : Change) → call_read g img name out ≡ done ch → ReadDone g img name out ch
unfolding call_read
read_done g img name out ch e =
    let h1 = need-done (right_size g img) wrong_size _ ch e in
    let h2 = need-done (valid_name_argument name) bad_name_argument _ ch h1.1 in
    let h3 = then-done (check_disk g (disk img)) _ ch h2.1 in
    let h4 = bind_done (first not_found (files_named name (files g (disk img)))) _ ch h3.2 in
    let h5 = need-done (leb (length (chain_data g (disk img) h4.0.sectors)) (length out)) wrong_buffer _ ch h4.2 in
    record { size = h1.0; asked = h2.0; contents = h3.0; checked = h3.1; file = h4.0; found = h4.1; fits = leb-true _ _ h5.0; change = done_inj h5.1 }

-- a store that is done
pub record StoreDone (g : Geometry) (img name : Bytes) (kind : ℕ) (bs : Bytes) (ch : Change) : Type 0 where
  pub size : right_size g img ≡ true
  pub asked : valid_name_argument name ≡ true
  pub kind-asked : storable_kind kind ≡ true
  pub contents : DirectoryContents
  pub checked : check_disk g (disk img) ≡ done contents
  pub may_write : writable g (disk img) ≡ true
  pub absent : length (files_named name (files g (disk img))) ≡ 0
  pub place : SlotPlace
  pub found : slot_place_for g (disk img) ≡ done place
  pub room : sectors_needed (length bs) ≤ length (free_for_files g (disk img))
  pub change : store_change g img place name kind bs ≡ ch

pub store-done : (g : Geometry) (img name : Bytes) (kind : ℕ) (bs : Bytes) (ch : Change) → call_store g img name kind bs ≡ done ch → StoreDone g img name kind bs ch
unfolding call_store
store-done g img name kind bs ch e =
    let h1 = need-done (right_size g img) wrong_size _ ch e in
    let h2 = need-done (valid_name_argument name) bad_name_argument _ ch h1.1 in
    let h3 = need-done (storable_kind kind) bad_kind_argument _ ch h2.1 in
    let h4 = then-done (check_disk g (disk img)) _ ch h3.1 in
    let h5 = need-done (writable g (disk img)) write_forbidden _ ch h4.2 in
    let h6 = need-done (eqb (length (files_named name (files g (disk img)))) 0) name_exists _ ch h5.1 in
    let h7 = bind_done (slot_place_for g (disk img)) _ ch h6.1 in
    let h8 = need-done (leb (sectors_needed (length bs)) (length (free_for_files g (disk img)))) disk_full _ ch h7.2 in
    record {
      size = h1.0;
      asked = h2.0;
      kind-asked = h3.0;
      contents = h4.0;
      checked = h4.1;
      may_write = h5.0;
      absent = eqb-true _ _ h6.0;
      place = h7.0;
      found = h7.1;
      room = leb-true _ _ h8.0;
      change = done_inj h8.1;
    }

-- a scratch that is done
pub record ScratchDone (g : Geometry) (img name : Bytes) (ch : Change) : Type 0 where
  pub size : right_size g img ≡ true
  pub asked : valid_name_argument name ≡ true
  pub contents : DirectoryContents
  pub checked : check_disk g (disk img) ≡ done contents
  pub may_write : writable g (disk img) ≡ true
  pub file : File
  pub found : first not_found (files_named name (files g (disk img))) ≡ done file
  pub change : scratch_change g img file ≡ ch

pub scratch-done : (g : Geometry) (img name : Bytes) (ch : Change) → call_scratch g img name ≡ done ch → ScratchDone g img name ch
unfolding call_scratch
scratch-done g img name ch e =
    let h1 = need-done (right_size g img) wrong_size _ ch e in
    let h2 = need-done (valid_name_argument name) bad_name_argument _ ch h1.1 in
    let h3 = then-done (check_disk g (disk img)) _ ch h2.1 in
    let h4 = need-done (writable g (disk img)) write_forbidden _ ch h3.2 in
    let h5 = bind_done (first not_found (files_named name (files g (disk img)))) _ ch h4.1 in
    record { size = h1.0; asked = h2.0; contents = h3.0; checked = h3.1; may_write = h4.0; file = h5.0; found = h5.1; change = done_inj h5.2 }
