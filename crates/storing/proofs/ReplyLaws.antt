-- Replies to a store (01, Answer numbers; Store): what the definitions answer, refusal by refusal, and that the code's result says the same.
-- In order: the kind; refusals in document 01's order; a store that is done; results.
use Prim.Native.Nat.{ℕ, ◌*◌, ◌≤◌, ◌<◌}
use mathlib.Core.Path.{◌≡◌, refl}
use mathlib.Core.Bool.{true, false}
use mathlib.Core.List.{[]}
use lib.ListN.{length}
use lib.Dec.{eqb}
use borrow.Author.Tests.{eq-eqb, le-leb, lt-leb}
use Rattle.d64spec.specs.Lists.{Bytes}
use Rattle.d64spec.specs.Answers.{Fault, refused, done, wrong_size, bad_name_argument, bad_kind_argument, write_forbidden, name_exists, directory_full}
use Rattle.d64spec.specs.Answers.{disk_full}
use Rattle.d64spec.specs.Geometry.{Geometry, total}
use Rattle.d64spec.specs.Image.{disk}
use Rattle.d64spec.specs.Directory.{files}
use Rattle.d64spec.specs.Owner.{free_for_files}
use Rattle.d64spec.specs.Check.{DirectoryContents, check_image}
use Rattle.d64spec.specs.Reply.{reply, valid_name_argument, storable_kind, writable, files_named}
use Rattle.d64spec.specs.Store.{SlotPlace, slot_place_for, sectors_needed, store_change, call_store}
use Rattle.d64spec.specs.Call.{store, perform, attempt, output_buffer}
use Rattle.std.specs.Prelude.{Ok, Err}
use Rattle.entry.specs.declared.Kind.{Kind}
use Rattle.entry.specs.declared.Kind.TheVariants.{Seq, Prg}
use Rattle.entry.specs.Entry.{number_of_kind}
use Rattle.answers.specs.declared.Fault as code
use Rattle.answers.specs.Faults.{fault_of, called_answer, reported, reply_of}
use Rattle.answers.proofs.RefusedLaws.{call-refused, size-true, size-false, check-sized}

-- ---- the kind

-- the kinds that the code's enum has are those that a store takes (01, Answer numbers: 10; 02, §12)
pub kind-storable : (k : Kind) → storable_kind (number_of_kind k) ≡ true
unfolding storable_kind
kind-storable Seq = refl
kind-storable Prg = refl

-- ---- refusals

module _ (g : Geometry) (img name : Bytes) (kind : ℕ) (bs : Bytes) where
  pub store-size : (length img ≡ 256 * total g → ⊥) → call_store g img name kind bs ≡ refused wrong_size
  unfolding call_store
  store-size h = rw (size-false g img h)

  module _ (size : length img ≡ 256 * total g) where
    pub store-name : valid_name_argument name ≡ false → call_store g img name kind bs ≡ refused bad_name_argument
    unfolding call_store
    store-name asked = rw (size-true g img size, asked)

    module _ (asked : valid_name_argument name ≡ true) where
      pub store-kind : storable_kind kind ≡ false → call_store g img name kind bs ≡ refused bad_kind_argument
      unfolding call_store
      store-kind kind_asked = rw (size-true g img size, asked, kind_asked)

      module _ (kind_asked : storable_kind kind ≡ true) where
        pub store-fault : {f : Fault} → check_image g img ≡ refused f → call_store g img name kind bs ≡ refused f
        unfolding call_store
        store-fault e = rw (size-true g img size, asked, kind_asked, check-sized g img (size-true g img size) e)

        module _ {c : DirectoryContents} (checked : check_image g img ≡ done c) where
          pub store-forbidden : writable g (disk img) ≡ false → call_store g img name kind bs ≡ refused write_forbidden
          unfolding call_store
          store-forbidden may = rw (size-true g img size, asked, kind_asked, check-sized g img (size-true g img size) checked, may)

          module _ (may : writable g (disk img) ≡ true) where
            pub store-exists : eqb (length (files_named name (files g (disk img)))) 0 ≡ false → call_store g img name kind bs ≡ refused name_exists
            unfolding call_store
            store-exists there = rw (size-true g img size, asked, kind_asked, check-sized g img (size-true g img size) checked, may, there)

            module _ (absent : length (files_named name (files g (disk img))) ≡ 0) where
              absent-true : eqb (length (files_named name (files g (disk img)))) 0 ≡ true
              absent-true = eq-eqb (length (files_named name (files g (disk img)))) 0 absent

              pub store-full : slot_place_for g (disk img) ≡ refused directory_full → call_store g img name kind bs ≡ refused directory_full
              unfolding call_store
              store-full e = rw (size-true g img size, asked, kind_asked, check-sized g img (size-true g img size) checked, may, absent-true, e)

              module _ {place : SlotPlace} (found : slot_place_for g (disk img) ≡ done place) where
                pub store-no-room : length (free_for_files g (disk img)) < sectors_needed (length bs) → call_store g img name kind bs ≡ refused disk_full
                unfolding call_store
                store-no-room h =
                    rw (
                      size-true g img size,
                      asked,
                      kind_asked,
                      check-sized g img (size-true g img size) checked,
                      may,
                      absent-true,
                      found,
                      lt-leb
                          (sectors_needed (length bs)) (length (free_for_files g (disk img))) h,
                    )

                pub store-done : sectors_needed (length bs) ≤ length (free_for_files g (disk img))
                    → call_store g img name kind bs ≡ done (store_change g img place name kind bs)
                unfolding call_store
                store-done h =
                    rw (
                      size-true g img size,
                      asked,
                      kind_asked,
                      check-sized g img (size-true g img size) checked,
                      may,
                      absent-true,
                      found,
                      le-leb
                          (sectors_needed (length bs)) (length (free_for_files g (disk img))) h,
                    )

  -- ---- results

  -- THE REPLY TO A STORE that is refused
  pub store-refused : (f : code.Fault) → call_store g img name kind bs ≡ refused (fault_of f) → reply_of (Err f) img [] ≡ perform g img (store name kind bs)
  unfolding attempt output_buffer
  store-refused f r = call-refused g img (store name kind bs) f refl r

  -- THE REPLY TO A STORE that is done
  pub store-replied : {img' : Bytes} {n k : ℕ} (place : SlotPlace) → call_store g img name kind bs ≡ done (store_change g img place name kind bs)
      → img' ≡ (store_change g img place name kind bs).image_after → n ≡ length bs → k ≡ sectors_needed (length bs)
      → reply_of (Ok (record { length = n; sectors = k })) img' [] ≡ perform g img (store name kind bs)
  unfolding perform attempt output_buffer reply called_answer reported
  store-replied place e written long counted = rw (e, written, long, counted)
