-- The lines of the occupied slots, written one behind the other. Assumes nothing.
use Prim.Native.Nat.{ℕ, ◌+◌, ◌*◌, ◌-◌, ◌≤◌, ◌<◌}
use native.Mathlib.Omega.{arith}
use mathlib.Core.Path.{◌≡◌, sym, ap, ◌∙◌}
use mathlib.Core.Bool.{true, false}
use mathlib.Core.List.{List, ◌++◌}
use lib.ListN.{length, take, drop, length-append}
use Rattle.d64spec.specs.Lists.{Bytes}
use Rattle.d64spec.specs.Directory.{is_empty}
use Rattle.d64spec.specs.Listing.{line, slot_frame}
use Rattle.directory.specs.declared.Directory.{Directory}
use Rattle.directory.specs.Directories.{IsSlot, slot_at, occupied_from}
use Rattle.sleeve.specs.Texts.{RoomFor, lines_of, occupied_of}
use Rattle.sleeve.proofs.WriteLaws.{Writing, writing_start, writing-lent, writing-finished}
use Rattle.sleeve.proofs.OccupiedLaws.{occupied-empty, occupied-here, occupied-none, length-slot, length-slot-line, length-lines, lines_cons}

-- the lines of the slots below k are written
pub record Lines (b : Bytes) (d : Directory) (text : Bytes) (at k : ℕ) : Type 0 where
  pub room : RoomFor b d text 0
  pub writing : Writing (lines_of (occupied_of b d)) (lines_of (occupied_from b d.sectors k (8 * d.count - k))) text at

module _ {b : Bytes} {d : Directory} {text : Bytes} where
  pub lines_start : RoomFor b d text 0 → Lines b d text 0 0
  lines_start r =
      let all : 8 * d.count - 0 ≡ 8 * d.count = omega arith in
      record {
        room = r;
        writing = rw all (writing_start (lines_of (occupied_of b d)) text (omega (arith, length-lines b d.sectors r.whole r.inside 0 (8 * d.count), r.size)));
      }

module _ {b : Bytes} {d : Directory} {text : Bytes} {at k : ℕ} (w : Lines b d text at k) where
  abbrev ss : List ℕ
  ss = d.sectors

  abbrev end : ℕ
  end = 8 * d.count

  -- slot k, as the code has its bytes
  module _ (h : k < end) {s : Bytes} (is : IsSlot b ss k s) where
    pub lines-full : length s ≡ 30
    lines-full = ap length is.bytes ∙ length-slot b ss w.room.whole w.room.inside k

    -- an empty slot has no line
    pub lines-empty : is_empty s ≡ true → {text' : Bytes} {at' : ℕ} → text' ≡ text → at' ≡ at → Lines b d text' at' (k + 1)
    lines-empty empty same here =
        let none = occupied-empty b ss h (ap is_empty (sym is.bytes) ∙ empty) in
        rw (same, here) (record { room = w.room; writing = rw none at w.writing })

    module _ (occupied : is_empty s ≡ false) where
      -- what is still to be written behind this slot's line
      abbrev rest : Bytes
      rest = lines_of (occupied_from b ss (k + 1) (end - (k + 1)))

      next : lines_of (occupied_from b ss k (end - k)) ≡ line (slot_frame s) ++ rest
      next =
          ap lines_of (occupied-here b ss h (ap is_empty (sym is.bytes) ∙ occupied)) ∙ lines_cons (slot_at b ss k) (occupied_from b ss (k + 1) (end - (k + 1)))
          ∙ ap (λ (x : Bytes). line (slot_frame x) ++ rest) (sym is.bytes)

      long : length (line (slot_frame s)) ≡ 43
      long = length-slot-line s lines-full

      length-next : length (lines_of (occupied_from b ss k (end - k))) ≡ 43 + length rest
      length-next = omega (arith, ap length next, length-append (line (slot_frame s)) rest, long)

      -- there is room for it
      pub lines_fit : at + 43 ≤ length text
      lines_fit = omega (arith, w.writing.size, length-next)

      -- and it is written through a part that was lent
      pub lines-moved : {part text' : Bytes} {at' : ℕ} → part ≡ line (slot_frame s) → text' ≡ take at text ++ (part ++ drop (at + 43 - at) (drop at text)) → at' ≡ at + 43 → Lines b d text' at' (k + 1)
      lines-moved {part} filled back further =
          let moved = writing-lent w.writing (line (slot_frame s)) rest next (at + 43) (omega (arith, long)) filled in
          rw (back, further) (record {
            room = record { whole = w.room.whole; inside = w.room.inside; few = w.room.few; size = omega (arith, moved.size, w.room.size, w.writing.size, length-next) };
            writing = moved;
          })

  pub lines-finished : end ≤ k → text ≡ lines_of (occupied_of b d)
  unfolding lines_of
  lines-finished h = writing-finished w.writing (ap lines_of (occupied-none b ss end k h))
