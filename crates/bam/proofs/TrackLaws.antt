-- Which tracks have an entry; a mark moved where there is one, and where there is none. Assumes nothing.
use Prim.Native.Nat.{ℕ, ◌≤◌, ◌<◌}
use native.Mathlib.Omega.{arith}
use mathlib.Core.Path.{◌≡◌, ap}
use mathlib.Core.Bool.{Bool, true}
use borrow.Author.Tests.{le-leb, lt-leb}
use Rattle.d64spec.specs.Lists.{Bytes}
use Rattle.d64spec.specs.Answers.{Address}
use Rattle.bam.specs.MapEntry.{Entries, moved_entry}
use Rattle.bam.specs.Bam.{has_entry, entry_of, with_entry, moved_mark}

pub record Track (t : ℕ) : Type 0 where
  pub low : 1 ≤ t
  pub high : t ≤ 40

has-entry : {t : ℕ} → Track t → has_entry t ≡ true
unfolding has_entry
has-entry {t} h = simp (le-leb 1 t h.low, le-leb t 40 h.high)

module _ (free : Bool) (r : Address) (es : Entries) where
  pub moved-mark-entry : Track r.track → {e : Bytes} → e ≡ moved_entry (entry_of es r.track) r.sector free
      → with_entry es r.track e ≡ moved_mark free r es
  unfolding moved_mark
  moved-mark-entry track q = rw (has-entry track) (ap (with_entry es r.track) q)

  pub moved-mark-before : r.track < 1 → es ≡ moved_mark free r es
  unfolding moved_mark has_entry
  moved-mark-before h = rw (lt-leb 1 r.track h)

  pub moved-mark-past : 40 < r.track → es ≡ moved_mark free r es
  unfolding moved_mark has_entry
  moved-mark-past h = rw (le-leb 1 r.track (omega arith), lt-leb r.track 40 h)
