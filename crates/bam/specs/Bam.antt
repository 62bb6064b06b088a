-- The block availability map held by value (01, The map, 18/0): an entry of four bytes for each of up to 40 tracks, entry i for track i + 1.
-- In order: an entry of the map; a mark asked for; a mark moved; several. Laws: proofs/FollowLaws has all that callers cite.
use Rattle.std.specs.Prelude.{ℕ, ◌-◌, Bool, cond, ◌&&◌, List, [], ◌∷◌, get_or, set, eqb, leb}
use Rattle.d64spec.specs.Lists.{Bytes}
use Rattle.d64spec.specs.Bits.{bit_of}
use Rattle.d64spec.specs.Answers.{Address}
use Rattle.bam.specs.MapEntry.{Entries, bitmap_of, moved_entry}

-- whether the map has an entry for track t
unfoldable pub has_entry : ℕ → Bool
has_entry t = leb 1 t && leb t 40

-- track t's entry
unfoldable pub entry_of : Entries → ℕ → Bytes
entry_of es t = get_or es (t - 1) []

-- the map with e for track t's entry
unfoldable pub with_entry : Entries → ℕ → Bytes → Entries
with_entry es t e = set es (t - 1) e

-- whether the map marks a sector free: its bit is 1 (01, The map)
unfoldable pub marked_free : Entries → Address → Bool
marked_free es r = eqb (bit_of (bitmap_of (entry_of es r.track)) r.sector) 1

-- the map with a sector marked free and counted in, or else marked used and counted out (01, Store and Scratch: the map follows); where the map
-- has no such entry, the map as it is
unfoldable pub moved_mark : Bool → Address → Entries → Entries
moved_mark free r es = cond (has_entry r.track) (with_entry es r.track (moved_entry (entry_of es r.track) r.sector free)) es

-- the same for several sectors, the last first
abbrev pub moved_marks : Bool → List Address → Entries → Entries
moved_marks free [] es = es
moved_marks free (r ∷ l) es = moved_mark free r (moved_marks free l es)
