-- Where a store puts a file, by the map's marks (01, Store: the first k free ones in house order; the lowest free sector of track 18).
-- In order: the allocation order by index; sectors put at the start of an array; those of one track; the free sectors; the first of them; a
-- place for the directory. Laws: proofs/TrackLaws, OrderLaws, PlaceLaws.
use Rattle.std.specs.Prelude.{ℕ, ◌/◌, ◌%◌, ◌^◌, ◌≤◌, min, ◌≡◌, Bool, List, [], ◌∷◌, ◌++◌, map, length, take, drop, get_or, eqb, Option, Some, None}
use Rattle.d64spec.specs.Lists.{Bytes, filter}
use Rattle.d64spec.specs.Answers.{Address}
use Rattle.d64spec.specs.Geometry.{Geometry, tracks, sectors_of_track, allocation_tracks, allocation_order}
use Rattle.geometry.specs.declared.Address.{Address as Place}
use Rattle.bam.specs.MapEntry.{Entries, bitmap_of}
use Rattle.bam.specs.Bam.{marked_free}

-- t is the track at index i of the allocation order, one of the layout's (01, Store: house order)
pub record OrderTrack (g : Geometry) (i t : ℕ) : Type 0 where
  pub track : t ≡ get_or (allocation_tracks g) i 0
  pub low : 1 ≤ t
  pub high : t ≤ tracks g

-- the code's struct for an address (01, Tracks and sectors)
abbrev pub place_of : Address → Place
place_of r = record { track = r.track; sector = r.sector }

-- the array with these sectors at its start, the rest of it as it is
abbrev pub put_first : List Address → List Place → List Place
put_first l at = map place_of l ++ drop (length l) at

-- the first of these sectors stand at the start of the array, as many as it has room for, the rest of it as it was; r is how many they are
pub record PlacedFirst (l : List Address) (at : List Place) (r : ℕ) (at' : List Place) : Type 0 where
  pub count : r ≡ length (take (length at) l)
  pub places : at' ≡ put_first (take (length at) l) at

-- whether a track's bitmap, as a number, marks a sector of it free: its bit is 1 (01, The map)
unfoldable pub marked_in : ℕ → Address → Bool
marked_in m r = eqb (m / 2 ^ r.sector % 2) 1

-- the sectors of track t that its bitmap marks free, upward
unfoldable pub free_on_track : Geometry → ℕ → ℕ → List Address
free_on_track g m t = filter (marked_in m) (sectors_of_track g t)

-- a track's free sectors stand at the start of the array
abbrev pub TrackPlaced : Geometry → Bytes → ℕ → List Place → ℕ → List Place → Type 0
TrackPlaced g e t at r at' = PlacedFirst (free_on_track g (bitmap_of e) t) at r at'

-- the sectors off track 18 that the map marks free, in the order in which a store takes them
unfoldable pub free_places : Geometry → Entries → List Address
free_places g es = filter (marked_free es) (allocation_order g)

-- the first of them: as many as are wanted, and as there is room for
unfoldable pub first_places : Geometry → Entries → ℕ → ℕ → List Address
first_places g es wanted room = take (min wanted room) (free_places g es)

-- they stand at the start of the array, the rest of it as it was, and r is how many they are
pub record Placed (g : Geometry) (es : Entries) (wanted : ℕ) (at : List Place) (r : ℕ) (at' : List Place) : Type 0 where
  pub count : r ≡ length (first_places g es wanted (length at))
  pub places : at' ≡ put_first (first_places g es wanted (length at)) at

-- the first of these addresses, as the code's struct
unfoldable pub first_place : List Address → Option Place
first_place [] = None
first_place (r ∷ l) = Some (place_of r)

-- the lowest sector of track 18 that the map marks free (01, Store)
unfoldable pub directory_place : Geometry → Entries → Option Place
directory_place g es = first_place (filter (marked_free es) (sectors_of_track g 18))
