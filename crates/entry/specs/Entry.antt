-- What the contracts of one directory slot cite beside document 01's own definitions (01, The directory).
-- Not here: entry_byte, valid_type, count_of (d64spec, Directory).
use Rattle.std.specs.Prelude.{ℕ, ◌<◌, ◌≡◌, true, false, Result, MatchResult}
use Rattle.d64spec.specs.Lists.{Bytes}
use Rattle.d64spec.specs.Directory.{count_of}
use Rattle.d64spec.specs.Reply.{storable_kind}
use Rattle.entry.specs.declared.Kind.{Kind}
use Rattle.entry.specs.declared.Kind.TheVariants.{Seq, Prg}
use Rattle.entry.specs.declared.UnknownKind.{UnknownKind}

-- a slot's number of sectors, and that two bytes hold it (01, The directory)
pub record Counted (b : Bytes) (r : ℕ) : Type 0 where
  pub count : r ≡ count_of b
  pub small : r < 65536

-- a kind's number: 1 SEQ, 2 PRG (02, §12)
abbrev pub number_of_kind : Kind → ℕ
number_of_kind Seq = 1
number_of_kind Prg = 2

-- r is the kind with this number, where a store takes that kind; else it is refused (02, §12)
abbrev pub KindNumbered : ℕ → Result Kind UnknownKind → Type 0
KindNumbered number r = MatchResult r (λ kind. (storable_kind number ≡ true) × (number_of_kind kind ≡ number)) (λ _. storable_kind number ≡ false)
