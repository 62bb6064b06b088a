-- `scratching::scratch_slot` meets its contract: the chain that the slot's entry starts is cleared with the slot, and what it held is reported.
use native.Mathlib.Omega.{arith}
use borrow.Author.Rules.{rules}
use Rattle.geometry.proofs.TableLaws.{known_of}
use Rattle.scratching.proofs.WrittenLaws.{chain-owned, scratch-replied}
use Rattle.scratching.proofs.scratch_slot.Goals as goal

pub clear_chain-cleared-requires : goal.clear_chain-cleared-requires
clear_chain-cleared-requires c = chain-owned _ (known_of c.args.layout) c.requires (λ i. search rules) c.first_of-first.ensures c.map_of-map.ensures

pub clear_slot-requires : goal.clear_slot-requires
clear_slot-requires c = omega (arith, c.requires.place)

pub returns : goal.returns
returns c = scratch-replied _ (known_of c.args.layout) c.requires c.first_of-first.ensures c.clear_chain-cleared.ensures c.clear_slot.ensures
