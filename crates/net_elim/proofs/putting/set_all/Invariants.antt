use Rattle.std.proofs.Common.{length}
use Rattle.std.specs.List.{AllByRecursion}
use Rattle.circuit_model.specs.declared.circuit.Table.{Table}
use Rattle.net_elim.specs.Putting.{IsFit, AreMade}
use Rattle.net_elim.proofs.Fanouts.{IsPartly}
use Rattle.net_elim.proofs.putting.set_all.Given as goal

abbrev pub invariant-loop-one : goal.invariant-loop-one
invariant-loop-one g l = record {
  fit : AllByRecursion IsFit l.left.items;
  partly : (inner : Table) → AreMade inner l.fn.work.slots l.fn.made.items → IsPartly inner l.left.items l.fn.work l.work;
}

abbrev pub decreases-loop-one : goal.decreases-loop-one
decreases-loop-one g l = length l.left.items
