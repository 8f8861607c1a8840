use Rattle.std.proofs.Common.{◌≡◌, ℕ, ◌<◌, true, Some, slice_get}
use Rattle.std.specs.Ordering.{nat_cmp}
use Rattle.std.specs.BTreeSet.{contains}
use Rattle.circuit_model.specs.declared.circuit.Table.{Table}
use Rattle.net_sweep.specs.Settled.{passes}
use Rattle.net_sweep.proofs.applying.places_for.Given as goal

abbrev pub invariant-loop-place : goal.invariant-loop-place
invariant-loop-place g l = (at : ℕ) (table : Table) → at < l.place
    → slice_get l.fn.aliased.tables at ≡ Some table
    → passes l.fn.rule l.fn.aliased.tables table ≡ true → contains nat_cmp l.places at ≡ true
