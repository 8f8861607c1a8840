use Rattle.std.proofs.Common.{◌≡◌, true}
use Rattle.circuit_model.specs.Names.{has}
use Rattle.cover_names.specs.Cubes.{names_in}
use Rattle.net_savings.proofs.saving.rarest_name.Given as goal

abbrev pub invariant-loop-cube : goal.invariant-loop-cube
invariant-loop-cube g l = has (names_in l.cover) l.rarest ≡ true
