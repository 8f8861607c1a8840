use Rattle.std.specs.Cmp.{booleans_Decides}
use Rattle.std.proofs.lemmas.Slice.Eq.{slice_eq-Decides}
use Rattle.circuit_model.proofs.simulation.are_equal.Goals as goal

pub returns : goal.returns
returns c = slice_eq-Decides booleans_Decides c.args.first.now c.args.second.now c.eq.result c.eq.ensures
