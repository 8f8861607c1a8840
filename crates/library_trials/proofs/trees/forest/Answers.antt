use Rattle.circuit_model.specs.Soundness.{outputs_of, given}
use Rattle.circuit_model.specs.Runs.{latch_outputs}
use Rattle.circuit_laws.proofs.Names.{different_apart}
use Rattle.library_trials.proofs.trees.forest.Goals as goal

-- no two tables of a sound circuit drive one signal
pub forest_of-requires-clause-different : goal.forest_of-requires-clause-different
unfolding given
forest_of-requires-clause-different c =
    (different_apart (latch_outputs c.args.circuit.now) (outputs_of c.args.circuit.now.tables)
    (different_apart c.args.circuit.now.inputs _ c.requires.one_driver).back).back
