use Rattle.circuit_model.specs.Soundness.{outputs_of, given}
use Rattle.circuit_model.specs.Runs.{latch_outputs}
use Rattle.circuit_laws.proofs.Names.{different_apart}
use Rattle.map_net.proofs.Parting.{is_covered, no_forest, memory_forest}
use Rattle.map_net.proofs.mapping.covered_by.Goals as goal

-- no two tables of a sound circuit drive one signal
pub forest_of-requires-clause-different : goal.forest_of-requires-clause-different
unfolding given
forest_of-requires-clause-different c =
    (different_apart (latch_outputs c.args.circuit.now) (outputs_of c.args.circuit.now.tables)
    (different_apart c.args.circuit.now.inputs _ c.requires.circuit.one_driver).back).back

pub cover_forest-requires-clause-roots : goal.cover_forest-requires-clause-roots
cover_forest-requires-clause-roots c =
    let (tree, trees, roots, small) = c.in_ok-forest.ensures.ok in roots.taken

pub returns-in_err-forest-clause-err : goal.returns-in_err-forest-clause-err
returns-in_err-forest-clause-err c =
    no_forest c.args.circuit.now c.forest_of.result c.in_err-forest.field-0.0
    c.from_residual.result c.in_err-forest.was c.from_residual.ensures.1
    c.forest_of.ensures.limit

pub returns-in_err-covers-clause-err : goal.returns-in_err-covers-clause-err
returns-in_err-covers-clause-err c =
    memory_forest c.args.circuit.now c.from_residual-in_err-covers.result
    c.from_residual-in_err-covers.ensures.1

pub returns-clause-ok : goal.returns-clause-ok
returns-clause-ok c = λ library have.
    is_covered c.args.circuit.now library
    (record { forest = c.in_ok-forest.forest; covers = c.in_ok-covers.covers })
    c.args.patterns.now c.in_ok-forest.ensures.ok
    c.sound.ensures c.in_ok-covers.ensures have
