use Rattle.std.proofs.Common.{◌++◌, List, subst}
use Rattle.std.proofs.lemmas.List.{take_all}
use Rattle.circuit_model.specs.Soundness.{outputs_of}
use Rattle.circuit_model.specs.declared.circuit.Table.{Table}
use Rattle.circuit_checks.specs.Sets.{Alike}
use Rattle.circuit_checks.proofs.Parts.{known_more}
use Rattle.circuit_checks.proofs.part_check.known_names.Goals as goal

pub loop-table-preserved : goal.loop-table-preserved
loop-table-preserved c =
    known_more c.args.leaves.now c.args.part.now c.loop-table.table-index c.table-item.result c.loop-table.set c.add.new.self c.loop-table-test.true
    c.table-item.is c.loop-table.invariant c.in_ok-_added.ensures.names

pub returns : goal.returns
returns c =
    subst (λ (tables : List Table). Alike c.loop-table.set (outputs_of tables ++ c.args.leaves.now))
    (take_all c.loop-table.table-index c.args.part.now c.loop-table-test.false) c.loop-table.invariant
