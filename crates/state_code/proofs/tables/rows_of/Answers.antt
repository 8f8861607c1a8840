use Rattle.std.proofs.Common.{◌++◌, [], ◌∷◌, List, sym, ap, ◌∙◌, if◌then◌else◌}
use Rattle.circuit_model.specs.declared.circuit.Tri.{Tri}
use Rattle.state_code.specs.Encoded.{coded_row, specifies_one}
use Rattle.state_code.proofs.Steps.{rows_more}
use Rattle.state_code.proofs.tables.rows_of.Goals as goal

pub loop-row-preserved : goal.loop-row-preserved
loop-row-preserved c =
    c.in_ok-push_row.ensures
    ∙ (ap (λ (rows : List (List Tri)). rows ++ (if specifies_one c.args.coding.style
    c.args.column.part c.args.column.place c.row-item.result
    then coded_row c.args.coding.style c.args.coding.width c.row-item.result ∷ [] else []))
    c.loop-row.invariant
    ∙ sym (rows_more (specifies_one c.args.coding.style c.args.column.part c.args.column.place)
    (coded_row c.args.coding.style c.args.coding.width)
    c.args.rows.now c.loop-row.row-index c.row-item.result c.loop-row-test.true c.row-item.is))
