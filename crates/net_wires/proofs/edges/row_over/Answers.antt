use Rattle.std.proofs.Common.{List, ◌∷◌, ◌++◌, [], ◌∙◌, sym, ap, Bool, false, get_or, slice_get, unwrap_or, if◌then◌else◌}
use Rattle.circuit_model.specs.declared.circuit.Tri.{Tri}
use Rattle.circuit_model.specs.declared.circuit.Tri.TheVariants.{Zero}
use Rattle.net_wires.specs.Rules.{turned_over}
use Rattle.net_wires.proofs.Turning.{row_nothing, row_more}
use Rattle.net_wires.proofs.edges.row_over.Goals as goal

pub loop-i-init : goal.loop-i-init
loop-i-init c = c.new-made.ensures ∙ sym (row_nothing c.args.marks.now)

pub loop-i-preserved : goal.loop-i-preserved
loop-i-preserved c =
    c.in_ok-push.ensures.ok
    ∙ (ap (λ (place : Tri). c.loop-i.made ++ place ∷ [])
    (c.place_over.ensures ∙ ap (λ (turns : Bool). if turns then turned_over (get_or c.args.row.now c.loop-i.i Zero) else get_or c.args.row.now c.loop-i.i Zero) c.is_marked.ensures)
    ∙ (ap
    (λ (row : List Tri). row
    ++ (if unwrap_or (slice_get c.args.marks.now c.loop-i.i) false then turned_over (get_or c.args.row.now c.loop-i.i Zero) else get_or c.args.row.now c.loop-i.i Zero) ∷ [])
    c.loop-i.invariant
    ∙ sym (row_more c.args.marks.now c.args.row.now c.loop-i.i Zero c.loop-i-test.true)))
