use Rattle.std.proofs.Common.{Some, None, ◌+◌, ◌∙◌, List, sym, ap, drop}
use Rattle.circuit_model.specs.declared.circuit.Tri.{Tri}
use Rattle.circuit_tables.specs.Listing.{merge_row}
use Rattle.circuit_tables.proofs.FoldSteps.{merge_short, merge_more, merge_done}
use Rattle.circuit_tables.proofs.folding.merge_into.Goals as goal

pub returns-then-i-row : goal.returns-then-i-row
returns-then-i-row c = c.loop-i.invariant ∙ merge_short c.loop-i.out.items c.args.places.now c.args.row.now c.loop-i.i c.if-i-row.true

pub returns-in-None : goal.returns-in-None
returns-in-None c = c.loop-i.invariant ∙ merge_more c.loop-i.out.items c.args.places.now c.args.row.now c.loop-i.i c.at.result None c.loop-i-test.true c.if-i-row.false (rw (← c.as_slice.ensures.value) c.at.ensures) c.in-None.ensures

pub loop-i-preserved : goal.loop-i-preserved
loop-i-preserved c =
    c.loop-i.invariant
    ∙ (merge_more c.loop-i.out.items c.args.places.now c.args.row.now c.loop-i.i c.at.result (Some c.in-Some.both) c.loop-i-test.true c.if-i-row.false (rw (← c.as_slice.ensures.value) c.at.ensures) c.in-Some.ensures
    ∙ ap (λ (out : List Tri). merge_row out (drop (c.loop-i.i + 1) c.args.places.now) (drop (c.loop-i.i + 1) c.args.row.now)) (sym c.put.ensures))

pub returns : goal.returns
returns c = c.loop-i.invariant ∙ merge_done c.loop-i.out.items c.args.places.now c.args.row.now c.loop-i.i c.loop-i-test.false
