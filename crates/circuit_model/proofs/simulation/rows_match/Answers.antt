use Rattle.std.proofs.Common.{refl, sym, ◌∙◌, map}
use Rattle.circuit_model.specs.Levels.{bit_at}
use Rattle.circuit_model.proofs.Levels.{rows_done, rows_more}
use Rattle.circuit_model.proofs.simulation.rows_match.Goals as goal

pub returns-then-row_matches : goal.returns-then-row_matches
returns-then-row_matches c =
    let more = rows_more c.args.rows.now (map (bit_at c.args.bits.now) c.args.places.now) c.loop-row.row-index c.row-item.result c.as_slice.result.now c.row_matches.result c.loop-row-test.true c.row-item.is c.as_slice.ensures c.row_matches.ensures in
    let found = c.if-row_matches.true in
    rw (c.loop-row.invariant, more, found) refl

pub loop-row-preserved : goal.loop-row-preserved
loop-row-preserved c =
    let more = rows_more c.args.rows.now (map (bit_at c.args.bits.now) c.args.places.now) c.loop-row.row-index c.row-item.result c.as_slice.result.now c.row_matches.result c.loop-row-test.true c.row-item.is c.as_slice.ensures c.row_matches.ensures in
    let failed = c.if-row_matches.false in
    c.loop-row.invariant ∙ (more ∙ rw failed refl)

pub returns : goal.returns
returns c = sym (c.loop-row.invariant ∙ rows_done c.args.rows.now (map (bit_at c.args.bits.now) c.args.places.now) c.loop-row.row-index c.loop-row-test.false)
