use Rattle.std.proofs.Common.{refl, sym, ◌∙◌}
use Rattle.circuit_model.proofs.Levels.{row_short, row_done, row_more}
use Rattle.circuit_model.proofs.simulation.row_matches.Goals as goal

pub returns-then-i-places : goal.returns-then-i-places
returns-then-i-places c = sym (c.loop-i.invariant ∙ row_short c.args.row.now c.args.places.now c.args.bits.now c.loop-i.i c.if-i-places.true)

pub returns-then-not-agrees : goal.returns-then-not-agrees
returns-then-not-agrees c =
    let more = row_more c.args.row.now c.args.places.now c.args.bits.now c.loop-i.i c.agrees.result c.bit_at.result c.loop-i-test.true c.if-i-places.false c.bit_at.ensures c.agrees.ensures in
    let fails = c.if-not-agrees.true in
    rw (c.loop-i.invariant, more, fails) refl

pub loop-i-preserved : goal.loop-i-preserved
loop-i-preserved c =
    let more = row_more c.args.row.now c.args.places.now c.args.bits.now c.loop-i.i c.agrees.result c.bit_at.result c.loop-i-test.true c.if-i-places.false c.bit_at.ensures c.agrees.ensures in
    let goes = c.if-not-agrees.false in
    c.loop-i.invariant ∙ (more ∙ rw goes refl)

pub returns : goal.returns
returns c = sym (c.loop-i.invariant ∙ row_done c.args.row.now c.args.places.now c.args.bits.now c.loop-i.i c.loop-i-test.false)
