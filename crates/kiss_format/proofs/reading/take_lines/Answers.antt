use Rattle.std.proofs.lemmas.Result.{err_from_is_err_and}
use Rattle.kiss_format.proofs.Walk.{walk_begun, walk_goes_on, walk_fails, walk_done}
use Rattle.kiss_format.proofs.reading.take_lines.Goals as goal

pub loop-line-init : goal.loop-line-init
loop-line-init c = walk_begun c.args.source.now c.args.lines.now c.args.draft.now c.requires

pub returns-in_err-take_line : goal.returns-in_err-take_line
returns-in_err-take_line c =
    let p = err_from_is_err_and c.from_residual.result c.from_residual.ensures.1 in
    rw (p.1, p.2) (walk_fails c.args.source.now c.args.lines.now c.loop-line.line-index c.line-item.result c.loop-line.draft c.take_line.new.draft c.in_err-take_line.field-0.0 c.loop-line-test.true c.line-item.is c.loop-line.invariant c.in_err-take_line.ensures)

pub loop-line-preserved : goal.loop-line-preserved
loop-line-preserved c =
    walk_goes_on c.args.source.now c.args.lines.now c.loop-line.line-index c.line-item.result c.loop-line.draft c.take_line.new.draft c.loop-line-test.true c.line-item.is c.loop-line.invariant c.in_ok-take_line.ensures.0 c.in_ok-take_line.ensures.1

pub returns : goal.returns
returns c = walk_done c.args.source.now c.args.lines.now c.loop-line.line-index c.loop-line.draft c.loop-line-test.false c.loop-line.invariant
