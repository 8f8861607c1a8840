use Rattle.std.proofs.Common.{◌+◌, [], ◌∷◌, drop, option_copied}
use Rattle.std.proofs.lemmas.Result.{err_from_is_err_and}
use Rattle.blif_models.specs.Tables.{staying}
use Rattle.blif_models.proofs.Feeding.{part_taken, part_fails, none_left, staying_left, staying_end}
use Rattle.blif_models.proofs.flat.take_staying.Goals as goal

pub returns-in_err-take_if : goal.returns-in_err-take_if
returns-in_err-take_if c =
    let p = err_from_is_err_and c.from_residual.result c.from_residual.ensures.1 in
    let i = c.loop-line.line-index in
    let lines = c.args.lines.now in
    rw (p.1, p.2) (part_fails (option_copied c.args.library) c.in_err-take_if.field-0.0 c.loop-line.draft c.take_if.new.draft (staying (c.line-item.result ∷ [])) (staying (drop (i + 1) lines)) (staying (drop i lines)) _
    (staying_left lines i c.line-item.result c.loop-line-test.true c.line-item.is) c.in_err-take_if.ensures c.loop-line.invariant)

pub loop-line-preserved : goal.loop-line-preserved
loop-line-preserved c =
    let i = c.loop-line.line-index in
    let lines = c.args.lines.now in
    part_taken (option_copied c.args.library) c.loop-line.draft c.take_if.new.draft (staying (c.line-item.result ∷ [])) (staying (drop (i + 1) lines)) (staying (drop i lines)) _
    (staying_left lines i c.line-item.result c.loop-line-test.true c.line-item.is) c.in_ok-take_if.ensures c.loop-line.invariant

pub returns : goal.returns
returns c =
    none_left (option_copied c.args.library) c.loop-line.draft (staying (drop c.loop-line.line-index c.args.lines.now)) _ (staying_end c.args.lines.now c.loop-line.line-index c.loop-line-test.false) c.loop-line.invariant
