use Rattle.std.proofs.Common.{map, option_copied}
use Rattle.std.proofs.lemmas.Result.{err_from_is_err_and}
use Rattle.sis_text.specs.Entries.{entry_at}
use Rattle.blif_lines.proofs.Walk.{front_fails, back_taken}
use Rattle.blif_lines.proofs.reading.take_runs.Goals as goal

pub returns-in_err-take_lines : goal.returns-in_err-take_lines
returns-in_err-take_lines c =
    let p = err_from_is_err_and c.from_residual.result c.from_residual.ensures.1 in
    rw (p.1, p.2) (front_fails (option_copied c.args.library) c.in_err-take_lines.field-0.0 c.args.draft.now c.take_lines.new.draft (map (entry_at c.args.source.now) c.args.front.now) (map (entry_at c.args.source.now) c.args.back.now) c.in_err-take_lines.ensures)

pub returns : goal.returns
returns c =
    back_taken (option_copied c.args.library) c.take_lines-2.result c.args.draft.now c.take_lines.new.draft c.take_lines-2.new.draft (map (entry_at c.args.source.now) c.args.front.now) (map (entry_at c.args.source.now) c.args.back.now) c.in_ok-take_lines.ensures c.take_lines-2.ensures
