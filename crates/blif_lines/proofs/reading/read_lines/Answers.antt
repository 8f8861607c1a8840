use Rattle.std.proofs.Common.{◌++◌, map, option_copied}
use Rattle.std.proofs.lemmas.Result.{err_from_is_err_and}
use Rattle.sis_text.specs.Entries.{entry_at}
use Rattle.blif_lines.proofs.WhatIsRead.{apart_last, fault_read, whole_read}
use Rattle.blif_lines.proofs.reading.read_lines.Goals as goal

pub returns-in_err-take_runs : goal.returns-in_err-take_runs
returns-in_err-take_runs c =
    let p = err_from_is_err_and c.from_residual-in_err-take_runs.result c.from_residual-in_err-take_runs.ensures.1 in
    let taken = rw c.in_ok-draft.ensures at c.in_err-take_runs.ensures in
    rw (p.1, p.2) (fault_read (option_copied c.args.library) c.in_err-take_runs.field-0.0 c.take_runs.new.draft (map (entry_at c.args.source.now) c.args.front.now ++ map (entry_at c.args.source.now) c.args.back.now) taken)

pub finish-requires : goal.finish-requires
finish-requires c =
    let taken = rw c.in_ok-draft.ensures at c.in_ok-take_runs.ensures in
    apart_last (option_copied c.args.library) (map (entry_at c.args.source.now) c.args.front.now ++ map (entry_at c.args.source.now) c.args.back.now) c.take_runs.new.draft taken

pub returns : goal.returns
returns c =
    let taken = rw c.in_ok-draft.ensures at c.in_ok-take_runs.ensures in
    whole_read (option_copied c.args.library) c.finish.result c.take_runs.new.draft (map (entry_at c.args.source.now) c.args.front.now ++ map (entry_at c.args.source.now) c.args.back.now) taken c.finish.ensures
