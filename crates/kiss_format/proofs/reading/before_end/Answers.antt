use Rattle.std.proofs.Common.{◌∙◌, ap, map, take}
use Rattle.sis_text.specs.Entries.{entry_at}
use Rattle.kiss_format.proofs.Walk.{lines_before}
use Rattle.kiss_format.proofs.reading.before_end.Goals as goal

pub returns : goal.returns
returns c =
    ap (λ n. map (entry_at c.args.source.now) (take n c.args.lines.now)) c.end_place.ensures
    ∙ lines_before c.args.source.now c.args.lines.now
