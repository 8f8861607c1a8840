use Rattle.std.proofs.Common.{◌∙◌, ap}
use Rattle.std.specs.Option.{option_map}
use Rattle.sis_text.specs.declared.places.Line.{Line}
use Rattle.kiss_format.specs.Keywords.{is_outputs_kind}
use Rattle.kiss_format.specs.Reader.{outputs_line}
use Rattle.kiss_format.proofs.HeaderLines.{header_at}
use Rattle.kiss_format.proofs.headers.outputs_line.Goals as goal

pub returns : goal.returns
unfolding outputs_line
returns c =
    c.number_of.ensures
    ∙ ap (option_map (λ (line : Line). line.number)) c.first_outputs.ensures
    ∙ header_at is_outputs_kind c.args.source.now c.before_end.result.now c.args.lines.now c.before_end.ensures
