use Rattle.std.proofs.Common.{option_copied, ap, ◌∙◌}
use Rattle.line_words.specs.LineWords.{texts}
use Rattle.blif_models.proofs.FirstLines.{fed_as, none_fed, port_none, port_some}
use Rattle.blif_models.proofs.first_model.take_ports.Goals as goal

pub returns-then-listed : goal.returns-then-listed
returns-then-listed c = none_fed (option_copied c.args.library) c.args.draft.now _ (port_none c.args.listed c.args.first.now (texts c.args.ports.now) c.if-listed.true)

pub returns : goal.returns
returns c =
    fed_as (option_copied c.args.library) c.take_added.result c.args.draft.now c.take_added.new.draft _ _
    (port_some c.args.listed c.args.first.now (texts c.args.ports.now) (texts c.as_slice.result.now) c.if-listed.false (ap texts c.as_slice.ensures.value ∙ c.in_ok-words.ensures)) c.take_added.ensures
