use Rattle.std.proofs.Common.{option_copied, sym, ◌∙◌}
use Rattle.blif_models.proofs.Feeding.{take_stays, take_goes}
use Rattle.blif_models.proofs.flat.take_if.Goals as goal

pub returns-then-stays : goal.returns-then-stays
returns-then-stays c =
    take_stays (option_copied c.args.library) c.take_line.result c.args.draft.now c.take_line.new.draft c.args.line.now (sym c.stays.ensures ∙ c.if-stays.true) c.take_line.ensures

pub returns : goal.returns
returns c = take_goes (option_copied c.args.library) c.args.draft.now c.args.line.now (sym c.stays.ensures ∙ c.if-stays.false)
