use Rattle.std.proofs.Common.{sym, ◌∙◌}
use Rattle.blif_models.specs.Renaming.{looked_up}
use Rattle.blif_models.proofs.Actuals.{pair_kept, pair_put}
use Rattle.blif_models.proofs.pairs.add_pair.Goals as goal

pub returns-then-is_known : goal.returns-then-is_known
returns-then-is_known c =
    pair_kept (looked_up c.args.actuals.now) c.pin_in-formal.result.now c.args.pair.now c.pin_in-formal.ensures (sym c.is_known.ensures ∙ c.if-is_known.true)

pub returns : goal.returns
returns c =
    pair_put (looked_up c.args.actuals.now) (looked_up c.set_actual.new.actuals) c.pin_in-formal.result.now c.args.pair.now c.signal_in.result.now c.pin_in-formal.ensures c.signal_in.ensures
    (sym c.is_known.ensures ∙ c.if-is_known.false) c.in_ok-set_actual.ensures
