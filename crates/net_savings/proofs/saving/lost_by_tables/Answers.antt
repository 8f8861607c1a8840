use Rattle.std.proofs.Common.{sym, subst}
use Rattle.net_savings.specs.Indexed.{AreAll}
use Rattle.net_savings.proofs.Told.{all_losses}
use Rattle.net_savings.proofs.saving.lost_by_tables.Goals as goal

pub returns : goal.returns
returns g c =
    all_losses c.args.work.now c.args.name.now c.args.cover.now c.as_slice.result.now c.in_ok-lost.lost
    (subst (AreAll c.args.cover.now c.args.work.now.slots) (sym c.as_slice.ensures.value) c.in_ok-places.ensures) c.in_ok-lost.ensures
