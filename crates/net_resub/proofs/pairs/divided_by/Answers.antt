use Rattle.net_core.specs.Places.{written_of}
use Rattle.net_resub.specs.Pairs.{saving_of}
use Rattle.net_resub.proofs.Saving.{zero_saving, stays_saves}
use Rattle.net_resub.proofs.pairs.divided_by.Goals as goal

pub unreachable-requires : goal.unreachable-requires
unreachable-requires g c =
    zero_saving (saving_of (written_of c.args.by.now) (written_of c.args.entry.now)) c.requires.saves
    (stays_saves (written_of c.args.by.now) (written_of c.args.entry.now) (c.in_ok-resubbed_table.ensures.none c.in-None.is))
