use Rattle.std.proofs.Common.{refl}
use Rattle.net_sweep.proofs.Rewiring.{next_in, wide_at}
use Rattle.net_sweep.proofs.applying.rewired_tables.Goals as goal

pub table_at-requires : goal.table_at-requires
table_at-requires c = c.requires.within _ (next_in c.args.places.now c.loop-place.place-index _ 0 c.loop-place-test.true refl)

pub rewired-requires : goal.rewired-requires
rewired-requires c = wide_at c.args.aliased.now.tables _ c.in_ok-table.table c.requires.wide c.in_ok-table.ensures
