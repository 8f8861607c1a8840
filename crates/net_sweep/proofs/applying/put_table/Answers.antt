use Rattle.net_sweep.proofs.Changing.{set_others}
use Rattle.net_sweep.proofs.applying.put_table.Goals as goal

pub returns-clause-others : goal.returns-clause-others
returns-clause-others c = set_others c.args.aliased.now c.set.new.self c.args.place c.args.table c.in_ok-places.places c.in_ok-set.ensures c.in_ok-places.ensures
