use Rattle.net_sweep.proofs.Rewiring.{rewired_all, rewired_others}
use Rattle.net_sweep.proofs.applying.rewire_by_exchange.Goals as goal

pub returns-clause-changed : goal.returns-clause-changed
returns-clause-changed c =
    rewired_all c.args.from.now c.args.to.now c.args.inverts c.in_ok-places.places
    c.as_slice.result.now c.as_slice-2.result.now c.in_ok-tables.tables.items
    c.as_slice-3.result.now c.args.aliased.now c.exchange_aliases.new.self
    c.set_tables.new.aliased
    c.requires.sound c.requires.tidy c.in_ok-places.ensures.exact c.as_slice.ensures
    c.as_slice-2.ensures c.as_slice-3.ensures.value c.in_ok-tables.ensures
    c.in_ok-exchange_aliases.ensures
    c.in_ok-set_tables.ensures.same c.in_ok-set_tables.ensures.set c.in_ok-set_tables.ensures.others

pub returns-clause-others : goal.returns-clause-others
returns-clause-others c =
    rewired_others c.args.from.now c.args.to.now c.args.inverts c.in_ok-places.places
    c.as_slice-2.result.now c.args.aliased.now c.exchange_aliases.new.self
    c.set_tables.new.aliased
    c.as_slice-2.ensures c.in_ok-exchange_aliases.ensures c.in_ok-set_tables.ensures.others
