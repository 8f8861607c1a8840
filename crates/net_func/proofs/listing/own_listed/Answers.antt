use Rattle.std.proofs.Common.{◌++◌}
use Rattle.circuit_model.specs.Soundness.{leaf_names}
use Rattle.circuit_order.specs.Order.{order_of}
use Rattle.net_func.specs.Numbering.{number_in}
use Rattle.net_func.specs.Signals.{own_function}
use Rattle.net_func.proofs.Listed.{numbered_from}
use Rattle.net_func.proofs.listing.own_listed.Goals as goal

pub listed_signals-requires-clause-known : goal.listed_signals-requires-clause-known
listed_signals-requires-clause-known g c = c.in_ok-numbers.ensures.ok.known

pub returns-clause-ok : goal.returns-clause-ok
returns-clause-ok g c =
    numbered_from g.F.Functions.holds g.F.Functions.tree g.F.Functions.limit
    c.part_numbers.new.functions (number_in c.in_ok-numbers.numbers)
    (own_function c.args.circuit.now)
    (leaf_names c.args.circuit.now ++ order_of c.args.circuit.now.tables)
    c.in_ok-listed_signals.field-0
    c.in_ok-numbers.ensures.ok.right c.in_ok-listed_signals.ensures
