use Rattle.std.proofs.Common.{bytes_eq}
use Rattle.indexmap.specs.IndexMap.{get}
use Rattle.net_wires.specs.Aliases.{edge_of}
use Rattle.net_wires.proofs.Carried.{linked_twice}
use Rattle.net_wires.proofs.aliased_tables.exchange_edges.Goals as goal

pub returns : goal.returns
returns c =
    linked_twice (edge_of (get bytes_eq c.args.signals.now)) (edge_of (get bytes_eq c.args.aliases.now)) (edge_of (get bytes_eq c.pair.new.signals)) (edge_of (get bytes_eq c.pair.new.aliases)) (edge_of (get bytes_eq c.pair-2.new.signals))
    (edge_of (get bytes_eq c.pair-2.new.aliases)) c.args.one.now c.args.other.now c.args.inverts c.in_ok-first.first c.in_ok-second.second c.turned_bit-turned.result c.in_ok-first.ensures c.in_ok-second.ensures c.turned_bit-turned.ensures
    c.in_ok-pair.ensures.signals c.in_ok-pair.ensures.aliases c.in_ok-pair-2.ensures.signals c.in_ok-pair-2.ensures.aliases
