use Rattle.std.proofs.Common.{bytes_eq, ◌∙◌, sym}
use Rattle.indexmap.specs.IndexMap.{get}
use Rattle.net_wires.specs.Aliases.{edge_of}
use Rattle.net_wires.proofs.Carried.{exchange_paired, signals_moved}
use Rattle.net_wires.proofs.aliased_tables.AliasedTables.exchange_aliases.Goals as goal

pub invariant_of-made : goal.invariant_of-made
invariant_of-made c = (
  c.made.invariant.0,
  exchange_paired (edge_of (get bytes_eq c.made.inside.signal_of.it)) (edge_of (get bytes_eq c.made.inside.alias_of.it)) (edge_of (get bytes_eq c.exchange_edges.new.signals)) (edge_of (get bytes_eq c.exchange_edges.new.aliases))
      c.args.one.now c.args.other.now c.args.inverts c.requires c.made.invariant.1 c.in_ok-exchange_edges.ensures,
)

pub returns : goal.returns
returns c =
    signals_moved c.made.inside.circuit.it c.args.self.now (edge_of (get bytes_eq c.made.inside.signal_of.it)) (edge_of (get bytes_eq c.made.inside.alias_of.it)) (edge_of (get bytes_eq c.exchange_edges.new.signals))
    (edge_of (get bytes_eq c.exchange_edges.new.aliases)) c.args.one.now c.args.other.now c.args.inverts (sym (c.made.view_is ∙ c.replace-made.ensures.value)) c.requires c.made.invariant.1 c.in_ok-exchange_edges.ensures
