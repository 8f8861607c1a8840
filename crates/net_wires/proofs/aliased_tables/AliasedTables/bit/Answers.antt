use Rattle.std.proofs.Common.{bytes_eq, ◌∙◌, subst, ◌<◌, length, get_or, sym, ◌≡◌, List}
use Rattle.indexmap.specs.IndexMap.{get}
use Rattle.circuit_model.specs.declared.circuit.Table.{Table}
use Rattle.net_wires.specs.Aliases.{edge_of}
use Rattle.net_wires.proofs.Carried.{bit_there}
use Rattle.net_wires.proofs.aliased_tables.AliasedTables.bit.Goals as goal

pub returns-in-Some : goal.returns-in-Some
returns-in-Some c =
    let (tested, is, always, within, other) = c.in-Some.ensures.lookup in
    c.written_bit.ensures
    ∙ bit_there c.self.inside.circuit.it c.args.self.now (edge_of (get bytes_eq c.self.inside.signal_of.it)) c.args.place c.in-Some.table.now (sym c.self.view_is)
    (subst (λ (ts : List Table). c.args.place < length ts) c.as_slice.ensures within.0)
    (subst (λ (ts : List Table). c.in-Some.table.now ≡ get_or ts c.args.place c.in-Some.table.now) c.as_slice.ensures is)
