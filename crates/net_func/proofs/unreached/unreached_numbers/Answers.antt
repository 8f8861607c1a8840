use Rattle.std.proofs.Common.{List, sym, subst, bytes_eq}
use Rattle.indexmap.specs.IndexMap.{get}
use Rattle.circuit_model.specs.declared.circuit.Table.{Table}
use Rattle.circuit_order.specs.Places.{IsIndex}
use Rattle.net_func.specs.Numbering.{number_in}
use Rattle.net_func.proofs.Circuits.{own_settled}
use Rattle.net_func.proofs.Reach.{unreached_none}
use Rattle.net_func.proofs.unreached.unreached_numbers.Goals as goal

pub take_all_over-requires-clause-once : goal.take_all_over-requires-clause-once
take_all_over-requires-clause-once c =
    rw c.as_slice-tables.ensures
    (own_settled c.args.ordered.now.circuit c.requires.ready.sound).once

pub take_all_over-requires-clause-places : goal.take_all_over-requires-clause-places
take_all_over-requires-clause-places c =
    subst (λ (tables : List Table). IsIndex tables (get bytes_eq c.args.ordered.now.tables.places))
    (sym c.as_slice-tables.ensures) c.requires.ready.tables.places

pub take_all_over-requires-clause-unreached : goal.take_all_over-requires-clause-unreached
take_all_over-requires-clause-unreached c =
    unreached_none c.as_slice-tables.result.now c.args.name.now (number_in c.args.numbers.now)
    (number_in c.new-unreached.result) c.new-unreached.ensures

pub take_all_over-requires-2-clause-once : goal.take_all_over-requires-2-clause-once
take_all_over-requires-2-clause-once c =
    rw c.as_slice-tables.ensures
    (own_settled c.args.ordered.now.circuit c.requires.ready.sound).once
