use Rattle.std.proofs.Common.{◌≡◌, ◌-◌, None, length, bytes_eq, refl, sym, ap, ◌∙◌, arith}
use Rattle.indexmap.specs.IndexMap.{get}
use Rattle.circuit_model.specs.declared.circuit.Table.{Table}
use Rattle.net_wires.specs.Places.{item_at}
use Rattle.net_wires.proofs.Searching.{noted_table, no_table}
use Rattle.net_wires.proofs.places.table_places.Goals as goal

pub loop-left-init : goal.loop-left-init
loop-left-init c = (
  omega arith,
  λ name.
      let e : get bytes_eq c.new-places.result name ≡ None = rw c.new-places.ensures.empty refl in
      ap (item_at c.args.tables.now) e ∙ no_table c.args.tables.now (length c.args.tables.now) name (omega arith),
)

pub loop-left-preserved : goal.loop-left-preserved
loop-left-preserved c = (
  omega (arith, c.loop-left.invariant.0),
  noted_table c.args.tables.now (c.loop-left.left - 1) c.loop-left.left c.index-tables-left.result c.in_ok-output.output (get bytes_eq c.loop-left.places) (get bytes_eq c.note_place.new.places)
      (omega (arith, c.loop-left-test.true)) (omega (arith, c.loop-left.invariant.0, c.loop-left-test.true)) c.index-tables-left.is (c.in_ok-output.ensures ∙ ap (λ (x : Table). x.output) (sym c.index-tables-left.is)) c.in_ok-note_place.ensures c.loop-left.invariant.1,
)
