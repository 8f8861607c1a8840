use Rattle.std.proofs.Common.{◌∙◌, sym, ap}
use Rattle.circuit_model.specs.declared.circuit.Table.{Table}
use Rattle.net_readers.specs.Fanouts.{told}
use Rattle.net_wires.specs.Aliases.{inputs_at}
use Rattle.net_wires.proofs.Reading.{readers_put}
use Rattle.net_wires.proofs.aliased_tables.change_table.Goals as goal

pub returns-clause-listed : goal.returns-clause-listed
returns-clause-listed c =
    readers_put (told c.change.new.self) c.args.circuit.now c.put_table.new.circuit c.args.place c.index-as_slice-place.result c.in_ok-kept.kept c.as_slice-before.result.now c.as_slice-2.result.now
    c.as_slice.result.now c.as_slice.ensures c.requires.within c.index-as_slice-place.is (c.as_slice-before.ensures ∙ ap (λ (table : Table). table.inputs) (sym c.index-as_slice-place.is)) c.as_slice-2.ensures c.put_table.ensures
    (λ here. c.in_ok-change.ensures (inputs_at c.args.circuit.now.tables) c.requires.listed here)
