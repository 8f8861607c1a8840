use Rattle.std.proofs.Common.{ℕ, List, sym, ap, ◌∙◌, bytes_eq}
use Rattle.std.specs.List.{list_all}
use Rattle.std.proofs.lemmas.Option.{same_Some}
use Rattle.indexmap.specs.IndexMap.{get}
use Rattle.circuit_model.specs.declared.circuit.Table.{Table}
use Rattle.circuit_laws.proofs.Drivers.{driver_output}
use Rattle.net_func.specs.Numbering.{number_in, has_number}
use Rattle.net_func.proofs.Finding.{output_found, driver_placed}
use Rattle.net_func.proofs.unreached.reads_known.Goals as goal

pub returns-in-None : goal.returns-in-None
returns-in-None c = λ h table at.
    absurd (output_found c.args.tables.now (get bytes_eq c.args.places.now) c.args.signal.now
    c.requires.places (driver_output c.args.tables.now c.args.signal.now table at)
    c.in-None.ensures)

pub returns-in-Some : goal.returns-in-Some
returns-in-Some c = λ h table at.
    ap (λ (t : Table). list_all (has_number (number_in c.args.numbers.now)) t.inputs)
    (sym (same_Some c.index-tables-place.result table
    (sym (driver_placed c.args.tables.now (get bytes_eq c.args.places.now) c.args.signal.now
    c.in-Some.place c.index-tables-place.result c.requires.once c.requires.places c.in-Some.ensures
    c.index-tables-place.is) ∙ at)) ∙ c.index-tables-place.is)
    ∙ ap (λ (names : List (List ℕ)). list_all (has_number (number_in c.args.numbers.now)) names)
    (sym c.as_slice.ensures)
    ∙ sym c.know.ensures ∙ h
