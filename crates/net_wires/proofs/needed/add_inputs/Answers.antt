use Rattle.std.proofs.Common.{◌≡◌, ℕ, Some, None, List, OnOk, sym, ◌∙◌, subst}
use Rattle.circuit_tables.specs.Listing.{names_with}
use Rattle.net_wires.proofs.Searching.{read_of_table}
use Rattle.net_wires.proofs.Putting.{nothing_read}
use Rattle.net_wires.proofs.needed.add_inputs.Goals as goal

pub returns-in-None : goal.returns-in-None
returns-in-None c = nothing_read c.args.names.now.keys _ (read_of_table c.args.tables.now c.args.name.now None c.requires.differ c.in-None.ensures)

pub returns-in-Some : goal.returns-in-Some
returns-in-Some c =
    subst (λ (read : List (List ℕ)). OnOk c.add_names.result (c.add_names.new.names.keys ≡ names_with c.args.names.now.keys read))
    (c.as_slice.ensures ∙ sym (read_of_table c.args.tables.now c.args.name.now (Some c.in-Some.table.now) c.requires.differ c.in-Some.ensures)) c.add_names.ensures
