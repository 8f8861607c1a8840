use Rattle.std.proofs.Common.{Bool, List, map, sym, ◌∙◌}
use Rattle.circuit_model.specs.Names.{has}
use Rattle.circuit_model.specs.Soundness.{table_inputs}
use Rattle.circuit_model.specs.declared.circuit.Latch.{Latch}
use Rattle.circuit_model.specs.declared.circuit.Table.{Table}
use Rattle.library_trials.proofs.Changes.{also_false, unread_may_go}
use Rattle.library_trials.proofs.needed.is_needed.Goals as goal

pub returns : goal.returns
returns c none =
    let reads : List Table → Bool = λ tables. has (table_inputs tables) c.args.name.now in
    let takes : List Latch → Bool = λ latches. has (map (λ (latch : Latch). latch.input) latches) c.args.name.now in
    unread_may_go c.args.circuit.now c.args.name.now
    (also_false reads c.as_slice.result.now c.args.circuit.now.tables c.is_table_input.result c.as_slice.ensures c.is_table_input.ensures c.if-is_table_input.false)
    (also_false reads c.as_slice-2.result.now c.args.circuit.now.dont_care c.is_table_input-2.result c.as_slice-2.ensures c.is_table_input-2.ensures c.if-is_table_input-2.false)
    (also_false takes c.as_slice-3.result.now c.args.circuit.now.latches c.is_latched.result c.as_slice-3.ensures c.is_latched.ensures c.if-is_latched.false)
    (sym c.is_among.ensures ∙ none)
