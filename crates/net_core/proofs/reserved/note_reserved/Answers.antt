use Rattle.std.proofs.Common.{ℕ, ◌||◌, List, map, ap, ◌∙◌}
use Rattle.circuit_model.specs.Names.{has}
use Rattle.circuit_model.specs.Runs.{latch_outputs}
use Rattle.circuit_model.specs.Soundness.{control_of, names_of}
use Rattle.circuit_model.specs.declared.circuit.Latch.{Latch}
use Rattle.circuit_model.specs.declared.circuit.Table.{Table}
use Rattle.net_core.specs.Fresh.{reserved_by}
use Rattle.net_core.proofs.Noted.{six_noted}
use Rattle.net_core.proofs.reserved.note_reserved.Goals as goal

pub returns : goal.returns
unfolding reserved_by
returns c =
    six_noted c.args.circuit.now.inputs (latch_outputs c.args.circuit.now) c.args.circuit.now.outputs c.args.circuit.now.clocks (control_of c.args.circuit.now.timing) (names_of c.args.circuit.now.dont_care)
    (has c.args.names.now.keys) (has c.note_all.new.names.keys) (has c.note_latch_outputs.new.names.keys) (has c.note_all-2.new.names.keys) (has c.note_all-3.new.names.keys) (has c.note_control.new.names.keys)
    (has c.note_tables.new.names.keys) (λ name. ap (λ (names : List (List ℕ)). has names name) c.requires)
    (λ name. c.in_ok-note_all.ensures name ∙ ap (λ (names : List (List ℕ)). has c.args.names.now.keys name || has names name) c.as_slice.ensures)
    (λ name. c.in_ok-note_latch_outputs.ensures name ∙ ap (λ (latches : List Latch). has c.note_all.new.names.keys name || has (map (λ (latch : Latch). latch.output) latches) name) c.as_slice-2.ensures)
    (λ name. c.in_ok-note_all-2.ensures name ∙ ap (λ (names : List (List ℕ)). has c.note_latch_outputs.new.names.keys name || has names name) c.as_slice-3.ensures)
    (λ name. c.in_ok-note_all-3.ensures name ∙ ap (λ (names : List (List ℕ)). has c.note_all-2.new.names.keys name || has names name) c.as_slice-4.ensures)
    c.in_ok-note_control.ensures
    (λ name. c.in_ok-note_tables.ensures name ∙ ap (λ (tables : List Table). has c.note_control.new.names.keys name || has (names_of tables) name) c.as_slice-5.ensures)
