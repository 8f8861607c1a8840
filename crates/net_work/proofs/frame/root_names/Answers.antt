use Rattle.std.proofs.Common.{ℕ, ◌||◌, List, map, sym, ap, ap₂, ◌∙◌}
use Rattle.circuit_model.specs.Names.{has}
use Rattle.circuit_model.specs.Soundness.{latch_inputs}
use Rattle.circuit_model.specs.declared.circuit.Latch.{Latch}
use Rattle.circuit_laws.proofs.Names.{has_append}
use Rattle.net_work.specs.Frames.{roots_of}
use Rattle.net_work.proofs.frame.root_names.Goals as goal

pub returns : goal.returns
unfolding roots_of
returns c = λ name.
    c.in_ok-note_latch_inputs.ensures name
    ∙ (ap (λ (latches : List Latch). has c.note_all.new.names.keys name || has (map (λ (latch : Latch). latch.input) latches) name) c.as_slice-2.ensures
    ∙ (ap (λ b. b || has (latch_inputs c.args.circuit.now) name) (c.in_ok-note_all.ensures name)
    ∙ (ap₂ (λ (known more : List (List ℕ)). (has known name || has more name) || has (latch_inputs c.args.circuit.now) name) c.new-names.ensures.empty c.as_slice.ensures
    ∙ sym (has_append c.args.circuit.now.outputs (latch_inputs c.args.circuit.now) name))))
