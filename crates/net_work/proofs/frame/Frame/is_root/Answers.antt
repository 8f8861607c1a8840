use Rattle.std.proofs.Common.{ap, ◌∙◌}
use Rattle.circuit_model.specs.Soundness.{latch_inputs}
use Rattle.circuit_model.specs.declared.circuit.Circuit.{Circuit}
use Rattle.circuit_laws.specs.Edits.{is_root}
use Rattle.circuit_laws.proofs.Names.{has_append}
use Rattle.net_work.specs.Frames.{roots_of}
use Rattle.net_work.proofs.frame.Frame.is_root.Goals as goal

pub returns : goal.returns
unfolding is_root roots_of
returns c =
    c.contains.ensures
    ∙ (c.self.invariant.1 c.args.name.now
    ∙ (has_append c.self.inside.circuit.outputs (latch_inputs c.self.inside.circuit) c.args.name.now ∙ ap (λ (circuit : Circuit). is_root circuit c.args.name.now) c.self.view_is))
