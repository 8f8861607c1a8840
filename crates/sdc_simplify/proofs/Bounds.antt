-- What is simplified keeps within the bounds of a network.
use Rattle.std.proofs.Common.{◌≡◌, None, sym, ap, ◌∙◌, subst}
use Rattle.circuit_model.specs.Soundness.{IsSound}
use Rattle.circuit_model.specs.declared.circuit.Circuit.{Circuit}
use Rattle.net_core.specs.Reads.{HasBounds}
use Rattle.sdc_simplify.specs.Simplified.{simplified, simplify_refusal}
use Rattle.sdc_simplify.proofs.Small.{simplified_bounded}

pub bounds_kept : (network circuit made : Circuit) → IsSound network → circuit ≡ network → made ≡ simplified circuit → simplify_refusal circuit ≡ None → HasBounds network → HasBounds made
bounds_kept network circuit made sound same is none bounds =
    subst HasBounds (sym (is ∙ ap simplified same)) (simplified_bounded network sound bounds (ap simplify_refusal (sym same) ∙ none))
