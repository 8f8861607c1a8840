-- Full simplification: all steps of a network, and the bounds that it keeps.
use Rattle.std.proofs.Common.{◌≡◌, ℕ, true, List, [], ◌∷◌, fold, sym, ap, ◌∙◌, subst}
use Rattle.circuit_model.specs.Names.{has}
use Rattle.circuit_model.specs.Soundness.{outputs_of, IsSound}
use Rattle.circuit_model.specs.declared.circuit.Circuit.{Circuit}
use Rattle.circuit_order.specs.Order.{order_of}
use Rattle.circuit_order.proofs.Orders.{ordered}
use Rattle.net_core.specs.Reads.{HasBounds}
use Rattle.net_core.proofs.Removals.{tables_differ}
use Rattle.sdc_simplify.specs.Simplified.{with_minimum}
use Rattle.sdc_simplify.proofs.Small.{turn_bounded}
use Rattle.odc_simplify.specs.Full.{is_dont_care, fully_simplified, IsKept}
use Rattle.odc_simplify.specs.Turns.{PassAlong, IsFaultAlong, IsFullFault, AreTurned}
use Rattle.odc_simplify.specs.declared.fault.FullFault.{FullFault}
use Rattle.odc_simplify.proofs.Along.{full_fault}
use Rattle.odc_simplify.proofs.Kept.{turn_kept, fully_kept, fully_refines}
use Rattle.circuit_model.specs.Runs.{Refines}

turns_bounded : (limit : ℕ) (names : List (List ℕ)) (circuit : Circuit) → IsSound circuit
    → HasBounds circuit → PassAlong limit circuit names
    → HasBounds (fold (with_minimum is_dont_care) circuit names)
unfolding PassAlong
turns_bounded limit [] circuit sound bounds passed = bounds
turns_bounded limit (name ∷ names) circuit sound bounds passed =
    turns_bounded limit names (with_minimum is_dont_care circuit name)
    (turn_kept circuit name sound).sound
    (turn_bounded is_dont_care circuit name sound bounds passed.0.short) passed.1

-- a copy of a network after the steps of its order
module _ (limit : ℕ) (network copy : Circuit) (names : List (List ℕ)) (same : copy ≡ network)
    (ordered_so : names ≡ order_of network.tables) where
  whole : (P : Circuit → List (List ℕ) → Type 0) → P copy names
      → P network (order_of network.tables)
  whole P h = subst (P network) ordered_so (subst (λ (c : Circuit). P c names) same h)

  pub whole_driven : IsSound network → (name : List ℕ) → has names name ≡ true
      → has (outputs_of copy.tables) name ≡ true
  whole_driven sound name among =
      ap (λ (c : Circuit). has (outputs_of c.tables) name) same
      ∙ sym ((ordered network.tables (tables_differ network sound) sound.acyclic).each name)
      ∙ ap (λ (ns : List (List ℕ)). has ns name) (sym ordered_so) ∙ among

  pub whole_failed : (fault : FullFault) → IsFaultAlong limit copy names fault
      → IsFullFault limit network (order_of network.tables) fault
  whole_failed fault failed =
      full_fault limit network (order_of network.tables) fault
      (whole (λ c ns. IsFaultAlong limit c ns fault) failed)

  module _ (made : Circuit) (turned : AreTurned limit copy names made) where
    pub whole_passed : PassAlong limit network (order_of network.tables)
    whole_passed = whole (PassAlong limit) turned.passed

    pub whole_made : made ≡ fully_simplified network
    unfolding fully_simplified
    whole_made = (whole (λ c ns. AreTurned limit c ns made) turned).made

    pub whole_kept : IsSound network → IsKept network made
    whole_kept sound = subst (IsKept network) (sym whole_made) (fully_kept network sound)

    pub whole_refines : IsSound network → Refines network made
    whole_refines sound = subst (Refines network) (sym whole_made) (fully_refines network sound)

    pub whole_bounded : IsSound network → HasBounds network → HasBounds made
    whole_bounded sound bounds =
        subst HasBounds (sym (whole (λ c ns. AreTurned limit c ns made) turned).made)
        (turns_bounded limit (order_of network.tables) network sound bounds whole_passed)
