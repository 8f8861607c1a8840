-- Chains of steps of sweep: each step decreases a number, so that there is one from each sound
-- circuit.
use Rattle.std.proofs.Common.{◌≡◌, ℕ, zero, suc, ◌<◌, Option, Some, None, refl, arith}
use Rattle.circuit_model.specs.Soundness.{IsSound}
use Rattle.circuit_model.specs.declared.circuit.Circuit.{Circuit}
use Rattle.circuit_laws.specs.Chains.{Chain}
use Rattle.circuit_laws.proofs.Chains.{chain_none, chain_before}
use Rattle.net_wires.specs.Rules.{sweep_step}
use Rattle.net_wires.specs.Keeping.{IsKept}
use Rattle.net_wires.proofs.Chaining.{step_kept}
use Rattle.net_wires.proofs.Weight.{weight}
use Rattle.net_wires.proofs.Falling.{step_falls}

-- a sound circuit has an end
end_within : (most : ℕ) (circuit : Circuit) → IsSound circuit → weight circuit < most → (last : Circuit) × Chain sweep_step circuit last
end_within zero circuit sound small = absurd (omega arith)
end_within (suc most) circuit sound small = by (sweep_step circuit) refl (end_within most)
  where
    by : (next : Option Circuit) → sweep_step circuit ≡ next → ((new : Circuit) → IsSound new → weight new < most → (last : Circuit) × Chain sweep_step new last)
        → (last : Circuit) × Chain sweep_step circuit last
    by None e rest = (circuit, chain_none sweep_step circuit e)
    by (Some new) e rest =
        let kept : IsKept circuit new = step_kept circuit new sound e in
        let falls : weight new < weight circuit = step_falls circuit new sound e in
        let (last, chain) = rest new kept.sound (omega arith) in
        (last, chain_before sweep_step circuit new last e chain)

pub sound_end : (circuit : Circuit) → IsSound circuit → (last : Circuit) × Chain sweep_step circuit last
sound_end circuit sound = end_within (suc (weight circuit)) circuit sound (omega arith)
