-- A table without fanout may be emptied: sweep ends at the same circuit.
use Rattle.std.proofs.Common.{◌≡◌, ℕ, false, None, List, [], ◌∷◌, refl, ap, ◌∙◌, subst, sym, inl, inr}
use Rattle.std.proofs.lemmas.Bool.{false≢true}
use Rattle.circuit_model.specs.Soundness.{IsSound}
use Rattle.circuit_model.specs.declared.circuit.Circuit.{Circuit}
use Rattle.circuit_laws.specs.Chains.{Leads, Chain}
use Rattle.circuit_laws.specs.Edits.{with_tables, with_replaced, constant_table}
use Rattle.circuit_laws.proofs.Names.{different_none}
use Rattle.circuit_laws.proofs.Drivers.{output_driver}
use Rattle.circuit_laws.proofs.Paths.{narrowed_acyclic}
use Rattle.circuit_laws.proofs.Sound.{sound_replaced}
use Rattle.net_wires.specs.Rules.{sweep_step}
use Rattle.net_wires.specs.Idle.{IsIdle, with_emptied}
use Rattle.circuit_laws.proofs.Mapped.{outputs_different}
use Rattle.net_wires.proofs.Chaining.{step_kept}
use Rattle.net_wires.proofs.Emptied.{emptied_is_replaced}
use Rattle.net_wires.proofs.Beside.{beside}
use Rattle.net_wires.proofs.Remaining.{Follows, step_follows, idle_unfinished}
use Rattle.circuit_laws.proofs.Chains.{chain_before, chain_same}
use Rattle.net_wires.proofs.Ended.{sound_end}

-- the circuit with the emptied table is sound
pub emptied_sound : (circuit : Circuit) (name : List ℕ) → IsSound circuit → IsIdle circuit name → IsSound (with_emptied circuit name)
emptied_sound circuit name sound idle =
    let (table, at) = output_driver circuit.tables name idle.driven in
    sound_replaced circuit (constant_table name false) sound idle.driven (record { live = tt; once = different_none; shaped = (tt, λ none. refl) })
    (narrowed_acyclic circuit.tables table (constant_table name false) sound.acyclic at (λ input reads. absurd (false≢true reads)))

emptied_beside : (circuit : Circuit) (name : List ℕ) → IsSound circuit → with_emptied circuit name ≡ beside circuit name
unfolding with_replaced
emptied_beside circuit name sound = ap (with_tables circuit) (emptied_is_replaced name circuit.tables (outputs_different circuit sound))

leads_beside : (between : List Circuit) (circuit last : Circuit) (name : List ℕ) → IsSound circuit → IsIdle circuit name → Leads sweep_step between circuit last → sweep_step last ≡ None
    → Chain sweep_step (beside circuit name) last
leads_beside [] circuit last name sound idle same finished = absurd (idle_unfinished circuit name idle (ap sweep_step same ∙ finished))
leads_beside (next ∷ rest) circuit last name sound idle steps finished =
    by (step_follows circuit next name sound idle steps.0) (λ still. leads_beside rest next last name (step_kept circuit next sound steps.0).sound still steps.1 finished)
  where
    by : Follows name circuit next → (IsIdle next name → Chain sweep_step (beside next name) last) → Chain sweep_step (beside circuit name) last
    by (inl (still, inl same)) goes = subst (λ (from : Circuit). Chain sweep_step from last) same (goes still)
    by (inl (still, inr step)) goes = chain_before sweep_step (beside circuit name) (beside next name) last step (goes still)
    by (inr step) goes = chain_before sweep_step (beside circuit name) next last step (record { reached = record { between = rest; steps = steps.1 }; done = finished })

-- where the chain of a circuit ends, the chain of the circuit with the emptied table ends
pub ends_emptied : (circuit last : Circuit) (name : List ℕ) → IsSound circuit → IsIdle circuit name → Chain sweep_step circuit last → Chain sweep_step (with_emptied circuit name) last
ends_emptied circuit last name sound idle chain =
    subst (λ (from : Circuit). Chain sweep_step from last) (sym (emptied_beside circuit name sound)) (leads_beside chain.reached.between circuit last name sound idle chain.reached.steps chain.done)

-- and conversely
pub emptied_ends : (circuit end : Circuit) (name : List ℕ) → IsSound circuit → IsIdle circuit name → Chain sweep_step (with_emptied circuit name) end → Chain sweep_step circuit end
emptied_ends circuit end name sound idle chain =
    let (last, whole) = sound_end circuit sound in
    subst (Chain sweep_step circuit) (chain_same sweep_step (with_emptied circuit name) last end (ends_emptied circuit last name sound idle whole) chain) whole
