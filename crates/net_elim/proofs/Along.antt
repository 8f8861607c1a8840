-- The tables of the order are composed into their fanouts one after the other.
use Rattle.std.proofs.Common.{◌≡◌, ℕ, ◌<◌, ◌+◌, Option, Some, None, List, map, drop, length, get_or, refl, sym, ap, ◌∙◌, subst}
use Rattle.std.specs.Option.{option_map, option_map_or, option_or}
use Rattle.circuit_model.specs.Soundness.{IsSound}
use Rattle.circuit_model.specs.declared.circuit.Table.{Table}
use Rattle.circuit_model.specs.declared.circuit.Circuit.{Circuit}
use Rattle.circuit_laws.specs.Edits.{with_tables}
use Rattle.net_work.specs.Placed.{Placed, standing, circuit_of, table_at, name_at}
use Rattle.net_work.specs.Along.{refusal_along, IsAlong}
use Rattle.net_work.proofs.Along.{IsTurn, turn_more as one_more, turn_refused as one_refused}
use Rattle.alg_tables.specs.Taking.{composed_into}
use Rattle.alg_tables.specs.declared.taking.ComposeFault.{ComposeFault}
use Rattle.alg_tables.proofs.Taken.{taken_output}
use Rattle.net_elim.specs.Eliminating.{with_taken}
use Rattle.net_elim.specs.Collapsing.{with_put, refusal_among, put_refusal}
use Rattle.net_elim.proofs.Gathered.{put_reduced}
use Rattle.net_elim.specs.Collapse.{IsCause}
use Rattle.net_elim.specs.declared.fault.CollapseFault.{CollapseFault}
use Rattle.net_elim.specs.Phases.{IsPutInAll}
use Rattle.net_elim.proofs.Stands.{standing_mapped}
use Rattle.net_work.proofs.Indexed.{drives}
use Rattle.net_elim.proofs.Turns.{cause_or}

-- the circuit after a step
put_circuit : (now new : Placed) (place : ℕ) (inner : Table) → IsSound (circuit_of now) → table_at now.slots place ≡ Some inner → IsPutInAll inner now new → with_put (circuit_of now) inner.output ≡ circuit_of new
unfolding with_put
put_circuit now new place inner sound at put =
    ap (λ (o : Option Table). option_map_or (with_taken (circuit_of now)) o (circuit_of now)) (drives now place inner sound at)
    ∙ (ap (λ (ts : List Table). with_tables now.frame ts) (sym (standing_mapped (composed_into inner) now.slots new.slots put.tables))
    ∙ ap (λ (f : Circuit). with_tables f (standing new.slots)) (sym put.frame))

refusal_there : (now : Placed) (place : ℕ) (inner : Table) → IsSound (circuit_of now) → table_at now.slots place ≡ Some inner
    → put_refusal (circuit_of now) inner.output ≡ refusal_among inner (standing now.slots)
refusal_there now place inner sound at =
    ap (λ (o : Option Table). option_map_or (λ (t : Table). refusal_among t (standing now.slots)) o None) (drives now place inner sound at)

stays_named : (inner : Table) (found : Option Table) → option_map (λ (t : Table). t.output) (option_map (composed_into inner) found) ≡ option_map (λ (t : Table). t.output) found
stays_named inner None = refl
stays_named inner (Some table) = ap (λ (n : List ℕ). Some n) (taken_output inner table)

put_turn : (now new : Placed) (place : ℕ) (inner : Table) → IsSound (circuit_of now) → table_at now.slots place ≡ Some inner → IsPutInAll inner now new → refusal_among inner (standing now.slots) ≡ None
    → IsTurn with_put put_refusal inner.output now new
put_turn now new place inner sound at put none = record {
  frame = put.frame;
  names_stay = λ i. ap (option_map (λ (t : Table). t.output)) (put.tables i) ∙ stays_named inner (table_at now.slots i);
  made = step;
  passed = refusal_there now place inner sound at ∙ none;
  sound = subst IsSound step (put_reduced (circuit_of now) inner.output sound).change.sound;
}
  where
    step : with_put (circuit_of now) inner.output ≡ circuit_of new
    step = put_circuit now new place inner sound at put

-- the step for the next index
pub turn_more : (names : List (List ℕ)) (places : List ℕ) (i : ℕ) (before now new : Placed) → map (name_at before.slots) places ≡ map Some names → i < length places
    → IsAlong with_put put_refusal names (drop i names) before now
    → ((inner : Table) → table_at now.slots (get_or places i 0) ≡ Some inner → IsPutInAll inner now new)
    → ((inner : Table) → table_at now.slots (get_or places i 0) ≡ Some inner → refusal_among inner (standing now.slots) ≡ None) → IsAlong with_put put_refusal names (drop (i + 1) names) before new
turn_more names places i before now new order long along puts none =
    one_more with_put put_refusal names places i before now new order long along
    (λ inner there. put_turn now new (get_or places i 0) inner along.sound there (puts inner there) (none inner there))

pub turn_refused : (names : List (List ℕ)) (places : List ℕ) (i : ℕ) (before now : Placed) → map (name_at before.slots) places ≡ map Some names → i < length places
    → IsAlong with_put put_refusal names (drop i names) before now
    → (fault : CollapseFault) → ((inner : Table) → table_at now.slots (get_or places i 0) ≡ Some inner → IsCause (refusal_among inner (standing now.slots)) fault)
    → IsCause (refusal_along with_put put_refusal (circuit_of before) names) fault
turn_refused names places i before now order long along fault cause =
    one_refused with_put put_refusal names places i before now order long along (λ (o : Option (List ℕ × ComposeFault)). IsCause o fault)
    (λ inner rest there. cause_or (put_refusal (circuit_of now) inner.output) rest fault
    (subst (λ (o : Option (List ℕ × ComposeFault)). IsCause o fault) (sym (refusal_there now (get_or places i 0) inner along.sound there)) (cause inner there)))
