-- One table of the order after the other has its turn.
use Rattle.std.proofs.Common.{◌≡◌, ℕ, ◌<◌, ◌+◌, Bool, false, if◌then◌else◌, Option, Some, None, List, [], map, drop, length, get_or, refl, sym, ap, ◌∙◌, subst}
use Rattle.std.specs.Option.{option_map_or, option_or}
use Rattle.circuit_model.specs.Soundness.{IsSound}
use Rattle.circuit_model.specs.declared.circuit.Table.{Table}
use Rattle.circuit_laws.specs.Edits.{with_tables, with_replaced}
use Rattle.net_core.proofs.Removals.{tables_differ}
use Rattle.net_work.specs.Placed.{Placed, standing, circuit_of, table_at, name_at, with_slot}
use Rattle.net_work.specs.Along.{refusal_along, IsAlong}
use Rattle.net_work.proofs.Along.{IsTurn, turn_more as one_more, turn_refused as one_refused}
use Rattle.circuit_order.specs.Order.{order_of}
use Rattle.sdc_simplify.specs.Local.{is_local}
use Rattle.sdc_simplify.specs.Minimized.{minimized, is_list_long}
use Rattle.sdc_simplify.specs.Simplified.{with_minimum, own_refusal, minimum_refusal, simplified}
use Rattle.sdc_simplify.proofs.Minimal.{minimized_output}
use Rattle.sdc_simplify.proofs.InTurns.{turn_sound}
use Rattle.sdc_simplify.specs.Simplify.{IsCause}
use Rattle.sdc_simplify.specs.declared.fault.SimplifyFault.{SimplifyFault}
use Rattle.sdc_simplify.specs.declared.fault.SimplifyFault.TheVariants.{CubeLimit, Memory}
use Rattle.net_work.proofs.Indexed.{drives, standing_set}
use Rattle.sdc_simplify.proofs.Stands.{names_kept}

-- the circuit after a turn, and what a turn refuses
turned : (now new : Placed) (place : ℕ) (table : Table) → IsSound (circuit_of now) → table_at now.slots place ≡ Some table
    → new ≡ with_slot now place (Some (minimized table (is_local (circuit_of now) table))) → with_minimum is_local (circuit_of now) table.output ≡ circuit_of new
unfolding with_minimum with_replaced
turned now new place table sound at set =
    let made : Table = minimized table (is_local (circuit_of now) table) in
    ap (λ (found : Option Table). option_map_or (λ (t : Table). with_replaced (circuit_of now) (minimized t (is_local (circuit_of now) t))) found (circuit_of now)) (drives now place table sound at)
    ∙ (ap (λ (tables : List Table). with_tables now.frame tables)
    (sym (standing_set now.slots place table made (tables_differ (circuit_of now) sound) at (minimized_output table (is_local (circuit_of now) table))))
    ∙ ap circuit_of (sym set))

refusal_there : (now : Placed) (place : ℕ) (table : Table) → IsSound (circuit_of now) → table_at now.slots place ≡ Some table → minimum_refusal (circuit_of now) table.output ≡ own_refusal table
refusal_there now place table sound at =
    ap (λ (found : Option Table). if option_map_or is_list_long found false then Some table.output else None) (drives now place table sound at)

minimum_turn : (now new : Placed) (place : ℕ) (table : Table) → IsSound (circuit_of now) → table_at now.slots place ≡ Some table
    → new ≡ with_slot now place (Some (minimized table (is_local (circuit_of now) table))) → is_list_long table ≡ false → IsTurn (with_minimum is_local) minimum_refusal table.output now new
minimum_turn now new place table sound at set short = record {
  frame = ap (λ (placed : Placed). placed.frame) set;
  names_stay = λ i.
      ap (λ (placed : Placed). name_at placed.slots i) set
      ∙ names_kept now.slots place table (minimized table (is_local (circuit_of now) table)) at (minimized_output table (is_local (circuit_of now) table)) i;
  made = step;
  passed = refusal_there now place table sound at ∙ ap (λ (b : Bool). if b then Some table.output else None) short;
  sound = subst IsSound step (turn_sound (circuit_of now) table.output sound);
}
  where
    step : with_minimum is_local (circuit_of now) table.output ≡ circuit_of new
    step = turned now new place table sound at set

-- a cause that a table gives is that of the whole order
cause_or : (first rest : Option (List ℕ)) (fault : SimplifyFault) → IsCause first fault → IsCause (option_or first rest) fault
cause_or first rest (CubeLimit name) cause = ap (λ (o : Option (List ℕ)). option_or o rest) cause
cause_or first rest Memory cause = tt

-- the turn of a place
pub turn_more : (names : List (List ℕ)) (places : List ℕ) (i : ℕ) (before now new : Placed) → map (name_at before.slots) places ≡ map Some names → i < length places
    → IsAlong (with_minimum is_local) minimum_refusal names (drop i names) before now
    → ((table : Table) → table_at now.slots (get_or places i 0) ≡ Some table → new ≡ with_slot now (get_or places i 0) (Some (minimized table (is_local (circuit_of now) table))))
    → ((table : Table) → table_at now.slots (get_or places i 0) ≡ Some table → is_list_long table ≡ false) → IsAlong (with_minimum is_local) minimum_refusal names (drop (i + 1) names) before new
turn_more names places i before now new order lt along sets short =
    one_more (with_minimum is_local) minimum_refusal names places i before now new order lt along
    (λ table there. minimum_turn now new (get_or places i 0) table along.sound there (sets table there) (short table there))

pub turn_refused : (names : List (List ℕ)) (places : List ℕ) (i : ℕ) (before now : Placed) → map (name_at before.slots) places ≡ map Some names → i < length places
    → IsAlong (with_minimum is_local) minimum_refusal names (drop i names) before now
    → (fault : SimplifyFault) → ((table : Table) → table_at now.slots (get_or places i 0) ≡ Some table → IsCause (own_refusal table) fault)
    → IsCause (refusal_along (with_minimum is_local) minimum_refusal (circuit_of before) names) fault
turn_refused names places i before now order lt along fault cause =
    one_refused (with_minimum is_local) minimum_refusal names places i before now order lt along (λ (refusal : Option (List ℕ)). IsCause refusal fault)
    (λ table rest there. cause_or (minimum_refusal (circuit_of now) table.output) rest fault
    (subst (λ (refusal : Option (List ℕ)). IsCause refusal fault) (sym (refusal_there now (get_or places i 0) table along.sound there)) (cause table there)))

-- at the end of the order
pub along_whole : (before now : Placed) → IsAlong (with_minimum is_local) minimum_refusal (order_of (standing before.slots)) [] before now → circuit_of now ≡ simplified (circuit_of before)
unfolding simplified
along_whole before now along = sym along.end_same
