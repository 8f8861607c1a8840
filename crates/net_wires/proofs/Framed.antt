-- Sweep changes only the tables and the latches of a circuit, and the timing is removed with the
-- last latch.
use Rattle.std.proofs.Common.{◌≡◌, ℕ, Bool, true, false, not, ◌&&◌, if◌then◌else◌, Option, Some, None, is_some, List, [], ◌∷◌, map, find, refl, ap, ◌∙◌, subst}
use Rattle.std.specs.Option.{option_map, option_map_or, option_or}
use Rattle.std.proofs.lemmas.Option.{none-some, same_Some}
use Rattle.circuit_model.specs.Names.{has}
use Rattle.circuit_model.specs.Runs.{latch_outputs}
use Rattle.circuit_model.specs.Soundness.{IsSound}
use Rattle.circuit_model.specs.declared.circuit.Table.{Table}
use Rattle.circuit_model.specs.declared.circuit.Latch.{Latch}
use Rattle.circuit_model.specs.declared.circuit.Timing.{Timing}
use Rattle.circuit_model.specs.declared.circuit.Circuit.{Circuit}
use Rattle.circuit_laws.specs.Edits.{latches_kept, timing_with, with_tables, with_replaced, with_added, with_kept, with_fixed, constant_table}
use Rattle.circuit_laws.specs.Chains.{Leads, Chain}
use Rattle.circuit_tables.specs.Tidy.{is_tidy, tidied}
use Rattle.net_wires.specs.Points.{written_bit}
use Rattle.net_wires.specs.Needed.{all_needed, only_needed}
use Rattle.net_wires.specs.Rules.{tidy_table, unwritten_bit, with_constant, write_constant, tables_read, at_bit, with_constant_propagated, propagate_constant, rewired, only_input, is_inverter, with_single_input_collapsed, collapse_single_input, fixed_bit, with_latch_fixed, fix_constant_latch, remove_dangling, sweep_step}
use Rattle.net_wires.specs.Keeping.{IsKept, KeepsFrame}
use Rattle.net_wires.proofs.Steps.{applied}
use Rattle.net_wires.proofs.Chaining.{step_kept, leads_kept}

-- a sound circuit has timing only if it has a latch
timed : (latches : List Latch) (timing : Option Timing) → (latches ≡ [] → timing ≡ None) → timing ≡ timing_with latches timing
timed [] timing untimed = untimed refl
timed (latch ∷ latches) timing untimed = refl

tables_framed : (circuit : Circuit) (tables : List Table) → IsSound circuit → KeepsFrame circuit (with_tables circuit tables)
tables_framed circuit tables sound = record {
  name = refl;
  inputs = refl;
  outputs = refl;
  clocks = refl;
  timing = timed circuit.latches circuit.timing sound.untimed_without_latches;
  dont_care = refl;
}

itself_framed : (circuit : Circuit) → IsSound circuit → KeepsFrame circuit circuit
itself_framed circuit sound = tables_framed circuit circuit.tables sound

replaced_framed : (circuit : Circuit) (new : Table) → IsSound circuit → KeepsFrame circuit (with_replaced circuit new)
unfolding with_replaced
replaced_framed circuit new sound = tables_framed circuit (with_replaced circuit new).tables sound

fixed_framed : (circuit : Circuit) (name : List ℕ) (bit : Bool) → KeepsFrame circuit (with_fixed circuit name bit)
unfolding with_fixed with_added with_kept
fixed_framed circuit name bit = record { name = refl; inputs = refl; outputs = refl; clocks = refl; timing = refl; dont_care = refl }

needed_framed : (circuit : Circuit) → KeepsFrame circuit (only_needed circuit)
unfolding only_needed with_kept
needed_framed circuit = record { name = refl; inputs = refl; outputs = refl; clocks = refl; timing = refl; dont_care = refl }

-- a rule that applies keeps the frame where each of its turns does
turn_framed : {X : Type 0} (circuit new : Circuit) (turn : X → Circuit) → ((x : X) → KeepsFrame circuit (turn x)) → (found : Option X) → option_map turn found ≡ Some new → KeepsFrame circuit new
turn_framed circuit new turn each found h = let (x, at, is) = applied turn found new h in subst (KeepsFrame circuit) is (each x)

-- and a turn that asks for something keeps it where it does with what it asks for
asked_framed : {X : Type 0} (circuit : Circuit) → IsSound circuit → (turn : X → Circuit) → ((x : X) → KeepsFrame circuit (turn x)) → (asked : Option X) → KeepsFrame circuit (option_map_or turn asked circuit)
asked_framed circuit sound turn each None = itself_framed circuit sound
asked_framed circuit sound turn each (Some x) = each x

tidy_framed : (circuit new : Circuit) → IsSound circuit → tidy_table circuit ≡ Some new → KeepsFrame circuit new
unfolding tidy_table
tidy_framed circuit new sound h =
    turn_framed circuit new (λ table. with_replaced circuit (tidied table)) (λ table. replaced_framed circuit (tidied table) sound) (find (λ table. not (is_tidy table)) circuit.tables) h

constant_framed : (circuit new : Circuit) → IsSound circuit → write_constant circuit ≡ Some new → KeepsFrame circuit new
unfolding write_constant
constant_framed circuit new sound h =
    turn_framed circuit new (with_constant circuit)
    (λ table. asked_framed circuit sound (λ bit. with_replaced circuit (constant_table table.output bit)) (λ bit. replaced_framed circuit (constant_table table.output bit) sound) (unwritten_bit table))
    (find (λ table. is_some (unwritten_bit table)) circuit.tables) h

propagate_framed : (circuit new : Circuit) → IsSound circuit → propagate_constant circuit ≡ Some new → KeepsFrame circuit new
unfolding propagate_constant
propagate_framed circuit new sound h =
    turn_framed circuit new (with_constant_propagated circuit)
    (λ table. asked_framed circuit sound (λ bit. with_tables circuit (map (at_bit table.output bit) circuit.tables)) (λ bit. tables_framed circuit (map (at_bit table.output bit) circuit.tables) sound) (written_bit table))
    (find (λ (table : Table). is_some (written_bit table) && tables_read circuit table.output) circuit.tables) h

collapse_framed : (circuit new : Circuit) → IsSound circuit → collapse_single_input circuit ≡ Some new → KeepsFrame circuit new
unfolding collapse_single_input
collapse_framed circuit new sound h =
    turn_framed circuit new (with_single_input_collapsed circuit)
    (λ table. asked_framed circuit sound (λ input. with_tables circuit (map (rewired table.output input (is_inverter table)) circuit.tables))
    (λ input. tables_framed circuit (map (rewired table.output input (is_inverter table)) circuit.tables) sound) (only_input table.inputs))
    (find (λ (table : Table). is_some (only_input table.inputs) && tables_read circuit table.output) circuit.tables) h

latch_framed : (circuit new : Circuit) → IsSound circuit → fix_constant_latch circuit ≡ Some new → KeepsFrame circuit new
unfolding fix_constant_latch
latch_framed circuit new sound h =
    turn_framed circuit new (with_latch_fixed circuit)
    (λ latch. asked_framed circuit sound (λ bit. with_fixed circuit latch.output bit) (λ bit. fixed_framed circuit latch.output bit) (fixed_bit circuit latch))
    (find (λ (latch : Latch). is_some (fixed_bit circuit latch)) circuit.latches) h

dangling_framed : (circuit new : Circuit) → remove_dangling circuit ≡ Some new → KeepsFrame circuit new
unfolding remove_dangling
dangling_framed circuit new h = cases (all_needed circuit) h
  where
    cases : (t : Bool) → (if t then None else Some (only_needed circuit)) ≡ Some new → KeepsFrame circuit new
    cases true e = absurd (none-some new e)
    cases false e = subst (KeepsFrame circuit) (same_Some (only_needed circuit) new e) (needed_framed circuit)

pub step_framed : (circuit new : Circuit) → IsSound circuit → sweep_step circuit ≡ Some new → KeepsFrame circuit new
unfolding sweep_step
step_framed circuit new sound h = first (tidy_table circuit) refl (write_constant circuit) refl (propagate_constant circuit) refl (collapse_single_input circuit) refl (fix_constant_latch circuit) refl h
  where
    first : (a : Option Circuit) → tidy_table circuit ≡ a → (b : Option Circuit) → write_constant circuit ≡ b → (c : Option Circuit) → propagate_constant circuit ≡ c
        → (d : Option Circuit) → collapse_single_input circuit ≡ d → (e : Option Circuit) → fix_constant_latch circuit ≡ e
        → option_or a (option_or b (option_or c (option_or d (option_or e (remove_dangling circuit))))) ≡ Some new → KeepsFrame circuit new
    first (Some x) p b q c r d s e t k = tidy_framed circuit new sound (p ∙ k)
    first None p (Some x) q c r d s e t k = constant_framed circuit new sound (q ∙ k)
    first None p None q (Some x) r d s e t k = propagate_framed circuit new sound (r ∙ k)
    first None p None q None r (Some x) s e t k = collapse_framed circuit new sound (s ∙ k)
    first None p None q None r None s (Some x) t k = latch_framed circuit new sound (t ∙ k)
    first None p None q None r None s None t k = dangling_framed circuit new k

-- step after step: no latch returns

timing_twice : (test : List ℕ → Bool) (some latches : List Latch) (timing : Option Timing) → latches ≡ latches_kept test some → timing_with latches (timing_with some timing) ≡ timing_with latches timing
unfolding latches_kept
timing_twice test some [] timing e = refl
timing_twice test [] (latch ∷ latches) timing e = absurd (let no : latch ∷ latches ≡ [] = e in cc)
timing_twice test (first ∷ some) (latch ∷ latches) timing e = refl

framed_through : (first second third : Circuit) → third.latches ≡ latches_kept (has (latch_outputs third)) second.latches → KeepsFrame first second → KeepsFrame second third → KeepsFrame first third
framed_through first second third latches p q = record {
  name = q.name ∙ p.name;
  inputs = q.inputs ∙ p.inputs;
  outputs = q.outputs ∙ p.outputs;
  clocks = q.clocks ∙ p.clocks;
  timing = q.timing ∙ ap (timing_with third.latches) p.timing ∙ timing_twice (has (latch_outputs third)) second.latches third.latches first.timing latches;
  dont_care = q.dont_care ∙ p.dont_care;
}

leads_framed : (between : List Circuit) (circuit new : Circuit) → IsSound circuit → Leads sweep_step between circuit new → KeepsFrame circuit new
leads_framed [] circuit new sound same = subst (KeepsFrame circuit) same (itself_framed circuit sound)
leads_framed (next ∷ rest) circuit new sound steps =
    let first : IsKept circuit next = step_kept circuit next sound steps.0 in
    let others : IsKept next new = leads_kept rest next new first.sound steps.1 in
    framed_through circuit next new others.left.latches (step_framed circuit next sound steps.0) (leads_framed rest next new first.sound steps.1)

pub chain_framed : (circuit new : Circuit) → IsSound circuit → Chain sweep_step circuit new → KeepsFrame circuit new
chain_framed circuit new sound chain = leads_framed chain.reached.between circuit new sound chain.reached.steps
