-- Steps of the first five rules, on the circuit with the remaining latches.
use Rattle.std.proofs.Common.{◌≡◌, ℕ, ◌<◌, ◌≤◌, Bool, true, false, Option, Some, None, is_some, List, [], ◌∷◌, ◌++◌, length, map, set, find, slice_get, refl, sym, ap, ◌∙◌, subst, arith}
use Rattle.std.specs.Option.{option_map, option_map_or, option_or}
use Rattle.std.proofs.lemmas.Option.{slice_get_within}
use Rattle.circuit_model.specs.Names.{has}
use Rattle.circuit_model.specs.Runs.{latch_outputs}
use Rattle.circuit_model.specs.Soundness.{outputs_of, given, IsSound}
use Rattle.circuit_model.specs.declared.circuit.Table.{Table}
use Rattle.circuit_model.specs.declared.circuit.Latch.{Latch}
use Rattle.circuit_model.specs.declared.circuit.Timing.{Timing}
use Rattle.circuit_model.specs.declared.circuit.Circuit.{Circuit}
use Rattle.circuit_laws.specs.Edits.{constant_table, with_added, with_fixed, with_kept, with_replaced, with_tables, tables_kept, latches_kept, is_other, timing_with}
use Rattle.circuit_laws.proofs.Names.{has_not, different_apart}
use Rattle.circuit_laws.proofs.Places.{tables_stay}
use Rattle.net_wires.proofs.Taking.{latches_differ}
use Rattle.net_wires.specs.Points.{written_bit}
use Rattle.net_wires.specs.Rules.{tidy_table, write_constant, propagate_constant, collapse_single_input, fix_constant_latch, remove_dangling, unwritten_bit, only_input, fixed_bit, at_bit, rewired, is_inverter, with_latch_fixed, sweep_step}
use Rattle.net_wires.proofs.Falling.{step_falls}
use Rattle.net_wires.proofs.Weight.{weight}
use Rattle.net_sweep.specs.declared.queues.Rule.{Rule}
use Rattle.net_sweep.specs.declared.queues.Rule.TheVariants.{TidyTable, WriteConstant, PropagateConstant, CollapseSingleInput}
use Rattle.net_sweep.specs.declared.latches.TrackedLatches.{TrackedLatches}
use Rattle.net_sweep.specs.declared.steps.Step.{Step}
use Rattle.net_sweep.specs.declared.steps.Step.TheVariants.{Apply, Fix}
use Rattle.net_sweep.specs.Settled.{passes, rule_applied, table_step, IsNext, HasLed, AreCandidates}
use Rattle.net_sweep.specs.Latches.{left_at, with_latches, IsFirstFixed, IsNextStep, IsReady}
use Rattle.net_sweep.proofs.Chaining.{not_yet, one_more, led_through, no_heavier, table_step_is, other_step_is}
use Rattle.net_sweep.proofs.Latching.{fixed_same, found_left, none_left, left_has, left_cleared}

-- a rule that changes tables leaves latches and timing

applied_whole : (rule : Rule) (circuit : Circuit) (latches : List Latch) (table : Table) → rule_applied rule (with_latches circuit latches) table ≡ with_latches (rule_applied rule circuit table) latches
unfolding with_replaced
applied_whole TidyTable circuit latches table = refl
applied_whole WriteConstant circuit latches table = by (unwritten_bit table)
  where
    by : (o : Option Bool) → option_map_or (λ bit. with_replaced (with_latches circuit latches) (constant_table table.output bit)) o (with_latches circuit latches)
        ≡ with_latches (option_map_or (λ bit. with_replaced circuit (constant_table table.output bit)) o circuit) latches
    by None = refl
    by (Some bit) = refl
applied_whole PropagateConstant circuit latches table = by (written_bit table)
  where
    by : (o : Option Bool) → option_map_or (λ bit. with_tables (with_latches circuit latches) (map (at_bit table.output bit) circuit.tables)) o (with_latches circuit latches)
        ≡ with_latches (option_map_or (λ bit. with_tables circuit (map (at_bit table.output bit) circuit.tables)) o circuit) latches
    by None = refl
    by (Some bit) = refl
applied_whole CollapseSingleInput circuit latches table = by (only_input table.inputs)
  where
    by : (o : Option (List ℕ)) → option_map_or (λ input. with_tables (with_latches circuit latches) (map (rewired table.output input (is_inverter table)) circuit.tables)) o (with_latches circuit latches)
        ≡ with_latches (option_map_or (λ input. with_tables circuit (map (rewired table.output input (is_inverter table)) circuit.tables)) o circuit) latches
    by None = refl
    by (Some input) = refl

found_applied : (rule : Rule) (circuit : Circuit) (latches : List Latch) (o : Option Table)
    → option_map (rule_applied rule (with_latches circuit latches)) o ≡ option_map (λ (c : Circuit). with_latches c latches) (option_map (rule_applied rule circuit) o)
found_applied rule circuit latches None = refl
found_applied rule circuit latches (Some table) = ap Some (applied_whole rule circuit latches table)

pub table_step_whole : (circuit : Circuit) (latches : List Latch) → table_step (with_latches circuit latches) ≡ option_map (λ (c : Circuit). with_latches c latches) (table_step circuit)
unfolding table_step tidy_table write_constant propagate_constant collapse_single_input
table_step_whole circuit latches =
    all (find (passes TidyTable circuit.tables) circuit.tables) (find (passes WriteConstant circuit.tables) circuit.tables) (find (passes PropagateConstant circuit.tables) circuit.tables) (find (passes CollapseSingleInput circuit.tables) circuit.tables)
  where
    whole : Circuit
    whole = with_latches circuit latches

    back : Circuit → Circuit
    back c = with_latches c latches

    either : (a b c d : Option Circuit) → option_or (option_map back a) (option_or (option_map back b) (option_or (option_map back c) (option_map back d))) ≡ option_map back (option_or a (option_or b (option_or c d)))
    either (Some x) b c d = refl
    either None (Some x) c d = refl
    either None None (Some x) d = refl
    either None None None d = refl

    all : (o p q r : Option Table)
        → option_or (option_map (rule_applied TidyTable whole) o) (option_or (option_map (rule_applied WriteConstant whole) p) (option_or (option_map (rule_applied PropagateConstant whole) q) (option_map (rule_applied CollapseSingleInput whole) r)))
        ≡ option_map back (option_or (option_map (rule_applied TidyTable circuit) o) (option_or (option_map (rule_applied WriteConstant circuit) p) (option_or (option_map (rule_applied PropagateConstant circuit) q) (option_map (rule_applied CollapseSingleInput circuit) r))))
    all o p q r =
        rw (found_applied TidyTable circuit latches o, found_applied WriteConstant circuit latches p, found_applied PropagateConstant circuit latches q, found_applied CollapseSingleInput circuit latches r)
        (either (option_map (rule_applied TidyTable circuit) o) (option_map (rule_applied WriteConstant circuit) p) (option_map (rule_applied PropagateConstant circuit) q) (option_map (rule_applied CollapseSingleInput circuit) r))

-- the step that makes a latch a table

timing_twice : (test : List ℕ → Bool) (latches : List Latch) (timing : Option Timing) → timing_with (latches_kept test latches) (timing_with latches timing) ≡ timing_with (latches_kept test latches) timing
unfolding latches_kept
timing_twice test [] timing = refl
timing_twice test (latch ∷ latches) timing = refl

undriven : (circuit : Circuit) (name : List ℕ) → IsSound circuit → has (latch_outputs circuit) name ≡ true → has (outputs_of circuit.tables) name ≡ false
unfolding given
undriven circuit name h held =
    has_not (outputs_of circuit.tables) name (λ driven.
    (different_apart (latch_outputs circuit) (outputs_of circuit.tables) (different_apart circuit.inputs (latch_outputs circuit ++ outputs_of circuit.tables) h.one_driver).back).between name held driven)

pub latch_undriven : (circuit : Circuit) (slots : List (Option Latch)) (place : ℕ) (latch : Latch) → IsSound (with_latches circuit (left_at slots)) → slice_get slots place ≡ Some (Some latch)
    → has (outputs_of circuit.tables) latch.output ≡ false
latch_undriven circuit slots place latch sound at = undriven (with_latches circuit (left_at slots)) latch.output sound (left_has slots place latch at)

fixed_whole : (circuit : Circuit) (slots : List (Option Latch)) (place : ℕ) (latch : Latch) (bit : Bool) → IsSound (with_latches circuit (left_at slots)) → slice_get slots place ≡ Some (Some latch)
    → with_fixed (with_latches circuit (left_at slots)) latch.output bit ≡ with_latches (with_added circuit (constant_table latch.output bit)) (left_at (set slots place None))
unfolding with_fixed with_added with_kept
fixed_whole circuit slots place latch bit sound at =
    let ts : tables_kept (is_other latch.output) circuit.tables ≡ circuit.tables = tables_stay circuit.tables latch.output (latch_undriven circuit slots place latch sound at) in
    let ls : latches_kept (is_other latch.output) (left_at slots) ≡ left_at (set slots place None) = left_cleared slots place latch (latches_differ (with_latches circuit (left_at slots)) sound) at in
    let time : timing_with (latches_kept (is_other latch.output) (left_at slots)) (timing_with (left_at slots) circuit.timing) ≡ timing_with (latches_kept (is_other latch.output) (left_at slots)) circuit.timing =
    timing_twice (is_other latch.output) (left_at slots) circuit.timing in
    rw (time, ts, ls) refl

latch_rule_is : (circuit : Circuit) (latch : Latch) (bit : Bool) → find (λ (l : Latch). is_some (fixed_bit circuit l)) circuit.latches ≡ Some latch → fixed_bit circuit latch ≡ Some bit
    → fix_constant_latch circuit ≡ Some (with_fixed circuit latch.output bit)
unfolding fix_constant_latch
latch_rule_is circuit latch bit found has_bit =
    ap (option_map (with_latch_fixed circuit)) found ∙ ap Some (ap (λ (o : Option Bool). option_map_or (λ b. with_fixed circuit latch.output b) o circuit) has_bit)

latch_rule_none : (circuit : Circuit) → find (λ (l : Latch). is_some (fixed_bit circuit l)) circuit.latches ≡ None → fix_constant_latch circuit ≡ None
unfolding fix_constant_latch
latch_rule_none circuit none = ap (option_map (with_latch_fixed circuit)) none

whole_bit : (circuit : Circuit) (latches : List Latch) (latch : Latch) → fixed_bit (with_latches circuit latches) latch ≡ fixed_bit circuit latch
whole_bit circuit latches latch = fixed_same circuit (with_latches circuit latches) latch refl refl

whole_find : (circuit : Circuit) (latches among : List Latch) → find (λ (l : Latch). is_some (fixed_bit (with_latches circuit latches) l)) among ≡ find (λ (l : Latch). is_some (fixed_bit circuit l)) among
whole_find circuit latches [] = refl
whole_find circuit latches (first ∷ among) = rw (whole_bit circuit latches first, whole_find circuit latches among) refl

-- the next step

pub applied_stepped : (circuit new : Circuit) (slots after : List (Option Latch)) (rule : Rule) (place : ℕ) → IsNext circuit (Some (rule, place))
    → ((table : Table) → slice_get circuit.tables place ≡ Some table → new ≡ rule_applied rule circuit table) → after ≡ slots
    → sweep_step (with_latches circuit (left_at slots)) ≡ Some (with_latches new (left_at after))
applied_stepped circuit new slots after rule place next turned same =
    let (table, at, step, tidy) = next in
    table_step_is (with_latches circuit (left_at slots)) (with_latches new (left_at after))
    (table_step_whole circuit (left_at slots) ∙ (ap (option_map (λ (c : Circuit). with_latches c (left_at slots))) (step ∙ ap Some (sym (turned table at)))
    ∙ ap (λ (s : List (Option Latch)). Some (with_latches new (left_at s))) (sym same)))

pub applied_next : (circuit : Circuit) (slots : List (Option Latch)) (step : Step) (rule : Rule) (place : ℕ) → IsNextStep circuit slots (Some step) → step ≡ Apply rule place → IsNext circuit (Some (rule, place))
applied_next circuit slots step rule place next is = subst (λ (s : Step). IsNextStep circuit slots (Some s)) is next

pub fix_next : (circuit : Circuit) (slots : List (Option Latch)) (step : Step) (place : ℕ) (bit : Bool) → IsNextStep circuit slots (Some step) → step ≡ Fix place bit → (table_step circuit ≡ None) × IsFirstFixed circuit slots (Some (place, bit))
fix_next circuit slots step place bit next is = subst (λ (s : Step). IsNextStep circuit slots (Some s)) is next

pub applied_within : (circuit : Circuit) (rule : Rule) (place : ℕ) → IsNext circuit (Some (rule, place)) → place < length circuit.tables
applied_within circuit rule place next = let (table, at, step, tidy) = next in slice_get_within circuit.tables place table at

pub applied_tidy : (circuit : Circuit) (rule : Rule) (place : ℕ) → IsNext circuit (Some (rule, place)) → rule ≡ CollapseSingleInput → find (passes TidyTable circuit.tables) circuit.tables ≡ None
applied_tidy circuit rule place next = let (table, at, step, tidy) = next in tidy

pub fix_there : (circuit : Circuit) (slots : List (Option Latch)) (place : ℕ) (bit : Bool) → IsFirstFixed circuit slots (Some (place, bit)) → (latch : Latch) × (slice_get slots place ≡ Some (Some latch))
fix_there circuit slots place bit first = let (latch, at, has_bit, found) = first in (latch, at)

pub fix_stepped : (circuit new : Circuit) (slots after : List (Option Latch)) (place : ℕ) (bit : Bool) → IsSound (with_latches circuit (left_at slots)) → (table_step circuit ≡ None) × IsFirstFixed circuit slots (Some (place, bit))
    → ((latch : Latch) → slice_get slots place ≡ Some (Some latch) → new ≡ with_added circuit (constant_table latch.output bit)) → after ≡ set slots place None
    → sweep_step (with_latches circuit (left_at slots)) ≡ Some (with_latches new (left_at after))
fix_stepped circuit new slots after place bit sound next fixed cleared =
    let (none, first) = next in
    let (latch, at, has_bit, found) = first in
    let whole : Circuit = with_latches circuit (left_at slots) in
    let taken : fix_constant_latch whole ≡ Some (with_fixed whole latch.output bit) =
    latch_rule_is whole latch bit (whole_find circuit (left_at slots) (left_at slots) ∙ found_left circuit slots latch found) (whole_bit circuit (left_at slots) latch ∙ has_bit) in
    other_step_is whole (Some (with_latches new (left_at after))) (table_step_whole circuit (left_at slots) ∙ ap (option_map (λ (c : Circuit). with_latches c (left_at slots))) none)
    (ap Some (ap (λ (s : List (Option Latch)). with_latches new (left_at s)) cleared
    ∙ (ap (λ (c : Circuit). with_latches c (left_at (set slots place None))) (fixed latch at) ∙ sym (fixed_whole circuit slots place latch bit sound at)))
    ∙ sym (ap (λ (o : Option Circuit). option_or o (remove_dangling whole)) taken))

-- steps one after the other

pub record IsSettling (from to : Circuit) (tracked : TrackedLatches) (marks : Rule → ℕ → Bool) : Type 0 where
  pub led : HasLed from (with_latches to (left_at tracked.slots.items))
  pub marked : AreCandidates marks to.tables
  pub ready : IsReady tracked to

whole_again : (circuit : Circuit) → IsSound circuit → with_latches circuit circuit.latches ≡ circuit
whole_again circuit sound = ap (λ (timing : Option Timing). record circuit { timing = timing }) (by circuit.latches refl)
  where
    by : (latches : List Latch) → circuit.latches ≡ latches → timing_with latches circuit.timing ≡ circuit.timing
    by [] e = sym (sound.untimed_without_latches e)
    by (latch ∷ latches) e = refl

pub begun : (circuit : Circuit) (slots : List (Option Latch)) → IsSound circuit → left_at slots ≡ circuit.latches → HasLed circuit (with_latches circuit (left_at slots))
begun circuit slots sound left = subst (HasLed circuit) (sym (ap (with_latches circuit) left ∙ whole_again circuit sound)) (not_yet circuit sound)

pub settling_itself : (circuit : Circuit) (tracked : TrackedLatches) (marks : Rule → ℕ → Bool) → IsSound (with_latches circuit (left_at tracked.slots.items)) → AreCandidates marks circuit.tables → IsReady tracked circuit
    → IsSettling (with_latches circuit (left_at tracked.slots.items)) circuit tracked marks
settling_itself circuit tracked marks sound marked ready = record { led = not_yet (with_latches circuit (left_at tracked.slots.items)) sound; marked = marked; ready = ready }

-- the remaining latches may be given by slots that equal them
pub led_on : (from to : Circuit) (slots mid : List (Option Latch)) → HasLed from (with_latches to (left_at slots)) → mid ≡ slots → HasLed from (with_latches to (left_at mid))
led_on from to slots mid led same = subst (λ (ss : List (Option Latch)). HasLed from (with_latches to (left_at ss))) (sym same) led

-- a step, after which the table at which it was taken is emptied if it has no fanout
pub settling_more : (from to mid_circuit new : Circuit) (tracked mid after : TrackedLatches) (marks marks_after : Rule → ℕ → Bool) → IsSettling from to tracked marks
    → mid.slots.items ≡ tracked.slots.items → sweep_step (with_latches to (left_at mid.slots.items)) ≡ Some (with_latches mid_circuit (left_at after.slots.items))
    → HasLed (with_latches mid_circuit (left_at after.slots.items)) (with_latches new (left_at after.slots.items))
    → AreCandidates marks_after new.tables → IsReady after new → IsSettling from new after marks_after
settling_more from to mid_circuit new tracked mid after marks marks_after h same step emptied marked ready = record {
  led = led_through from (with_latches mid_circuit (left_at after.slots.items)) (with_latches new (left_at after.slots.items))
      (one_more from (with_latches to (left_at tracked.slots.items)) (with_latches mid_circuit (left_at after.slots.items)) h.led
      (subst (λ (slots : List (Option Latch)). sweep_step (with_latches to (left_at slots)) ≡ Some (with_latches mid_circuit (left_at after.slots.items))) same step)) emptied;
  marked = marked;
  ready = ready;
}

stepped_sound : (from to mid_circuit : Circuit) (slots mid after : List (Option Latch)) → HasLed from (with_latches to (left_at slots)) → mid ≡ slots → sweep_step (with_latches to (left_at mid)) ≡ Some (with_latches mid_circuit (left_at after))
    → HasLed from (with_latches mid_circuit (left_at after))
stepped_sound from to mid_circuit slots mid after led same step =
    one_more from (with_latches to (left_at slots)) (with_latches mid_circuit (left_at after)) led
    (subst (λ (ss : List (Option Latch)). sweep_step (with_latches to (left_at ss)) ≡ Some (with_latches mid_circuit (left_at after))) same step)

-- the circuit after a step is sound
pub behind_sound : (from to mid_circuit : Circuit) (slots mid after : List (Option Latch)) → HasLed from (with_latches to (left_at slots)) → mid ≡ slots → sweep_step (with_latches to (left_at mid)) ≡ Some (with_latches mid_circuit (left_at after))
    → IsSound (with_latches mid_circuit (left_at after))
behind_sound from to mid_circuit slots mid after led same step = (stepped_sound from to mid_circuit slots mid after led same step).sound

pub settling_falls : (from to mid_circuit new : Circuit) (slots mid after : List (Option Latch)) → HasLed from (with_latches to (left_at slots)) → mid ≡ slots → sweep_step (with_latches to (left_at mid)) ≡ Some (with_latches mid_circuit (left_at after))
    → HasLed (with_latches mid_circuit (left_at after)) (with_latches new (left_at after)) → weight (with_latches new (left_at after)) < weight (with_latches to (left_at slots))
settling_falls from to mid_circuit new slots mid after led same step emptied =
    let one : weight (with_latches mid_circuit (left_at after)) < weight (with_latches to (left_at slots)) =
    step_falls (with_latches to (left_at slots)) (with_latches mid_circuit (left_at after)) led.sound
    (subst (λ (ss : List (Option Latch)). sweep_step (with_latches to (left_at ss)) ≡ Some (with_latches mid_circuit (left_at after))) same step) in
    let rest : weight (with_latches new (left_at after)) ≤ weight (with_latches mid_circuit (left_at after)) =
    no_heavier (with_latches mid_circuit (left_at after)) (with_latches new (left_at after)) (behind_sound from to mid_circuit slots mid after led same step) emptied in
    omega (arith, one, rest)

-- the next step, once more for the latches as they are passed on
pub still_next : (circuit : Circuit) (slots mid : List (Option Latch)) (o : Option Step) (step : Step) → IsNextStep circuit slots o → o ≡ Some step → mid ≡ slots → IsNextStep circuit mid (Some step)
still_next circuit slots mid o step next is same = subst (λ (ss : List (Option Latch)). IsNextStep circuit ss (Some step)) (sym same) (subst (IsNextStep circuit slots) is next)

pub still_sound : (circuit : Circuit) (slots mid : List (Option Latch)) → IsSound (with_latches circuit (left_at slots)) → mid ≡ slots → IsSound (with_latches circuit (left_at mid))
still_sound circuit slots mid sound same = subst (λ (ss : List (Option Latch)). IsSound (with_latches circuit (left_at ss))) (sym same) sound

-- the first circuit may be given by one that equals it, and so may the last
pub led_between : (first from to last : Circuit) (slots after : List (Option Latch)) → HasLed (with_latches first (left_at slots)) (with_latches to (left_at after)) → first ≡ from → last ≡ to
    → HasLed (with_latches from (left_at slots)) (with_latches last (left_at after))
led_between first from to last slots after led f l =
    subst (λ (c : Circuit). HasLed (with_latches c (left_at slots)) (with_latches last (left_at after))) f
    (subst (λ (c : Circuit). HasLed (with_latches first (left_at slots)) (with_latches c (left_at after))) (sym l) led)

pub none_next : (circuit : Circuit) (slots mid : List (Option Latch)) (o : Option Step) → IsNextStep circuit slots o → o ≡ None → mid ≡ slots → IsNextStep circuit mid None
none_next circuit slots mid o next is same = subst (λ (ss : List (Option Latch)). IsNextStep circuit ss None) (sym same) (subst (IsNextStep circuit slots) is next)

pub settled_tables : (circuit left end : Circuit) (slots : List (Option Latch)) → IsNextStep circuit slots None → left ≡ circuit → end ≡ with_latches left (left_at slots) → table_step end ≡ None
settled_tables circuit left end slots next l is =
    ap table_step (is ∙ ap (λ (c : Circuit). with_latches c (left_at slots)) l)
    ∙ (table_step_whole circuit (left_at slots) ∙ ap (option_map (λ (c : Circuit). with_latches c (left_at slots))) next.0)

pub settled_latches : (circuit left end : Circuit) (slots : List (Option Latch)) → IsNextStep circuit slots None → left ≡ circuit → end ≡ with_latches left (left_at slots) → fix_constant_latch end ≡ None
settled_latches circuit left end slots next l is =
    ap fix_constant_latch (is ∙ ap (λ (c : Circuit). with_latches c (left_at slots)) l)
    ∙ latch_rule_none (with_latches circuit (left_at slots)) (whole_find circuit (left_at slots) (left_at slots) ∙ none_left circuit slots next.1)
