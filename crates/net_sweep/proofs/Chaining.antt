-- Steps one after the other.
use Rattle.std.proofs.Common.{◌≡◌, ℕ, ◌<◌, ◌≤◌, ◌-◌, not, Option, Some, None, List, [], ◌∷◌, ◌++◌, false, inl, inr, refl, sym, ap, ◌∙◌, subst, arith}
use Rattle.std.specs.Option.{option_or}
use Rattle.circuit_model.specs.Soundness.{IsSound}
use Rattle.circuit_model.specs.declared.circuit.Circuit.{Circuit}
use Rattle.circuit_laws.specs.Chains.{Chain}
use Rattle.circuit_laws.proofs.Chains.{chain_none, chain_before}
use Rattle.circuit_laws.specs.Edits.{constant_table}
use Rattle.circuit_laws.proofs.Drivers.{output_driver}
use Rattle.std.proofs.lemmas.Bool.{false≢true}
use Rattle.net_wires.specs.Rules.{tidy_table, write_constant, propagate_constant, collapse_single_input, fix_constant_latch, remove_dangling, sweep_step}
use Rattle.net_wires.specs.Keeping.{IsKept}
use Rattle.net_wires.specs.Sweeping.{IsSwept}
use Rattle.net_wires.proofs.Chaining.{step_kept, chain_kept, chain_swept}
use Rattle.net_wires.proofs.Falling.{step_falls}
use Rattle.net_wires.proofs.Weight.{weight, replaced_lighter}
use Rattle.net_sweep.specs.Settled.{table_step, IsMove, Goes, HasLed}
use Rattle.net_wires.specs.Idle.{IsIdle, with_emptied}
use Rattle.net_wires.proofs.Idle.{emptied_sound, emptied_ends}

goes_more : (between : List Circuit) (from to next : Circuit) → Goes between from to → IsMove to next → Goes (between ++ next ∷ []) from next
goes_more [] from to next h turn = (subst (λ (c : Circuit). IsMove c next) (sym h) turn, refl)
goes_more (first ∷ between) from to next h turn = (h.0, goes_more between first to next h.1 turn)

goes_through : (between others : List Circuit) (from to end : Circuit) → Goes between from to → Goes others to end → Goes (between ++ others) from end
goes_through [] others from to end h k = subst (λ (c : Circuit). Goes others c end) (sym h) k
goes_through (first ∷ between) others from to end h k = (h.0, goes_through between others first to end h.1 k)

move_sound : (from to : Circuit) → IsSound from → IsMove from to → IsSound to
move_sound from to sound turn =
    elim turn as (λ _. IsSound to) [
      | inl step ↦ (step_kept from to sound step).sound
      | inr emptied ↦ (let (name, idle, is) = emptied in subst IsSound (sym is) (emptied_sound from name sound idle))
    ]

-- a turn changes no chain's end
move_ends : (from to end : Circuit) → IsSound from → IsMove from to → Chain sweep_step to end → Chain sweep_step from end
move_ends from to end sound turn chain =
    elim turn as (λ _. Chain sweep_step from end) [
      | inl step ↦ chain_before sweep_step from to end step chain
      | inr emptied ↦ (let (name, idle, is) = emptied in emptied_ends from end name sound idle (subst (λ (c : Circuit). Chain sweep_step c end) is chain))
    ]

goes_ends : (between : List Circuit) (from to end : Circuit) → IsSound from → Goes between from to → Chain sweep_step to end → Chain sweep_step from end
goes_ends [] from to end sound h chain = subst (λ (c : Circuit). Chain sweep_step c end) (sym h) chain
goes_ends (first ∷ between) from to end sound h chain =
    move_ends from first end sound h.0 (goes_ends between first to end (move_sound from first sound h.0) h.1 chain)

pub not_yet : (from : Circuit) → IsSound from → HasLed from from
not_yet from h = record { between = []; goes = refl; sound = h }

pub one_more : (from to next : Circuit) → HasLed from to → sweep_step to ≡ Some next → HasLed from next
one_more from to next h e = record { between = h.between ++ next ∷ []; goes = goes_more h.between from to next h.goes (inl e); sound = (step_kept to next h.sound e).sound }

-- a table is emptied
pub one_emptied : (circuit : Circuit) (name : List ℕ) → IsSound circuit → IsIdle circuit name → HasLed circuit (with_emptied circuit name)
one_emptied circuit name sound idle = record {
  between = with_emptied circuit name ∷ [];
  goes = (inr (name, idle, refl), refl);
  sound = emptied_sound circuit name sound idle;
}

pub led_through : (from to end : Circuit) → HasLed from to → HasLed to end → HasLed from end
led_through from to end h k = record { between = h.between ++ k.between; goes = goes_through h.between k.between from to end h.goes k.goes; sound = k.sound }

pub at_end : (from to : Circuit) → IsSound from → HasLed from to → sweep_step to ≡ None → Chain sweep_step from to
at_end from to sound h e = goes_ends h.between from to to sound h.goes (chain_none sweep_step to e)

-- a step of the rules that change tables is a step; where they do not apply the other rules decide
pub table_step_is : (circuit next : Circuit) → table_step circuit ≡ Some next → sweep_step circuit ≡ Some next
unfolding table_step sweep_step
table_step_is circuit next h = by (tidy_table circuit) (write_constant circuit) (propagate_constant circuit) (collapse_single_input circuit) (option_or (fix_constant_latch circuit) (remove_dangling circuit)) h
  where
    by : (a b c d e : Option Circuit) → option_or a (option_or b (option_or c d)) ≡ Some next → option_or a (option_or b (option_or c (option_or d e))) ≡ Some next
    by (Some x) b c d e k = k
    by None (Some x) c d e k = k
    by None None (Some x) d e k = k
    by None None None (Some x) e k = k
    by None None None None e k = let z : None ≡ Some next = k in absurd cc

pub other_step_is : (circuit : Circuit) (next : Option Circuit) → table_step circuit ≡ None → next ≡ option_or (fix_constant_latch circuit) (remove_dangling circuit) → sweep_step circuit ≡ next
unfolding table_step sweep_step
other_step_is circuit next h n = by (tidy_table circuit) (write_constant circuit) (propagate_constant circuit) (collapse_single_input circuit) (option_or (fix_constant_latch circuit) (remove_dangling circuit)) h (sym n)
  where
    by : (a b c d e : Option Circuit) → option_or a (option_or b (option_or c d)) ≡ None → e ≡ next → option_or a (option_or b (option_or c (option_or d e))) ≡ next
    by (Some x) b c d e k m = let z : Some x ≡ None = k in absurd cc
    by None (Some x) c d e k m = let z : Some x ≡ None = k in absurd cc
    by None None (Some x) d e k m = let z : Some x ≡ None = k in absurd cc
    by None None None (Some x) e k m = let z : Some x ≡ None = k in absurd cc
    by None None None None e k m = m

-- moves make a sound circuit no heavier
emptied_lighter : (circuit : Circuit) (name : List ℕ) → IsSound circuit → IsIdle circuit name → weight (with_emptied circuit name) ≤ weight circuit
emptied_lighter circuit name sound idle =
    let (table, drives) = output_driver circuit.tables name idle.driven in
    replaced_lighter circuit table (constant_table name false) drives (λ other reads. absurd (false≢true reads)) (omega arith)

move_lighter : (from to : Circuit) → IsSound from → IsMove from to → weight to ≤ weight from
move_lighter from to sound turn =
    elim turn as (λ _. weight to ≤ weight from) [
      | inl step ↦ (let one : weight to < weight from = step_falls from to sound step in omega (arith, one))
      | inr emptied ↦ (let (name, idle, is) = emptied in
          let one : weight (with_emptied from name) ≤ weight from = emptied_lighter from name sound idle in
          let same : weight to ≡ weight (with_emptied from name) = ap weight is in
          omega (arith, one, same))
    ]

lighter : (between : List Circuit) (from to : Circuit) → IsSound from → Goes between from to → weight to ≤ weight from
lighter [] from to sound h = let e : weight from ≡ weight to = ap weight h in omega (arith, e)
lighter (next ∷ rest) from to sound h =
    let one : weight next ≤ weight from = move_lighter from next sound h.0 in
    let more : weight to ≤ weight next = lighter rest next to (move_sound from next sound h.0) h.1 in
    omega (arith, one, more)

pub no_heavier : (from to : Circuit) → IsSound from → HasLed from to → weight to ≤ weight from
no_heavier from to sound h = lighter h.between from to sound h.goes

-- a step of the last rule, and then steps of the others
last_step_is : (circuit : Circuit) (next : Option Circuit) → table_step circuit ≡ None → fix_constant_latch circuit ≡ None → next ≡ remove_dangling circuit → sweep_step circuit ≡ next
last_step_is circuit next none unfixed n = other_step_is circuit next none (n ∙ sym (ap (λ (o : Option Circuit). option_or o (remove_dangling circuit)) unfixed))

pub next_led : (from to next : Circuit) (o : Option Circuit) → HasLed from to → table_step to ≡ None → fix_constant_latch to ≡ None → o ≡ remove_dangling to → o ≡ Some next → HasLed from next
next_led from to next o h none unfixed is some = one_more from to next h (last_step_is to (Some next) none unfixed (sym some ∙ is))

pub next_falls : (from to next end : Circuit) (o : Option Circuit) → HasLed from to → table_step to ≡ None → fix_constant_latch to ≡ None → o ≡ remove_dangling to → o ≡ Some next → HasLed next end → weight end < weight to
next_falls from to next end o h none unfixed is some more =
    let one : weight next < weight to = step_falls to next h.sound (last_step_is to (Some next) none unfixed (sym some ∙ is)) in
    let rest : weight end ≤ weight next = no_heavier next end (next_led from to next o h none unfixed is some).sound more in
    omega (arith, one, rest)

pub all_finished : (from to : Circuit) (o : Option Circuit) → IsSound from → HasLed from to → table_step to ≡ None → fix_constant_latch to ≡ None → o ≡ remove_dangling to → o ≡ None → Chain sweep_step from to
all_finished from to o sound h none unfixed is some = at_end from to sound h (last_step_is to None none unfixed (sym some ∙ is))

-- the end of a chain, however the circuits at its ends are called
pub all_chained : (old circuit end new : Circuit) → circuit ≡ old → Chain sweep_step circuit end → new ≡ end → Chain sweep_step old new
all_chained old circuit end new e chain n = subst (λ (c : Circuit). Chain sweep_step old c) (sym n) (subst (λ (c : Circuit). Chain sweep_step c end) e chain)

pub all_kept : (old circuit end new : Circuit) → circuit ≡ old → IsSound old → Chain sweep_step circuit end → new ≡ end → IsKept old new
all_kept old circuit end new e sound chain n =
    subst (λ (c : Circuit). IsKept old c) (sym n) (chain_kept old end sound (subst (λ (c : Circuit). Chain sweep_step c end) e chain))

pub all_swept : (circuit end new : Circuit) → Chain sweep_step circuit end → new ≡ end → IsSwept new
all_swept circuit end new chain n = subst IsSwept (sym n) (chain_swept circuit end chain)
