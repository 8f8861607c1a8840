-- How the end of a work is settled, and what turn comes of it.
use Rattle.std.proofs.Common.{◌≡◌, ℕ, ◌+◌, List, [], ◌∷◌, ◌++◌, refl, sym, ap, subst, ◌∙◌, inl, inr, reverse, length, arith}
use Rattle.std.proofs.lemmas.List.{reverse-append}
use Rattle.std.specs.Prelude.{◌⊎◌, ◌||◌, Bool, true, false, Option, Some, None, Result, Ok, Err, OnErr, if◌then◌else◌}
use Rattle.sis_outside.specs.Calls.{StoreCall, PutCall}
use Rattle.sis_session.specs.Plan.{Plan, Asked, Ending, Done, Refused, Cut, Steps, Did, on_store, on_input, on_out}
use Rattle.sis_script.specs.declared.command.Op.{Op}
use Rattle.sis_session.specs.Commands.{Plans}
use Rattle.sis_session.specs.State.{Held}
use Rattle.sis_session.specs.declared.refusal.Failed.{Failed}
use Rattle.sis_session.specs.declared.refusal.Failed.TheVariants as failed
use Rattle.sis_session.specs.declared.refusal.Next.{Next}
use Rattle.sis_session.specs.declared.refusal.Refusal.{Refusal}
use Rattle.sis_top.specs.Machine.{Run, Due, deeper, Machine, Turn, WorkPlans, IsTurn, IsTurnOf, IsTold, after_first, after_refusal, rest_of, todo_after, told_cut}
use Rattle.sis_top.specs.Code.{HasEnded, HasTold, HasSettled, HasTurned, IsAnswer, ended_as, IsAt, IsCutAt, IsDone}
use Rattle.sis_top.specs.declared.halt.Halt.{Halt}
use Rattle.sis_top.proofs.Going.{steps_wanting}

pub settled_done : (goes_on : Bool) (machine : Machine) (due : Due) (held : Held) (next : Next) (todo new : List Due) (before : Bool) (err : List PutCall → Type 0)
    → err [] → IsAt machine.held (due ∷ todo) before machine → new ≡ todo_after (deeper due.work) next todo
    → HasSettled goes_on machine due (Done held next) err (IsAt held new before)
settled_done goes_on machine due held next todo new before err went at e = record {
  ending = Done held next;
  told = None;
  comes = inl refl;
  is_told = refl;
  err_went = went;
  lands = (refl, ap (λ (all : List Due). todo_after (deeper due.work) next (rest_of all)) at.1 ∙ sym e, at.2, at.3);
}

-- memory ran out for what is due
pub settled_wanting : (goes_on : Bool) (machine : Machine) (due : Due) (held : Held) (next : Next) (line : ℕ) (what : Failed) (err : List PutCall → Type 0)
    → err [] → due.line ≡ line → what ≡ failed.Memory → HasSettled goes_on machine due (Done held next) err (IsCutAt (record { line = line; what = what }))
settled_wanting goes_on machine due held next line what err went e is = record {
  ending = Cut failed.Memory;
  told = None;
  comes = inr (tt, refl);
  is_told = refl;
  err_went = went;
  lands = (refl, ap (λ (n : ℕ). Some (record { line = n; what = failed.Memory })) e ∙ ap (λ (w : Failed). Some (record { line = line; what = w })) (sym is));
}

pub settled_cut : (goes_on : Bool) (machine : Machine) (due : Due) (what : Failed) (line : ℕ) (err : List PutCall → Type 0)
    → err [] → due.line ≡ line → HasSettled goes_on machine due (Cut what) err (IsCutAt (record { line = line; what = what }))
settled_cut goes_on machine due what line err went e = record {
  ending = Cut what;
  told = None;
  comes = inl refl;
  is_told = refl;
  err_went = went;
  lands = (refl, ap (λ (n : ℕ). Some (record { line = n; what = what })) e);
}

answered_ok : (cut : Option Failed) → IsAnswer cut (Ok tt) → cut ≡ None
answered_ok None h = refl
answered_ok (Some what) h = cc

answered_err : (cut : Option Failed) (what : Failed) → IsAnswer cut (Err what) → cut ≡ Some what
answered_err None what h = cc
answered_err (Some other) what h = cc

-- a refusal was reported
pub settled_told : (goes_on : Bool) (machine : Machine) (due : Due) (held : Held) (why : Refusal) (todo new : List Due) (before : Bool) (line : ℕ) (err : List PutCall → Type 0)
    → HasTold line why err (Ok tt) → due.line ≡ line → IsAt machine.held (due ∷ todo) before machine → machine.held ≡ held → new ≡ (if goes_on then todo else [])
    → HasSettled goes_on machine due (Refused why) err (IsAt held new true)
settled_told goes_on machine due held why todo new before line err told e at same left = record {
  ending = Refused why;
  told = told.told;
  comes = inl refl;
  is_told = subst (λ (n : ℕ). IsTold n (Refused why) told.told) (sym e) told.is_told;
  err_went = told.went;
  lands = subst (λ (cut : Option Failed). IsAt held new true (after_refusal goes_on machine due.line cut)) (sym (answered_ok (told_cut told.told) told.answer))
      (same, ap (λ (all : List Due). if goes_on then rest_of all else []) at.1 ∙ sym left, refl, at.3);
}

-- a refusal could not be reported
pub settled_untold : (goes_on : Bool) (machine : Machine) (due : Due) (why : Refusal) (what : Failed) (line : ℕ) (err : List PutCall → Type 0)
    → HasTold line why err (Err what) → due.line ≡ line
    → HasSettled goes_on machine due (Refused why) err (IsCutAt (record { line = line; what = what }))
settled_untold goes_on machine due why what line err told e = record {
  ending = Refused why;
  told = told.told;
  comes = inl refl;
  is_told = subst (λ (n : ℕ). IsTold n (Refused why) told.told) (sym e) told.is_told;
  err_went = told.went;
  lands = subst (λ (cut : Option Failed). IsCutAt (record { line = line; what = what }) (after_refusal goes_on machine due.line cut)) (sym (answered_err (told_cut told.told) what told.answer))
      (refl, ap (λ (n : ℕ). Some (record { line = n; what = what })) e);
}

-- the turn of a work that was settled
abbrev pub turn_by : Asked → Ending → Option PutCall → Turn
turn_by asked ending told = record { asked = asked; ending = ending; told = told }

pub settled_steps : (plans : Plan → Type 0) (asked : Asked) (ended ending : Ending) → Steps plans asked ended
    → (ending ≡ ended) ⊎ (IsDone ended × (ending ≡ Cut failed.Memory)) → Steps plans asked ending
settled_steps plans asked ended ending steps (inl e) = subst (λ (x : Ending). Steps plans asked x) (sym e) steps
settled_steps plans asked (Done held next) ending steps (inr (done, e)) = subst (λ (x : Ending). Steps plans asked x) (sym e) (steps_wanting plans asked held next steps)
settled_steps plans asked (Refused why) ending steps (inr (done, e)) = absurd done
settled_steps plans asked (Cut what) ending steps (inr (done, e)) = absurd done

pub is_turn : (machine : Machine) (due : Due) (todo : List Due) (asked : Asked) (ended ending : Ending) (told : Option PutCall) → machine.todo ≡ due ∷ todo
    → Steps (WorkPlans machine.held due.work) asked ended → (ending ≡ ended) ⊎ (IsDone ended × (ending ≡ Cut failed.Memory)) → IsTold due.line ending told
    → IsTurn machine (turn_by asked ending told)
is_turn machine due todo asked ended ending told e steps comes is =
    subst (λ (all : List Due). IsTurnOf machine all (turn_by asked ending told)) (sym e)
    (settled_steps (WorkPlans machine.held due.work) asked ended ending steps comes, is)

pub turned_by : (goes_on : Bool) (machine : Machine) (due : Due) (todo : List Due) (asked : Asked) (ended : Ending)
    (store : List StoreCall → Type 0) (out err : List PutCall → Type 0) (stands : Machine → Type 0) → machine.todo ≡ due ∷ todo
    → Steps (WorkPlans machine.held due.work) asked ended → store (on_store asked) → out (on_out asked) → on_input asked ≡ []
    → HasSettled goes_on machine due ended err stands → HasTurned goes_on machine store out err stands
turned_by goes_on machine due todo asked ended store out err stands e steps stored put kept settled = record {
  turn = turn_by asked settled.ending settled.told;
  is_turn = is_turn machine due todo asked ended settled.ending settled.told e steps settled.comes settled.is_told;
  store_went = stored;
  input_kept = kept;
  out_went = put;
  err_went = settled.err_went;
  lands = subst stands (sym (ap (λ (all : List Due). after_first goes_on machine all (turn_by asked settled.ending settled.told)) e)) settled.lands;
}

-- the same by an answer
pub settled_as : (goes_on : Bool) (machine : Machine) (due : Due) (held : Held) (answer given : Result Next Halt) (err : List PutCall → Type 0) (stands : Machine → Type 0)
    → answer ≡ given → HasSettled goes_on machine due (ended_as given held) err stands → HasSettled goes_on machine due (ended_as answer held) err stands
settled_as goes_on machine due held answer given err stands e settled = subst (λ (a : Result Next Halt). HasSettled goes_on machine due (ended_as a held) err stands) (sym e) settled

pub same_held : (machine : Machine) (held : Held) (answer : Result Next Halt) (why : Halt) → answer ≡ Err why → OnErr answer (machine.held ≡ held) → machine.held ≡ held
same_held machine held answer why e same = subst (λ (a : Result Next Halt). OnErr a (machine.held ≡ held)) e same

-- the turn of a command
pub turned_command : (goes_on : Bool) (machine : Machine) (due : Due) (line depth : ℕ) (op : Op) (old new : Held) (todo : List Due) (before : Bool) (answer : Result Next Halt)
    (store : List StoreCall → Type 0) (out err : List PutCall → Type 0) (stands : Machine → Type 0)
    → due ≡ record { line = line; work = Run depth op } → IsAt old (due ∷ todo) before machine → Did (Plans depth old op) store out (ended_as answer new) → OnErr answer (old ≡ new)
    → (due.line ≡ line → deeper due.work ≡ depth + 1 → IsAt machine.held (due ∷ todo) before machine → OnErr answer (machine.held ≡ new)
    → HasSettled goes_on machine due (ended_as answer new) err stands)
    → HasTurned goes_on machine store out err stands
turned_command goes_on machine due line depth op old new todo before answer store out err stands e at did same settled =
    turned_by goes_on machine due todo did.asked (ended_as answer new) store out err stands at.1
    (subst (λ (h : Held). Steps (WorkPlans h due.work) did.asked (ended_as answer new)) (sym at.0)
    (subst (λ (d : Due). Steps (WorkPlans old d.work) did.asked (ended_as answer new)) (sym e) did.steps))
    did.store_went did.out_went did.input_kept
    (settled (ap (λ (d : Due). d.line) e) (ap (λ (d : Due). deeper d.work) e) (refl, at.1, at.2, at.3) (subst (λ (h : Held). OnErr answer (h ≡ new)) (sym at.0) same))

-- the work on top is due next
pub popped : (held : Held) (items front : List Due) (due : Due) (before : Bool) (machine : Machine) → items ≡ front ++ due ∷ []
    → IsAt held (reverse items) before machine → IsAt held (due ∷ reverse front) before machine
popped held items front due before machine e at = (at.0, at.1 ∙ ap reverse e ∙ reverse-append front (due ∷ []), at.2, at.3)

-- nothing is due
pub ended_at : (held : Held) (items : List Due) (refused : Bool) (machine : Machine) → length items ≡ 0 → IsAt held (reverse items) refused machine → HasEnded (Ok refused) machine
ended_at held [] refused machine none at = (at.1, at.2, at.3)
ended_at held (due ∷ items) refused machine none at = absurd (omega (arith, none))

pub when_ok : {X F : Type 0} (result : Result X F) (P : Type 0) → P → OnErr result P
when_ok (Ok value) P p = tt
when_ok (Err fault) P p = p

or_false : (b : Bool) → (b || false) ≡ b
or_false true = refl
or_false false = refl

pub at_first : (held : Held) (todo : List Due) (refused : Bool) (machine : Machine) → IsAt held todo (refused || false) machine → IsAt held todo refused machine
at_first held todo refused machine at = (at.0, at.1, at.2 ∙ or_false refused, at.3)
