-- What is counted where a run was not cut short.
use Rattle.std.proofs.Common.{◌≡◌, ℕ, List, [], ◌∷◌, ◌++◌, refl, sym, ap, subst, ◌∙◌, inl, inr}
use Rattle.std.specs.Prelude.{◌⊎◌, Bool, true, false, ◌||◌, Option, Some, None, Result, Ok, Err, flat_map}
use Rattle.std.specs.List.{AllByRecursion}
use Rattle.sis_outside.specs.Calls.{Save, TakeCall, PutCall, any_of, store_failed, take_failed, put_failed, is_put_failed, is_take_failed, load_failed}
use Rattle.sis_outside.specs.declared.store.LoadFault.{LoadFault}
use Rattle.sis_outside.specs.declared.store.LoadFault.TheVariants as load
use Rattle.sis_outside.specs.declared.store.SaveFault.{SaveFault}
use Rattle.sis_outside.specs.declared.store.SaveFault.TheVariants as save
use Rattle.sis_outside.specs.declared.source.TakeFault.{TakeFault}
use Rattle.sis_outside.specs.declared.source.TakeFault.TheVariants as take
use Rattle.sis_outside.specs.declared.sink.PutFault.{PutFault}
use Rattle.sis_outside.specs.declared.sink.PutFault.TheVariants as put
use Rattle.sis_session.specs.Plan.{Outcome, Plan, Asked, Nothing, OnOut, OnInput, Ending, Done, Refused, Cut, ComesLoaded, ComesSaved, ComesPut, ComesPiece, ComesTaken, Steps, by_plan, no_memory, on_store, on_input, on_out}
use Rattle.sis_session.specs.declared.refusal.Failed.{Failed}
use Rattle.sis_session.specs.declared.refusal.Failed.TheVariants as failed
use Rattle.sis_top.specs.Machine.{Due, Machine, Turn, WorkPlans, IsTurn, IsTurnOf, IsTold, Runs, after, after_ending, after_refusal, put_cut, told_cut}
use Rattle.sis_top.specs.Call.{puts_of}
use Rattle.sis_top.specs.declared.status.Stop.{Stop}
use Rattle.sis_top.proofs.Going.{Went, went, quiet, loads, saves, puts, takes}
use Rattle.sis_top.proofs.Took.{Took, took}

-- a work was not cut short
abbrev pub IsUncut : Ending → Type 0
IsUncut ending = (what : Failed) → ending ≡ Cut what → ⊥

-- no call that a turn made failed
pub record IsUnfailed (turn : Turn) : Type 0 where
  pub store : any_of store_failed (on_store turn.asked) ≡ false
  pub input : any_of take_failed (on_input turn.asked) ≡ false
  pub out : any_of put_failed (on_out turn.asked) ≡ false
  pub err : any_of put_failed (puts_of turn.told) ≡ false

abbrev AskedUnfailed : Asked → Type 0
AskedUnfailed asked = (any_of store_failed (on_store asked) ≡ false) × (any_of take_failed (on_input asked) ≡ false) × (any_of put_failed (on_out asked) ≡ false)

loaded_unfailed : (name : List ℕ) (used : List ℕ → Outcome) (answer : Result (List ℕ) LoadFault) (ending : Ending) → IsUncut ending → ComesLoaded name used answer ending → load_failed answer ≡ false
loaded_unfailed name used (Ok bytes) ending uncut h = refl
loaded_unfailed name used (Err load.Missing) ending uncut h = refl
loaded_unfailed name used (Err (load.TooLong reached)) ending uncut h = refl
loaded_unfailed name used (Err load.Failed) ending uncut h = absurd (uncut failed.Store h)
loaded_unfailed name used (Err load.Memory) ending uncut h = refl

saved_unfailed : (name bytes : List ℕ) (outcome : Outcome) (answer : Result (Unit {0}) SaveFault) (ending : Ending) → IsUncut ending → ComesSaved outcome answer ending
    → store_failed (Save name bytes answer) ≡ false
saved_unfailed name bytes outcome (Ok done) ending uncut h = refl
saved_unfailed name bytes outcome (Err save.Failed) ending uncut h = absurd (uncut failed.Store h)
saved_unfailed name bytes outcome (Err save.Memory) ending uncut h = refl

put_unfailed : (outcome : Outcome) (answer : Result (Unit {0}) PutFault) (ending : Ending) → IsUncut ending → ComesPut outcome answer ending → is_put_failed answer ≡ false
put_unfailed outcome (Ok done) ending uncut h = refl
put_unfailed outcome (Err put.Failed) ending uncut h = absurd (uncut failed.Out h)
put_unfailed outcome (Err put.Memory) ending uncut h = refl

taken_unfailed : (used : List ℕ → Outcome) (text : List ℕ) (calls : List TakeCall) (ending : Ending) → IsUncut ending → ComesTaken used text calls ending → any_of take_failed calls ≡ false
taken_unfailed used text [] ending uncut h = refl
taken_unfailed used text (call ∷ calls) ending uncut h = piece call.answer (λ longer. taken_unfailed used longer calls ending uncut) h.1
  where
    piece : (answer : Result (List ℕ) TakeFault) → ((longer : List ℕ) → ComesTaken used longer calls ending → any_of take_failed calls ≡ false)
        → ComesPiece used text answer calls (λ longer. ComesTaken used longer calls ending) ending → (is_take_failed answer || any_of take_failed calls) ≡ false
    piece (Ok []) more k = ap (λ (cs : List TakeCall). any_of take_failed cs) k.0
    piece (Ok (byte ∷ bytes)) more k = more (text ++ byte ∷ bytes) k
    piece (Err take.Failed) more k = absurd (uncut failed.Input k.1)
    piece (Err take.Memory) more k = ap (λ (cs : List TakeCall). any_of take_failed cs) k.0

asked_as : (asked same : Asked) → asked ≡ same → AskedUnfailed same → AskedUnfailed asked
asked_as asked same e h = subst AskedUnfailed (sym e) h

or_none : (b : Bool) → b ≡ false → (b || false) ≡ false
or_none true e = e
or_none false e = refl

asked_unfailed : (plan : Plan) (asked : Asked) (ending : Ending) → IsUncut ending → Went plan asked ending → AskedUnfailed asked
asked_unfailed plan asked ending uncut (quiet outcome e d h) = asked_as asked Nothing d (refl, refl, refl)
asked_unfailed plan asked ending uncut (loads name used answer e d h) = asked_as asked _ d (or_none (load_failed answer) (loaded_unfailed name used answer ending uncut h), refl, refl)
asked_unfailed plan asked ending uncut (saves name bytes outcome answer e d h) =
    asked_as asked _ d (or_none (store_failed (Save name bytes answer)) (saved_unfailed name bytes outcome answer ending uncut h), refl, refl)
asked_unfailed plan asked ending uncut (puts reply outcome call e d p h) =
    asked_as asked (OnOut call) d (refl, refl, or_none (put_failed call) (put_unfailed outcome call.answer ending uncut h))
asked_unfailed plan asked ending uncut (takes used calls e d h) = asked_as asked (OnInput calls) d (refl, taken_unfailed used [] calls ending uncut h, refl)

steps_unfailed : (plans : Plan → Type 0) (asked : Asked) (ending : Ending) → IsUncut ending → Steps plans asked ending → AskedUnfailed asked
steps_unfailed plans asked ending uncut (by_plan plan p g) = asked_unfailed plan asked ending uncut (went plan asked ending g)
steps_unfailed plans asked ending uncut (no_memory a e) = asked_as asked Nothing a (refl, refl, refl)

ending_uncut : (goes_on : Bool) (machine : Machine) (due : Due) (ending : Ending) (told : Option PutCall) → (after_ending goes_on machine due ending told).cut ≡ None → IsUncut ending
ending_uncut goes_on machine due (Done held next) told h what e = cc
ending_uncut goes_on machine due (Refused why) told h what e = cc
ending_uncut goes_on machine due (Cut other) told h what e = cc

refusal_unfailed : (goes_on : Bool) (machine : Machine) (line : ℕ) (answer : Result (Unit {0}) PutFault) → (after_refusal goes_on machine line (put_cut answer)).cut ≡ None → (is_put_failed answer || false) ≡ false
refusal_unfailed goes_on machine line (Ok done) h = refl
refusal_unfailed goes_on machine line (Err put.Failed) h = cc
refusal_unfailed goes_on machine line (Err put.Memory) h = refl

told_unfailed : (goes_on : Bool) (machine : Machine) (due : Due) (line : ℕ) (ending : Ending) (told : Option PutCall) → IsTold line ending told
    → (after_ending goes_on machine due ending told).cut ≡ None → any_of put_failed (puts_of told) ≡ false
told_unfailed goes_on machine due line (Done held next) told is h = ap (λ (t : Option PutCall). any_of put_failed (puts_of t)) is
told_unfailed goes_on machine due line (Cut what) told is h = ap (λ (t : Option PutCall). any_of put_failed (puts_of t)) is
told_unfailed goes_on machine due line (Refused why) None is h = refl
told_unfailed goes_on machine due line (Refused why) (Some call) is h = refusal_unfailed goes_on machine due.line call.answer h

turn_unfailed : (goes_on : Bool) (machine : Machine) (turn : Turn) → Took goes_on machine turn → (after goes_on machine turn).cut ≡ None → IsUnfailed turn
turn_unfailed goes_on machine turn t h =
    let e : (after_ending goes_on machine t.due turn.ending turn.told).cut ≡ None = ap (λ (m : Machine). m.cut) (sym t.next) ∙ h in
    let asked = steps_unfailed (WorkPlans machine.held t.due.work) turn.asked turn.ending (ending_uncut goes_on machine t.due turn.ending turn.told e) t.steps in
    record { store = asked.0; input = asked.1; out = asked.2; err = told_unfailed goes_on machine t.due t.due.line turn.ending turn.told t.told e }

-- after a turn the machine goes on, or it was cut short and nothing is due
abbrev pub IsStopped : Machine → Type 0
IsStopped machine = (stop : Stop) × (machine.cut ≡ Some stop) × (machine.todo ≡ [])

refusal_cut : (goes_on : Bool) (machine : Machine) (line : ℕ) (cut : Option Failed) → machine.cut ≡ None
    → ((after_refusal goes_on machine line cut).cut ≡ None) ⊎ IsStopped (after_refusal goes_on machine line cut)
refusal_cut goes_on machine line None h = inl h
refusal_cut goes_on machine line (Some what) h = inr (record { line = line; what = what }, refl, refl)

pub after_cut : (goes_on : Bool) (machine : Machine) (due : Due) (ending : Ending) (told : Option PutCall) → machine.cut ≡ None
    → ((after_ending goes_on machine due ending told).cut ≡ None) ⊎ IsStopped (after_ending goes_on machine due ending told)
after_cut goes_on machine due (Done held next) told h = inl h
after_cut goes_on machine due (Refused why) told h = refusal_cut goes_on machine due.line (told_cut told) h
after_cut goes_on machine due (Cut what) told h = inr (record { line = due.line; what = what }, refl, refl)

pub turn_cut : (goes_on : Bool) (machine : Machine) (turn : Turn) → Took goes_on machine turn → machine.cut ≡ None
    → ((after goes_on machine turn).cut ≡ None) ⊎ IsStopped (after goes_on machine turn)
turn_cut goes_on machine turn t h =
    subst (λ (m : Machine). (m.cut ≡ None) ⊎ IsStopped m) (sym t.next) (after_cut goes_on machine t.due turn.ending turn.told h)

pub stopped_runs : (goes_on : Bool) (from to : Machine) (turns : List Turn) → IsStopped from → Runs goes_on from turns to → to ≡ from
stopped_runs goes_on from to [] stopped runs = runs
stopped_runs goes_on from to (turn ∷ turns) (stop, cut, none) runs = absurd (subst (λ (todo : List Due). IsTurnOf from todo turn) none runs.0)

some_none : (stop : Stop) → Some stop ≡ None → ⊥
some_none stop e = cc

pub run_unfailed : (goes_on : Bool) (from to : Machine) (turns : List Turn) → Runs goes_on from turns to → from.cut ≡ None → to.cut ≡ None → AllByRecursion IsUnfailed turns
run_unfailed goes_on from to [] runs start end = tt
run_unfailed goes_on from to (turn ∷ turns) runs start end =
    let t = took goes_on from turn runs.0 in
    step t (λ e. run_unfailed goes_on (after goes_on from turn) to turns runs.1 e end) (turn_cut goes_on from turn t start)
  where
    step : Took goes_on from turn → ((after goes_on from turn).cut ≡ None → AllByRecursion IsUnfailed turns) → ((after goes_on from turn).cut ≡ None) ⊎ IsStopped (after goes_on from turn)
        → IsUnfailed turn × AllByRecursion IsUnfailed turns
    step t more (inl e) = (turn_unfailed goes_on from turn t e, more e)
    step t more (inr stopped) = absurd (some_none stopped.0 (sym stopped.1 ∙ ap (λ (m : Machine). m.cut) (sym (stopped_runs goes_on (after goes_on from turn) to turns stopped runs.1)) ∙ end))

pub any_both : {C : Type 0} (is : C → Bool) (first second : List C) → any_of is (first ++ second) ≡ (any_of is first || any_of is second)
any_both is [] second = refl
any_both is (call ∷ first) second = step (is call) (any_both is first second)
  where
    step : (b : Bool) → any_of is (first ++ second) ≡ (any_of is first || any_of is second) → (b || any_of is (first ++ second)) ≡ (b || any_of is first || any_of is second)
    step true e = refl
    step false e = e

pub none_of : {C : Type 0} (is : C → Bool) (of : Turn → List C) (P : Turn → Type 0) → ((turn : Turn) → P turn → any_of is (of turn) ≡ false) → (turns : List Turn) → AllByRecursion P turns
    → any_of is (flat_map of turns) ≡ false
none_of is of P each [] all = refl
none_of is of P each (turn ∷ turns) all =
    any_both is (of turn) (flat_map of turns) ∙ ap (λ (b : Bool). b || any_of is (flat_map of turns)) (each turn all.0) ∙ none_of is of P each turns all.1
