-- What cut a run short is counted: a call of the object that failed is among its calls.
use Rattle.std.proofs.Common.{◌≡◌, ℕ, List, [], ◌∷◌, ◌++◌, refl, sym, ap, subst, ◌∙◌, inl, inr}
use Rattle.std.specs.Prelude.{◌⊎◌, Bool, true, false, ◌||◌, Option, Some, None, Result, Ok, Err, flat_map}
use Rattle.sis_outside.specs.Calls.{Load, Save, TakeCall, PutCall, any_of, store_failed, take_failed, put_failed, is_put_failed, is_take_failed}
use Rattle.sis_outside.specs.declared.store.LoadFault.{LoadFault}
use Rattle.sis_outside.specs.declared.store.LoadFault.TheVariants as load
use Rattle.sis_outside.specs.declared.store.SaveFault.{SaveFault}
use Rattle.sis_outside.specs.declared.store.SaveFault.TheVariants as save
use Rattle.sis_outside.specs.declared.source.TakeFault.{TakeFault}
use Rattle.sis_outside.specs.declared.source.TakeFault.TheVariants as take
use Rattle.sis_outside.specs.declared.sink.PutFault.{PutFault}
use Rattle.sis_outside.specs.declared.sink.PutFault.TheVariants as put
use Rattle.sis_session.specs.Plan.{MAX_BYTES, Outcome, Does, Refuses, Plan, Asked, Ending, Done, Refused, Cut, Comes, ComesLoaded, ComesSaved, ComesPut, ComesPiece, ComesTaken, Steps, by_plan, no_memory, on_store, on_input, on_out}
use Rattle.sis_session.specs.declared.refusal.Failed.{Failed}
use Rattle.sis_session.specs.declared.refusal.Failed.TheVariants as failed
use Rattle.sis_session.specs.declared.refusal.Refusal.TheVariants.{LongScript}
use Rattle.sis_top.specs.Machine.{Due, Machine, Turn, WorkPlans, IsTold, Runs, after, after_ending, after_refusal, put_cut}
use Rattle.sis_top.specs.Call.{puts_of}
use Rattle.sis_top.specs.declared.status.Stop.{Stop}
use Rattle.sis_top.proofs.Going.{Went, went, quiet, loads, saves, puts, takes}
use Rattle.sis_top.proofs.Took.{Took, took}
use Rattle.sis_top.proofs.Counting.{IsStopped, any_both, stopped_runs, turn_cut}

-- some call of the object that is named failed, among these of a turn
abbrev pub Failing : Failed → Asked → Option PutCall → Type 0
Failing failed.Store asked told = any_of store_failed (on_store asked) ≡ true
Failing failed.Input asked told = any_of take_failed (on_input asked) ≡ true
Failing failed.Out asked told = any_of put_failed (on_out asked) ≡ true
Failing failed.Err asked told = any_of put_failed (puts_of told) ≡ true
Failing failed.Memory asked told = Unit {0}

what_of : Ending → Failed
what_of (Done held next) = failed.Memory
what_of (Refused why) = failed.Memory
what_of (Cut what) = what

cut_same : (what other : Failed) → Cut what ≡ Cut other → what ≡ other
unfolding what_of
cut_same what other e = ap what_of e

-- memory ran out, or this object failed, and the answer says so
abbrev Names : Failed → Failed → Bool → Type 0
Names what object counted = (what ≡ failed.Memory) ⊎ ((what ≡ object) × (counted ≡ true))

comes_names : (outcome : Outcome) (what object : Failed) (counted : Bool) → Comes outcome (Cut what) → Names what object counted
comes_names (Does held next) what object counted (inl e) = cc
comes_names (Does held next) what object counted (inr e) = inl (cut_same what failed.Memory e)
comes_names (Refuses why) what object counted (inl e) = cc
comes_names (Refuses why) what object counted (inr e) = inl (cut_same what failed.Memory e)

loaded_names : (name : List ℕ) (max : ℕ) (used : List ℕ → Outcome) (answer : Result (List ℕ) LoadFault) (what : Failed) → ComesLoaded name used answer (Cut what)
    → Names what failed.Store (any_of store_failed (Load name max answer ∷ []))
loaded_names name max used (Ok bytes) what h = comes_names (used bytes) what failed.Store _ h
loaded_names name max used (Err load.Missing) what (inl e) = cc
loaded_names name max used (Err load.Missing) what (inr e) = inl (cut_same what failed.Memory e)
loaded_names name max used (Err (load.TooLong reached)) what (inl e) = cc
loaded_names name max used (Err (load.TooLong reached)) what (inr e) = inl (cut_same what failed.Memory e)
loaded_names name max used (Err load.Failed) what h = inr (cut_same what failed.Store h, refl)
loaded_names name max used (Err load.Memory) what h = inl (cut_same what failed.Memory h)

saved_names : (name bytes : List ℕ) (outcome : Outcome) (answer : Result (Unit {0}) SaveFault) (what : Failed) → ComesSaved outcome answer (Cut what)
    → Names what failed.Store (any_of store_failed (Save name bytes answer ∷ []))
saved_names name bytes outcome (Ok done) what h = comes_names outcome what failed.Store _ h
saved_names name bytes outcome (Err save.Failed) what h = inr (cut_same what failed.Store h, refl)
saved_names name bytes outcome (Err save.Memory) what h = inl (cut_same what failed.Memory h)

put_names : (outcome : Outcome) (answer : Result (Unit {0}) PutFault) (what : Failed) → ComesPut outcome answer (Cut what) → Names what failed.Out (is_put_failed answer || false)
put_names outcome (Ok done) what h = comes_names outcome what failed.Out _ h
put_names outcome (Err put.Failed) what h = inr (cut_same what failed.Out h, refl)
put_names outcome (Err put.Memory) what h = inl (cut_same what failed.Memory h)

taken_names : (used : List ℕ → Outcome) (text : List ℕ) (calls : List TakeCall) (what : Failed) → ComesTaken used text calls (Cut what) → Names what failed.Input (any_of take_failed calls)
taken_names used text [] what (inl h) = comes_names (Refuses LongScript) what failed.Input _ h.1
taken_names used text [] what (inr h) = inl (cut_same what failed.Memory h.1)
taken_names used text (call ∷ calls) what h = piece call.answer (λ longer. taken_names used longer calls what) h.1
  where
    piece : (answer : Result (List ℕ) TakeFault) → ((longer : List ℕ) → ComesTaken used longer calls (Cut what) → Names what failed.Input (any_of take_failed calls))
        → ComesPiece used text answer calls (λ longer. ComesTaken used longer calls (Cut what)) (Cut what) → Names what failed.Input (is_take_failed answer || any_of take_failed calls)
    piece (Ok []) more k = comes_names (used text) what failed.Input _ k.1
    piece (Ok (byte ∷ bytes)) more k = more (text ++ byte ∷ bytes) k
    piece (Err take.Failed) more k = inr (cut_same what failed.Input k.1, refl)
    piece (Err take.Memory) more k = inl (cut_same what failed.Memory k.1)

named : (what object : Failed) (counted : Bool) (asked : Asked) (told : Option PutCall) → Names what object counted → (counted ≡ true → Failing object asked told) → Failing what asked told
named what object counted asked told (inl e) so = subst (λ (w : Failed). Failing w asked told) (sym e) tt
named what object counted asked told (inr h) so = subst (λ (w : Failed). Failing w asked told) (sym h.0) (so h.1)

asked_failing : (plan : Plan) (asked : Asked) (told : Option PutCall) (what : Failed) → Went plan asked (Cut what) → Failing what asked told
asked_failing plan asked told what (quiet outcome e d h) = named what failed.Memory true asked told (comes_names outcome what failed.Memory true h) (λ k. tt)
asked_failing plan asked told what (loads name used answer e d h) =
    named what failed.Store _ asked told (loaded_names name MAX_BYTES used answer what h) (λ k. ap (λ (a : Asked). any_of store_failed (on_store a)) d ∙ k)
asked_failing plan asked told what (saves name bytes outcome answer e d h) =
    named what failed.Store _ asked told (saved_names name bytes outcome answer what h) (λ k. ap (λ (a : Asked). any_of store_failed (on_store a)) d ∙ k)
asked_failing plan asked told what (puts reply outcome call e d p h) =
    named what failed.Out _ asked told (put_names outcome call.answer what h) (λ k. ap (λ (a : Asked). any_of put_failed (on_out a)) d ∙ k)
asked_failing plan asked told what (takes used calls e d h) =
    named what failed.Input _ asked told (taken_names used [] calls what h) (λ k. ap (λ (a : Asked). any_of take_failed (on_input a)) d ∙ k)

steps_failing : (plans : Plan → Type 0) (asked : Asked) (told : Option PutCall) (what : Failed) → Steps plans asked (Cut what) → Failing what asked told
steps_failing plans asked told what (by_plan plan p g) = asked_failing plan asked told what (went plan asked (Cut what) g)
steps_failing plans asked told what (no_memory a e) = named what failed.Memory true asked told (inl (cut_same what failed.Memory e)) (λ k. tt)

stop_what : Option Stop → Failed → Failed
stop_what None other = other
stop_what (Some stop) other = stop.what

refusal_failing : (goes_on : Bool) (machine : Machine) (line : ℕ) (asked : Asked) (call : PutCall) (answer : Result (Unit {0}) PutFault) (stop : Stop) → machine.cut ≡ None → call.answer ≡ answer
    → (after_refusal goes_on machine line (put_cut answer)).cut ≡ Some stop → Failing stop.what asked (Some call)
unfolding stop_what
refusal_failing goes_on machine line asked call (Ok done) stop start a e = absurd (none_some stop (sym start ∙ e))
  where
    none_some : (stop : Stop) → None ≡ Some stop → ⊥
    none_some stop e = cc
refusal_failing goes_on machine line asked call (Err put.Failed) stop start a e =
    subst (λ (w : Failed). Failing w asked (Some call)) (ap (λ (c : Option Stop). stop_what c failed.Memory) e) (ap (λ (r : Result (Unit {0}) PutFault). is_put_failed r || false) a)
refusal_failing goes_on machine line asked call (Err put.Memory) stop start a e =
    subst (λ (w : Failed). Failing w asked (Some call)) (ap (λ (c : Option Stop). stop_what c failed.Memory) e) tt

ending_failing : (plans : Plan → Type 0) (goes_on : Bool) (machine : Machine) (due : Due) (asked : Asked) (ending : Ending) (told : Option PutCall) (stop : Stop) → machine.cut ≡ None
    → Steps plans asked ending → IsTold due.line ending told → (after_ending goes_on machine due ending told).cut ≡ Some stop → Failing stop.what asked told
unfolding stop_what
ending_failing plans goes_on machine due asked (Done held next) told stop start steps is e = absurd (none_some stop (sym start ∙ e))
  where
    none_some : (stop : Stop) → None ≡ Some stop → ⊥
    none_some stop e = cc
ending_failing plans goes_on machine due asked (Refused why) None stop start steps is e =
    subst (λ (w : Failed). Failing w asked None) (ap (λ (c : Option Stop). stop_what c failed.Memory) e) tt
ending_failing plans goes_on machine due asked (Refused why) (Some call) stop start steps is e = refusal_failing goes_on machine due.line asked call call.answer stop start refl e
ending_failing plans goes_on machine due asked (Cut what) told stop start steps is e =
    subst (λ (w : Failed). Failing w asked told) (ap (λ (c : Option Stop). stop_what c failed.Memory) e) (steps_failing plans asked told what steps)

-- some call of the object that is named failed, among those of some turns
abbrev pub SomeFailed : Failed → List Turn → Type 0
SomeFailed failed.Store turns = any_of store_failed (flat_map (λ turn. on_store turn.asked) turns) ≡ true
SomeFailed failed.Input turns = any_of take_failed (flat_map (λ turn. on_input turn.asked) turns) ≡ true
SomeFailed failed.Out turns = any_of put_failed (flat_map (λ turn. on_out turn.asked) turns) ≡ true
SomeFailed failed.Err turns = any_of put_failed (flat_map (λ turn. puts_of turn.told) turns) ≡ true
SomeFailed failed.Memory turns = Unit {0}

or_second : (b c : Bool) → c ≡ true → (b || c) ≡ true
or_second true c e = refl
or_second false c e = e

first_of : {C : Type 0} (is : C → Bool) (of : Turn → List C) (turn : Turn) (turns : List Turn) → any_of is (of turn) ≡ true → any_of is (flat_map of (turn ∷ turns)) ≡ true
first_of is of turn turns e = any_both is (of turn) (flat_map of turns) ∙ ap (λ (b : Bool). b || any_of is (flat_map of turns)) e

later_of : {C : Type 0} (is : C → Bool) (of : Turn → List C) (turn : Turn) (turns : List Turn) → any_of is (flat_map of turns) ≡ true → any_of is (flat_map of (turn ∷ turns)) ≡ true
later_of is of turn turns e = any_both is (of turn) (flat_map of turns) ∙ or_second (any_of is (of turn)) (any_of is (flat_map of turns)) e

first_failed : (what : Failed) (turn : Turn) (turns : List Turn) → Failing what turn.asked turn.told → SomeFailed what (turn ∷ turns)
first_failed failed.Store turn turns h = first_of store_failed (λ t. on_store t.asked) turn turns h
first_failed failed.Input turn turns h = first_of take_failed (λ t. on_input t.asked) turn turns h
first_failed failed.Out turn turns h = first_of put_failed (λ t. on_out t.asked) turn turns h
first_failed failed.Err turn turns h = first_of put_failed (λ t. puts_of t.told) turn turns h
first_failed failed.Memory turn turns h = tt

later_failed : (what : Failed) (turn : Turn) (turns : List Turn) → SomeFailed what turns → SomeFailed what (turn ∷ turns)
later_failed failed.Store turn turns h = later_of store_failed (λ t. on_store t.asked) turn turns h
later_failed failed.Input turn turns h = later_of take_failed (λ t. on_input t.asked) turn turns h
later_failed failed.Out turn turns h = later_of put_failed (λ t. on_out t.asked) turn turns h
later_failed failed.Err turn turns h = later_of put_failed (λ t. puts_of t.told) turn turns h
later_failed failed.Memory turn turns h = tt

pub run_failed : (goes_on : Bool) (from to : Machine) (turns : List Turn) (stop : Stop) → Runs goes_on from turns to → from.cut ≡ None → to.cut ≡ Some stop → SomeFailed stop.what turns
run_failed goes_on from to [] stop runs start end = absurd (none_some stop (sym start ∙ ap (λ (m : Machine). m.cut) (sym runs) ∙ end))
  where
    none_some : (stop : Stop) → None ≡ Some stop → ⊥
    none_some stop e = cc
run_failed goes_on from to (turn ∷ turns) stop runs start end =
    let t = took goes_on from turn runs.0 in
    step t (λ e. run_failed goes_on (after goes_on from turn) to turns stop runs.1 e end) (turn_cut goes_on from turn t start)
  where
    step : Took goes_on from turn → ((after goes_on from turn).cut ≡ None → SomeFailed stop.what turns) → ((after goes_on from turn).cut ≡ None) ⊎ IsStopped (after goes_on from turn) → SomeFailed stop.what (turn ∷ turns)
    step t more (inl e) = later_failed stop.what turn turns (more e)
    step t more (inr stopped) =
        first_failed stop.what turn turns
        (ending_failing (WorkPlans from.held t.due.work) goes_on from t.due turn.asked turn.ending turn.told stop start t.steps t.told
        (ap (λ (m : Machine). m.cut) (sym t.next) ∙ ap (λ (m : Machine). m.cut) (sym (stopped_runs goes_on (after goes_on from turn) to turns stopped runs.1)) ∙ end))
