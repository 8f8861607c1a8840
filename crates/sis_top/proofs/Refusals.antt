-- What a refusal says: the work that was refused, its line, and why.
use Rattle.std.proofs.Common.{◌≡◌, ℕ, List, [], ◌∷◌, ◌++◌, refl, sym, ap, subst, ◌∙◌, inl, inr, length, nat_le}
use Rattle.std.specs.Prelude.{◌⊎◌, Bool, true, false, ◌||◌, Option, Some, None, Result, Ok, Err, if◌then◌else◌}
use Rattle.std.proofs.lemmas.List.{append_assoc, append-nil}
use Rattle.sis_outside.specs.Calls.{StoreCall, Load, TakeCall, PutCall, any_of, store_missed}
use Rattle.sis_outside.specs.declared.store.LoadFault.{LoadFault}
use Rattle.sis_outside.specs.declared.store.LoadFault.TheVariants as load
use Rattle.sis_outside.specs.declared.sink.PutFault.{PutFault}
use Rattle.sis_outside.specs.declared.sink.PutFault.TheVariants as put
use Rattle.sis_outside.specs.declared.source.TakeFault.{TakeFault}
use Rattle.sis_outside.specs.declared.source.TakeFault.TheVariants as take
use Rattle.sis_session.specs.Plan.{MAX_BYTES, Outcome, Does, Refuses, Plan, Asked, OnStore, Ending, Done, Refused, Cut, Comes, ComesLoaded, ComesPiece, ComesTaken, Goes, Steps, by_plan, no_memory, on_store}
use Rattle.sis_session.specs.Replies.{refusal_line}
use Rattle.sis_session.specs.State.{Held}
use Rattle.sis_session.specs.declared.refusal.Failed.{Failed}
use Rattle.sis_session.specs.declared.refusal.Failed.TheVariants as failed
use Rattle.sis_session.specs.declared.refusal.Refusal.{Refusal}
use Rattle.sis_session.specs.declared.refusal.Refusal.TheVariants.{LongScript, Missing, TooLong}
use Rattle.sis_top.specs.Asked.{TheOptions, TheScript, InFile, AsText, OnInput}
use Rattle.sis_top.specs.Machine.{Begin, Run, Work, Due, Machine, Turn, WorkPlans, IsTold, Runs, after, after_ending, after_refusal, begin_plan, begins, begun, put_cut, told_cut}
use Rattle.sis_top.specs.Call.{CauseOf, Ends, EndsWith, IsCall, IsRun, NamesRefusal, err_calls, failure_line, puts_of, status_cut, status_of, store_calls, unless_memory, usage_line}
use Rattle.sis_top.specs.declared.status.Status.{Status}
use Rattle.sis_top.specs.declared.status.Status.TheVariants as answer
use Rattle.sis_top.specs.declared.status.Stop.{Stop}
use Rattle.sis_top.proofs.Counting.{IsStopped, any_both, stopped_runs, turn_cut}
use Rattle.sis_top.proofs.Faithful.{quiet_outcome, used_of}
use Rattle.sis_top.proofs.Going.{Went, went, quiet, loads, saves, puts, takes}
use Rattle.sis_top.proofs.Took.{Took, took}

-- why a refusal is one, from what it says
why_of : Refusal → Ending → Refusal
why_of other (Done held next) = other
why_of other (Refused why) = why
why_of other (Cut what) = other

same_why : (why other : Refusal) → Refused why ≡ Refused other → why ≡ other
unfolding why_of
same_why why other e = ap (why_of why) e

-- what a refusal of a script's begin says, whatever is known where its file is missing
loaded_cause : (held : Held) (name file : List ℕ) (max : ℕ) (answer : Result (List ℕ) LoadFault) (why : Refusal) (missed : Type 0) → (any_of store_missed (Load file max answer ∷ []) ≡ true → missed)
    → ComesLoaded name (begins held) answer (Refused why) → ((why ≡ Missing name) × missed) ⊎ (why ≡ TooLong name)
loaded_cause held name file max (Ok bytes) why missed counted (inl e) = cc
loaded_cause held name file max (Ok bytes) why missed counted (inr e) = cc
loaded_cause held name file max (Err load.Missing) why missed counted (inl e) = inl (same_why why (Missing name) e, counted refl)
loaded_cause held name file max (Err load.Missing) why missed counted (inr e) = cc
loaded_cause held name file max (Err (load.TooLong reached)) why missed counted (inl e) = inr (same_why why (TooLong name) e)
loaded_cause held name file max (Err (load.TooLong reached)) why missed counted (inr e) = cc
loaded_cause held name file max (Err load.Failed) why missed counted h = cc
loaded_cause held name file max (Err load.Memory) why missed counted h = cc

long_cause : (why : Refusal) → Comes (Refuses LongScript) (Refused why) → why ≡ LongScript
long_cause why (inl e) = same_why why LongScript e
long_cause why (inr e) = cc

begun_cause : (held : Held) (text : List ℕ) (why : Refusal) → Comes (begins held text) (Refused why) → ⊥
begun_cause held text why (inl e) = cc
begun_cause held text why (inr e) = cc

text_cause : (held : Held) (text : List ℕ) (short : Bool) (why : Refusal) → Comes (if short then begins held text else Refuses LongScript) (Refused why) → why ≡ LongScript
text_cause held text true why h = absurd (begun_cause held text why h)
text_cause held text false why h = long_cause why h

taken_cause : (held : Held) (text : List ℕ) (calls : List TakeCall) (why : Refusal) → ComesTaken (begins held) text calls (Refused why) → why ≡ LongScript
taken_cause held text [] why (inl h) = long_cause why h.1
taken_cause held text [] why (inr h) = cc
taken_cause held text (call ∷ calls) why h = piece call.answer (λ longer. taken_cause held longer calls why) h.1
  where
    piece : (answer : Result (List ℕ) TakeFault) → ((longer : List ℕ) → ComesTaken (begins held) longer calls (Refused why) → why ≡ LongScript)
        → ComesPiece (begins held) text answer calls (λ longer. ComesTaken (begins held) longer calls (Refused why)) (Refused why) → why ≡ LongScript
    piece (Ok []) more k = absurd (begun_cause held text why k.1)
    piece (Ok (byte ∷ bytes)) more k = more (text ++ byte ∷ bytes) k
    piece (Err take.Failed) more k = cc
    piece (Err take.Memory) more k = cc

script_cause : (held : Held) (script : TheScript) (asked : Asked) (why : Refusal) (missed : Type 0) → (any_of store_missed (on_store asked) ≡ true → missed)
    → Went (begin_plan held script) asked (Refused why) → CauseOf missed (Begin script) why
script_cause held (InFile file) asked why missed counted (quiet outcome e d h) = cc
script_cause held (InFile file) asked why missed counted (loads name used answer e d h) =
    let same : file ≡ name = cc in
    subst (λ (n : List ℕ). ((why ≡ Missing n) × missed) ⊎ (why ≡ TooLong n)) (sym same)
    (loaded_cause held name name MAX_BYTES answer why missed (λ k. counted (ap (λ (a : Asked). any_of store_missed (on_store a)) d ∙ k))
    (subst (λ (u : List ℕ → Outcome). ComesLoaded name u answer (Refused why)) (sym (ap (used_of (begins held)) e)) h))
script_cause held (InFile file) asked why missed counted (saves name bytes outcome answer e d h) = cc
script_cause held (InFile file) asked why missed counted (puts reply outcome call e d p h) = cc
script_cause held (InFile file) asked why missed counted (takes used calls e d h) = cc
script_cause held (AsText text) asked why missed counted (quiet outcome e d h) =
    text_cause held text (nat_le (length text) MAX_BYTES) why (subst (λ (o : Outcome). Comes o (Refused why)) (sym (ap (quiet_outcome outcome) e)) h)
script_cause held (AsText text) asked why missed counted (loads name used answer e d h) = cc
script_cause held (AsText text) asked why missed counted (saves name bytes outcome answer e d h) = cc
script_cause held (AsText text) asked why missed counted (puts reply outcome call e d p h) = cc
script_cause held (AsText text) asked why missed counted (takes used calls e d h) = cc
script_cause held OnInput asked why missed counted (quiet outcome e d h) = cc
script_cause held OnInput asked why missed counted (loads name used answer e d h) = cc
script_cause held OnInput asked why missed counted (saves name bytes outcome answer e d h) = cc
script_cause held OnInput asked why missed counted (puts reply outcome call e d p h) = cc
script_cause held OnInput asked why missed counted (takes used calls e d h) =
    taken_cause held [] calls why (subst (λ (u : List ℕ → Outcome). ComesTaken u [] calls (Refused why)) (sym (ap (used_of (begins held)) e)) h)

work_cause : (held : Held) (work : Work) (asked : Asked) (why : Refusal) (missed : Type 0) → (any_of store_missed (on_store asked) ≡ true → missed)
    → Steps (WorkPlans held work) asked (Refused why) → CauseOf missed work why
work_cause held (Begin script) asked why missed counted (by_plan plan p g) =
    script_cause held script asked why missed counted (went (begin_plan held script) asked (Refused why) (subst (λ (x : Plan). Goes x asked (Refused why)) p g))
work_cause held (Begin script) asked why missed counted (no_memory a e) = cc
work_cause held (Run depth op) asked why missed counted steps = (asked, held, steps)

-- a turn among some was refused, and its line was written
record Refusing (turns : List Turn) : Type 0 where
  due : Due
  why : Refusal
  held : Held
  asked : Asked
  steps : Steps (WorkPlans held due.work) asked (Refused why)
  call : PutCall
  names : call.piece ≡ refusal_line due.line why
  lines : List PutCall
  more : List PutCall
  put : err_calls turns ≡ lines ++ call ∷ more
  missed : any_of store_missed (on_store asked) ≡ true → any_of store_missed (store_calls turns) ≡ true

or_first : (b c : Bool) → b ≡ true → (b || c) ≡ true
or_first true c e = refl
or_first false c e = cc

or_second : (b c : Bool) → c ≡ true → (b || c) ≡ true
or_second true c e = refl
or_second false c e = e

missed_here : (turn : Turn) (turns : List Turn) → any_of store_missed (on_store turn.asked) ≡ true → any_of store_missed (store_calls (turn ∷ turns)) ≡ true
missed_here turn turns e =
    any_both store_missed (on_store turn.asked) (store_calls turns) ∙ or_first (any_of store_missed (on_store turn.asked)) (any_of store_missed (store_calls turns)) e

missed_later : (turn : Turn) (turns : List Turn) → any_of store_missed (store_calls turns) ≡ true → any_of store_missed (store_calls (turn ∷ turns)) ≡ true
missed_later turn turns e =
    any_both store_missed (on_store turn.asked) (store_calls turns) ∙ or_second (any_of store_missed (on_store turn.asked)) (any_of store_missed (store_calls turns)) e

refusing_later : (turn : Turn) (turns : List Turn) → Refusing turns → Refusing (turn ∷ turns)
refusing_later turn turns r = record {
  due = r.due;
  why = r.why;
  held = r.held;
  asked = r.asked;
  steps = r.steps;
  call = r.call;
  names = r.names;
  lines = puts_of turn.told ++ r.lines;
  more = r.more;
  put = ap (λ (rest : List PutCall). puts_of turn.told ++ rest) r.put ∙ sym (append_assoc (puts_of turn.told) r.lines (r.call ∷ r.more));
  missed = λ e. missed_later turn turns (r.missed e);
}

refusing_here : (held : Held) (due : Due) (turn : Turn) (turns : List Turn) (ending : Ending) (told : Option PutCall) → turn.ending ≡ ending → turn.told ≡ told
    → Steps (WorkPlans held due.work) turn.asked ending → IsTold due.line ending told → (why : Refusal) (call : PutCall) → ending ≡ Refused why → told ≡ Some call → Refusing (turn ∷ turns)
refusing_here held due turn turns (Done next_held next) told e d steps is why call k j = cc
refusing_here held due turn turns (Cut what) told e d steps is why call k j = cc
refusing_here held due turn turns (Refused reason) None e d steps is why call k j = cc
refusing_here held due turn turns (Refused reason) (Some line) e d steps is why call k j = record {
  due = due;
  why = reason;
  held = held;
  asked = turn.asked;
  steps = steps;
  call = line;
  names = is;
  lines = [];
  more = err_calls turns;
  put = ap (λ (t : Option PutCall). puts_of t ++ err_calls turns) d;
  missed = λ f. missed_here turn turns f;
}

-- what a turn leaves that is refused, or is not
Leaving : Machine → Turn → List Turn → Machine → Type 0
Leaving from turn turns next = ((next.refused ≡ from.refused) ⊎ Refusing (turn ∷ turns)) ⊎ IsStopped next

told_leaving : (goes_on : Bool) (from : Machine) (due : Due) (turn : Turn) (turns : List Turn) (why : Refusal) (told : Option PutCall) → turn.ending ≡ Refused why → turn.told ≡ told
    → Steps (WorkPlans from.held due.work) turn.asked (Refused why) → IsTold due.line (Refused why) told
    → Leaving from turn turns (after_refusal goes_on from due.line (told_cut told))
unfolding Leaving
told_leaving goes_on from due turn turns why None e d steps is = inr (record { line = due.line; what = failed.Memory }, refl, refl)
told_leaving goes_on from due turn turns why (Some call) e d steps is = by call.answer
  where
    by : (answer : Result (Unit {0}) PutFault) → Leaving from turn turns (after_refusal goes_on from due.line (put_cut answer))
    by (Ok done) = inl (inr (refusing_here from.held due turn turns (Refused why) (Some call) e d steps is why call refl refl))
    by (Err put.Failed) = inr (record { line = due.line; what = failed.Err }, refl, refl)
    by (Err put.Memory) = inr (record { line = due.line; what = failed.Memory }, refl, refl)

ending_leaving : (goes_on : Bool) (from : Machine) (due : Due) (turn : Turn) (turns : List Turn) (ending : Ending) (told : Option PutCall) → turn.ending ≡ ending → turn.told ≡ told
    → Steps (WorkPlans from.held due.work) turn.asked ending → IsTold due.line ending told → Leaving from turn turns (after_ending goes_on from due ending told)
unfolding Leaving
ending_leaving goes_on from due turn turns (Done held next) told e d steps is = inl (inl refl)
ending_leaving goes_on from due turn turns (Refused why) told e d steps is = told_leaving goes_on from due turn turns why told e d steps is
ending_leaving goes_on from due turn turns (Cut what) told e d steps is = inr (record { line = due.line; what = what }, refl, refl)

run_refusing : (goes_on : Bool) (from to : Machine) (turns : List Turn) → Runs goes_on from turns to → from.refused ≡ false → to.refused ≡ true → to.cut ≡ None → Refusing turns
unfolding Leaving
run_refusing goes_on from to [] runs start end whole = absurd (clash (sym start ∙ ap (λ (m : Machine). m.refused) (sym runs) ∙ end))
  where
    clash : false ≡ true → ⊥
    clash e = cc
run_refusing goes_on from to (turn ∷ turns) runs start end whole =
    let t = took goes_on from turn runs.0 in
    step (λ start'. run_refusing goes_on (after goes_on from turn) to turns runs.1 start' end whole)
    (subst (λ (m : Machine). Leaving from turn turns m) (sym t.next) (ending_leaving goes_on from t.due turn turns turn.ending turn.told refl refl t.steps t.told))
  where
    some_none : (stop : Stop) → Some stop ≡ None → ⊥
    some_none stop e = cc

    step : ((after goes_on from turn).refused ≡ false → Refusing turns) → Leaving from turn turns (after goes_on from turn) → Refusing (turn ∷ turns)
    step later (inl (inl same)) = refusing_later turn turns (later (same ∙ start))
    step later (inl (inr here)) = here
    step later (inr stopped) =
        absurd (some_none stopped.0 (sym stopped.1 ∙ ap (λ (m : Machine). m.cut) (sym (stopped_runs goes_on (after goes_on from turn) to turns stopped runs.1)) ∙ whole))

-- the status Refused means a run that was not cut short
cut_refused : (what : Failed) (given : Result (Unit {0}) PutFault) → unless_memory (status_cut what) given ≡ answer.Refused → ⊥
cut_refused failed.Store (Ok done) e = cc
cut_refused failed.Input (Ok done) e = cc
cut_refused failed.Out (Ok done) e = cc
cut_refused failed.Err (Ok done) e = cc
cut_refused failed.Memory (Ok done) e = cc
cut_refused failed.Store (Err put.Failed) e = cc
cut_refused failed.Input (Err put.Failed) e = cc
cut_refused failed.Out (Err put.Failed) e = cc
cut_refused failed.Err (Err put.Failed) e = cc
cut_refused failed.Memory (Err put.Failed) e = cc
cut_refused what (Err put.Memory) e = cc

refused_is : (refused : Bool) (status : Status) → status ≡ status_of refused → status ≡ answer.Refused → refused ≡ true
refused_is true status e f = refl
refused_is false status e f = cc

ends_refused : (cut : Option Stop) (refused : Bool) (last : Option PutCall) (status : Status) → Ends cut refused last status → status ≡ answer.Refused
    → (cut ≡ None) × ((last ≡ None) × (refused ≡ true))
ends_refused None refused last status ends f = (refl, (ends.0, refused_is refused status ends.1 f))
ends_refused (Some stop) refused None status ends f = cc
ends_refused (Some stop) refused (Some call) status ends f = absurd (cut_refused stop.what call.answer (sym ends.1 ∙ f))

run_named : (goes_on : Bool) (script : TheScript) (store : List StoreCall → Type 0) (input : List TakeCall → Type 0) (out err : List PutCall → Type 0) (status : Status) (missed : Type 0)
    → ((calls : List StoreCall) → store calls → any_of store_missed calls ≡ true → missed) → IsRun goes_on script store input out err status → status ≡ answer.Refused
    → NamesRefusal missed err
run_named goes_on script store input out err status missed counted run f =
    let ended = ends_refused run.end.cut run.end.refused run.last status run.ends f in
    let r = run_refusing goes_on (begun script) run.end run.turns run.runs refl ended.1.1 ended.0 in
    let calls : err_calls run.turns ++ puts_of run.last ≡ r.lines ++ r.call ∷ r.more =
    ap (λ (last : Option PutCall). err_calls run.turns ++ puts_of last) ended.1.0 ∙ append-nil (err_calls run.turns) ∙ r.put in record {
      due = r.due;
      why = r.why;
      cause = work_cause r.held r.due.work r.asked r.why missed (λ e. counted (store_calls run.turns) run.store_went (r.missed e)) r.steps;
      lines = r.lines;
      told = r.call;
      more = r.more;
      went = subst err calls run.err_went;
      names = r.names;
    }

unused_refused : (line : List ℕ) (ends : Status) (last : Option PutCall) (status : Status) → ((given : Result (Unit {0}) PutFault) → unless_memory ends given ≡ answer.Refused → ⊥)
    → EndsWith line ends last status → status ≡ answer.Refused → ⊥
unused_refused line ends None status not e f = cc
unused_refused line ends (Some call) status not e f = not call.answer (sym e.1 ∙ f)

usage_refused : (given : Result (Unit {0}) PutFault) → unless_memory answer.Usage given ≡ answer.Refused → ⊥
usage_refused (Ok done) e = cc
usage_refused (Err put.Failed) e = cc
usage_refused (Err put.Memory) e = cc

memory_refused : (given : Result (Unit {0}) PutFault) → unless_memory answer.Memory given ≡ answer.Refused → ⊥
memory_refused (Ok done) e = cc
memory_refused (Err put.Failed) e = cc
memory_refused (Err put.Memory) e = cc

neither_refused : (last : Option PutCall) (status : Status)
    → EndsWith usage_line answer.Usage last status ⊎ EndsWith (failure_line (record { line = 0; what = failed.Memory })) answer.Memory last status → status ≡ answer.Refused → ⊥
neither_refused last status (inl e) f = unused_refused usage_line answer.Usage last status usage_refused e f
neither_refused last status (inr e) f = unused_refused (failure_line (record { line = 0; what = failed.Memory })) answer.Memory last status memory_refused e f

pub call_refused : (asked : Option TheOptions) (store : List StoreCall → Type 0) (input : List TakeCall → Type 0) (out err : List PutCall → Type 0) (status : Status) → {missed : Type 0}
    → ((calls : List StoreCall) → store calls → any_of store_missed calls ≡ true → missed) → IsCall asked store input out err status → status ≡ answer.Refused → NamesRefusal missed err
unfolding IsCall
call_refused None store input out err status counted call f = absurd (neither_refused call.last status call.ends f)
call_refused (Some options) store input out err status {missed} counted call f = run_named options.keep options.script store input out err status missed counted call f
