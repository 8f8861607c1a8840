-- A run whose turns are served refuses nothing.
use Rattle.std.proofs.Common.{◌≡◌, ℕ, ◌+◌, ◌≤◌, List, [], ◌∷◌, ◌++◌, refl, sym, ap, subst, ◌∙◌, inl, inr, length, nat_le, length-append, arith}
use Rattle.std.specs.Prelude.{◌⊎◌, Bool, true, false, Option, Some, Result, Ok, Err, if◌then◌else◌}
use Rattle.sis_outside.specs.Calls.{Load, Save, TakeCall, PutCall}
use Rattle.sis_outside.specs.declared.store.LoadFault.{LoadFault}
use Rattle.sis_outside.specs.declared.store.LoadFault.TheVariants as load
use Rattle.sis_outside.specs.declared.store.SaveFault.{SaveFault}
use Rattle.sis_outside.specs.declared.store.SaveFault.TheVariants as save
use Rattle.sis_outside.specs.declared.source.TakeFault.{TakeFault}
use Rattle.sis_outside.specs.declared.source.TakeFault.TheVariants as take
use Rattle.sis_outside.specs.declared.sink.PutFault.{PutFault}
use Rattle.sis_outside.specs.declared.sink.PutFault.TheVariants as put
use Rattle.sis_top.specs.Asked.{TheScript, InFile, AsText, OnInput}
use Rattle.sis_script.specs.declared.command.Op.{Op}
use Rattle.sis_session.specs.Commands.{Plans}
use Rattle.sis_session.specs.Keeping.{IsServed}
use Rattle.sis_session.specs.Plan.{MAX_BYTES, Outcome, Does, Refuses, Plan, Asked, OnStore, Ending, Done, Refused, Cut, Comes, ComesLoaded, ComesSaved, ComesPut, ComesPiece, ComesTaken, Goes, Steps, by_plan, no_memory}
use Rattle.sis_session.specs.State.{Held}
use Rattle.sis_session.specs.declared.refusal.Failed.TheVariants as failed
use Rattle.sis_session.specs.declared.refusal.Next.{Next}
use Rattle.sis_session.specs.declared.refusal.Refusal.{Refusal}
use Rattle.sis_session.specs.declared.refusal.Refusal.TheVariants.{LongScript}
use Rattle.sis_top.specs.Machine.{AtEach, Begin, Run, Work, Due, Machine, Turn, WorkPlans, Runs, after, after_ending, begin_plan, begins, next_work}
use Rattle.sis_top.specs.Served.{GivesFile, HasScript, IsServedFirst, IsServedTurn, IsServedWork, IsUnanswered, bytes_in, taken}
use Rattle.sis_top.proofs.Going.{Went, went, quiet, loads, saves, puts, takes}
use Rattle.sis_top.proofs.Faithful.{quiet_outcome, used_of}
use Rattle.sis_top.proofs.Took.{took}

-- the law of the session that is used here
abbrev pub Served : Type 0
Served = (depth : ℕ) (held : Held) (op : Op) (asked : Asked) (ending : Ending) → IsServed depth held op asked → Steps (Plans depth held op) asked ending
    → ((held' : Held) × (next : Next) × (ending ≡ Done held' next)) ⊎ (ending ≡ Cut failed.Memory)

done_kept : (held : Held) (next : Next) (ending : Ending) (why : Refusal) → Comes (Does held next) ending → ending ≡ Refused why → ⊥
done_kept held next ending why (inl e) k = cc
done_kept held next ending why (inr e) k = cc

loaded_kept : (held : Held) (name : List ℕ) (answer : Result (List ℕ) LoadFault) (ending : Ending) (why : Refusal) → ComesLoaded name (begins held) answer ending → GivesFile answer → ending ≡ Refused why → ⊥
loaded_kept held name (Ok bytes) ending why h g k = done_kept held _ ending why h k
loaded_kept held name (Err load.Missing) ending why h g k = absurd g
loaded_kept held name (Err (load.TooLong reached)) ending why h g k = absurd g
loaded_kept held name (Err load.Failed) ending why h g k = cc
loaded_kept held name (Err load.Memory) ending why h g k = cc

short_kept : (held : Held) (text : List ℕ) (short : Bool) (ending : Ending) (why : Refusal) → Comes (if short then begins held text else Refuses LongScript) ending → short ≡ true → ending ≡ Refused why → ⊥
short_kept held text true ending why h s k = done_kept held _ ending why h k
short_kept held text false ending why h s k = cc

taken_kept : (held : Held) (text : List ℕ) (calls : List TakeCall) (ending : Ending) (why : Refusal) → ComesTaken (begins held) text calls ending
    → length text + length (taken calls) ≤ MAX_BYTES → ending ≡ Refused why → ⊥
taken_kept held text [] ending why (inl h) few k = absurd (omega (arith, h.0, few))
taken_kept held text [] ending why (inr h) few k = cc
taken_kept held text (call ∷ calls) ending why h few k = piece call.answer (λ longer. taken_kept held longer calls ending why) h.1 few
  where
    piece : (answer : Result (List ℕ) TakeFault) → ((longer : List ℕ) → ComesTaken (begins held) longer calls ending → length longer + length (taken calls) ≤ MAX_BYTES → ending ≡ Refused why → ⊥)
        → ComesPiece (begins held) text answer calls (λ longer. ComesTaken (begins held) longer calls ending) ending → length text + length (bytes_in answer ++ taken calls) ≤ MAX_BYTES → ⊥
    piece (Ok []) more j few = done_kept held _ ending why j.1 k
    piece (Ok (byte ∷ bytes)) more j few =
        more (text ++ byte ∷ bytes) j (omega (arith, few, length-append text (byte ∷ bytes), length-append (byte ∷ bytes) (taken calls))) k
    piece (Err take.Failed) more j few = cc
    piece (Err take.Memory) more j few = cc

le_true : (a b : ℕ) → a ≤ b → nat_le a b ≡ true
le_true a b h = grind arith

begun_kept : (held : Held) (script : TheScript) (asked : Asked) (ending : Ending) (why : Refusal) → Went (begin_plan held script) asked ending → HasScript script asked → ending ≡ Refused why → ⊥
begun_kept held (InFile file) asked ending why (quiet outcome e d h) has k = cc
begun_kept held (InFile file) asked ending why (loads name used answer e d h) has k =
    loaded_kept held name answer ending why (subst (λ (u : List ℕ → Outcome). ComesLoaded name u answer ending) (sym (ap (used_of (begins held)) e)) h)
    (subst (λ (a : Asked). HasScript (InFile file) a) d has) k
begun_kept held (InFile file) asked ending why (saves name bytes outcome answer e d h) has k = cc
begun_kept held (InFile file) asked ending why (puts reply outcome call e d p h) has k = cc
begun_kept held (InFile file) asked ending why (takes used calls e d h) has k = cc
begun_kept held (AsText text) asked ending why (quiet outcome e d h) has k =
    short_kept held text (nat_le (length text) MAX_BYTES) ending why (subst (λ (o : Outcome). Comes o ending) (sym (ap (quiet_outcome outcome) e)) h) (le_true (length text) MAX_BYTES has) k
begun_kept held (AsText text) asked ending why (loads name used answer e d h) has k = cc
begun_kept held (AsText text) asked ending why (saves name bytes outcome answer e d h) has k = cc
begun_kept held (AsText text) asked ending why (puts reply outcome call e d p h) has k = cc
begun_kept held (AsText text) asked ending why (takes used calls e d h) has k = cc
begun_kept held OnInput asked ending why (quiet outcome e d h) has k = cc
begun_kept held OnInput asked ending why (loads name used answer e d h) has k = cc
begun_kept held OnInput asked ending why (saves name bytes outcome answer e d h) has k = cc
begun_kept held OnInput asked ending why (puts reply outcome call e d p h) has k = cc
begun_kept held OnInput asked ending why (takes used calls e d h) has k =
    let few : length (taken calls) ≤ MAX_BYTES = subst (λ (a : Asked). HasScript OnInput a) d has in
    taken_kept held [] calls ending why (subst (λ (u : List ℕ → Outcome). ComesTaken u [] calls ending) (sym (ap (used_of (begins held)) e)) h) (omega (arith, few)) k

unloaded_kept : (name file : List ℕ) (max : ℕ) (used : List ℕ → Outcome) (answer : Result (List ℕ) LoadFault) (ending : Ending) (why : Refusal) → ComesLoaded name used answer ending
    → IsUnanswered (OnStore (Load file max answer)) → ending ≡ Refused why → ⊥
unloaded_kept name file max used (Ok bytes) ending why h u k = absurd u
unloaded_kept name file max used (Err load.Missing) ending why h u k = absurd u
unloaded_kept name file max used (Err (load.TooLong reached)) ending why h u k = absurd u
unloaded_kept name file max used (Err load.Failed) ending why h u k = cc
unloaded_kept name file max used (Err load.Memory) ending why h u k = cc

unsaved_kept : (name bytes : List ℕ) (outcome : Outcome) (answer : Result (Unit {0}) SaveFault) (ending : Ending) (why : Refusal) → ComesSaved outcome answer ending
    → IsUnanswered (OnStore (Save name bytes answer)) → ending ≡ Refused why → ⊥
unsaved_kept name bytes outcome (Ok done) ending why h u k = absurd u
unsaved_kept name bytes outcome (Err save.Failed) ending why h u k = cc
unsaved_kept name bytes outcome (Err save.Memory) ending why h u k = cc

unput_kept : (outcome : Outcome) (fault : PutFault) (ending : Ending) (why : Refusal) → ComesPut outcome (Err fault) ending → ending ≡ Refused why → ⊥
unput_kept outcome put.Failed ending why h k = cc
unput_kept outcome put.Memory ending why h k = cc

unanswered_kept : (plan : Plan) (asked : Asked) (ending : Ending) (why : Refusal) → Went plan asked ending → IsUnanswered asked → ending ≡ Refused why → ⊥
unanswered_kept plan asked ending why (quiet outcome e d h) u k = absurd (subst IsUnanswered d u)
unanswered_kept plan asked ending why (loads name used answer e d h) u k = unloaded_kept name name MAX_BYTES used answer ending why h (subst IsUnanswered d u) k
unanswered_kept plan asked ending why (saves name bytes outcome answer e d h) u k = unsaved_kept name bytes outcome answer ending why h (subst IsUnanswered d u) k
unanswered_kept plan asked ending why (puts reply outcome call e d p h) u k =
    let not = subst IsUnanswered d u in
    unput_kept outcome not.0 ending why (subst (λ (a : Result (Unit {0}) PutFault). ComesPut outcome a ending) not.1 h) k
unanswered_kept plan asked ending why (takes used calls e d h) u k = absurd (subst IsUnanswered d u)

command_kept : (ending : Ending) (why : Refusal) → ((held' : Held) × (next : Next) × (ending ≡ Done held' next)) ⊎ (ending ≡ Cut failed.Memory) → ending ≡ Refused why → ⊥
command_kept ending why (inl (held, next, e)) k = cc
command_kept ending why (inr e) k = cc

work_kept : Served → (held : Held) (work : Work) (asked : Asked) (ending : Ending) (why : Refusal) → Steps (WorkPlans held work) asked ending → IsServedWork held work asked → ending ≡ Refused why → ⊥
work_kept served held (Begin script) asked ending why (by_plan plan p g) has k =
    begun_kept held script asked ending why (went (begin_plan held script) asked ending (subst (λ (x : Plan). Goes x asked ending) p g)) has k
work_kept served held (Begin script) asked ending why (no_memory a e) has k = cc
work_kept served held (Run depth op) asked ending why steps (inl has) k = command_kept ending why (served depth held op asked ending has steps) k
work_kept served held (Run depth op) asked ending why (by_plan plan p g) (inr u) k = unanswered_kept plan asked ending why (went plan asked ending g) u k
work_kept served held (Run depth op) asked ending why (no_memory a e) (inr u) k = cc

after_kept : (goes_on : Bool) (machine : Machine) (due : Due) (ending : Ending) (told : Option PutCall) → ((why : Refusal) → ending ≡ Refused why → ⊥)
    → (after_ending goes_on machine due ending told).refused ≡ machine.refused
after_kept goes_on machine due (Done held next) told not = refl
after_kept goes_on machine due (Refused why) told not = absurd (not why refl)
after_kept goes_on machine due (Cut what) told not = refl

served_work : (held : Held) (first : Option Work) (work : Work) (asked : Asked) → first ≡ Some work → IsServedFirst held first asked → IsServedWork held work asked
served_work held first work asked e has = subst (λ (f : Option Work). IsServedFirst held f asked) e has

pub run_kept : Served → (goes_on : Bool) (from to : Machine) (turns : List Turn) → Runs goes_on from turns to → from.refused ≡ false → AtEach goes_on IsServedTurn from turns → to.refused ≡ false
run_kept served goes_on from to [] runs start all = ap (λ (m : Machine). m.refused) runs ∙ start
run_kept served goes_on from to (turn ∷ turns) runs start all =
    let t = took goes_on from turn runs.0 in
    let has = served_work from.held (next_work from.todo) t.due.work turn.asked t.first all.0 in
    run_kept served goes_on (after goes_on from turn) to turns runs.1
    (ap (λ (m : Machine). m.refused) t.next
    ∙ after_kept goes_on from t.due turn.ending turn.told (λ why k. work_kept served from.held t.due.work turn.asked turn.ending why t.steps has k) ∙ start) all.1
