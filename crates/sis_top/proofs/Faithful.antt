-- What a run writes refines what was read last.
use Rattle.std.proofs.Common.{◌≡◌, ◌∙◌, ℕ, List, [], ◌∷◌, ◌++◌, sym, ap, subst, length, nat_le}
use Rattle.std.specs.Prelude.{Bool, true, false, Option, Some, None, unwrap_or, Result, Ok, Err, if◌then◌else◌}
use Rattle.std.proofs.Common.{inl, inr}
use Rattle.sis_outside.specs.Calls.{Save, TakeCall, PutCall}
use Rattle.sis_outside.specs.declared.store.LoadFault.{LoadFault}
use Rattle.sis_outside.specs.declared.store.LoadFault.TheVariants as load
use Rattle.sis_outside.specs.declared.store.SaveFault.{SaveFault}
use Rattle.sis_outside.specs.declared.source.TakeFault.{TakeFault}
use Rattle.sis_outside.specs.declared.source.TakeFault.TheVariants as take
use Rattle.sis_top.specs.Asked.{TheScript, InFile, AsText, OnInput}
use Rattle.sis_script.specs.declared.command.Op.{Op}
use Rattle.sis_session.specs.Commands.{Plans, Written, OfSpec, OfNetlist, form_of, last_read}
use Rattle.sis_session.specs.Keeping.{IsMapping, IsRefined, IsTextOf, IsWriting, TellsAreas, WritesTo}
use Rattle.sis_session.specs.Plan.{MAX_BYTES, Outcome, Refuses, Plan, Quiet, Loads, Takes, Asked, OnStore, OnOut, OnInput, Ending, Done, Refused, Cut, Comes, ComesLoaded, ComesPiece, ComesTaken, Goes, Steps, by_plan, no_memory}
use Rattle.circuit_model.specs.declared.machine.Spec.{Spec}
use Rattle.circuit_model.specs.declared.machine.Spec.TheVariants as spec
use Rattle.circuit_model.specs.Behaviors.{RefinesAs}
use Rattle.circuit_model.specs.MachineBehaviors.{of_spec}
use Rattle.circuit_model.specs.Runs.{of_circuit}
use Rattle.circuit_model.proofs.Refinement.{behaves-through}
use Rattle.netlist.specs.Netlists.{circuit_of}
use Rattle.sis_session.specs.State.{Held, Library}
use Rattle.sis_session.specs.declared.refusal.Failed.{Failed}
use Rattle.sis_session.specs.declared.refusal.Failed.TheVariants as failed
use Rattle.sis_session.specs.declared.refusal.Next.{Next}
use Rattle.sis_session.specs.declared.refusal.Refusal.TheVariants.{LongScript}
use Rattle.sis_top.specs.Machine.{AtEach, Begin, Run, Work, Due, Machine, Turn, WorkPlans, Runs, after, after_refusal, after_ending, begin_plan, begins, next_work, spec_after, told_cut}
use Rattle.sis_top.specs.Call.{AreFaithful, IsFaithful}
use Rattle.sis_top.proofs.Going.{Went, went, quiet, loads, saves, puts, takes}
use Rattle.sis_top.proofs.Took.{Took, took}

-- the laws of the session that are used here
abbrev pub Kept : Type 0
Kept = (depth : ℕ) (held : Held) (op : Op) (asked : Asked) (held' : Held) (next : Next) (spec : Option Spec)
    → Steps (Plans depth held op) asked (Done held' next) → IsRefined spec held → IsRefined (last_read op held' spec) held'

abbrev pub Saved : Type 0
Saved = (depth : ℕ) (held : Held) (op : Op) (name bytes : List ℕ) (answer : Result (Unit {0}) SaveFault) (ending : Ending)
    → Steps (Plans depth held op) (OnStore (Save name bytes answer)) ending
    → (written : Written) × WritesTo (Some name) (form_of op) written × IsTextOf held written bytes

pub record Put : Type 0 where
  pub text : (depth : ℕ) (held : Held) (op : Op) (call : PutCall) (ending : Ending) → IsWriting (form_of op)
      → Steps (Plans depth held op) (OnOut call) ending
      → (written : Written) × WritesTo None (form_of op) written × IsTextOf held written call.piece
  pub areas : (depth : ℕ) (held : Held) (op : Op) (call : PutCall) (ending : Ending) → IsMapping (form_of op)
      → Steps (Plans depth held op) (OnOut call) ending → TellsAreas held call.piece

-- what is held where a script was begun
held_of : Held → Ending → Held
held_of held (Done other next) = other
held_of held (Refused why) = held
held_of held (Cut what) = held

begun_comes : (held held' : Held) (next : Next) (text : List ℕ) → Comes (begins held text) (Done held' next) → held' ≡ held
unfolding held_of
begun_comes held held' next text (inl e) = ap (held_of held) e
begun_comes held held' next text (inr e) = cc

refused_comes : (held held' : Held) (next : Next) → Comes (Refuses LongScript) (Done held' next) → held' ≡ held
refused_comes held held' next (inl e) = cc
refused_comes held held' next (inr e) = cc

begun_text : (held held' : Held) (next : Next) (text : List ℕ) (short : Bool) → Comes (if short then begins held text else Refuses LongScript) (Done held' next) → held' ≡ held
begun_text held held' next text true h = begun_comes held held' next text h
begun_text held held' next text false h = refused_comes held held' next h

begun_loaded : (held held' : Held) (next : Next) (name : List ℕ) (answer : Result (List ℕ) LoadFault) → ComesLoaded name (begins held) answer (Done held' next) → held' ≡ held
begun_loaded held held' next name (Ok bytes) h = begun_comes held held' next bytes h
begun_loaded held held' next name (Err load.Missing) (inl e) = cc
begun_loaded held held' next name (Err load.Missing) (inr e) = cc
begun_loaded held held' next name (Err (load.TooLong reached)) (inl e) = cc
begun_loaded held held' next name (Err (load.TooLong reached)) (inr e) = cc
begun_loaded held held' next name (Err load.Failed) h = cc
begun_loaded held held' next name (Err load.Memory) h = cc

begun_taken : (held held' : Held) (next : Next) (text : List ℕ) (calls : List TakeCall) → ComesTaken (begins held) text calls (Done held' next) → held' ≡ held
begun_taken held held' next text [] (inl h) = refused_comes held held' next h.1
begun_taken held held' next text [] (inr h) = cc
begun_taken held held' next text (call ∷ calls) h = piece call.answer (λ longer. begun_taken held held' next longer calls) h.1
  where
    piece : (answer : Result (List ℕ) TakeFault) → ((longer : List ℕ) → ComesTaken (begins held) longer calls (Done held' next) → held' ≡ held)
        → ComesPiece (begins held) text answer calls (λ longer. ComesTaken (begins held) longer calls (Done held' next)) (Done held' next) → held' ≡ held
    piece (Ok []) more k = begun_comes held held' next text k.1
    piece (Ok (byte ∷ bytes)) more k = more (text ++ byte ∷ bytes) k
    piece (Err take.Failed) more k = cc
    piece (Err take.Memory) more k = cc

abbrev pub quiet_outcome : Outcome → Plan → Outcome
quiet_outcome other (Quiet outcome) = outcome
quiet_outcome other plan = other

abbrev pub used_of : (List ℕ → Outcome) → Plan → List ℕ → Outcome
used_of other (Loads name used) = used
used_of other (Takes used) = used
used_of other plan = other

begun_same : (held held' : Held) (next : Next) (script : TheScript) (asked : Asked) → Went (begin_plan held script) asked (Done held' next) → held' ≡ held
begun_same held held' next (InFile file) asked (quiet outcome e d h) = cc
begun_same held held' next (InFile file) asked (loads name used answer e d h) =
    begun_loaded held held' next name answer (subst (λ (u : List ℕ → Outcome). ComesLoaded name u answer (Done held' next)) (sym (ap (used_of (begins held)) e)) h)
begun_same held held' next (InFile file) asked (saves name bytes outcome answer e d h) = cc
begun_same held held' next (InFile file) asked (puts reply outcome call e d p h) = cc
begun_same held held' next (InFile file) asked (takes used calls e d h) = cc
begun_same held held' next (AsText text) asked (quiet outcome e d h) =
    begun_text held held' next text (nat_le (length text) MAX_BYTES) (subst (λ (o : Outcome). Comes o (Done held' next)) (sym (ap (quiet_outcome outcome) e)) h)
begun_same held held' next (AsText text) asked (loads name used answer e d h) = cc
begun_same held held' next (AsText text) asked (saves name bytes outcome answer e d h) = cc
begun_same held held' next (AsText text) asked (puts reply outcome call e d p h) = cc
begun_same held held' next (AsText text) asked (takes used calls e d h) = cc
begun_same held held' next OnInput asked (quiet outcome e d h) = cc
begun_same held held' next OnInput asked (loads name used answer e d h) = cc
begun_same held held' next OnInput asked (saves name bytes outcome answer e d h) = cc
begun_same held held' next OnInput asked (puts reply outcome call e d p h) = cc
begun_same held held' next OnInput asked (takes used calls e d h) =
    begun_taken held held' next [] calls (subst (λ (u : List ℕ → Outcome). ComesTaken u [] calls (Done held' next)) (sym (ap (used_of (begins held)) e)) h)

-- a script's begin saves nothing
begun_unsaved : (held : Held) (script : TheScript) (asked : Asked) (ending : Ending) (name bytes : List ℕ) (answer : Result (Unit {0}) SaveFault)
    → Went (begin_plan held script) asked ending → asked ≡ OnStore (Save name bytes answer) → ⊥
begun_unsaved held script asked ending name bytes answer (quiet outcome e d h) k = cc
begun_unsaved held script asked ending name bytes answer (loads other used loaded e d h) k = cc
begun_unsaved held (InFile file) asked ending name bytes answer (saves other sent outcome saved e d h) k = cc
begun_unsaved held (AsText text) asked ending name bytes answer (saves other sent outcome saved e d h) k = cc
begun_unsaved held OnInput asked ending name bytes answer (saves other sent outcome saved e d h) k = cc
begun_unsaved held script asked ending name bytes answer (puts reply outcome call e d p h) k = cc
begun_unsaved held script asked ending name bytes answer (takes used calls e d h) k = cc

done_cut : (held : Held) (next : Next) (what : Failed) → Done held next ≡ Cut what → ⊥
done_cut held next what e = cc

-- a work that is done keeps what is held refined
refined_done : Kept → (held held' : Held) (next : Next) (work : Work) (asked : Asked) (spec : Option Spec) → Steps (WorkPlans held work) asked (Done held' next)
    → IsRefined spec held → IsRefined (spec_after work held' spec) held'
refined_done kept held held' next (Begin script) asked spec (by_plan plan p g) refined =
    subst (λ (h : Held). IsRefined spec h) (sym (begun_same held held' next script asked (went (begin_plan held script) asked (Done held' next) (subst (λ (x : Plan). Goes x asked (Done held' next)) p g)))) refined
refined_done kept held held' next (Begin script) asked spec (no_memory a e) refined = absurd (done_cut held' next failed.Memory e)
refined_done kept held held' next (Run depth op) asked spec steps refined = kept depth held op asked held' next spec steps refined

told_refined : (goes_on : Bool) (machine : Machine) (line : ℕ) (cut : Option Failed) → IsRefined machine.spec machine.held
    → IsRefined (after_refusal goes_on machine line cut).spec (after_refusal goes_on machine line cut).held
told_refined goes_on machine line None refined = refined
told_refined goes_on machine line (Some what) refined = refined

ending_refined : Kept → (goes_on : Bool) (machine : Machine) (due : Due) (asked : Asked) (ending : Ending) (told : Option PutCall)
    → Steps (WorkPlans machine.held due.work) asked ending → IsRefined machine.spec machine.held
    → IsRefined (after_ending goes_on machine due ending told).spec (after_ending goes_on machine due ending told).held
ending_refined kept goes_on machine due asked (Done held next) told steps refined = refined_done kept machine.held held next due.work asked machine.spec steps refined
ending_refined kept goes_on machine due asked (Refused why) told steps refined = told_refined goes_on machine due.line (told_cut told) refined
ending_refined kept goes_on machine due asked (Cut what) told steps refined = refined

text_faithful : (machine : Machine) (bytes : List ℕ) (written : Written) → IsRefined machine.spec machine.held → IsTextOf machine.held written bytes → AreFaithful machine bytes
text_faithful machine bytes (OfSpec (spec.Circuit circuit)) refined (there, text) =
    let found = refined.network circuit there in
    (OfSpec (spec.Circuit circuit), (there, text), tt, found.0, found.1, found.3)
text_faithful machine bytes (OfSpec (spec.Machine one)) refined (there, text) =
    let found = refined.machine one there in
    (OfSpec (spec.Machine one), (there, text), tt, found.0, found.1, found.3)
text_faithful machine bytes (OfNetlist netlist) refined (there, text) =
    let made = refined.netlist.each netlist there in
    let found = refined.network made.circuit made.there in (
      OfNetlist netlist,
      (there, text),
      made,
      found.0,
      found.1,
      subst (λ (l : Option Library). RefinesAs (of_spec found.0)
          (of_circuit (circuit_of (unwrap_or l []) netlist))) (sym made.has)
          (behaves-through (of_spec found.0) (of_circuit made.circuit)
          (of_circuit (circuit_of made.gates netlist)) found.3 made.refines),
    )

turn_saved : Saved → (machine : Machine) (work : Work) (asked : Asked) (ending : Ending) (name bytes : List ℕ) (answer : Result (Unit {0}) SaveFault)
    → Steps (WorkPlans machine.held work) asked ending → IsRefined machine.spec machine.held → asked ≡ OnStore (Save name bytes answer) → AreFaithful machine bytes
turn_saved saved machine (Begin script) asked ending name bytes answer (by_plan plan p g) refined e =
    absurd (begun_unsaved machine.held script asked ending name bytes answer (went (begin_plan machine.held script) asked ending (subst (λ (x : Plan). Goes x asked ending) p g)) e)
turn_saved saved machine (Begin script) asked ending name bytes answer (no_memory a d) refined e = cc
turn_saved saved machine (Run depth op) asked ending name bytes answer steps refined e =
    let wrote = saved depth machine.held op name bytes answer ending (subst (λ (a : Asked). Steps (Plans depth machine.held op) a ending) e steps) in
    text_faithful machine bytes wrote.0 refined wrote.2

turn_put : Put → (machine : Machine) (work : Work) (asked : Asked) (ending : Ending) (depth : ℕ) (op : Op) (call : PutCall)
    → Steps (WorkPlans machine.held work) asked ending → IsRefined machine.spec machine.held → work ≡ Run depth op → IsWriting (form_of op) → asked ≡ OnOut call
    → AreFaithful machine call.piece
turn_put put machine work asked ending depth op call steps refined w writing e =
    let wrote = put.text depth machine.held op call ending writing
    (subst (λ (a : Asked). Steps (Plans depth machine.held op) a ending) e (subst (λ (x : Work). Steps (WorkPlans machine.held x) asked ending) w steps)) in
    text_faithful machine call.piece wrote.0 refined wrote.2

turn_areas : Put → (machine : Machine) (work : Work) (asked : Asked) (ending : Ending) (depth : ℕ) (op : Op) (call : PutCall)
    → Steps (WorkPlans machine.held work) asked ending → work ≡ Run depth op → IsMapping (form_of op) → asked ≡ OnOut call
    → TellsAreas machine.held call.piece
turn_areas put machine work asked ending depth op call steps w mapping e =
    put.areas depth machine.held op call ending mapping
    (subst (λ (a : Asked). Steps (Plans depth machine.held op) a ending) e (subst (λ (x : Work). Steps (WorkPlans machine.held x) asked ending) w steps))

same_work : (one other : Work) → Some one ≡ Some other → one ≡ other
same_work one other e = cc

turn_faithful : Saved → Put → (goes_on : Bool) (machine : Machine) (turn : Turn) → Took goes_on machine turn → IsRefined machine.spec machine.held → IsFaithful machine turn
turn_faithful saved put goes_on machine turn t refined = record {
  saved = λ name bytes answer e. turn_saved saved machine t.due.work turn.asked turn.ending name bytes answer t.steps refined e;
  put = λ depth op call w writing e.
      turn_put put machine t.due.work turn.asked turn.ending depth op call t.steps refined (same_work t.due.work (Run depth op) (sym t.first ∙ w)) writing e;
  areas = λ depth op call w mapping e.
      turn_areas put machine t.due.work turn.asked turn.ending depth op call t.steps (same_work t.due.work (Run depth op) (sym t.first ∙ w)) mapping e;
}

-- what is held after a turn is refined
turn_refined : Kept → (goes_on : Bool) (machine : Machine) (turn : Turn) → Took goes_on machine turn → IsRefined machine.spec machine.held
    → IsRefined (after goes_on machine turn).spec (after goes_on machine turn).held
turn_refined kept goes_on machine turn t refined =
    subst (λ (m : Machine). IsRefined m.spec m.held) (sym t.next) (ending_refined kept goes_on machine t.due turn.asked turn.ending turn.told t.steps refined)

pub turns_faithful : Kept → Saved → Put → (goes_on : Bool) (from to : Machine) (turns : List Turn) → Runs goes_on from turns to → IsRefined from.spec from.held
    → AtEach goes_on IsFaithful from turns
turns_faithful kept saved put goes_on from to [] runs refined = tt
turns_faithful kept saved put goes_on from to (turn ∷ turns) runs refined =
    let t = took goes_on from turn runs.0 in (
      turn_faithful saved put goes_on from turn t refined,
      turns_faithful kept saved put goes_on (after goes_on from turn) to turns runs.1 (turn_refined kept goes_on from turn t refined),
    )

pub run_refined : Kept → (goes_on : Bool) (from to : Machine) (turns : List Turn) → Runs goes_on from turns to → IsRefined from.spec from.held → IsRefined to.spec to.held
run_refined kept goes_on from to [] runs refined = subst (λ (m : Machine). IsRefined m.spec m.held) (sym runs) refined
run_refined kept goes_on from to (turn ∷ turns) runs refined =
    run_refined kept goes_on (after goes_on from turn) to turns runs.1 (turn_refined kept goes_on from turn (took goes_on from turn runs.0) refined)
