-- Two runs whose equal requests are answered the same are one.
use Rattle.std.proofs.Common.{◌≡◌, ℕ, ◌+◌, List, [], ◌∷◌, ◌++◌, refl, sym, ap, subst, ◌∙◌, inl, inr, arith}
use Rattle.std.specs.Prelude.{◌⊎◌, Bool, Option, Some, None, Result, Ok, Err}
use Rattle.std.specs.List.{AllByRecursion}
use Rattle.sis_outside.specs.Calls.{Load, Save, TakeCall, PutCall}
use Rattle.sis_outside.specs.declared.store.LoadFault.{LoadFault}
use Rattle.sis_outside.specs.declared.store.SaveFault.{SaveFault}
use Rattle.sis_outside.specs.declared.source.TakeFault.{TakeFault}
use Rattle.sis_outside.specs.declared.source.TakeFault.TheVariants as take
use Rattle.sis_script.specs.declared.command.Op.{Op}
use Rattle.sis_session.specs.Commands.{Plans}
use Rattle.sis_session.specs.Plan.{MAX_BYTES, Outcome, Plan, Quiet, Loads, Saves, Puts, Takes, Asked, Nothing, OnStore, OnOut, OnInput, Ending, Done, Refused, Cut, ComesPiece, ComesTaken, Goes, Steps, by_plan, no_memory}
use Rattle.sis_session.specs.State.{Held}
use Rattle.sis_session.specs.declared.refusal.Failed.TheVariants as failed
use Rattle.sis_session.specs.declared.refusal.Refusal.{Refusal}
use Rattle.sis_session.proofs.Once.{big_ends, goes_once}
use Rattle.sis_session.specs.Keeping.{AreOnePlan, EndsEarly, EndsTooBig, PlansTooBig}
use Rattle.sis_top.specs.Machine.{Begin, Run, Work, Due, Machine, Turn, WorkPlans, IsTold, IsTurn, IsTurnOf, Runs, after}
use Rattle.sis_top.specs.Laws.{AnswersAlike, AreAlike, HasRoom, LinesAlike, TakesAlike}

-- the law of the session that is used here
abbrev pub Once : Type 0
Once = (depth : ℕ) (held : Held) (op : Op) (plan other : Plan) → Plans depth held op plan → Plans depth held op other → AreOnePlan plan other

work_once : Once → (held : Held) (work : Work) (plan other : Plan) → WorkPlans held work plan → WorkPlans held work other → AreOnePlan plan other
work_once law held (Run depth op) plan other h k = law depth held op plan other h k
work_once law held (Begin script) plan other h k = inl (h ∙ sym k)

-- memory did not run out
Whole : Ending → Type 0
Whole ending = ending ≡ Cut failed.Memory → ⊥

cut_whole : (ending : Ending) → Whole ending → ending ≡ Cut failed.Memory → ⊥
unfolding Whole
cut_whole ending whole cut = whole cut

-- takes of the whole input that are answered the same are the same
same_call : (one other : TakeCall) → one.max ≡ other.max → one.answer ≡ other.answer → one ≡ other
same_call one other max given =
    ap (λ (m : ℕ). record { max = m; answer = one.answer }) max ∙ ap (λ (a : Result (List ℕ) TakeFault). record { max = other.max; answer = a }) given

same_takes : (used : List ℕ → Outcome) (text : List ℕ) (ones others : List TakeCall) (one other : Ending) → Whole one → Whole other
    → ComesTaken used text ones one → ComesTaken used text others other → TakesAlike ones others → ones ≡ others
unfolding Whole
same_takes used text [] [] one other w v h k alike = refl
same_takes used text [] (call ∷ calls) one other w v (inl h) k alike = absurd (omega (arith, h.0, k.0.0))
same_takes used text [] (call ∷ calls) one other w v (inr h) k alike = absurd (w h.1)
same_takes used text (call ∷ calls) [] one other w v h (inl k) alike = absurd (omega (arith, k.0, h.0.0))
same_takes used text (call ∷ calls) [] one other w v h (inr k) alike = absurd (v k.1)
same_takes used text (call ∷ calls) (same ∷ others) one other w v h k alike =
    let max : call.max ≡ same.max = omega (arith, h.0.1, k.0.1) in
    let given = alike.0 max in
    ap (λ (c : TakeCall). c ∷ calls) (same_call call same max given)
    ∙ ap (λ (rest : List TakeCall). same ∷ rest)
    (pieces same.answer (λ longer a b. same_takes used longer calls others one other w v a b alike.1)
    (subst (λ (a : Result (List ℕ) TakeFault). ComesPiece used text a calls (λ longer. ComesTaken used longer calls one) one) given h.1) k.1)
  where
    pieces : (answer : Result (List ℕ) TakeFault) → ((longer : List ℕ) → ComesTaken used longer calls one → ComesTaken used longer others other → calls ≡ others)
        → ComesPiece used text answer calls (λ longer. ComesTaken used longer calls one) one → ComesPiece used text answer others (λ longer. ComesTaken used longer others other) other
        → calls ≡ others
    pieces (Ok []) more a b = a.0 ∙ sym b.0
    pieces (Ok (byte ∷ bytes)) more a b = more (text ++ byte ∷ bytes) a b
    pieces (Err take.Failed) more a b = a.0 ∙ sym b.0
    pieces (Err take.Memory) more a b = a.0 ∙ sym b.0

-- what is asked by a plan of each kind
quiet_asked : (outcome : Outcome) (asked : Asked) (ending : Ending) → Goes (Quiet outcome) asked ending → asked ≡ Nothing
quiet_asked outcome Nothing ending h = refl
quiet_asked outcome (OnStore call) ending h = absurd h
quiet_asked outcome (OnOut call) ending h = absurd h
quiet_asked outcome (OnInput calls) ending h = absurd h

loads_asked : (name : List ℕ) (used : List ℕ → Outcome) (asked : Asked) (ending : Ending) → Goes (Loads name used) asked ending
    → (given : Result (List ℕ) LoadFault) × (asked ≡ OnStore (Load name MAX_BYTES given))
loads_asked name used Nothing ending h = absurd h
loads_asked name used (OnStore (Load file max given)) ending h =
    (given, ap (λ (n : List ℕ). OnStore (Load n max given)) h.0 ∙ ap (λ (m : ℕ). OnStore (Load name m given)) h.1)
loads_asked name used (OnStore (Save file sent given)) ending h = absurd h
loads_asked name used (OnOut call) ending h = absurd h
loads_asked name used (OnInput calls) ending h = absurd h

saves_asked : (name bytes : List ℕ) (outcome : Outcome) (asked : Asked) (ending : Ending) → Goes (Saves name bytes outcome) asked ending
    → (given : Result (Unit {0}) SaveFault) × (asked ≡ OnStore (Save name bytes given))
saves_asked name bytes outcome Nothing ending h = absurd h
saves_asked name bytes outcome (OnStore (Load file max given)) ending h = absurd h
saves_asked name bytes outcome (OnStore (Save file sent given)) ending h =
    (given, ap (λ (n : List ℕ). OnStore (Save n sent given)) h.0 ∙ ap (λ (b : List ℕ). OnStore (Save name b given)) h.1)
saves_asked name bytes outcome (OnOut call) ending h = absurd h
saves_asked name bytes outcome (OnInput calls) ending h = absurd h

puts_asked : (reply : List ℕ) (outcome : Outcome) (asked : Asked) (ending : Ending) → Goes (Puts reply outcome) asked ending
    → (call : PutCall) × (asked ≡ OnOut call) × (call.piece ≡ reply)
puts_asked reply outcome Nothing ending h = absurd h
puts_asked reply outcome (OnStore (Load file max given)) ending h = absurd h
puts_asked reply outcome (OnStore (Save file sent given)) ending h = absurd h
puts_asked reply outcome (OnOut call) ending h = (call, refl, h.0)
puts_asked reply outcome (OnInput calls) ending h = absurd h

takes_asked : (used : List ℕ → Outcome) (asked : Asked) (ending : Ending) → Goes (Takes used) asked ending
    → (calls : List TakeCall) × (asked ≡ OnInput calls) × ComesTaken used [] calls ending
takes_asked used Nothing ending h = absurd h
takes_asked used (OnStore (Load file max given)) ending h = absurd h
takes_asked used (OnStore (Save file sent given)) ending h = absurd h
takes_asked used (OnOut call) ending h = absurd h
takes_asked used (OnInput calls) ending h = (calls, refl, h)

same_put : (one other : PutCall) → one.piece ≡ other.piece → one.answer ≡ other.answer → one ≡ other
same_put one other piece given =
    ap (λ (p : List ℕ). record { piece = p; answer = one.answer }) piece ∙ ap (λ (a : _). record { piece = other.piece; answer = a }) given

alike_as : (one other first second : Asked) → one ≡ first → other ≡ second → AnswersAlike one other → AnswersAlike first second
alike_as one other first second e d alike = subst (λ (a : Asked). AnswersAlike a second) e (subst (λ (b : Asked). AnswersAlike one b) d alike)

-- by one plan the same is asked
same_asked : (plan : Plan) (one other : Asked) (ending ended : Ending) → Whole ending → Whole ended → Goes plan one ending → Goes plan other ended → AnswersAlike one other → one ≡ other
same_asked (Quiet outcome) one other ending ended w v h k alike = quiet_asked outcome one ending h ∙ sym (quiet_asked outcome other ended k)
same_asked (Loads name used) one other ending ended w v h k alike =
    let (given, e) = loads_asked name used one ending h in
    let (given', d) = loads_asked name used other ended k in
    let same = alike_as one other _ _ e d alike refl refl in
    e ∙ ap (λ (g : Result (List ℕ) LoadFault). OnStore (Load name MAX_BYTES g)) same ∙ sym d
same_asked (Saves name bytes outcome) one other ending ended w v h k alike =
    let (given, e) = saves_asked name bytes outcome one ending h in
    let (given', d) = saves_asked name bytes outcome other ended k in
    let same = alike_as one other _ _ e d alike refl refl in
    e ∙ ap (λ (g : Result (Unit {0}) SaveFault). OnStore (Save name bytes g)) same ∙ sym d
same_asked (Puts reply outcome) one other ending ended w v h k alike =
    let (call, e, p) = puts_asked reply outcome one ending h in
    let (call', d, q) = puts_asked reply outcome other ended k in
    let piece : call.piece ≡ call'.piece = p ∙ sym q in
    e ∙ ap OnOut (same_put call call' piece (alike_as one other (OnOut call) (OnOut call') e d alike piece)) ∙ sym d
same_asked (Takes used) one other ending ended w v h k alike =
    let (calls, e, t) = takes_asked used one ending h in
    let (calls', d, u) = takes_asked used other ended k in
    e ∙ ap OnInput (same_takes used [] calls calls' ending ended w v t u (alike_as one other (OnInput calls) (OnInput calls') e d alike)) ∙ sym d

same_ending : (one other : Ending) → Whole one → Whole other → (one ≡ other) ⊎ ((one ≡ Cut failed.Memory) ⊎ (other ≡ Cut failed.Memory)) → one ≡ other
unfolding Whole
same_ending one other not nor (inl e) = e
same_ending one other not nor (inr (inl e)) = absurd (not e)
same_ending one other not nor (inr (inr e)) = absurd (nor e)

-- a step that refuses no function that is too big, and is not cut short for want of memory, is not
-- planned so
Fits : Ending → Type 0
Fits ending = EndsTooBig ending → ⊥

not_early : (ending : Ending) → Whole ending → Fits ending → EndsEarly ending → ⊥
unfolding Whole Fits
not_early ending whole fits (inl cut) = whole cut
not_early ending whole fits (inr big) = fits big

-- a step is one where equal requests are answered the same
same_steps : Once → (held : Held) (work : Work) (one other : Asked) (ending ended : Ending) → Whole ending → Whole ended → Fits ending → Fits ended
    → Steps (WorkPlans held work) one ending → Steps (WorkPlans held work) other ended → AnswersAlike one other → (one ≡ other) × (ending ≡ ended)
same_steps law held work one other ending ended w v f g (by_plan plan p goes) (by_plan plan' p' goes') alike =
    by (work_once law held work plan plan' p p')
  where
    by : AreOnePlan plan plan' → (one ≡ other) × (ending ≡ ended)
    by (inl same) =
        let again : Goes plan other ended = subst (λ (x : Plan). Goes x other ended) (sym same) goes' in
        let asked = same_asked plan one other ending ended w v goes again alike in (
          asked,
          same_ending ending ended w v (goes_once plan other ending ended
              (subst (λ (a : Asked). Goes plan a ending) asked goes) again),
        )
    by (inr (inl big)) = absurd (not_early ending w f (big_ends plan one ending big goes))
    by (inr (inr big)) = absurd (not_early ended v g (big_ends plan' other ended big goes'))
same_steps law held work one other ending ended w v f g (no_memory a e) k alike = absurd (cut_whole ending w e)
same_steps law held work one other ending ended w v f g (by_plan plan p goes) (no_memory a e) alike = absurd (cut_whole ended v e)

-- so is the line of a refusal
same_line : (line : ℕ) (ending : Ending) (one other : Option PutCall) → IsTold line ending one → IsTold line ending other
    → ((why : Refusal) → ending ≡ Refused why → one ≡ None → ⊥) → ((why : Refusal) → ending ≡ Refused why → other ≡ None → ⊥) → LinesAlike one other → one ≡ other
same_line line (Done held next) one other h k w v alike = h ∙ sym k
same_line line (Cut what) one other h k w v alike = h ∙ sym k
same_line line (Refused why) None other h k w v alike = absurd (w why refl refl)
same_line line (Refused why) (Some call) None h k w v alike = absurd (v why refl refl)
same_line line (Refused why) (Some call) (Some same) h k w v alike = let piece : call.piece ≡ same.piece = h ∙ sym k in ap (λ (c : PutCall). Some c) (same_put call same piece (alike piece))

one_turn : (one other : Turn) → one.asked ≡ other.asked → one.ending ≡ other.ending → one.told ≡ other.told → one ≡ other
one_turn one other asked ending told =
    ap (λ (x : Asked). record { asked = x; ending = one.ending; told = one.told }) asked
    ∙ ap (λ (x : Ending). record { asked = other.asked; ending = x; told = one.told }) ending
    ∙ ap (λ (x : Option PutCall). record { asked = other.asked; ending = other.ending; told = x }) told

pub same_turn : Once → (machine : Machine) (todo : List Due) (one other : Turn) → IsTurnOf machine todo one → IsTurnOf machine todo other → HasRoom one → HasRoom other
    → AnswersAlike one.asked other.asked → LinesAlike one.told other.told → one ≡ other
unfolding Whole Fits
same_turn law machine [] one other h k certain sure asked told = absurd h
same_turn law machine (due ∷ rest) one other h k certain sure asked told =
    let same = same_steps law machine.held due.work one.asked other.asked one.ending other.ending certain.whole sure.whole certain.fitted.fits sure.fitted.fits h.0 k.0 asked in
    one_turn one other same.0 same.1
    (same_line due.line one.ending one.told other.told h.1 (subst (λ (e : Ending). IsTold due.line e other.told) (sym same.1) k.1)
    certain.told (λ why e. sure.told why (sym same.1 ∙ e)) told)

pub ended_run : (machine end : Machine) (turn : Turn) → end ≡ machine → end.todo ≡ [] → IsTurn machine turn → ⊥
ended_run machine end turn e none is = subst (λ (todo : List Due). IsTurnOf machine todo turn) (ap (λ (m : Machine). m.todo) (sym e) ∙ none) is

pub one_run : Once → (goes_on : Bool) (from end last : Machine) (one other : List Turn) → Runs goes_on from one end → Runs goes_on from other last → end.todo ≡ [] → last.todo ≡ []
    → AllByRecursion HasRoom one → AllByRecursion HasRoom other → AreAlike one other → one ≡ other
one_run law goes_on from end last [] [] h k none nothing certain sure alike = refl
one_run law goes_on from end last [] (turn ∷ other) h k none nothing certain sure alike = absurd (ended_run from end turn h none k.0)
one_run law goes_on from end last (turn ∷ one) [] h k none nothing certain sure alike = absurd (ended_run from last turn k nothing h.0)
one_run law goes_on from end last (turn ∷ one) (same ∷ other) h k none nothing certain sure alike =
    let turns = same_turn law from from.todo turn same h.0 k.0 certain.0 sure.0 alike.0 alike.1 in
    ap (λ (t : Turn). t ∷ one) turns
    ∙ ap (λ (rest : List Turn). same ∷ rest) (one_run law goes_on (after goes_on from same) end last one other
    (subst (λ (t : Turn). Runs goes_on (after goes_on from t) one end) turns h.1) k.1 none nothing certain.1 sure.1 alike.2)
