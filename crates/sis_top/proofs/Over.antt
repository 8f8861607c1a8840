-- Two whole runs over the same shown files, neither of them cut short, are equal.
use Rattle.std.proofs.Common.{◌≡◌, ℕ, ◌+◌, List, [], ◌∷◌, ◌++◌, length, refl, sym, ap, subst, ◌∙◌, arith}
use Rattle.std.specs.Prelude.{Bool, Option, Some, None, Result, Ok, Err}
use Rattle.std.specs.List.{AllByRecursion}
use Rattle.sis_outside.specs.Calls.{StoreCall, Load, Save, TakeCall, PutCall, FilesGo, Follows, IsLoadWithin, IsStoreWithin, Tells}
use Rattle.sis_outside.specs.Files.{Files, file_at}
use Rattle.sis_outside.specs.declared.store.LoadFault.{LoadFault}
use Rattle.sis_outside.specs.declared.store.LoadFault.TheVariants as load
use Rattle.sis_outside.specs.declared.store.SaveFault.{SaveFault}
use Rattle.sis_outside.specs.declared.store.SaveFault.TheVariants as save
use Rattle.sis_outside.specs.declared.sink.PutFault.{PutFault}
use Rattle.sis_outside.specs.declared.sink.PutFault.TheVariants as put
use Rattle.sis_session.specs.Plan.{Outcome, Plan, Quiet, Loads, Saves, Puts, Takes, Asked, Nothing, OnStore, OnOut, OnInput, Ending, Done, Refused, Cut, ComesLoaded, ComesPut, ComesSaved, Goes, Steps, by_plan, no_memory, on_input, on_store}
use Rattle.sis_session.specs.declared.refusal.Failed.{Failed}
use Rattle.sis_top.specs.declared.status.Stop.{Stop}
use Rattle.sis_top.specs.Machine.{Due, Machine, Turn, WorkPlans, IsTold, IsTurnOf, Runs, after, after_ending, after_first, after_refusal, cut_at, told_cut}
use Rattle.sis_top.specs.Call.{input_calls, store_calls}
use Rattle.sis_top.specs.Laws.{AnswersAlike, HasFitted, HasRoom, LinesAlike, TakesAlike}
use Rattle.sis_top.proofs.Single.{Once, ended_run, same_turn}

-- a work was not cut short, nor the line of its refusal
IsUncut : Ending → Option PutCall → Type 0
IsUncut (Done held next) told = Unit {0}
IsUncut (Refused why) told = told_cut told ≡ None
IsUncut (Cut what) told = ⊥

cut_stays : (goes_on : Bool) (from end : Machine) (turns : List Turn) (stop : Stop) → from.todo ≡ [] → from.cut ≡ Some stop → Runs goes_on from turns end → end.cut ≡ None → ⊥
cut_stays goes_on from end [] stop none cut runs uncut = let same : Some stop ≡ None = sym cut ∙ ap (λ (m : Machine). m.cut) (sym runs) ∙ uncut in cc
cut_stays goes_on from end (turn ∷ turns) stop none cut runs uncut = subst (λ (todo : List Due). IsTurnOf from todo turn) none runs.0

uncut_ending : (goes_on : Bool) (from end : Machine) (turns : List Turn) (due : Due) (ending : Ending) (told : Option PutCall)
    → Runs goes_on (after_ending goes_on from due ending told) turns end → end.cut ≡ None → IsUncut ending told
unfolding IsUncut
uncut_ending goes_on from end turns due (Done held next) told runs uncut = tt
uncut_ending goes_on from end turns due (Cut what) told runs uncut =
    cut_stays goes_on (cut_at from due.line what) end turns (record { line = due.line; what = what }) refl refl runs uncut
uncut_ending goes_on from end turns due (Refused why) told runs uncut = by (told_cut told) runs
  where
    by : (cut : Option Failed) → Runs goes_on (after_refusal goes_on from due.line cut) turns end → cut ≡ None
    by None h = refl
    by (Some what) h = absurd (cut_stays goes_on (cut_at from due.line what) end turns (record { line = due.line; what = what }) refl refl h uncut)

uncut_turn : (goes_on : Bool) (from end : Machine) (turns : List Turn) (todo : List Due) (turn : Turn) → IsTurnOf from todo turn
    → Runs goes_on (after_first goes_on from todo turn) turns end → end.cut ≡ None → IsUncut turn.ending turn.told
uncut_turn goes_on from end turns [] turn is runs uncut = absurd is
uncut_turn goes_on from end turns (due ∷ rest) turn is runs uncut = uncut_ending goes_on from end turns due turn.ending turn.told runs uncut

has_room : (turn : Turn) → IsUncut turn.ending turn.told → HasFitted turn → HasRoom turn
unfolding IsUncut
has_room turn uncut fits = record {
  whole = λ e. subst (λ (x : Ending). IsUncut x turn.told) e uncut;
  told = λ why e none.
      let same : told_cut None ≡ None = subst (λ (x : Option PutCall). told_cut x ≡ None) none (subst (λ (x : Ending). IsUncut x turn.told) e uncut) in cc;
  fitted = fits;
}

-- what was asked was answered
IsLoadAnswered : Result (List ℕ) LoadFault → Type 0
IsLoadAnswered (Err load.Failed) = ⊥
IsLoadAnswered (Err load.Memory) = ⊥
IsLoadAnswered other = Unit {0}

IsAnswered : Asked → Type 0
IsAnswered (OnStore (Load name max answer)) = IsLoadAnswered answer
IsAnswered (OnStore (Save name bytes answer)) = answer ≡ Ok tt
IsAnswered (OnOut call) = call.answer ≡ Ok tt
IsAnswered other = Unit {0}

load_answered : (name : List ℕ) (used : List ℕ → Outcome) (answer : Result (List ℕ) LoadFault) (ending : Ending) (told : Option PutCall) → IsUncut ending told
    → ComesLoaded name used answer ending → IsLoadAnswered answer
unfolding IsUncut IsLoadAnswered
load_answered name used (Ok bytes) ending told uncut h = tt
load_answered name used (Err load.Missing) ending told uncut h = tt
load_answered name used (Err (load.TooLong reached)) ending told uncut h = tt
load_answered name used (Err load.Failed) ending told uncut h = subst (λ (x : Ending). IsUncut x told) h uncut
load_answered name used (Err load.Memory) ending told uncut h = subst (λ (x : Ending). IsUncut x told) h uncut

save_answered : (outcome : Outcome) (answer : Result (Unit {0}) SaveFault) (ending : Ending) (told : Option PutCall) → IsUncut ending told → ComesSaved outcome answer ending → answer ≡ Ok tt
unfolding IsUncut
save_answered outcome (Ok done) ending told uncut h = refl
save_answered outcome (Err save.Failed) ending told uncut h = absurd (subst (λ (x : Ending). IsUncut x told) h uncut)
save_answered outcome (Err save.Memory) ending told uncut h = absurd (subst (λ (x : Ending). IsUncut x told) h uncut)

put_answered : (outcome : Outcome) (answer : Result (Unit {0}) PutFault) (ending : Ending) (told : Option PutCall) → IsUncut ending told → ComesPut outcome answer ending → answer ≡ Ok tt
unfolding IsUncut
put_answered outcome (Ok done) ending told uncut h = refl
put_answered outcome (Err put.Failed) ending told uncut h = absurd (subst (λ (x : Ending). IsUncut x told) h uncut)
put_answered outcome (Err put.Memory) ending told uncut h = absurd (subst (λ (x : Ending). IsUncut x told) h uncut)

goes_answered : (plan : Plan) (asked : Asked) (ending : Ending) (told : Option PutCall) → IsUncut ending told → Goes plan asked ending → IsAnswered asked
unfolding IsAnswered
goes_answered plan Nothing ending told uncut h = tt
goes_answered plan (OnInput calls) ending told uncut h = tt
goes_answered (Loads file used) (OnStore (Load name max answer)) ending told uncut h = load_answered file used answer ending told uncut h.2
goes_answered (Saves file sent outcome) (OnStore (Save name bytes answer)) ending told uncut h = save_answered outcome answer ending told uncut h.2
goes_answered (Puts reply outcome) (OnOut call) ending told uncut h = put_answered outcome call.answer ending told uncut h.1
goes_answered (Quiet outcome) (OnStore (Load name max answer)) ending told uncut h = absurd h
goes_answered (Quiet outcome) (OnStore (Save name bytes answer)) ending told uncut h = absurd h
goes_answered (Quiet outcome) (OnOut call) ending told uncut h = absurd h
goes_answered (Loads file used) (OnStore (Save name bytes answer)) ending told uncut h = absurd h
goes_answered (Loads file used) (OnOut call) ending told uncut h = absurd h
goes_answered (Saves file sent outcome) (OnStore (Load name max answer)) ending told uncut h = absurd h
goes_answered (Saves file sent outcome) (OnOut call) ending told uncut h = absurd h
goes_answered (Puts reply outcome) (OnStore (Load name max answer)) ending told uncut h = absurd h
goes_answered (Puts reply outcome) (OnStore (Save name bytes answer)) ending told uncut h = absurd h
goes_answered (Takes used) (OnStore (Load name max answer)) ending told uncut h = absurd h
goes_answered (Takes used) (OnStore (Save name bytes answer)) ending told uncut h = absurd h
goes_answered (Takes used) (OnOut call) ending told uncut h = absurd h

turn_answered : (machine : Machine) (todo : List Due) (turn : Turn) → IsUncut turn.ending turn.told → IsTurnOf machine todo turn → IsAnswered turn.asked
unfolding IsAnswered
turn_answered machine [] turn uncut is = absurd is
turn_answered machine (due ∷ rest) turn uncut is = by is.0
  where
    by : Steps (WorkPlans machine.held due.work) turn.asked turn.ending → IsAnswered turn.asked
    by (by_plan plan p g) = goes_answered plan turn.asked turn.ending turn.told uncut g
    by (no_memory a e) = subst IsAnswered (sym a) tt

-- over the same files the same load is answered the same
same_load : (file : Option (List ℕ)) (max : ℕ) (one other : Result (List ℕ) LoadFault) → IsLoadAnswered one → IsLoadAnswered other → Tells file max one → Tells file max other
    → IsLoadWithin max one → IsLoadWithin max other → one ≡ other
unfolding IsLoadAnswered
same_load file max (Ok bytes) (Ok others) a b h k w v = cc
same_load file max (Ok bytes) (Err load.Missing) a b h k w v = cc
same_load file max (Ok bytes) (Err (load.TooLong reached)) a b h (longer, is, long) w v =
    let equal : bytes ≡ longer = cc in absurd (omega (arith, long, w, ap length equal))
same_load file max (Ok bytes) (Err load.Failed) a b h k w v = absurd b
same_load file max (Ok bytes) (Err load.Memory) a b h k w v = absurd b
same_load file max (Err load.Missing) (Ok others) a b h k w v = cc
same_load file max (Err load.Missing) (Err load.Missing) a b h k w v = refl
same_load file max (Err load.Missing) (Err (load.TooLong reached)) a b h (longer, is, long) w v = cc
same_load file max (Err load.Missing) (Err load.Failed) a b h k w v = absurd b
same_load file max (Err load.Missing) (Err load.Memory) a b h k w v = absurd b
same_load file max (Err (load.TooLong reached)) (Ok others) a b (longer, is, long) k w v =
    let equal : others ≡ longer = cc in absurd (omega (arith, long, v, ap length equal))
same_load file max (Err (load.TooLong reached)) (Err load.Missing) a b (longer, is, long) k w v = cc
same_load file max (Err (load.TooLong reached)) (Err (load.TooLong again)) a b h k w v = ap (λ (n : ℕ). Err (load.TooLong n)) (w ∙ sym v)
same_load file max (Err (load.TooLong reached)) (Err load.Failed) a b h k w v = absurd b
same_load file max (Err (load.TooLong reached)) (Err load.Memory) a b h k w v = absurd b
same_load file max (Err load.Failed) other a b h k w v = absurd a
same_load file max (Err load.Memory) other a b h k w v = absurd a

-- what a turn leaves of the files
Leaves : Files → Asked → Files → Type 0
Leaves files (OnStore call) later = FilesGo files call later
Leaves files other later = later ≡ files

Within : Asked → Type 0
Within (OnStore call) = IsStoreWithin call
Within other = Unit {0}

first_leaves : (files last : Files) (asked : Asked) (more : List StoreCall) → Follows FilesGo files last (on_store asked ++ more)
    → (later : Files) × Leaves files asked later × Follows FilesGo later last more
unfolding Leaves
first_leaves files last Nothing more h = (files, refl, h)
first_leaves files last (OnStore call) more h = h
first_leaves files last (OnOut call) more h = (files, refl, h)
first_leaves files last (OnInput calls) more h = (files, refl, h)

first_within : (asked : Asked) (more : List StoreCall) → AllByRecursion IsStoreWithin (on_store asked ++ more) → Within asked × AllByRecursion IsStoreWithin more
unfolding Within
first_within Nothing more h = (tt, h)
first_within (OnStore call) more h = h
first_within (OnOut call) more h = (tt, h)
first_within (OnInput calls) more h = (tt, h)

same_answers : (files later last : Files) (one other : Asked) → IsAnswered one → IsAnswered other → Leaves files one later → Leaves files other last → Within one → Within other
    → TakesAlike (on_input one) (on_input other) → AnswersAlike one other
unfolding IsAnswered Leaves Within
same_answers files later last Nothing Nothing a b h k w v takes = tt
same_answers files later last Nothing (OnStore call) a b h k w v takes = tt
same_answers files later last Nothing (OnOut call) a b h k w v takes = tt
same_answers files later last Nothing (OnInput calls) a b h k w v takes = tt
same_answers files later last (OnStore call) Nothing a b h k w v takes = tt
same_answers files later last (OnStore (Load name max answer)) (OnStore (Load name' max' answer')) a b h k w v takes =
    λ n m.
    same_load (file_at files name') max' answer answer' a b
    (subst (λ (x : ℕ). Tells (file_at files name') x answer) m (subst (λ (x : List ℕ). Tells (file_at files x) max answer) n h.1)) k.1
    (subst (λ (x : ℕ). IsLoadWithin x answer) m w) v
same_answers files later last (OnStore (Load name max answer)) (OnStore (Save name' bytes answer')) a b h k w v takes = tt
same_answers files later last (OnStore (Save name bytes answer)) (OnStore (Load name' max' answer')) a b h k w v takes = tt
same_answers files later last (OnStore (Save name bytes answer)) (OnStore (Save name' bytes' answer')) a b h k w v takes = λ n m. a ∙ sym b
same_answers files later last (OnStore call) (OnOut other) a b h k w v takes = tt
same_answers files later last (OnStore call) (OnInput calls) a b h k w v takes = tt
same_answers files later last (OnOut call) Nothing a b h k w v takes = tt
same_answers files later last (OnOut call) (OnStore other) a b h k w v takes = tt
same_answers files later last (OnOut call) (OnOut other) a b h k w v takes = λ p. a ∙ sym b
same_answers files later last (OnOut call) (OnInput calls) a b h k w v takes = tt
same_answers files later last (OnInput calls) Nothing a b h k w v takes = tt
same_answers files later last (OnInput calls) (OnStore other) a b h k w v takes = tt
same_answers files later last (OnInput calls) (OnOut other) a b h k w v takes = tt
same_answers files later last (OnInput calls) (OnInput others) a b h k w v takes = takes

-- and leaves the same files
same_files : (files later last : Files) (asked : Asked) → IsAnswered asked → Leaves files asked later → Leaves files asked last → later ≡ last
unfolding IsAnswered Leaves
same_files files later last Nothing a h k = h ∙ sym k
same_files files later last (OnStore (Load name max answer)) a h k = h.0 ∙ sym k.0
same_files files later last (OnStore (Save name bytes (Ok done))) a h k = h ∙ sym k
same_files files later last (OnStore (Save name bytes (Err fault))) a h k = cc
same_files files later last (OnOut call) a h k = h ∙ sym k
same_files files later last (OnInput calls) a h k = h ∙ sym k

-- the lines of refusals
put_whole : (answer : Result (Unit {0}) PutFault) → told_cut (Some (record { piece = []; answer = answer })) ≡ None → answer ≡ Ok tt
put_whole (Ok done) h = refl
put_whole (Err put.Failed) h = cc
put_whole (Err put.Memory) h = cc

told_whole : (line : ℕ) (ending : Ending) (call : PutCall) → IsUncut ending (Some call) → IsTold line ending (Some call) → call.answer ≡ Ok tt
unfolding IsUncut
told_whole line (Done held next) call uncut h = cc
told_whole line (Cut what) call uncut h = absurd uncut
told_whole line (Refused why) call uncut h = put_whole call.answer uncut

same_lines : (line : ℕ) (one other : Ending) (told telling : Option PutCall) → IsUncut one told → IsUncut other telling → IsTold line one told → IsTold line other telling → LinesAlike told telling
same_lines line one other None telling u v h k = tt
same_lines line one other (Some call) None u v h k = tt
same_lines line one other (Some call) (Some same) u v h k = λ p. told_whole line one call u h ∙ sym (told_whole line other same v k)

turn_lines : (machine : Machine) (todo : List Due) (one other : Turn) → IsUncut one.ending one.told → IsUncut other.ending other.told → IsTurnOf machine todo one → IsTurnOf machine todo other
    → LinesAlike one.told other.told
turn_lines machine [] one other u v h k = absurd h
turn_lines machine (due ∷ rest) one other u v h k = same_lines due.line one.ending other.ending one.told other.told u v h.1 k.1

-- takes in front of the same ones, and after them
takes_front : (ones others more less : List TakeCall) → TakesAlike (ones ++ more) (others ++ less) → TakesAlike ones others
takes_front [] [] more less h = tt
takes_front [] (other ∷ others) more less h = tt
takes_front (one ∷ ones) [] more less h = tt
takes_front (one ∷ ones) (other ∷ others) more less h = (h.0, takes_front ones others more less h.1)

takes_behind : (ones more less : List TakeCall) → TakesAlike (ones ++ more) (ones ++ less) → TakesAlike more less
takes_behind [] more less h = h
takes_behind (one ∷ ones) more less h = takes_behind ones more less h.1

pub told_run : Once → (goes_on : Bool) (from end last : Machine) (files later left : Files) (one other : List Turn) → Runs goes_on from one end → Runs goes_on from other last
    → end.todo ≡ [] → last.todo ≡ [] → end.cut ≡ None → last.cut ≡ None → AllByRecursion HasFitted one → AllByRecursion HasFitted other → Follows FilesGo files later (store_calls one) → Follows FilesGo files left (store_calls other)
    → AllByRecursion IsStoreWithin (store_calls one) → AllByRecursion IsStoreWithin (store_calls other) → TakesAlike (input_calls one) (input_calls other) → one ≡ other
told_run law goes_on from end last files later left [] [] h k none nothing c d a b went gone w v takes = refl
told_run law goes_on from end last files later left [] (turn ∷ other) h k none nothing c d a b went gone w v takes = absurd (ended_run from end turn h none k.0)
told_run law goes_on from end last files later left (turn ∷ one) [] h k none nothing c d a b went gone w v takes = absurd (ended_run from last turn k nothing h.0)
told_run law goes_on from end last files later left (turn ∷ one) (same ∷ other) h k none nothing c d a b went gone w v takes =
    let u = uncut_turn goes_on from end one from.todo turn h.0 h.1 c in
    let t = uncut_turn goes_on from last other from.todo same k.0 k.1 d in
    let first = first_leaves files later turn.asked (store_calls one) went in
    let second = first_leaves files left same.asked (store_calls other) gone in
    let within = first_within turn.asked (store_calls one) w in
    let bounded = first_within same.asked (store_calls other) v in
    let answered = turn_answered from from.todo turn u h.0 in
    let given = turn_answered from from.todo same t k.0 in
    let turns : turn ≡ same =
    same_turn law from from.todo turn same h.0 k.0 (has_room turn u a.0) (has_room same t b.0)
    (same_answers files first.0 second.0 turn.asked same.asked answered given first.1 second.1 within.0 bounded.0
    (takes_front (on_input turn.asked) (on_input same.asked) (input_calls one) (input_calls other) takes)) (turn_lines from from.todo turn same u t h.0 k.0) in
    let mid : first.0 ≡ second.0 =
    same_files files first.0 second.0 same.asked given (subst (λ (x : Turn). Leaves files x.asked first.0) turns first.1) second.1 in
    ap (λ (x : Turn). x ∷ one) turns
    ∙ ap (λ (rest : List Turn). same ∷ rest) (told_run law goes_on (after goes_on from same) end last second.0 later left one other
    (subst (λ (x : Turn). Runs goes_on (after goes_on from x) one end) turns h.1) k.1 none nothing c d a.1 b.1
    (subst (λ (x : Files). Follows FilesGo x later (store_calls one)) mid first.2) second.2 within.1 bounded.1
    (takes_behind (on_input same.asked) (input_calls one) (input_calls other)
    (subst (λ (x : Turn). TakesAlike (on_input x.asked ++ input_calls one) (on_input same.asked ++ input_calls other)) turns takes)))
