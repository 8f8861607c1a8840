-- What a fault says of the counts.
use Rattle.std.proofs.Common.{◌≡◌, ℕ, List, [], ◌∷◌, ◌++◌, refl, sym, ap, subst, ◌∙◌, inl, inr, arith}
use Rattle.std.specs.Prelude.{◌⊎◌, Bool, true, false, ◌||◌, Option, Some, None, Result, Ok, Err}
use Rattle.sis_outside.specs.Calls.{StoreCall, TakeCall, PutCall, any_of, store_failed, take_failed, put_failed, Counted}
use Rattle.sis_outside.specs.Counts.{Rose}
use Rattle.sis_outside.specs.Sure.{NeverFails}
use Rattle.sis_outside.specs.declared.sink.PutFault.{PutFault}
use Rattle.sis_outside.specs.declared.sink.PutFault.TheVariants as put
use Rattle.sis_top.specs.Asked.{TheOptions, TheScript}
use Rattle.sis_session.specs.declared.refusal.Failed.{Failed}
use Rattle.sis_session.specs.declared.refusal.Failed.TheVariants as failed
use Rattle.sis_top.specs.Machine.{Turn, begun}
use Rattle.sis_top.specs.Call.{CountOf, Ends, EndsWith, IsCall, IsRun, NamesFault, err_calls, failure_line, input_calls, out_calls, puts_of, status_cut, status_of, store_calls, unless_memory, usage_line}
use Rattle.sis_top.specs.declared.status.Status.{Status}
use Rattle.sis_top.specs.declared.status.Status.TheVariants.{Usage, Fault, Memory}
use Rattle.sis_top.specs.declared.status.Stop.{Stop}
use Rattle.sis_top.proofs.Counting.{any_both}
use Rattle.sis_top.proofs.Rising.{SomeFailed, run_failed}

unless_fault : (ends : Status) (answer : Result (Unit {0}) PutFault) → (ends ≡ Fault → ⊥) → unless_memory ends answer ≡ Fault → ⊥
unless_fault ends (Ok done) not e = not e
unless_fault ends (Err put.Failed) not e = not e
unless_fault ends (Err put.Memory) not e = cc

ends_fault : (line : List ℕ) (ends : Status) (last : Option PutCall) (status : Status) → (ends ≡ Fault → ⊥) → EndsWith line ends last status → status ≡ Fault → ⊥
ends_fault line ends None status not e f = cc
ends_fault line ends (Some call) status not e f = unless_fault ends call.answer not (sym e.1 ∙ f)

usage_fault : Usage ≡ Fault → ⊥
usage_fault e = cc

memory_fault : Memory ≡ Fault → ⊥
memory_fault e = cc

ran_fault : (refused : Bool) (status : Status) → status ≡ status_of refused → status ≡ Fault → ⊥
ran_fault true status e f = cc
ran_fault false status e f = cc

any_first : {C : Type 0} (is : C → Bool) (first second : List C) → any_of is first ≡ true → any_of is (first ++ second) ≡ true
any_first is first second e = any_both is first second ∙ ap (λ (b : Bool). b || any_of is second) e

-- what is counted where a call of each object failed
module _ (store : List StoreCall → Type 0) (input : List TakeCall → Type 0) (out err : List PutCall → Type 0) (A B C D : Type 0)
    (of_store : (calls : List StoreCall) → store calls → any_of store_failed calls ≡ true → A)
    (of_input : (calls : List TakeCall) → input calls → any_of take_failed calls ≡ true → B)
    (of_out : (calls : List PutCall) → out calls → any_of put_failed calls ≡ true → C)
    (of_err : (calls : List PutCall) → err calls → any_of put_failed calls ≡ true → D) where
  counted_of : (turns : List Turn) (more : List PutCall) (what : Failed) → store (store_calls turns) → input (input_calls turns) → out (out_calls turns)
      → err (err_calls turns ++ more) → SomeFailed what turns → (what ≡ failed.Memory → ⊥) → CountOf A B C D what
  counted_of turns more failed.Store s i o e some not = of_store (store_calls turns) s some
  counted_of turns more failed.Input s i o e some not = of_input (input_calls turns) i some
  counted_of turns more failed.Out s i o e some not = of_out (out_calls turns) o some
  counted_of turns more failed.Err s i o e some not = of_err (err_calls turns ++ more) e (any_first put_failed (err_calls turns) more some)
  counted_of turns more failed.Memory s i o e some not = absurd (not refl)

  not_memory : (what : Failed) (line : List ℕ) (call : PutCall) (status : Status) → EndsWith line (status_cut what) (Some call) status → status ≡ Fault → what ≡ failed.Memory → ⊥
  not_memory what line call status ends f is =
      ends_fault line Memory (Some call) status memory_fault (subst (λ (w : Failed). EndsWith line (status_cut w) (Some call) status) is ends) f

  last_names : (turns : List Turn) (stop : Stop) (last : Option PutCall) (status : Status) → store (store_calls turns) → input (input_calls turns) → out (out_calls turns)
      → err (err_calls turns ++ puts_of last) → SomeFailed stop.what turns → EndsWith (failure_line stop) (status_cut stop.what) last status → status ≡ Fault
      → NamesFault (CountOf A B C D) err
  last_names turns stop None status s i o e some ends f = cc
  last_names turns stop (Some call) status s i o e some ends f = record {
    stop = stop;
    counted = counted_of turns (call ∷ []) stop.what s i o e some (not_memory stop.what (failure_line stop) call status ends f);
    lines = err_calls turns;
    last = call;
    went = e;
    names = ends.0;
  }

  run_fault : (goes_on : Bool) (script : TheScript) (status : Status) (run : IsRun goes_on script store input out err status) (cut : Option Stop) → run.end.cut ≡ cut
      → Ends cut run.end.refused run.last status → status ≡ Fault → NamesFault (CountOf A B C D) err
  run_fault goes_on script status run None e ends f = absurd (ran_fault run.end.refused status ends.1 f)
  run_fault goes_on script status run (Some stop) e ends f =
      last_names run.turns stop run.last status run.store_went run.input_went run.out_went run.err_went
      (run_failed goes_on (begun script) run.end run.turns stop run.runs refl e) ends f

unused_fault : (last : Option PutCall) (status : Status) → EndsWith usage_line Usage last status ⊎ EndsWith (failure_line (record { line = 0; what = failed.Memory })) Memory last status → status ≡ Fault → ⊥
unused_fault last status (inl e) f = ends_fault usage_line Usage last status usage_fault e f
unused_fault last status (inr e) f = ends_fault (failure_line (record { line = 0; what = failed.Memory })) Memory last status memory_fault e f

pub call_fault : (asked : Option TheOptions) (store : List StoreCall → Type 0) (input : List TakeCall → Type 0) (out err : List PutCall → Type 0) (status : Status) → {A B C D : Type 0}
    → ((calls : List StoreCall) → store calls → any_of store_failed calls ≡ true → A) → ((calls : List TakeCall) → input calls → any_of take_failed calls ≡ true → B)
    → ((calls : List PutCall) → out calls → any_of put_failed calls ≡ true → C) → ((calls : List PutCall) → err calls → any_of put_failed calls ≡ true → D)
    → IsCall asked store input out err status → status ≡ Fault → NamesFault (CountOf A B C D) err
unfolding IsCall
call_fault None store input out err status a b c d call f = absurd (unused_fault call.last status call.ends f)
call_fault (Some options) store input out err status {A} {B} {C} {D} a b c d call f =
    run_fault store input out err A B C D a b c d options.keep options.script status call call.end.cut refl call.ends f

pub rose_by : (rose : Bool) (before now : ℕ) → rose ≡ true → Counted rose before now → Rose before now
rose_by rose before now e h = subst (λ (r : Bool). Counted r before now) e h

-- the status Usage means words that are not accepted
usage_cut : (what : Failed) → status_cut what ≡ Usage → ⊥
usage_cut failed.Store e = cc
usage_cut failed.Input e = cc
usage_cut failed.Out e = cc
usage_cut failed.Err e = cc
usage_cut failed.Memory e = cc

unless_usage : (ends : Status) (answer : Result (Unit {0}) PutFault) → (ends ≡ Usage → ⊥) → unless_memory ends answer ≡ Usage → ⊥
unless_usage ends (Ok done) not e = not e
unless_usage ends (Err put.Failed) not e = not e
unless_usage ends (Err put.Memory) not e = cc

ran_usage : (refused : Bool) (status : Status) → status ≡ status_of refused → status ≡ Usage → ⊥
ran_usage true status e f = cc
ran_usage false status e f = cc

ends_usage : (cut : Option Stop) (refused : Bool) (last : Option PutCall) (status : Status) → Ends cut refused last status → status ≡ Usage → ⊥
ends_usage None refused last status e f = ran_usage refused status e.1 f
ends_usage (Some stop) refused None status e f = cc
ends_usage (Some stop) refused (Some call) status e f = unless_usage (status_cut stop.what) call.answer (usage_cut stop.what) (sym e.1 ∙ f)

pub call_usage : (asked : Option TheOptions) (store : List StoreCall → Type 0) (input : List TakeCall → Type 0) (out err : List PutCall → Type 0) (status : Status)
    → IsCall asked store input out err status → status ≡ Usage → asked ≡ None
unfolding IsCall
call_usage None store input out err status call f = refl
call_usage (Some options) store input out err status call f = absurd (ends_usage call.end.cut call.end.refused call.last status call.ends f)

-- a count that is 0 of each object of a kind does not rise
pub never_rises : {X : Type 0} (faults : X → ℕ) → NeverFails faults → (before now : X) → Rose (faults before) (faults now) → ⊥
never_rises faults never before now rose = zero_rises (faults before) (faults now) (never before) (never now) rose
  where
    zero_rises : (before now : ℕ) → before ≡ 0 → now ≡ 0 → Rose before now → ⊥
    zero_rises before now b n rose = omega arith

-- where no count rises, no object is named that failed
pub none_counted : {A B C D : Type 0} → (A → ⊥) → (B → ⊥) → (C → ⊥) → (D → ⊥) → (what : Failed) → CountOf A B C D what → ⊥
none_counted a b c d failed.Store h = a h
none_counted a b c d failed.Input h = b h
none_counted a b c d failed.Out h = c h
none_counted a b c d failed.Err h = d h
none_counted a b c d failed.Memory h = h
