-- How a call of the program comes of its run.
use Rattle.std.proofs.Common.{◌≡◌, ℕ, List, [], ◌∷◌, refl, sym, subst, inl, inr}
use Rattle.std.specs.Prelude.{Bool, Option, Some, None, Result, Ok, Err}
use Rattle.sis_outside.specs.declared.sink.PutFault.{PutFault}
use Rattle.sis_outside.specs.declared.sink.PutFault.TheVariants as put
use Rattle.std.proofs.lemmas.List.{append-nil}
use Rattle.sis_outside.specs.Calls.{StoreCall, TakeCall, PutCall, Follows}
use Rattle.sis_top.specs.Asked.{TheOptions, TheScript}
use Rattle.sis_session.specs.Plan.{Nothing, Cut, no_memory}
use Rattle.sis_session.specs.Keeping.{IsRefined}
use Rattle.sis_session.specs.State.{nothing_held}
use Rattle.sis_session.specs.declared.refusal.Failed.TheVariants as failed
use Rattle.sis_top.specs.Machine.{Begin, begun, cut_at}
use Rattle.sis_top.specs.Call.{Ends, EndsWith, IsCall, IsDoneBut, IsRun, err_calls, failure_line, puts_of, status_cut, status_of, unless_memory, usage_line}
use Rattle.sis_top.specs.Code.{HasEndLine, HasEnded, HasRun}
use Rattle.sis_top.specs.declared.status.Status.{Status}
use Rattle.sis_top.specs.declared.status.Status.TheVariants.{Memory, Usage}
use Rattle.sis_top.specs.declared.status.Stop.{Stop}
use Rattle.sis_top.proofs.Completing.{Served}
use Rattle.sis_top.proofs.Faithful.{Kept, Saved, Put, turns_faithful}
use Rattle.sis_top.proofs.Serving.{run_served}
use Rattle.sis_top.proofs.Turning.{follows_joined}

-- how a run ends, from what its machine says
ends_by : (cut other : Option Stop) (refused same : Bool) (last : Option PutCall) (status : Status) → cut ≡ other → refused ≡ same → Ends other same last status → Ends cut refused last status
ends_by cut other refused same last status e d h = subst (λ (c : Option Stop). Ends c refused last status) (sym e) (subst (λ (r : Bool). Ends other r last status) (sym d) h)

-- a run that was not cut short
pub run_called : Kept → Saved → Put → Served → IsRefined None nothing_held → (goes_on : Bool) (script : TheScript) (store : List StoreCall → Type 0) (input : List TakeCall → Type 0)
    (out err : List PutCall → Type 0) (refused : Bool) → HasRun goes_on (begun script) store input out err (HasEnded (Ok refused)) → IsRun goes_on script store input out err (status_of refused)
run_called kept saved put law refined goes_on script store input out err refused run =
    let ends = ends_by run.to.cut None run.to.refused refused None (status_of refused) run.lands.2 run.lands.1 (refl, refl) in record {
      turns = run.turns;
      end = run.to;
      runs = run.runs;
      finished = run.lands.0;
      last = None;
      ends = ends;
      store_went = run.store_went;
      input_went = run.input_went;
      out_went = run.out_went;
      err_went = subst err (sym (append-nil (err_calls run.turns))) run.err_went;
      faithful = turns_faithful kept saved put goes_on (begun script) run.to run.turns run.runs refined;
      served = run_served law goes_on script run.turns run.to None (status_of refused) run.runs ends;
    }

-- a run that was cut short, and its last line
pub run_stopped : {E : Type 0} → Kept → Saved → Put → Served → IsRefined None nothing_held → (goes_on : Bool) (script : TheScript) (store : List StoreCall → Type 0) (input : List TakeCall → Type 0)
    (out : List PutCall → Type 0) (errs : E → PutCall → E → Type 0) (old mid new : E) (stop : Stop) (status : Status)
    → HasRun goes_on (begun script) store input out (Follows errs old mid) (HasEnded (Err stop)) → HasEndLine (failure_line stop) (status_cut stop.what) (Follows errs mid new) status
    → IsRun goes_on script store input out (Follows errs old new) status
run_stopped kept saved put law refined goes_on script store input out errs old mid new stop status run line =
    let ends = ends_by run.to.cut (Some stop) run.to.refused run.to.refused line.last status run.lands.1 refl line.ended in record {
      turns = run.turns;
      end = run.to;
      runs = run.runs;
      finished = run.lands.0;
      last = line.last;
      ends = ends;
      store_went = run.store_went;
      input_went = run.input_went;
      out_went = run.out_went;
      err_went = follows_joined errs old mid new (err_calls run.turns) (puts_of line.last) run.err_went line.went;
      faithful = turns_faithful kept saved put goes_on (begun script) run.to run.turns run.runs refined;
      served = run_served law goes_on script run.turns run.to line.last status run.runs ends;
    }

line_wanting : (line : List ℕ) (last : Option PutCall) (status : Status) → EndsWith line Memory last status → IsDoneBut status
line_wanting line None status e = inr (inr e)
line_wanting line (Some call) status e = by call.answer e.1
  where
    by : (answer : Result (Unit {0}) PutFault) → status ≡ unless_memory Memory answer → IsDoneBut status
    by (Ok done) d = inr (inr d)
    by (Err put.Failed) d = inr (inr d)
    by (Err put.Memory) d = inr (inr d)

-- memory ran out before the script was begun
run_wanting : (goes_on : Bool) (script : TheScript) (store : List StoreCall → Type 0) (input : List TakeCall → Type 0) (out err : List PutCall → Type 0) (status : Status)
    → store [] → input [] → out [] → HasEndLine (failure_line (record { line = 0; what = failed.Memory })) Memory err status → IsRun goes_on script store input out err status
run_wanting goes_on script store input out err status stored took sent line = record {
  turns = record { asked = Nothing; ending = Cut failed.Memory; told = None } ∷ [];
  end = cut_at (begun script) 0 failed.Memory;
  runs = ((no_memory refl refl, refl), refl);
  finished = refl;
  last = line.last;
  ends = line.ended;
  store_went = stored;
  input_went = took;
  out_went = sent;
  err_went = line.went;
  faithful = (record { saved = λ name bytes answer e. cc; put = λ depth op call w writing e. cc; areas = λ depth op call w mapping e. cc }, tt);
  served = λ all. line_wanting (failure_line (record { line = 0; what = failed.Memory })) line.last status line.ended;
}

pub called_wanting : (asked : Option TheOptions) (store : List StoreCall → Type 0) (input : List TakeCall → Type 0) (out err : List PutCall → Type 0) (status : Status)
    → store [] → input [] → out [] → HasEndLine (failure_line (record { line = 0; what = failed.Memory })) Memory err status → IsCall asked store input out err status
unfolding IsCall
called_wanting None store input out err status stored took sent line =
    record { last = line.last; ends = inr line.ended; store_went = stored; input_went = took; out_went = sent; err_went = line.went }
called_wanting (Some options) store input out err status stored took sent line = run_wanting options.keep options.script store input out err status stored took sent line

pub called_unused : (asked : Option TheOptions) (store : List StoreCall → Type 0) (input : List TakeCall → Type 0) (out err : List PutCall → Type 0) (status : Status)
    → asked ≡ None → store [] → input [] → out [] → HasEndLine usage_line Usage err status → IsCall asked store input out err status
unfolding IsCall
called_unused asked store input out err status e stored took sent line =
    subst (λ (o : Option TheOptions). IsCall o store input out err status) (sym e)
    (record { last = line.last; ends = inl line.ended; store_went = stored; input_went = took; out_went = sent; err_went = line.went })

pub called_run : (asked : Option TheOptions) (options : TheOptions) (store : List StoreCall → Type 0) (input : List TakeCall → Type 0) (out err : List PutCall → Type 0) (status : Status)
    → asked ≡ Some options → IsRun options.keep options.script store input out err status → IsCall asked store input out err status
unfolding IsCall
called_run asked options store input out err status e run = subst (λ (o : Option TheOptions). IsCall o store input out err status) (sym e) run

-- what is said of each object may be more
pub called_more : (asked : Option TheOptions) (store store' : List StoreCall → Type 0) (input input' : List TakeCall → Type 0) (out out' err err' : List PutCall → Type 0) (status : Status)
    → ((calls : List StoreCall) → store calls → store' calls) → ((calls : List TakeCall) → input calls → input' calls)
    → ((calls : List PutCall) → out calls → out' calls) → ((calls : List PutCall) → err calls → err' calls)
    → IsCall asked store input out err status → IsCall asked store' input' out' err' status
unfolding IsCall
called_more None store store' input input' out out' err err' status stored took sent told call =
    record { last = call.last; ends = call.ends; store_went = stored [] call.store_went; input_went = took [] call.input_went; out_went = sent [] call.out_went; err_went = told (puts_of call.last) call.err_went }
called_more (Some options) store store' input input' out out' err err' status stored took sent told call = record {
  turns = call.turns;
  end = call.end;
  runs = call.runs;
  finished = call.finished;
  last = call.last;
  ends = call.ends;
  store_went = stored _ call.store_went;
  input_went = took _ call.input_went;
  out_went = sent _ call.out_went;
  err_went = told _ call.err_went;
  faithful = call.faithful;
  served = call.served;
}
