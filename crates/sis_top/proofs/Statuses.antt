-- What each status of a call says of the counts.
use Rattle.std.proofs.Common.{◌≡◌, ℕ, List, ◌++◌, refl, ap, subst, ◌∙◌, inl, inr}
use Rattle.std.specs.Prelude.{◌⊎◌, Bool, false, Option, Some, None, Result, Ok, Err}
use Rattle.std.proofs.lemmas.List.{append-nil}
use Rattle.sis_outside.specs.Calls.{StoreCall, TakeCall, PutCall, any_of, store_failed, take_failed, put_failed, Counted}
use Rattle.sis_outside.specs.declared.sink.PutFault.{PutFault}
use Rattle.sis_outside.specs.declared.sink.PutFault.TheVariants as put
use Rattle.sis_top.specs.Asked.{TheOptions, TheScript}
use Rattle.sis_session.specs.Plan.{on_store, on_input, on_out}
use Rattle.sis_session.specs.declared.refusal.Failed.{Failed}
use Rattle.sis_session.specs.declared.refusal.Failed.TheVariants as failed
use Rattle.sis_top.specs.Machine.{begun}
use Rattle.sis_top.specs.Call.{Ends, EndsWith, IsCall, IsRun, err_calls, failure_line, input_calls, out_calls, puts_of, status_cut, status_of, store_calls, unless_memory, usage_line}
use Rattle.sis_top.specs.Laws.{HasEnding}
use Rattle.sis_top.specs.declared.status.Status.{Status}
use Rattle.sis_top.specs.declared.status.Status.TheVariants.{Usage, Memory}
use Rattle.sis_top.specs.declared.status.Stop.{Stop}
use Rattle.sis_top.proofs.Counting.{IsUnfailed, run_unfailed, none_of}

cut_plain : (what : Failed) → HasEnding (status_cut what) → ⊥
cut_plain failed.Store p = p
cut_plain failed.Input p = p
cut_plain failed.Out p = p
cut_plain failed.Err p = p
cut_plain failed.Memory p = p

unless_plain : (ends : Status) (answer : Result (Unit {0}) PutFault) → (HasEnding ends → ⊥) → HasEnding (unless_memory ends answer) → ⊥
unless_plain ends (Ok done) cut p = cut p
unless_plain ends (Err put.Failed) cut p = cut p
unless_plain ends (Err put.Memory) cut p = p

ends_with_plain : (line : List ℕ) (ends : Status) (last : Option PutCall) (status : Status) → (HasEnding ends → ⊥) → EndsWith line ends last status → HasEnding status → ⊥
ends_with_plain line ends None status cut e p = subst HasEnding e p
ends_with_plain line ends (Some call) status cut e p = unless_plain ends call.answer cut (subst HasEnding e.1 p)

ends_plain : (cut : Option Stop) (refused : Bool) (last : Option PutCall) (status : Status) → Ends cut refused last status → HasEnding status → (cut ≡ None) × (last ≡ None) × (status ≡ status_of refused)
ends_plain None refused last status ends p = (refl, ends.0, ends.1)
ends_plain (Some stop) refused last status ends p = absurd (ends_with_plain (failure_line stop) (status_cut stop.what) last status (cut_plain stop.what) ends p)

-- no call of an object failed
pub record NoneFailed (store : List StoreCall → Type 0) (input : List TakeCall → Type 0) (out err : List PutCall → Type 0) : Type 0 where
  pub stores : List StoreCall
  pub store_went : store stores
  pub store_none : any_of store_failed stores ≡ false
  pub takes : List TakeCall
  pub input_went : input takes
  pub input_none : any_of take_failed takes ≡ false
  pub outs : List PutCall
  pub out_went : out outs
  pub out_none : any_of put_failed outs ≡ false
  pub errs : List PutCall
  pub err_went : err errs
  pub err_none : any_of put_failed errs ≡ false

run_plain : (goes_on : Bool) (script : TheScript) (store : List StoreCall → Type 0) (input : List TakeCall → Type 0) (out err : List PutCall → Type 0) (status : Status)
    → IsRun goes_on script store input out err status → HasEnding status → NoneFailed store input out err
run_plain goes_on script store input out err status run plain =
    let ended = ends_plain run.end.cut run.end.refused run.last status run.ends plain in
    let none = run_unfailed goes_on (begun script) run.end run.turns run.runs refl ended.0 in record {
      stores = store_calls run.turns;
      store_went = run.store_went;
      store_none = none_of store_failed (λ turn. on_store turn.asked) IsUnfailed (λ turn u. u.store) run.turns none;
      takes = input_calls run.turns;
      input_went = run.input_went;
      input_none = none_of take_failed (λ turn. on_input turn.asked) IsUnfailed (λ turn u. u.input) run.turns none;
      outs = out_calls run.turns;
      out_went = run.out_went;
      out_none = none_of put_failed (λ turn. on_out turn.asked) IsUnfailed (λ turn u. u.out) run.turns none;
      errs = err_calls run.turns;
      err_went = subst err (ap (λ (last : Option PutCall). err_calls run.turns ++ puts_of last) ended.1 ∙ append-nil (err_calls run.turns)) run.err_went;
      err_none = none_of put_failed (λ turn. puts_of turn.told) IsUnfailed (λ turn u. u.err) run.turns none;
    }

usage_plain : HasEnding Usage → ⊥
usage_plain p = p

memory_plain : HasEnding Memory → ⊥
memory_plain p = p

unused_plain : (last : Option PutCall) (status : Status) → EndsWith usage_line Usage last status ⊎ EndsWith (failure_line (record { line = 0; what = failed.Memory })) Memory last status
    → HasEnding status → ⊥
unused_plain last status (inl e) p = ends_with_plain usage_line Usage last status usage_plain e p
unused_plain last status (inr e) p = ends_with_plain (failure_line (record { line = 0; what = failed.Memory })) Memory last status memory_plain e p

pub call_plain : (asked : Option TheOptions) (store : List StoreCall → Type 0) (input : List TakeCall → Type 0) (out err : List PutCall → Type 0) (status : Status)
    → IsCall asked store input out err status → HasEnding status → NoneFailed store input out err
unfolding IsCall
call_plain None store input out err status call plain = absurd (unused_plain call.last status call.ends plain)
call_plain (Some options) store input out err status call plain = run_plain options.keep options.script store input out err status call plain

pub same_count : (rose : Bool) (before now : ℕ) → rose ≡ false → Counted rose before now → now ≡ before
same_count rose before now e h = subst (λ (r : Bool). Counted r before now) e h
