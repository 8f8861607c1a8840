-- A call whose turns are served is done, unless something fails or memory runs out.
use Rattle.std.proofs.Common.{◌≡◌, ℕ, List, [], ◌∷◌, ◌++◌, refl, sym, ap, subst, ◌∙◌, inl, inr}
use Rattle.std.specs.Prelude.{◌⊎◌, Bool, false, Option, Some, None, Result, Ok, Err, flat_map}
use Rattle.std.proofs.lemmas.List.{append_assoc}
use Rattle.std.proofs.lemmas.Grind.{flat_map-append}
use Rattle.sis_outside.specs.Calls.{StoreCall, TakeCall, PutCall, FilesGo, LeftGoes, Follows}
use Rattle.sis_outside.specs.Files.{Files}
use Rattle.sis_outside.specs.declared.sink.PutFault.{PutFault}
use Rattle.sis_outside.specs.declared.sink.PutFault.TheVariants as put
use Rattle.sis_top.specs.Asked.{TheOptions, TheScript, OnInput}
use Rattle.sis_session.specs.Plan.{on_store, on_input}
use Rattle.sis_session.specs.declared.refusal.Failed.{Failed}
use Rattle.sis_session.specs.declared.refusal.Failed.TheVariants as failed
use Rattle.sis_top.specs.Machine.{AtEach, Machine, Turn, Runs, after, begun}
use Rattle.sis_top.specs.Call.{Ends, IsCall, IsDoneBut, IsRun, input_calls, status_cut, status_of, store_calls, unless_memory}
use Rattle.sis_top.specs.Laws.{AreServed, AsksInput, Completes}
use Rattle.sis_top.specs.Served.{IsServedTurn}
use Rattle.sis_top.specs.declared.status.Status.{Status}
use Rattle.sis_top.specs.declared.status.Status.TheVariants.{Done, Fault, Memory}
use Rattle.sis_top.specs.declared.status.Stop.{Stop}
use Rattle.sis_top.proofs.Completing.{Served, run_kept}
use Rattle.sis_top.proofs.Turning.{runs_more}

follows_front : {X C : Type 0} (goes : X → C → X → Type 0) (old new : X) (first second : List C) → Follows goes old new (first ++ second) → (mid : X) × Follows goes old mid first
follows_front goes old new [] second h = (old, refl)
follows_front goes old new (call ∷ first) second (next, one, rest) = let front = follows_front goes next new first second rest in (front.0, (next, one, front.1))

-- of the calls of a run, those of its first turns
front_calls : {X C : Type 0} (goes : X → C → X → Type 0) (of : Turn → List C) (old new : X) (front : List Turn) (turn : Turn) (turns : List Turn)
    → Follows goes old new (flat_map of (front ++ turn ∷ turns)) → (mid : X) × Follows goes old mid (flat_map of (front ++ turn ∷ []))
front_calls goes of old new front turn turns h =
    follows_front goes old new (flat_map of (front ++ turn ∷ [])) (flat_map of turns)
    (subst (λ (calls : List _). Follows goes old new calls)
    (ap (λ (all : List Turn). flat_map of all) (sym (append_assoc front (turn ∷ []) turns)) ∙ flat_map-append of (front ++ turn ∷ []) turns) h)

all_served : (goes_on : Bool) (script : TheScript) (files : Files) (left : List ℕ) → AreServed goes_on script files left → (front : List Turn) (at end : Machine) (turns : List Turn)
    → Runs goes_on (begun script) front at → Runs goes_on at turns end → (later : Files) → Follows FilesGo files later (store_calls (front ++ turns))
    → (script ≡ OnInput → (rest : List ℕ) × Follows LeftGoes left rest (input_calls (front ++ turns))) → AtEach goes_on IsServedTurn at turns
all_served goes_on script files left served front at end [] ran runs later stored took = tt
all_served goes_on script files left served front at end (turn ∷ turns) ran runs later stored took = (
  served front at turn ran runs.0 (front_calls FilesGo (λ t. on_store t.asked) files later front turn turns stored)
      (λ e. let went = took e in front_calls LeftGoes (λ t. on_input t.asked) left went.0 front turn turns went.1),
  all_served goes_on script files left served (front ++ turn ∷ []) (after goes_on at turn) end turns (runs_more goes_on (begun script) at front turn ran runs.0) runs.1
      later (subst (λ (all : List Turn). Follows FilesGo files later (store_calls all)) (sym (append_assoc front (turn ∷ []) turns)) stored)
      (λ e. let went = took e in (went.0, subst (λ (all : List Turn). Follows LeftGoes left went.0 (input_calls all)) (sym (append_assoc front (turn ∷ []) turns)) went.1)),
)

cut_status : (what : Failed) (answer : Result (Unit {0}) PutFault) → (unless_memory (status_cut what) answer ≡ Fault) ⊎ (unless_memory (status_cut what) answer ≡ Memory)
cut_status what (Err put.Memory) = inr refl
cut_status failed.Store (Ok done) = inl refl
cut_status failed.Input (Ok done) = inl refl
cut_status failed.Out (Ok done) = inl refl
cut_status failed.Err (Ok done) = inl refl
cut_status failed.Memory (Ok done) = inr refl
cut_status failed.Store (Err put.Failed) = inl refl
cut_status failed.Input (Err put.Failed) = inl refl
cut_status failed.Out (Err put.Failed) = inl refl
cut_status failed.Err (Err put.Failed) = inl refl
cut_status failed.Memory (Err put.Failed) = inr refl

ends_served : (cut : Option Stop) (refused : Bool) (last : Option PutCall) (status : Status) → refused ≡ false → Ends cut refused last status → IsDoneBut status
ends_served None refused last status e ends = inl (ends.1 ∙ ap status_of e)
ends_served (Some stop) refused None status e ends = inr (inr ends)
ends_served (Some stop) refused (Some call) status e ends = by (cut_status stop.what call.answer)
  where
    by : (unless_memory (status_cut stop.what) call.answer ≡ Fault) ⊎ (unless_memory (status_cut stop.what) call.answer ≡ Memory) → (status ≡ Done) ⊎ ((status ≡ Fault) ⊎ (status ≡ Memory))
    by (inl d) = inr (inl (ends.1 ∙ d))
    by (inr d) = inr (inr (ends.1 ∙ d))

-- a run whose turns are served is done
pub run_served : Served → (goes_on : Bool) (script : TheScript) (turns : List Turn) (end : Machine) (last : Option PutCall) (status : Status) → Runs goes_on (begun script) turns end
    → Ends end.cut end.refused last status → AtEach goes_on IsServedTurn (begun script) turns → IsDoneBut status
run_served law goes_on script turns end last status runs ends all =
    ends_served end.cut end.refused last status (run_kept law goes_on (begun script) end turns runs refl all) ends

run_completes : (goes_on : Bool) (script : TheScript) (store : List StoreCall → Type 0) (input : List TakeCall → Type 0) (out err : List PutCall → Type 0) (status : Status) (files : Files) (left : List ℕ)
    → ((calls : List StoreCall) → store calls → (later : Files) × Follows FilesGo files later calls)
    → (script ≡ OnInput → (calls : List TakeCall) → input calls → (rest : List ℕ) × Follows LeftGoes left rest calls)
    → IsRun goes_on script store input out err status → AreServed goes_on script files left → IsDoneBut status
run_completes goes_on script store input out err status files left stored took run served =
    let files_went = stored (store_calls run.turns) run.store_went in
    run.served (all_served goes_on script files left served [] (begun script) run.end run.turns refl run.runs files_went.0 files_went.1
    (λ e. took e (input_calls run.turns) run.input_went))

pub call_completes : (asked : Option TheOptions) (store : List StoreCall → Type 0) (input : List TakeCall → Type 0) (out err : List PutCall → Type 0) (status : Status) (files : Files) (left : List ℕ)
    → ((calls : List StoreCall) → store calls → (later : Files) × Follows FilesGo files later calls)
    → (AsksInput asked → (calls : List TakeCall) → input calls → (rest : List ℕ) × Follows LeftGoes left rest calls)
    → IsCall asked store input out err status → Completes asked files left status
unfolding IsCall
call_completes None store input out err status files left stored took call = tt
call_completes (Some options) store input out err status files left stored took call = λ served.
    run_completes options.keep options.script store input out err status files left stored took call served
