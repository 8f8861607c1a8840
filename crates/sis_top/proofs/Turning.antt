-- Runs turn by turn, and the calls that they make.
use Rattle.std.proofs.Common.{◌≡◌, List, [], ◌∷◌, ◌++◌, refl, sym, ap, subst, ◌∙◌}
use Rattle.std.specs.Prelude.{Bool, flat_map}
use Rattle.std.proofs.lemmas.List.{append-nil}
use Rattle.std.proofs.lemmas.Grind.{flat_map-append}
use Rattle.sis_outside.specs.Calls.{StoreCall, TakeCall, PutCall, Follows}
use Rattle.sis_top.specs.Asked.{TheScript}
use Rattle.sis_session.specs.State.{nothing_held}
use Rattle.sis_session.specs.Methods.{AskedNone}
use Rattle.sis_session.specs.Plan.{Ending, on_store, on_input, on_out}
use Rattle.sis_top.specs.Machine.{Begin, Machine, Turn, IsTurn, Runs, after, begin_plan, begun}
use Rattle.sis_top.specs.Call.{err_calls, out_calls, puts_of, store_calls}
use Rattle.sis_top.specs.Code.{HasBegun, HasRun, HasSettled, HasTurned}
use Rattle.sis_top.proofs.Settling.{is_turn, turn_by}

pub runs_more : (goes_on : Bool) (from mid : Machine) (turns : List Turn) (turn : Turn) → Runs goes_on from turns mid → IsTurn mid turn
    → Runs goes_on from (turns ++ turn ∷ []) (after goes_on mid turn)
runs_more goes_on from mid [] turn h is = (subst (λ (m : Machine). IsTurn m turn) h is, ap (λ (m : Machine). after goes_on m turn) h)
runs_more goes_on from mid (first ∷ turns) turn h is = (h.0, runs_more goes_on (after goes_on from first) mid turns turn h.1 is)

pub follows_joined : {X C : Type 0} (goes : X → C → X → Type 0) (old mid new : X) (calls more : List C)
    → Follows goes old mid calls → Follows goes mid new more → Follows goes old new (calls ++ more)
follows_joined goes old mid new [] more h k = subst (λ (x : _). Follows goes x new more) h k
follows_joined goes old mid new (call ∷ calls) more (next, first, rest) k = (next, first, follows_joined goes next mid new calls more rest k)

-- the calls of one turn more
calls_more : {C : Type 0} (of : Turn → List C) (turns : List Turn) (turn : Turn) → flat_map of turns ++ of turn ≡ flat_map of (turns ++ turn ∷ [])
calls_more of turns turn = ap (λ rest. flat_map of turns ++ rest) (sym (append-nil (of turn))) ∙ sym (flat_map-append of turns (turn ∷ []))

follows_more : {X C : Type 0} (goes : X → C → X → Type 0) (of : Turn → List C) (old mid new : X) (turns : List Turn) (turn : Turn)
    → Follows goes old mid (flat_map of turns) → Follows goes mid new (of turn) → Follows goes old new (flat_map of (turns ++ turn ∷ []))
follows_more goes of old mid new turns turn h k =
    subst (λ (calls : List _). Follows goes old new calls) (calls_more of turns turn) (follows_joined goes old mid new (flat_map of turns) (of turn) h k)

none_more : {C : Type 0} (of : Turn → List C) (turns : List Turn) (turn : Turn) → flat_map of turns ≡ [] → of turn ≡ [] → flat_map of (turns ++ turn ∷ []) ≡ []
none_more of turns turn h k = sym (calls_more of turns turn) ∙ ap (λ xs. xs ++ of turn) h ∙ k

-- a run, and one turn more
pub run_more : {S O E : Type 0} (goes_on : Bool) (from : Machine) (stores : S → StoreCall → S → Type 0) (outs : O → PutCall → O → Type 0) (errs : E → PutCall → E → Type 0)
    (s0 s1 s2 : S) (o0 o1 o2 : O) (e0 e1 e2 : E) (stood stands : Machine → Type 0)
    → HasRun goes_on from (Follows stores s0 s1) AskedNone (Follows outs o0 o1) (Follows errs e0 e1) stood
    → ((machine : Machine) → stood machine → HasTurned goes_on machine (Follows stores s1 s2) (Follows outs o1 o2) (Follows errs e1 e2) stands)
    → HasRun goes_on from (Follows stores s0 s2) AskedNone (Follows outs o0 o2) (Follows errs e0 e2) stands
run_more goes_on from stores outs errs s0 s1 s2 o0 o1 o2 e0 e1 e2 stood stands run turned =
    let took = turned run.to run.lands in record {
      turns = run.turns ++ took.turn ∷ [];
      to = after goes_on run.to took.turn;
      runs = runs_more goes_on from run.to run.turns took.turn run.runs took.is_turn;
      store_went = follows_more stores (λ turn. on_store turn.asked) s0 s1 s2 run.turns took.turn run.store_went took.store_went;
      input_went = none_more (λ turn. on_input turn.asked) run.turns took.turn run.input_went took.input_kept;
      out_went = follows_more outs (λ turn. on_out turn.asked) o0 o1 o2 run.turns took.turn run.out_went took.out_went;
      err_went = follows_more errs (λ turn. puts_of turn.told) e0 e1 e2 run.turns took.turn run.err_went took.err_went;
      lands = took.lands;
    }

pub run_ended : (goes_on : Bool) (from : Machine) (store : List StoreCall → Type 0) (input : List TakeCall → Type 0) (out err : List PutCall → Type 0) (stood stands : Machine → Type 0)
    → HasRun goes_on from store input out err stood → ((machine : Machine) → stood machine → stands machine) → HasRun goes_on from store input out err stands
run_ended goes_on from store input out err stood stands run so = record {
  turns = run.turns;
  to = run.to;
  runs = run.runs;
  store_went = run.store_went;
  input_went = run.input_went;
  out_went = run.out_went;
  err_went = run.err_went;
  lands = so run.to run.lands;
}

-- the first turn, and a run after it
pub run_begun : {S O E : Type 0} (goes_on : Bool) (script : TheScript) (stores : S → StoreCall → S → Type 0) (outs : O → PutCall → O → Type 0) (errs : E → PutCall → E → Type 0)
    (s0 s1 s2 : S) (o0 o2 : O) (e0 e1 e2 : E) (input : List TakeCall → Type 0) (ended : Ending) (stood stands : Machine → Type 0)
    → HasBegun (begin_plan nothing_held script) (Follows stores s0 s1) input ended
    → HasSettled goes_on (begun script) (record { line = 0; work = Begin script }) ended (Follows errs e0 e1) stood
    → ((machine : Machine) → stood machine → HasRun goes_on machine (Follows stores s1 s2) AskedNone (Follows outs o0 o2) (Follows errs e1 e2) stands)
    → HasRun goes_on (begun script) (Follows stores s0 s2) input (Follows outs o0 o2) (Follows errs e0 e2) stands
run_begun goes_on script stores outs errs s0 s1 s2 o0 o2 e0 e1 e2 input ended stood stands first settled rest =
    let turn : Turn = turn_by first.asked settled.ending settled.told in
    let run = rest (after goes_on (begun script) turn) settled.lands in record {
      turns = turn ∷ run.turns;
      to = run.to;
      runs = (is_turn (begun script) (record { line = 0; work = Begin script }) [] first.asked ended settled.ending settled.told refl first.steps settled.comes settled.is_told, run.runs);
      store_went = follows_joined stores s0 s1 s2 (on_store first.asked) (store_calls run.turns) first.store_went run.store_went;
      input_went = subst input (sym (ap (λ (calls : List TakeCall). on_input first.asked ++ calls) run.input_went ∙ append-nil (on_input first.asked))) first.input_went;
      out_went = subst (Follows outs o0 o2) (sym (ap (λ (calls : List PutCall). calls ++ out_calls run.turns) first.out_kept)) run.out_went;
      err_went = follows_joined errs e0 e1 e2 (puts_of settled.told) (err_calls run.turns) settled.err_went run.err_went;
      lands = run.lands;
    }

pub run_none : {S O E : Type 0} (goes_on : Bool) (machine : Machine) (stores : S → StoreCall → S → Type 0) (outs : O → PutCall → O → Type 0) (errs : E → PutCall → E → Type 0)
    (s : S) (o : O) (e : E) (stands : Machine → Type 0) → stands machine → HasRun goes_on machine (Follows stores s s) AskedNone (Follows outs o o) (Follows errs e e) stands
run_none goes_on machine stores outs errs s o e stands here =
    record { turns = []; to = machine; runs = refl; store_went = refl; input_went = refl; out_went = refl; err_went = refl; lands = here }
