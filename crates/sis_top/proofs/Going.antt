-- How works go by their plans.
use Rattle.std.proofs.Common.{◌≡◌, ℕ, List, [], ◌∷◌, ◌++◌, refl, sym, ap, subst, ◌∙◌, inl, inr}
use Rattle.std.specs.Prelude.{Result, Ok, Err}
use Rattle.std.specs.Global.{Vec}
use Rattle.sis_outside.specs.Calls.{StoreCall, Load, Save, TakeCall, PutCall, Follows}
use Rattle.sis_outside.specs.declared.store.LoadFault.{LoadFault}
use Rattle.sis_outside.specs.declared.store.LoadFault.TheVariants as load
use Rattle.sis_outside.specs.declared.store.SaveFault.{SaveFault}
use Rattle.sis_outside.specs.declared.store.SaveFault.TheVariants as save
use Rattle.sis_outside.specs.declared.source.TakeFault.{TakeFault}
use Rattle.sis_outside.specs.declared.source.TakeFault.TheVariants as take
use Rattle.sis_outside.specs.declared.sink.PutFault.{PutFault}
use Rattle.sis_outside.specs.declared.sink.PutFault.TheVariants as put
use Rattle.sis_session.specs.Methods.{AskedNone}
use Rattle.sis_session.specs.Plan.{MAX_BYTES, Outcome, Does, Refuses, Plan, Quiet, Loads, Saves, Puts, Takes, Asked, Nothing, OnStore, OnOut, OnInput, Ending, Done, Cut, Comes, ComesLoaded, ComesSaved, ComesPut, ComesPiece, ComesTaken, Goes, Steps, by_plan, no_memory, Did, on_store, on_input}
use Rattle.sis_session.specs.State.{Held}
use Rattle.sis_session.specs.declared.refusal.Failed.TheVariants as failed
use Rattle.sis_session.specs.declared.refusal.Next.{Next}
use Rattle.sis_top.specs.Code.{EndsTaken, HasBegun, HasTaken}
use Rattle.sis_top.specs.declared.input.Unread.{Unread}

-- a work that goes by its plan asks what the plan says
pub data Went (plan : Plan) (asked : Asked) (ending : Ending) : Type 0 where
  quiet : (outcome : Outcome) → plan ≡ Quiet outcome → asked ≡ Nothing → Comes outcome ending → Went plan asked ending
  loads : (name : List ℕ) (used : List ℕ → Outcome) (answer : Result (List ℕ) LoadFault) → plan ≡ Loads name used
      → asked ≡ OnStore (Load name MAX_BYTES answer) → ComesLoaded name used answer ending → Went plan asked ending
  saves : (name bytes : List ℕ) (outcome : Outcome) (answer : Result (Unit {0}) SaveFault) → plan ≡ Saves name bytes outcome
      → asked ≡ OnStore (Save name bytes answer) → ComesSaved outcome answer ending → Went plan asked ending
  puts : (reply : List ℕ) (outcome : Outcome) (call : PutCall) → plan ≡ Puts reply outcome → asked ≡ OnOut call
      → call.piece ≡ reply → ComesPut outcome call.answer ending → Went plan asked ending
  takes : (used : List ℕ → Outcome) (calls : List TakeCall) → plan ≡ Takes used → asked ≡ OnInput calls → ComesTaken used [] calls ending → Went plan asked ending

pub went : (plan : Plan) (asked : Asked) (ending : Ending) → Goes plan asked ending → Went plan asked ending
went (Quiet outcome) Nothing ending h = quiet outcome refl refl h
went (Quiet outcome) (OnStore (Load loaded max answer)) ending h = absurd h
went (Quiet outcome) (OnStore (Save saved sent answer)) ending h = absurd h
went (Quiet outcome) (OnOut call) ending h = absurd h
went (Quiet outcome) (OnInput calls) ending h = absurd h
went (Loads name used) (OnStore (Load loaded max answer)) ending h =
    loads name used answer refl (ap (λ (n : List ℕ). OnStore (Load n max answer)) h.0 ∙ ap (λ (m : ℕ). OnStore (Load name m answer)) h.1) h.2
went (Loads name used) Nothing ending h = absurd h
went (Loads name used) (OnStore (Save saved sent answer)) ending h = absurd h
went (Loads name used) (OnOut call) ending h = absurd h
went (Loads name used) (OnInput calls) ending h = absurd h
went (Saves name bytes outcome) (OnStore (Save saved sent answer)) ending h =
    saves name bytes outcome answer refl (ap (λ (n : List ℕ). OnStore (Save n sent answer)) h.0 ∙ ap (λ (b : List ℕ). OnStore (Save name b answer)) h.1) h.2
went (Saves name bytes outcome) Nothing ending h = absurd h
went (Saves name bytes outcome) (OnStore (Load loaded max answer)) ending h = absurd h
went (Saves name bytes outcome) (OnOut call) ending h = absurd h
went (Saves name bytes outcome) (OnInput calls) ending h = absurd h
went (Puts reply outcome) (OnOut call) ending h = puts reply outcome call refl refl h.0 h.1
went (Puts reply outcome) Nothing ending h = absurd h
went (Puts reply outcome) (OnStore (Load loaded max answer)) ending h = absurd h
went (Puts reply outcome) (OnStore (Save saved sent answer)) ending h = absurd h
went (Puts reply outcome) (OnInput calls) ending h = absurd h
went (Takes used) (OnInput calls) ending h = takes used calls refl refl h
went (Takes used) Nothing ending h = absurd h
went (Takes used) (OnStore (Load loaded max answer)) ending h = absurd h
went (Takes used) (OnStore (Save saved sent answer)) ending h = absurd h
went (Takes used) (OnOut call) ending h = absurd h

pub goes_as : (plan other : Plan) (asked same : Asked) (ending : Ending) → plan ≡ other → asked ≡ same → Goes other same ending → Goes plan asked ending
goes_as plan other asked same ending e d h = subst (λ (p : Plan). Goes p asked ending) (sym e) (subst (λ (a : Asked). Goes other a ending) (sym d) h)

-- memory may run out after any outcome
pub comes_wanting : (outcome : Outcome) → Comes outcome (Cut failed.Memory)
comes_wanting (Does held next) = inr refl
comes_wanting (Refuses why) = inr refl

loaded_wanting : (name : List ℕ) (used : List ℕ → Outcome) (answer : Result (List ℕ) LoadFault) (held : Held) (next : Next)
    → ComesLoaded name used answer (Done held next) → ComesLoaded name used answer (Cut failed.Memory)
loaded_wanting name used (Ok bytes) held next h = comes_wanting (used bytes)
loaded_wanting name used (Err load.Missing) held next h = inr refl
loaded_wanting name used (Err (load.TooLong reached)) held next h = inr refl
loaded_wanting name used (Err load.Failed) held next h = cc
loaded_wanting name used (Err load.Memory) held next h = refl

saved_wanting : (outcome : Outcome) (answer : Result (Unit {0}) SaveFault) (held : Held) (next : Next)
    → ComesSaved outcome answer (Done held next) → ComesSaved outcome answer (Cut failed.Memory)
saved_wanting outcome (Ok done) held next h = comes_wanting outcome
saved_wanting outcome (Err save.Failed) held next h = cc
saved_wanting outcome (Err save.Memory) held next h = refl

put_wanting : (outcome : Outcome) (answer : Result (Unit {0}) PutFault) (held : Held) (next : Next)
    → ComesPut outcome answer (Done held next) → ComesPut outcome answer (Cut failed.Memory)
put_wanting outcome (Ok done) held next h = comes_wanting outcome
put_wanting outcome (Err put.Failed) held next h = cc
put_wanting outcome (Err put.Memory) held next h = refl

taken_wanting : (used : List ℕ → Outcome) (text : List ℕ) (calls : List TakeCall) (held : Held) (next : Next)
    → ComesTaken used text calls (Done held next) → ComesTaken used text calls (Cut failed.Memory)
taken_wanting used text [] held next (inl h) = inl (h.0, inr refl)
taken_wanting used text [] held next (inr h) = inr (h.0, refl)
taken_wanting used text (call ∷ calls) held next h = (h.0, piece call.answer (λ longer. taken_wanting used longer calls held next) h.1)
  where
    piece : (answer : Result (List ℕ) TakeFault) → ((longer : List ℕ) → ComesTaken used longer calls (Done held next) → ComesTaken used longer calls (Cut failed.Memory))
        → ComesPiece used text answer calls (λ longer. ComesTaken used longer calls (Done held next)) (Done held next)
        → ComesPiece used text answer calls (λ longer. ComesTaken used longer calls (Cut failed.Memory)) (Cut failed.Memory)
    piece (Ok []) more k = (k.0, comes_wanting (used text))
    piece (Ok (byte ∷ bytes)) more k = more (text ++ byte ∷ bytes) k
    piece (Err take.Failed) more k = (k.0, cc)
    piece (Err take.Memory) more k = (k.0, refl)

goes_wanting : (plan : Plan) (asked : Asked) (held : Held) (next : Next) → Went plan asked (Done held next) → Goes plan asked (Cut failed.Memory)
goes_wanting plan asked held next (quiet outcome e d h) = goes_as plan _ asked _ _ e d (comes_wanting outcome)
goes_wanting plan asked held next (loads name used answer e d h) = goes_as plan _ asked _ _ e d (refl, refl, loaded_wanting name used answer held next h)
goes_wanting plan asked held next (saves name bytes outcome answer e d h) = goes_as plan _ asked _ _ e d (refl, refl, saved_wanting outcome answer held next h)
goes_wanting plan asked held next (puts reply outcome call e d p h) = goes_as plan (Puts reply outcome) asked (OnOut call) _ e d (p, put_wanting outcome call.answer held next h)
goes_wanting plan asked held next (takes used calls e d h) = goes_as plan _ asked _ _ e d (taken_wanting used [] calls held next h)

pub steps_wanting : (plans : Plan → Type 0) (asked : Asked) (held : Held) (next : Next) → Steps plans asked (Done held next) → Steps plans asked (Cut failed.Memory)
steps_wanting plans asked held next (by_plan plan p g) = by_plan plan p (goes_wanting plan asked held next (went plan asked (Done held next) g))
steps_wanting plans asked held next (no_memory a e) = no_memory a refl

-- a script was begun from a file
pub begun_did : (plan : Plan) (store : List StoreCall → Type 0) (ending : Ending) → Did (λ other. other ≡ plan) store AskedNone ending → HasBegun plan store AskedNone ending
begun_did plan store ending did = record { asked = did.asked; steps = did.steps; store_went = did.store_went; input_went = did.input_kept; out_kept = did.out_went }

-- a script was begun from the input
pub begun_taken : (used : List ℕ → Outcome) (input : List TakeCall → Type 0) (result : Result (Vec ℕ) Unread) (ending : Ending)
    → HasTaken input result → EndsTaken used result ending → HasBegun (Takes used) AskedNone input ending
begun_taken used input result ending taken ends = record {
  asked = OnInput taken.calls;
  steps = by_plan (Takes used) refl (taken.comes used ending ends);
  store_went = refl;
  input_went = taken.went;
  out_kept = refl;
}

-- an object that was not asked is as before
unasked : {X C : Type 0} (goes : X → C → X → Type 0) (x : X) (calls : List C) → calls ≡ [] → Follows goes x x calls
unasked goes x calls e = subst (λ (cs : List _). Follows goes x x cs) (sym e) refl

pub begun_file : {I : Type 0} (plan : Plan) (store : List StoreCall → Type 0) (gives : I → TakeCall → I → Type 0) (input : I) (ending : Ending)
    → HasBegun plan store AskedNone ending → HasBegun plan store (Follows gives input input) ending
begun_file plan store gives input ending begun = record {
  asked = begun.asked;
  steps = begun.steps;
  store_went = begun.store_went;
  input_went = unasked gives input (on_input begun.asked) begun.input_went;
  out_kept = begun.out_kept;
}

pub begun_text : {S I : Type 0} (outcome : Outcome) (stores : S → StoreCall → S → Type 0) (store : S) (gives : I → TakeCall → I → Type 0) (input : I) (ending : Ending)
    → Comes outcome ending → HasBegun (Quiet outcome) (Follows stores store store) (Follows gives input input) ending
begun_text outcome stores store gives input ending comes = record {
  asked = Nothing;
  steps = by_plan (Quiet outcome) refl comes;
  store_went = refl;
  input_went = refl;
  out_kept = refl;
}

pub begun_input : {S : Type 0} (plan : Plan) (stores : S → StoreCall → S → Type 0) (store : S) (input : List TakeCall → Type 0) (ending : Ending)
    → HasBegun plan AskedNone input ending → HasBegun plan (Follows stores store store) input ending
begun_input plan stores store input ending begun = record {
  asked = begun.asked;
  steps = begun.steps;
  store_went = unasked stores store (on_store begun.asked) begun.store_went;
  input_went = begun.input_went;
  out_kept = begun.out_kept;
}
