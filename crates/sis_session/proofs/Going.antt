-- How commands go by their plans: from what the calls below a step promise to what the step did.
use Rattle.std.proofs.Common.{◌≡◌, ℕ, List, [], ◌∷◌, refl, sym, ap, subst, inl, inr}
use Rattle.std.specs.Prelude.{false, IfOk, Option, Some, None, Result, Ok, Err}
use Rattle.std.specs.Global.{Vec}
use Rattle.sis_outside.specs.Calls.{StoreCall, Load, Save, PutCall, Follows, load_failed}
use Rattle.sis_outside.specs.declared.store.LoadFault.{LoadFault}
use Rattle.sis_outside.specs.declared.store.LoadFault.TheVariants as load
use Rattle.sis_outside.specs.declared.store.SaveFault.TheVariants as save
use Rattle.sis_outside.specs.declared.sink.PutFault.TheVariants as put
use Rattle.sis_session.specs.Commands.{Replies, StaysTold, reply_with}
use Rattle.sis_session.specs.Methods.{AskedNone, HasLoaded, HasSaved, HasPut, HasToldPut, IsTold, IsToldBy}
use Rattle.sis_session.specs.Plan.{MAX_BYTES, Outcome, Does, Refuses, Plan, Quiet, Loads, Saves, Puts, Asked, Nothing, OnStore, OnOut, Ending, Done, Refused, Cut, Comes, ComesLoaded, Steps, by_plan, no_memory, Did, NestsBelow, faulted, ended, sends}
use Rattle.sis_session.specs.State.{Held}
use Rattle.sis_session.specs.declared.refusal.Failed.TheVariants as failed
use Rattle.sis_session.specs.declared.refusal.Next.{Next}
use Rattle.sis_session.specs.declared.refusal.Next.TheVariants.{Go}
use Rattle.sis_session.specs.declared.refusal.Refusal.{Refusal}
use Rattle.sis_session.specs.declared.refusal.Refusal.TheVariants as refusal
use Rattle.sis_session.specs.declared.refusal.StepFault.{StepFault}
use Rattle.sis_session.specs.declared.refusal.StepFault.TheVariants as fault

-- an object of which nothing was asked stays
unasked : {X C : Type 0} (goes : X → C → X → Type 0) (x : X) (calls : List C) → calls ≡ [] → Follows goes x x calls
unasked goes x [] h = refl
unasked goes x (call ∷ calls) h = cc

-- a step that asked nothing of the output, of the store, of either
pub store_alone : {O : Type 0} (puts : O → PutCall → O → Type 0) (plans : Plan → Type 0) (store : List StoreCall → Type 0) (out : O) (ending : Ending)
    → Did plans store AskedNone ending → Did plans store (Follows puts out out) ending
store_alone puts plans store out ending h =
    record { asked = h.asked; steps = h.steps; store_went = h.store_went; out_went = unasked puts out _ h.out_went; input_kept = h.input_kept }

pub out_alone : {S : Type 0} (goes : S → StoreCall → S → Type 0) (plans : Plan → Type 0) (out : List PutCall → Type 0) (store : S) (ending : Ending)
    → Did plans AskedNone out ending → Did plans (Follows goes store store) out ending
out_alone goes plans out store ending h =
    record { asked = h.asked; steps = h.steps; store_went = unasked goes store _ h.store_went; out_went = h.out_went; input_kept = h.input_kept }

pub both_alone : {S O : Type 0} (goes : S → StoreCall → S → Type 0) (puts : O → PutCall → O → Type 0) (plans : Plan → Type 0) (store : S) (out : O) (ending : Ending)
    → Did plans AskedNone AskedNone ending → Did plans (Follows goes store store) (Follows puts out out) ending
both_alone goes puts plans store out ending h = out_alone goes plans (Follows puts out out) store ending (store_alone puts plans AskedNone out ending h)

-- nothing was asked, by a plan that asks nothing, or since memory ran out before
pub quiet_did : (plans : Plan → Type 0) (outcome : Outcome) (ending : Ending) → plans (Quiet outcome) → Comes outcome ending → Did plans AskedNone AskedNone ending
quiet_did plans outcome ending is comes = record { asked = Nothing; steps = by_plan (Quiet outcome) is comes; store_went = refl; out_went = refl; input_kept = refl }

pub wanting_did : (plans : Plan → Type 0) → Did plans AskedNone AskedNone (Cut failed.Memory)
wanting_did plans = record { asked = Nothing; steps = no_memory refl refl; store_went = refl; out_went = refl; input_kept = refl }

-- a file was loaded, whatever is done with its bytes
pub loaded_did : {S : Type 0} (goes : S → StoreCall → S → Type 0) (name : List ℕ) (used : List ℕ → Outcome) (old new : S) (bytes : Vec ℕ) (ending : Ending)
    → HasLoaded goes name old (Ok bytes) new → Comes (used bytes.items) ending → Did (λ plan. plan ≡ Loads name used) (Follows goes old new) AskedNone ending
loaded_did goes name used old new bytes ending h comes = record {
  asked = OnStore (Load name MAX_BYTES (Ok bytes.items));
  steps = by_plan (Loads name used) refl (refl, refl, comes);
  store_went = (new, h, refl);
  out_went = refl;
  input_kept = refl;
}

-- memory may run out before any outcome
pub wanting : (outcome : Outcome) → Comes outcome (Cut failed.Memory)
wanting (Does held next) = inr refl
wanting (Refuses why) = inr refl

-- memory ran out after an answer that is not a failure
wanting_loaded : (name : List ℕ) (used : List ℕ → Outcome) (answer : Result (List ℕ) LoadFault) → load_failed answer ≡ false → ComesLoaded name used answer (Cut failed.Memory)
wanting_loaded name used (Ok bytes) h = wanting (used bytes)
wanting_loaded name used (Err load.Missing) h = inr refl
wanting_loaded name used (Err (load.TooLong reached)) h = inr refl
wanting_loaded name used (Err load.Failed) h = cc
wanting_loaded name used (Err load.Memory) h = refl

by_load : {S : Type 0} (goes : S → StoreCall → S → Type 0) (name : List ℕ) (used : List ℕ → Outcome) (old new : S) (answer : Result (List ℕ) LoadFault) (ending : Ending)
    → goes old (Load name MAX_BYTES answer) new → ComesLoaded name used answer ending → Did (λ plan. plan ≡ Loads name used) (Follows goes old new) AskedNone ending
by_load goes name used old new answer ending h comes = record {
  asked = OnStore (Load name MAX_BYTES answer);
  steps = by_plan (Loads name used) refl (refl, refl, comes);
  store_went = (new, h, refl);
  out_went = refl;
  input_kept = refl;
}

-- a file was not loaded
pub unloaded_did : {S : Type 0} (goes : S → StoreCall → S → Type 0) (name : List ℕ) (used : List ℕ → Outcome) (old new : S) (why : StepFault)
    → HasLoaded goes name old (Err why) new → Did (λ plan. plan ≡ Loads name used) (Follows goes old new) AskedNone (faulted why)
unloaded_did goes name used old new (fault.Refused (refusal.Missing file)) h =
    by_load goes name used old new (Err load.Missing) _ h.1 (inl (ap (λ f. Refused (refusal.Missing f)) h.0))
unloaded_did goes name used old new (fault.Refused (refusal.TooLong file)) h =
    by_load goes name used old new (Err (load.TooLong h.1.0)) _ h.1.1 (inl (ap (λ f. Refused (refusal.TooLong f)) h.0))
unloaded_did goes name used old new (fault.Refused (refusal.Script why)) h = absurd h
unloaded_did goes name used old new (fault.Refused refusal.Nested) h = absurd h
unloaded_did goes name used old new (fault.Refused refusal.NoNetwork) h = absurd h
unloaded_did goes name used old new (fault.Refused refusal.NoMachine) h = absurd h
unloaded_did goes name used old new (fault.Refused refusal.NoLibrary) h = absurd h
unloaded_did goes name used old new (fault.Refused refusal.NotMapped) h = absurd h
unloaded_did goes name used old new (fault.Refused refusal.NothingToUndo) h = absurd h
unloaded_did goes name used old new (fault.Refused (refusal.NoSignal signal)) h = absurd h
unloaded_did goes name used old new (fault.Refused (refusal.CubeLimit table)) h = absurd h
unloaded_did goes name used old new (fault.Refused (refusal.TooWide table count)) h = absurd h
unloaded_did goes name used old new (fault.Refused refusal.NodeLimit) h = absurd h
unloaded_did goes name used old new (fault.Refused (refusal.KernelLimit table)) h = absurd h
unloaded_did goes name used old new (fault.Refused (refusal.TooBig table)) h = absurd h
unloaded_did goes name used old new (fault.Refused refusal.NoInverter) h = absurd h
unloaded_did goes name used old new (fault.Refused refusal.NoNand) h = absurd h
unloaded_did goes name used old new (fault.Refused refusal.TreeLimit) h = absurd h
unloaded_did goes name used old new (fault.Refused (refusal.Blif file why)) h = absurd h
unloaded_did goes name used old new (fault.Refused (refusal.Kiss file why)) h = absurd h
unloaded_did goes name used old new (fault.Refused (refusal.Lib file why)) h = absurd h
unloaded_did goes name used old new (fault.Refused refusal.LongScript) h = absurd h
unloaded_did goes name used old new fault.StoreFault h = by_load goes name used old new (Err load.Failed) _ h refl
unloaded_did goes name used old new fault.SinkFault h = absurd h
unloaded_did goes name used old new fault.Memory h =
    by_load goes name used old new h.0 _ h.2 (wanting_loaded name used h.0 h.1)

-- the text was printed
pub put_sent : {O : Type 0} (puts : O → PutCall → O → Type 0) (held : Held) (text : List ℕ) (old new : O) (answer : Result Next StepFault)
    → HasPut puts text old answer new → Did (λ plan. plan ≡ sends None (reply_with held (Ok text))) AskedNone (Follows puts old new) (ended answer held)
put_sent puts held [] old new answer h = record {
  asked = Nothing;
  steps = by_plan (Quiet (Does held Go)) refl (inl (ap (λ a. ended a held) h.0));
  store_went = refl;
  out_went = h.1;
  input_kept = refl;
}
put_sent puts held (byte ∷ bytes) old new (Ok next) h = record {
  asked = OnOut (record { piece = byte ∷ bytes; answer = Ok tt });
  steps = by_plan (Puts (byte ∷ bytes) (Does held Go)) refl (refl, inl (ap (λ n. Done held n) h.0));
  store_went = refl;
  out_went = (new, h.1, refl);
  input_kept = refl;
}
put_sent puts held (byte ∷ bytes) old new (Err (fault.Refused why)) h = absurd h
put_sent puts held (byte ∷ bytes) old new (Err fault.StoreFault) h = absurd h
put_sent puts held (byte ∷ bytes) old new (Err fault.SinkFault) h = record {
  asked = OnOut (record { piece = byte ∷ bytes; answer = Err put.Failed });
  steps = by_plan (Puts (byte ∷ bytes) (Does held Go)) refl (refl, refl);
  store_went = refl;
  out_went = (new, h, refl);
  input_kept = refl;
}
put_sent puts held (byte ∷ bytes) old new (Err fault.Memory) h = record {
  asked = OnOut (record { piece = byte ∷ bytes; answer = Err put.Memory });
  steps = by_plan (Puts (byte ∷ bytes) (Does held Go)) refl (refl, refl);
  store_went = refl;
  out_went = (new, h, refl);
  input_kept = refl;
}

-- the text was saved
save_sent : {S : Type 0} (goes : S → StoreCall → S → Type 0) (held : Held) (name text : List ℕ) (old new : S) (answer : Result Next StepFault)
    → HasSaved goes name text old answer new → Did (λ plan. plan ≡ sends (Some name) (reply_with held (Ok text))) (Follows goes old new) AskedNone (ended answer held)
save_sent goes held name text old new (Ok next) h = record {
  asked = OnStore (Save name text (Ok tt));
  steps = by_plan (Saves name text (Does held Go)) refl (refl, refl, inl (ap (λ n. Done held n) h.0));
  store_went = (new, h.1, refl);
  out_went = refl;
  input_kept = refl;
}
save_sent goes held name text old new (Err (fault.Refused why)) h = absurd h
save_sent goes held name text old new (Err fault.StoreFault) h = record {
  asked = OnStore (Save name text (Err save.Failed));
  steps = by_plan (Saves name text (Does held Go)) refl (refl, refl, refl);
  store_went = (new, h, refl);
  out_went = refl;
  input_kept = refl;
}
save_sent goes held name text old new (Err fault.SinkFault) h = absurd h
save_sent goes held name text old new (Err fault.Memory) h = record {
  asked = OnStore (Save name text (Err save.Memory));
  steps = by_plan (Saves name text (Does held Go)) refl (refl, refl, refl);
  store_went = (new, h, refl);
  out_went = refl;
  input_kept = refl;
}

-- after a put or a save no script comes
pub put_nests : {O : Type 0} (puts : O → PutCall → O → Type 0) (depth : ℕ) (text : List ℕ) (old new : O) (answer : Result Next StepFault)
    → HasPut puts text old answer new → IfOk answer (NestsBelow depth)
put_nests puts depth [] old new answer h = subst (λ a. IfOk a (NestsBelow depth)) (sym h.0) tt
put_nests puts depth (byte ∷ bytes) old new (Ok next) h = subst (NestsBelow depth) (sym h.0) tt
put_nests puts depth (byte ∷ bytes) old new (Err why) h = tt

pub save_nests : {S : Type 0} (goes : S → StoreCall → S → Type 0) (depth : ℕ) (name text : List ℕ) (old new : S) (answer : Result Next StepFault)
    → HasSaved goes name text old answer new → IfOk answer (NestsBelow depth)
save_nests goes depth name text old new (Ok next) h = subst (NestsBelow depth) (sym h.0) tt
save_nests goes depth name text old new (Err why) h = tt

-- the same for a text that is known to be the one to print
pub text_put : {O : Type 0} (puts : O → PutCall → O → Type 0) (held : Held) (what : Result (List ℕ) Refusal) (text : List ℕ) (old new : O) (answer : Result Next StepFault)
    → what ≡ Ok text → HasPut puts text old answer new → Did (λ plan. plan ≡ sends None (reply_with held what)) AskedNone (Follows puts old new) (ended answer held)
text_put puts held what text old new answer is h =
    subst (λ w. Did (λ plan. plan ≡ sends None (reply_with held w)) AskedNone (Follows puts old new) (ended answer held)) (sym is) (put_sent puts held text old new answer h)

pub text_saved : {S : Type 0} (goes : S → StoreCall → S → Type 0) (held : Held) (what : Result (List ℕ) Refusal) (name text : List ℕ) (old new : S) (answer : Result Next StepFault)
    → what ≡ Ok text → HasSaved goes name text old answer new → Did (λ plan. plan ≡ sends (Some name) (reply_with held what)) (Follows goes old new) AskedNone (ended answer held)
text_saved goes held what name text old new answer is h =
    subst (λ w. Did (λ plan. plan ≡ sends (Some name) (reply_with held w)) (Follows goes old new) AskedNone (ended answer held)) (sym is) (save_sent goes held name text old new answer h)

-- nothing was written, since there is no text
refused_sent : (held : Held) (file : Option (List ℕ)) (what : Result (List ℕ) Refusal) (why : Refusal) → what ≡ Err why → sends file (reply_with held what) ≡ Quiet (Refuses why)
refused_sent held None what why is = ap (λ w. sends None (reply_with held w)) is
refused_sent held (Some name) what why is = ap (λ w. sends (Some name) (reply_with held w)) is

pub untold_did : (held : Held) (file : Option (List ℕ)) (what : Result (List ℕ) Refusal) (why : StepFault) → IsTold what (Err why)
    → Did (λ plan. plan ≡ sends file (reply_with held what)) AskedNone AskedNone (faulted why)
untold_did held file what (fault.Refused why) h =
    quiet_did (λ plan. plan ≡ sends file (reply_with held what)) (Refuses why) (Refused why) (sym (refused_sent held file what why h)) (inl refl)
untold_did held file what fault.StoreFault h = absurd h
untold_did held file what fault.SinkFault h = absurd h
untold_did held file what fault.Memory h = wanting_did (λ plan. plan ≡ sends file (reply_with held what))

-- a step by one of some plans is a step by one of more
steps_as : (plans more : Plan → Type 0) (asked : Asked) (ending : Ending) → ((plan : Plan) → plans plan → more plan) → Steps plans asked ending → Steps more asked ending
steps_as plans more asked ending more_so (by_plan plan is goes) = by_plan plan (more_so plan is) goes
steps_as plans more asked ending more_so (no_memory none cut) = no_memory none cut

pub did_as : (plans more : Plan → Type 0) (store : List StoreCall → Type 0) (out : List PutCall → Type 0) (ending : Ending)
    → ((plan : Plan) → plans plan → more plan) → Did plans store out ending → Did more store out ending
did_as plans more store out ending more_so h =
    record { asked = h.asked; steps = steps_as plans more h.asked ending more_so h.steps; store_went = h.store_went; out_went = h.out_went; input_kept = h.input_kept }

-- a text was printed, and it is one that may be printed
told_put : {O : Type 0} (puts : O → PutCall → O → Type 0) (held : Held) (tells : Result (List ℕ) Refusal → Type 0) (text : List ℕ) (old new : O) (answer : Result Next StepFault)
    → tells (Ok text) → HasPut puts text old answer new → Did (Replies (StaysTold held tells)) AskedNone (Follows puts old new) (ended answer held)
told_put puts held tells text old new answer may h =
    did_as (λ plan. plan ≡ sends None (reply_with held (Ok text))) (Replies (StaysTold held tells)) AskedNone (Follows puts old new) (ended answer held) (λ plan is. (reply_with held (Ok text), (Ok text, may, refl), is)) (put_sent puts held text old new answer h)

-- nothing was printed, because of a refusal, or for want of memory
untold_by : (held : Held) (tells : Result (List ℕ) Refusal → Type 0) (why : StepFault) → IsToldBy tells (Err why) → Did (Replies (StaysTold held tells)) AskedNone AskedNone (faulted why)
untold_by held tells (fault.Refused why) h = quiet_did (Replies (StaysTold held tells)) (Refuses why) (Refused why) (Err why, (Err why, h, refl), refl) (inl refl)
untold_by held tells fault.StoreFault h = absurd h
untold_by held tells fault.SinkFault h = absurd h
untold_by held tells fault.Memory h = wanting_did (Replies (StaysTold held tells))

-- a text that may be printed was printed, or the fault was passed on
pub told_did : {O : Type 0} (puts : O → PutCall → O → Type 0) (held : Held) (tells : Result (List ℕ) Refusal → Type 0) (told : Result (Vec ℕ) StepFault) (old new : O)
    (answer : Result Next StepFault) → IsToldBy tells told → HasToldPut puts told old answer new → Did (Replies (StaysTold held tells)) AskedNone (Follows puts old new) (ended answer held)
told_did puts held tells (Ok text) old new answer may h = told_put puts held tells text.items old new answer may h
told_did {O} puts held tells (Err why) old new answer may (is, same) =
    subst (λ (a : Result Next StepFault). Did (Replies (StaysTold held tells)) AskedNone (Follows puts old new) (ended a held)) (sym is)
    (subst (λ (o : O). Did (Replies (StaysTold held tells)) AskedNone (Follows puts old o) (faulted why)) (sym same)
    (store_alone puts (Replies (StaysTold held tells)) AskedNone old (faulted why) (untold_by held tells why may)))
