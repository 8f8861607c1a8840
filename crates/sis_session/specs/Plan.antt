-- A command's plan: at most one call on the outside, and what follows from its answer. How a
-- command goes by its plan, and what the answer of a step says of it. Source: the project's own
-- rule for the outside: a command makes at most one call and writes its reply whole; a refusal, a
-- fault and want of memory leave what is held as it was.
use Rattle.std.specs.Prelude.{◌≡◌, ◌⊎◌, ◌≤◌, ◌<◌, ◌+◌, ℕ, Option, Some, None, List, [], ◌∷◌, ◌++◌, length, Result, Ok, Err}
use Rattle.sis_outside.specs.Calls.{StoreCall, Load, Save, TakeCall, PutCall}
use Rattle.sis_outside.specs.declared.store.LoadFault.{LoadFault}
use Rattle.sis_outside.specs.declared.store.LoadFault.TheVariants as load
use Rattle.sis_outside.specs.declared.store.SaveFault.{SaveFault}
use Rattle.sis_outside.specs.declared.store.SaveFault.TheVariants as save
use Rattle.sis_outside.specs.declared.source.TakeFault.{TakeFault}
use Rattle.sis_outside.specs.declared.source.TakeFault.TheVariants as take
use Rattle.sis_outside.specs.declared.sink.PutFault.{PutFault}
use Rattle.sis_outside.specs.declared.sink.PutFault.TheVariants as put
use Rattle.sis_session.specs.State.{Held}
use Rattle.sis_session.specs.declared.refusal.Failed.{Failed}
use Rattle.sis_session.specs.declared.refusal.Failed.TheVariants as failed
use Rattle.sis_session.specs.declared.refusal.Next.{Next}
use Rattle.sis_session.specs.declared.refusal.Next.TheVariants.{Go, Script}
use Rattle.sis_session.specs.declared.refusal.Refusal.{Refusal}
use Rattle.sis_session.specs.declared.refusal.Refusal.TheVariants as refusal
use Rattle.sis_session.specs.declared.refusal.StepFault.{StepFault}
use Rattle.sis_session.specs.declared.refusal.StepFault.TheVariants as fault

-- the length of the longest file and the longest script that is read, in bytes
abbrev pub MAX_BYTES : ℕ
MAX_BYTES = 67108864

-- the greatest depth of nested scripts
abbrev pub MAX_DEPTH : ℕ
MAX_DEPTH = 16

-- how large a function may be: different inner nodes of its reduced decision tree
abbrev pub MAX_FUNCTION : ℕ
MAX_FUNCTION = 1048575

-- the outcome of a command: what is held after it, and how the script goes on; or why it is refused
pub data Outcome : Type 0 where
  Does : (held : Held) (next : Next) → Outcome
  Refuses : (why : Refusal) → Outcome

-- the plan of a command: it asks nothing of the outside; it loads a file, and its outcome depends
-- on the bytes; it saves a file; it writes a reply; it takes the whole input, and its outcome
-- depends on the bytes
pub data Plan : Type 0 where
  Quiet : Outcome → Plan
  Loads : (name : List ℕ) (used : List ℕ → Outcome) → Plan
  Saves : (name bytes : List ℕ) → Outcome → Plan
  Puts : (reply : List ℕ) → Outcome → Plan
  Takes : (used : List ℕ → Outcome) → Plan

-- an empty reply is not written
abbrev pub replies : List ℕ → Outcome → Plan
replies [] outcome = Quiet outcome
replies (byte ∷ bytes) outcome = Puts (byte ∷ bytes) outcome

-- the text of a reply, and what is held once it was printed or saved
pub record Reply : Type 0 where
  pub text : List ℕ
  pub held : Held

-- a text is saved to the file that is named, or printed, and then this is held; or the refusal
abbrev pub sends : Option (List ℕ) → Result Reply Refusal → Plan
sends None (Ok reply) = replies reply.text (Does reply.held Go)
sends (Some name) (Ok reply) = Saves name reply.text (Does reply.held Go)
sends file (Err why) = Quiet (Refuses why)

-- what was asked of the outside, with the answers
pub data Asked : Type 0 where
  Nothing : Asked
  OnStore : StoreCall → Asked
  OnOut : PutCall → Asked
  OnInput : List TakeCall → Asked

-- the calls on the store, on the output, on the input
abbrev pub on_store : Asked → List StoreCall
on_store (OnStore call) = call ∷ []
on_store other = []

abbrev pub on_out : Asked → List PutCall
on_out (OnOut call) = call ∷ []
on_out other = []

abbrev pub on_input : Asked → List TakeCall
on_input (OnInput calls) = calls
on_input other = []

-- how a command ended: it was done, and this is held then; it was refused; or it was cut short
pub data Ending : Type 0 where
  Done : (held : Held) (next : Next) → Ending
  Refused : (why : Refusal) → Ending
  Cut : (what : Failed) → Ending

-- the outcome is reached, or memory ran out
abbrev pub Comes : Outcome → Ending → Type 0
Comes (Does held next) ending = (ending ≡ Done held next) ⊎ (ending ≡ Cut failed.Memory)
Comes (Refuses why) ending = (ending ≡ Refused why) ⊎ (ending ≡ Cut failed.Memory)

-- what follows from the answer of a load, of a save, of a put
abbrev pub ComesLoaded : List ℕ → (List ℕ → Outcome) → Result (List ℕ) LoadFault → Ending → Type 0
ComesLoaded name used (Ok bytes) ending = Comes (used bytes) ending
ComesLoaded name used (Err load.Missing) ending = Comes (Refuses (refusal.Missing name)) ending
ComesLoaded name used (Err (load.TooLong reached)) ending = Comes (Refuses (refusal.TooLong name)) ending
ComesLoaded name used (Err load.Failed) ending = ending ≡ Cut failed.Store
ComesLoaded name used (Err load.Memory) ending = ending ≡ Cut failed.Memory

abbrev pub ComesSaved : Outcome → Result (Unit {0}) SaveFault → Ending → Type 0
ComesSaved outcome (Ok done) ending = Comes outcome ending
ComesSaved outcome (Err save.Failed) ending = ending ≡ Cut failed.Store
ComesSaved outcome (Err save.Memory) ending = ending ≡ Cut failed.Memory

abbrev pub ComesPut : Outcome → Result (Unit {0}) PutFault → Ending → Type 0
ComesPut outcome (Ok done) ending = Comes outcome ending
ComesPut outcome (Err put.Failed) ending = ending ≡ Cut failed.Out
ComesPut outcome (Err put.Memory) ending = ending ≡ Cut failed.Memory

-- what follows from the answer of one take of the whole input, after the bytes that were taken so
-- far: no bytes are the end; if some came, it goes on after them
abbrev pub ComesPiece : (List ℕ → Outcome) → List ℕ → Result (List ℕ) TakeFault → List TakeCall → (List ℕ → Type 0) → Ending → Type 0
ComesPiece used text (Ok []) calls more ending = (calls ≡ []) × Comes (used text) ending
ComesPiece used text (Ok (byte ∷ piece)) calls more ending = more (text ++ byte ∷ piece)
ComesPiece used text (Err take.Failed) calls more ending = (calls ≡ []) × (ending ≡ Cut failed.Input)
ComesPiece used text (Err take.Memory) calls more ending = (calls ≡ []) × (ending ≡ Cut failed.Memory)

-- what follows from the takes of the whole input, after the bytes that were taken so far: as long
-- as these may be used, each take asks for all that may still be used and one byte more; an empty
-- piece is the end, one byte too many means a script that is too long
abbrev pub ComesTaken : (List ℕ → Outcome) → List ℕ → List TakeCall → Ending → Type 0
ComesTaken used text [] ending =
    ((MAX_BYTES < length text) × Comes (Refuses refusal.LongScript) ending)
    ⊎ ((length text ≤ MAX_BYTES) × (ending ≡ Cut failed.Memory))
ComesTaken used text (call ∷ calls) ending =
    ((length text ≤ MAX_BYTES) × (call.max + length text ≡ MAX_BYTES + 1))
    × ComesPiece used text call.answer calls (λ longer. ComesTaken used longer calls ending) ending

-- a command goes by its plan: what it asked, and how it ended; it asks for exactly what the plan
-- says
abbrev pub Goes : Plan → Asked → Ending → Type 0
Goes (Quiet outcome) Nothing ending = Comes outcome ending
Goes (Loads name used) (OnStore (Load loaded max answer)) ending = (loaded ≡ name) × (max ≡ MAX_BYTES) × ComesLoaded name used answer ending
Goes (Saves name bytes outcome) (OnStore (Save saved sent answer)) ending = (saved ≡ name) × (sent ≡ bytes) × ComesSaved outcome answer ending
Goes (Puts reply outcome) (OnOut call) ending = (call.piece ≡ reply) × ComesPut outcome call.answer ending
Goes (Takes used) (OnInput calls) ending = ComesTaken used [] calls ending
Goes plan asked ending = ⊥

-- a step of a command with these plans: it went by one of them, or memory ran out before it asked
-- anything
pub data Steps (plans : Plan → Type 0) (asked : Asked) (ending : Ending) : Type 0 where
  by_plan : (plan : Plan) → plans plan → Goes plan asked ending → Steps plans asked ending
  no_memory : asked ≡ Nothing → ending ≡ Cut failed.Memory → Steps plans asked ending

-- what a call of a command did: a step, and each object of the outside went by exactly the calls
-- that the step made on it; the input is asked for nothing
pub record Did (plans : Plan → Type 0) (store : List StoreCall → Type 0) (out : List PutCall → Type 0) (ending : Ending) : Type 0 where
  pub asked : Asked
  pub steps : Steps plans asked ending
  pub store_went : store (on_store asked)
  pub out_went : out (on_out asked)
  pub input_kept : on_input asked ≡ []

-- how a step ended that was not done
abbrev pub faulted : StepFault → Ending
faulted (fault.Refused why) = Refused why
faulted fault.StoreFault = Cut failed.Store
faulted fault.SinkFault = Cut failed.Out
faulted fault.Memory = Cut failed.Memory

-- how a step ended, by its answer and what is held after it
abbrev pub ended : Result Next StepFault → Held → Ending
ended (Ok next) held = Done held next
ended (Err why) held = faulted why

-- a script comes only if it is nested no deeper than allowed, and has no more commands than the
-- longest script has bytes
abbrev pub NestsBelow : ℕ → Next → Type 0
NestsBelow depth (Script commands) = (depth < MAX_DEPTH) × (length commands ≤ MAX_BYTES)
NestsBelow depth next = Unit {0}
