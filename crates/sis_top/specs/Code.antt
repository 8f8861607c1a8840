-- What the private calls below the top call promise, in the terms of the command machine. No public
-- clause cites these definitions. Source: the project's own rule for the outside.
use Rattle.std.specs.Prelude.{◌≡◌, ◌⊎◌, ℕ, ◌+◌, ◌*◌, ◌-◌, ◌≤◌, zero, suc, Bool, ◌||◌, Option, Some, None, List, [], ◌∷◌, ◌++◌, length, Result, Ok, Err}
use Rattle.std.specs.Global.{Vec}
use Rattle.sis_outside.specs.Calls.{StoreCall, TakeCall, PutCall}
use Rattle.sis_session.specs.Plan.{MAX_BYTES, MAX_DEPTH, Outcome, Refuses, Plan, Asked, Ending, Done, Refused, Cut, Comes, ComesTaken, Steps, on_store, on_input, on_out}
use Rattle.sis_session.specs.State.{Held}
use Rattle.sis_session.specs.declared.refusal.Failed.{Failed}
use Rattle.sis_session.specs.declared.refusal.Failed.TheVariants as failed
use Rattle.sis_session.specs.declared.refusal.Next.{Next}
use Rattle.sis_session.specs.declared.refusal.Next.TheVariants as next
use Rattle.sis_session.specs.declared.refusal.Refusal.{Refusal}
use Rattle.sis_session.specs.declared.refusal.Refusal.TheVariants.{LongScript}
use Rattle.sis_top.specs.Machine.{Begin, Run, Work, Due, Machine, Turn, IsTurn, IsTold, Runs, after, after_ending, told_cut}
use Rattle.sis_top.specs.Call.{EndsWith, puts_of, store_calls, input_calls, out_calls, err_calls}
use Rattle.sis_top.specs.declared.input.Unread.{Unread}
use Rattle.sis_top.specs.declared.input.Unread.TheVariants as unread
use Rattle.sis_top.specs.declared.halt.Halt.{Halt}
use Rattle.sis_top.specs.declared.halt.Halt.TheVariants as halt
use Rattle.sis_top.specs.declared.status.Status.{Status}
use Rattle.sis_top.specs.declared.status.Stop.{Stop}

-- how a work item ended that was not done
abbrev pub halted : Halt → Ending
halted (halt.Refused why) = Refused why
halted (halt.Cut what) = Cut what

-- how a work item ended, by its answer and what is held after it
abbrev pub ended_as : Result Next Halt → Held → Ending
ended_as (Ok next) held = Done held next
ended_as (Err why) held = halted why

-- a script that comes next has no more commands than the longest script has bytes, and its commands
-- are nested no deeper than allowed
abbrev pub Fits : ℕ → Next → Type 0
Fits depth (next.Script commands) = (depth ≤ MAX_DEPTH) × (length commands ≤ MAX_BYTES)
Fits depth other = Unit {0}

-- how a work item ends whose script was taken off the input, by what is done with the script
abbrev pub EndsTaken : (List ℕ → Outcome) → Result (Vec ℕ) Unread → Ending → Type 0
EndsTaken used (Ok text) ending = Comes (used text.items) ending
EndsTaken used (Err unread.TooLong) ending = Comes (Refuses LongScript) ending
EndsTaken used (Err unread.Failed) ending = ending ≡ Cut failed.Input
EndsTaken used (Err unread.Memory) ending = ending ≡ Cut failed.Memory

-- a script was taken off the input by some takes, whatever is done with it
pub record HasTaken (input : List TakeCall → Type 0) (result : Result (Vec ℕ) Unread) : Type 0 where
  pub calls : List TakeCall
  pub went : input calls
  pub comes : (used : List ℕ → Outcome) (ending : Ending) → EndsTaken used result ending → ComesTaken used [] calls ending

-- some takes gave this much of a script, and the taking goes on after them
pub record IsTaking (input : List TakeCall → Type 0) (text : List ℕ) : Type 0 where
  pub calls : List TakeCall
  pub went : input calls
  pub goes_on : (used : List ℕ → Outcome) (more : List TakeCall) (ending : Ending) → ComesTaken used text more ending
      → ComesTaken used [] (calls ++ more) ending

-- what beginning a script did: by a plan, with exactly these calls on the store and on the input;
-- the output is not asked
pub record HasBegun (plan : Plan) (store : List StoreCall → Type 0) (input : List TakeCall → Type 0) (ending : Ending) : Type 0 where
  pub asked : Asked
  pub steps : Steps (λ other. other ≡ plan) asked ending
  pub store_went : store (on_store asked)
  pub input_went : input (on_input asked)
  pub out_kept : on_out asked ≡ []

-- an answer names what failed, if something did
abbrev pub IsAnswer : Option Failed → Result (Unit {0}) Failed → Type 0
IsAnswer None result = result ≡ Ok tt
IsAnswer (Some what) result = result ≡ Err what

-- a line was written, or memory ran out for it; the answer says so
pub record HasTold (line : ℕ) (why : Refusal) (err : List PutCall → Type 0) (result : Result (Unit {0}) Failed) : Type 0 where
  pub told : Option PutCall
  pub is_told : IsTold line (Refused why) told
  pub went : err (puts_of told)
  pub answer : IsAnswer (told_cut told) result

-- the state of a machine that was not cut short
abbrev pub IsAt : Held → List Due → Bool → Machine → Type 0
IsAt held todo refused machine = (machine.held ≡ held) × (machine.todo ≡ todo) × (machine.refused ≡ refused) × (machine.cut ≡ None)

-- the state of a machine that was cut short
abbrev pub IsCutAt : Stop → Machine → Type 0
IsCutAt stop machine = (machine.todo ≡ []) × (machine.cut ≡ Some stop)

-- the machine after a turn, by the answer: whether the work item was refused, or what cut the run
-- short
abbrev pub Lands : Held → List Due → Bool → ℕ → Result Bool Failed → Machine → Type 0
Lands held todo before line (Ok refused) machine = IsAt held todo (refused || before) machine
Lands held todo before line (Err what) machine = IsCutAt (record { line = line; what = what }) machine

-- the same, where the answer names the line too
abbrev pub LandsAt : Held → List Due → Bool → Result Bool Stop → Machine → Type 0
LandsAt held todo before (Ok refused) machine = IsAt held todo (refused || before) machine
LandsAt held todo before (Err stop) machine = IsCutAt stop machine

-- a work item is done
abbrev pub IsDone : Ending → Type 0
IsDone (Done held next) = Unit {0}
IsDone other = ⊥

-- the end of a work item was reported, and the machine after it satisfies a predicate; if memory
-- ran out for the commands that become due, it is cut short
pub record HasSettled (goes_on : Bool) (machine : Machine) (due : Due) (ended : Ending) (err : List PutCall → Type 0) (stands : Machine → Type 0) : Type 0 where
  pub ending : Ending
  pub told : Option PutCall
  pub comes : (ending ≡ ended) ⊎ (IsDone ended × (ending ≡ Cut failed.Memory))
  pub is_told : IsTold due.line ending told
  pub err_went : err (puts_of told)
  pub lands : stands (after_ending goes_on machine due ending told)

-- one turn was taken, and the machine after it satisfies a predicate
pub record HasTurned (goes_on : Bool) (machine : Machine) (store : List StoreCall → Type 0) (out err : List PutCall → Type 0) (stands : Machine → Type 0) : Type 0 where
  pub turn : Turn
  pub is_turn : IsTurn machine turn
  pub store_went : store (on_store turn.asked)
  pub input_kept : on_input turn.asked ≡ []
  pub out_went : out (on_out turn.asked)
  pub err_went : err (puts_of turn.told)
  pub lands : stands (after goes_on machine turn)

-- some turns were taken from a machine, and the machine after them satisfies a predicate
pub record HasRun (goes_on : Bool) (from : Machine) (store : List StoreCall → Type 0) (input : List TakeCall → Type 0) (out err : List PutCall → Type 0) (stands : Machine → Type 0) : Type 0 where
  pub turns : List Turn
  pub to : Machine
  pub runs : Runs goes_on from turns to
  pub store_went : store (store_calls turns)
  pub input_went : input (input_calls turns)
  pub out_went : out (out_calls turns)
  pub err_went : err (err_calls turns)
  pub lands : stands to

-- how a run ended, by its answer: whether a work item was refused, or what cut it short
abbrev pub HasEnded : Result Bool Stop → Machine → Type 0
HasEnded (Ok refused) machine = (machine.todo ≡ []) × (machine.refused ≡ refused) × (machine.cut ≡ None)
HasEnded (Err stop) machine = IsCutAt stop machine

-- the last line of a call was written, or memory ran out for it
pub record HasEndLine (line : List ℕ) (ends : Status) (err : List PutCall → Type 0) (status : Status) : Type 0 where
  pub last : Option PutCall
  pub ended : EndsWith line ends last status
  pub went : err (puts_of last)

-- more than all the commands that one script can make due, for each level of nesting that is left
unfoldable pub measure : ℕ → ℕ
measure zero = 1
measure (suc levels) = 134217728 * measure levels

-- how much a work item may still make due: the sum decreases with each turn
abbrev pub work_weight : Work → ℕ
work_weight (Begin script) = 0
work_weight (Run depth op) = measure (16 - depth)

unfoldable pub weight : List Due → ℕ
weight [] = 0
weight (due ∷ todo) = work_weight due.work + weight todo

-- how much the end of a work item makes due
abbrev pub added_weight : ℕ → Result Next Halt → ℕ
added_weight depth (Ok (next.Script commands)) = length commands * measure (16 - depth)
added_weight depth other = 0
