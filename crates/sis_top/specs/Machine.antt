-- The command machine: its state between two turns, one turn, and a run as a list of turns. Source:
-- the SIS manual (UCB/ERL M92/41): the commands of a script are done one after the other, and
-- `source` does those of a file before the rest. That a refusal ends a run that is not asked to go
-- on is the project's own rule.
use Rattle.std.specs.Prelude.{◌≡◌, ℕ, ◌+◌, Bool, true, false, Option, Some, None, List, [], ◌∷◌, ◌++◌, map, length, nat_le, Result, Ok, Err, if◌then◌else◌}
use Rattle.sis_outside.specs.Calls.{PutCall}
use Rattle.sis_outside.specs.declared.sink.PutFault.{PutFault}
use Rattle.sis_outside.specs.declared.sink.PutFault.TheVariants as put
use Rattle.sis_top.specs.Asked.{TheScript, InFile, AsText, OnInput}
use Rattle.sis_script.specs.declared.command.Op.{Op}
use Rattle.sis_script.specs.declared.command.Command.{Command}
use Rattle.sis_session.specs.Commands.{Plans, commands_in, last_read}
use Rattle.sis_session.specs.Plan.{MAX_BYTES, Outcome, Does, Refuses, Plan, Quiet, Loads, Takes, Asked, Ending, Done, Refused, Cut, Steps}
use Rattle.sis_session.specs.Replies.{refusal_line}
use Rattle.circuit_model.specs.declared.machine.Spec.{Spec}
use Rattle.sis_session.specs.State.{Held, nothing_held}
use Rattle.sis_session.specs.declared.refusal.Failed.{Failed}
use Rattle.sis_session.specs.declared.refusal.Failed.TheVariants as failed
use Rattle.sis_session.specs.declared.refusal.Next.{Next}
use Rattle.sis_session.specs.declared.refusal.Next.TheVariants as next
use Rattle.sis_session.specs.declared.refusal.Refusal.TheVariants.{LongScript}
use Rattle.sis_top.specs.declared.status.Stop.{Stop}

-- a work item: beginning the script that the words of the command line ask for, or running a
-- command inside so many sourced scripts
pub data Work : Type 0 where
  Begin : (script : TheScript) → Work
  Run : (depth : ℕ) (op : Op) → Work

-- a work item that is due, with its line in its script; a script is begun on line 0
pub record Due : Type 0 where
  pub line : ℕ
  pub work : Work

-- the state between two turns: what is held, what was read last, whether a work item was refused,
-- what cut the run short, and what is due, the next in front
pub record Machine : Type 0 where
  pub held : Held
  pub spec : Option Spec
  pub refused : Bool
  pub cut : Option Stop
  pub todo : List Due

-- the machine at the start of a call: nothing is held, and the script is to be begun
abbrev pub begun : TheScript → Machine
begun script = record {
  held = nothing_held;
  spec = None;
  refused = false;
  cut = None;
  todo = record { line = 0; work = Begin script } ∷ [];
}

-- a script is begun: its commands come next
abbrev pub begins : Held → List ℕ → Outcome
begins held text = Does held (next.Script (commands_in text))

-- the plan by which a script is begun: a file is loaded, a text is taken as it is unless it is
-- longer than the limit, and the input is taken to its end
abbrev pub begin_plan : Held → TheScript → Plan
begin_plan held (InFile name) = Loads name (begins held)
begin_plan held (AsText text) =
    Quiet (if nat_le (length text) MAX_BYTES then begins held text else Refuses LongScript)
begin_plan held OnInput = Takes (begins held)

-- the plans of a work item
abbrev pub WorkPlans : Held → Work → Plan → Type 0
WorkPlans held (Begin script) plan = plan ≡ begin_plan held script
WorkPlans held (Run depth op) plan = Plans depth held op plan

-- A turn: what the next work item asked of the outside, with the answers, how it ended, and the
-- write of the line of its refusal.
pub record Turn : Type 0 where
  pub asked : Asked
  pub ending : Ending
  pub told : Option PutCall

-- a refusal is reported by its line, unless memory ran out for the line; nothing else is reported
abbrev pub IsTold : ℕ → Ending → Option PutCall → Type 0
IsTold line (Refused why) (Some call) = call.piece ≡ refusal_line line why
IsTold line (Refused why) None = Unit {0}
IsTold line (Done held next) told = told ≡ None
IsTold line (Cut what) told = told ≡ None

-- a turn of a machine with these work items due: the first of them goes by one of its plans
abbrev pub IsTurnOf : Machine → List Due → Turn → Type 0
IsTurnOf machine [] turn = ⊥
IsTurnOf machine (due ∷ rest) turn =
    Steps (WorkPlans machine.held due.work) turn.asked turn.ending × IsTold due.line turn.ending turn.told

-- a turn of a machine
abbrev pub IsTurn : Machine → Turn → Type 0
IsTurn machine turn = IsTurnOf machine machine.todo turn

-- the nesting depth of the commands that a work item makes due
abbrev pub deeper : Work → ℕ
deeper (Begin script) = 0
deeper (Run depth op) = depth + 1

-- the work items of a script's commands, at a depth
abbrev pub dues : ℕ → List Command → List Due
dues depth commands =
    map (λ command. record { line = command.line; work = Run depth command.op }) commands

-- what is due after a work item that is done, before the rest: a script's commands, at a depth;
-- nothing at all after `quit`
abbrev pub todo_after : ℕ → Next → List Due → List Due
todo_after depth next.Go rest = rest
todo_after depth next.Quit rest = []
todo_after depth (next.Script commands) rest = dues depth commands ++ rest

-- what was read last after a work item that is done, with this held after it
abbrev pub spec_after : Work → Held → Option Spec → Option Spec
spec_after (Begin script) held spec = spec
spec_after (Run depth op) held spec = last_read op held spec

-- how the write of a refusal's line cuts the run short
abbrev pub put_cut : Result (Unit {0}) PutFault → Option Failed
put_cut (Ok done) = None
put_cut (Err put.Failed) = Some failed.Err
put_cut (Err put.Memory) = Some failed.Memory

-- the same if memory may have run out for the line
abbrev pub told_cut : Option PutCall → Option Failed
told_cut None = Some failed.Memory
told_cut (Some call) = put_cut call.answer

-- what is due after the first work item
abbrev pub rest_of : List Due → List Due
rest_of [] = []
rest_of (due ∷ rest) = rest

-- the machine, cut short on a line
abbrev pub cut_at : Machine → ℕ → Failed → Machine
cut_at machine line what = record machine { cut = Some (record { line = line; what = what }); todo = [] }

-- the machine after a refusal that was reported, or whose line could not be written
abbrev pub after_refusal : Bool → Machine → ℕ → Option Failed → Machine
after_refusal goes_on machine line None =
    record machine { refused = true; todo = if goes_on then rest_of machine.todo else [] }
after_refusal goes_on machine line (Some what) = cut_at machine line what

-- the machine after a work item that ended so
abbrev pub after_ending : Bool → Machine → Due → Ending → Option PutCall → Machine
after_ending goes_on machine due (Done held next) told =
    record machine {
      held = held;
      spec = spec_after due.work held machine.spec;
      todo = todo_after (deeper due.work) next (rest_of machine.todo);
    }
after_ending goes_on machine due (Refused why) told = after_refusal goes_on machine due.line (told_cut told)
after_ending goes_on machine due (Cut what) told = cut_at machine due.line what

-- the machine after a turn of the first of these work items
abbrev pub after_first : Bool → Machine → List Due → Turn → Machine
after_first goes_on machine [] turn = machine
after_first goes_on machine (due ∷ rest) turn = after_ending goes_on machine due turn.ending turn.told

-- the machine after a turn
abbrev pub after : Bool → Machine → Turn → Machine
after goes_on machine turn = after_first goes_on machine machine.todo turn

-- some turns, one after the other, lead from one machine to another
abbrev pub Runs : Bool → Machine → List Turn → Machine → Type 0
Runs goes_on from [] to = to ≡ from
Runs goes_on from (turn ∷ turns) to = IsTurn from turn × Runs goes_on (after goes_on from turn) turns to

-- something holds of each turn of a run, at the machine before it
abbrev pub AtEach : Bool → (Machine → Turn → Type 0) → Machine → List Turn → Type 0
AtEach goes_on holds machine [] = Unit {0}
AtEach goes_on holds machine (turn ∷ turns) =
    holds machine turn × AtEach goes_on holds (after goes_on machine turn) turns

-- the work item that is due next, if there is one
abbrev pub next_work : List Due → Option Work
next_work [] = None
next_work (due ∷ rest) = Some due.work
