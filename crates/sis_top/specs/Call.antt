-- What a call of the program promises. Source: the SIS manual (UCB/ERL M92/41) for the commands;
-- that what is written refines what was read, and the last line and the status of a call, are the
-- project's own promise.
use Rattle.std.specs.Prelude.{◌≡◌, ◌⊎◌, ℕ, Bool, true, false, Option, Some, None, List, [], ◌∷◌, ◌++◌, flat_map, codes, Result, Ok, Err}
use Rattle.sis_outside.specs.Calls.{StoreCall, Save, TakeCall, PutCall}
use Rattle.sis_outside.specs.declared.store.SaveFault.{SaveFault}
use Rattle.sis_outside.specs.declared.sink.PutFault.{PutFault}
use Rattle.sis_outside.specs.declared.sink.PutFault.TheVariants as put
use Rattle.sis_top.specs.Asked.{TheOptions, TheScript, InFile}
use Rattle.sis_script.specs.declared.command.Op.{Op}
use Rattle.sis_session.specs.Commands.{Plans, Written, form_of}
use Rattle.sis_session.specs.Keeping.{IsMapping, IsOfHeld, IsTextOf, IsWriting, TellsAreas, behavior_of}
use Rattle.circuit_model.specs.Behaviors.{RefinesAs}
use Rattle.circuit_model.specs.MachineBehaviors.{of_spec}
use Rattle.sis_session.specs.Plan.{Asked, OnStore, OnOut, Refused as RefusedFor, Steps, on_store, on_out, on_input}
use Rattle.sis_session.specs.Replies.{error_line, refusal_line}
use Rattle.sis_session.specs.State.{Held}
use Rattle.sis_session.specs.declared.refusal.Refusal.{Refusal}
use Rattle.sis_session.specs.declared.refusal.Refusal.TheVariants.{LongScript, Missing, TooLong}
use Rattle.circuit_model.specs.declared.machine.Spec.{Spec}
use Rattle.sis_session.specs.declared.refusal.Failed.{Failed}
use Rattle.sis_session.specs.declared.refusal.Failed.TheVariants as failed
use Rattle.sis_top.specs.Machine.{AtEach, Begin, Due, Run, Work, Machine, Turn, Runs, begun, next_work}
use Rattle.sis_top.specs.Served.{IsServedTurn}
use Rattle.sis_top.specs.declared.status.Status.{Status}
use Rattle.sis_top.specs.declared.status.Stop.{Stop}
use Rattle.sis_top.specs.declared.status.Status.TheVariants.{Done, Refused, Usage, Fault, Memory}

-- the exit status of the program
abbrev pub code_of : Status → ℕ
code_of Done = 0
code_of Refused = 1
code_of Usage = 2
code_of Fault = 3
code_of Memory = 4

-- what cut a run short, in words
abbrev pub failure_text : Failed → List ℕ
failure_text failed.Store = codes "store failed"
failure_text failed.Input = codes "input failed"
failure_text failed.Out = codes "output failed"
failure_text failed.Err = codes "output failed"
failure_text failed.Memory = codes "no memory"

-- the last line of a run that was cut short
abbrev pub failure_line : Stop → List ℕ
failure_line stop = error_line stop.line (failure_text stop.what)

-- the line that says how the program is used
abbrev pub usage_line : List ℕ
usage_line = codes "sis: usage: sis [-k] [-f FILE | -c TEXT]\n"

-- the writes of a line, if it was written
abbrev pub puts_of : Option PutCall → List PutCall
puts_of None = []
puts_of (Some call) = call ∷ []

-- the calls of some turns on the store, on the input, on the output and on the error output, in
-- order
abbrev pub store_calls : List Turn → List StoreCall
store_calls turns = flat_map (λ turn. on_store turn.asked) turns

abbrev pub input_calls : List Turn → List TakeCall
input_calls turns = flat_map (λ turn. on_input turn.asked) turns

abbrev pub out_calls : List Turn → List PutCall
out_calls turns = flat_map (λ turn. on_out turn.asked) turns

abbrev pub err_calls : List Turn → List PutCall
err_calls turns = flat_map (λ turn. puts_of turn.told) turns

-- these bytes are faithful at a machine: they are the text of what it holds, a netlist that of its
-- network, and that refines what was read last
abbrev pub AreFaithful : Machine → List ℕ → Type 0
AreFaithful machine bytes =
    (written : Written) × IsTextOf machine.held written bytes × IsOfHeld machine.held written
    × (read : Spec) × (machine.spec ≡ Some read)
    × RefinesAs (of_spec read) (behavior_of machine.held written)

-- what a turn saves is faithful, whatever the save answers, and so is what a writing command puts
-- on the output; what `map` prints is the areas of a mapped netlist of the network
pub record IsFaithful (machine : Machine) (turn : Turn) : Type 0 where
  pub saved : (name bytes : List ℕ) (answer : Result (Unit {0}) SaveFault)
      → turn.asked ≡ OnStore (Save name bytes answer) → AreFaithful machine bytes
  pub put : (depth : ℕ) (op : Op) (call : PutCall) → next_work machine.todo ≡ Some (Run depth op)
      → IsWriting (form_of op) → turn.asked ≡ OnOut call → AreFaithful machine call.piece
  pub areas : (depth : ℕ) (op : Op) (call : PutCall) → next_work machine.todo ≡ Some (Run depth op)
      → IsMapping (form_of op) → turn.asked ≡ OnOut call → TellsAreas machine.held call.piece

-- the status of a call, unless memory ran out in the write of its last line
abbrev pub unless_memory : Status → Result (Unit {0}) PutFault → Status
unless_memory status (Ok done) = status
unless_memory status (Err put.Failed) = status
unless_memory status (Err put.Memory) = Memory

-- a call ends with a line and a status: the line was written, whole or in part as the answer says,
-- or memory ran out for it
abbrev pub EndsWith : List ℕ → Status → Option PutCall → Status → Type 0
EndsWith line ends (Some call) status = (call.piece ≡ line) × (status ≡ unless_memory ends call.answer)
EndsWith line ends None status = status ≡ Memory

-- the status of a run that was not cut short, by whether a work item was refused
abbrev pub status_of : Bool → Status
status_of true = Refused
status_of false = Done

-- the status of a run that was cut short
abbrev pub status_cut : Failed → Status
status_cut failed.Memory = Memory
status_cut failed.Store = Fault
status_cut failed.Input = Fault
status_cut failed.Out = Fault
status_cut failed.Err = Fault

-- how a call ends whose run came to its end, by what cut the run short, which a last line reports
abbrev pub Ends : Option Stop → Bool → Option PutCall → Status → Type 0
Ends None refused last status = (last ≡ None) × (status ≡ status_of refused)
Ends (Some stop) refused last status = EndsWith (failure_line stop) (status_cut stop.what) last status

-- all was done, or something failed, or memory ran out
abbrev pub IsDoneBut : Status → Type 0
IsDoneBut status = (status ≡ Done) ⊎ ((status ≡ Fault) ⊎ (status ≡ Memory))

-- A call that runs a script: some turns are a run from its begin to its end, after which nothing is
-- due; each object of the outside went by exactly the calls of these turns, the error output also
-- by the write of the last line after them; all that was written is faithful; and if each turn is
-- served, nothing was refused.
pub record IsRun (goes_on : Bool) (script : TheScript) (store : List StoreCall → Type 0) (input : List TakeCall → Type 0) (out err : List PutCall → Type 0) (status : Status) : Type 0 where
  pub turns : List Turn
  pub end : Machine
  pub runs : Runs goes_on (begun script) turns end
  pub finished : end.todo ≡ []
  pub last : Option PutCall
  pub ends : Ends end.cut end.refused last status
  pub store_went : store (store_calls turns)
  pub input_went : input (input_calls turns)
  pub out_went : out (out_calls turns)
  pub err_went : err (err_calls turns ++ puts_of last)
  pub faithful : AtEach goes_on IsFaithful (begun script) turns
  pub served : AtEach goes_on IsServedTurn (begun script) turns → IsDoneBut status

-- A call whose words are not accepted: the usage line is written, or memory ran out before that;
-- nothing else is asked of the outside.
pub record IsUnused (store : List StoreCall → Type 0) (input : List TakeCall → Type 0) (out err : List PutCall → Type 0) (status : Status) : Type 0 where
  pub last : Option PutCall
  pub ends : EndsWith usage_line Usage last status
      ⊎ EndsWith (failure_line (record { line = 0; what = failed.Memory })) Memory last status
  pub store_went : store []
  pub input_went : input []
  pub out_went : out []
  pub err_went : err (puts_of last)

-- a call, by what its words ask for
unfoldable pub IsCall : Option TheOptions → (List StoreCall → Type 0) → (List TakeCall → Type 0) → (List PutCall → Type 0) → (List PutCall → Type 0) → Status → Type 0
IsCall None store input out err status = IsUnused store input out err status
IsCall (Some options) store input out err status = IsRun options.keep options.script store input out err status

-- the object that is named failed, and its count rose
abbrev pub CountOf : (store input out err : Type 0) → Failed → Type 0
CountOf store input out err failed.Store = store
CountOf store input out err failed.Input = input
CountOf store input out err failed.Out = out
CountOf store input out err failed.Err = err
CountOf store input out err failed.Memory = ⊥

-- A fault names its object: the last line on the error output says what failed, and that object's
-- count rose.
pub record NamesFault (rose : Failed → Type 0) (err : List PutCall → Type 0) : Type 0 where
  pub stop : Stop
  pub counted : rose stop.what
  pub lines : List PutCall
  pub last : PutCall
  pub went : err (lines ++ last ∷ [])
  pub names : last.piece ≡ failure_line stop

-- why a work item was refused: a script that is a file is missing, which was counted, or too long;
-- a script that is a text or the input is too long; a command is refused for its own reasons
abbrev pub CauseOf : Type 0 → Work → Refusal → Type 0
CauseOf missed (Begin (InFile name)) why = ((why ≡ Missing name) × missed) ⊎ (why ≡ TooLong name)
CauseOf missed (Begin script) why = why ≡ LongScript
CauseOf missed (Run depth op) why = (asked : Asked) × (held : Held) × Steps (Plans depth held op) asked (RefusedFor why)

-- A refusal names its cause: some line on the error output is that of a work item that was refused.
pub record NamesRefusal (missed : Type 0) (err : List PutCall → Type 0) : Type 0 where
  pub due : Due
  pub why : Refusal
  pub cause : CauseOf missed due.work why
  pub lines : List PutCall
  pub told : PutCall
  pub more : List PutCall
  pub went : err (lines ++ told ∷ more)
  pub names : told.piece ≡ refusal_line due.line why
