-- When a turn has what it needs so that it is not refused. Source: the project's own promise; the
-- session says what each command needs.
use Rattle.std.specs.Prelude.{◌≡◌, ◌⊎◌, ℕ, ◌≤◌, Option, Some, None, List, [], length, flat_map, Result, Ok, Err}
use Rattle.sis_outside.specs.Calls.{Load, Save, TakeCall}
use Rattle.sis_outside.specs.declared.store.LoadFault.{LoadFault}
use Rattle.sis_outside.specs.declared.store.LoadFault.TheVariants as load
use Rattle.sis_outside.specs.declared.source.TakeFault.{TakeFault}
use Rattle.sis_top.specs.Asked.{TheScript, InFile, AsText, OnInput}
use Rattle.sis_session.specs.Keeping.{IsServed}
use Rattle.sis_session.specs.Plan.{MAX_BYTES, Asked, OnStore, OnOut, OnInput as FromInput}
use Rattle.sis_session.specs.State.{Held}
use Rattle.sis_top.specs.Machine.{Begin, Run, Work, Machine, Turn, next_work}

-- a load returns a file, unless it fails or memory runs out
abbrev pub GivesFile : Result (List ℕ) LoadFault → Type 0
GivesFile (Ok bytes) = Unit {0}
GivesFile (Err load.Missing) = ⊥
GivesFile (Err (load.TooLong reached)) = ⊥
GivesFile (Err load.Failed) = Unit {0}
GivesFile (Err load.Memory) = Unit {0}

-- the bytes that some takes gave
abbrev pub bytes_in : Result (List ℕ) TakeFault → List ℕ
bytes_in (Ok piece) = piece
bytes_in (Err fault) = []

abbrev pub taken : List TakeCall → List ℕ
taken calls = flat_map (λ call. bytes_in call.answer) calls

-- the script is there, and no longer than the limit
abbrev pub HasScript : TheScript → Asked → Type 0
HasScript (InFile name) (OnStore (Load file max answer)) = GivesFile answer
HasScript (AsText text) asked = length text ≤ MAX_BYTES
HasScript OnInput (FromInput calls) = length (taken calls) ≤ MAX_BYTES
HasScript script asked = Unit {0}

-- a call was not answered: it failed, or memory ran out
abbrev pub IsUnanswered : Asked → Type 0
IsUnanswered (OnStore (Load name max (Err load.Failed))) = Unit {0}
IsUnanswered (OnStore (Load name max (Err load.Memory))) = Unit {0}
IsUnanswered (OnStore (Save name bytes (Err fault))) = Unit {0}
IsUnanswered (OnOut call) = (fault : _) × (call.answer ≡ Err fault)
IsUnanswered asked = ⊥

-- a turn's work item has what it needs so that it is not refused, unless a call was not answered
abbrev pub IsServedWork : Held → Work → Asked → Type 0
IsServedWork held (Begin script) asked = HasScript script asked
IsServedWork held (Run depth op) asked = IsServed depth held op asked ⊎ IsUnanswered asked

abbrev pub IsServedFirst : Held → Option Work → Asked → Type 0
IsServedFirst held None asked = Unit {0}
IsServedFirst held (Some work) asked = IsServedWork held work asked

abbrev pub IsServedTurn : Machine → Turn → Type 0
IsServedTurn machine turn = IsServedFirst machine.held (next_work machine.todo) turn.asked
