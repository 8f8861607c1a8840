-- What follows for whole calls: no call failed if the call ended with its run; over files that are
-- shown, a run whose turns are served is done; and two runs whose equal requests are answered the
-- same are equal, unless memory runs out or a function is too big. Source: the project's own
-- promise.
use Rattle.std.specs.Prelude.{◌≡◌, ◌≤◌, ℕ, Bool, Option, Some, None, List, [], ◌∷◌, ◌++◌, length, Result, Ok, codes}
use Rattle.std.specs.List.{AllByRecursion}
use Rattle.sis_outside.specs.Calls.{StoreCall, Load, Save, TakeCall, PutCall, FilesGo, LeftGoes, Follows, IsStoreWithin}
use Rattle.sis_outside.specs.Files.{Files, file_at}
use Rattle.sis_text.specs.Entries.{entries_of}
use Rattle.circuit_model.specs.declared.circuit.Circuit.{Circuit}
use Rattle.circuit_model.specs.declared.machine.Spec.TheVariants as spec
use Rattle.blif_read.specs.Reader.{read_lines}
use Rattle.sis_top.specs.Asked.{TheOptions, TheScript, AsText, OnInput}
use Rattle.sis_session.specs.Plan.{MAX_BYTES, Asked, OnStore, OnOut, OnInput as FromInput, Cut, Refused as Ended}
use Rattle.sis_session.specs.Keeping.{EndsTooBig}
use Rattle.sis_session.specs.declared.refusal.Failed.TheVariants.{Memory as NoMemory}
use Rattle.sis_session.specs.declared.refusal.Refusal.{Refusal}
use Rattle.sis_top.specs.Machine.{Machine, Turn, IsTurn, Runs, begun}
use Rattle.sis_top.specs.Call.{IsDoneBut, input_calls, store_calls}
use Rattle.sis_top.specs.Served.{IsServedTurn}
use Rattle.sis_top.specs.declared.status.Status.{Status}
use Rattle.sis_top.specs.declared.status.Status.TheVariants.{Done, Refused, Usage, Fault, Memory}

-- a call ended with its run, which was not cut short
abbrev pub HasEnding : Status → Type 0
HasEnding Done = Unit {0}
HasEnding Refused = Unit {0}
HasEnding Usage = ⊥
HasEnding Fault = ⊥
HasEnding Memory = ⊥

-- the script is to be taken off the input
abbrev pub AsksInput : Option TheOptions → Type 0
AsksInput None = ⊥
AsksInput (Some options) = options.script ≡ OnInput

-- over these files, and over this input if the script is taken off it, each turn that the machine
-- can reach is served
abbrev pub AreServed : Bool → TheScript → Files → List ℕ → Type 0
AreServed goes_on script files left =
    (turns : List Turn) (machine : Machine) (turn : Turn)
    → Runs goes_on (begun script) turns machine → IsTurn machine turn
    → ((after : Files) × Follows FilesGo files after (store_calls (turns ++ turn ∷ [])))
    → (script ≡ OnInput → (after : List ℕ) × Follows LeftGoes left after (input_calls (turns ++ turn ∷ [])))
    → IsServedTurn machine turn

-- if that is so, all is done, unless something fails or memory runs out
abbrev pub Completes : Option TheOptions → Files → List ℕ → Status → Type 0
Completes None files left status = Unit {0}
Completes (Some options) files left status =
    AreServed options.keep options.script files left → IsDoneBut status

-- a script that reads a circuit, prints its size and writes it
abbrev pub copying : List ℕ
copying = codes "read_blif a; print_stats; write_blif b"

-- over files with a good circuit, such a script is served
abbrev pub CopiesAreServed : Type 0
CopiesAreServed =
    (goes_on : Bool) (files : Files) (left bytes : List ℕ) (circuit : Circuit)
    → file_at files (codes "a") ≡ Some bytes → length bytes ≤ MAX_BYTES
    → read_lines None (entries_of bytes) ≡ Ok (spec.Circuit circuit)
    → AreServed goes_on (AsText copying) files left

-- no function was too big in a turn
pub record HasFitted (turn : Turn) : Type 0 where
  pub fits : EndsTooBig turn.ending → ⊥

-- memory did not run out in a turn, nor for the line of its refusal; and no function was too big
pub record HasRoom (turn : Turn) : Type 0 where
  pub whole : turn.ending ≡ Cut NoMemory → ⊥
  pub told : (why : Refusal) → turn.ending ≡ Ended why → turn.told ≡ None → ⊥
  pub fitted : HasFitted turn

-- takes of the same bounds were answered the same, one after the other
abbrev pub TakesAlike : List TakeCall → List TakeCall → Type 0
TakesAlike (one ∷ ones) (other ∷ others) = (one.max ≡ other.max → one.answer ≡ other.answer) × TakesAlike ones others
TakesAlike ones others = Unit {0}

-- the same request of the outside was answered the same
abbrev pub CallsAlike : StoreCall → StoreCall → Type 0
CallsAlike (Load name max answer) (Load name' max' answer') = name ≡ name' → max ≡ max' → answer ≡ answer'
CallsAlike (Save name bytes answer) (Save name' bytes' answer') = name ≡ name' → bytes ≡ bytes' → answer ≡ answer'
CallsAlike one other = Unit {0}

abbrev pub PutsAlike : PutCall → PutCall → Type 0
PutsAlike one other = one.piece ≡ other.piece → one.answer ≡ other.answer

abbrev pub AnswersAlike : Asked → Asked → Type 0
AnswersAlike (OnStore one) (OnStore other) = CallsAlike one other
AnswersAlike (OnOut one) (OnOut other) = PutsAlike one other
AnswersAlike (FromInput ones) (FromInput others) = TakesAlike ones others
AnswersAlike one other = Unit {0}

abbrev pub LinesAlike : Option PutCall → Option PutCall → Type 0
LinesAlike (Some one) (Some other) = PutsAlike one other
LinesAlike one other = Unit {0}

-- in two runs, as far as both go, equal requests got equal answers
abbrev pub AreAlike : List Turn → List Turn → Type 0
AreAlike (one ∷ ones) (other ∷ others) =
    AnswersAlike one.asked other.asked × LinesAlike one.told other.told × AreAlike ones others
AreAlike ones others = Unit {0}

-- some turns are a whole run of a script over files that are shown: nothing is due after it,
-- nothing cut it short, no function was too big, the files went by its calls, and each load is
-- within what was asked for
pub record IsRunOver (goes_on : Bool) (script : TheScript) (files : Files) (turns : List Turn) : Type 0 where
  pub end : Machine
  pub runs : Runs goes_on (begun script) turns end
  pub whole : end.todo ≡ []
  pub uncut : end.cut ≡ None
  pub fitted : AllByRecursion HasFitted turns
  pub later : Files
  pub went : Follows FilesGo files later (store_calls turns)
  pub within : AllByRecursion IsStoreWithin (store_calls turns)
