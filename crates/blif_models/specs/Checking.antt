-- The lines of the models of a file, each taken into a draft of its model and checked besides. Only
-- clauses of this crate's own functions cite this module.
use Rattle.std.specs.Prelude.{◌≡◌, ℕ, Option, Some, None, Result, Ok, Err, List, [], ◌∷◌, map, take}
use Rattle.sis_text.specs.Entries.{Entry}
use Rattle.genlib_format.specs.declared.gate.Gate.{Gate}
use Rattle.blif_lines.specs.declared.draft.Draft.{Draft}
use Rattle.blif_lines.specs.declared.fault.BlifFault.{BlifFault}
use Rattle.sis_text.specs.declared.read_fault.ReadFault.{ReadFault}
use Rattle.sis_text.specs.declared.read_fault.ReadFault.TheVariants as read_fault
use Rattle.blif_lines.specs.Keyword.{kind_of}
use Rattle.blif_lines.specs.Reader.{model_name, unless}
use Rattle.blif_lines.specs.Steps.{take_entry, onward}
use Rattle.blif_models.specs.Reader.{later_fault}

-- the names of the models before an index
abbrev pub names_before : List (List Entry) → ℕ → List (List ℕ)
names_before models place = map model_name (take place models)

-- the draft with one more line of a model, or what is wrong with the line, by the names of earlier
-- models
unfoldable pub check_entry : Option (List Gate) → List (List ℕ) → Draft → Entry → Result Draft BlifFault
check_entry library earlier draft line = onward (take_entry library draft line) (λ next. unless (later_fault earlier (kind_of line) line) next)

-- the draft with more lines of a model, up to the first that has a fault
unfoldable pub check_entries : Option (List Gate) → List (List ℕ) → Draft → List Entry → Result Draft BlifFault
check_entries library earlier draft [] = Ok draft
check_entries library earlier draft (line ∷ lines) = onward (check_entry library earlier draft line) (λ next. check_entries library earlier next lines)

-- an answer, compared with the fault that it should be; want of memory is always allowed
abbrev pub Checks : {A : Type 0} → Result A (ReadFault BlifFault) → Option BlifFault → Type 0
Checks (Ok answer) fault = fault ≡ None
Checks (Err (read_fault.Fault one)) fault = fault ≡ Some one
Checks (Err read_fault.Memory) fault = Unit {0}
