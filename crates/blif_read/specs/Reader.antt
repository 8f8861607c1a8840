-- What a file's logical lines are read as: the first fault, or the circuit or the machine that they
-- describe. Source: BLIF appendix of the SIS report (UCB/ERL M92/41): a file is a list of models, of
-- which the first is read, with each instance of another in its place; a first model with a state
-- table and without a table, a latch, a gate or a `.subckt` line of its own is that machine, under
-- the model's names of ports. The made names of ports that no line lists, and the order of the
-- causes, are the project's own.
use Rattle.std.specs.Prelude.{◌≡◌, ℕ, not, ◌==◌, Option, Some, None, Result, Ok, Err, List, [], ◌∷◌, length, find, unwrap_or}
use Rattle.std.specs.Option.{option_map, option_or}
use Rattle.circuit_model.specs.Names.{has}
use Rattle.sis_text.specs.Entries.{Entry}
use Rattle.genlib_format.specs.declared.gate.Gate.{Gate}
use Rattle.circuit_model.specs.declared.machine.Machine.{Machine}
use Rattle.circuit_model.specs.declared.machine.Spec.{Spec}
use Rattle.circuit_model.specs.declared.machine.Spec.TheVariants as spec
use Rattle.kiss_format.specs.declared.fault.KissFault.{KissFault}
use Rattle.kiss_format.specs.declared.fault.KissFault.TheVariants.{BadHeader}
use Rattle.kiss_format.specs.Reader.{read_machine_lines, inputs_line, outputs_line}
use Rattle.blif_lines.specs.Lines.{when, first_of}
use Rattle.blif_lines.specs.Reader.{unless}
use Rattle.blif_lines.specs.declared.content.Head.{Head}
use Rattle.blif_lines.specs.declared.content.Content.{Content}
use Rattle.blif_lines.specs.declared.content.Content.TheVariants as content
use Rattle.blif_lines.specs.declared.fault.BlifFault.{BlifFault}
use Rattle.blif_lines.specs.declared.fault.BlifFault.TheVariants.{BadKiss, NameTwice}
use Rattle.sis_text.specs.declared.read_fault.ReadFault.{ReadFault}
use Rattle.sis_text.specs.declared.read_fault.ReadFault.TheVariants as read_fault
use Rattle.blif_models.specs.Reader.{read_models}
use Rattle.blif_read.specs.Parts.{kiss_lines, lines_beside}

-- a line that gives another number of ports than are listed is a bad header; a state table that is
-- read has such a line
abbrev pub count_fault : Option (List (List ℕ)) → List (List ℕ) → Option ℕ → Option BlifFault
count_fault None made line = None
count_fault (Some listed) made line = when (not (length listed == length made)) (BadKiss (BadHeader (unwrap_or line 0)))

-- the first of the names that are listed for one kind of ports that is one of the made names of the
-- other kind
abbrev pub made_again : Option (List (List ℕ)) → Option (List (List ℕ)) → List (List ℕ) → Option (List ℕ)
made_again (Some listed) None made = find (has made) listed
made_again listed other made = None

-- the first name that is listed and made
abbrev pub made_twice : Head → Machine → Option (List ℕ)
made_twice head machine = option_or (made_again head.inputs head.outputs machine.outputs) (made_again head.outputs head.inputs machine.inputs)

-- what is wrong with a state table, given the head of its machine
unfoldable pub machine_fault : Head → List Entry → Machine → Option BlifFault
machine_fault head part machine = first_of
    (count_fault head.inputs machine.inputs (inputs_line part) ∷ count_fault head.outputs machine.outputs (outputs_line part)
    ∷ option_map (λ name. NameTwice name) (made_twice head machine) ∷ [])

-- a machine under the names of a head; ports that are not listed keep their made names
abbrev pub named : Head → Machine → Machine
named head machine = record machine {
  name = head.name;
  inputs = unwrap_or head.inputs machine.inputs;
  outputs = unwrap_or head.outputs machine.outputs;
}

-- what a head and the state table of the part are read as
abbrev pub machine_with : Head → List Entry → Result Machine KissFault → Result Spec BlifFault
machine_with head part (Err fault) = Err (BadKiss fault)
machine_with head part (Ok machine) = unless (machine_fault head part machine) (spec.Machine (named head machine))

-- what the content of the first model and the lines of its KISS2 part are read as: a circuit is read as
-- itself, and the part is skipped
abbrev pub spec_with : List Entry → Result Content BlifFault → Result Spec BlifFault
spec_with part (Err fault) = Err fault
spec_with part (Ok (content.Circuit circuit)) = Ok (spec.Circuit circuit)
spec_with part (Ok (content.Head head)) = machine_with head part (read_machine_lines part)

-- what a file's logical lines are read as, with a library if there is one
unfoldable pub read_lines : Option (List Gate) → List Entry → Result Spec BlifFault
read_lines library lines = spec_with (kiss_lines lines) (read_models library (lines_beside lines))

-- what a reader answers, compared with what it should; want of memory is always allowed
abbrev pub Reads : Result Spec (ReadFault BlifFault) → Result Spec BlifFault → Type 0
Reads (Ok read) should = should ≡ Ok read
Reads (Err (read_fault.Fault fault)) should = should ≡ Err fault
Reads (Err read_fault.Memory) should = Unit {0}
