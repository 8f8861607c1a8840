-- What holds of what is read, by what holds of the model and of the table of its KISS2 part.
use Rattle.std.proofs.Common.{◌≡◌, ℕ, ◌≤◌, true, Option, Some, None, Result, Ok, Err, List, [], ◌∷◌, length, IfOk, refl, sym, ◌∙◌, subst}
use Rattle.std.specs.List.{AllByRecursion}
use Rattle.std.specs.Option.{option_map, option_or}
use Rattle.sis_base.specs.Written.{is_word}
use Rattle.sis_text.specs.Entries.{Entry}
use Rattle.genlib_format.specs.declared.gate.Gate.{Gate}
use Rattle.circuit_model.specs.declared.circuit.Circuit.{Circuit}
use Rattle.circuit_model.specs.MachineSoundness.{IsSoundMachine, IsShaped}
use Rattle.circuit_model.specs.declared.machine.Machine.{Machine}
use Rattle.circuit_model.specs.declared.machine.Spec.{Spec}
use Rattle.circuit_model.specs.declared.machine.Spec.TheVariants as spec
use Rattle.kiss_format.specs.Reader.{read_machine_lines, inputs_line, outputs_line}
use Rattle.kiss_format.specs.Trips.{IsWithinLimits as IsSmallMachine}
use Rattle.kiss_format.specs.declared.fault.KissFault.{KissFault}
use Rattle.kiss_format.proofs.Sound.{read_sound, read_short, read_limited}
use Rattle.blif_lines.specs.Libraries.{IsSoundLibrary}
use Rattle.blif_lines.specs.Heads.{IsSoundHead}
use Rattle.blif_lines.specs.Lines.{first_of}
use Rattle.blif_lines.specs.Reader.{unless}
use Rattle.blif_lines.specs.declared.content.Head.{Head}
use Rattle.blif_lines.specs.declared.content.Content.{Content}
use Rattle.blif_lines.specs.declared.content.Content.TheVariants as content
use Rattle.blif_lines.specs.declared.fault.BlifFault.{BlifFault}
use Rattle.blif_lines.specs.declared.fault.BlifFault.TheVariants.{BadKiss, NameTwice}
use Rattle.sis_text.specs.declared.read_fault.ReadFault.{ReadFault}
use Rattle.sis_text.specs.declared.read_fault.ReadFault.TheVariants.{Fault, Memory}
use Rattle.blif_lines.proofs.NameLists.{all_kept}
use Rattle.blif_models.specs.Reader.{read_models}
use Rattle.blif_models.proofs.WhatIsRead.{sound_models, sound_head_models, small_models, short_models, short_head_models}
use Rattle.blif_read.specs.Limits.{IsSoundSpec, IsSmallSpec, HasShortSpec}
use Rattle.blif_read.specs.Parts.{kiss_lines, lines_beside}
use Rattle.blif_read.specs.Reader.{count_fault, made_again, made_twice, machine_fault, named, machine_with, spec_with, read_lines, Reads}
use Rattle.blif_read.proofs.PartWords.{kiss_holds, model_holds}
use Rattle.blif_read.proofs.Ports.{names_hold, same_count, ports_once}
use Rattle.sis_base.specs.declared.limits.TheConstants.{MAX_NAME, MAX_PORTS}

-- a result without a fault
abbrev ok : {A : Type 0} → A → Result A BlifFault
ok a = Ok a

same_ok : {A : Type 0} (a b : A) → ok a ≡ ok b → a ≡ b
same_ok a b e = cc

-- what holds of what is read, by what it is read from

machine_holds : (P : Spec → Type 0) (head : Head) (part : List Entry) (table : Result Machine KissFault) (read : Spec) → machine_with head part table ≡ Ok read
    → ((machine : Machine) → table ≡ Ok machine → machine_fault head part machine ≡ None → P (spec.Machine (named head machine))) → P read
machine_holds P head part (Err fault) read e holds = absurd (let no : Err (BadKiss fault) ≡ ok read = e in cc)
machine_holds P head part (Ok machine) read e holds = by (machine_fault head part machine) refl e
  where
    by : (fault : Option BlifFault) → machine_fault head part machine ≡ fault → unless fault (spec.Machine (named head machine)) ≡ Ok read → P read
    by None none same = subst P (same_ok (spec.Machine (named head machine)) read same) (holds machine refl none)
    by (Some fault) some same = absurd (let no : Err fault ≡ ok read = same in cc)

spec_holds : (P : Spec → Type 0) (part : List Entry) (model : Result Content BlifFault) (read : Spec) → spec_with part model ≡ Ok read
    → ((circuit : Circuit) → model ≡ Ok (content.Circuit circuit) → P (spec.Circuit circuit))
    → ((head : Head) (machine : Machine) → model ≡ Ok (content.Head head) → read_machine_lines part ≡ Ok machine → machine_fault head part machine ≡ None → P (spec.Machine (named head machine)))
    → P read
spec_holds P part (Err fault) read e circuits machines = absurd (let no : Err fault ≡ ok read = e in cc)
spec_holds P part (Ok (content.Circuit circuit)) read e circuits machines = subst P (same_ok (spec.Circuit circuit) read e) (circuits circuit refl)
spec_holds P part (Ok (content.Head head)) read e circuits machines =
    machine_holds P head part (read_machine_lines part) read e (λ machine table none. machines head machine refl table none)

read_holds : (P : Spec → Type 0) (library : Option (List Gate)) (lines : List Entry) (read : Spec) → read_lines library lines ≡ Ok read
    → ((circuit : Circuit) → read_models library (lines_beside lines) ≡ Ok (content.Circuit circuit) → P (spec.Circuit circuit))
    → ((head : Head) (machine : Machine) → read_models library (lines_beside lines) ≡ Ok (content.Head head) → read_machine_lines (kiss_lines lines) ≡ Ok machine
    → machine_fault head (kiss_lines lines) machine ≡ None → P (spec.Machine (named head machine)))
    → P read
unfolding read_lines
read_holds P library lines read e circuits machines = spec_holds P (kiss_lines lines) (read_models library (lines_beside lines)) read e circuits machines

pub reads_hold : (P : Spec → Type 0) (result : Result Spec (ReadFault BlifFault)) (should : Result Spec BlifFault) → Reads result should → ((read : Spec) → should ≡ Ok read → P read) → IfOk result P
reads_hold P (Ok read) should reads holds = holds read reads
reads_hold P (Err (Fault fault)) should reads holds = tt
reads_hold P (Err Memory) should reads holds = tt

-- a machine under the names of a head

none_first : (cause : Option BlifFault) (causes : List (Option BlifFault)) → first_of (cause ∷ causes) ≡ None → (cause ≡ None) × (first_of causes ≡ None)
unfolding first_of
none_first None causes e = (refl, e)
none_first (Some fault) causes e = absurd (let no : Some fault ≡ None = e in cc)

none_named : (name : Option (List ℕ)) → option_map (λ name. NameTwice name) name ≡ None → name ≡ None
none_named None e = refl
none_named (Some name) e = absurd (let no : Some (NameTwice name) ≡ None = e in cc)

none_either : (one other : Option (List ℕ)) → option_or one other ≡ None → (one ≡ None) × (other ≡ None)
none_either None other e = (refl, e)
none_either (Some name) other e = absurd (let no : Some name ≡ None = e in cc)

-- there is no fault: the numbers of ports agree, and no name is listed and made
record HasNoFault (head : Head) (machine : Machine) : Type 0 where
  inputs : length (named head machine).inputs ≡ length machine.inputs
  outputs : length (named head machine).outputs ≡ length machine.outputs
  input : made_again head.inputs head.outputs machine.outputs ≡ None
  output : made_again head.outputs head.inputs machine.inputs ≡ None

no_fault : (head : Head) (part : List Entry) (machine : Machine) → machine_fault head part machine ≡ None → HasNoFault head machine
unfolding machine_fault
no_fault head part machine e =
    let names = option_map (λ name. NameTwice name) (made_twice head machine) in
    let ins = none_first (count_fault head.inputs machine.inputs (inputs_line part)) (count_fault head.outputs machine.outputs (outputs_line part) ∷ names ∷ []) e in
    let outs = none_first (count_fault head.outputs machine.outputs (outputs_line part)) (names ∷ []) ins.1 in
    let last = none_first names [] outs.1 in
    let apart = none_either (made_again head.inputs head.outputs machine.outputs) (made_again head.outputs head.inputs machine.inputs) (none_named (made_twice head machine) last.0) in
    record {
      inputs = same_count head.inputs machine.inputs (inputs_line part) ins.0;
      outputs = same_count head.outputs machine.outputs (outputs_line part) outs.0;
      input = apart.0;
      output = apart.1;
    }

named_sound : (head : Head) (machine : Machine) → HasNoFault head machine → IsSoundHead head → IsSoundMachine machine → IsSoundMachine (named head machine)
named_sound head machine none listed sound = record {
  words = names_hold (λ name. is_word name ≡ true) head machine listed.words sound.words;
  ports_once = ports_once head.inputs head.outputs machine.inputs machine.outputs listed.once sound.ports_once none.input none.output;
  some_inputs = subst (λ n. 1 ≤ n) (sym none.inputs) sound.some_inputs;
  few_inputs = subst (λ n. n ≤ MAX_PORTS) (sym none.inputs) sound.few_inputs;
  some_outputs = subst (λ n. 1 ≤ n) (sym none.outputs) sound.some_outputs;
  few_outputs = subst (λ n. n ≤ MAX_PORTS) (sym none.outputs) sound.few_outputs;
  some_rows = sound.some_rows;
  few_rows = sound.few_rows;
  states_once = sound.states_once;
  states_named = sound.states_named;
  in_order = sound.in_order;
  reset = sound.reset;
  shaped = all_kept (IsShaped machine) (IsShaped (named head machine)) machine.rows
      (λ row is. record { input = is.input ∙ sym none.inputs; output = is.output ∙ sym none.outputs }) sound.shaped;
  apart = sound.apart;
}

named_small : (head : Head) (machine : Machine) → IsSmallMachine machine → IsSmallMachine (named head machine)
named_small head machine small = record { rows = small.rows; states = small.states; short = small.short }

-- what is read is sound and small, since the model and the table are

abbrev AreWords : List Entry → Type 0
AreWords lines = AllByRecursion (λ (line : Entry). AllByRecursion (λ word. is_word word ≡ true) line.words) lines

pub spec_sound : (library : Option (List Gate)) (lines : List Entry) (read : Spec) → AreWords lines → read_lines library lines ≡ Ok read → IsSoundSpec read
spec_sound library lines read words e =
    let of_model = model_holds (λ (line : Entry). AllByRecursion (λ word. is_word word ≡ true) line.words) lines words in
    read_holds IsSoundSpec library lines read e (λ circuit model. sound_models library (lines_beside lines) circuit of_model model)
    (λ head machine model table none. named_sound head machine (no_fault head (kiss_lines lines) machine none) (sound_head_models library (lines_beside lines) head of_model model)
    (read_sound (kiss_lines lines) machine (kiss_holds (λ (line : Entry). AllByRecursion (λ word. is_word word ≡ true) line.words) lines words) table))

pub spec_small : (library : Option (List Gate)) (lines : List Entry) (read : Spec) → IsSoundLibrary library → read_lines library lines ≡ Ok read → IsSmallSpec read
spec_small library lines read known e =
    read_holds IsSmallSpec library lines read e (λ circuit model. small_models library (lines_beside lines) circuit known model)
    (λ head machine model table none. named_small head machine (read_limited (kiss_lines lines) machine table))

pub spec_short : (library : Option (List Gate)) (lines : List Entry) (read : Spec) → read_lines library lines ≡ Ok read → HasShortSpec read
spec_short library lines read e =
    read_holds HasShortSpec library lines read e (λ circuit model. short_models library (lines_beside lines) circuit model)
    (λ head machine model table none.
    names_hold (λ (name : List ℕ). length name ≤ MAX_NAME) head machine (short_head_models library (lines_beside lines) head model).names (read_short (kiss_lines lines) machine table))
