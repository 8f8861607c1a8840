-- What is read is sound: the lists of the draft have what the checks need of its tables and
-- latches.

use Rattle.std.specs.Prelude.{◌≡◌, ℕ, zero, suc, ◌+◌, ◌≤◌, ◌<◌, Bool, true, false, not, ◌||◌, Option, Some, None, List, [], ◌∷◌, ◌++◌, map, find, bytes_eq, codes, option_to_list, unwrap_or, if◌then◌else◌}
use Rattle.std.specs.List.{AllByRecursion, filter}
use Rattle.std.specs.Option.{option_map}
use Rattle.std.proofs.Common.{refl, sym, ◌∙◌, ap, arith}
use Rattle.std.proofs.lemmas.Grind.{flat_map-append}
use Rattle.std.proofs.lemmas.List.{append-nil, map-append}
use Rattle.std.proofs.lemmas.List.Folds.{list_any-append}
use Rattle.sis_base.specs.Written.{is_word}
use Rattle.circuit_model.specs.Names.{has, all_different}
use Rattle.circuit_model.specs.Soundness.{outputs_of, table_inputs, control_of, given, taken, IsShaped, IsSound}
use Rattle.circuit_model.specs.declared.circuit.Timing.{Timing}
use Rattle.circuit_model.specs.declared.circuit.Table.{Table}
use Rattle.circuit_model.specs.declared.circuit.Latch.{Latch as TheLatch}
use Rattle.circuit_checks.specs.NameChecks.{first_again, first_missing, first_listed_twice}
use Rattle.circuit_checks.specs.Cycles.{first_on_cycle}
use Rattle.circuit_checks.specs.PartChecks.{first_bad_part_name}
use Rattle.circuit_tables.specs.Folding.{folded}
use Rattle.genlib_format.specs.declared.gate.Gate.{Gate as TheGate}
use Rattle.blif_lines.specs.Heads.{listed_ports_of}
use Rattle.blif_lines.specs.Lines.{first_of, is_latch, joined, fault_as}
use Rattle.blif_lines.specs.Reader.{table_of, latch_of, latch_input, latch_output, timing_of, names_beside, listed_or, gate_tables, gate_inputs, listed_where, circuit_of, whole_fault, head_of, head_fault, timing_fault, drivers_fault, tables_fault, signals_fault, listed_fault, leaves_of, Told}
use Rattle.blif_lines.specs.Steps.{with_row, row_behind, tables_with, place_of, before_of, with_more, timing_with, with_line, no_lines, model_of, told_of, HasApartTables}
use Rattle.blif_lines.specs.declared.keyword.Keyword.{Keyword}
use Rattle.blif_lines.specs.declared.keyword.Keyword.TheVariants.{Model, Inputs, Outputs, Clock, Names, Latch, Gate, Subckt, StartKiss, DontCare, End, Skipped, Row, Other}
use Rattle.blif_lines.specs.declared.fault.BlifFault.{BlifFault}
use Rattle.blif_lines.specs.declared.fault.BlifFault.TheVariants.{NameTwice, MixedClock, GatedClock, TwoDrivers, Undriven, BadExdc, Cycle}
use Rattle.blif_lines.specs.declared.draft.Reading.{Reading}
use Rattle.blif_lines.specs.declared.draft.Draft.{Draft}
use Rattle.blif_lines.proofs.NameLists.{all_map, all_kept, all_among, all_of_has, none_found, times, times_both, never, not_there, there, some_times, different_once, once_different}
use Rattle.blif_lines.proofs.Faults.{not_mapped, right_latch, latch_begins, gate_begins, part_begins}
use Rattle.blif_lines.proofs.Growing.{more_own, more_kept}
use Rattle.blif_lines.proofs.Named.{Named, all_named}
use Rattle.blif_lines.proofs.Small.{IsSmallDraft, model_tables_are, part_tables_are}
use Rattle.blif_lines.proofs.Gates.{gate_reads}
use Rattle.circuit_tables.proofs.Once.{bytes_eq-sym, has-each_once, different-each_once}
use Rattle.circuit_tables.proofs.Folded.{folded_reads, folded_once, folded_shaped, folded_outputs, folded_acyclic}
use Rattle.circuit_checks.proofs.Bridges.{different_from_again, known_from_missing, inputs_from_listed, outputs_from_listed, acyclic_from_none}
use Rattle.circuit_checks.proofs.Parts.{part_sound}

abbrev pub inputs_of : List TheLatch → List (List ℕ)
inputs_of latches = map (λ (latch : TheLatch). latch.input) latches

abbrev pub states_of : List TheLatch → List (List ℕ)
states_of latches = map (λ (latch : TheLatch). latch.output) latches

abbrev pub read_names : List Table → List TheLatch → List (List ℕ) → List (List ℕ)
read_names tables latches outputs = table_inputs tables ++ (inputs_of latches ++ outputs)

-- the tables of the model, as they are written
abbrev pub own_tables : Draft → List Table
own_tables draft = model_of draft.has_part draft.model_tables (tables_with draft.tables draft.reading)

-- the ports are those that the inputs and the outputs have, the driven signals those that latches
-- and tables drive, and what a table, latch or output reads is among the read ones; timing goes
-- with latches, and its control is not `NIL`
pub record AreTold (listed inputs outputs driven read : List (List ℕ)) (timing : Option Timing) (latches : List TheLatch) (tables : List Table) : Type 0 where
  pub ports : (name : List ℕ) → times listed name ≡ times inputs name + times outputs name
  pub drives : (name : List ℕ) → times driven name ≡ times (states_of latches) name + times (outputs_of tables) name
  pub reads : (name : List ℕ) → 0 < times (table_inputs tables) name + (times (inputs_of latches) name + times outputs name) → 0 < times read name
  pub untimed : latches ≡ [] → timing ≡ None
  pub not_nil : has (control_of timing) (codes "NIL") ≡ false

abbrev pub IsToldDraft : Draft → Type 0
IsToldDraft draft = AreTold draft.ports draft.inputs draft.outputs draft.drives draft.reads draft.timing draft.latches (own_tables draft)

-- two numbers grow: the second is some where the first is
grown : (first second more others : ℕ) → (0 < first → 0 < second) → (0 < more → 0 < others) → 0 < first + more → 0 < second + others
grown zero second zero others h k s = absurd (omega arith)
grown zero second (suc more) others h k s = let some : 0 < others = k (omega arith) in omega arith
grown (suc first) second more others h k s = let some : 0 < second = h (omega arith) in omega arith

pub outputs_more : (tables : List Table) (table : Table) → outputs_of (tables ++ table ∷ []) ≡ outputs_of tables ++ table.output ∷ []
outputs_more tables table = map-append (λ (t : Table). t.output) tables (table ∷ [])

pub inputs_more : (tables : List Table) (table : Table) → table_inputs (tables ++ table ∷ []) ≡ table_inputs tables ++ table.inputs
inputs_more tables table =
    flat_map-append (λ (t : Table). t.inputs) tables (table ∷ []) ∙ ap (λ rest. table_inputs tables ++ rest) (append-nil table.inputs)

-- the names of a `.latch` line that is right
pub latch_states : (words : List (List ℕ)) → is_latch words ≡ true → states_of (latch_of words) ≡ latch_output words
latch_states [] e = absurd (cc)
latch_states (input ∷ []) e = absurd (cc)
latch_states (input ∷ output ∷ rest) e = refl

pub latch_reads : (words : List (List ℕ)) → is_latch words ≡ true → inputs_of (latch_of words) ≡ latch_input words
latch_reads [] e = absurd (cc)
latch_reads (input ∷ []) e = absurd (cc)
latch_reads (input ∷ output ∷ rest) e = refl

-- a name more for the model
times_more : (had : Bool) (names words : List (List ℕ)) (name : List ℕ) → had ≡ false → times (with_more had names words) name ≡ times names name + times words name
times_more had names words name h = ap (λ all. times all name) (more_own had names words h) ∙ times_both name names words

times_kept : (had : Bool) (names words : List (List ℕ)) (name : List ℕ) → had ≡ true → times (with_more had names words) name ≡ times names name
times_kept had names words name h = ap (λ all. times all name) (more_kept had names words h)

pub ports_both : (had : Bool) (ports inputs outputs words : List (List ℕ)) (name : List ℕ) → times ports name ≡ times inputs name + times outputs name → times (with_more had ports words) name ≡ times (with_more had inputs words) name + times outputs name
ports_both true ports inputs outputs words name e = omega (arith, times_kept true ports words name refl, times_kept true inputs words name refl)
ports_both false ports inputs outputs words name e = omega (arith, times_more false ports words name refl, times_more false inputs words name refl)

pub outs_both : (had : Bool) (ports inputs outputs words : List (List ℕ)) (name : List ℕ) → times ports name ≡ times inputs name + times outputs name → times (with_more had ports words) name ≡ times inputs name + times (with_more had outputs words) name
outs_both true ports inputs outputs words name e = omega (arith, times_kept true ports words name refl, times_kept true outputs words name refl)
outs_both false ports inputs outputs words name e = omega (arith, times_more false ports words name refl, times_more false outputs words name refl)

pub reads_outs : (had : Bool) (reads within latched outputs words : List (List ℕ)) (name : List ℕ) → (0 < times within name + (times latched name + times outputs name) → 0 < times reads name)
    → 0 < times within name + (times latched name + times (with_more had outputs words) name) → 0 < times (with_more had reads words) name
reads_outs true reads within latched outputs words name h s =
    let right = times_kept true outputs words name refl in
    let some : 0 < times reads name = h (omega (arith, right)) in
    omega (arith, some, times_kept true reads words name refl)
reads_outs false reads within latched outputs words name h s =
    let left = times_more false reads words name refl in
    let right = times_more false outputs words name refl in
    let some : 0 < times reads name + times words name = grown (times within name + (times latched name + times outputs name)) (times reads name) (times words name) (times words name) h (λ p. p) (omega (arith, right)) in
    omega (arith, some, left)

pub drives_table : (had : Bool) (drives states : List (List ℕ)) (model tables : List Table) (table : Table) (name : List ℕ) → times drives name ≡ times states name + times (outputs_of (model_of had model tables)) name
    → times (with_more had drives (table.output ∷ [])) name ≡ times states name + times (outputs_of (model_of had model (tables ++ table ∷ []))) name
drives_table true drives states model tables table name e = e
drives_table false drives states model tables table name e =
    let left : times (drives ++ table.output ∷ []) name ≡ times drives name + times (table.output ∷ []) name = times_both name drives (table.output ∷ []) in
    let right : times (outputs_of (tables ++ table ∷ [])) name ≡ times (outputs_of tables) name + times (table.output ∷ []) name =
    ap (λ names. times names name) (outputs_more tables table) ∙ times_both name (outputs_of tables) (table.output ∷ []) in
    omega arith

pub reads_table : (had : Bool) (reads latched outputs : List (List ℕ)) (model tables : List Table) (table : Table) (name : List ℕ) → (0 < times (table_inputs (model_of had model tables)) name + (times latched name + times outputs name) → 0 < times reads name)
    → 0 < times (table_inputs (model_of had model (tables ++ table ∷ []))) name + (times latched name + times outputs name) → 0 < times (with_more had reads table.inputs) name
reads_table true reads latched outputs model tables table name h s =
    let some : 0 < times reads name = h s in
    omega (arith, some, times_kept true reads table.inputs name refl)
reads_table false reads latched outputs model tables table name h s =
    let left = times_more false reads table.inputs name refl in
    let right : times (table_inputs (tables ++ table ∷ [])) name ≡ times (table_inputs tables) name + times table.inputs name =
    ap (λ names. times names name) (inputs_more tables table) ∙ times_both name (table_inputs tables) table.inputs in
    let some : 0 < times reads name + times table.inputs name = grown (times (table_inputs tables) name + (times latched name + times outputs name)) (times reads name) (times table.inputs name) (times table.inputs name) h (λ p. p) (omega arith) in
    omega (arith, some, left)

pub some_latches : (latches : List TheLatch) (words : List (List ℕ)) → is_latch words ≡ true → latches ++ latch_of words ≡ [] → ⊥
some_latches [] [] is e = cc
some_latches [] (input ∷ []) is e = cc
some_latches [] (input ∷ output ∷ rest) is e = cc
some_latches (latch ∷ latches) words is e = cc

pub nil_not : (words : List (List ℕ)) → has (control_of (timing_of words)) (codes "NIL") ≡ false
nil_not [] = refl
nil_not (input ∷ []) = refl
nil_not (input ∷ output ∷ []) = refl
nil_not (input ∷ output ∷ kind ∷ []) = refl
nil_not (input ∷ output ∷ kind ∷ control ∷ rest) = by (bytes_eq control (codes "NIL")) refl
  where
    by : (b : Bool) → bytes_eq control (codes "NIL") ≡ b → has (option_to_list (if b then None else Some control)) (codes "NIL") ≡ false
    by true e = refl
    by false e = ap (λ b. b || false) (bytes_eq-sym (codes "NIL") control ∙ e)

pub nil_with : (latches : List TheLatch) (timing own : Option Timing) → has (control_of timing) (codes "NIL") ≡ false → has (control_of own) (codes "NIL") ≡ false → has (control_of (timing_with latches timing own)) (codes "NIL") ≡ false
unfolding timing_with
nil_with [] timing own a b = b
nil_with (latch ∷ latches) timing own a b = a

pub told_latch : (library : Option (List TheGate)) (draft : Draft) (number : ℕ) (words whole : List (List ℕ)) → is_latch words ≡ true → draft.has_part ≡ false → IsToldDraft draft → IsToldDraft (with_line library Latch draft number words whole)
unfolding tables_with
told_latch library draft number words whole is own t = record {
  ports = t.ports;
  drives = λ name.
      let before : times draft.drives name ≡ times (states_of draft.latches) name + times (outputs_of (own_tables draft)) name = t.drives name in
      let left = times_more draft.has_part draft.drives (latch_output words) name own in
      let right : times (states_of (draft.latches ++ latch_of words)) name ≡ times (states_of draft.latches) name + times (latch_output words) name =
      ap (λ names. times names name) (map-append (λ (l : TheLatch). l.output) draft.latches (latch_of words)) ∙ (times_both name (states_of draft.latches) (states_of (latch_of words)) ∙ ap (λ names. times (states_of draft.latches) name + times names name) (latch_states words is)) in
      omega (arith, left);
  reads = λ name s.
      let left = times_more draft.has_part draft.reads (latch_input words) name own in
      let right : times (inputs_of (draft.latches ++ latch_of words)) name ≡ times (inputs_of draft.latches) name + times (latch_input words) name =
      ap (λ names. times names name) (map-append (λ (l : TheLatch). l.input) draft.latches (latch_of words)) ∙ (times_both name (inputs_of draft.latches) (inputs_of (latch_of words)) ∙ ap (λ names. times (inputs_of draft.latches) name + times names name) (latch_reads words is)) in
      let some : 0 < times draft.reads name + times (latch_input words) name =
      grown (times (table_inputs (own_tables draft)) name + (times (inputs_of draft.latches) name + times draft.outputs name)) (times draft.reads name) (times (latch_input words) name) (times (latch_input words) name) (t.reads name) (λ p. p) (omega arith) in
      omega (arith, left);
  untimed = λ e. absurd (some_latches draft.latches words is e);
  not_nil = nil_with draft.latches draft.timing (timing_of words) t.not_nil (nil_not words);
}

-- a gate's table comes after those of the model
pub told_gate : (library : Option (List TheGate)) (draft : Draft) (number : ℕ) (words whole : List (List ℕ)) → draft.has_part ≡ false → IsToldDraft draft → IsToldDraft (with_line library Gate draft number words whole)
unfolding tables_with
told_gate library draft number words whole own t =
    let before : List Table = tables_with draft.tables draft.reading in
    let more : List Table = gate_tables library words in
    let old : own_tables draft ≡ before = ap (λ b. model_of b draft.model_tables before) own in
    let new : model_of draft.has_part draft.model_tables (before ++ more) ≡ before ++ more = ap (λ b. model_of b draft.model_tables (before ++ more)) own in
    record {
      ports = t.ports;
      drives = λ name.
          let was : times draft.drives name ≡ times (states_of draft.latches) name + times (outputs_of before) name = t.drives name ∙ ap (λ tables. times (states_of draft.latches) name + times (outputs_of tables) name) old in
          let left = times_more draft.has_part draft.drives (outputs_of more) name own in
          let right : times (outputs_of (model_of draft.has_part draft.model_tables (before ++ more))) name ≡ times (outputs_of before) name + times (outputs_of more) name =
          ap (λ tables. times (outputs_of tables) name) new ∙ (ap (λ names. times names name) (map-append (λ (table : Table). table.output) before more) ∙ times_both name (outputs_of before) (outputs_of more)) in
          omega (arith, left);
      reads = λ name s.
          let was : times (table_inputs (own_tables draft)) name ≡ times (table_inputs before) name = ap (λ tables. times (table_inputs tables) name) old in
          let left = times_more draft.has_part draft.reads (gate_inputs library words) name own in
          let right : times (table_inputs (model_of draft.has_part draft.model_tables (before ++ more))) name ≡ times (table_inputs before) name + times (table_inputs more) name =
          ap (λ tables. times (table_inputs tables) name) new ∙ (ap (λ names. times names name) (flat_map-append (λ (table : Table). table.inputs) before more) ∙ times_both name (table_inputs before) (table_inputs more)) in
          let some : 0 < times draft.reads name + times (gate_inputs library words) name =
          grown (times (table_inputs (own_tables draft)) name + (times (inputs_of draft.latches) name + times draft.outputs name)) (times draft.reads name) (times (table_inputs more) name) (times (gate_inputs library words) name) (t.reads name)
          (λ p. some_times (gate_inputs library words) name (gate_reads library words name (there (table_inputs more) name p))) (omega arith) in
          omega (arith, left);
      untimed = t.untimed;
      not_nil = t.not_nil;
    }

-- a row changes no name of its table
pub row_outputs : (tables : List Table) (reading : Option Reading) (bytes : List ℕ) → outputs_of (tables_with tables (row_behind reading bytes)) ≡ outputs_of (tables_with tables reading)
unfolding tables_with with_row
row_outputs tables None bytes = refl
row_outputs tables (Some reading) bytes = outputs_more tables (with_row reading bytes).table ∙ sym (outputs_more tables reading.table)

pub row_inputs : (tables : List Table) (reading : Option Reading) (bytes : List ℕ) → table_inputs (tables_with tables (row_behind reading bytes)) ≡ table_inputs (tables_with tables reading)
unfolding tables_with with_row
row_inputs tables None bytes = refl
row_inputs tables (Some reading) bytes = inputs_more tables (with_row reading bytes).table ∙ sym (inputs_more tables reading.table)

pub own_outputs : (had : Bool) (model tables : List Table) (reading : Option Reading) (bytes : List ℕ) → outputs_of (model_of had model (tables_with tables (row_behind reading bytes))) ≡ outputs_of (model_of had model (tables_with tables reading))
own_outputs true model tables reading bytes = refl
own_outputs false model tables reading bytes = row_outputs tables reading bytes

pub own_inputs : (had : Bool) (model tables : List Table) (reading : Option Reading) (bytes : List ℕ) → table_inputs (model_of had model (tables_with tables (row_behind reading bytes))) ≡ table_inputs (model_of had model (tables_with tables reading))
own_inputs true model tables reading bytes = refl
own_inputs false model tables reading bytes = row_inputs tables reading bytes

pub told_kept : (library : Option (List TheGate)) (kind : Keyword) (draft : Draft) (number : ℕ) (words whole : List (List ℕ)) → fault_as library kind (before_of draft) number words whole ≡ None → IsToldDraft draft → IsToldDraft (with_line library kind draft number words whole)
unfolding tables_with table_of
told_kept library Model draft number words whole f t = t
told_kept library Clock draft number words whole f t = t
told_kept library End draft number words whole f t = t
told_kept library Subckt draft number words whole f t = t
told_kept library StartKiss draft number words whole f t = t
told_kept library Skipped draft number words whole f t = t
told_kept library Inputs draft number words whole f t = record {
  ports = λ name. ports_both draft.has_part draft.ports draft.inputs draft.outputs words name (t.ports name);
  drives = t.drives;
  reads = t.reads;
  untimed = t.untimed;
  not_nil = t.not_nil;
}
told_kept library Outputs draft number words whole f t = record {
  ports = λ name. outs_both draft.has_part draft.ports draft.inputs draft.outputs words name (t.ports name);
  drives = t.drives;
  reads = λ name. reads_outs draft.has_part draft.reads (table_inputs (own_tables draft)) (inputs_of draft.latches) draft.outputs words name (t.reads name);
  untimed = t.untimed;
  not_nil = t.not_nil;
}
told_kept library Names draft number words whole f t = record {
  ports = t.ports;
  drives = λ name. drives_table draft.has_part draft.drives (states_of draft.latches) draft.model_tables (tables_with draft.tables draft.reading) (table_of words []) name (t.drives name);
  reads = λ name. reads_table draft.has_part draft.reads (inputs_of draft.latches) draft.outputs draft.model_tables (tables_with draft.tables draft.reading) (table_of words []) name (t.reads name);
  untimed = t.untimed;
  not_nil = t.not_nil;
}
told_kept library Latch draft number words whole f t = told_latch library draft number words whole (right_latch (place_of draft) draft.nodes number words f) (latch_begins draft.ended draft.has_part draft.nodes number words f) t
told_kept library Gate draft number words whole f t = told_gate library draft number words whole (gate_begins library draft.ended draft.has_part draft.nodes number words f) t
told_kept library DontCare draft number words whole f t =
    let own : own_tables draft ≡ tables_with draft.tables draft.reading = ap (λ b. model_of b draft.model_tables (tables_with draft.tables draft.reading)) (part_begins draft.ended draft.has_part number f) in
    record {
      ports = t.ports;
      drives = λ name. t.drives name ∙ ap (λ tables. times (states_of draft.latches) name + times (outputs_of tables) name) own;
      reads = λ name s. t.reads name (let same : times (table_inputs (own_tables draft)) name ≡ times (table_inputs (tables_with draft.tables draft.reading)) name = ap (λ tables. times (table_inputs tables) name) own in omega arith);
      untimed = t.untimed;
      not_nil = t.not_nil;
    }
told_kept library Row draft number words whole f t = record {
  ports = t.ports;
  drives = λ name. t.drives name ∙ ap (λ names. times (states_of draft.latches) name + times names name) (sym (own_outputs draft.has_part draft.model_tables draft.tables draft.reading (joined whole)));
  reads = λ name s. t.reads name (let same : times (table_inputs (model_of draft.has_part draft.model_tables (tables_with draft.tables (row_behind draft.reading (joined whole))))) name ≡ times (table_inputs (own_tables draft)) name =
      ap (λ names. times names name) (own_inputs draft.has_part draft.model_tables draft.tables draft.reading (joined whole)) in omega arith);
  untimed = t.untimed;
  not_nil = t.not_nil;
}
told_kept library Other draft number words whole f t = t

pub told_nothing : IsToldDraft no_lines
unfolding tables_with
told_nothing = record { ports = λ name. refl; drives = λ name. refl; reads = λ name s. s; untimed = λ e. refl; not_nil = refl }

-- ports are listed in the order of the file, each of them
pub inputs_listed : (draft : Draft) → IsToldDraft draft → AllByRecursion (λ name. has draft.ports name ≡ true) draft.inputs
inputs_listed draft t =
    all_of_has (λ name. has draft.ports name ≡ true) draft.inputs
    (λ name h. there draft.ports name (let some : 0 < times draft.inputs name = some_times draft.inputs name h in let e : times draft.ports name ≡ times draft.inputs name + times draft.outputs name = t.ports name in omega arith))

pub outputs_listed : (draft : Draft) → IsToldDraft draft → AllByRecursion (λ name. has draft.ports name ≡ true) draft.outputs
outputs_listed draft t =
    all_of_has (λ name. has draft.ports name ≡ true) draft.outputs
    (λ name h. there draft.ports name (let some : 0 < times draft.outputs name = some_times draft.outputs name h in let e : times draft.ports name ≡ times draft.inputs name + times draft.outputs name = t.ports name in omega arith))

-- ports are different: listed ones by the check, found ones as they are found once
pub kept_inputs_once : (draft : Draft) → IsToldDraft draft → first_listed_twice draft.inputs draft.outputs draft.ports ≡ None → all_different (told_of draft).inputs ≡ true
unfolding names_beside
kept_inputs_once draft t l = by draft.lists_inputs
  where
    by : (listed : Bool) → all_different (listed_or listed draft.inputs (names_beside draft.drives draft.inner)) ≡ true
    by true = inputs_from_listed draft.inputs draft.outputs draft.ports (inputs_listed draft t) l
    by false = different-each_once (filter (λ name. not (has draft.drives name)) draft.inner)

pub kept_outputs_once : (draft : Draft) → IsToldDraft draft → first_listed_twice draft.inputs draft.outputs draft.ports ≡ None → all_different (told_of draft).outputs ≡ true
unfolding names_beside
kept_outputs_once draft t l = by draft.lists_outputs
  where
    by : (listed : Bool) → all_different (listed_or listed draft.outputs (names_beside draft.reads draft.drives)) ≡ true
    by true = outputs_from_listed draft.inputs draft.outputs draft.ports (outputs_listed draft t) l
    by false = different-each_once (filter (λ name. not (has draft.reads name)) draft.drives)

-- one driver for each signal
pub all_apart : (draft : Draft) → IsToldDraft draft → first_listed_twice draft.inputs draft.outputs draft.ports ≡ None → first_again (told_of draft).inputs draft.drives ≡ None → all_different ((told_of draft).inputs ++ (states_of draft.latches ++ outputs_of (own_tables draft))) ≡ true
all_apart draft t l a = once_different ((told_of draft).inputs ++ (states_of draft.latches ++ outputs_of (own_tables draft))) once
  where
    different : all_different ((told_of draft).inputs ++ draft.drives) ≡ true
    different = different_from_again (told_of draft).inputs draft.drives (kept_inputs_once draft t l) a

    once : (name : List ℕ) → times ((told_of draft).inputs ++ (states_of draft.latches ++ outputs_of (own_tables draft))) name ≤ 1
    once name =
        let d : times draft.drives name ≡ times (states_of draft.latches) name + times (outputs_of (own_tables draft)) name = t.drives name in
        let one : times ((told_of draft).inputs ++ draft.drives) name ≤ 1 = different_once ((told_of draft).inputs ++ draft.drives) name different in
        let left : times ((told_of draft).inputs ++ draft.drives) name ≡ times (told_of draft).inputs name + times draft.drives name = times_both name (told_of draft).inputs draft.drives in
        let right : times ((told_of draft).inputs ++ (states_of draft.latches ++ outputs_of (own_tables draft))) name ≡ times (told_of draft).inputs name + times (states_of draft.latches ++ outputs_of (own_tables draft)) name =
        times_both name (told_of draft).inputs (states_of draft.latches ++ outputs_of (own_tables draft)) in
        let inner : times (states_of draft.latches ++ outputs_of (own_tables draft)) name ≡ times (states_of draft.latches) name + times (outputs_of (own_tables draft)) name =
        times_both name (states_of draft.latches) (outputs_of (own_tables draft)) in
        omega arith

pub tables_apart : (draft : Draft) → IsToldDraft draft → HasApartTables (told_of draft)
tables_apart draft t l a = once_different (outputs_of (own_tables draft)) once
  where
    once : (name : List ℕ) → times (outputs_of (own_tables draft)) name ≤ 1
    once name =
        let one : times ((told_of draft).inputs ++ (states_of draft.latches ++ outputs_of (own_tables draft))) name ≤ 1 =
        different_once ((told_of draft).inputs ++ (states_of draft.latches ++ outputs_of (own_tables draft))) name (all_apart draft t l a) in
        let right : times ((told_of draft).inputs ++ (states_of draft.latches ++ outputs_of (own_tables draft))) name ≡ times (told_of draft).inputs name + times (states_of draft.latches ++ outputs_of (own_tables draft)) name =
        times_both name (told_of draft).inputs (states_of draft.latches ++ outputs_of (own_tables draft)) in
        let inner : times (states_of draft.latches ++ outputs_of (own_tables draft)) name ≡ times (states_of draft.latches) name + times (outputs_of (own_tables draft)) name =
        times_both name (states_of draft.latches) (outputs_of (own_tables draft)) in
        omega arith

-- folding reads nothing new
pub or_true : (a b c d : Bool) → (a || b) ≡ true → (a ≡ true → c ≡ true) → (b ≡ true → d ≡ true) → (c || d) ≡ true
or_true true b c d h f g = rw (f refl) refl
or_true false b c d h f g = by c
  where
    by : (one : Bool) → (one || d) ≡ true
    by true = refl
    by false = g h

pub folded_all_reads : (tables : List Table) (name : List ℕ) → has (table_inputs (map folded tables)) name ≡ true → has (table_inputs tables) name ≡ true
folded_all_reads [] name h = absurd (cc)
folded_all_reads (table ∷ tables) name h =
    list_any-append (bytes_eq name) table.inputs (table_inputs tables)
    ∙ or_true (has (folded table).inputs name) (has (table_inputs (map folded tables)) name) (has table.inputs name) (has (table_inputs tables) name)
    (sym (list_any-append (bytes_eq name) (folded table).inputs (table_inputs (map folded tables))) ∙ h)
    (λ e. folded_reads table name e) (λ e. folded_all_reads tables name e)

-- each signal that is read has a driver
pub is_given : (draft : Draft) → IsToldDraft draft → (name : List ℕ) → has ((told_of draft).inputs ++ draft.drives) name ≡ true → has (given (circuit_of (told_of draft))) name ≡ true
unfolding given
is_given draft t name h =
    ap (λ (outputs : List (List ℕ)). has ((told_of draft).inputs ++ (states_of draft.latches ++ outputs)) name) (folded_outputs (own_tables draft))
    ∙ there ((told_of draft).inputs ++ (states_of draft.latches ++ outputs_of (own_tables draft))) name some
  where
    some : 0 < times ((told_of draft).inputs ++ (states_of draft.latches ++ outputs_of (own_tables draft))) name
    some =
        let d : times draft.drives name ≡ times (states_of draft.latches) name + times (outputs_of (own_tables draft)) name = t.drives name in
        let one : 0 < times ((told_of draft).inputs ++ draft.drives) name = some_times ((told_of draft).inputs ++ draft.drives) name h in
        let left : times ((told_of draft).inputs ++ draft.drives) name ≡ times (told_of draft).inputs name + times draft.drives name = times_both name (told_of draft).inputs draft.drives in
        let right : times ((told_of draft).inputs ++ (states_of draft.latches ++ outputs_of (own_tables draft))) name ≡ times (told_of draft).inputs name + times (states_of draft.latches ++ outputs_of (own_tables draft)) name =
        times_both name (told_of draft).inputs (states_of draft.latches ++ outputs_of (own_tables draft)) in
        let inner : times (states_of draft.latches ++ outputs_of (own_tables draft)) name ≡ times (states_of draft.latches) name + times (outputs_of (own_tables draft)) name =
        times_both name (states_of draft.latches) (outputs_of (own_tables draft)) in
        omega arith

pub is_read : (draft : Draft) → IsToldDraft draft → (name : List ℕ) → has (read_names (own_tables draft) draft.latches draft.outputs) name ≡ true → has draft.reads name ≡ true
is_read draft t name h =
    there draft.reads name
    (let some : 0 < times (read_names (own_tables draft) draft.latches draft.outputs) name = some_times (read_names (own_tables draft) draft.latches draft.outputs) name h in
    let left : times (read_names (own_tables draft) draft.latches draft.outputs) name ≡ times (table_inputs (own_tables draft)) name + times (inputs_of draft.latches ++ draft.outputs) name =
    times_both name (table_inputs (own_tables draft)) (inputs_of draft.latches ++ draft.outputs) in
    let right : times (inputs_of draft.latches ++ draft.outputs) name ≡ times (inputs_of draft.latches) name + times draft.outputs name = times_both name (inputs_of draft.latches) draft.outputs in
    t.reads name (omega arith))

pub found_among : (others names : List (List ℕ)) (name : List ℕ) → has (names_beside others names) name ≡ true → has names name ≡ true
unfolding names_beside
found_among others names name h = filtered names (sym (has-each_once (filter (λ one. not (has others one)) names) name) ∙ h)
  where
    filtered : (some : List (List ℕ)) → has (filter (λ one. not (has others one)) some) name ≡ true → has some name ≡ true
    filtered [] e = e
    filtered (one ∷ some) e = by (not (has others one)) (bytes_eq name one) (filtered some) e
      where
        by : (b same : Bool) → (has (filter (λ one. not (has others one)) some) name ≡ true → has some name ≡ true)
            → has (if b then one ∷ filter (λ one. not (has others one)) some else filter (λ one. not (has others one)) some) name ≡ true → (bytes_eq name one || has some name) ≡ true
        by true same rec e = or_true (bytes_eq name one) (has (filter (λ one. not (has others one)) some) name) (bytes_eq name one) (has some name) e (λ f. f) rec
        by false same rec e = or_true false (has (filter (λ one. not (has others one)) some) name) (bytes_eq name one) (has some name) e (λ f. absurd (cc)) rec

-- an output is read where it is listed, else it is driven
pub out_known : (draft : Draft) → IsToldDraft draft → (name : List ℕ) → has (told_of draft).outputs name ≡ true → ((one : List ℕ) → has draft.reads one ≡ true → has ((told_of draft).inputs ++ draft.drives) one ≡ true) → has ((told_of draft).inputs ++ draft.drives) name ≡ true
out_known draft t name h known = by draft.lists_outputs h
  where
    by : (listed : Bool) → has (listed_or listed draft.outputs (names_beside draft.reads draft.drives)) name ≡ true → has ((told_of draft).inputs ++ draft.drives) name ≡ true
    by true e = known name (is_read draft t name (list_any-append (bytes_eq name) (table_inputs (own_tables draft)) (inputs_of draft.latches ++ draft.outputs)
        ∙ or_true false true (has (table_inputs (own_tables draft)) name) (has (inputs_of draft.latches ++ draft.outputs) name) refl (λ f. absurd (cc))
        (λ f. list_any-append (bytes_eq name) (inputs_of draft.latches) draft.outputs ∙ or_true false true (has (inputs_of draft.latches) name) (has draft.outputs name) refl (λ g. absurd (cc)) (λ g. e))))
    by false e =
        list_any-append (bytes_eq name) (told_of draft).inputs draft.drives
        ∙ or_true false true (has (told_of draft).inputs name) (has draft.drives name) refl (λ f. absurd (cc)) (λ f. found_among draft.reads draft.drives name e)

pub split_or : (a b : Bool) {C : Type 0} → (a || b) ≡ true → (a ≡ true → C) → (b ≡ true → C) → C
split_or true b e f g = f refl
split_or false b e f g = g e

pub all_driven : (draft : Draft) → IsToldDraft draft → first_missing ((told_of draft).inputs ++ draft.drives) draft.reads ≡ None → AllByRecursion (λ name. has (given (circuit_of (told_of draft))) name ≡ true) (taken (circuit_of (told_of draft)))
unfolding taken
all_driven draft t m =
    all_of_has (λ name. has (given (circuit_of (told_of draft))) name ≡ true) (table_inputs (map folded (own_tables draft)) ++ (inputs_of draft.latches ++ (told_of draft).outputs))
    (λ name h. is_given draft t name (which name h))
  where
    known : (one : List ℕ) → has draft.reads one ≡ true → has ((told_of draft).inputs ++ draft.drives) one ≡ true
    known one h = all_among (λ n. has ((told_of draft).inputs ++ draft.drives) n ≡ true) draft.reads one (known_from_missing ((told_of draft).inputs ++ draft.drives) draft.reads m) h

    within : (name : List ℕ) → has (table_inputs (own_tables draft)) name ≡ true → has ((told_of draft).inputs ++ draft.drives) name ≡ true
    within name h = known name (is_read draft t name (list_any-append (bytes_eq name) (table_inputs (own_tables draft)) (inputs_of draft.latches ++ draft.outputs) ∙ ap (λ b. b || has (inputs_of draft.latches ++ draft.outputs) name) h))

    latched : (name : List ℕ) → has (inputs_of draft.latches) name ≡ true → has ((told_of draft).inputs ++ draft.drives) name ≡ true
    latched name h =
        known name (is_read draft t name (list_any-append (bytes_eq name) (table_inputs (own_tables draft)) (inputs_of draft.latches ++ draft.outputs)
        ∙ or_true false true (has (table_inputs (own_tables draft)) name) (has (inputs_of draft.latches ++ draft.outputs) name) refl (λ f. absurd (cc))
        (λ f. list_any-append (bytes_eq name) (inputs_of draft.latches) draft.outputs ∙ ap (λ b. b || has draft.outputs name) h)))

    which : (name : List ℕ) → has (table_inputs (map folded (own_tables draft)) ++ (inputs_of draft.latches ++ (told_of draft).outputs)) name ≡ true → has ((told_of draft).inputs ++ draft.drives) name ≡ true
    which name h =
        split_or (has (table_inputs (map folded (own_tables draft))) name) (has (inputs_of draft.latches ++ (told_of draft).outputs) name)
        (sym (list_any-append (bytes_eq name) (table_inputs (map folded (own_tables draft))) (inputs_of draft.latches ++ (told_of draft).outputs)) ∙ h)
        (λ e. within name (folded_all_reads (own_tables draft) name e))
        (λ e. split_or (has (inputs_of draft.latches) name) (has (told_of draft).outputs name) (sym (list_any-append (bytes_eq name) (inputs_of draft.latches) (told_of draft).outputs) ∙ e)
        (latched name) (λ g. out_known draft t name g known))

-- what holds where nothing is wrong with the whole
pub record IsRight (told : Told) : Type 0 where
  pub once : first_listed_twice told.listed_inputs told.listed_outputs told.ports ≡ None
  pub ungated : find (has told.drives) (control_of told.timing) ≡ None
  pub apart : first_again told.inputs told.drives ≡ None
  pub known : first_missing (told.inputs ++ told.drives) told.reads ≡ None
  pub part : first_bad_part_name (leaves_of told) told.dont_care ≡ None
  pub acyclic : first_on_cycle told.tables ≡ None

pub all_right : (a b c d e f g : Option BlifFault) → first_of (first_of (a ∷ first_of (b ∷ c ∷ []) ∷ []) ∷ first_of (first_of (d ∷ e ∷ []) ∷ first_of (f ∷ g ∷ []) ∷ []) ∷ []) ≡ None
    → (a ≡ None) × (c ≡ None) × (d ≡ None) × (e ≡ None) × (f ≡ None) × (g ≡ None)
unfolding first_of
all_right None None None None None None None h = (refl, refl, refl, refl, refl, refl)
all_right (Some x) b c d e f g h = absurd (cc)
all_right None (Some x) c d e f g h = absurd (cc)
all_right None None (Some x) d e f g h = absurd (cc)
all_right None None None (Some x) e f g h = absurd (cc)
all_right None None None None (Some x) f g h = absurd (cc)
all_right None None None None None (Some x) g h = absurd (cc)
all_right None None None None None None (Some x) h = absurd (cc)

pub right_kept : (told : Told) → whole_fault told ≡ None → IsRight told
unfolding whole_fault listed_fault timing_fault signals_fault drivers_fault tables_fault
right_kept told h =
    let r = all_right (option_map (λ name. NameTwice name) (first_listed_twice told.listed_inputs told.listed_outputs told.ports)) (option_map (λ number. MixedClock number) told.mixed)
    (option_map (λ name. GatedClock name) (find (has told.drives) (control_of told.timing))) (option_map (λ name. TwoDrivers name) (first_again told.inputs told.drives))
    (option_map (λ name. Undriven name) (first_missing (told.inputs ++ told.drives) told.reads)) (option_map (λ name. BadExdc name) (first_bad_part_name (leaves_of told) told.dont_care))
    (option_map (λ name. Cycle name) (first_on_cycle told.tables)) h in
    record {
      once = not_mapped (λ name. NameTwice name) (first_listed_twice told.listed_inputs told.listed_outputs told.ports) r.0;
      ungated = not_mapped (λ name. GatedClock name) (find (has told.drives) (control_of told.timing)) r.1;
      apart = not_mapped (λ name. TwoDrivers name) (first_again told.inputs told.drives) r.2;
      known = not_mapped (λ name. Undriven name) (first_missing (told.inputs ++ told.drives) told.reads) r.3;
      part = not_mapped (λ name. BadExdc name) (first_bad_part_name (leaves_of told) told.dont_care) r.4;
      acyclic = not_mapped (λ name. Cycle name) (first_on_cycle told.tables) r.5;
    }

-- a control that is found among no driven signals is driven by nothing
pub not_driven : (draft : Draft) → IsToldDraft draft → (name : List ℕ) → has draft.drives name ≡ false → has (states_of draft.latches ++ outputs_of (map folded (own_tables draft))) name ≡ false
not_driven draft t name h =
    ap (λ (outputs : List (List ℕ)). has (states_of draft.latches ++ outputs) name) (folded_outputs (own_tables draft))
    ∙ not_there (states_of draft.latches ++ outputs_of (own_tables draft)) name
    (let none : times draft.drives name ≡ 0 = never draft.drives name h in
    let told : times draft.drives name ≡ times (states_of draft.latches) name + times (outputs_of (own_tables draft)) name = t.drives name in
    let both : times (states_of draft.latches ++ outputs_of (own_tables draft)) name ≡ times (states_of draft.latches) name + times (outputs_of (own_tables draft)) name = times_both name (states_of draft.latches) (outputs_of (own_tables draft)) in
    omega arith)

pub sound_kept : (draft : Draft) → Named (λ name. is_word name ≡ true) draft → IsSmallDraft IsShaped draft → IsToldDraft draft → whole_fault (told_of draft) ≡ None → IsSound (circuit_of (told_of draft))
unfolding given
sound_kept draft n s t e =
    let r : IsRight (told_of draft) = right_kept (told_of draft) e in
    let part = part_sound (leaves_of (told_of draft)) (told_of draft).dont_care r.part in
    record {
      words = all_named (λ name. is_word name ≡ true) draft n;
      inputs_once = kept_inputs_once draft t r.once;
      outputs_once = kept_outputs_once draft t r.once;
      one_driver =
          ap (λ (outputs : List (List ℕ)). all_different ((told_of draft).inputs ++ (states_of draft.latches ++ outputs))) (folded_outputs (own_tables draft))
          ∙ all_apart draft t r.once r.apart;
      driven = all_driven draft t r.known;
      inits = s.inits;
      untimed_without_latches = t.untimed;
      shaped = all_map IsShaped IsShaped folded (own_tables draft) folded_shaped (model_tables_are IsShaped draft s);
      table_inputs_once = all_map IsShaped (λ (table : Table). all_different table.inputs ≡ true) folded (own_tables draft) (λ table g. folded_once table) (model_tables_are IsShaped draft s);
      acyclic = folded_acyclic (own_tables draft) (acyclic_from_none (own_tables draft) r.acyclic);
      control_undriven = all_kept (λ name. has draft.drives name ≡ false) (λ name. has (states_of draft.latches ++ outputs_of (map folded (own_tables draft))) name ≡ false) (control_of draft.timing) (not_driven draft t) (none_found (has draft.drives) (control_of draft.timing) r.ungated);
      control_not_nil = t.not_nil;
      dont_care_once = part.0;
      dont_care_known = part.1;
      dont_care_acyclic = part.2;
      dont_care_shaped = part_tables_are IsShaped draft s;
    }

-- the ports that a head lists are all different, where no port is listed twice
pub listed_times : (listed : Bool) (names : List (List ℕ)) (name : List ℕ) → times (unwrap_or (listed_where listed names) []) name ≤ times names name
listed_times true names name = omega arith
listed_times false names name = omega arith

pub head_ports_once : (draft : Draft) → IsToldDraft draft → head_fault (told_of draft) ≡ None → all_different (listed_ports_of (head_of (told_of draft))) ≡ true
head_ports_once draft t e = once_different (listed_ports_of (head_of (told_of draft))) once
  where
    all : all_different draft.ports ≡ true
    all = inputs_from_listed draft.ports [] draft.ports (all_of_has (λ name. has draft.ports name ≡ true) draft.ports (λ name h. h)) (not_mapped (λ name. NameTwice name) (first_listed_twice draft.ports [] draft.ports) e)

    once : (name : List ℕ) → times (listed_ports_of (head_of (told_of draft))) name ≤ 1
    once name =
        let one : times draft.ports name ≤ 1 = different_once draft.ports name all in
        let sum : times draft.ports name ≡ times draft.inputs name + times draft.outputs name = t.ports name in
        let both : times (listed_ports_of (head_of (told_of draft))) name ≡ times (unwrap_or (listed_where draft.lists_inputs draft.inputs) []) name + times (unwrap_or (listed_where draft.lists_outputs draft.outputs) []) name =
        times_both name (unwrap_or (listed_where draft.lists_inputs draft.inputs) []) (unwrap_or (listed_where draft.lists_outputs draft.outputs) []) in
        let ins : times (unwrap_or (listed_where draft.lists_inputs draft.inputs) []) name ≤ times draft.inputs name = listed_times draft.lists_inputs draft.inputs name in
        let outs : times (unwrap_or (listed_where draft.lists_outputs draft.outputs) []) name ≤ times draft.outputs name = listed_times draft.lists_outputs draft.outputs name in omega arith
