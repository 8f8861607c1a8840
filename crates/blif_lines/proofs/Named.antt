-- A fact of every name that the lines mention is one of every name of the circuit.

use Rattle.std.specs.Prelude.{◌≡◌, ℕ, ◌-◌, ◌≤◌, Bool, true, false, not, ◌||◌, Option, Some, None, List, [], ◌∷◌, ◌++◌, length, map, find, codes, bytes_eq, nat_lt, flat_map, option_to_list, unwrap_or, if◌then◌else◌}
use Rattle.std.specs.List.{AllByRecursion, filter}
use Rattle.std.proofs.Common.{refl, sym, ◌∙◌, ap, subst}
use Rattle.std.proofs.lemmas.Bool.{ltb-false}
use Rattle.std.proofs.lemmas.Grind.{flat_map-append}
use Rattle.std.proofs.lemmas.List.{append-nil}
use Rattle.sis_base.specs.Written.{is_word}
use Rattle.circuit_model.specs.Names.{has}
use Rattle.circuit_model.specs.Soundness.{control_of, outputs_of, names_of, all_names}
use Rattle.circuit_model.specs.declared.circuit.Timing.{Timing}
use Rattle.circuit_model.specs.declared.circuit.Table.{Table}
use Rattle.circuit_model.specs.declared.circuit.Latch.{Latch as TheLatch}
use Rattle.circuit_tables.specs.Folding.{each_once, folded}
use Rattle.circuit_tables.proofs.Once.{has-each_once}
use Rattle.circuit_tables.proofs.Folded.{folded_output, folded_reads}
use Rattle.line_words.specs.LineWords.{other_words, long_name}
use Rattle.genlib_format.specs.declared.gate.Gate.{Gate as TheGate}
use Rattle.blif_gates.specs.GateLines.{signals_of}
use Rattle.blif_lines.specs.Heads.{listed_ports_of}
use Rattle.blif_lines.specs.Lines.{when, place_at, input_words, last_word, long_fault, one_too_many, many_inputs, is_in_model, is_behind, is_latch, latch_names, is_none, model_fault, ports_fault, clock_fault, names_fault, latch_fault, fault_as, joined}
use Rattle.blif_lines.specs.Reader.{named_by, table_of, latch_of, latch_input, latch_output, timing_of, names_beside, listed_or, gate_tables, gate_inputs, listed_where, circuit_of, head_of, Told}
use Rattle.blif_lines.specs.Steps.{with_row, row_behind, tables_with, place_of, before_of, with_more, timing_with, with_line, no_lines, model_of, part_of, told_of}
use Rattle.blif_lines.specs.declared.keyword.Keyword.{Keyword}
use Rattle.blif_lines.specs.declared.keyword.Keyword.TheVariants.{Model, Inputs, Outputs, Clock, Names, Latch, Gate, Subckt, StartKiss, DontCare, End, Skipped, Row, Other}
use Rattle.blif_lines.specs.declared.part.Part.{Part}
use Rattle.blif_lines.specs.declared.fault.LimitKind.TheVariants as limit
use Rattle.blif_lines.specs.declared.fault.BlifFault.TheVariants.{UnknownWord, BadArity, BadLatch, Limit}
use Rattle.blif_lines.specs.declared.draft.Reading.{Reading}
use Rattle.blif_lines.specs.declared.draft.Draft.{Draft}
use Rattle.blif_lines.proofs.NameLists.{all_append, all_front, all_back, all_kept, all_taken, all_among, all_of_has, none_found}
use Rattle.blif_lines.proofs.Faults.{none_first, none_later, not_when, not_mapped, right_gate}
use Rattle.blif_lines.proofs.Gates.{gate_names_are_words, gate_names_are_signals, gate_inputs_have, gate_outputs_have}
use Rattle.sis_base.specs.declared.limits.TheConstants.{MAX_NAME}

abbrev pub signal_names : List TheLatch → List (List ℕ)
signal_names latches = flat_map (λ (latch : TheLatch). latch.input ∷ latch.output ∷ []) latches

-- the names of a draft, each with a fact
pub record NamedParts (P : List ℕ → Type 0) (called : List ℕ) (ins outs clocked driven inside : List (List ℕ)) (timed : Option Timing) (states : List TheLatch) (own last : List Table) : Type 0 where
  pub name : P called
  pub inputs : AllByRecursion P ins
  pub outputs : AllByRecursion P outs
  pub clocks : AllByRecursion P clocked
  pub drives : AllByRecursion P driven
  pub inner : AllByRecursion P inside
  pub timing : AllByRecursion P (control_of timed)
  pub latches : AllByRecursion P (signal_names states)
  pub model : AllByRecursion P (names_of own)
  pub tables : AllByRecursion P (names_of last)

abbrev pub Named : (List ℕ → Type 0) → Draft → Type 0
Named P draft = NamedParts P draft.name draft.inputs draft.outputs draft.clocks draft.drives draft.inner draft.timing draft.latches draft.model_tables (tables_with draft.tables draft.reading)

-- the names that a line mentions, those of a gate by its table; in the don't-care part those of
-- ports are not read
abbrev pub mentioned : Option (List TheGate) → Bool → Keyword → List (List ℕ) → List (List ℕ)
mentioned library had Model words = words
mentioned library true Inputs words = []
mentioned library false Inputs words = words
mentioned library true Outputs words = []
mentioned library false Outputs words = words
mentioned library had Clock words = words
mentioned library had Names words = words
mentioned library had Latch words = latch_names words
mentioned library had Gate words = names_of (gate_tables library words)
mentioned library had kind words = []

pub names_more : (tables : List Table) (table : Table) → names_of (tables ++ table ∷ []) ≡ names_of tables ++ table.output ∷ table.inputs
names_more tables table =
    flat_map-append (λ (t : Table). t.output ∷ t.inputs) tables (table ∷ []) ∙ ap (λ rest. names_of tables ++ table.output ∷ rest) (append-nil table.inputs)

pub last_has : (P : List ℕ → Type 0) (words : List (List ℕ)) → AllByRecursion P words → is_none words ≡ false → P (last_word words)
unfolding last_word
last_has P [] a e = absurd (cc)
last_has P (word ∷ []) a e = a.0
last_has P (word ∷ next ∷ words) a e = last_has P (next ∷ words) a.1 refl

pub name_has : (P : List ℕ → Type 0) (words : List (List ℕ)) → P (codes "top") → AllByRecursion P words → P (named_by Model words)
name_has P [] top a = top
name_has P (word ∷ words) top a = a.0

pub latch_has : (P : List ℕ → Type 0) (words : List (List ℕ)) → AllByRecursion P (latch_names words) → AllByRecursion P (signal_names (latch_of words))
latch_has P [] a = tt
latch_has P (input ∷ []) a = tt
latch_has P (input ∷ output ∷ []) a = (a.0, (a.1.0, tt))
latch_has P (input ∷ output ∷ kind ∷ []) a = (a.0, (a.1.0, tt))
latch_has P (input ∷ output ∷ kind ∷ control ∷ rest) a = (a.0, (a.1.0, tt))

pub latch_output_has : (P : List ℕ → Type 0) (words : List (List ℕ)) → AllByRecursion P (latch_names words) → AllByRecursion P (latch_output words)
latch_output_has P [] a = tt
latch_output_has P (input ∷ []) a = tt
latch_output_has P (input ∷ output ∷ []) a = (a.1.0, tt)
latch_output_has P (input ∷ output ∷ kind ∷ []) a = (a.1.0, tt)
latch_output_has P (input ∷ output ∷ kind ∷ control ∷ rest) a = (a.1.0, tt)

pub latch_input_has : (P : List ℕ → Type 0) (words : List (List ℕ)) → AllByRecursion P (latch_names words) → AllByRecursion P (latch_input words)
latch_input_has P [] a = tt
latch_input_has P (input ∷ []) a = (a.0, tt)
latch_input_has P (input ∷ output ∷ []) a = (a.0, tt)
latch_input_has P (input ∷ output ∷ kind ∷ []) a = (a.0, tt)
latch_input_has P (input ∷ output ∷ kind ∷ control ∷ rest) a = (a.0, tt)

pub control_has : (P : List ℕ → Type 0) (words : List (List ℕ)) → AllByRecursion P (latch_names words) → AllByRecursion P (control_of (timing_of words))
control_has P [] a = tt
control_has P (input ∷ []) a = tt
control_has P (input ∷ output ∷ []) a = tt
control_has P (input ∷ output ∷ kind ∷ []) a = tt
control_has P (input ∷ output ∷ kind ∷ control ∷ rest) a = by (bytes_eq control (codes "NIL"))
  where
    by : (b : Bool) → AllByRecursion P (option_to_list (if b then None else Some control))
    by true = tt
    by false = (a.1.1.0, tt)

pub timing_has : (P : List ℕ → Type 0) (latches : List TheLatch) (timing own : Option Timing) → AllByRecursion P (control_of timing) → AllByRecursion P (control_of own) → AllByRecursion P (control_of (timing_with latches timing own))
unfolding timing_with
timing_has P [] timing own a b = b
timing_has P (latch ∷ latches) timing own a b = a

pub more_has : (P : List ℕ → Type 0) (had : Bool) (names more : List (List ℕ)) → AllByRecursion P names → AllByRecursion P more → AllByRecursion P (with_more had names more)
more_has P had names [] a b = a
more_has P true names (first ∷ rest) a b = a
more_has P false names (first ∷ rest) a b = all_append P names (first ∷ rest) a b

pub ports_have : (library : Option (List TheGate)) (P : List ℕ → Type 0) (had : Bool) (names words : List (List ℕ)) → AllByRecursion P names → AllByRecursion P (mentioned library had Inputs words) → AllByRecursion P (with_more had names words)
ports_have library P had names [] a b = a
ports_have library P true names (first ∷ rest) a b = a
ports_have library P false names (first ∷ rest) a b = all_append P names (first ∷ rest) a b

pub outs_have : (library : Option (List TheGate)) (P : List ℕ → Type 0) (had : Bool) (names words : List (List ℕ)) → AllByRecursion P names → AllByRecursion P (mentioned library had Outputs words) → AllByRecursion P (with_more had names words)
outs_have library P had names [] a b = a
outs_have library P true names (first ∷ rest) a b = a
outs_have library P false names (first ∷ rest) a b = all_append P names (first ∷ rest) a b

pub table_has : (P : List ℕ → Type 0) (tables : List Table) (words : List (List ℕ)) → AllByRecursion P words → is_none words ≡ false → AllByRecursion P (names_of tables) → AllByRecursion P (names_of (tables ++ table_of words [] ∷ []))
unfolding table_of
table_has P tables words a e s =
    subst (AllByRecursion P) (sym (names_more tables (table_of words [])))
    (all_append P (names_of tables) (last_word words ∷ input_words words) s (last_has P words a e, all_taken P (length words - 1) words a))

pub row_has : (P : List ℕ → Type 0) (tables : List Table) (reading : Option Reading) (bytes : List ℕ) → AllByRecursion P (names_of (tables_with tables reading)) → AllByRecursion P (names_of (tables_with tables (row_behind reading bytes)))
unfolding tables_with with_row
row_has P tables None bytes a = a
row_has P tables (Some reading) bytes a =
    subst (AllByRecursion P) (names_more tables reading.table ∙ sym (names_more tables (with_row reading bytes).table)) a

-- a `.names` line without a fault has a word
pub some_words : (place : Part) (nodes number : ℕ) (words : List (List ℕ)) → names_fault place nodes number words ≡ None → is_none words ≡ false
unfolding names_fault
some_words place nodes number words f =
    not_when (is_none words) (BadArity number) (none_first (when (is_none words) (BadArity number)) (long_fault words ∷ one_too_many nodes ∷ many_inputs (input_words words) ∷ [])
    (none_later (when (is_behind place) (UnknownWord number)) (when (is_none words) (BadArity number) ∷ long_fault words ∷ one_too_many nodes ∷ many_inputs (input_words words) ∷ []) f))

pub named_kept : (library : Option (List TheGate)) (P : List ℕ → Type 0) (kind : Keyword) (draft : Draft) (number : ℕ) (words whole : List (List ℕ)) → P (codes "top") → AllByRecursion P (mentioned library draft.has_part kind words) → fault_as library kind (before_of draft) number words whole ≡ None → Named P draft → Named P (with_line library kind draft number words whole)
unfolding tables_with
named_kept library P Model draft number words whole top a f n = record {
  name = name_has P words top a;
  inputs = n.inputs;
  outputs = n.outputs;
  clocks = n.clocks;
  drives = n.drives;
  inner = n.inner;
  timing = n.timing;
  latches = n.latches;
  model = n.model;
  tables = n.tables;
}
named_kept library P Inputs draft number words whole top a f n = record {
  name = n.name;
  inputs = ports_have library P draft.has_part draft.inputs words n.inputs a;
  outputs = n.outputs;
  clocks = n.clocks;
  drives = n.drives;
  inner = n.inner;
  timing = n.timing;
  latches = n.latches;
  model = n.model;
  tables = n.tables;
}
named_kept library P Outputs draft number words whole top a f n = record {
  name = n.name;
  inputs = n.inputs;
  outputs = outs_have library P draft.has_part draft.outputs words n.outputs a;
  clocks = n.clocks;
  drives = n.drives;
  inner = n.inner;
  timing = n.timing;
  latches = n.latches;
  model = n.model;
  tables = n.tables;
}
named_kept library P Clock draft number words whole top a f n = record {
  name = n.name;
  inputs = n.inputs;
  outputs = n.outputs;
  clocks = more_has P draft.has_part draft.clocks words n.clocks a;
  drives = n.drives;
  inner = n.inner;
  timing = n.timing;
  latches = n.latches;
  model = n.model;
  tables = n.tables;
}
named_kept library P Names draft number words whole top a f n = record {
  name = n.name;
  inputs = n.inputs;
  outputs = n.outputs;
  clocks = n.clocks;
  drives = more_has P draft.has_part draft.drives (last_word words ∷ []) n.drives (last_has P words a (some_words (place_of draft) draft.nodes number words f), tt);
  inner = more_has P (draft.has_part || draft.lists_inputs) draft.inner (input_words words) n.inner (all_taken P (length words - 1) words a);
  timing = n.timing;
  latches = n.latches;
  model = n.model;
  tables = table_has P (tables_with draft.tables draft.reading) words a (some_words (place_of draft) draft.nodes number words f) n.tables;
}
named_kept library P Latch draft number words whole top a f n = record {
  name = n.name;
  inputs = n.inputs;
  outputs = n.outputs;
  clocks = n.clocks;
  drives = more_has P draft.has_part draft.drives (latch_output words) n.drives (latch_output_has P words a);
  inner = more_has P (draft.has_part || draft.lists_inputs) draft.inner (latch_input words) n.inner (latch_input_has P words a);
  timing = timing_has P draft.latches draft.timing (timing_of words) n.timing (control_has P words a);
  latches = subst (AllByRecursion P) (sym (flat_map-append (λ (latch : TheLatch). latch.input ∷ latch.output ∷ []) draft.latches (latch_of words)))
      (all_append P (signal_names draft.latches) (signal_names (latch_of words)) n.latches (latch_has P words a));
  model = n.model;
  tables = n.tables;
}
named_kept library P Gate draft number words whole top a f n = record {
  name = n.name;
  inputs = n.inputs;
  outputs = n.outputs;
  clocks = n.clocks;
  drives = more_has P draft.has_part draft.drives (outputs_of (gate_tables library words)) n.drives (gate_outputs_have P (gate_tables library words) a);
  inner = more_has P (draft.has_part || draft.lists_inputs) draft.inner (gate_inputs library words) n.inner (gate_inputs_have P library words a);
  timing = n.timing;
  latches = n.latches;
  model = n.model;
  tables = subst (AllByRecursion P) (sym (flat_map-append (λ (table : Table). table.output ∷ table.inputs) (tables_with draft.tables draft.reading) (gate_tables library words)))
      (all_append P (names_of (tables_with draft.tables draft.reading)) (names_of (gate_tables library words)) n.tables a);
}
named_kept library P Subckt draft number words whole top a f n = n
named_kept library P StartKiss draft number words whole top a f n = n
named_kept library P DontCare draft number words whole top a f n = record {
  name = n.name;
  inputs = n.inputs;
  outputs = n.outputs;
  clocks = n.clocks;
  drives = n.drives;
  inner = n.inner;
  timing = n.timing;
  latches = n.latches;
  model = n.tables;
  tables = tt;
}
named_kept library P End draft number words whole top a f n = n
named_kept library P Skipped draft number words whole top a f n = n
named_kept library P Row draft number words whole top a f n = record {
  name = n.name;
  inputs = n.inputs;
  outputs = n.outputs;
  clocks = n.clocks;
  drives = n.drives;
  inner = n.inner;
  timing = n.timing;
  latches = n.latches;
  model = n.model;
  tables = row_has P draft.tables draft.reading (joined whole) n.tables;
}
named_kept library P Other draft number words whole top a f n = n

pub named_nothing : (P : List ℕ → Type 0) → P (codes "top") → Named P no_lines
unfolding tables_with
named_nothing P top = record { name = top; inputs = tt; outputs = tt; clocks = tt; drives = tt; inner = tt; timing = tt; latches = tt; model = tt; tables = tt }

-- the names of the circuit
pub folded_names : (P : List ℕ → Type 0) (tables : List Table) → AllByRecursion P (names_of tables) → AllByRecursion P (names_of (map folded tables))
folded_names P [] a = tt
folded_names P (table ∷ tables) a = (
  subst P (sym (folded_output table)) a.0,
  all_append P (folded table).inputs (names_of (map folded tables))
      (all_of_has P (folded table).inputs (λ name h. all_among P table.inputs name (all_front P table.inputs (names_of tables) a.1) (folded_reads table name h)))
      (folded_names P tables (all_back P table.inputs (names_of tables) a.1)),
)

pub latch_outputs_have : (P : List ℕ → Type 0) (latches : List TheLatch) → AllByRecursion P (signal_names latches) → AllByRecursion P (map (λ (latch : TheLatch). latch.output) latches)
latch_outputs_have P [] a = tt
latch_outputs_have P (latch ∷ latches) a = (a.1.0, latch_outputs_have P latches a.1.1)

pub latch_inputs_have : (P : List ℕ → Type 0) (latches : List TheLatch) → AllByRecursion P (signal_names latches) → AllByRecursion P (map (λ (latch : TheLatch). latch.input) latches)
latch_inputs_have P [] a = tt
latch_inputs_have P (latch ∷ latches) a = (a.0, latch_inputs_have P latches a.1.1)

-- names that are beside others are some of the names
pub filtered_have : (P : List ℕ → Type 0) (p : List ℕ → Bool) (names : List (List ℕ)) → AllByRecursion P names → AllByRecursion P (filter p names)
filtered_have P p [] a = tt
filtered_have P p (name ∷ names) a = by (p name) (filtered_have P p names a.1)
  where
    by : (b : Bool) → AllByRecursion P (filter p names) → AllByRecursion P (if b then name ∷ filter p names else filter p names)
    by true rest = (a.0, rest)
    by false rest = rest

pub beside_have : (P : List ℕ → Type 0) (others names : List (List ℕ)) → AllByRecursion P names → AllByRecursion P (names_beside others names)
unfolding names_beside
beside_have P others names a =
    let found : List (List ℕ) = filter (λ name. not (has others name)) names in
    let have : AllByRecursion P found = filtered_have P (λ name. not (has others name)) names a in
    all_of_has P (each_once found) (λ name h. all_among P found name have (sym (has-each_once found name) ∙ h))

pub port_names : (P : List ℕ → Type 0) (listed : Bool) (ports others names : List (List ℕ)) → AllByRecursion P ports → AllByRecursion P names → AllByRecursion P (listed_or listed ports (names_beside others names))
port_names P true ports others names a b = a
port_names P false ports others names a b = beside_have P others names b

pub model_names : (P : List ℕ → Type 0) (had : Bool) (model tables : List Table) → AllByRecursion P (names_of model) → AllByRecursion P (names_of tables) → AllByRecursion P (names_of (model_of had model tables))
model_names P true model tables a b = a
model_names P false model tables a b = b

pub part_names : (P : List ℕ → Type 0) (had : Bool) (tables : List Table) → AllByRecursion P (names_of tables) → AllByRecursion P (names_of (part_of had tables))
part_names P true tables a = a
part_names P false tables a = tt

pub all_named : (P : List ℕ → Type 0) (draft : Draft) → Named P draft → AllByRecursion P (all_names (circuit_of (told_of draft)))
unfolding all_names
all_named P draft n =
    let k : Told = told_of draft in
    let outs : List (List ℕ) = map (λ (latch : TheLatch). latch.output) draft.latches in
    let ins : List (List ℕ) = map (λ (latch : TheLatch). latch.input) draft.latches in
    let control : List (List ℕ) = control_of draft.timing in
    let own : List (List ℕ) = names_of (map folded k.tables) in
    let part : List (List ℕ) = names_of k.dont_care in
    let ts : List Table = tables_with draft.tables draft.reading in (
      n.name,
      all_append P k.inputs (k.outputs ++ (draft.clocks ++ (control ++ (outs ++ (ins ++ (own ++ part)))))) (port_names P draft.lists_inputs draft.inputs draft.drives draft.inner n.inputs n.inner)
          (all_append P k.outputs (draft.clocks ++ (control ++ (outs ++ (ins ++ (own ++ part))))) (port_names P draft.lists_outputs draft.outputs draft.reads draft.drives n.outputs n.drives)
          (all_append P draft.clocks (control ++ (outs ++ (ins ++ (own ++ part)))) n.clocks
          (all_append P control (outs ++ (ins ++ (own ++ part))) n.timing
          (all_append P outs (ins ++ (own ++ part)) (latch_outputs_have P draft.latches n.latches)
          (all_append P ins (own ++ part) (latch_inputs_have P draft.latches n.latches)
          (all_append P own part (folded_names P k.tables (model_names P draft.has_part draft.model_tables ts n.model n.tables)) (part_names P draft.has_part ts n.tables))))))),
    )

-- the names of the head of a machine
pub listed_have : (P : List ℕ → Type 0) (listed : Bool) (names : List (List ℕ)) → AllByRecursion P names → AllByRecursion P (unwrap_or (listed_where listed names) [])
listed_have P true names a = a
listed_have P false names a = tt

pub head_named : (P : List ℕ → Type 0) (draft : Draft) → Named P draft → AllByRecursion P ((head_of (told_of draft)).name ∷ listed_ports_of (head_of (told_of draft)))
head_named P draft n = (
  n.name,
  all_append P (unwrap_or (listed_where draft.lists_inputs draft.inputs) []) (unwrap_or (listed_where draft.lists_outputs draft.outputs) [])
      (listed_have P draft.lists_inputs draft.inputs n.inputs) (listed_have P draft.lists_outputs draft.outputs n.outputs),
)

-- names that are not too long
abbrev pub IsShort : List ℕ → Type 0
IsShort name = length name ≤ MAX_NAME

pub none_long : (names : List (List ℕ)) → long_fault names ≡ None → AllByRecursion IsShort names
unfolding long_name
none_long names e =
    all_kept (λ name. nat_lt MAX_NAME (length name) ≡ false) IsShort names (λ name h. ltb-false MAX_NAME (length name) h)
    (none_found (λ name. nat_lt MAX_NAME (length name)) names (not_mapped (λ (name : List ℕ). length name) (find (λ name. nat_lt MAX_NAME (length name)) names) (not_mapped (λ len. Limit limit.Name len) (long_name names) e)))

pub short_ports : (library : Option (List TheGate)) (ended had : Bool) (number : ℕ) (words : List (List ℕ)) → ports_fault (place_at ended had) number words ≡ None → AllByRecursion IsShort (mentioned library had Inputs words) × AllByRecursion IsShort (mentioned library had Outputs words)
unfolding ports_fault place_at
short_ports library true had number words f = absurd (cc)
short_ports library false true number words f = (tt, tt)
short_ports library false false number words f = (none_long words f, none_long words f)

pub short_mentioned : (library : Option (List TheGate)) (kind : Keyword) (draft : Draft) (number : ℕ) (words whole : List (List ℕ)) → fault_as library kind (before_of draft) number words whole ≡ None → AllByRecursion IsShort (mentioned library draft.has_part kind words)
unfolding model_fault clock_fault names_fault latch_fault
short_mentioned library Model draft number words whole f =
    none_long words (none_first (long_fault words) []
    (none_later (when (nat_lt 1 (length words)) (BadArity number)) (long_fault words ∷ [])
    (none_later (when draft.begun (UnknownWord number)) (when (nat_lt 1 (length words)) (BadArity number) ∷ long_fault words ∷ []) f)))
short_mentioned library Inputs draft number words whole f = (short_ports library draft.ended draft.has_part number words f).0
short_mentioned library Outputs draft number words whole f = (short_ports library draft.ended draft.has_part number words f).1
short_mentioned library Clock draft number words whole f =
    none_long words (none_first (long_fault words) [] (none_later (when (not (is_in_model (place_of draft))) (UnknownWord number)) (long_fault words ∷ []) f))
short_mentioned library Names draft number words whole f =
    none_long words (none_first (long_fault words) (one_too_many draft.nodes ∷ many_inputs (input_words words) ∷ [])
    (none_later (when (is_none words) (BadArity number)) (long_fault words ∷ one_too_many draft.nodes ∷ many_inputs (input_words words) ∷ [])
    (none_later (when (is_behind (place_of draft)) (UnknownWord number)) (when (is_none words) (BadArity number) ∷ long_fault words ∷ one_too_many draft.nodes ∷ many_inputs (input_words words) ∷ []) f)))
short_mentioned library Latch draft number words whole f =
    none_long (latch_names words) (none_first (long_fault (latch_names words)) (one_too_many draft.nodes ∷ [])
    (none_later (when (not (is_latch words)) (BadLatch number)) (long_fault (latch_names words) ∷ one_too_many draft.nodes ∷ [])
    (none_later (when (not (is_in_model (place_of draft))) (UnknownWord number)) (when (not (is_latch words)) (BadLatch number) ∷ long_fault (latch_names words) ∷ one_too_many draft.nodes ∷ []) f)))
short_mentioned library Gate draft number words whole f =
    all_kept (λ name. has (signals_of (other_words words)) name ≡ true) IsShort (names_of (gate_tables library words))
    (λ name h. all_among IsShort (signals_of (other_words words)) name (none_long (signals_of (other_words words)) (right_gate library (place_of draft) draft.nodes number words f).short) h)
    (gate_names_are_signals library words)
short_mentioned library Subckt draft number words whole f = tt
short_mentioned library StartKiss draft number words whole f = tt
short_mentioned library DontCare draft number words whole f = tt
short_mentioned library End draft number words whole f = tt
short_mentioned library Skipped draft number words whole f = tt
short_mentioned library Row draft number words whole f = tt
short_mentioned library Other draft number words whole f = tt

-- the words of a line that it mentions as names are words of it
pub latch_words_have : (P : List ℕ → Type 0) (words : List (List ℕ)) → AllByRecursion P words → AllByRecursion P (latch_names words)
latch_words_have P [] a = tt
latch_words_have P (input ∷ []) a = (a.0, tt)
latch_words_have P (input ∷ output ∷ []) a = (a.0, (a.1.0, tt))
latch_words_have P (input ∷ output ∷ kind ∷ []) a = (a.0, (a.1.0, tt))
latch_words_have P (input ∷ output ∷ kind ∷ control ∷ words) a = (a.0, (a.1.0, (a.1.1.1.0, tt)))

abbrev pub IsWord : List ℕ → Type 0
IsWord name = is_word name ≡ true

pub words_mentioned : (library : Option (List TheGate)) (had : Bool) (kind : Keyword) (words : List (List ℕ)) → AllByRecursion IsWord words → AllByRecursion IsWord (mentioned library had kind words)
words_mentioned library had Model words a = a
words_mentioned library true Inputs words a = tt
words_mentioned library false Inputs words a = a
words_mentioned library true Outputs words a = tt
words_mentioned library false Outputs words a = a
words_mentioned library had Clock words a = a
words_mentioned library had Names words a = a
words_mentioned library had Latch words a = latch_words_have IsWord words a
words_mentioned library had Gate words a = gate_names_are_words library words a
words_mentioned library had Subckt words a = tt
words_mentioned library had StartKiss words a = tt
words_mentioned library had DontCare words a = tt
words_mentioned library had End words a = tt
words_mentioned library had Skipped words a = tt
words_mentioned library had Row words a = tt
words_mentioned library had Other words a = tt
