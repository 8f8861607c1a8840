-- The text of a circuit, and of gates beside it that a library knows, is read as the circuit whose tables are those of the gates,
-- folded, and then its own.
use Rattle.std.proofs.Common.{◌≡◌, ℕ, Bool, true, false, not, ◌&&◌, ◌+◌, ◌≤◌, cond, Option, Some, None, Ok, List, [], ◌∷◌, ◌++◌, refl, sym, ap, subst, arith, ◌∙◌, length, map, find, option_map}
use Rattle.std.specs.List.{AllByRecursion}
use Rattle.std.proofs.lemmas.Grind.{flat_map-append}
use Rattle.std.proofs.lemmas.List.{length-append, length-map, map-append}
use Rattle.sis_base.specs.Written.{lines_text}
use Rattle.genlib_format.specs.declared.gate.Gate.{Gate}
use Rattle.sis_text.specs.Entries.{Entry, entries_of}
use Rattle.sis_text.proofs.Readback.{read_back}
use Rattle.circuit_model.specs.declared.circuit.Table.{Table}
use Rattle.circuit_model.specs.declared.circuit.Latch.{Latch}
use Rattle.circuit_model.specs.declared.circuit.Timing.{Timing}
use Rattle.circuit_model.specs.declared.circuit.Circuit.{Circuit}
use Rattle.circuit_model.specs.Names.{has, all_different}
use Rattle.circuit_model.specs.Runs.{latch_outputs}
use Rattle.circuit_model.specs.Soundness.{IsSound, given, taken, control_of, leaf_names, outputs_of, latch_inputs, table_inputs, IsShaped, IsAcyclic}
use Rattle.circuit_model.specs.Counts.{IsSmallTable, IsWithinLimits}
use Rattle.circuit_model.specs.Text.{text_of, circuit_lines}
use Rattle.netlist.specs.Lines.{lines_with_gates}
use Rattle.netlist.specs.declared.mapped.Placed.{Placed}
use Rattle.circuit_checks.specs.NameChecks.{first_again, first_missing, first_listed_twice}
use Rattle.circuit_checks.specs.Cycles.{first_on_cycle}
use Rattle.circuit_checks.specs.PartChecks.{first_bad_part_name}
use Rattle.circuit_checks.proofs.Bridges.{again_from_different, missing_from_known, listed_from_different, none_from_acyclic}
use Rattle.circuit_checks.proofs.Parts.{part_passes}
use Rattle.circuit_tables.specs.Folding.{folded}
use Rattle.circuit_tables.proofs.Folded.{folded_same, folded_outputs}
use Rattle.blif_lines.specs.Lines.{first_of}
use Rattle.blif_lines.specs.Reader.{first_line_fault, of_lines, model_lines, part_lines, listed_inputs, listed_outputs, inputs_in, outputs_in, ports_in, clocks_in, timing_in, drives_in, reads_in, latches_in, tables_in, model_name, circuit_of, whole_fault, unless, has_nodes, has_instances, first_fault, read_lines as read_model, told_by, timing_fault, listed_fault, drivers_fault, tables_fault, signals_fault, read_as, read_told}
use Rattle.blif_lines.specs.declared.fault.BlifFault.{BlifFault}
use Rattle.blif_lines.specs.declared.fault.BlifFault.TheVariants.{NameTwice, MixedClock, GatedClock, TwoDrivers, Undriven, BadExdc, Cycle}
use Rattle.blif_lines.specs.Limits.{HasShortNames}
use Rattle.blif_lines.proofs.NameLists.{all_front, all_back, all_append, all_kept}
use Rattle.blif_lines.specs.declared.content.Content.TheVariants as content
use Rattle.circuit_model.specs.declared.machine.Spec.TheVariants as spec
use Rattle.blif_models.specs.Reader.{read_models}
use Rattle.blif_read.specs.Parts.{kiss_lines}
use Rattle.blif_read.specs.Reader.{spec_with, read_lines}
use Rattle.sis_base.specs.declared.limits.TheConstants.{MAX_NODES}
use Rattle.blif_write.proofs.NoKiss.{no_kiss, no_part}
use Rattle.blif_write.proofs.OneModel.{read_as_one}
use Rattle.blif_write.proofs.Words.{OfTable, OfNames, IsName, HasGateWords, of_names, lines_written}
use Rattle.blif_write.proofs.NoFaults.{IsShort, IsKnown, no_line_fault}
use Rattle.blif_write.proofs.GateTables.{KeepsReads, keeps_reads, acyclic_before, tables_keep, said_count, read_known}
use Rattle.blif_write.proofs.Said.{lines_of, own_of, listed_inputs_said, listed_outputs_said, inputs_said, outputs_said, ports_said, clocks_said, drives_said, reads_said, latches_said_back, timing_said, unmixed, name_said, tables_said_back, model_said, part_said, said_tables, said_reads}

-- the circuit with the tables of gates before its own
abbrev pub whole : Option (List Gate) → List Placed → Circuit → Circuit
whole library gates base = record base { tables = map folded (said_tables library gates) ++ base.tables }

-- the checks on the whole
all_read : (library : Option (List Gate)) (gates : List Placed) (base : Circuit) → IsSound (whole library gates base)
    → AllByRecursion (λ (name : List ℕ). has (given (whole library gates base)) name ≡ true) (base.outputs ++ (latch_inputs base ++ (said_reads library gates ++ table_inputs base.tables)))
unfolding taken
all_read library gates base sound =
    let circuit = whole library gates base in
    let P = λ (name : List ℕ). has (given circuit) name ≡ true in
    let folds = map folded (said_tables library gates) in
    let tables = subst (AllByRecursion P) (flat_map-append (λ (table : Table). table.inputs) folds base.tables) (all_front P (table_inputs circuit.tables) (latch_inputs base ++ base.outputs) sound.driven) in
    let others = all_back P (table_inputs circuit.tables) (latch_inputs base ++ base.outputs) sound.driven in
    all_append P base.outputs (latch_inputs base ++ (said_reads library gates ++ table_inputs base.tables)) (all_back P (latch_inputs base) base.outputs others)
    (all_append P (latch_inputs base) (said_reads library gates ++ table_inputs base.tables) (all_front P (latch_inputs base) base.outputs others)
    (all_append P (said_reads library gates) (table_inputs base.tables) (read_known P library gates (all_front P (table_inputs folds) (table_inputs base.tables) tables)) (all_back P (table_inputs folds) (table_inputs base.tables) tables)))

-- what lines drive is what the circuit's latches and tables do
drives_whole : (library : Option (List Gate)) (gates : List Placed) (base : Circuit) → drives_in library (own_of gates base) ≡ latch_outputs base ++ outputs_of (whole library gates base).tables
drives_whole library gates base =
    drives_said library gates base
    ∙ ap (λ names. latch_outputs base ++ (names ++ outputs_of base.tables)) (sym (folded_outputs (said_tables library gates)))
    ∙ ap (λ names. latch_outputs base ++ names) (sym (map-append (λ (table : Table). table.output) (map folded (said_tables library gates)) base.tables))

twice_of : (library : Option (List Gate)) (gates : List Placed) (base : Circuit) → IsSound (whole library gates base) → first_listed_twice (of_lines listed_inputs (own_of gates base)) (of_lines listed_outputs (own_of gates base)) (ports_in (own_of gates base)) ≡ None
twice_of library gates base sound =
    rw (listed_inputs_said gates base, listed_outputs_said gates base, ports_said gates base) (listed_from_different base.inputs base.outputs (base.inputs ++ base.outputs) sound.inputs_once sound.outputs_once)

timing_of : (library : Option (List Gate)) (gates : List Placed) (base : Circuit) → IsSound (whole library gates base) → timing_in (own_of gates base) ≡ base.timing
timing_of library gates base sound = timing_said gates base sound.control_not_nil sound.inits sound.untimed_without_latches

none_has : (names controls : List (List ℕ)) → AllByRecursion (λ name. has names name ≡ false) controls → find (has names) controls ≡ None
none_has names [] h = refl
none_has names (control ∷ controls) h = ap (λ (b : Bool). cond b (Some control) (find (has names) controls)) h.0 ∙ none_has names controls h.1

gated_of : (library : Option (List Gate)) (gates : List Placed) (base : Circuit) → IsSound (whole library gates base) → find (has (drives_in library (own_of gates base))) (control_of (timing_in (own_of gates base))) ≡ None
gated_of library gates base sound =
    ap (λ (drives : List (List ℕ)). find (has drives) (control_of (timing_in (own_of gates base)))) (drives_whole library gates base)
    ∙ ap (λ (timing : Option Timing). find (has (latch_outputs base ++ outputs_of (whole library gates base).tables)) (control_of timing)) (timing_of library gates base sound)
    ∙ none_has (latch_outputs base ++ outputs_of (whole library gates base).tables) (control_of base.timing) sound.control_undriven

again_of : (library : Option (List Gate)) (gates : List Placed) (base : Circuit) → IsSound (whole library gates base) → first_again (inputs_in library (own_of gates base)) (drives_in library (own_of gates base)) ≡ None
unfolding given
again_of library gates base sound =
    rw (inputs_said library gates base, drives_whole library gates base) (again_from_different base.inputs (latch_outputs base ++ outputs_of (whole library gates base).tables) sound.one_driver)

missing_of : (library : Option (List Gate)) (gates : List Placed) (base : Circuit) → IsSound (whole library gates base) → first_missing (inputs_in library (own_of gates base) ++ drives_in library (own_of gates base)) (reads_in library (own_of gates base)) ≡ None
unfolding given
missing_of library gates base sound =
    rw (inputs_said library gates base, drives_whole library gates base, reads_said library gates base)
    (missing_from_known (base.inputs ++ (latch_outputs base ++ outputs_of (whole library gates base).tables)) (base.outputs ++ (latch_inputs base ++ (said_reads library gates ++ table_inputs base.tables))) (all_read library gates base sound))

part_of : (library : Option (List Gate)) (gates : List Placed) (base : Circuit) → IsSound (whole library gates base) → first_bad_part_name (inputs_in library (own_of gates base) ++ map (λ (latch : Latch). latch.output) (latches_in (own_of gates base))) (tables_in library (part_lines (lines_of gates base))) ≡ None
part_of library gates base sound =
    rw (inputs_said library gates base, latches_said_back gates base sound.inits, part_said library gates base sound.dont_care_shaped)
    (part_passes (leaf_names base) base.dont_care sound.dont_care_once sound.dont_care_known sound.dont_care_acyclic)

-- the circuit's own tables
shaped_of : (library : Option (List Gate)) (gates : List Placed) (base : Circuit) → IsSound (whole library gates base) → AllByRecursion IsShaped base.tables
shaped_of library gates base sound = all_back IsShaped (map folded (said_tables library gates)) base.tables sound.shaped

once_of : (library : Option (List Gate)) (gates : List Placed) (base : Circuit) → IsSound (whole library gates base) → AllByRecursion (λ (table : Table). all_different table.inputs ≡ true) base.tables
once_of library gates base sound = all_back (λ (table : Table). all_different table.inputs ≡ true) (map folded (said_tables library gates)) base.tables sound.table_inputs_once

all_folded_same : (tables : List Table) → AllByRecursion (λ (table : Table). all_different table.inputs ≡ true) tables → map folded tables ≡ tables
all_folded_same [] e = refl
all_folded_same (table ∷ tables) e =
    ap (λ (first : Table). first ∷ map folded tables) (folded_same table e.0) ∙ ap (λ (more : List Table). table ∷ more) (all_folded_same tables e.1)

folded_whole : (library : Option (List Gate)) (gates : List Placed) (base : Circuit) → IsSound (whole library gates base) → map folded (said_tables library gates ++ base.tables) ≡ (whole library gates base).tables
folded_whole library gates base sound =
    map-append folded (said_tables library gates) base.tables
    ∙ ap (λ (tables : List Table). map folded (said_tables library gates) ++ tables) (all_folded_same base.tables (once_of library gates base sound))

cycle_of : (library : Option (List Gate)) (gates : List Placed) (base : Circuit) → IsSound (whole library gates base) → first_on_cycle (tables_in library (own_of gates base)) ≡ None
cycle_of library gates base sound =
    let tables = said_tables library gates ++ base.tables in
    let keep : AllByRecursion KeepsReads tables = all_append KeepsReads (said_tables library gates) base.tables (tables_keep library gates) (keeps_reads base.tables (once_of library gates base sound)) in
    ap first_on_cycle (tables_said_back library gates base (shaped_of library gates base sound))
    ∙ none_from_acyclic tables (acyclic_before tables keep (subst IsAcyclic (sym (folded_whole library gates base sound)) sound.acyclic))

no_causes : {a b c d e f g : Option BlifFault} → a ≡ None → b ≡ None → c ≡ None → d ≡ None → e ≡ None → f ≡ None → g ≡ None
    → first_of (first_of (a ∷ first_of (b ∷ c ∷ []) ∷ []) ∷ first_of (first_of (d ∷ e ∷ []) ∷ first_of (f ∷ g ∷ []) ∷ []) ∷ []) ≡ None
unfolding first_of
no_causes a b c d e f g = rw (a, b, c, d, e, f, g) refl

no_whole_fault : (library : Option (List Gate)) (gates : List Placed) (base : Circuit) → IsSound (whole library gates base) → whole_fault (told_by library (lines_of gates base)) ≡ None
unfolding whole_fault listed_fault timing_fault signals_fault drivers_fault tables_fault told_by
no_whole_fault library gates base sound = rw (model_said gates base) (no_causes
    (ap (option_map (λ (name : List ℕ). NameTwice name)) (twice_of library gates base sound))
    (ap (option_map (λ (number : ℕ). MixedClock number)) (unmixed gates base sound.control_not_nil (timing_of library gates base sound)))
    (ap (option_map (λ (name : List ℕ). GatedClock name)) (gated_of library gates base sound))
    (ap (option_map (λ (name : List ℕ). TwoDrivers name)) (again_of library gates base sound))
    (ap (option_map (λ (name : List ℕ). Undriven name)) (missing_of library gates base sound))
    (ap (option_map (λ (name : List ℕ). BadExdc name)) (part_of library gates base sound))
    (ap (option_map (λ (name : List ℕ). Cycle name)) (cycle_of library gates base sound)))

-- the circuit that the lines say
abbrev circuit_with : List ℕ → List (List ℕ) → List (List ℕ) → List (List ℕ) → Option Timing → List Latch → List Table → List Table → Circuit
circuit_with name inputs outputs clocks timing latches tables dont_care =
    record { name = name; inputs = inputs; outputs = outputs; clocks = clocks; timing = timing; latches = latches; tables = tables; dont_care = dont_care }

circuit_same : (name : List ℕ) (inputs outputs clocks : List (List ℕ)) (timing : Option Timing) (latches : List Latch) (tables dont_care : List Table) (circuit : Circuit)
    → name ≡ circuit.name → inputs ≡ circuit.inputs → outputs ≡ circuit.outputs → clocks ≡ circuit.clocks → timing ≡ circuit.timing → latches ≡ circuit.latches → tables ≡ circuit.tables → dont_care ≡ circuit.dont_care
    → circuit_with name inputs outputs clocks timing latches tables dont_care ≡ circuit
circuit_same name inputs outputs clocks timing latches tables dont_care circuit a b c d e f g h = rw (a, b, c, d, e, f, g, h) refl

circuit_back : (library : Option (List Gate)) (gates : List Placed) (base : Circuit) → IsSound (whole library gates base) → circuit_of (told_by library (lines_of gates base)) ≡ whole library gates base
unfolding told_by
circuit_back library gates base sound =
    let lines = model_lines (lines_of gates base) in
    circuit_same (model_name (lines_of gates base)) (inputs_in library lines) (outputs_in library lines) (clocks_in lines) (timing_in lines) (latches_in lines) (map folded (tables_in library lines)) (tables_in library (part_lines (lines_of gates base))) (whole library gates base)
    (name_said gates base) (ap (inputs_in library) (model_said gates base) ∙ inputs_said library gates base) (ap (outputs_in library) (model_said gates base) ∙ outputs_said library gates base)
    (ap clocks_in (model_said gates base) ∙ clocks_said gates base) (ap timing_in (model_said gates base) ∙ timing_of library gates base sound)
    (ap latches_in (model_said gates base) ∙ latches_said_back gates base sound.inits)
    (ap (λ (own : List Entry). map folded (tables_in library own)) (model_said gates base)
    ∙ ap (map folded) (tables_said_back library gates base (shaped_of library gates base sound)) ∙ folded_whole library gates base sound)
    (part_said library gates base sound.dont_care_shaped)

-- both
names_of_base : (P : List ℕ → Type 0) (library : Option (List Gate)) (gates : List Placed) (base : Circuit) → OfNames P (whole library gates base) → OfNames P base
names_of_base P library gates base h = record {
  name = h.name;
  inputs = h.inputs;
  outputs = h.outputs;
  clocks = h.clocks;
  timing = h.timing;
  latches = h.latches;
  tables = all_back (OfTable P) (map folded (said_tables library gates)) base.tables h.tables;
  dont_care = h.dont_care;
}

few_nodes : (library : Option (List Gate)) (gates : List Placed) (base : Circuit) → AllByRecursion (IsKnown library) gates → IsWithinLimits (whole library gates base)
    → length gates + length base.tables + length base.latches + length base.dont_care ≤ MAX_NODES
few_nodes library gates base known limits =
    let count : length (map folded (said_tables library gates) ++ base.tables) ≡ length (map folded (said_tables library gates)) + length base.tables = length-append (map folded (said_tables library gates)) base.tables in
    let same : length (map folded (said_tables library gates)) ≡ length (said_tables library gates) = length-map (said_tables library gates) folded in
    let each : length (said_tables library gates) ≡ length gates = said_count library gates known in
    omega (arith, limits.nodes, count, same, each)

no_line_fault_of : (library : Option (List Gate)) (gates : List Placed) (base : Circuit) → AllByRecursion (IsKnown library) gates → IsSound (whole library gates base) → IsWithinLimits (whole library gates base) → HasShortNames (whole library gates base)
    → first_line_fault library [] (lines_of gates base) ≡ None
no_line_fault_of library gates base known sound limits short =
    no_line_fault library gates base known (names_of_base IsShort library gates base (of_names IsShort (whole library gates base) short.names))
    (all_back IsSmallTable (map folded (said_tables library gates)) base.tables limits.tables) limits.dont_care
    (shaped_of library gates base sound) sound.dont_care_shaped (few_nodes library gates base known limits)

lines_read : (library : Option (List Gate)) (gates : List Placed) (base : Circuit) → AllByRecursion (IsKnown library) gates → IsSound (whole library gates base) → IsWithinLimits (whole library gates base) → HasShortNames (whole library gates base)
    → read_model library (lines_of gates base) ≡ Ok (content.Circuit (whole library gates base))
unfolding read_model read_told told_by
lines_read library gates base known sound limits short =
    let lines = lines_of gates base in
    ap (λ (fault : Option BlifFault). first_fault fault (read_told (told_by library lines))) (no_line_fault_of library gates base known sound limits short)
    ∙ ap (λ (b : Bool). read_as (b && not (has_nodes (model_lines lines)) && not (has_instances (model_lines lines))) (told_by library lines)) (no_kiss gates base)
    ∙ ap (λ (fault : Option BlifFault). unless fault (content.Circuit (circuit_of (told_by library lines)))) (no_whole_fault library gates base sound)
    ∙ ap (λ (read : Circuit). Ok (content.Circuit read)) (circuit_back library gates base sound)

gates_have_words : (library : Option (List Gate)) (gates : List Placed) → AllByRecursion (IsKnown library) gates → AllByRecursion HasGateWords gates
gates_have_words library gates known = all_kept (IsKnown library) HasGateWords gates (λ placed one. one.words) known

text_lines : (library : Option (List Gate)) (gates : List Placed) (base : Circuit) → AllByRecursion (IsKnown library) gates → IsSound (whole library gates base) → entries_of (lines_text (lines_with_gates gates base)) ≡ lines_of gates base
text_lines library gates base known sound =
    read_back (lines_with_gates gates base)
    (lines_written gates base (gates_have_words library gates known) (names_of_base IsName library gates base (of_names IsName (whole library gates base) sound.words)))

pub whole_read : (library : Option (List Gate)) (gates : List Placed) (base : Circuit) → AllByRecursion (IsKnown library) gates → IsSound (whole library gates base) → IsWithinLimits (whole library gates base) → HasShortNames (whole library gates base)
    → read_lines library (entries_of (lines_text (lines_with_gates gates base))) ≡ Ok (spec.Circuit (whole library gates base))
unfolding read_lines
whole_read library gates base known sound limits short =
    ap (read_lines library) (text_lines library gates base known sound)
    ∙ ap (λ (lines : List Entry). spec_with (kiss_lines (lines_of gates base)) (read_models library lines)) (no_part gates base)
    ∙ ap (spec_with (kiss_lines (lines_of gates base))) (read_as_one library gates base ∙ lines_read library gates base known sound limits short)

-- a circuit is one without gates
pub text_read : (library : Option (List Gate)) (circuit : Circuit) → IsSound circuit → IsWithinLimits circuit → HasShortNames circuit → read_lines library (entries_of (text_of circuit)) ≡ Ok (spec.Circuit circuit)
unfolding text_of circuit_lines lines_with_gates
text_read library circuit sound limits short = whole_read library [] circuit tt sound limits short
