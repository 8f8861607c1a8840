-- No line of a circuit that is written has a fault, nor has one of a gate where a library knows it.
use Rattle.std.proofs.Common.{◌≡◌, ℕ, zero, suc, ◌+◌, ◌≤◌, ◌<◌, Bool, true, false, cond, not, Option, Some, None, List, [], ◌∷◌, ◌++◌, length, refl, sym, ap, ◌∙◌, subst, arith, map, flat_map, find, option_map, codes, ltb, leb, if◌then◌else◌}
use Rattle.std.specs.Prelude.{option_to_list}
use Rattle.std.specs.List.{AllByRecursion}
use Rattle.std.specs.Option.{option_or}
use Rattle.std.proofs.lemmas.Bool.{le-ltb, lt-leb}
use Rattle.std.proofs.lemmas.List.{append_assoc, length-append, length-map, map-append}
use Rattle.sis_base.specs.Written.{Written}
use Rattle.genlib_format.specs.declared.gate.Gate.{Gate as TheGate}
use Rattle.sis_text.specs.Entries.{Entry}
use Rattle.sis_text.specs.Written.{numbered}
use Rattle.circuit_model.specs.declared.circuit.Tri.{Tri}
use Rattle.circuit_model.specs.declared.circuit.Kind.{Kind}
use Rattle.circuit_model.specs.declared.circuit.Kind.TheVariants.{Fe, Re, Ah, Al}
use Rattle.circuit_model.specs.declared.circuit.Timing.{Timing}
use Rattle.circuit_model.specs.declared.circuit.Table.{Table}
use Rattle.circuit_model.specs.declared.circuit.Latch.{Latch as TheLatch}
use Rattle.circuit_model.specs.declared.circuit.Circuit.{Circuit}
use Rattle.circuit_model.specs.Text.{dotted, init_word, kind_word, control_word, timing_words, latch_line, clock_lines, dont_care_lines, row_line, table_lines}
use Rattle.circuit_model.specs.Soundness.{IsShaped, control_of}
use Rattle.circuit_model.specs.Counts.{IsSmallTable}
use Rattle.line_words.specs.LineWords.{long_name}
use Rattle.netlist.specs.Lines.{pair_word, gate_line, lines_with_gates}
use Rattle.netlist.specs.declared.mapped.Placed.{Placed}
use Rattle.blif_gates.specs.GateLines.{signals_of}
use Rattle.blif_lines.specs.Keyword.{keyword_of, kind_of}
use Rattle.blif_lines.specs.Lines.{when, is_none, one_too_many, many_inputs, first_of, input_words, is_ended, has_part, part_behind, is_behind, nodes_in, long_fault, is_init, is_latch_kind, is_latch, latch_names, joined, heading, rows_behind, is_row_of, output_character, first_mark, growing, table_under, has_mark, model_fault, ports_fault, clock_fault, names_fault, latch_fault, library_fault, gate_fault, place_fault, table_row_fault, fault_under, row_fault, told_before, fault_as, line_fault}
use Rattle.blif_lines.specs.Reader.{first_line_fault}
use Rattle.blif_lines.specs.declared.keyword.Keyword.{Keyword}
use Rattle.blif_lines.specs.declared.keyword.Keyword.TheVariants.{Model, Inputs, Outputs, Clock, Names, Latch, Gate, DontCare, Row}
use Rattle.blif_lines.specs.declared.part.Part.TheVariants as part
use Rattle.blif_lines.specs.declared.fault.LimitKind.TheVariants as limit
use Rattle.blif_lines.specs.declared.fault.BlifFault.{BlifFault}
use Rattle.blif_lines.specs.declared.fault.BlifFault.TheVariants.{UnknownWord, BadArity, BadRow, MixedPhase, BadLatch, Limit}
use Rattle.blif_lines.proofs.NameLists.{all_append}
use Rattle.blif_write.proofs.Words.{OfLatch, OfTable, OfNames, end_lines, gate_words, HasGateWords}
use Rattle.blif_write.proofs.LineKinds.{entry, row_kind}
use Rattle.blif_write.proofs.RowTexts.{row_text, row_joined, row_taken, phase_taken, names_words, names_width, inputs_back}
use Rattle.blif_write.proofs.Backs.{Goes, place_goes, goes_on, goes_node, heading_names, rows_names, heading_row, rows_row}
use Rattle.sis_base.specs.declared.limits.TheConstants.{MAX_INPUTS, MAX_NAME, MAX_NODES, MAX_ROWS}

-- a name that is not too long
abbrev pub IsShort : List ℕ → Type 0
IsShort name = length name ≤ MAX_NAME

-- no cause, no fault
pub none_of : (causes : List (Option BlifFault)) → AllByRecursion (λ (cause : Option BlifFault). cause ≡ None) causes → first_of causes ≡ None
unfolding first_of
none_of [] h = refl
none_of (cause ∷ causes) h = ap (λ (c : Option BlifFault). first_of (c ∷ causes)) h.0 ∙ none_of causes h.1

not_when : (test : Bool) (fault : BlifFault) → test ≡ false → when test fault ≡ None
not_when test fault e = ap (λ b. cond b (Some fault) None) e

not_unless : (test : Bool) (fault : BlifFault) → test ≡ true → when (not test) fault ≡ None
not_unless test fault e = ap (λ b. cond (not b) (Some fault) None) e

none_long : (names : List (List ℕ)) → AllByRecursion IsShort names → find (λ (name : List ℕ). ltb MAX_NAME (length name)) names ≡ None
none_long [] h = refl
none_long (name ∷ names) h =
    ap (λ b. cond b (Some name) (find (λ (name : List ℕ). ltb MAX_NAME (length name)) names)) (le-ltb MAX_NAME (length name) h.0) ∙ none_long names h.1

not_long : (names : List (List ℕ)) → AllByRecursion IsShort names → long_fault names ≡ None
unfolding long_name
not_long names h = ap (λ found. option_map (λ len. Limit limit.Name len) (option_map (λ (name : List ℕ). length name) found)) (none_long names h)

not_many : (had : Bool) (back : List Entry) (room : ℕ) → Goes had (suc room) back → when (leb MAX_NODES (nodes_in back)) (Limit limit.Tables (MAX_NODES + 1)) ≡ None
not_many had back room goes = not_when (leb MAX_NODES (nodes_in back)) (Limit limit.Tables (MAX_NODES + 1)) (lt-leb MAX_NODES (nodes_in back) (omega (arith, goes.few)))

-- line by line
no_fault : (library : Option (List TheGate)) (back lines : List Entry) (line : Entry) → line_fault library back line ≡ None → first_line_fault library (line ∷ back) lines ≡ None → first_line_fault library back (line ∷ lines) ≡ None
unfolding first_line_fault
no_fault library back lines line e h = ap (λ (f : Option BlifFault). option_or f (first_line_fault library (line ∷ back) lines)) e ∙ h

model_taken : (library : Option (List TheGate)) (number : ℕ) (name : List ℕ) → IsShort name → line_fault library [] (entry number (dotted (codes ".model") (name ∷ []))) ≡ None
unfolding line_fault kind_of keyword_of model_fault
model_taken library number name h =
    none_of (when false (UnknownWord number) ∷ when (ltb 1 (length (name ∷ []))) (BadArity number) ∷ long_fault (name ∷ []) ∷ []) (refl, (refl, (not_long (name ∷ []) (h, tt), tt)))

inputs_taken : (library : Option (List TheGate)) (number room : ℕ) (back : List Entry) (names : List (List ℕ)) → Goes false room back → AllByRecursion IsShort names → line_fault library back (entry number (dotted (codes ".inputs") names)) ≡ None
unfolding line_fault kind_of keyword_of ports_fault
inputs_taken library number room back names goes h = ap (λ place. ports_fault place number names) (place_goes false room back goes) ∙ not_long names h

outputs_taken : (library : Option (List TheGate)) (number room : ℕ) (back : List Entry) (names : List (List ℕ)) → Goes false room back → AllByRecursion IsShort names → line_fault library back (entry number (dotted (codes ".outputs") names)) ≡ None
unfolding line_fault kind_of keyword_of ports_fault
outputs_taken library number room back names goes h = ap (λ place. ports_fault place number names) (place_goes false room back goes) ∙ not_long names h

clock_taken : (library : Option (List TheGate)) (number room : ℕ) (back : List Entry) (names : List (List ℕ)) → Goes false room back → AllByRecursion IsShort names → line_fault library back (entry number (dotted (codes ".clock") names)) ≡ None
unfolding line_fault kind_of keyword_of clock_fault
clock_taken library number room back names goes h =
    ap (λ place. clock_fault place number names) (place_goes false room back goes)
    ∙ none_of (when false (UnknownWord number) ∷ long_fault names ∷ []) (refl, (not_long names h, tt))

part_taken : (library : Option (List TheGate)) (number room : ℕ) (back : List Entry) → Goes false room back → line_fault library back (entry number (dotted (codes ".exdc") [])) ≡ None
unfolding line_fault kind_of keyword_of
part_taken library number room back goes = ap (λ place. place_fault place number) (place_goes false room back goes)

init_taken : (init : ℕ) → is_init (init_word init) ≡ true
init_taken zero = refl
init_taken (suc zero) = refl
init_taken (suc (suc zero)) = refl
init_taken (suc (suc (suc init))) = refl

kind_taken : (kind : Kind) → is_latch_kind (kind_word kind) ≡ true
kind_taken Fe = refl
kind_taken Re = refl
kind_taken Ah = refl
kind_taken Al = refl

nil_short : (control : Option (List ℕ)) → AllByRecursion IsShort (option_to_list control) → IsShort (control_word control)
nil_short None h = omega arith
nil_short (Some control) h = h.0

abbrev signals : Option Timing → TheLatch → List (List ℕ)
signals timing latch = latch.input ∷ latch.output ∷ timing_words timing ++ init_word latch.init ∷ []

latch_right : (timing : Option Timing) (latch : TheLatch) → is_latch (signals timing latch) ≡ true
unfolding timing_words
latch_right None latch = init_taken latch.init
latch_right (Some timing) latch = rw (kind_taken timing.kind) (init_taken latch.init)

latch_short : (timing : Option Timing) (latch : TheLatch) → AllByRecursion IsShort (control_of timing) → OfLatch IsShort latch → AllByRecursion IsShort (latch_names (signals timing latch))
unfolding timing_words
latch_short None latch t h = (h.0, (h.1, tt))
latch_short (Some timing) latch t h = (h.0, (h.1, (nil_short timing.control t, tt)))

latch_taken : (library : Option (List TheGate)) (number room : ℕ) (back : List Entry) (timing : Option Timing) (latch : TheLatch) → Goes false (suc room) back → AllByRecursion IsShort (control_of timing) → OfLatch IsShort latch → line_fault library back (entry number (latch_line timing latch)) ≡ None
unfolding line_fault kind_of keyword_of latch_line latch_fault
latch_taken library number room back timing latch goes t h =
    ap (λ place. latch_fault place (nodes_in back) number (signals timing latch)) (place_goes false (suc room) back goes)
    ∙ none_of (when false (UnknownWord number) ∷ when (not (is_latch (signals timing latch))) (BadLatch number) ∷ long_fault (latch_names (signals timing latch)) ∷ when (leb MAX_NODES (nodes_in back)) (Limit limit.Tables (MAX_NODES + 1)) ∷ []) (
      refl,
      (
        not_unless (is_latch (signals timing latch)) (BadLatch number) (latch_right timing latch),
        (not_long (latch_names (signals timing latch)) (latch_short timing latch t h), (not_many false back room goes, tt)),
      ),
    )

-- a library knows a placed gate: it finds no fault with the words of its line, they are words, and
-- its signals are short
pub record IsKnown (library : Option (List TheGate)) (placed : Placed) : Type 0 where
  pub right : (number : ℕ) → library_fault library number (gate_words placed) ≡ None
  pub words : HasGateWords placed
  pub short : AllByRecursion IsShort (signals_of (map pair_word placed.pins))

gate_taken : (library : Option (List TheGate)) (number room : ℕ) (back : List Entry) (placed : Placed) → Goes false (suc room) back → IsKnown library placed → line_fault library back (entry number (gate_line placed)) ≡ None
unfolding line_fault kind_of keyword_of gate_line gate_fault
gate_taken library number room back placed goes known =
    ap (λ place. gate_fault library place (nodes_in back) number (gate_words placed)) (place_goes false (suc room) back goes)
    ∙ none_of (when false (UnknownWord number) ∷ when false (BadArity number) ∷ library_fault library number (gate_words placed) ∷ long_fault (signals_of (map pair_word placed.pins)) ∷ when (leb MAX_NODES (nodes_in back)) (Limit limit.Tables (MAX_NODES + 1)) ∷ []) (
      refl,
      (
        refl,
        (
          known.right number,
          (not_long (signals_of (map pair_word placed.pins)) known.short, (not_many false back room goes, tt)),
        ),
      ),
    )

end_taken : (library : Option (List TheGate)) (number : ℕ) (back : List Entry) → line_fault library back (entry number (dotted (codes ".end") [])) ≡ None
unfolding line_fault kind_of keyword_of
end_taken library number back = refl

abbrev names_line : Table → Written
names_line table = dotted (codes ".names") (names_words table)

names_short : (table : Table) → OfTable IsShort table → AllByRecursion IsShort (names_words table)
names_short table h = all_append IsShort table.inputs (table.output ∷ []) h.1 (h.0, tt)

some_words : (inputs : List (List ℕ)) (output : List ℕ) → is_none (inputs ++ output ∷ []) ≡ false
some_words [] output = refl
some_words (input ∷ inputs) output = refl

not_wide : (table : Table) → IsSmallTable table → many_inputs (input_words (names_words table)) ≡ None
not_wide table small =
    ap many_inputs (inputs_back table) ∙ not_when (ltb MAX_INPUTS (length table.inputs)) (Limit limit.Inputs (length table.inputs)) (le-ltb MAX_INPUTS (length table.inputs) small.inputs)

not_behind : (had : Bool) (room : ℕ) (back : List Entry) → Goes had room back → is_behind (part_behind back) ≡ false
not_behind had room back goes = ap is_behind (place_goes had room back goes) ∙ by had
  where
    by : (b : Bool) → is_behind (if b then part.DontCare else part.Model) ≡ false
    by true = refl
    by false = refl

names_taken : (library : Option (List TheGate)) (had : Bool) (number room : ℕ) (back : List Entry) (table : Table) → Goes had (suc room) back → OfTable IsShort table → IsSmallTable table → line_fault library back (entry number (names_line table)) ≡ None
unfolding line_fault kind_of keyword_of names_fault
names_taken library had number room back table goes h small =
    none_of (when (is_behind (part_behind back)) (UnknownWord number) ∷ when (is_none (names_words table)) (BadArity number) ∷ long_fault (names_words table) ∷ one_too_many (nodes_in back) ∷ many_inputs (input_words (names_words table)) ∷ []) (
      not_when (is_behind (part_behind back)) (UnknownWord number) (not_behind had (suc room) back goes),
      (
        not_when (is_none (names_words table)) (BadArity number) (some_words table.inputs table.output),
        (not_long (names_words table) (names_short table h), (not_many had back room goes, (not_wide table small, tt))),
      ),
    )

-- the rows of a table that have been read
pub record Reads (table : Table) (number : ℕ) (done : List (List Tri)) (back : List Entry) : Type 0 where
  pub under : heading back ≡ Some (entry number (names_line table))
  pub rows : rows_behind back ≡ map (row_text table.phase) done

abbrev HasWidth : ℕ → List Tri → Type 0
HasWidth width row = length row ≡ width

-- as a row of a table of this width, after these rows
row_fits : (width number : ℕ) (phase : Bool) (row : List Tri) (done : List (List Tri)) → length row ≡ width → AllByRecursion (HasWidth width) done → length done < MAX_ROWS → table_row_fault (growing width (map (row_text phase) done)) number (row_text phase row) ≡ None
unfolding table_row_fault
row_fits width number phase row done e h few =
    let n : length (map (row_text phase) done) ≡ length done = length-map done (row_text phase) in
    none_of (when (not (is_row_of width (row_text phase row))) (BadRow number) ∷ when (not (has_mark (first_mark width (map (row_text phase) done)) (output_character width (row_text phase row)))) (MixedPhase number) ∷ when (leb MAX_ROWS (length (map (row_text phase) done))) (Limit limit.Rows (MAX_ROWS + 1)) ∷ []) (
      not_unless (is_row_of width (row_text phase row)) (BadRow number) (row_taken width phase row e),
      (
        not_unless (has_mark (first_mark width (map (row_text phase) done)) (output_character width (row_text phase row))) (MixedPhase number) (phase_taken width phase row done e h),
        (not_when (leb MAX_ROWS (length (map (row_text phase) done))) (Limit limit.Rows (MAX_ROWS + 1)) (lt-leb MAX_ROWS (length (map (row_text phase) done)) (omega (arith, n, few))), tt),
      ),
    )

under_names : (table : Table) (place number : ℕ) (rows : List (List ℕ)) (bytes : List ℕ) → fault_under (table_under (Some (entry place (names_line table))) rows) number bytes ≡ table_row_fault (growing (length table.inputs) rows) number bytes
unfolding kind_of keyword_of
under_names table place number rows bytes = ap (λ (width : ℕ). table_row_fault (growing width rows) number bytes) (names_width table)

row_line_taken : (library : Option (List TheGate)) (table : Table) (place number : ℕ) (row : List Tri) (done : List (List Tri)) (back : List Entry) → is_behind (part_behind back) ≡ false → Reads table place done back → length row ≡ length table.inputs → AllByRecursion (HasWidth (length table.inputs)) done → length done < MAX_ROWS → line_fault library back (entry number (row_line table.phase row)) ≡ None
unfolding line_fault kind_of row_fault
row_line_taken library table place number row done back going reads e h few =
    let line = row_line table.phase row in
    let fault : fault_under (table_under (heading back) (rows_behind back)) number (joined (line.first ∷ line.others)) ≡ None =
    ap (λ (o : Option Entry). fault_under (table_under o (rows_behind back)) number (joined (line.first ∷ line.others))) reads.under
    ∙ ap (λ (rows : List (List ℕ)). fault_under (table_under (Some (entry place (names_line table))) rows) number (joined (line.first ∷ line.others))) reads.rows
    ∙ ap (fault_under (table_under (Some (entry place (names_line table))) (map (row_text table.phase) done)) number) (row_joined table.phase row)
    ∙ under_names table place number (map (row_text table.phase) done) (row_text table.phase row)
    ∙ row_fits (length table.inputs) number table.phase row done e h few in
    ap (λ (kind : Keyword). fault_as library kind (told_before back) number line.others (line.first ∷ line.others)) (row_kind table.phase row)
    ∙ none_of (when (is_behind (part_behind back)) (UnknownWord number) ∷ fault_under (table_under (heading back) (rows_behind back)) number (joined (line.first ∷ line.others)) ∷ [])
    (not_when (is_behind (part_behind back)) (UnknownWord number) going, (fault, tt))

-- after some lines the others have no fault
abbrev pub Passes : (library : Option (List TheGate)) → Bool → ℕ → List Written → Type 0
Passes library had room rest = (back : List Entry) (number : ℕ) → Goes had room back → first_line_fault library back (numbered number rest) ≡ None

reads_more : (table : Table) (place number : ℕ) (row : List Tri) (done : List (List Tri)) (back : List Entry) → Reads table place done back → Reads table place (done ++ row ∷ []) (entry number (row_line table.phase row) ∷ back)
unfolding kind_of
reads_more table place number row done back reads =
    let line = entry number (row_line table.phase row) in
    record {
      under = heading_row line back (row_kind table.phase row) ∙ reads.under;
      rows = rows_row line back (row_kind table.phase row) ∙ ap (λ (rows : List (List ℕ)). rows ++ joined line.words ∷ []) reads.rows
          ∙ ap (λ (text : List ℕ). map (row_text table.phase) done ++ text ∷ []) (row_joined table.phase row) ∙ sym (map-append (row_text table.phase) done (row ∷ []));
    }

goes_row : (table : Table) (had : Bool) (room number : ℕ) (row : List Tri) (back : List Entry) → Goes had room back → Goes had room (entry number (row_line table.phase row) ∷ back)
unfolding kind_of
goes_row table had room number row back goes = goes_on Row had room (entry number (row_line table.phase row)) back (row_kind table.phase row) refl refl goes

rows_pass : (library : Option (List TheGate)) (table : Table) (had : Bool) (room place number : ℕ) (rows done : List (List Tri)) (back : List Entry) (rest : List Written) → Goes had room back → Reads table place done back → AllByRecursion (HasWidth (length table.inputs)) rows → AllByRecursion (HasWidth (length table.inputs)) done → length done + length rows ≤ MAX_ROWS → Passes library had room rest → first_line_fault library back (numbered number (map (row_line table.phase) rows ++ rest)) ≡ None
unfolding numbered
rows_pass library table had room place number [] done back rest goes reads wide h few pass = pass back number goes
rows_pass library table had room place number (row ∷ rows) done back rest goes reads wide h few pass =
    let line = entry number (row_line table.phase row) in
    no_fault library back (numbered (number + 1) (map (row_line table.phase) rows ++ rest)) line
    (row_line_taken library table place number row done back (not_behind had room back goes) reads wide.0 h (omega (arith, few)))
    (rows_pass library table had room place (number + 1) rows (done ++ row ∷ []) (line ∷ back) rest (goes_row table had room number row back goes) (reads_more table place number row done back reads) wide.1
    (all_append (HasWidth (length table.inputs)) done (row ∷ []) h (wide.0, tt)) (omega (arith, few, length-append done (row ∷ []))) pass)

reads_none : (table : Table) (number : ℕ) (back : List Entry) → Reads table number [] (entry number (names_line table) ∷ back)
unfolding kind_of keyword_of
reads_none table number back = record {
  under = heading_names (entry number (names_line table)) back refl;
  rows = rows_names (entry number (names_line table)) back refl;
}

table_passes : (library : Option (List TheGate)) (table : Table) (had : Bool) (room number : ℕ) (back : List Entry) (rest : List Written) → Goes had (suc room) back → OfTable IsShort table → IsSmallTable table → IsShaped table → Passes library had room rest → first_line_fault library back (numbered number (table_lines table ++ rest)) ≡ None
unfolding table_lines numbered kind_of keyword_of
table_passes library table had room number back rest goes h small shaped pass =
    let line = entry number (names_line table) in
    no_fault library back (numbered (number + 1) (map (row_line table.phase) table.rows ++ rest)) line (names_taken library had number room back table goes h small)
    (rows_pass library table had room number (number + 1) table.rows [] (line ∷ back) rest (goes_node Names had room line back refl refl refl goes) (reads_none table number back) shaped.0 tt (omega (arith, small.rows)) pass)

tables_pass : (library : Option (List TheGate)) (tables : List Table) (had : Bool) (room number : ℕ) (back : List Entry) (rest : List Written) → Goes had (length tables + room) back → AllByRecursion (OfTable IsShort) tables → AllByRecursion IsSmallTable tables → AllByRecursion IsShaped tables → Passes library had room rest → first_line_fault library back (numbered number (flat_map table_lines tables ++ rest)) ≡ None
tables_pass library [] had room number back rest goes h small shaped pass = pass back number (subst (λ (n : ℕ). Goes had n back) (omega arith) goes)
tables_pass library (table ∷ tables) had room number back rest goes h small shaped pass =
    ap (λ (lines : List Written). first_line_fault library back (numbered number lines)) (append_assoc (table_lines table) (flat_map table_lines tables) rest)
    ∙ table_passes library table had (length tables + room) number back (flat_map table_lines tables ++ rest) (subst (λ (n : ℕ). Goes had n back) (omega arith) goes) h.0 small.0 shaped.0
    (λ behind place goes_behind. tables_pass library tables had room place behind rest goes_behind h.1 small.1 shaped.1 pass)

goes_latch : (number room : ℕ) (timing : Option Timing) (latch : TheLatch) (back : List Entry) → Goes false (suc room) back → Goes false room (entry number (latch_line timing latch) ∷ back)
unfolding latch_line kind_of keyword_of
goes_latch number room timing latch back goes = goes_node Latch false room (entry number (latch_line timing latch)) back refl refl refl goes

latches_pass : (library : Option (List TheGate)) (timing : Option Timing) (latches : List TheLatch) (room number : ℕ) (back : List Entry) (rest : List Written) → Goes false (length latches + room) back → AllByRecursion IsShort (control_of timing) → AllByRecursion (OfLatch IsShort) latches → Passes library false room rest → first_line_fault library back (numbered number (map (latch_line timing) latches ++ rest)) ≡ None
unfolding numbered kind_of keyword_of
latches_pass library timing [] room number back rest goes t h pass = pass back number (subst (λ (n : ℕ). Goes false n back) (omega arith) goes)
latches_pass library timing (latch ∷ latches) room number back rest goes t h pass =
    let line = entry number (latch_line timing latch) in
    let one : Goes false (suc (length latches + room)) back = subst (λ (n : ℕ). Goes false n back) (omega arith) goes in
    no_fault library back (numbered (number + 1) (map (latch_line timing) latches ++ rest)) line (latch_taken library number (length latches + room) back timing latch one t h.0)
    (latches_pass library timing latches room (number + 1) (line ∷ back) rest (goes_latch number (length latches + room) timing latch back one) t h.1 pass)

goes_gate : (number room : ℕ) (placed : Placed) (back : List Entry) → Goes false (suc room) back → Goes false room (entry number (gate_line placed) ∷ back)
unfolding gate_line kind_of keyword_of
goes_gate number room placed back goes = goes_node Gate false room (entry number (gate_line placed)) back refl refl refl goes

gates_pass : (library : Option (List TheGate)) (gates : List Placed) (room number : ℕ) (back : List Entry) (rest : List Written) → Goes false (length gates + room) back → AllByRecursion (IsKnown library) gates → Passes library false room rest → first_line_fault library back (numbered number (map gate_line gates ++ rest)) ≡ None
unfolding numbered
gates_pass library [] room number back rest goes known pass = pass back number (subst (λ (n : ℕ). Goes false n back) (omega arith) goes)
gates_pass library (placed ∷ gates) room number back rest goes known pass =
    let line = entry number (gate_line placed) in
    let one : Goes false (suc (length gates + room)) back = subst (λ (n : ℕ). Goes false n back) (omega arith) goes in
    no_fault library back (numbered (number + 1) (map gate_line gates ++ rest)) line (gate_taken library number (length gates + room) back placed one known.0)
    (gates_pass library gates room (number + 1) (line ∷ back) rest (goes_gate number (length gates + room) placed back one) known.1 pass)

clocks_pass : (library : Option (List TheGate)) (clocks : List (List ℕ)) (room number : ℕ) (back : List Entry) (rest : List Written) → Goes false room back → AllByRecursion IsShort clocks → Passes library false room rest → first_line_fault library back (numbered number (clock_lines clocks ++ rest)) ≡ None
unfolding clock_lines numbered kind_of keyword_of
clocks_pass library [] room number back rest goes h pass = pass back number goes
clocks_pass library (clock ∷ clocks) room number back rest goes h pass =
    let line = entry number (dotted (codes ".clock") (clock ∷ clocks)) in
    no_fault library back (numbered (number + 1) rest) line (clock_taken library number room back (clock ∷ clocks) goes h) (pass (line ∷ back) (number + 1) (goes_on Clock false room line back refl refl refl goes))

end_passes : (library : Option (List TheGate)) (had : Bool) → Passes library had 0 end_lines
unfolding numbered first_line_fault
end_passes library had back number goes = no_fault library back [] (entry number (dotted (codes ".end") [])) (end_taken library number back) refl

part_passes : (library : Option (List TheGate)) (part : List Table) → AllByRecursion (OfTable IsShort) part → AllByRecursion IsSmallTable part → AllByRecursion IsShaped part → Passes library false (length part + 0) (dont_care_lines part ++ end_lines)
unfolding dont_care_lines numbered kind_of keyword_of
part_passes library [] h small shaped = end_passes library false
part_passes library (table ∷ part) h small shaped = λ back number goes.
    let line = entry number (dotted (codes ".exdc") []) in
    no_fault library back (numbered (number + 1) (flat_map table_lines (table ∷ part) ++ end_lines)) line (part_taken library number (length (table ∷ part) + 0) back goes)
    (tables_pass library (table ∷ part) true 0 (number + 1) (line ∷ back) end_lines (goes_on DontCare false (length (table ∷ part) + 0) line back refl refl refl goes) h small shaped (end_passes library true))

goes_first : (room : ℕ) → room ≤ MAX_NODES → Goes false room []
unfolding is_ended has_part nodes_in
goes_first room h = record { going = refl; part = refl; few = omega (arith, h) }

pub no_line_fault : (library : Option (List TheGate)) (gates : List Placed) (circuit : Circuit) → AllByRecursion (IsKnown library) gates → OfNames IsShort circuit → AllByRecursion IsSmallTable circuit.tables → AllByRecursion IsSmallTable circuit.dont_care → AllByRecursion IsShaped circuit.tables → AllByRecursion IsShaped circuit.dont_care
    → length gates + length circuit.tables + length circuit.latches + length circuit.dont_care ≤ MAX_NODES → first_line_fault library [] (numbered 1 (lines_with_gates gates circuit)) ≡ None
unfolding lines_with_gates numbered kind_of keyword_of
no_line_fault library gates circuit known h small small_part shaped shaped_part few =
    let room = length circuit.latches + (length gates + (length circuit.tables + (length circuit.dont_care + 0))) in
    let model = entry 1 (dotted (codes ".model") (circuit.name ∷ [])) in
    let inputs = entry 2 (dotted (codes ".inputs") circuit.inputs) in
    let outputs = entry 3 (dotted (codes ".outputs") circuit.outputs) in
    let part = dont_care_lines circuit.dont_care ++ end_lines in
    let tables = flat_map table_lines circuit.tables ++ part in
    let latches = map (latch_line circuit.timing) circuit.latches ++ (map gate_line gates ++ tables) in
    let rest = clock_lines circuit.clocks ++ latches in
    let after_model : Goes false room (model ∷ []) = goes_on Model false room model [] refl refl refl (goes_first room (omega (arith, few))) in
    let after_inputs : Goes false room (inputs ∷ model ∷ []) = goes_on Inputs false room inputs (model ∷ []) refl refl refl after_model in
    let after_outputs : Goes false room (outputs ∷ inputs ∷ model ∷ []) = goes_on Outputs false room outputs (inputs ∷ model ∷ []) refl refl refl after_inputs in
    no_fault library [] (inputs ∷ outputs ∷ numbered 4 rest) model (model_taken library 1 circuit.name h.name)
    (no_fault library (model ∷ []) (outputs ∷ numbered 4 rest) inputs (inputs_taken library 2 room (model ∷ []) circuit.inputs after_model h.inputs)
    (no_fault library (inputs ∷ model ∷ []) (numbered 4 rest) outputs (outputs_taken library 3 room (inputs ∷ model ∷ []) circuit.outputs after_inputs h.outputs)
    (clocks_pass library circuit.clocks room 4 (outputs ∷ inputs ∷ model ∷ []) latches after_outputs h.clocks
    (λ back number goes. latches_pass library circuit.timing circuit.latches (length gates + (length circuit.tables + (length circuit.dont_care + 0))) number back (map gate_line gates ++ tables) goes h.timing h.latches
    (λ after place going. gates_pass library gates (length circuit.tables + (length circuit.dont_care + 0)) place after tables going known
    (λ behind there gone. tables_pass library circuit.tables false (length circuit.dont_care + 0) there behind part gone h.tables small shaped
    (part_passes library circuit.dont_care h.dont_care small_part shaped_part)))))))
