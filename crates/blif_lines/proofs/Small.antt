-- What is read keeps the limits: each draft does, and each step keeps it so; with it the shape of
-- tables.

use Rattle.std.specs.Prelude.{◌≡◌, ℕ, ◌+◌, ◌-◌, ◌<◌, ◌≤◌, length, take, Bool, true, false, not, ◌||◌, bytes_eq, nat_le, nat_lt, Option, Some, None, Ok, List, [], ◌∷◌, ◌++◌, map, slice_index, codes}
use Rattle.std.specs.List.{AllByRecursion}
use Rattle.std.specs.Option.{option_map}
use Rattle.std.proofs.Common.{refl, sym, ◌∙◌, ap, subst, arith, eqb-true}
use Rattle.std.proofs.lemmas.Bool.{leb-false, ltb-false}
use Rattle.std.proofs.lemmas.List.{length-take-le, length-map, length-append}
use Rattle.circuit_model.specs.declared.circuit.Tri.{Tri}
use Rattle.circuit_model.specs.declared.circuit.Table.{Table}
use Rattle.circuit_model.specs.declared.circuit.Latch.{Latch as TheLatch}
use Rattle.circuit_model.specs.Counts.{IsSmallTable, IsWithinLimits}
use Rattle.circuit_model.specs.Soundness.{IsShaped}
use Rattle.circuit_tables.specs.Folding.{folded}
use Rattle.line_words.specs.LineWords.{first_word, other_words}
use Rattle.genlib_format.specs.declared.gate.Gate.{Gate as TheGate}
use Rattle.blif_gates.specs.GateLines.{read_gate}
use Rattle.blif_lines.specs.Lines.{when, input_words, long_fault, one_too_many, many_inputs, is_in_model, is_behind, is_init, is_latch_kind, is_latch, latch_names, is_none, is_row_of, output_character, has_mark, table_row_fault, fault_under, row_fault, names_fault, latch_fault, fault_as, joined}
use Rattle.blif_lines.specs.Libraries.{IsSoundLibrary}
use Rattle.blif_lines.specs.Reader.{row_of, table_of, latch_of, init_of, gate_tables, circuit_of}
use Rattle.blif_lines.specs.Steps.{width_of, growing_of, before_of, with_row, row_behind, tables_with, place_of, with_line, no_lines, model_of, part_of, told_of}
use Rattle.blif_lines.specs.declared.keyword.Keyword.{Keyword}
use Rattle.blif_lines.specs.declared.keyword.Keyword.TheVariants.{Model, Inputs, Outputs, Clock, Names, Latch, Gate, Subckt, StartKiss, DontCare, End, Skipped, Row, Other}
use Rattle.blif_lines.specs.declared.part.Part.{Part}
use Rattle.blif_lines.specs.declared.fault.LimitKind.TheVariants as limit
use Rattle.blif_lines.specs.declared.fault.BlifFault.{BlifFault}
use Rattle.blif_lines.specs.declared.fault.BlifFault.TheVariants.{UnknownWord, BadArity, BadRow, MixedPhase, BadLatch, Limit}
use Rattle.blif_lines.specs.declared.draft.Reading.{Reading}
use Rattle.blif_lines.specs.declared.draft.Draft.{Draft}
use Rattle.blif_lines.proofs.NameLists.{same_name, all_append, all_front, all_back, all_kept, all_map, and_left, and_right}
use Rattle.blif_lines.proofs.Faults.{none_first, none_later, not_when, not_not_when, right_latch, right_gate, part_begins}
use Rattle.blif_lines.proofs.Gates.{each_gate, one_gate, gate_shaped, gate_small}
use Rattle.circuit_tables.proofs.Folded.{folded_shaped, folded_input_count, folded_row_count}
use Rattle.sis_base.specs.declared.limits.TheConstants.{MAX_INPUTS, MAX_NODES, MAX_ROWS}

-- a table as it is written: few rows, few inputs, each row with a character for each input
pub record IsGoodTable (table : Table) : Type 0 where
  pub rows : length table.rows ≤ MAX_ROWS
  pub inputs : length table.inputs ≤ MAX_INPUTS
  pub shaped : IsShaped table

-- the tables of a draft, each with a fact, and how many nodes there are
pub record AreSmall (P : Table → Type 0) (has_part : Bool) (own last : List Table) (states : List TheLatch) (nodes : ℕ) : Type 0 where
  pub tables : AllByRecursion P last
  pub model : AllByRecursion P own
  pub none : has_part ≡ false → own ≡ []
  pub count : length last + (length own + length states) ≡ nodes
  pub few : nodes ≤ MAX_NODES
  pub inits : AllByRecursion (λ (latch : TheLatch). latch.init ≤ 3) states

abbrev pub IsSmallDraft : (Table → Type 0) → Draft → Type 0
IsSmallDraft P draft = AreSmall P draft.has_part draft.model_tables (tables_with draft.tables draft.reading) draft.latches draft.nodes

pub length_with : (tables : List Table) (reading : Reading) → length (tables_with tables (Some reading)) ≡ length tables + 1
unfolding tables_with
length_with tables reading = length-append tables (reading.table ∷ [])

-- a `.names` line without a fault has few inputs, and few tables and latches come before it
abbrev pub names_causes : ℕ → ℕ → List (List ℕ) → List (Option BlifFault)
names_causes nodes number words = when (is_none words) (BadArity number) ∷ long_fault words ∷ one_too_many nodes ∷ many_inputs (input_words words) ∷ []

pub few_inputs : (place : Part) (nodes number : ℕ) (words : List (List ℕ)) → names_fault place nodes number words ≡ None → length (input_words words) ≤ MAX_INPUTS
unfolding names_fault
few_inputs place nodes number words f =
    ltb-false MAX_INPUTS (length (input_words words)) (not_when (nat_lt MAX_INPUTS (length (input_words words))) (Limit limit.Inputs (length (input_words words)))
    (none_first (many_inputs (input_words words)) []
    (none_later (one_too_many nodes) (many_inputs (input_words words) ∷ [])
    (none_later (long_fault words) (one_too_many nodes ∷ many_inputs (input_words words) ∷ [])
    (none_later (when (is_none words) (BadArity number)) (long_fault words ∷ one_too_many nodes ∷ many_inputs (input_words words) ∷ [])
    (none_later (when (is_behind place) (UnknownWord number)) (names_causes nodes number words) f))))))

pub few_before : (nodes : ℕ) → one_too_many nodes ≡ None → nodes < MAX_NODES
few_before nodes f = leb-false MAX_NODES nodes (not_when (nat_le MAX_NODES nodes) (Limit limit.Tables (MAX_NODES + 1)) f)

pub few_tables : (place : Part) (nodes number : ℕ) (words : List (List ℕ)) → names_fault place nodes number words ≡ None → nodes < MAX_NODES
unfolding names_fault
few_tables place nodes number words f =
    few_before nodes
    (none_first (one_too_many nodes) (many_inputs (input_words words) ∷ [])
    (none_later (long_fault words) (one_too_many nodes ∷ many_inputs (input_words words) ∷ [])
    (none_later (when (is_none words) (BadArity number)) (long_fault words ∷ one_too_many nodes ∷ many_inputs (input_words words) ∷ [])
    (none_later (when (is_behind place) (UnknownWord number)) (names_causes nodes number words) f))))

pub few_latches : (place : Part) (nodes number : ℕ) (words : List (List ℕ)) → latch_fault place nodes number words ≡ None → nodes < MAX_NODES
unfolding latch_fault
few_latches place nodes number words f =
    few_before nodes
    (none_first (one_too_many nodes) []
    (none_later (long_fault (latch_names words)) (one_too_many nodes ∷ [])
    (none_later (when (not (is_latch words)) (BadLatch number)) (long_fault (latch_names words) ∷ one_too_many nodes ∷ [])
    (none_later (when (not (is_in_model place)) (UnknownWord number)) (when (not (is_latch words)) (BadLatch number) ∷ long_fault (latch_names words) ∷ one_too_many nodes ∷ []) f))))

-- a latch's start value is at most 3
pub digit_small : (word : List ℕ) → is_init word ≡ true → slice_index word 0 - 48 ≤ 3
digit_small word e = by (bytes_eq word (codes "0")) (bytes_eq word (codes "1")) (bytes_eq word (codes "2")) (bytes_eq word (codes "3")) refl refl refl refl e
  where
    is : (digit : List ℕ) → slice_index digit 0 - 48 ≤ 3 → bytes_eq word digit ≡ true → slice_index word 0 - 48 ≤ 3
    is digit small same = subst (λ (w : List ℕ). slice_index w 0 - 48 ≤ 3) (sym (same_name word digit same)) small

    by : (a b c d : Bool) → bytes_eq word (codes "0") ≡ a → bytes_eq word (codes "1") ≡ b → bytes_eq word (codes "2") ≡ c → bytes_eq word (codes "3") ≡ d → (a || b || c || d) ≡ true → slice_index word 0 - 48 ≤ 3
    by true b c d p q r s h = is (codes "0") (omega arith) p
    by false true c d p q r s h = is (codes "1") (omega arith) q
    by false false true d p q r s h = is (codes "2") (omega arith) r
    by false false false true p q r s h = is (codes "3") (omega arith) s
    by false false false false p q r s h = absurd (cc)

pub init_small : (input output : List ℕ) (rest : List (List ℕ)) → is_latch (input ∷ output ∷ rest) ≡ true → init_of rest ≤ 3
init_small input output [] e = omega arith
init_small input output (init ∷ []) e = digit_small init e
init_small input output (kind ∷ control ∷ []) e = omega arith
init_small input output (kind ∷ control ∷ init ∷ []) e = digit_small init (and_right (is_latch_kind kind) (is_init init) e)
init_small input output (kind ∷ control ∷ init ∷ word ∷ words) e = absurd (cc)

pub latch_small : (words : List (List ℕ)) → is_latch words ≡ true → AllByRecursion (λ (latch : TheLatch). latch.init ≤ 3) (latch_of words)
latch_small [] e = tt
latch_small (input ∷ []) e = tt
latch_small (input ∷ output ∷ rest) e = (init_small input output rest e, tt)

pub one_latch : (words : List (List ℕ)) → is_latch words ≡ true → length (latch_of words) ≡ 1
one_latch [] e = absurd (cc)
one_latch (input ∷ []) e = absurd (cc)
one_latch (input ∷ output ∷ rest) e = refl

-- tables
pub good_new : (words : List (List ℕ)) → length (input_words words) ≤ MAX_INPUTS → IsGoodTable (table_of words [])
unfolding table_of
good_new words h = record { rows = omega arith; inputs = h; shaped = (tt, λ e. refl) }

pub row_long : (width : ℕ) (bytes : List ℕ) → is_row_of width bytes ≡ true → length (row_of width bytes) ≡ width
unfolding is_row_of
row_long width bytes f =
    let long : length bytes ≡ width + 1 = eqb-true (length bytes) (width + 1) (and_left _ _ (and_left _ _ f)) in
    length-map (take width bytes) _ ∙ length-take-le width bytes (omega arith)

pub some_rows : (rows : List (List Tri)) (row : List Tri) → rows ++ row ∷ [] ≡ [] → ⊥
some_rows [] row e = cc
some_rows (first ∷ rows) row e = cc

abbrev pub row_causes : Reading → ℕ → List ℕ → List (Option BlifFault)
row_causes reading number bytes =
    when (not (has_mark reading.mark (output_character (width_of reading) bytes))) (MixedPhase number)
    ∷ when (nat_le MAX_ROWS (length reading.table.rows)) (Limit limit.Rows (MAX_ROWS + 1)) ∷ []

pub shaped_row : (reading : Reading) (number : ℕ) (bytes : List ℕ) → table_row_fault (growing_of reading) number bytes ≡ None → IsShaped reading.table → IsShaped (with_row reading bytes).table
unfolding table_row_fault with_row
shaped_row reading number bytes f s =
    let is : is_row_of (width_of reading) bytes ≡ true = not_not_when (is_row_of (width_of reading) bytes) (BadRow number)
    (none_first (when (not (is_row_of (width_of reading) bytes)) (BadRow number)) (row_causes reading number bytes) f) in (
      all_append (λ (row : List Tri). length row ≡ length reading.table.inputs) reading.table.rows (row_of (width_of reading) bytes ∷ []) s.0
          (row_long (width_of reading) bytes is, tt),
      λ e. absurd (some_rows reading.table.rows (row_of (width_of reading) bytes) e),
    )

pub good_row : (reading : Reading) (number : ℕ) (bytes : List ℕ) → table_row_fault (growing_of reading) number bytes ≡ None → IsGoodTable reading.table → IsGoodTable (with_row reading bytes).table
unfolding table_row_fault with_row
good_row reading number bytes f s =
    let few : length reading.table.rows < MAX_ROWS = leb-false MAX_ROWS (length reading.table.rows) (not_when (nat_le MAX_ROWS (length reading.table.rows)) (Limit limit.Rows (MAX_ROWS + 1))
    (none_first (when (nat_le MAX_ROWS (length reading.table.rows)) (Limit limit.Rows (MAX_ROWS + 1))) []
    (none_later (when (not (has_mark reading.mark (output_character (width_of reading) bytes))) (MixedPhase number)) (when (nat_le MAX_ROWS (length reading.table.rows)) (Limit limit.Rows (MAX_ROWS + 1)) ∷ [])
    (none_later (when (not (is_row_of (width_of reading) bytes)) (BadRow number)) (row_causes reading number bytes) f)))) in
    record {
      rows = omega (arith, length-append reading.table.rows (row_of (width_of reading) bytes ∷ []));
      inputs = s.inputs;
      shaped = shaped_row reading number bytes f s.shaped;
    }

pub good_gate : (gates : List TheGate) (cell : List ℕ) (words : List (List ℕ)) (table : Table) → IsSoundLibrary (Some gates) → read_gate gates cell words ≡ Ok table → IsGoodTable table
good_gate gates cell words table sound e =
    let small = gate_small gates cell words table sound e in record { rows = small.0; inputs = small.1; shaped = gate_shaped gates cell words table e }

-- a fact of tables that lines keep: a new table has it, a row leaves it, and the tables of gates
-- have it
pub record AreKept (library : Option (List TheGate)) (P : Table → Type 0) : Type 0 where
  pub new : (words : List (List ℕ)) → length (input_words words) ≤ MAX_INPUTS → P (table_of words [])
  pub row : (reading : Reading) (number : ℕ) (bytes : List ℕ) → table_row_fault (growing_of reading) number bytes ≡ None → P reading.table → P (with_row reading bytes).table
  pub gates : (words : List (List ℕ)) → AllByRecursion P (gate_tables library words)

pub shaped_kept : (library : Option (List TheGate)) → AreKept library IsShaped
unfolding table_of
shaped_kept library = record {
  new = λ words h. (tt, λ e. refl);
  row = λ reading number bytes f s. shaped_row reading number bytes f s;
  gates = λ words. each_gate library words (AllByRecursion IsShaped) tt (λ gates table g e. (gate_shaped gates (first_word words) (other_words words) table e, tt));
}

pub good_kept : (library : Option (List TheGate)) → IsSoundLibrary library → AreKept library IsGoodTable
good_kept library sound = record {
  new = good_new;
  row = good_row;
  gates = λ words. each_gate library words (AllByRecursion IsGoodTable) tt (λ gates table g e. (good_gate gates (first_word words) (other_words words) table (subst IsSoundLibrary g sound) e, tt));
}

pub fact_behind : (library : Option (List TheGate)) (P : Table → Type 0) → AreKept library P → (tables : List Table) (reading : Option Reading) (number : ℕ) (bytes : List ℕ) → fault_under (option_map growing_of reading) number bytes ≡ None → AllByRecursion P (tables_with tables reading) → AllByRecursion P (tables_with tables (row_behind reading bytes))
unfolding tables_with
fact_behind library P k tables None number bytes f a = a
fact_behind library P k tables (Some reading) number bytes f a =
    all_append P tables ((with_row reading bytes).table ∷ []) (all_front P tables (reading.table ∷ []) a)
    (k.row reading number bytes f (all_back P tables (reading.table ∷ []) a).0, tt)

pub length_behind : (tables : List Table) (reading : Option Reading) (bytes : List ℕ) → length (tables_with tables (row_behind reading bytes)) ≡ length (tables_with tables reading)
length_behind tables None bytes = refl
length_behind tables (Some reading) bytes = length_with tables (with_row reading bytes) ∙ sym (length_with tables reading)

pub small_kept : (library : Option (List TheGate)) (P : Table → Type 0) → AreKept library P → (kind : Keyword) (draft : Draft) (number : ℕ) (words whole : List (List ℕ)) → fault_as library kind (before_of draft) number words whole ≡ None → IsSmallDraft P draft → IsSmallDraft P (with_line library kind draft number words whole)
unfolding tables_with row_fault
small_kept library P k Model draft number words whole f s = s
small_kept library P k Inputs draft number words whole f s = s
small_kept library P k Outputs draft number words whole f s = s
small_kept library P k Clock draft number words whole f s = s
small_kept library P k Names draft number words whole f s =
    let before : draft.nodes < MAX_NODES = few_tables (place_of draft) draft.nodes number words f in
    let one : length (tables_with draft.tables draft.reading ++ table_of words [] ∷ []) ≡ length (tables_with draft.tables draft.reading) + 1 = length-append (tables_with draft.tables draft.reading) (table_of words [] ∷ []) in
    let all : length (tables_with draft.tables draft.reading) + (length draft.model_tables + length draft.latches) ≡ draft.nodes = s.count in
    record {
      tables = all_append P (tables_with draft.tables draft.reading) (table_of words [] ∷ []) s.tables (k.new words (few_inputs (place_of draft) draft.nodes number words f), tt);
      model = s.model;
      none = s.none;
      count = omega arith;
      few = omega arith;
      inits = s.inits;
    }
small_kept library P k Latch draft number words whole f s =
    let before : draft.nodes < MAX_NODES = few_latches (place_of draft) draft.nodes number words f in
    let is : is_latch words ≡ true = right_latch (place_of draft) draft.nodes number words f in
    let one : length (draft.latches ++ latch_of words) ≡ length draft.latches + 1 = length-append draft.latches (latch_of words) ∙ ap (λ n. length draft.latches + n) (one_latch words is) in
    let all : length (tables_with draft.tables draft.reading) + (length draft.model_tables + length draft.latches) ≡ draft.nodes = s.count in
    record {
      tables = s.tables;
      model = s.model;
      none = s.none;
      count = omega arith;
      few = omega arith;
      inits = all_append (λ (latch : TheLatch). latch.init ≤ 3) draft.latches (latch_of words) s.inits (latch_small words is);
    }
small_kept library P k Gate draft number words whole f s =
    let right = right_gate library (place_of draft) draft.nodes number words f in
    let before : draft.nodes < MAX_NODES = few_before draft.nodes right.few in
    let one : length (gate_tables library words) ≡ 1 = one_gate library number words (λ tables. length tables ≡ 1) right.cell (λ gates table g e. refl) in
    let more : length (tables_with draft.tables draft.reading ++ gate_tables library words) ≡ length (tables_with draft.tables draft.reading) + length (gate_tables library words) = length-append (tables_with draft.tables draft.reading) (gate_tables library words) in
    let all : length (tables_with draft.tables draft.reading) + (length draft.model_tables + length draft.latches) ≡ draft.nodes = s.count in
    record {
      tables = all_append P (tables_with draft.tables draft.reading) (gate_tables library words) s.tables (k.gates words);
      model = s.model;
      none = s.none;
      count = omega arith;
      few = omega arith;
      inits = s.inits;
    }
small_kept library P k Subckt draft number words whole f s = s
small_kept library P k StartKiss draft number words whole f s = s
small_kept library P k DontCare draft number words whole f s =
    let all : length (tables_with draft.tables draft.reading) + (length draft.model_tables + length draft.latches) ≡ draft.nodes = s.count in
    let before : length draft.model_tables ≡ 0 = ap (λ (ts : List Table). length ts) (s.none (part_begins draft.ended draft.has_part number f)) in
    record { tables = tt; model = s.tables; none = λ h. absurd (cc); count = omega arith; few = s.few; inits = s.inits }
small_kept library P k End draft number words whole f s = s
small_kept library P k Skipped draft number words whole f s = s
small_kept library P k Row draft number words whole f s = record {
  tables = fact_behind library P k draft.tables draft.reading number (joined whole)
      (none_first (fault_under (option_map growing_of draft.reading) number (joined whole)) []
      (none_later (when (is_behind (place_of draft)) (UnknownWord number)) (fault_under (option_map growing_of draft.reading) number (joined whole) ∷ []) f)) s.tables;
  model = s.model;
  none = s.none;
  count = ap (λ n. n + (length draft.model_tables + length draft.latches)) (length_behind draft.tables draft.reading (joined whole)) ∙ s.count;
  few = s.few;
  inits = s.inits;
}
small_kept library P k Other draft number words whole f s = s

pub small_nothing : (P : Table → Type 0) → IsSmallDraft P no_lines
unfolding tables_with
small_nothing P = record { tables = tt; model = tt; none = λ h. refl; count = refl; few = omega arith; inits = tt }

-- a good table is a small one when it is folded
pub rows_short : (width : ℕ) (rows : List (List Tri)) → width ≤ MAX_INPUTS → AllByRecursion (λ (row : List Tri). length row ≡ width) rows → AllByRecursion (λ (row : List Tri). length row ≤ MAX_INPUTS) rows
rows_short width [] h a = tt
rows_short width (row ∷ rows) h a = (let e : length row ≡ width = a.0 in omega arith, rows_short width rows h a.1)

pub small_folded : (table : Table) → IsGoodTable table → IsSmallTable (folded table)
small_folded table g =
    let few : length (folded table).inputs ≤ length table.inputs = folded_input_count table in
    let most : length table.inputs ≤ MAX_INPUTS = g.inputs in
    let fewer : length (folded table).rows ≤ length table.rows = folded_row_count table g.shaped in
    let rows : length table.rows ≤ MAX_ROWS = g.rows in
    record {
      rows = omega arith;
      inputs = omega arith;
      widths = rows_short (length (folded table).inputs) (folded table).rows (omega arith) (folded_shaped table g.shaped).0;
    }

-- a good table is a small one as it is written
pub small_written : (table : Table) → IsGoodTable table → IsSmallTable table
small_written table g = record { rows = g.rows; inputs = g.inputs; widths = rows_short (length table.inputs) table.rows g.inputs g.shaped.0 }

-- the tables of the model and of the part
pub model_tables_are : (P : Table → Type 0) (draft : Draft) → IsSmallDraft P draft → AllByRecursion P (told_of draft).tables
model_tables_are P draft s = by draft.has_part
  where
    by : (had : Bool) → AllByRecursion P (model_of had draft.model_tables (tables_with draft.tables draft.reading))
    by true = s.model
    by false = s.tables

pub part_tables_are : (P : Table → Type 0) (draft : Draft) → IsSmallDraft P draft → AllByRecursion P (told_of draft).dont_care
part_tables_are P draft s = by draft.has_part
  where
    by : (had : Bool) → AllByRecursion P (part_of had (tables_with draft.tables draft.reading))
    by true = s.tables
    by false = tt

pub small_kept_all : (draft : Draft) → IsSmallDraft IsGoodTable draft → IsWithinLimits (circuit_of (told_of draft))
small_kept_all draft s = record {
  nodes = let few : draft.nodes ≤ MAX_NODES = s.few in
      let same : length (map folded (told_of draft).tables) ≡ length (told_of draft).tables = length-map (told_of draft).tables folded in
      let all : length (told_of draft).tables + length draft.latches + length (told_of draft).dont_care ≡ draft.nodes = by draft.has_part refl in omega arith;
  tables = all_map IsGoodTable IsSmallTable folded (told_of draft).tables small_folded (model_tables_are IsGoodTable draft s);
  dont_care = all_kept IsGoodTable IsSmallTable (told_of draft).dont_care small_written (part_tables_are IsGoodTable draft s);
}
  where
    by : (had : Bool) → draft.has_part ≡ had → length (model_of had draft.model_tables (tables_with draft.tables draft.reading)) + length draft.latches + length (part_of had (tables_with draft.tables draft.reading)) ≡ draft.nodes
    by true h = let all : length (tables_with draft.tables draft.reading) + (length draft.model_tables + length draft.latches) ≡ draft.nodes = s.count in omega arith
    by false h =
        let all : length (tables_with draft.tables draft.reading) + (length draft.model_tables + length draft.latches) ≡ draft.nodes = s.count in
        let before : length draft.model_tables ≡ 0 = ap (λ (ts : List Table). length ts) (s.none h) in omega arith
