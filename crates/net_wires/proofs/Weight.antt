-- A number that falls at each step of sweep: four for each latch, one for each table, each input
-- and each row, and one for each table that tables read.
use Rattle.std.proofs.Common.{◌≡◌, ℕ, suc, ◌+◌, ◌*◌, ◌<◌, ◌≤◌, Bool, true, false, not, ◌&&◌, ◌||◌, cond, if◌then◌else◌, Some, List, [], ◌∷◌, ◌++◌, length, map, filter, bytes_eq, refl, sym, ap, ◌∙◌, subst, arith, inl, inr, ◌⊎◌, length-append}
use Rattle.std.specs.List.{AllByRecursion, list_all}
use Rattle.std.proofs.lemmas.Bool.{false≢true, and_cases}
use Rattle.std.proofs.lemmas.List.{length-map}
use Rattle.std.proofs.lemmas.Option.{none-some, same_Some}
use Rattle.circuit_model.specs.Names.{has, all_different}
use Rattle.circuit_model.specs.Values.{driver}
use Rattle.circuit_model.specs.Runs.{latch_outputs}
use Rattle.circuit_model.specs.Soundness.{outputs_of, table_inputs, given, IsShaped, IsSound}
use Rattle.circuit_model.specs.declared.circuit.Table.{Table}
use Rattle.circuit_model.specs.declared.circuit.Latch.{Latch}
use Rattle.circuit_model.specs.declared.circuit.Circuit.{Circuit}
use Rattle.circuit_laws.specs.Edits.{replaced, tables_kept, latches_kept, with_tables, with_replaced, with_added, with_kept, with_fixed, constant_table, is_other}
use Rattle.circuit_laws.proofs.Names.{name_not, has_front, has_back, has_either, has_none, has_not, all_has, different_apart}
use Rattle.circuit_laws.proofs.Drivers.{driver_output, driver_reads, outputs-replaced}
use Rattle.circuit_laws.proofs.Ranks.{leads_one}
use Rattle.circuit_laws.proofs.Paths.{no_return}
use Rattle.circuit_laws.proofs.Places.{tables_stay}
use Rattle.circuit_laws.proofs.Sound.{outputs-added}
use Rattle.circuit_tables.proofs.Tidied.{size_of}
use Rattle.net_wires.specs.Needed.{is_needed, all_needed, only_needed}
use Rattle.net_wires.specs.Rules.{tables_read, at_bit, rewired}
use Rattle.net_wires.proofs.Closing.{counted, counted_most, agree_or_more}
use Rattle.net_wires.proofs.Turned.{at_output, at_reads, ReadsOr, rewired_output, rewired_reads}
use Rattle.net_wires.proofs.Sizes.{at_small, at_smaller, rewired_small, rewired_without, constant_size}
use Rattle.circuit_laws.proofs.Mapped.{outputs-mapped}

unfoldable pub sizes_of : List Table → ℕ
sizes_of [] = 0
sizes_of (table ∷ tables) = size_of table + sizes_of tables

-- how many tables are read by tables
unfoldable pub read_count : List Table → ℕ
read_count tables = counted (has (table_inputs tables)) (outputs_of tables)

unfoldable pub weight : Circuit → ℕ
weight circuit = 4 * length circuit.latches + length circuit.tables + sizes_of circuit.tables + read_count circuit.tables

-- a table is replaced by a smaller one

replaced_sizes : (tables : List Table) (old new : Table) → driver tables new.output ≡ Some old → sizes_of (replaced tables new) + size_of old ≡ sizes_of tables + size_of new
unfolding driver replaced sizes_of
replaced_sizes [] old new at = absurd (none-some old at)
replaced_sizes (first ∷ tables) old new at = cases (bytes_eq new.output first.output) at (replaced_sizes tables old new)
  where
    cases : (t : Bool) → cond t (Some first) (driver tables new.output) ≡ Some old → (driver tables new.output ≡ Some old → sizes_of (replaced tables new) + size_of old ≡ sizes_of tables + size_of new)
        → sizes_of (cond t (new ∷ tables) (first ∷ replaced tables new)) + size_of old ≡ (size_of first + sizes_of tables) + size_of new
    cases true e more = let same : size_of first ≡ size_of old = ap size_of (same_Some first old e) in omega arith
    cases false e more = let rest : sizes_of (replaced tables new) + size_of old ≡ sizes_of tables + size_of new = more e in omega arith

pub replaced_reads : (tables : List Table) (old new : Table) → driver tables new.output ≡ Some old → ((name : List ℕ) → has new.inputs name ≡ true → has old.inputs name ≡ true)
    → (name : List ℕ) → has (table_inputs (replaced tables new)) name ≡ true → has (table_inputs tables) name ≡ true
unfolding driver replaced
replaced_reads [] old new at within name h = absurd (none-some old at)
replaced_reads (first ∷ tables) old new at within name h = cases (bytes_eq new.output first.output) at h (λ e k. replaced_reads tables old new e within name k)
  where
    cases : (t : Bool) → cond t (Some first) (driver tables new.output) ≡ Some old → has (table_inputs (cond t (new ∷ tables) (first ∷ replaced tables new))) name ≡ true
        → (driver tables new.output ≡ Some old → has (table_inputs (replaced tables new)) name ≡ true → has (table_inputs tables) name ≡ true) → has (first.inputs ++ table_inputs tables) name ≡ true
    cases true e k more =
        elim (has_either new.inputs (table_inputs tables) name k) as (λ _. has (first.inputs ++ table_inputs tables) name ≡ true) [
          | inl here ↦ has_front first.inputs (table_inputs tables) name (subst (λ (t : Table). has t.inputs name ≡ true) (sym (same_Some first old e)) (within name here))
          | inr there ↦ has_back first.inputs (table_inputs tables) name there
        ]
    cases false e k more =
        elim (has_either first.inputs (table_inputs (replaced tables new)) name k) as (λ _. has (first.inputs ++ table_inputs tables) name ≡ true) [
          | inl here ↦ has_front first.inputs (table_inputs tables) name here
          | inr there ↦ has_back first.inputs (table_inputs tables) name (more e there)
        ]

replaced_count : (tables : List Table) (old new : Table) → driver tables new.output ≡ Some old → ((name : List ℕ) → has new.inputs name ≡ true → has old.inputs name ≡ true)
    → read_count (replaced tables new) ≤ read_count tables
unfolding read_count
replaced_count tables old new at within =
    let same : counted (has (table_inputs (replaced tables new))) (outputs_of (replaced tables new)) ≡ counted (has (table_inputs (replaced tables new))) (outputs_of tables) =
    ap (counted (has (table_inputs (replaced tables new)))) (outputs-replaced tables new) in
    let most : counted (has (table_inputs (replaced tables new))) (outputs_of tables) ≤ counted (has (table_inputs tables)) (outputs_of tables) =
    counted_most (has (table_inputs (replaced tables new))) (has (table_inputs tables)) (replaced_reads tables old new at within) (outputs_of tables) in
    omega arith

replaced_long : (tables : List Table) (new : Table) → length (replaced tables new) ≡ length tables
replaced_long tables new =
    sym (length-map (replaced tables new) (λ (table : Table). table.output)) ∙ ap length (outputs-replaced tables new) ∙ length-map tables (λ (table : Table). table.output)

pub replaced_falls : (circuit : Circuit) (old new : Table) → driver circuit.tables new.output ≡ Some old → ((name : List ℕ) → has new.inputs name ≡ true → has old.inputs name ≡ true)
    → size_of new < size_of old → weight (with_replaced circuit new) < weight circuit
unfolding weight with_replaced
replaced_falls circuit old new at within less =
    let sizes : sizes_of (replaced circuit.tables new) + size_of old ≡ sizes_of circuit.tables + size_of new = replaced_sizes circuit.tables old new at in
    let count : read_count (replaced circuit.tables new) ≤ read_count circuit.tables = replaced_count circuit.tables old new at within in
    let long : length (replaced circuit.tables new) ≡ length circuit.tables = replaced_long circuit.tables new in
    omega arith

-- a table is replaced by one that is no larger
pub replaced_lighter : (circuit : Circuit) (old new : Table) → driver circuit.tables new.output ≡ Some old → ((name : List ℕ) → has new.inputs name ≡ true → has old.inputs name ≡ true)
    → size_of new ≤ size_of old → weight (with_replaced circuit new) ≤ weight circuit
unfolding weight with_replaced
replaced_lighter circuit old new at within less =
    let sizes : sizes_of (replaced circuit.tables new) + size_of old ≡ sizes_of circuit.tables + size_of new = replaced_sizes circuit.tables old new at in
    let count : read_count (replaced circuit.tables new) ≤ read_count circuit.tables = replaced_count circuit.tables old new at within in
    let long : length (replaced circuit.tables new) ≡ length circuit.tables = replaced_long circuit.tables new in
    omega arith

-- tables are mapped

abbrev IsPlain : Table → Type 0
IsPlain table = IsShaped table × (all_different table.inputs ≡ true)

pub all_plain : (tables : List Table) → AllByRecursion IsShaped tables → AllByRecursion (λ (table : Table). all_different table.inputs ≡ true) tables → AllByRecursion IsPlain tables
all_plain [] shaped once = tt
all_plain (table ∷ tables) shaped once = ((shaped.0, once.0), all_plain tables shaped.1 once.1)

mapped_sizes : (turn : Table → Table) → ((table : Table) → IsPlain table → size_of (turn table) ≤ size_of table) → (tables : List Table) → AllByRecursion IsPlain tables → sizes_of (map turn tables) ≤ sizes_of tables
unfolding sizes_of
mapped_sizes turn small [] all = omega arith
mapped_sizes turn small (table ∷ tables) all =
    let here : size_of (turn table) ≤ size_of table = small table all.0 in
    let rest : sizes_of (map turn tables) ≤ sizes_of tables = mapped_sizes turn small tables all.1 in
    omega arith

mapped_fewer : (turn : Table → Table) (name : List ℕ) → ((table : Table) → IsPlain table → size_of (turn table) ≤ size_of table)
    → ((table : Table) → IsPlain table → has table.inputs name ≡ true → size_of (turn table) < size_of table)
    → (tables : List Table) → AllByRecursion IsPlain tables → has (table_inputs tables) name ≡ true → sizes_of (map turn tables) < sizes_of tables
unfolding sizes_of
mapped_fewer turn name small smaller [] all h = absurd (false≢true h)
mapped_fewer turn name small smaller (table ∷ tables) all h =
    elim (has_either table.inputs (table_inputs tables) name h) as (λ _. size_of (turn table) + sizes_of (map turn tables) < size_of table + sizes_of tables) [
      | inl reads ↦
          let here : size_of (turn table) < size_of table = smaller table all.0 reads in
          let rest : sizes_of (map turn tables) ≤ sizes_of tables = mapped_sizes turn small tables all.1 in
          omega arith
      | inr there ↦
          let here : size_of (turn table) ≤ size_of table = small table all.0 in
          let rest : sizes_of (map turn tables) < sizes_of tables = mapped_fewer turn name small smaller tables all.1 there in
          omega arith
    ]

pub mapped_reads : (turn : Table → Table) (E : Type 0) (name : List ℕ) → ((table : Table) → has (turn table).inputs name ≡ true → (has table.inputs name ≡ true) ⊎ E)
    → (tables : List Table) → has (table_inputs (map turn tables)) name ≡ true → (has (table_inputs tables) name ≡ true) ⊎ E
mapped_reads turn E name reads [] h = absurd (false≢true h)
mapped_reads turn E name reads (table ∷ tables) h =
    elim (has_either (turn table).inputs (table_inputs (map turn tables)) name h) as (λ _. (has (table.inputs ++ table_inputs tables) name ≡ true) ⊎ E) [
      | inl here ↦ front (reads table here)
      | inr there ↦ back (mapped_reads turn E name reads tables there)
    ]
  where
    front : (has table.inputs name ≡ true) ⊎ E → (has (table.inputs ++ table_inputs tables) name ≡ true) ⊎ E
    front (inl h) = inl (has_front table.inputs (table_inputs tables) name h)
    front (inr e) = inr e

    back : (has (table_inputs tables) name ≡ true) ⊎ E → (has (table.inputs ++ table_inputs tables) name ≡ true) ⊎ E
    back (inl h) = inl (has_back table.inputs (table_inputs tables) name h)
    back (inr e) = inr e

mapped_unread : (turn : Table → Table) (name : List ℕ) → ((table : Table) → has (turn table).inputs name ≡ false) → (tables : List Table) → has (table_inputs (map turn tables)) name ≡ false
mapped_unread turn name none [] = refl
mapped_unread turn name none (table ∷ tables) = has_none (turn table).inputs (table_inputs (map turn tables)) name (none table) (mapped_unread turn name none tables)

mapped_long : (turn : Table → Table) (tables : List Table) → length (map turn tables) ≡ length tables
mapped_long turn tables = length-map tables turn

-- a constant is propagated into the tables that read it
pub propagate_falls : (circuit : Circuit) (name : List ℕ) (bit : Bool) → IsSound circuit → tables_read circuit name ≡ true → weight (with_tables circuit (map (at_bit name bit) circuit.tables)) < weight circuit
unfolding weight read_count
propagate_falls circuit name bit sound reads =
    let plain : AllByRecursion IsPlain circuit.tables = all_plain circuit.tables sound.shaped sound.table_inputs_once in
    let sizes : sizes_of (map (at_bit name bit) circuit.tables) < sizes_of circuit.tables =
    mapped_fewer (at_bit name bit) name (λ t p. at_small name bit t p.0 p.1) (λ t p h. at_smaller name bit t p.0 p.1 h) circuit.tables plain reads in
    let same : counted (has (table_inputs (map (at_bit name bit) circuit.tables))) (outputs_of (map (at_bit name bit) circuit.tables)) ≡ counted (has (table_inputs (map (at_bit name bit) circuit.tables))) (outputs_of circuit.tables) =
    ap (counted (has (table_inputs (map (at_bit name bit) circuit.tables)))) (outputs-mapped (at_bit name bit) (at_output name bit) circuit.tables) in
    let most : counted (has (table_inputs (map (at_bit name bit) circuit.tables))) (outputs_of circuit.tables) ≤ counted (has (table_inputs circuit.tables)) (outputs_of circuit.tables) =
    counted_most (has (table_inputs (map (at_bit name bit) circuit.tables))) (has (table_inputs circuit.tables)) (λ x h. known x (mapped_reads (at_bit name bit) ⊥ x (λ t k. inl (at_reads name bit t x k)) circuit.tables h)) (outputs_of circuit.tables) in
    let long : length (map (at_bit name bit) circuit.tables) ≡ length circuit.tables = mapped_long (at_bit name bit) circuit.tables in
    omega arith
  where
    known : (x : List ℕ) → (has (table_inputs circuit.tables) x ≡ true) ⊎ ⊥ → has (table_inputs circuit.tables) x ≡ true
    known x (inl h) = h
    known x (inr never) = absurd never

-- the fanouts of a table of one input read that input instead
pub collapse_falls : (circuit : Circuit) (table : Table) (input : List ℕ) (inverts : Bool) → IsSound circuit → driver circuit.tables table.output ≡ Some table → has table.inputs input ≡ true
    → tables_read circuit table.output ≡ true → weight (with_tables circuit (map (rewired table.output input inverts) circuit.tables)) < weight circuit
unfolding weight read_count
collapse_falls circuit table input inverts sound at within reads =
    let plain : AllByRecursion IsPlain circuit.tables = all_plain circuit.tables sound.shaped sound.table_inputs_once in
    let sizes : sizes_of (map (rewired table.output input inverts) circuit.tables) ≤ sizes_of circuit.tables =
    mapped_sizes (rewired table.output input inverts) (λ t p. rewired_small table.output input inverts t p.0) circuit.tables plain in
    let same : counted (has (table_inputs (map (rewired table.output input inverts) circuit.tables))) (outputs_of (map (rewired table.output input inverts) circuit.tables))
    ≡ counted (has (table_inputs (map (rewired table.output input inverts) circuit.tables))) (outputs_of circuit.tables) =
    ap (counted (has (table_inputs (map (rewired table.output input inverts) circuit.tables)))) (outputs-mapped (rewired table.output input inverts) (rewired_output table.output input inverts) circuit.tables) in
    let fewer : counted (has (table_inputs (map (rewired table.output input inverts) circuit.tables))) (outputs_of circuit.tables) < counted (has (table_inputs circuit.tables)) (outputs_of circuit.tables) =
    less (agree_or_more (has (table_inputs (map (rewired table.output input inverts) circuit.tables))) (has (table_inputs circuit.tables)) before (outputs_of circuit.tables)) in
    let long : length (map (rewired table.output input inverts) circuit.tables) ≡ length circuit.tables = mapped_long (rewired table.output input inverts) circuit.tables in
    omega arith
  where
    known : (x : List ℕ) → (has (table_inputs circuit.tables) x ≡ true) ⊎ (x ≡ input) → has (table_inputs circuit.tables) x ≡ true
    known x (inl h) = h
    known x (inr is) = subst (λ (y : List ℕ). has (table_inputs circuit.tables) y ≡ true) (sym is) (driver_reads circuit.tables table.output table input at within)

    either : (x : List ℕ) (t : Table) → ReadsOr table.output input t x → (has t.inputs x ≡ true) ⊎ (x ≡ input)
    either x t (inl h) = inl h
    either x t (inr p) = inr p.0

    before : (x : List ℕ) → has (table_inputs (map (rewired table.output input inverts) circuit.tables)) x ≡ true → has (table_inputs circuit.tables) x ≡ true
    before x h = known x (mapped_reads (rewired table.output input inverts) (x ≡ input) x (λ t k. either x t (rewired_reads table.output input inverts t x k)) circuit.tables h)

    apart : bytes_eq table.output input ≡ false
    apart = name_not table.output input (λ e.
        no_return circuit.tables sound.acyclic table.output 0 (leads_one circuit.tables table.output table.output table at (subst (λ (x : List ℕ). has table.inputs x ≡ true) (sym e) within)))

    gone : has (table_inputs (map (rewired table.output input inverts) circuit.tables)) table.output ≡ false
    gone = mapped_unread (rewired table.output input inverts) table.output (λ t. rewired_without table.output input inverts t apart) circuit.tables

    less : AllByRecursion (λ x. has (table_inputs circuit.tables) x ≡ has (table_inputs (map (rewired table.output input inverts) circuit.tables)) x) (outputs_of circuit.tables)
        ⊎ (counted (has (table_inputs (map (rewired table.output input inverts) circuit.tables))) (outputs_of circuit.tables) < counted (has (table_inputs circuit.tables)) (outputs_of circuit.tables))
        → counted (has (table_inputs (map (rewired table.output input inverts) circuit.tables))) (outputs_of circuit.tables) < counted (has (table_inputs circuit.tables)) (outputs_of circuit.tables)
    less (inl same) =
        absurd (false≢true (sym gone ∙ (sym (all_has (λ x. has (table_inputs circuit.tables) x ≡ has (table_inputs (map (rewired table.output input inverts) circuit.tables)) x) (outputs_of circuit.tables) same table.output
        (driver_output circuit.tables table.output table at)) ∙ reads)))
    less (inr more) = more

-- a latch becomes a constant table

sizes_added : (tables : List Table) (new : Table) → sizes_of (tables ++ new ∷ []) ≡ sizes_of tables + size_of new
unfolding sizes_of
sizes_added [] new = omega arith
sizes_added (table ∷ tables) new = let rest : sizes_of (tables ++ new ∷ []) ≡ sizes_of tables + size_of new = sizes_added tables new in omega arith

pub constant_reads : (tables : List Table) (name : List ℕ) (bit : Bool) (x : List ℕ) → has (table_inputs (tables ++ constant_table name bit ∷ [])) x ≡ true → has (table_inputs tables) x ≡ true
constant_reads [] name bit x h = h
constant_reads (table ∷ tables) name bit x h =
    elim (has_either table.inputs (table_inputs (tables ++ constant_table name bit ∷ [])) x h) as (λ _. has (table.inputs ++ table_inputs tables) x ≡ true) [
      | inl here ↦ has_front table.inputs (table_inputs tables) x here
      | inr there ↦ has_back table.inputs (table_inputs tables) x (constant_reads tables name bit x there)
    ]

counted_added : (test : List ℕ → Bool) (names : List (List ℕ)) (name : List ℕ) → counted test (names ++ name ∷ []) ≤ suc (counted test names)
unfolding counted
counted_added test [] name = cases (test name)
  where
    cases : (t : Bool) → (if t then suc (counted test []) else counted test []) ≤ suc (counted test [])
    cases true = omega arith
    cases false = omega arith
counted_added test (first ∷ names) name = cases (test first) (counted_added test names name)
  where
    cases : (t : Bool) → counted test (names ++ name ∷ []) ≤ suc (counted test names)
        → (if t then suc (counted test (names ++ name ∷ [])) else counted test (names ++ name ∷ [])) ≤ suc (if t then suc (counted test names) else counted test names)
    cases true h = omega arith
    cases false h = omega arith

pub latches_fewer : (name : List ℕ) (latches : List Latch) → has (map (λ (l : Latch). l.output) latches) name ≡ true → length (latches_kept (is_other name) latches) < length latches
unfolding latches_kept
latches_fewer name [] h = absurd (false≢true h)
latches_fewer name (latch ∷ latches) h = cases (bytes_eq name latch.output) h (most latches) (latches_fewer name latches)
  where
    most : (some : List Latch) → length (filter (λ (l : Latch). is_other name l.output) some) ≤ length some
    most [] = omega arith
    most (first ∷ some) = by (is_other name first.output) (most some)
      where
        by : (t : Bool) → length (filter (λ (l : Latch). is_other name l.output) some) ≤ length some
            → length (if t then first ∷ filter (λ (l : Latch). is_other name l.output) some else filter (λ (l : Latch). is_other name l.output) some) ≤ suc (length some)
        by true h = omega arith
        by false h = omega arith

    cases : (t : Bool) → (t || has (map (λ (l : Latch). l.output) latches) name) ≡ true → length (filter (λ (l : Latch). is_other name l.output) latches) ≤ length latches
        → (has (map (λ (l : Latch). l.output) latches) name ≡ true → length (filter (λ (l : Latch). is_other name l.output) latches) < length latches)
        → length (if not t then latch ∷ filter (λ (l : Latch). is_other name l.output) latches else filter (λ (l : Latch). is_other name l.output) latches) < suc (length latches)
    cases true k small more = omega arith
    cases false k small more = let less : length (filter (λ (l : Latch). is_other name l.output) latches) < length latches = more k in omega arith

latch_no_table : (circuit : Circuit) → IsSound circuit → (name : List ℕ) → has (latch_outputs circuit) name ≡ true → has (outputs_of circuit.tables) name ≡ false
unfolding given
latch_no_table circuit sound name h =
    has_not (outputs_of circuit.tables) name (λ k.
    (different_apart (latch_outputs circuit) (outputs_of circuit.tables) (different_apart circuit.inputs (latch_outputs circuit ++ outputs_of circuit.tables) sound.one_driver).back).between name h k)

pub latch_falls : (circuit : Circuit) (name : List ℕ) (bit : Bool) → IsSound circuit → has (latch_outputs circuit) name ≡ true → weight (with_fixed circuit name bit) < weight circuit
unfolding weight read_count with_fixed with_added with_kept
latch_falls circuit name bit sound h =
    let latches : length (latches_kept (is_other name) circuit.latches) < length circuit.latches = latches_fewer name circuit.latches h in
    let stay : tables_kept (is_other name) circuit.tables ≡ circuit.tables = tables_stay circuit.tables name (latch_no_table circuit sound name h) in
    let long : length (tables_kept (is_other name) circuit.tables ++ constant_table name bit ∷ []) ≡ length circuit.tables + 1 =
    ap (λ (tables : List Table). length (tables ++ constant_table name bit ∷ [])) stay ∙ length-append circuit.tables (constant_table name bit ∷ []) in
    let sizes : sizes_of (tables_kept (is_other name) circuit.tables ++ constant_table name bit ∷ []) ≡ sizes_of circuit.tables + size_of (constant_table name bit) =
    ap (λ (tables : List Table). sizes_of (tables ++ constant_table name bit ∷ [])) stay ∙ sizes_added circuit.tables (constant_table name bit) in
    let small : size_of (constant_table name bit) ≤ 1 = constant_size name bit in
    let same : read_count (tables_kept (is_other name) circuit.tables ++ constant_table name bit ∷ []) ≡ counted (has (table_inputs (circuit.tables ++ constant_table name bit ∷ []))) (outputs_of circuit.tables ++ name ∷ []) =
    ap (λ (tables : List Table). read_count (tables ++ constant_table name bit ∷ [])) stay ∙ ap (counted (has (table_inputs (circuit.tables ++ constant_table name bit ∷ [])))) (outputs-added circuit.tables (constant_table name bit)) in
    let one : counted (has (table_inputs (circuit.tables ++ constant_table name bit ∷ []))) (outputs_of circuit.tables ++ name ∷ []) ≤ suc (counted (has (table_inputs (circuit.tables ++ constant_table name bit ∷ []))) (outputs_of circuit.tables)) =
    counted_added (has (table_inputs (circuit.tables ++ constant_table name bit ∷ []))) (outputs_of circuit.tables) name in
    let most : counted (has (table_inputs (circuit.tables ++ constant_table name bit ∷ []))) (outputs_of circuit.tables) ≤ counted (has (table_inputs circuit.tables)) (outputs_of circuit.tables) =
    counted_most (has (table_inputs (circuit.tables ++ constant_table name bit ∷ []))) (has (table_inputs circuit.tables)) (constant_reads circuit.tables name bit) (outputs_of circuit.tables) in
    omega arith

-- tables and latches are removed

kept_sizes : (test : List ℕ → Bool) (tables : List Table) → sizes_of (tables_kept test tables) ≤ sizes_of tables
unfolding sizes_of tables_kept
kept_sizes test [] = omega arith
kept_sizes test (table ∷ tables) = cases (test table.output) (kept_sizes test tables)
  where
    cases : (t : Bool) → sizes_of (tables_kept test tables) ≤ sizes_of tables → sizes_of (if t then table ∷ tables_kept test tables else tables_kept test tables) ≤ size_of table + sizes_of tables
    cases true h = omega arith
    cases false h = omega arith

pub kept_reads : (test : List ℕ → Bool) (tables : List Table) (name : List ℕ) → has (table_inputs (tables_kept test tables)) name ≡ true → has (table_inputs tables) name ≡ true
unfolding tables_kept
kept_reads test [] name h = h
kept_reads test (table ∷ tables) name h = cases (test table.output) h (kept_reads test tables name)
  where
    cases : (t : Bool) → has (table_inputs (if t then table ∷ tables_kept test tables else tables_kept test tables)) name ≡ true
        → (has (table_inputs (tables_kept test tables)) name ≡ true → has (table_inputs tables) name ≡ true) → has (table.inputs ++ table_inputs tables) name ≡ true
    cases true k more =
        elim (has_either table.inputs (table_inputs (tables_kept test tables)) name k) as (λ _. has (table.inputs ++ table_inputs tables) name ≡ true) [
          | inl here ↦ has_front table.inputs (table_inputs tables) name here
          | inr there ↦ has_back table.inputs (table_inputs tables) name (more there)
        ]
    cases false k more = has_back table.inputs (table_inputs tables) name (more k)

kept_counted : (p test : List ℕ → Bool) (tables : List Table) → counted p (outputs_of (tables_kept test tables)) ≤ counted p (outputs_of tables)
unfolding counted tables_kept
kept_counted p test [] = omega arith
kept_counted p test (table ∷ tables) = cases (test table.output) (p table.output) refl (kept_counted p test tables)
  where
    cases : (t b : Bool) → p table.output ≡ b → counted p (outputs_of (tables_kept test tables)) ≤ counted p (outputs_of tables)
        → counted p (outputs_of (if t then table ∷ tables_kept test tables else tables_kept test tables)) ≤ (if b then suc (counted p (outputs_of tables)) else counted p (outputs_of tables))
    cases true true e h = rw e (omega arith)
    cases true false e h = rw e h
    cases false true e h = omega arith
    cases false false e h = h

kept_few : {X : Type 0} (p : X → Bool) (xs : List X) → length (filter p xs) ≤ length xs
kept_few p [] = omega arith
kept_few p (x ∷ xs) = cases (p x) (kept_few p xs)
  where
    cases : (t : Bool) → length (filter p xs) ≤ length xs → length (if t then x ∷ filter p xs else filter p xs) ≤ suc (length xs)
    cases true h = omega arith
    cases false h = omega arith

kept_fewer : {X : Type 0} (p : X → Bool) (xs : List X) → list_all p xs ≡ false → length (filter p xs) < length xs
kept_fewer p [] h = absurd (false≢true (sym h))
kept_fewer p (x ∷ xs) h = cases (p x) h (kept_few p xs) (kept_fewer p xs)
  where
    cases : (t : Bool) → (t && list_all p xs) ≡ false → length (filter p xs) ≤ length xs → (list_all p xs ≡ false → length (filter p xs) < length xs)
        → length (if t then x ∷ filter p xs else filter p xs) < suc (length xs)
    cases true k small more = let less : length (filter p xs) < length xs = more k in omega arith
    cases false k small more = omega arith

pub tables_few : (test : List ℕ → Bool) (tables : List Table) → length (tables_kept test tables) ≤ length tables
unfolding tables_kept
tables_few test tables = kept_few (λ (table : Table). test table.output) tables

pub latches_few : (test : List ℕ → Bool) (latches : List Latch) → length (latches_kept test latches) ≤ length latches
unfolding latches_kept
latches_few test latches = kept_few (λ (latch : Latch). test latch.output) latches

some_fewer : (test : List ℕ → Bool) (tables : List Table) (latches : List Latch)
    → (list_all (λ (table : Table). test table.output) tables && list_all (λ (latch : Latch). test latch.output) latches) ≡ false
    → length (tables_kept test tables) + length (latches_kept test latches) < length tables + length latches
unfolding tables_kept latches_kept
some_fewer test tables latches h =
    let some_tables : length (filter (λ (table : Table). test table.output) tables) ≤ length tables = kept_few (λ (table : Table). test table.output) tables in
    let some_latches : length (filter (λ (latch : Latch). test latch.output) latches) ≤ length latches = kept_few (λ (latch : Latch). test latch.output) latches in
    elim (and_cases (list_all (λ (table : Table). test table.output) tables) (list_all (λ (latch : Latch). test latch.output) latches) h)
    as (λ _. length (filter (λ (table : Table). test table.output) tables) + length (filter (λ (latch : Latch). test latch.output) latches) < length tables + length latches) [
      | inl e ↦ let less : length (filter (λ (table : Table). test table.output) tables) < length tables = kept_fewer (λ (table : Table). test table.output) tables e in omega arith
      | inr e ↦ let less : length (filter (λ (latch : Latch). test latch.output) latches) < length latches = kept_fewer (λ (latch : Latch). test latch.output) latches e in omega arith
    ]

pub dangling_falls : (circuit : Circuit) → all_needed circuit ≡ false → weight (only_needed circuit) < weight circuit
unfolding weight read_count only_needed with_kept
dangling_falls circuit h =
    let sizes : sizes_of (tables_kept (is_needed circuit) circuit.tables) ≤ sizes_of circuit.tables = kept_sizes (is_needed circuit) circuit.tables in
    let fewer : counted (has (table_inputs (tables_kept (is_needed circuit) circuit.tables))) (outputs_of (tables_kept (is_needed circuit) circuit.tables))
    ≤ counted (has (table_inputs circuit.tables)) (outputs_of (tables_kept (is_needed circuit) circuit.tables)) =
    counted_most (has (table_inputs (tables_kept (is_needed circuit) circuit.tables))) (has (table_inputs circuit.tables)) (kept_reads (is_needed circuit) circuit.tables) (outputs_of (tables_kept (is_needed circuit) circuit.tables)) in
    let count : counted (has (table_inputs circuit.tables)) (outputs_of (tables_kept (is_needed circuit) circuit.tables)) ≤ counted (has (table_inputs circuit.tables)) (outputs_of circuit.tables) =
    kept_counted (has (table_inputs circuit.tables)) (is_needed circuit) circuit.tables in
    let long : length (tables_kept (is_needed circuit) circuit.tables) + length (latches_kept (is_needed circuit) circuit.latches) < length circuit.tables + length circuit.latches = some_fewer (is_needed circuit) circuit.tables circuit.latches h in
    let few : length (latches_kept (is_needed circuit) circuit.latches) ≤ length circuit.latches = latches_few (is_needed circuit) circuit.latches in
    omega arith
