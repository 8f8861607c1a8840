-- The tables that the lines of gates say: how many there are, what they read, and that folding them
-- makes no cycle and ends none.
use Rattle.std.proofs.Common.{◌≡◌, ℕ, zero, suc, Bool, true, false, if◌then◌else◌, Option, Some, None, List, [], ◌∷◌, ◌++◌, length, map, flat_map, find, bytes_eq, refl, ◌∙◌, ap, subst, arith}
use Rattle.std.specs.List.{AllByRecursion, filter}
use Rattle.std.specs.Option.{option_map}
use Rattle.std.proofs.lemmas.Grind.{flat_map-append}
use Rattle.std.proofs.lemmas.List.{length-append, map-append}
use Rattle.circuit_model.specs.Names.{has, all_different}
use Rattle.circuit_model.specs.Values.{driver}
use Rattle.circuit_model.specs.Soundness.{IsAcyclic, Leads, table_inputs}
use Rattle.circuit_model.specs.declared.circuit.Tri.{Tri}
use Rattle.circuit_model.specs.declared.circuit.Table.{Table}
use Rattle.circuit_tables.specs.Folding.{each_once, folded_rows, constant_one, with_rows, folded}
use Rattle.circuit_tables.proofs.Folded.{folded_same, folded_driver}
use Rattle.circuit_tables.proofs.Once.{has-each_once}
use Rattle.genlib_format.specs.declared.gate.Gate.{Gate}
use Rattle.line_words.specs.LineWords.{first_word, other_words}
use Rattle.netlist.specs.declared.mapped.Placed.{Placed}
use Rattle.blif_gates.specs.GateLines.{signals_of, gate_table}
use Rattle.blif_gates.proofs.Told.{told}
use Rattle.blif_lines.specs.Reader.{gate_tables, gate_inputs}
use Rattle.blif_lines.proofs.Gates.{each_gate, one_gate}
use Rattle.blif_lines.proofs.NameLists.{all_append, all_front, all_back, all_among}
use Rattle.blif_write.proofs.Words.{gate_words}
use Rattle.blif_write.proofs.NoFaults.{IsKnown}
use Rattle.blif_write.proofs.Said.{said_tables, said_reads}

-- folding a table keeps the names that it reads
abbrev pub KeepsReads : Table → Type 0
KeepsReads table = (name : List ℕ) → has (folded table).inputs name ≡ has table.inputs name

pub keeps_reads : (tables : List Table)
    → AllByRecursion (λ (table : Table). all_different table.inputs ≡ true) tables
    → AllByRecursion KeepsReads tables
keeps_reads [] e = tt
keeps_reads (table ∷ tables) e = (
  (λ name. ap (λ (made : Table). has made.inputs name) (folded_same table e.0)),
  keeps_reads tables e.1,
)

-- so does folding a table of phase 1
rows_keep : (table : Table) (rows : List (List Tri)) (name : List ℕ) → table.phase ≡ true
    → has (with_rows table rows).inputs name ≡ has table.inputs name
unfolding with_rows
rows_keep table [] name e =
    let once = record table { inputs = each_once table.inputs; rows = [] } in
    ap (λ (b : Bool). has (if b then once else constant_one table.output).inputs name) e
    ∙ has-each_once table.inputs name
rows_keep table (row ∷ rows) name e = has-each_once table.inputs name

pub phase_keeps : (table : Table) → table.phase ≡ true → KeepsReads table
unfolding folded
phase_keeps table e = λ name. by name (all_different table.inputs)
  where
    by : (name : List ℕ) (b : Bool)
        → has
        (if b then table else with_rows table (folded_rows table.inputs table.rows)).inputs name
        ≡ has table.inputs name
    by name true = refl
    by name false = rows_keep table (folded_rows table.inputs table.rows) name e

gate_keeps : (library : Option (List Gate)) (words : List (List ℕ))
    → AllByRecursion KeepsReads (gate_tables library words)
unfolding gate_table
gate_keeps library words =
    each_gate library words (AllByRecursion KeepsReads) tt
    (λ gates table g e. let t = told gates (first_word words) (other_words words) table e in
    (subst KeepsReads t.is (phase_keeps (gate_table t.gate (other_words words)) refl), tt))

pub tables_keep : (library : Option (List Gate)) (gates : List Placed)
    → AllByRecursion KeepsReads (said_tables library gates)
tables_keep library [] = tt
tables_keep library (placed ∷ gates) =
    all_append KeepsReads (gate_tables library (gate_words placed)) (said_tables library gates)
    (gate_keeps library (gate_words placed)) (tables_keep library gates)

-- a library says one table of each gate that it knows
pub said_count : (library : Option (List Gate)) (gates : List Placed)
    → AllByRecursion (IsKnown library) gates → length (said_tables library gates) ≡ length gates
said_count library [] known = refl
said_count library (placed ∷ gates) known =
    let one : length (gate_tables library (gate_words placed)) ≡ 1 =
    one_gate library 0 (gate_words placed) (λ tables. length tables ≡ 1) (known.0.right 0)
    (λ library_gates table g e. refl) in
    let rest : length (said_tables library gates) ≡ length gates =
    said_count library gates known.1 in
    length-append (gate_tables library (gate_words placed)) (said_tables library gates)
    ∙ omega (arith, one, rest)

-- what the lines of gates read is what their folded tables do
picked : (P : List ℕ → Type 0) (by others : List (List ℕ))
    → ((name : List ℕ) → has by name ≡ true → P name) → AllByRecursion P (filter (has by) others)
picked P by [] h = tt
picked P by (name ∷ others) h = pick (has by name) refl (picked P by others h)
  where
    pick : (b : Bool) → has by name ≡ b → AllByRecursion P (filter (has by) others)
        → AllByRecursion P (if b then name ∷ filter (has by) others else filter (has by) others)
    pick true e rest = (h name e, rest)
    pick false e rest = rest

picked_all : (P : List ℕ → Type 0) (tables : List Table) (signals : List (List ℕ))
    → AllByRecursion KeepsReads tables → AllByRecursion P (table_inputs (map folded tables))
    → AllByRecursion P (flat_map (λ (table : Table). filter (has table.inputs) signals) tables)
picked_all P [] signals keep h = tt
picked_all P (table ∷ tables) signals keep h =
    all_append P (filter (has table.inputs) signals)
    (flat_map (λ (one : Table). filter (has one.inputs) signals) tables)
    (picked P table.inputs signals
    (λ name there. all_among P (folded table).inputs name
    (all_front P (folded table).inputs (table_inputs (map folded tables)) h) (keep.0 name ∙ there)))
    (picked_all P tables signals keep.1
    (all_back P (folded table).inputs (table_inputs (map folded tables)) h))

pub read_known : (P : List ℕ → Type 0) (library : Option (List Gate)) (gates : List Placed)
    → AllByRecursion P (table_inputs (map folded (said_tables library gates)))
    → AllByRecursion P (said_reads library gates)
read_known P library [] h = tt
read_known P library (placed ∷ gates) h =
    let own = gate_tables library (gate_words placed) in
    let others = said_tables library gates in
    let parts : AllByRecursion P
    (table_inputs (map folded own) ++ table_inputs (map folded others)) =
    subst (AllByRecursion P)
    (ap table_inputs (map-append folded own others)
    ∙ flat_map-append (λ (table : Table). table.inputs) (map folded own) (map folded others)) h in
    all_append P (gate_inputs library (gate_words placed)) (said_reads library gates)
    (picked_all P own (signals_of (other_words (gate_words placed)))
    (gate_keeps library (gate_words placed))
    (all_front P (table_inputs (map folded own)) (table_inputs (map folded others)) parts))
    (read_known P library gates
    (all_back P (table_inputs (map folded own)) (table_inputs (map folded others)) parts))

-- tables whose reads are kept form no cycle where the folded ones form none
driver_among : (P : Table → Type 0) (tables : List Table) (signal : List ℕ) (table : Table)
    → AllByRecursion P tables → driver tables signal ≡ Some table → P table
unfolding driver
driver_among P [] signal table all e = absurd (let off = e in cc)
driver_among P (first ∷ tables) signal table all e = by (bytes_eq signal first.output) e
    (λ h. driver_among P tables signal table all.1 h)
  where
    table_or : Option Table → Table
    table_or None = first
    table_or (Some found) = found

    by : (b : Bool) → (if b then Some first else find
        (λ (other : Table). bytes_eq signal other.output) tables) ≡ Some table
        → (find (λ (other : Table). bytes_eq signal other.output) tables ≡ Some table → P table)
        → P table
    by true h rest = subst P (ap table_or h) all.0
    by false h rest = rest h

leads_folded : (tables : List Table) (steps : ℕ) (from to : List ℕ)
    → AllByRecursion KeepsReads tables → Leads tables steps from to
    → Leads (map folded tables) steps from to
unfolding Leads
leads_folded tables zero from to keep h = h
leads_folded tables (suc steps) from to keep h = (
  folded h.0,
  folded_driver tables from ∙ ap (option_map folded) h.1,
  h.2,
  driver_among KeepsReads tables from h.0 keep h.1 h.2 ∙ h.3,
  leads_folded tables steps h.2 to keep h.4,
)

pub acyclic_before : (tables : List Table) → AllByRecursion KeepsReads tables
    → IsAcyclic (map folded tables) → IsAcyclic tables
unfolding IsAcyclic
acyclic_before tables keep acyclic = λ signal steps leads. acyclic signal steps
    (leads_folded tables (suc steps) signal signal keep leads)
