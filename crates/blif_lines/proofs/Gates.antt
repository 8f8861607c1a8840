-- The tables of `.gate` lines: how many a line says, their names, their rows.
use Rattle.std.specs.Prelude.{◌≡◌, ℕ, zero, suc, ◌+◌, ◌≤◌, length, map, flat_map, Bool, true, false, ◌||◌, Option, Some, None, Result, Ok, Err, List, [], ◌∷◌, ◌++◌, bytes_eq, if◌then◌else◌}
use Rattle.std.specs.List.{AllByRecursion, filter}
use Rattle.std.proofs.Common.{refl, sym, ◌∙◌, ap, subst, arith}
use Rattle.std.proofs.lemmas.List.{append-nil, length-map, length-append}
use Rattle.sis_base.specs.Written.{is_word}
use Rattle.circuit_model.specs.Names.{has}
use Rattle.circuit_model.specs.Soundness.{IsShaped, outputs_of, names_of, table_inputs}
use Rattle.circuit_model.specs.declared.circuit.Table.{Table}
use Rattle.cover_ops.specs.Shannon.{bits_equal, same, shannon}
use Rattle.genlib_expr.specs.Formula.{formula_of}
use Rattle.genlib_expr.specs.Functions.{function_of}
use Rattle.genlib_format.specs.declared.gate.Gate.{Gate}
use Rattle.line_words.specs.LineWords.{first_word, other_words}
use Rattle.blif_gates.specs.declared.reading.GateFault.{GateFault}
use Rattle.blif_gates.specs.declared.reading.GateFault.TheVariants as gate
use Rattle.blif_gates.specs.GateLines.{signals_of, character_for, gate_rows, gate_table, read_gate}
use Rattle.blif_gates.proofs.Told.{told, sound_found, shaped, few, named_by_words, named_by_signals}
use Rattle.blif_lines.specs.Libraries.{IsSoundLibrary}
use Rattle.blif_lines.specs.Lines.{library_fault, cell_fault}
use Rattle.blif_lines.specs.Reader.{right_table, gate_tables, gate_inputs}
use Rattle.blif_lines.proofs.NameLists.{others_have, same_name, all_among, all_append, all_front, all_back}
use Rattle.sis_base.specs.declared.limits.TheConstants.{MAX_INPUTS, MAX_PINS, MAX_ROWS}

-- what holds of no table and of each table that a gate may say holds of those of a line
pub each_gate : (library : Option (List Gate)) (words : List (List ℕ)) (P : List Table → Type 0) → P []
    → ((gates : List Gate) (table : Table) → library ≡ Some gates → read_gate gates (first_word words) (other_words words) ≡ Ok table → P (table ∷ [])) → P (gate_tables library words)
each_gate None words P none one = none
each_gate (Some gates) words P none one = by (read_gate gates (first_word words) (other_words words)) refl
  where
    by : (read : Result Table GateFault) → read_gate gates (first_word words) (other_words words) ≡ read → P (right_table read)
    by (Ok table) e = one gates table refl e
    by (Err fault) e = none

-- a line without a fault says one table
pub one_gate : (library : Option (List Gate)) (number : ℕ) (words : List (List ℕ)) (P : List Table → Type 0) → library_fault library number words ≡ None
    → ((gates : List Gate) (table : Table) → library ≡ Some gates → read_gate gates (first_word words) (other_words words) ≡ Ok table → P (table ∷ [])) → P (gate_tables library words)
one_gate None number words P f one = absurd (cc)
one_gate (Some gates) number words P f one = by (read_gate gates (first_word words) (other_words words)) refl f
  where
    by : (read : Result Table GateFault) → read_gate gates (first_word words) (other_words words) ≡ read → cell_fault number read ≡ None → P (right_table read)
    by (Ok table) e g = one gates table refl e
    by (Err gate.UnknownGate) e g = absurd (cc)
    by (Err gate.BadPins) e g = absurd (cc)

-- the rows of a gate's function are few: at most half as many as there are points
abbrev most : ℕ → ℕ
most zero = 1
most (suc n) = most n + most n

most_some : (n : ℕ) → 1 ≤ most n
most_some zero = omega arith
most_some (suc n) = let some : 1 ≤ most n = most_some n in omega arith

most_grows : (m n : ℕ) → m ≤ n → most m ≤ most n
most_grows zero n h = most_some n
most_grows (suc m) zero h = absurd (omega arith)
most_grows (suc m) (suc n) h = let less : most m ≤ most n = most_grows m n (omega arith) in omega arith

joined_few : (b : Bool) (low high : List (List (Option Bool))) (bound : ℕ) → length low ≤ bound → length high ≤ bound
    → length (if b then map (λ row. None ∷ row) low else map (λ row. Some false ∷ row) low ++ map (λ row. Some true ∷ row) high) ≤ bound + bound
joined_few true low high bound front back =
    let count : length (map (λ (row : List (Option Bool)). None ∷ row) low) ≡ length low = length-map low (λ row. None ∷ row) in omega arith
joined_few false low high bound front back =
    let low_count : length (map (λ (row : List (Option Bool)). Some false ∷ row) low) ≡ length low = length-map low (λ row. Some false ∷ row) in
    let high_count : length (map (λ (row : List (Option Bool)). Some true ∷ row) high) ≡ length high = length-map high (λ row. Some true ∷ row) in
    let both : length (map (λ (row : List (Option Bool)). Some false ∷ row) low ++ map (λ (row : List (Option Bool)). Some true ∷ row) high)
    ≡ length (map (λ (row : List (Option Bool)). Some false ∷ row) low) + length (map (λ (row : List (Option Bool)). Some true ∷ row) high) =
    length-append (map (λ row. Some false ∷ row) low) (map (λ row. Some true ∷ row) high) in omega arith

few_points : (n : ℕ) (f : List Bool → Bool) → length (shannon (suc n) f) ≤ most n
unfolding shannon same
few_points zero f = by (f (false ∷ [])) (f (true ∷ []))
  where
    rows : Bool → List (List (Option Bool))
    rows b = if b then [] ∷ [] else []

    by : (a b : Bool) → length (if bits_equal a b then map (λ row. None ∷ row) (rows a) else map (λ row. Some false ∷ row) (rows a) ++ map (λ row. Some true ∷ row) (rows b)) ≤ 1
    by true true = omega arith
    by true false = omega arith
    by false true = omega arith
    by false false = omega arith
few_points (suc n) f = by (same (suc n) (λ point. f (false ∷ point)) (λ point. f (true ∷ point))) (few_points n (λ point. f (false ∷ point))) (few_points n (λ point. f (true ∷ point)))
  where
    by : (b : Bool) → length (shannon (suc n) (λ point. f (false ∷ point))) ≤ most n → length (shannon (suc n) (λ point. f (true ∷ point))) ≤ most n
        → length (if b then map (λ row. None ∷ row) (shannon (suc n) (λ point. f (false ∷ point))) else map (λ row. Some false ∷ row) (shannon (suc n) (λ point. f (false ∷ point))) ++ map (λ row. Some true ∷ row) (shannon (suc n) (λ point. f (true ∷ point)))) ≤ most n + most n
    by b front back = joined_few b (shannon (suc n) (λ point. f (false ∷ point))) (shannon (suc n) (λ point. f (true ∷ point))) (most n) front back

few_rows : (n : ℕ) (f : List Bool → Bool) → n ≤ MAX_PINS → length (shannon n f) ≤ MAX_ROWS
unfolding shannon
few_rows zero f h = by (f [])
  where
    by : (b : Bool) → length {A = List (Option Bool)} (if b then [] ∷ [] else []) ≤ MAX_ROWS
    by true = omega arith
    by false = omega arith
few_rows (suc n) f h =
    let less : length (shannon (suc n) f) ≤ most n = few_points n f in
    let within : most n ≤ most 14 = most_grows n 14 (omega arith) in
    let is : most 14 ≡ 16384 = refl in omega arith

-- the table of a gate is shaped; with a sound library it has few inputs and few rows
pub gate_shaped : (gates : List Gate) (cell : List ℕ) (words : List (List ℕ)) (table : Table) → read_gate gates cell words ≡ Ok table → IsShaped table
gate_shaped gates cell words table e = let t = told gates cell words table e in subst IsShaped t.is (shaped t.gate words)

pub gate_small : (gates : List Gate) (cell : List ℕ) (words : List (List ℕ)) (table : Table) → IsSoundLibrary (Some gates) → read_gate gates cell words ≡ Ok table → (length table.rows ≤ MAX_ROWS) × (length table.inputs ≤ MAX_INPUTS)
unfolding gate_table gate_rows
gate_small gates cell words table sound e =
    let t = told gates cell words table e in
    let good = sound_found gates cell t.gate sound.each t.named in
    subst (λ (one : Table). (length one.rows ≤ MAX_ROWS) × (length one.inputs ≤ MAX_INPUTS)) t.is (
      let rows : length (shannon (length t.gate.pins) (function_of (formula_of t.gate.expr))) ≤ MAX_ROWS = few_rows (length t.gate.pins) (function_of (formula_of t.gate.expr)) good.few in
          let same_count : length (gate_rows t.gate) ≡ length (shannon (length t.gate.pins) (function_of (formula_of t.gate.expr))) = length-map (shannon (length t.gate.pins) (function_of (formula_of t.gate.expr))) (map character_for) in
          omega arith,
      let inputs : length (gate_table t.gate words).inputs ≤ MAX_PINS = few t.gate words good in omega arith,
    )

-- the names of a line's tables
pub gate_names_are_words : (library : Option (List Gate)) (words : List (List ℕ)) → AllByRecursion (λ word. is_word word ≡ true) words → AllByRecursion (λ name. is_word name ≡ true) (names_of (gate_tables library words))
gate_names_are_words library words a =
    each_gate library words (λ tables. AllByRecursion (λ name. is_word name ≡ true) (names_of tables)) tt
    (λ gates table g e. let t = told gates (first_word words) (other_words words) table e in
    all_append (λ name. is_word name ≡ true) (table.output ∷ table.inputs) []
    (subst (λ (one : Table). AllByRecursion (λ name. is_word name ≡ true) (one.output ∷ one.inputs)) t.is (named_by_words t.gate (other_words words) (others_have (λ word. is_word word ≡ true) words a) t.pairs)) tt)

signals_named : (gates : List Gate) (words : List (List ℕ)) (table : Table) → read_gate gates (first_word words) (other_words words) ≡ Ok table → AllByRecursion (λ name. has (signals_of (other_words words)) name ≡ true) (table.output ∷ table.inputs)
signals_named gates words table e =
    let t = told gates (first_word words) (other_words words) table e in
    subst (λ (one : Table). AllByRecursion (λ name. has (signals_of (other_words words)) name ≡ true) (one.output ∷ one.inputs)) t.is (named_by_signals t.gate (other_words words) t.pairs)

pub gate_names_are_signals : (library : Option (List Gate)) (words : List (List ℕ)) → AllByRecursion (λ name. has (signals_of (other_words words)) name ≡ true) (names_of (gate_tables library words))
gate_names_are_signals library words =
    each_gate library words (λ tables. AllByRecursion (λ name. has (signals_of (other_words words)) name ≡ true) (names_of tables)) tt
    (λ gates table g e. all_append (λ name. has (signals_of (other_words words)) name ≡ true) (table.output ∷ table.inputs) [] (signals_named gates words table e) tt)

-- names that are picked from others are some of those that they are picked by
picked : (P : List ℕ → Type 0) (by others : List (List ℕ)) → AllByRecursion P by → AllByRecursion P (filter (has by) others)
picked P by [] a = tt
picked P by (name ∷ others) a = pick (has by name) refl (picked P by others a)
  where
    pick : (b : Bool) → has by name ≡ b → AllByRecursion P (filter (has by) others) → AllByRecursion P (if b then name ∷ filter (has by) others else filter (has by) others)
    pick true h rest = (all_among P by name a h, rest)
    pick false h rest = rest

pub gate_inputs_have : (P : List ℕ → Type 0) (library : Option (List Gate)) (words : List (List ℕ)) → AllByRecursion P (names_of (gate_tables library words)) → AllByRecursion P (gate_inputs library words)
gate_inputs_have P library words a = each (gate_tables library words) a
  where
    each : (tables : List Table) → AllByRecursion P (names_of tables) → AllByRecursion P (flat_map (λ (table : Table). filter (has table.inputs) (signals_of (other_words words))) tables)
    each [] b = tt
    each (table ∷ tables) b =
        all_append P (filter (has table.inputs) (signals_of (other_words words))) (flat_map (λ (one : Table). filter (has one.inputs) (signals_of (other_words words))) tables)
        (picked P table.inputs (signals_of (other_words words)) (all_front P table.inputs (names_of tables) b.1)) (each tables (all_back P table.inputs (names_of tables) b.1))

pub gate_outputs_have : (P : List ℕ → Type 0) (tables : List Table) → AllByRecursion P (names_of tables) → AllByRecursion P (outputs_of tables)
gate_outputs_have P [] a = tt
gate_outputs_have P (table ∷ tables) a = (a.0, gate_outputs_have P tables (all_back P table.inputs (names_of tables) a.1))

-- what a gate's table reads is among the signals that its line is said to read
kept_name : (by others : List (List ℕ)) (name : List ℕ) → has by name ≡ true → has others name ≡ true → has (filter (has by) others) name ≡ true
kept_name by [] name h k = k
kept_name by (first ∷ others) name h k = pick (bytes_eq name first) refl (has by first) refl k (λ f. kept_name by others name h f)
  where
    pick : (same_one : Bool) → bytes_eq name first ≡ same_one → (b : Bool) → has by first ≡ b → (same_one || has others name) ≡ true → (has others name ≡ true → has (filter (has by) others) name ≡ true)
        → has (if b then first ∷ filter (has by) others else filter (has by) others) name ≡ true
    pick true e true f g rec = ap (λ b. b || has (filter (has by) others) name) e
    pick true e false f g rec = absurd (let there_too : has by first ≡ true = ap (has by) (sym (same_name name first e)) ∙ h in cc)
    pick false e true f g rec = ap (λ b. b || has (filter (has by) others) name) e ∙ rec g
    pick false e false f g rec = rec g

pub gate_reads : (library : Option (List Gate)) (words : List (List ℕ)) (name : List ℕ) → has (table_inputs (gate_tables library words)) name ≡ true → has (gate_inputs library words) name ≡ true
gate_reads library words name =
    each_gate library words (λ tables. has (table_inputs tables) name ≡ true → has (flat_map (λ (table : Table). filter (has table.inputs) (signals_of (other_words words))) tables) name ≡ true) (λ h. h)
    (λ gates table g e h.
    let within : has table.inputs name ≡ true = ap (λ names. has names name) (sym (append-nil table.inputs)) ∙ h in
    ap (λ names. has names name) (append-nil (filter (has table.inputs) (signals_of (other_words words))))
    ∙ kept_name table.inputs (signals_of (other_words words)) name within (all_among (λ one. has (signals_of (other_words words)) one ≡ true) table.inputs name (signals_named gates words table e).1 within))
