-- Tables in which two signals are exchanged.
use Rattle.std.proofs.Common.{◌≡◌, ℕ, zero, suc, Bool, true, false, not, ◌&&◌, ◌||◌, if◌then◌else◌, is_some, List, [], ◌∷◌, length, map, bytes_eq, refl, sym, ap, ◌∙◌, subst, inl, inr}
use Rattle.std.specs.List.{list_any}
use Rattle.std.proofs.Math.Bool.{and_comm}
use Rattle.std.proofs.lemmas.Bool.{or_parts}
use Rattle.std.proofs.lemmas.List.{length-map}
use Rattle.sis_base.specs.Rows.{agrees, matches, some_matches, value_by_phase, phase_value}
use Rattle.circuit_model.specs.Names.{has, all_different}
use Rattle.circuit_model.specs.Counts.{is_literal}
use Rattle.circuit_model.specs.Values.{literal_of, table_value}
use Rattle.circuit_model.specs.declared.circuit.Tri.{Tri}
use Rattle.circuit_model.specs.declared.circuit.Tri.TheVariants.{Zero, One, Free}
use Rattle.circuit_model.specs.declared.circuit.Table.{Table}
use Rattle.circuit_laws.proofs.Names.{same_name, name_itself, name_is, name_not, name_apart, name_cases}
use Rattle.circuit_tables.specs.Tidy.{IsWide, same_place, same_row, rows_differ, front_place, behind_front, used_places, some_row_or_phase_one, is_tidy, tidied}
use Rattle.circuit_tables.proofs.Tidied.{tidied_same}
use Rattle.net_wires.specs.Points.{every_point, constant_bit, bit_by, written_bit}
use Rattle.net_wires.specs.Rules.{turned_over, renamed, row_turned, rewired, unwritten_bit, only_input}
use Rattle.net_wires.proofs.Turned.{rewires, rewired_either, rewires_wide, turned_agrees}
use Rattle.net_wires.specs.Aliases.{name_exchanged, exchanged}

-- names

-- the first of two names becomes the other one
exchanged_one : (one other : List ℕ) → name_exchanged one other one ≡ other
exchanged_one one other = rw (name_itself one) refl

-- and the other one becomes the first
exchanged_other : (one other : List ℕ) → name_exchanged one other other ≡ one
exchanged_other one other = cases (bytes_eq one other) refl
  where
    cases : (t : Bool) → bytes_eq one other ≡ t → (if t then other else (if bytes_eq other other then one else other)) ≡ one
    cases true e = sym (same_name one other e)
    cases false e = rw (name_itself other) refl

-- names that are exchanged twice are as they were
exchanged_twice : (one other name : List ℕ) → name_exchanged one other (name_exchanged one other name) ≡ name
exchanged_twice one other name = cases (bytes_eq one name) refl (bytes_eq other name) refl
  where
    cases : (t : Bool) → bytes_eq one name ≡ t → (u : Bool) → bytes_eq other name ≡ u → name_exchanged one other (if t then other else (if u then one else name)) ≡ name
    cases true e u k = exchanged_other one other ∙ same_name one name e
    cases false e true k = exchanged_one one other ∙ same_name other name k
    cases false e false k = rw (e, k) refl

-- exchanged names are equal if they were equal before
exchanged_same : (one other a b : List ℕ) → bytes_eq (name_exchanged one other a) (name_exchanged one other b) ≡ bytes_eq a b
exchanged_same one other a b =
    elim (name_cases a b) as (λ _. bytes_eq (name_exchanged one other a) (name_exchanged one other b) ≡ bytes_eq a b) [
      | inl is ↦ name_is (name_exchanged one other a) (name_exchanged one other b) (ap (name_exchanged one other) is) ∙ sym (name_is a b is)
      | inr apart ↦ name_not (name_exchanged one other a) (name_exchanged one other b) (λ e.
          name_apart a b apart (sym (exchanged_twice one other a) ∙ ap (name_exchanged one other) e ∙ exchanged_twice one other b)) ∙ sym apart
    ]

-- a name is among exchanged names if it was among them before
exchanged_has : (one other : List ℕ) (names : List (List ℕ)) (name : List ℕ) → has (map (name_exchanged one other) names) (name_exchanged one other name) ≡ has names name
exchanged_has one other [] name = refl
exchanged_has one other (first ∷ names) name =
    ap (λ (b : Bool). b || has (map (name_exchanged one other) names) (name_exchanged one other name)) (exchanged_same one other name first)
    ∙ ap (λ (b : Bool). bytes_eq name first || b) (exchanged_has one other names name)

-- names are all different where they were
exchanged_different : (one other : List ℕ) (names : List (List ℕ)) → all_different (map (name_exchanged one other) names) ≡ all_different names
unfolding all_different
exchanged_different one other [] = refl
exchanged_different one other (first ∷ names) =
    ap (λ (b : Bool). not b && all_different (map (name_exchanged one other) names)) (exchanged_has one other names first)
    ∙ ap (λ (b : Bool). not (has names first) && b) (exchanged_different one other names)

-- where the other name is not read, the first is just renamed
exchanged_renamed : (one other : List ℕ) (names : List (List ℕ)) → has names other ≡ false → map (renamed one other) names ≡ map (name_exchanged one other) names
exchanged_renamed one other [] h = refl
exchanged_renamed one other (name ∷ names) h =
    let p = or_parts (bytes_eq other name) (has names other) h in
    rw (p.0) (ap (λ (rest : List (List ℕ)). renamed one other name ∷ rest) (exchanged_renamed one other names p.1))

-- and where the first is not read either, all names stay
exchanged_none : (one other : List ℕ) (names : List (List ℕ)) → has names one ≡ false → has names other ≡ false → map (name_exchanged one other) names ≡ names
exchanged_none one other [] h k = refl
exchanged_none one other (name ∷ names) h k =
    let p = or_parts (bytes_eq one name) (has names one) h in
    let q = or_parts (bytes_eq other name) (has names other) k in
    rw (p.0, q.0) (ap (λ (rest : List (List ℕ)). name ∷ rest) (exchanged_none one other names p.1 q.1))

-- rows

-- a row without columns stays
turned_nil : (name : List ℕ) (inputs : List (List ℕ)) → row_turned name inputs [] ≡ []
unfolding row_turned
turned_nil name [] = refl
turned_nil name (input ∷ inputs) = refl

-- a row over inputs without the signal stays
turned_none : (name : List ℕ) (inputs : List (List ℕ)) (row : List Tri) → has inputs name ≡ false → row_turned name inputs row ≡ row
unfolding row_turned
turned_none name [] row h = refl
turned_none name (input ∷ inputs) [] h = refl
turned_none name (input ∷ inputs) (place ∷ row) h =
    let p = or_parts (bytes_eq name input) (has inputs name) h in
    rw (p.0) (ap (λ (rest : List Tri). place ∷ rest) (turned_none name inputs row p.1))

-- and so do all such rows
all_turned_none : (name : List ℕ) (inputs : List (List ℕ)) → has inputs name ≡ false → (rows : List (List Tri)) → map (row_turned name inputs) rows ≡ rows
all_turned_none name inputs h [] = refl
all_turned_none name inputs h (row ∷ rows) = rw (turned_none name inputs row h, all_turned_none name inputs h rows) refl

-- complemented characters are equal if the characters are
turned_same_place : (a b : Tri) → same_place (turned_over a) (turned_over b) ≡ same_place a b
turned_same_place Zero Zero = refl
turned_same_place Zero One = refl
turned_same_place Zero Free = refl
turned_same_place One Zero = refl
turned_same_place One One = refl
turned_same_place One Free = refl
turned_same_place Free Zero = refl
turned_same_place Free One = refl
turned_same_place Free Free = refl

-- complemented rows are equal if the rows are
turned_same_row : (name : List ℕ) (inputs : List (List ℕ)) (a b : List Tri) → same_row (row_turned name inputs a) (row_turned name inputs b) ≡ same_row a b
unfolding row_turned same_row
turned_same_row name [] a b = refl
turned_same_row name (input ∷ inputs) [] [] = refl
turned_same_row name (input ∷ inputs) [] (y ∷ b) = refl
turned_same_row name (input ∷ inputs) (x ∷ a) [] = refl
turned_same_row name (input ∷ inputs) (x ∷ a) (y ∷ b) = cases (bytes_eq name input) (turned_same_row name inputs a b)
  where
    cases : (t : Bool) → same_row (row_turned name inputs a) (row_turned name inputs b) ≡ same_row a b
        → (same_place (if t then turned_over x else x) (if t then turned_over y else y) && same_row (row_turned name inputs a) (row_turned name inputs b)) ≡ (same_place x y && same_row a b)
    cases true rest = rw (turned_same_place x y, rest) refl
    cases false rest = ap (λ (b : Bool). same_place x y && b) rest

-- a row is among complemented rows if it was among the rows
turned_among : (name : List ℕ) (inputs : List (List ℕ)) (row : List Tri) (rows : List (List Tri))
    → list_any (same_row (row_turned name inputs row)) (map (row_turned name inputs) rows) ≡ list_any (same_row row) rows
turned_among name inputs row [] = refl
turned_among name inputs row (first ∷ rows) = rw (turned_same_row name inputs row first, turned_among name inputs row rows) refl

-- no row occurs twice if none did before
turned_differ : (name : List ℕ) (inputs : List (List ℕ)) (rows : List (List Tri)) → rows_differ (map (row_turned name inputs) rows) ≡ rows_differ rows
unfolding rows_differ
turned_differ name inputs [] = refl
turned_differ name inputs (row ∷ rows) = rw (turned_among name inputs row rows, turned_differ name inputs rows) refl

-- the first columns of complemented rows have a literal if they had one before
turned_front : (name input : List ℕ) (inputs : List (List ℕ)) (rows : List (List Tri))
    → list_any (λ (row : List Tri). is_literal (front_place row)) (map (row_turned name (input ∷ inputs)) rows) ≡ list_any (λ (row : List Tri). is_literal (front_place row)) rows
unfolding row_turned
turned_front name input inputs [] = refl
turned_front name input inputs ([] ∷ rows) = turned_front name input inputs rows
turned_front name input inputs ((place ∷ row) ∷ rows) = rw (literal (bytes_eq name input) place, turned_front name input inputs rows) refl
  where
    literal : (t : Bool) (c : Tri) → is_literal (if t then turned_over c else c) ≡ is_literal c
    literal true Zero = refl
    literal true One = refl
    literal true Free = refl
    literal false c = refl

-- without their first columns, complemented rows are those rows complemented
turned_behind : (name input : List ℕ) (inputs : List (List ℕ)) (rows : List (List Tri))
    → map behind_front (map (row_turned name (input ∷ inputs)) rows) ≡ map (row_turned name inputs) (map behind_front rows)
unfolding row_turned
turned_behind name input inputs [] = refl
turned_behind name input inputs ([] ∷ rows) = rw (turned_nil name inputs, turned_behind name input inputs rows) refl
turned_behind name input inputs ((place ∷ row) ∷ rows) = ap (λ (rest : List (List Tri)). row_turned name inputs row ∷ rest) (turned_behind name input inputs rows)

-- complemented rows have literals in the columns in which the rows have them
turned_used : (name : List ℕ) (inputs : List (List ℕ)) (rows : List (List Tri)) → used_places inputs (map (row_turned name inputs) rows) ≡ used_places inputs rows
unfolding used_places
turned_used name [] rows = refl
turned_used name (input ∷ inputs) rows =
    rw (turned_front name input inputs rows, turned_behind name input inputs rows)
    (ap (λ (marks : List Bool). list_any (λ (row : List Tri). is_literal (front_place row)) rows ∷ marks) (turned_used name inputs (map behind_front rows)))

-- which columns have a literal does not depend on the names
mapped_used : (f : List ℕ → List ℕ) (inputs : List (List ℕ)) (rows : List (List Tri)) → used_places (map f inputs) rows ≡ used_places inputs rows
unfolding used_places
mapped_used f [] rows = refl
mapped_used f (input ∷ inputs) rows =
    ap (λ (marks : List Bool). list_any (λ (row : List Tri). is_literal (front_place row)) rows ∷ marks) (mapped_used f inputs (map behind_front rows))

-- rows are there where they were
mapped_some : (f : List Tri → List Tri) (rows : List (List Tri)) (phase : Bool) → some_row_or_phase_one (map f rows) phase ≡ some_row_or_phase_one rows phase
mapped_some f [] phase = refl
mapped_some f (row ∷ rows) phase = refl

-- points

-- a point with the bits in a signal's columns complemented
point_turned : List ℕ → List (List ℕ) → List Bool → List Bool
point_turned name [] point = point
point_turned name (input ∷ inputs) [] = []
point_turned name (input ∷ inputs) (bit ∷ point) = (if bytes_eq name input then not bit else bit) ∷ point_turned name inputs point

-- a complemented row matches the points whose complements the row matches
turned_matches : (name : List ℕ) (inputs : List (List ℕ)) (row : List Tri) (point : List Bool)
    → matches (map literal_of (row_turned name inputs row)) point ≡ matches (map literal_of row) (point_turned name inputs point)
unfolding row_turned point_turned matches
turned_matches name [] row point = refl
turned_matches name (input ∷ inputs) [] point = refl
turned_matches name (input ∷ inputs) (place ∷ row) [] = refl
turned_matches name (input ∷ inputs) (place ∷ row) (bit ∷ point) = cases (bytes_eq name input) (turned_matches name inputs row point)
  where
    cases : (t : Bool) → matches (map literal_of (row_turned name inputs row)) point ≡ matches (map literal_of row) (point_turned name inputs point)
        → (agrees (literal_of (if t then turned_over place else place)) bit && matches (map literal_of (row_turned name inputs row)) point)
        ≡ (agrees (literal_of place) (if t then not bit else bit) && matches (map literal_of row) (point_turned name inputs point))
    cases true rest = rw (turned_agrees place bit, rest) refl
    cases false rest = ap (λ (b : Bool). agrees (literal_of place) bit && b) rest

-- and so do all rows
all_turned_matches : (name : List ℕ) (inputs : List (List ℕ)) (rows : List (List Tri)) (point : List Bool)
    → some_matches (map (map literal_of) (map (row_turned name inputs) rows)) point ≡ some_matches (map (map literal_of) rows) (point_turned name inputs point)
unfolding some_matches
all_turned_matches name inputs [] point = refl
all_turned_matches name inputs (row ∷ rows) point = rw (turned_matches name inputs row point, all_turned_matches name inputs rows point) refl

-- two tests that agree at each point hold at every point alike
every_same : (width : ℕ) (p q : List Bool → Bool) → ((point : List Bool) → p point ≡ q point) → every_point width p ≡ every_point width q
unfolding every_point
every_same zero p q h = h []
every_same (suc width) p q h =
    ap (λ (b : Bool). b && every_point width (λ rest. p (true ∷ rest))) (every_same width (λ rest. p (false ∷ rest)) (λ rest. q (false ∷ rest)) (λ rest. h (false ∷ rest)))
    ∙ ap (λ (b : Bool). every_point width (λ rest. q (false ∷ rest)) && b) (every_same width (λ rest. p (true ∷ rest)) (λ rest. q (true ∷ rest)) (λ rest. h (true ∷ rest)))

-- the complements of all points are all points
every_turned : (name : List ℕ) (inputs : List (List ℕ)) (test : List Bool → Bool)
    → every_point (length inputs) (λ point. test (point_turned name inputs point)) ≡ every_point (length inputs) test
unfolding every_point point_turned
every_turned name [] test = refl
every_turned name (input ∷ inputs) test =
    cases (bytes_eq name input) (every_turned name inputs (λ point. test (false ∷ point))) (every_turned name inputs (λ point. test (true ∷ point)))
  where
    cases : (t : Bool)
        → every_point (length inputs) (λ point. test (false ∷ point_turned name inputs point)) ≡ every_point (length inputs) (λ point. test (false ∷ point))
        → every_point (length inputs) (λ point. test (true ∷ point_turned name inputs point)) ≡ every_point (length inputs) (λ point. test (true ∷ point))
        → (every_point (length inputs) (λ point. test ((if t then not false else false) ∷ point_turned name inputs point))
        && every_point (length inputs) (λ point. test ((if t then not true else true) ∷ point_turned name inputs point)))
        ≡ (every_point (length inputs) (λ point. test (false ∷ point)) && every_point (length inputs) (λ point. test (true ∷ point)))
    cases true f t = rw (f, t) (and_comm (every_point (length inputs) (λ point. test (true ∷ point))) (every_point (length inputs) (λ point. test (false ∷ point))))
    cases false f t = rw (f, t) refl

-- tables

-- the output stays
pub exchanged_output : (one other : List ℕ) (inverts : Bool) (table : Table) → (exchanged one other inverts table).output ≡ table.output
unfolding exchanged
exchanged_output one other inverts table = refl

-- a table is tidy where it was
pub exchanged_tidy : (one other : List ℕ) (inverts : Bool) (table : Table) → is_tidy (exchanged one other inverts table) ≡ is_tidy table
unfolding exchanged is_tidy
exchanged_tidy one other true table =
    rw (
      exchanged_different one other table.inputs,
      mapped_used (name_exchanged one other) table.inputs (map (row_turned one table.inputs) table.rows),
      turned_used one table.inputs table.rows,
      turned_differ one table.inputs table.rows,
      mapped_some (row_turned one table.inputs) table.rows table.phase,
    ) refl
exchanged_tidy one other false table = rw (exchanged_different one other table.inputs, mapped_used (name_exchanged one other) table.inputs table.rows) refl

-- what holds of a table's value at every point holds of it still
exchanged_every : (one other : List ℕ) (inverts : Bool) (table : Table) (test : Bool → Bool)
    → every_point (length (exchanged one other inverts table).inputs) (λ point. test (table_value (exchanged one other inverts table) point))
    ≡ every_point (length table.inputs) (λ point. test (table_value table point))
unfolding exchanged table_value value_by_phase
exchanged_every one other true table test =
    ap (λ (width : ℕ). every_point width (λ point. test (table_value (exchanged one other true table) point))) (length-map table.inputs (name_exchanged one other))
    ∙ every_same (length table.inputs) (λ point. test (table_value (exchanged one other true table) point)) (λ point. test (table_value table (point_turned one table.inputs point)))
    (λ point. ap (λ (b : Bool). test (phase_value table.phase b)) (all_turned_matches one table.inputs table.rows point))
    ∙ every_turned one table.inputs (λ point. test (table_value table point))
exchanged_every one other false table test = ap (λ (width : ℕ). every_point width (λ point. test (table_value table point))) (length-map table.inputs (name_exchanged one other))

-- a table is constant where it was, with the same bit
pub exchanged_constant : (one other : List ℕ) (inverts : Bool) (table : Table) → constant_bit (exchanged one other inverts table) ≡ constant_bit table
unfolding constant_bit
exchanged_constant one other inverts table = rw (exchanged_every one other inverts table (λ bit. bit), exchanged_every one other inverts table not) refl

-- and written as a constant where it was
pub exchanged_written : (one other : List ℕ) (inverts : Bool) (table : Table) → written_bit (exchanged one other inverts table) ≡ written_bit table
unfolding exchanged written_bit
exchanged_written one other inverts table = by inverts table.inputs
  where
    by : (t : Bool) (inputs : List (List ℕ))
        → bit_by (map (name_exchanged one other) inputs) table.phase (if t then map (row_turned one inputs) table.rows else table.rows) ≡ bit_by inputs table.phase table.rows
    by true [] = ap (bit_by [] table.phase) (all_turned_none one [] refl table.rows)
    by false [] = refl
    by t (input ∷ inputs) = refl

-- so it is constant and written otherwise where it was
pub exchanged_unwritten : (one other : List ℕ) (inverts : Bool) (table : Table) → unwritten_bit (exchanged one other inverts table) ≡ unwritten_bit table
unfolding unwritten_bit
exchanged_unwritten one other inverts table = rw (exchanged_written one other inverts table, exchanged_constant one other inverts table) refl

-- a table has just one input where it had
pub exchanged_single : (one other : List ℕ) (inverts : Bool) (table : Table) → is_some (only_input (exchanged one other inverts table).inputs) ≡ is_some (only_input table.inputs)
unfolding exchanged
exchanged_single one other inverts table = by table.inputs
  where
    by : (inputs : List (List ℕ)) → is_some (only_input (map (name_exchanged one other) inputs)) ≡ is_some (only_input inputs)
    by [] = refl
    by (input ∷ []) = refl
    by (input ∷ (second ∷ inputs)) = refl

-- if a table does not read the other signal, exchanging the signals is renaming the first
exchanged_rewires : (one other : List ℕ) (inverts : Bool) (table : Table) → has table.inputs other ≡ false → rewires one other inverts table ≡ exchanged one other inverts table
unfolding exchanged
exchanged_rewires one other inverts table apart =
    ap (λ (names : List (List ℕ)). record table { inputs = names; rows = if inverts then map (row_turned one table.inputs) table.rows else table.rows }) (exchanged_renamed one other table.inputs apart)

-- where it reads neither, it stays
exchanged_stays : (one other : List ℕ) (inverts : Bool) (table : Table) → has table.inputs one ≡ false → has table.inputs other ≡ false → exchanged one other inverts table ≡ table
unfolding exchanged
exchanged_stays one other true table none apart = rw (exchanged_none one other table.inputs none apart, all_turned_none one table.inputs none table.rows) refl
exchanged_stays one other false table none apart = rw (exchanged_none one other table.inputs none apart) refl

-- in a tidy table that does not read the other signal, reading it instead of the first is an
-- exchange
pub rewired_exchanged : (one other : List ℕ) (inverts : Bool) (table : Table) → IsWide table → is_tidy table ≡ true → has table.inputs other ≡ false → rewired one other inverts table ≡ exchanged one other inverts table
rewired_exchanged one other inverts table wide tidy apart =
    rewired_either (λ (made : Table). made ≡ exchanged one other inverts table) one other inverts table
    (λ reads.
    let same : rewires one other inverts table ≡ exchanged one other inverts table = exchanged_rewires one other inverts table apart in
    ap tidied same
    ∙ tidied_same (exchanged one other inverts table) (subst IsWide same (rewires_wide one other inverts table wide)) (exchanged_tidy one other inverts table ∙ tidy))
    (λ none. sym (exchanged_stays one other inverts table none apart))
