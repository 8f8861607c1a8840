-- Rows with marked columns complemented, and tables over edges there and back.
use Rattle.std.proofs.Common.{◌≡◌, ℕ, zero, suc, ◌+◌, ◌<◌, Bool, true, false, if◌then◌else◌, List, [], ◌∷◌, ◌++◌, take, length, map, get_or, slice_get, unwrap_or, refl, sym, ap, ◌∙◌, arith}
use Rattle.std.specs.List.{list_any}
use Rattle.std.proofs.lemmas.Bool.{false≢true}
use Rattle.circuit_model.specs.declared.circuit.Tri.{Tri}
use Rattle.circuit_model.specs.declared.circuit.Tri.TheVariants.{Zero, One, Free}
use Rattle.circuit_model.specs.declared.circuit.Table.{Table}
use Rattle.net_wires.specs.Rules.{turned_over}
use Rattle.net_wires.specs.declared.edges.Edge.{Edge}
use Rattle.net_wires.specs.Points.{bit_by, written_bit}
use Rattle.net_wires.specs.Aliases.{row_over, complement_marks, table_over, AreInverse}

-- a row without characters stays
pub row_nothing : (marks : List Bool) → row_over marks [] ≡ []
unfolding row_over
row_nothing [] = refl
row_nothing (turns ∷ marks) = refl

-- a character more of a row
pub row_more : (marks : List Bool) (row : List Tri) (i : ℕ) (d : Tri) → i < length row
    → row_over marks (take (i + 1) row) ≡ row_over marks (take i row) ++ (if unwrap_or (slice_get marks i) false then turned_over (get_or row i d) else get_or row i d) ∷ []
unfolding row_over
row_more marks row i d lt = let next : i + 1 ≡ suc i = omega arith in ap (λ (n : ℕ). row_over marks (take n row)) next ∙ by marks row i lt
  where
    by : (marks : List Bool) (row : List Tri) (i : ℕ) → i < length row
        → row_over marks (take (suc i) row) ≡ row_over marks (take i row) ++ (if unwrap_or (slice_get marks i) false then turned_over (get_or row i d) else get_or row i d) ∷ []
    by [] [] i lt = absurd (omega (arith, lt))
    by [] (place ∷ row) zero lt = refl
    by [] (place ∷ row) (suc i) lt = ap (λ (r : List Tri). place ∷ r) (by [] row i (omega (arith, lt)))
    by (turns ∷ marks) [] i lt = absurd (omega (arith, lt))
    by (turns ∷ marks) (place ∷ row) zero lt = ap (λ (r : List Tri). (if turns then turned_over place else place) ∷ r) (row_nothing marks)
    by (turns ∷ marks) (place ∷ row) (suc i) lt = ap (λ (r : List Tri). (if turns then turned_over place else place) ∷ r) (by marks row i (omega (arith, lt)))

pub turned_twice : (place : Tri) → turned_over (turned_over place) ≡ place
turned_twice Zero = refl
turned_twice One = refl
turned_twice Free = refl

-- over edges there and back a row is what it was
row_back : (there back : List ℕ → Edge) → AreInverse there back → (inputs : List (List ℕ)) (row : List Tri)
    → row_over (complement_marks back (map (λ input. (there input).name) inputs)) (row_over (complement_marks there inputs) row) ≡ row
unfolding row_over
row_back there back h [] row = refl
row_back there back h (input ∷ inputs) [] = refl
row_back there back h (input ∷ inputs) (place ∷ row) =
    rw (ap (λ (edge : Edge). edge.is_complemented) (h input), row_back there back h inputs row) (ap (λ (p : Tri). p ∷ row) (by (there input).is_complemented))
  where
    by : (turns : Bool) → (if turns then turned_over (if turns then turned_over place else place) else (if turns then turned_over place else place)) ≡ place
    by true = turned_twice place
    by false = refl

rows_back : (there back : List ℕ → Edge) → AreInverse there back → (inputs : List (List ℕ)) (rows : List (List Tri))
    → map (row_over (complement_marks back (map (λ input. (there input).name) inputs))) (map (row_over (complement_marks there inputs)) rows) ≡ rows
rows_back there back h inputs [] = refl
rows_back there back h inputs (row ∷ rows) = rw (row_back there back h inputs row, rows_back there back h inputs rows) refl

names_back : (there back : List ℕ → Edge) → AreInverse there back → (inputs : List (List ℕ)) → map (λ name. (back name).name) (map (λ input. (there input).name) inputs) ≡ inputs
names_back there back h [] = refl
names_back there back h (input ∷ inputs) = rw (ap (λ (edge : Edge). edge.name) (h input), names_back there back h inputs) refl

-- and so is a table
pub table_back : (there back : List ℕ → Edge) → AreInverse there back → (table : Table) → table_over back (table_over there table) ≡ table
table_back there back h table = rw (names_back there back h table.inputs, rows_back there back h table.inputs table.rows) refl

-- over edges from names to themselves a table stays
pub row_itself : (edge : List ℕ → Edge) → ((name : List ℕ) → edge name ≡ record { name = name; is_complemented = false }) → (inputs : List (List ℕ)) (row : List Tri) → row_over (complement_marks edge inputs) row ≡ row
unfolding row_over
row_itself edge h [] row = refl
row_itself edge h (input ∷ inputs) [] = refl
row_itself edge h (input ∷ inputs) (place ∷ row) = rw (h input, row_itself edge h inputs row) refl

rows_itself : (edge : List ℕ → Edge) → ((name : List ℕ) → edge name ≡ record { name = name; is_complemented = false }) → (inputs : List (List ℕ)) (rows : List (List Tri)) → map (row_over (complement_marks edge inputs)) rows ≡ rows
rows_itself edge h inputs [] = refl
rows_itself edge h inputs (row ∷ rows) = rw (row_itself edge h inputs row, rows_itself edge h inputs rows) refl

names_itself : (edge : List ℕ → Edge) → ((name : List ℕ) → edge name ≡ record { name = name; is_complemented = false }) → (inputs : List (List ℕ)) → map (λ input. (edge input).name) inputs ≡ inputs
names_itself edge h [] = refl
names_itself edge h (input ∷ inputs) = rw (h input, names_itself edge h inputs) refl

table_itself : (edge : List ℕ → Edge) → ((name : List ℕ) → edge name ≡ record { name = name; is_complemented = false }) → (table : Table) → table_over edge table ≡ table
table_itself edge h table = rw (names_itself edge h table.inputs, rows_itself edge h table.inputs table.rows) refl

pub tables_itself : (edge : List ℕ → Edge) → ((name : List ℕ) → edge name ≡ record { name = name; is_complemented = false }) → (tables : List Table) → map (table_over edge) tables ≡ tables
tables_itself edge h [] = refl
tables_itself edge h (table ∷ tables) = rw (table_itself edge h table, tables_itself edge h tables) refl

rows_stay : (rows : List (List Tri)) → map (row_over []) rows ≡ rows
unfolding row_over
rows_stay [] = refl
rows_stay (row ∷ rows) = ap (λ (rs : List (List Tri)). row ∷ rs) (rows_stay rows)

-- a table without inputs stays
pub constant_stays : (edge : List ℕ → Edge) (table : Table) → table.inputs ≡ [] → table_over edge table ≡ table
constant_stays edge table h = by table.inputs h
  where
    by : (inputs : List (List ℕ)) → inputs ≡ []
        → record { inputs = map (λ input. (edge input).name) inputs; output = table.output; rows = map (row_over (complement_marks edge inputs)) table.rows; phase = table.phase } ≡ record table { inputs = inputs }
    by [] h = rw (rows_stay table.rows) refl
    by (input ∷ inputs) h = absurd cc

-- a table is written as a constant over the edges of its inputs where it is one itself
pub bit_stays : (edge : List ℕ → Edge) (table : Table) → written_bit (table_over edge table) ≡ written_bit table
unfolding written_bit
bit_stays edge table = by table.inputs
  where
    by : (inputs : List (List ℕ)) → bit_by (map (λ input. (edge input).name) inputs) table.phase (map (row_over (complement_marks edge inputs)) table.rows) ≡ bit_by inputs table.phase table.rows
    by [] = ap (bit_by [] table.phase) (rows_stay table.rows)
    by (input ∷ inputs) = refl

-- if no column is marked, rows stay
unmarked_row : (marks : List Bool) (row : List Tri) → list_any (λ (mark : Bool). mark) marks ≡ false → row_over marks row ≡ row
unfolding row_over
unmarked_row [] row h = refl
unmarked_row (true ∷ marks) row h = absurd (false≢true (sym h))
unmarked_row (false ∷ marks) [] h = refl
unmarked_row (false ∷ marks) (place ∷ row) h = ap (λ (r : List Tri). place ∷ r) (unmarked_row marks row h)

pub unmarked_rows : (marks : List Bool) (rows : List (List Tri)) → list_any (λ (mark : Bool). mark) marks ≡ false → map (row_over marks) rows ≡ rows
unmarked_rows marks [] h = refl
unmarked_rows marks (row ∷ rows) h = rw (unmarked_row marks row h, unmarked_rows marks rows h) refl
