-- The numbers of rows of parts and of the rewritten table: no part has more rows than the table,
-- and the rewritten table has at most one more for each part.
use Rattle.std.proofs.Common.{◌≡◌, ℕ, ◌+◌, ◌≤◌, zero, suc, Bool, true, false, ◌&&◌, if◌then◌else◌, ltb, Option, Some, None, List, [], ◌∷◌, ◌++◌, map, filter, take, drop, length, replicate, get_or, set, refl, sym, ap, subst, arith}
use Rattle.std.specs.List.{AllByRecursion, list_any}
use Rattle.std.proofs.lemmas.Bool.{false≢true}
use Rattle.std.proofs.lemmas.List.{length-append, length-map}
use Rattle.cube_cover.specs.Literals.{has_literal, literal_count, some_dashes, literal_occurrences}
use Rattle.alg_factor.specs.Forms.{with_literal, no_literal, IsChosen}
use Rattle.alg_factor.proofs.Laws.{count_literal, count_other}
use Rattle.circuit_model.specs.declared.circuit.Table.{Table}
use Rattle.net_decomp.specs.Partings.{Parting, rows_of}
use Rattle.net_decomp.specs.Rules.{padded, signal_row, literal_parting, is_long, with_signals, rows_parting, first_literals, later_literals, product_parting, sum_parting, is_gate, gate_parting, IsDecomposable}
use Rattle.net_decomp.specs.declared.rule.Rule.{Rule}
use Rattle.net_decomp.specs.declared.rule.Rule.TheVariants.{Shared, Gates}

-- for a number of rows: no part has more; the rewritten table has a row, and at most one more for
-- each part; and it has no more rows than before if sums of a row or more are made
pub record HasCounts (sums count : ℕ) (parting : Parting) : Type 0 where
  pub parts : AllByRecursion (λ (part : List (List (Option Bool))). length part ≤ count) parting.parts
  pub some : 1 ≤ length parting.rows
  pub rows : length parting.rows ≤ count + length parting.parts
  pub fewer : 1 ≤ sums → length parting.rows ≤ count

-- how many rows a rule takes into a sum; 1 if it makes none
abbrev pub sums_of : Rule → ℕ
sums_of Shared = 1
sums_of (Gates products sums) = sums

-- rows decomposed by a literal
pub literal_rows : (place : ℕ) (bit : Bool) (rows : List (List (Option Bool))) → length (with_literal place bit rows) + length (no_literal place bit rows) ≡ length rows
unfolding with_literal no_literal
literal_rows place bit [] = refl
literal_rows place bit (row ∷ rows) = cases (has_literal (get_or row place None) bit) (literal_rows place bit rows)
  where
    cases : (t : Bool) → length (with_literal place bit rows) + length (no_literal place bit rows) ≡ length rows
        → length (if t then set row place None ∷ with_literal place bit rows else with_literal place bit rows) + length (if t then no_literal place bit rows else row ∷ no_literal place bit rows)
        ≡ suc (length rows)
    cases true rest = omega (arith, rest)
    cases false rest = omega (arith, rest)

pub occurrences_rows : (place : ℕ) (bit : Bool) (rows : List (List (Option Bool))) → literal_occurrences place bit rows ≡ length (with_literal place bit rows)
unfolding with_literal literal_occurrences
occurrences_rows place bit [] = refl
occurrences_rows place bit (row ∷ rows) = cases (has_literal (get_or row place None) bit) refl (occurrences_rows place bit rows)
  where
    cases : (t : Bool) → has_literal (get_or row place None) bit ≡ t → literal_occurrences place bit rows ≡ length (with_literal place bit rows)
        → literal_count bit (get_or row place None) + literal_occurrences place bit rows ≡ length (if t then set row place None ∷ with_literal place bit rows else with_literal place bit rows)
    cases true h rest = let one : literal_count bit (get_or row place None) ≡ 1 = count_literal bit (get_or row place None) h in omega (arith, rest, one)
    cases false h rest = let none : literal_count bit (get_or row place None) ≡ 0 = count_other bit (get_or row place None) h in omega (arith, rest, none)

pub literal_counts : (sums width place : ℕ) (bit : Bool) (rows : List (List (Option Bool))) → IsChosen place bit rows → HasCounts sums (length rows) (literal_parting width place bit rows)
unfolding literal_parting
literal_counts sums width place bit rows chosen =
    let all : length (with_literal place bit rows) + length (no_literal place bit rows) ≡ length rows = literal_rows place bit rows in
    let here : literal_occurrences place bit rows ≡ length (with_literal place bit rows) = occurrences_rows place bit rows in
    let others : length (map (padded 1) (no_literal place bit rows)) ≡ length (no_literal place bit rows) = length-map (no_literal place bit rows) (padded 1) in
    record {
      parts = (omega (arith, all), tt);
      some = omega arith;
      rows = omega (arith, all, others);
      fewer = λ one. omega (arith, all, others, here, chosen.two);
    }

-- long rows that are replaced by signals
pub signals_rows : (width added number : ℕ) (rows : List (List (Option Bool))) → length (with_signals width added number rows) ≡ length rows
unfolding with_signals
signals_rows width added number [] = refl
signals_rows width added number (row ∷ rows) = cases (is_long row) (signals_rows width added (suc number) rows) (signals_rows width added number rows)
  where
    cases : (t : Bool) → length (with_signals width added (suc number) rows) ≡ length rows → length (with_signals width added number rows) ≡ length rows
        → length (if t then signal_row width added number ∷ with_signals width added (suc number) rows else padded added row ∷ with_signals width added number rows) ≡ suc (length rows)
    cases true next same = ap suc next
    cases false next same = ap suc same

pub singles_few : (count : ℕ) → 1 ≤ count → (rows : List (List (Option Bool))) → AllByRecursion (λ (part : List (List (Option Bool))). length part ≤ count) (map (λ row. row ∷ []) rows)
singles_few count one [] = tt
singles_few count one (row ∷ rows) = (one, singles_few count one rows)

pub rows_counts : (sums width : ℕ) (rows : List (List (Option Bool))) → 1 ≤ length rows → HasCounts sums (length rows) (rows_parting width rows)
unfolding rows_parting
rows_counts sums width rows some =
    let same : length (with_signals width (length (filter is_long rows)) 0 rows) ≡ length rows = signals_rows width (length (filter is_long rows)) 0 rows in
    record {
      parts = singles_few (length rows) some (filter is_long rows);
      some = omega (arith, same, some);
      rows = omega (arith, same);
      fewer = λ one. omega (arith, same);
    }

-- first and later literals
pub product_counts : (sums most : ℕ) (rows : List (List (Option Bool))) → 1 ≤ length rows → HasCounts sums (length rows) (product_parting most rows)
unfolding product_parting
product_counts sums most rows some =
    let first : length (map (first_literals most) rows) ≡ length rows = length-map rows (first_literals most) in
    let later : length (map (λ row. later_literals most row ++ Some true ∷ []) rows) ≡ length rows = length-map rows (λ row. later_literals most row ++ Some true ∷ []) in
    record {
      parts = (omega (arith, first), tt);
      some = omega (arith, later, some);
      rows = omega (arith, later);
      fewer = λ one. omega (arith, later);
    }

-- first and later rows
pub take_few : (most : ℕ) (rows : List (List (Option Bool))) → length (take most rows) ≤ length rows
take_few zero rows = omega arith
take_few (suc most) [] = omega arith
take_few (suc most) (row ∷ rows) = omega (arith, take_few most rows)

pub drop_few : (most : ℕ) (rows : List (List (Option Bool))) → length (drop most rows) ≤ length rows
drop_few zero rows = omega arith
drop_few (suc most) [] = omega arith
drop_few (suc most) (row ∷ rows) = omega (arith, drop_few most rows)

pub drop_fewer : (most : ℕ) (rows : List (List (Option Bool))) → 1 ≤ most → 1 ≤ length rows → length (drop most rows) + 1 ≤ length rows
drop_fewer zero rows one some = absurd (omega arith)
drop_fewer (suc most) [] one some = absurd (omega arith)
drop_fewer (suc most) (row ∷ rows) one some = omega (arith, drop_few most rows)

pub sum_counts : (width most : ℕ) (rows : List (List (Option Bool))) → 1 ≤ length rows → HasCounts most (length rows) (sum_parting width most rows)
unfolding sum_parting
sum_counts width most rows some =
    let all : length (map (padded 1) (drop most rows) ++ signal_row width 1 0 ∷ []) ≡ length (map (padded 1) (drop most rows)) + 1 =
    length-append (map (padded 1) (drop most rows)) (signal_row width 1 0 ∷ []) in
    let same : length (map (padded 1) (drop most rows)) ≡ length (drop most rows) = length-map (drop most rows) (padded 1) in
    record {
      parts = (take_few most rows, tt);
      some = omega (arith, all);
      rows = omega (arith, all, same, drop_few most rows);
      fewer = λ one. omega (arith, all, same, drop_fewer most rows one some);
    }

pub dashes_counts : (sums width : ℕ) (rows : List (List (Option Bool))) → 1 ≤ length rows → HasCounts sums (length rows) (record { parts = []; rows = replicate width None ∷ [] })
dashes_counts sums width rows some = record { parts = tt; some = omega arith; rows = omega (arith, some); fewer = λ one. some }

-- rows that are no gate are at least one
pub gate_some : (products sums : ℕ) (rows : List (List (Option Bool))) → is_gate products sums rows ≡ false → 1 ≤ length rows
unfolding is_gate
gate_some products sums [] h = absurd (false≢true (sym h))
gate_some products sums (row ∷ rows) h = omega arith

pub gate_counts : (products sums width : ℕ) (rows : List (List (Option Bool))) → is_gate products sums rows ≡ false → HasCounts sums (length rows) (gate_parting products sums width rows)
unfolding gate_parting
gate_counts products sums width rows no_gate = dashes (some_dashes rows)
  where
    some : 1 ≤ length rows
    some = gate_some products sums rows no_gate

    few : (t : Bool) → HasCounts sums (length rows) (if t then sum_parting width sums rows else product_parting products rows)
    few true = sum_counts width sums rows some
    few false = product_counts sums products rows some

    long : (t : Bool) → HasCounts sums (length rows) (if t then rows_parting width rows else (if ltb 1 (length rows) then sum_parting width sums rows else product_parting products rows))
    long true = rows_counts sums width rows some
    long false = few (ltb 1 (length rows))

    dashes : (t : Bool)
        → HasCounts sums (length rows) (if t then record { parts = []; rows = replicate width None ∷ [] }
        else (if ltb 1 (length rows) && list_any is_long rows then rows_parting width rows
        else (if ltb 1 (length rows) then sum_parting width sums rows else product_parting products rows)))
    dashes true = dashes_counts sums width rows some
    dashes false = long (ltb 1 (length rows) && list_any is_long rows)

-- how a table is decomposed
pub due_counts : (rule : Rule) (table : Table) (parting : Parting) → IsDecomposable rule table parting → HasCounts (sums_of rule) (length (rows_of table)) parting
due_counts Shared table parting (place, bit, chosen, is) =
    subst (HasCounts 1 (length (rows_of table))) (sym is) (literal_counts 1 (length table.inputs) place bit (rows_of table) chosen)
due_counts (Gates products sums) table parting (no_gate, is) =
    subst (HasCounts sums (length (rows_of table))) (sym is) (gate_counts products sums (length table.inputs) (rows_of table) no_gate)
