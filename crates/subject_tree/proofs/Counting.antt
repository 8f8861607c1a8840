-- The uses of signals, counted from the last literal to the first.
use Rattle.std.proofs.Common.{◌≡◌, ℕ, zero, suc, ◌+◌, ◌-◌, ◌<◌, ◌≤◌, Bool, true, false, ◌&&◌, if◌then◌else◌, Option, List, [], ◌∷◌, map, length, drop, get_or, bytes_eq, refl, sym, ap, ◌∙◌, subst, arith}
use Rattle.std.specs.List.{AllByRecursion}
use Rattle.std.proofs.lemmas.List.{drop_more}
use Rattle.circuit_model.specs.Names.{has}
use Rattle.circuit_model.specs.Counts.{is_literal}
use Rattle.circuit_model.specs.Soundness.{IsShaped}
use Rattle.circuit_model.specs.declared.circuit.Tri.{Tri}
use Rattle.circuit_model.specs.declared.circuit.Table.{Table}
use Rattle.circuit_model.specs.declared.circuit.Circuit.{Circuit}
use Rattle.circuit_laws.proofs.Names.{same_name}
use Rattle.subject_tree.specs.Sizes.{word_count}
use Rattle.subject_tree.specs.Tables.{is_constant}
use Rattle.subject_tree.specs.Forest.{uses_in_row, uses_in_rows, uses_of, is_outer, fate_by_uses, fate_by, fate_of, count_in, AreCounts}
use Rattle.subject_tree.specs.declared.judging.Role.{Role}
use Rattle.subject_tree.specs.declared.judging.Role.TheVariants.{Constant, Root}

word_more : (a : ℕ) → word_count (word_count a + 1) ≡ word_count (a + 1)
word_more a = omega arith

-- one use more of the input, and none of the other signals
abbrev pub hit : List ℕ → Tri → List ℕ → ℕ
hit input character signal = if is_literal character && bytes_eq input signal then 1 else 0

pub counts_same : (counts : List ℕ → Option ℕ) (f g : List ℕ → ℕ) → ((signal : List ℕ) → f signal ≡ g signal) → AreCounts counts f → AreCounts counts g
counts_same counts f g same are signal = are signal ∙ ap word_count (same signal)

pub uncounted : (counts : List ℕ → Option ℕ) (input : List ℕ) (character : Tri) (uses : List ℕ → ℕ) → is_literal character ≡ false → AreCounts counts uses → AreCounts counts (λ signal. uses signal + hit input character signal)
uncounted counts input character uses none are =
    counts_same counts uses (λ signal. uses signal + hit input character signal)
    (λ signal.
    let e : hit input character signal ≡ 0 = ap (λ (b : Bool). if b && bytes_eq input signal then 1 else 0) none in
    omega (arith, e)) are

pub counted : (old new : List ℕ → Option ℕ) (input copy : List ℕ) (character : Tri) (count : ℕ) (uses : List ℕ → ℕ) → copy ≡ input → is_literal character ≡ true → count ≡ word_count (count_in (old input) + 1)
    → ((other : List ℕ) → count_in (new other) ≡ (if bytes_eq copy other then count else count_in (old other)))
    → AreCounts old uses → AreCounts new (λ signal. uses signal + hit input character signal)
counted old new input copy character count uses same literal is put are signal = cases (bytes_eq input signal) refl
  where
    found : (b : Bool) → bytes_eq input signal ≡ b → count_in (new signal) ≡ (if b then count else count_in (old signal))
    found b e = put signal ∙ ap (λ (t : Bool). if t then count else count_in (old signal)) (ap (λ (n : List ℕ). bytes_eq n signal) same ∙ e)

    more : (b : Bool) → bytes_eq input signal ≡ b → hit input character signal ≡ (if b then 1 else 0)
    more b e = ap (λ (t : Bool). if t && bytes_eq input signal then 1 else 0) literal ∙ ap (λ (t : Bool). if t then 1 else 0) e

    cases : (b : Bool) → bytes_eq input signal ≡ b → count_in (new signal) ≡ word_count (uses signal + hit input character signal)
    cases true e =
        let here : input ≡ signal = same_name input signal e in
        found true e ∙ (is ∙ (ap (λ (n : List ℕ). word_count (count_in (old n) + 1)) here ∙ (ap (λ (k : ℕ). word_count (k + 1)) (are signal) ∙ (word_more (uses signal) ∙ ap (λ (k : ℕ). word_count (uses signal + k)) (sym (more true e))))))
    cases false e =
        found false e ∙ (are signal ∙ ap word_count (let z : hit input character signal ≡ 0 = more false e in omega (arith, z)))

-- one character more, from the back
row-uses_more : (signal : List ℕ) (inputs : List (List ℕ)) (row : List Tri) (k : ℕ) (input : List ℕ) (c : Tri) → k < length inputs → k < length row → input ≡ get_or inputs k input
    → uses_in_row signal (drop k inputs) (drop k row) ≡ hit input (get_or row k c) signal + uses_in_row signal (drop (k + 1) inputs) (drop (k + 1) row)
unfolding uses_in_row
row-uses_more signal inputs row k input c lt at is =
    ap (λ (names : List (List ℕ)). uses_in_row signal names (drop k row)) (drop_more inputs k input lt ∙ ap (λ (n : List ℕ). n ∷ drop (k + 1) inputs) (sym is))
    ∙ ap (uses_in_row signal (input ∷ drop (k + 1) inputs)) (drop_more row k c at)

pub row_counted : (start now new : List ℕ → Option ℕ) (inputs : List (List ℕ)) (row : List Tri) (k place : ℕ) (input : List ℕ) (c : Tri) → k + 1 ≡ place → place ≤ length inputs → length row ≡ length inputs → input ≡ get_or inputs k input
    → ((uses : List ℕ → ℕ) → AreCounts start uses → AreCounts now (λ signal. uses signal + uses_in_row signal (drop place inputs) (drop place row)))
    → ((uses : List ℕ → ℕ) → AreCounts now uses → AreCounts new (λ signal. uses signal + hit input (get_or row k c) signal))
    → (uses : List ℕ → ℕ) → AreCounts start uses → AreCounts new (λ signal. uses signal + uses_in_row signal (drop k inputs) (drop k row))
row_counted start now new inputs row k place input c next within width is before step uses are =
    counts_same new (λ signal. uses signal + uses_in_row signal (drop place inputs) (drop place row) + hit input (get_or row k c) signal) (λ signal. uses signal + uses_in_row signal (drop k inputs) (drop k row))
    (λ signal.
    let e = row-uses_more signal inputs row k input c (omega (arith, next, within)) (omega (arith, next, within, width)) is in
    let f : uses_in_row signal (drop (k + 1) inputs) (drop (k + 1) row) ≡ uses_in_row signal (drop place inputs) (drop place row) = ap (λ (p : ℕ). uses_in_row signal (drop p inputs) (drop p row)) next in
    omega (arith, e, f))
    (step (λ signal. uses signal + uses_in_row signal (drop place inputs) (drop place row)) (before uses are))

pub drop_all : {X : Type 0} (xs : List X) → drop (length xs) xs ≡ []
drop_all [] = refl
drop_all (x ∷ xs) = drop_all xs

pub row_uncounted : (start : List ℕ → Option ℕ) (inputs : List (List ℕ)) (row : List Tri) (uses : List ℕ → ℕ) → AreCounts start uses → AreCounts start (λ signal. uses signal + uses_in_row signal (drop (length inputs) inputs) (drop (length inputs) row))
unfolding uses_in_row
row_uncounted start inputs row uses are =
    counts_same start uses (λ signal. uses signal + uses_in_row signal (drop (length inputs) inputs) (drop (length inputs) row))
    (λ signal.
    let e : uses_in_row signal (drop (length inputs) inputs) (drop (length inputs) row) ≡ 0 = ap (λ (names : List (List ℕ)). uses_in_row signal names (drop (length inputs) row)) (drop_all inputs) in
    omega (arith, e)) are

pub rows_uncounted : (start : List ℕ → Option ℕ) (inputs : List (List ℕ)) (rows : List (List Tri)) (uses : List ℕ → ℕ) → AreCounts start uses → AreCounts start (λ signal. uses signal + uses_in_rows signal inputs (drop (length rows) rows))
unfolding uses_in_rows
rows_uncounted start inputs rows uses are =
    counts_same start uses (λ signal. uses signal + uses_in_rows signal inputs (drop (length rows) rows))
    (λ signal.
    let e : uses_in_rows signal inputs (drop (length rows) rows) ≡ 0 = ap (uses_in_rows signal inputs) (drop_all rows) in
    omega (arith, e)) are

pub rows_counted : (start now new : List ℕ → Option ℕ) (inputs : List (List ℕ)) (rows : List (List Tri)) (k place : ℕ) (row other : List Tri) → k + 1 ≡ place → place ≤ length rows → row ≡ get_or rows k row → other ≡ row
    → ((uses : List ℕ → ℕ) → AreCounts start uses → AreCounts now (λ signal. uses signal + uses_in_rows signal inputs (drop place rows)))
    → ((uses : List ℕ → ℕ) → AreCounts now uses → AreCounts new (λ signal. uses signal + uses_in_row signal inputs other))
    → (uses : List ℕ → ℕ) → AreCounts start uses → AreCounts new (λ signal. uses signal + uses_in_rows signal inputs (drop k rows))
unfolding uses_in_rows
rows_counted start now new inputs rows k place row other next within is same before step uses are =
    counts_same new (λ signal. uses signal + uses_in_rows signal inputs (drop place rows) + uses_in_row signal inputs other) (λ signal. uses signal + uses_in_rows signal inputs (drop k rows))
    (λ signal.
    let lt : k < length rows = omega (arith, next, within) in
    let e : uses_in_rows signal inputs (drop k rows) ≡ uses_in_row signal inputs other + uses_in_rows signal inputs (drop (k + 1) rows) =
    ap (uses_in_rows signal inputs) (drop_more rows k row lt ∙ ap (λ (r : List Tri). r ∷ drop (k + 1) rows) (sym is ∙ sym same)) in
    let f : uses_in_rows signal inputs (drop (k + 1) rows) ≡ uses_in_rows signal inputs (drop place rows) = ap (λ (p : ℕ). uses_in_rows signal inputs (drop p rows)) next in
    omega (arith, e, f))
    (step (λ signal. uses signal + uses_in_rows signal inputs (drop place rows)) (before uses are))

pub uses_begun : (tables : List Table) (start : List ℕ → Option ℕ) → ((signal : List ℕ) → count_in (start signal) ≡ 0) → AreCounts start (uses_of (drop (length tables) tables))
unfolding uses_of
uses_begun tables start none signal =
    none signal ∙ ap word_count (sym (ap (λ (ts : List Table). uses_of ts signal) (drop_all tables)))

pub uses_counted : (now new : List ℕ → Option ℕ) (tables : List Table) (k place : ℕ) (table : Table) (names : List (List ℕ)) (rows : List (List Tri)) → k + 1 ≡ place → place ≤ length tables → table ≡ get_or tables k table → names ≡ table.inputs → rows ≡ table.rows
    → AreCounts now (uses_of (drop place tables))
    → ((uses : List ℕ → ℕ) → AreCounts now uses → AreCounts new (λ signal. uses signal + uses_in_rows signal names rows))
    → AreCounts new (uses_of (drop k tables))
unfolding uses_of
uses_counted now new tables k place table names rows next within is inputs same before step =
    counts_same new (λ signal. uses_of (drop place tables) signal + uses_in_rows signal names rows) (uses_of (drop k tables))
    (λ signal.
    let lt : k < length tables = omega (arith, next, within) in
    let e : uses_of (drop k tables) signal ≡ uses_in_rows signal table.inputs table.rows + uses_of (drop (k + 1) tables) signal =
    ap (λ (ts : List Table). uses_of ts signal) (drop_more tables k table lt ∙ ap (λ (t : Table). t ∷ drop (k + 1) tables) (sym is)) in
    let f : uses_of (drop (k + 1) tables) signal ≡ uses_of (drop place tables) signal = ap (λ (p : ℕ). uses_of (drop p tables) signal) next in
    let g : uses_in_rows signal names rows ≡ uses_in_rows signal table.inputs table.rows = ap (λ (ns : List (List ℕ)). uses_in_rows signal ns rows) inputs ∙ ap (uses_in_rows signal table.inputs) same in
    omega (arith, e, f, g))
    (step (uses_of (drop place tables)) before)

-- the fate goes by the uses as a word as it does by the uses
fate_word : (uses : ℕ) → fate_by_uses (word_count uses) ≡ fate_by_uses uses
fate_word zero = refl
fate_word (suc zero) = refl
fate_word (suc (suc n)) =
    let e : word_count (suc (suc n)) ≡ suc (suc (word_count (suc (suc n)) - 2)) = omega arith in
    ap fate_by_uses e

pub fate-found : (circuit : Circuit) (table : Table) (outer : Bool) (count : ℕ) (fate : Role) → outer ≡ is_outer circuit table.output → count ≡ word_count (uses_of circuit.tables table.output) → fate ≡ fate_by (is_constant table) outer count
    → fate ≡ fate_of circuit table
unfolding fate_of
fate-found circuit table outer count fate stands is found =
    found
    ∙ (ap (λ (b : Bool). fate_by (is_constant table) b count) stands
    ∙ ap (λ (f : Role). if is_constant table then Constant else (if is_outer circuit table.output then Root else f)) (ap fate_by_uses is ∙ fate_word (uses_of circuit.tables table.output)))

judged_same : (circuit : Circuit) (outer : List (List ℕ)) (counts : List ℕ → Option ℕ) → ((signal : List ℕ) → has outer signal ≡ is_outer circuit signal) → AreCounts counts (uses_of circuit.tables) → (tables : List Table)
    → map (λ (table : Table). fate_by (is_constant table) (has outer table.output) (count_in (counts table.output))) tables ≡ map (fate_of circuit) tables
judged_same circuit outer counts stands are [] = refl
judged_same circuit outer counts stands are (table ∷ tables) =
    ap (λ (f : Role). f ∷ map (λ (t : Table). fate_by (is_constant t) (has outer t.output) (count_in (counts t.output))) tables)
    (fate-found circuit table (has outer table.output) (count_in (counts table.output)) (fate_by (is_constant table) (has outer table.output) (count_in (counts table.output))) (stands table.output) (are table.output) refl)
    ∙ ap (λ (fs : List Role). fate_of circuit table ∷ fs) (judged_same circuit outer counts stands are tables)

pub all_judged : (circuit : Circuit) (outer : List (List ℕ)) (counts : List ℕ → Option ℕ) (tables : List Table) (fates : List Role) → tables ≡ circuit.tables → ((signal : List ℕ) → has outer signal ≡ is_outer circuit signal) → AreCounts counts (uses_of tables)
    → fates ≡ map (λ (table : Table). fate_by (is_constant table) (has outer table.output) (count_in (counts table.output))) tables → fates ≡ map (fate_of circuit) circuit.tables
all_judged circuit outer counts tables fates same stands are made =
    made ∙ (judged_same circuit outer counts stands (subst (λ (ts : List Table). AreCounts counts (uses_of ts)) same are) tables ∙ ap (map (fate_of circuit)) same)

-- the rows of a shaped table, at a place
pub shaped_rows : (tables : List Table) (k : ℕ) (table : Table) (names : List (List ℕ)) (rows : List (List Tri)) → AllByRecursion IsShaped tables → k < length tables → table ≡ get_or tables k table → names ≡ table.inputs → rows ≡ table.rows
    → AllByRecursion (λ (row : List Tri). length row ≡ length names) rows
shaped_rows [] k table names rows shaped lt is inputs same = absurd (omega (arith, lt))
shaped_rows (first ∷ tables) zero table names rows shaped lt is inputs same =
    subst (λ (rs : List (List Tri)). AllByRecursion (λ (row : List Tri). length row ≡ length names) rs) (sym (same ∙ ap (λ (t : Table). t.rows) is))
    (subst (λ (ns : List (List ℕ)). AllByRecursion (λ (row : List Tri). length row ≡ length ns) first.rows) (sym (inputs ∙ ap (λ (t : Table). t.inputs) is)) shaped.0.0)
shaped_rows (first ∷ tables) (suc k) table names rows shaped lt is inputs same = shaped_rows tables k table names rows shaped.1 (omega (arith, lt)) is inputs same
