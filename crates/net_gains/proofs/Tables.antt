-- The gains of a table: by its rows, by the quotient, and so what the table loses when it is
-- divided.
use Rattle.std.proofs.Common.{◌≡◌, ℕ, ◌+◌, ◌*◌, ◌-◌, ◌≤◌, Bool, true, false, not, cond, Option, List, [], ◌∷◌, map, length, Less, refl, sym, ap, ap₂, ◌∙◌, subst, inl, inr, arith}
use Rattle.std.specs.List.{sum_by, list_all, list_any, AllByRecursion}
use Rattle.std.proofs.lemmas.Bool.{and_parts, or_left, or_right, not-true, false≢true, false_from_ne_true}
use Rattle.std.proofs.lemmas.List.Sums.{sum_by-cons}
use Rattle.sis_base.specs.Rows.{HasWidth}
use Rattle.circuit_model.specs.Counts.{literals_of_table}
use Rattle.circuit_model.specs.Names.{has, all_different}
use Rattle.circuit_model.specs.Soundness.{given, IsShaped, IsSound}
use Rattle.circuit_model.specs.declared.circuit.Tri.{Tri}
use Rattle.circuit_model.specs.declared.circuit.Table.{Table}
use Rattle.circuit_model.specs.declared.circuit.Circuit.{Circuit}
use Rattle.cube_cover.specs.Literals.{row_literals}
use Rattle.alg_div.specs.Cubes.{Has}
use Rattle.alg_div.specs.Quotient.{IsQuotient}
use Rattle.net_candidates.specs.Candidates.{own, cubes_of, IsCandidate, literals_in}
use Rattle.net_candidates.specs.declared.rule.Rule.TheVariants.{Fx}
use Rattle.net_candidates.proofs.Divisors.{IsProperCube}
use Rattle.net_candidates.proofs.Gains.{IsDivided, divided_or_not}
use Rattle.net_candidates.proofs.Local.{cube_of, IsSum, sum_of}
use Rattle.net_candidates.proofs.Products.{literals_in_all, firsts_once}
use Rattle.net_candidates.proofs.Proper.{Rising, cubes_rise, pair_rises, candidate_closed, two_cubes_literal}
use Rattle.net_candidates.proofs.Sums.{sum_mapped, AreOnce, once_mapped, sum_same}
use Rattle.net_candidates.proofs.TidyLiterals.{table_literals}
use Rattle.net_candidates.proofs.Usable.{all_member, IsAmong, among_pair, IsReader, cubes_among, tables_read}
use Rattle.cover_names.specs.Literals.{Cube, NamedCover, literal_cmp}
use Rattle.cover_names.specs.Cubes.{row_over, is_over}
use Rattle.cover_names.specs.declared.literal.Literal.{Literal}
use Rattle.cover_names.proofs.Orders.{literal_order}
use Rattle.cover_names.proofs.Sorting.{rises_head}
use Rattle.net_core.specs.Fresh.{IsNewName}
use Rattle.net_core.specs.Tables.{places_of, characters_of}
use Rattle.net_core.proofs.Rows.{characters_back, width_of_characters}
use Rattle.net_gains.specs.Gains.{over_pairs, same_cover, sum_gain, product_gain, gains}
use Rattle.net_gains.proofs.Covers.{same_cover_is, two_long, own_differ, no_partners}
use Rattle.net_gains.proofs.PairSums.{sum_none, pairs_none, pairs_mapped}
use Rattle.net_gains.proofs.Products.{both, has_both, both_over, row_gains, product_rows}
use Rattle.net_gains.proofs.RowCubes.{sum_more}
use Rattle.net_gains.proofs.Sums.{partners_over, sum_pairs}
use Rattle.alg_tables.specs.Dividing.{firsts, has_no_cube, divided}
use Rattle.alg_tables.proofs.Divisions.{rows_of, divisor, found}
use Rattle.alg_tables.proofs.Quotients.{firsts_has, has_firsts, all_test, quotient_is}
use Rattle.circuit_tables.specs.Tidy.{same_row, rows_differ}
use Rattle.circuit_tables.proofs.Tidied.{row_itself}

-- ---- rows that differ occur once

any_row : (row : List Tri) (rows : List (List Tri)) → Has row rows → list_any (same_row row) rows ≡ true
any_row row [] m = absurd m
any_row row (first ∷ rows) m =
    elim m as (λ _. list_any (same_row row) (first ∷ rows) ≡ true) [
      | inl e ↦ or_left (same_row row first) (list_any (same_row row) rows) (subst (λ (x : List Tri). same_row row x ≡ true) e (row_itself row))
      | inr n ↦ or_right (same_row row first) (list_any (same_row row) rows) (any_row row rows n)
    ]

differing_once : (rows : List (List Tri)) → rows_differ rows ≡ true → AreOnce rows
unfolding rows_differ
differing_once [] h = tt
differing_once (row ∷ rows) h =
    let parts = and_parts (not (list_any (same_row row) rows)) (rows_differ rows) h in
    (λ m. false≢true (sym (not-true (list_any (same_row row) rows) parts.0) ∙ any_row row rows m), differing_once rows parts.1)

places_once : (rows : List (List Tri)) → rows_differ rows ≡ true → AreOnce (map places_of rows)
places_once rows h =
    once_mapped places_of rows (λ x y m n e. sym (characters_back x) ∙ (ap characters_of e ∙ characters_back y)) (differing_once rows h)

firsts_literals : (rows : List (List (Option Bool))) → AreOnce rows → literals_in_all (firsts rows) ≡ literals_in_all rows
firsts_literals rows once = sum_same row_literals (firsts rows) rows (firsts_once rows) once (λ row m. firsts_has rows row m) (λ row m. has_firsts rows row m)

-- ---- gains by rows

module _ (cover : NamedCover) (names : List (List ℕ)) (rows : List (List (Option Bool))) where
  abbrev pub pair_sum : ℕ
  pair_sum = over_pairs (λ one other. sum_gain cover (cube_of names one) (cube_of names other)) rows

  abbrev pub row_sum : ℕ
  row_sum = sum_by (λ row. over_pairs (product_gain cover) (cube_of names row)) rows

gains_by_rows : (cover : NamedCover) (table : Table) → gains cover (cubes_of table) ≡ pair_sum cover table.inputs (map places_of table.rows) + row_sum cover table.inputs (map places_of table.rows)
unfolding gains
gains_by_rows cover table =
    ap₂ (λ (m n : ℕ). m + n)
    (pairs_mapped (sum_gain cover) (λ row. cube_of table.inputs (places_of row)) table.rows
    ∙ sym (pairs_mapped (λ one other. sum_gain cover (cube_of table.inputs one) (cube_of table.inputs other)) places_of table.rows))
    (sum_mapped (over_pairs (product_gain cover)) (λ row. cube_of table.inputs (places_of row)) table.rows
    ∙ sym (sum_mapped (λ row. over_pairs (product_gain cover) (cube_of table.inputs row)) places_of table.rows))

-- ---- a sum has no gain as a product, nor a product as a sum

no_product : (cover : NamedCover) (one other : Literal) → length cover ≡ 2 → product_gain cover one other ≡ 0
unfolding product_gain
no_product cover one other two =
    ap (λ (b : Bool). cond {A = ℕ} b 1 0) (false_from_ne_true (same_cover cover ((one ∷ other ∷ []) ∷ []))
    (λ h. (let e : length cover ≡ 1 = ap length (same_cover_is cover ((one ∷ other ∷ []) ∷ []) h) in absurd (omega (arith, e, two)))))

no_sum : (cover : NamedCover) (one other : Cube) → length cover ≡ 1 → sum_gain cover one other ≡ 0
no_sum cover one other alone =
    no_partners cover one other
    (λ are. (let e : length cover ≡ 2 = ap length are.is ∙ two_long (own one other) (own other one) (own_differ one other are.left) in absurd (omega (arith, e, alone))))

no_row_sum : (cover : NamedCover) (names : List (List ℕ)) (rows : List (List (Option Bool))) → length cover ≡ 2 → row_sum cover names rows ≡ 0
no_row_sum cover names rows two =
    sum_none (λ row. over_pairs (product_gain cover) (cube_of names row)) rows
    (λ row m. pairs_none (product_gain cover) (cube_of names row) (λ one other k n. no_product cover one other two))

no_pair_sum : (cover : NamedCover) (names : List (List ℕ)) (rows : List (List (Option Bool))) → length cover ≡ 1 → pair_sum cover names rows ≡ 0
no_pair_sum cover names rows alone =
    pairs_none (λ one other. sum_gain cover (cube_of names one) (cube_of names other)) rows (λ one other m n. no_sum cover (cube_of names one) (cube_of names other) alone)

-- ---- gains by the quotient

-- for a table that reads what a cover reads the gains are what its quotient saves; for another one
-- they are 0
record AreGains (cover : NamedCover) (names : List (List ℕ)) (rows q : List (List (Option Bool))) : Type 0 where
  inside : is_over names cover ≡ true
      → pair_sum cover names rows + row_sum cover names rows + (literals_in_all q + length q) ≡ length cover * literals_in_all q + length q * literals_in cover
  outside : is_over names cover ≡ false → pair_sum cover names rows + row_sum cover names rows ≡ 0

sum_inside : (pairs single all count literals whole two : ℕ) → pairs ≡ whole → single ≡ 0 → whole + count ≡ all + count * literals → two ≡ 2
    → pairs + single + (all + count) ≡ two * all + count * literals
sum_inside pairs single all count literals whole two a b e k = omega (arith, a, b, e, ap (λ (n : ℕ). n * all) k)

product_inside : (pairs single all count literals one : ℕ) → pairs ≡ 0 → single ≡ count → literals ≡ 2 → one ≡ 1
    → pairs + single + (all + count) ≡ one * all + count * literals
product_inside pairs single all count literals one a b e k = omega (arith, a, b, ap (λ (n : ℕ). n * all) k, ap (λ (n : ℕ). count * n) e)

module _ (names : List (List ℕ)) (once : all_different names ≡ true) (rows : List (List (Option Bool))) (wide : HasWidth (length names) rows) (rows_once : AreOnce rows) where
  sum_gains : (cover : NamedCover) (q : List (List (Option Bool))) → IsQuotient (length names) rows (map (row_over names) cover) q → length cover ≡ 2 → 1 ≤ literals_in cover
      → (is_over names cover ≡ true → IsSum names cover) → AreGains cover names rows q
  sum_gains cover q is two some sum = record {
    inside = λ over. sum_inside (pair_sum cover names rows) (row_sum cover names rows) (literals_in_all q) (length q) (literals_in cover) (sum_by (λ row. row_literals row + literals_in cover - 1) q) (length cover)
        (sum_pairs names once rows wide cover q is (sum over) rows_once) (no_row_sum cover names rows two) (sum_more (literals_in cover) q some) two;
    outside = λ out.
        let none : pair_sum cover names rows ≡ 0 =
        pairs_none (λ one other. sum_gain cover (cube_of names one) (cube_of names other)) rows
        (λ one other m n. no_partners cover (cube_of names one) (cube_of names other) (λ are. false≢true (sym out ∙ partners_over names cover one other once are))) in
        omega (arith, none, no_row_sum cover names rows two);
  }

  product_gains : (one other : Literal) (q : List (List (Option Bool))) → IsQuotient (length names) rows (map (row_over names) (both one other)) q → literal_cmp one other ≡ Less
      → (is_over names (both one other) ≡ true → IsProperCube names (one ∷ other ∷ [])) → AreGains (both one other) names rows q
  product_gains one other q is below proper = record {
    inside = λ over.
        let two : literals_in (both one other) ≡ 2 = omega (arith, sum_by-cons length (one ∷ other ∷ []) []) in
        product_inside (pair_sum (both one other) names rows) (row_sum (both one other) names rows) (literals_in_all q) (length q) (literals_in (both one other)) (length (both one other))
        (no_pair_sum (both one other) names rows refl) (product_rows one other names once rows wide (proper over) q is below rows_once) two refl;
    outside = λ out.
        let none : row_sum (both one other) names rows ≡ 0 =
        sum_none (λ row. over_pairs (product_gain (both one other)) (cube_of names row)) rows
        (λ row m. row_gains one other names once below row
        ∙ ap (λ (b : Bool). cond {A = ℕ} b 1 0) (false_from_ne_true (has_both one other (cube_of names row)) (λ h. false≢true (sym out ∙ both_over one other names once row h)))) in
        omega (arith, none, no_pair_sum (both one other) names rows refl);
  }

-- the gains by a candidate of any table
candidate_gains : (signals : List (List ℕ)) (tables : List Table) (cover : NamedCover) (names : List (List ℕ)) (rows q : List (List (Option Bool)))
    → AllByRecursion (IsReader signals) tables → IsCandidate Fx tables cover
    → all_different names ≡ true → HasWidth (length names) rows → AreOnce rows → IsQuotient (length names) rows (map (row_over names) cover) q → AreGains cover names rows q
candidate_gains signals tables cover names rows q readers (from, among, inl two) once wide rows_once is =
    let reader = all_member (IsReader signals) tables readers from among in
    sum_gains names once rows wide rows_once cover q is
    (ap length two.is ∙ two_long (own two.one two.other) (own two.other two.one) (own_differ two.one two.other two.left))
    (two_cubes_literal from cover two).some
    (λ over. sum_of signals names from cover reader two over)
candidate_gains signals tables cover names rows q readers (from, among, inr two) once wide rows_once is =
    let reader = all_member (IsReader signals) tables readers from among in
    let rise : Rising (two.one ∷ two.other ∷ []) = pair_rises two.cube two.one two.other (all_member Rising (cubes_of from) (cubes_rise from) two.cube two.among) two.literals in
    subst (λ (x : NamedCover). AreGains x names rows q) (sym two.is)
    (product_gains names once rows wide rows_once two.one two.other q (subst (λ (x : NamedCover). IsQuotient (length names) rows (map (row_over names) x) q) two.is is)
    (rises_head literal_order two.one (two.other ∷ []) rise two.other (inl refl))
    (λ over. record {
      rises = rise;
      apart = (among_pair signals two.cube two.one two.other (all_member (IsAmong signals) (cubes_of from) (cubes_among signals from reader) two.cube two.among) two.literals).apart;
      over = all_test (λ (x : Cube). list_all (λ (literal : Literal). has names literal.name) x) (both two.one two.other) (two.one ∷ two.other ∷ []) over (inl refl);
    }))

-- ---- what a table loses

no_cube : (rows : List (List (Option Bool))) → has_no_cube rows ≡ true → rows ≡ []
no_cube [] h = refl
no_cube (row ∷ rows) h = absurd (false≢true h)

divided_loses : (made gain saved lost whole kept : ℕ) → made + saved ≡ kept + lost → gain + lost ≡ saved → kept ≡ whole → made + gain ≡ whole
divided_loses made gain saved lost whole kept a b c = omega (arith, a, b, c)

nothing_saved : (gain cover literals all count : ℕ) → gain + (all + count) ≡ cover * all + count * literals → all ≡ 0 → count ≡ 0 → gain ≡ 0
nothing_saved gain cover literals all count e a b = omega (arith, e, a, b, ap (λ (n : ℕ). cover * n) a, ap (λ (n : ℕ). n * literals) b)

module _ (circuit : Circuit) (name : List ℕ) (cover : NamedCover) (table : Table) (sound : IsSound circuit) (new : IsNewName circuit name) (is : IsCandidate Fx circuit.tables cover)
    (among : Has table circuit.tables) (differ : rows_differ table.rows ≡ true) where
  once : AreOnce (map places_of table.rows)
  once = places_once table.rows differ

  are : AreGains cover table.inputs (map places_of table.rows) (found name true cover table)
  are =
      let wide = width_of_characters (length table.inputs) table.rows (all_member IsShaped circuit.tables sound.shaped table among).0 in
      candidate_gains (given circuit) circuit.tables cover table.inputs (map places_of table.rows) (found name true cover table) (tables_read circuit sound) is
      (all_member (IsReader (given circuit)) circuit.tables (tables_read circuit sound) table among).once wide once
      (quotient_is (length table.inputs) (map places_of table.rows) (divisor name true cover table) wide)

  loses : IsDivided name true cover table → literals_of_table (divided name true cover table) + gains cover (cubes_of table) ≡ literals_of_table table
  loses way =
      divided_loses (literals_of_table (divided name true cover table)) (gains cover (cubes_of table))
      (length cover * literals_in_all (found name true cover table) + length (found name true cover table) * literals_in cover)
      (literals_in_all (found name true cover table) + length (found name true cover table)) (literals_of_table table) (literals_in_all (firsts (rows_of name true cover table)))
      (candidate_closed Fx circuit name cover sound new is table among way)
      (ap (λ (n : ℕ). n + (literals_in_all (found name true cover table) + length (found name true cover table))) (gains_by_rows cover table) ∙ are.inside way.over)
      (firsts_literals (map places_of table.rows) once ∙ sym (table_literals table))

  keeps : divided name true cover table ≡ table → gains cover (cubes_of table) ≡ 0 → literals_of_table (divided name true cover table) + gains cover (cubes_of table) ≡ literals_of_table table
  keeps e none = (let same : literals_of_table (divided name true cover table) ≡ literals_of_table table = ap literals_of_table e in omega (arith, same, none))

  -- a table loses its gains
  pub table_loses : literals_of_table (divided name true cover table) + gains cover (cubes_of table) ≡ literals_of_table table
  table_loses = elim (divided_or_not name true cover table) as (λ _. literals_of_table (divided name true cover table) + gains cover (cubes_of table) ≡ literals_of_table table) [
    | inl way ↦ loses way
    | inr e ↦ cases (is_over table.inputs cover) (has_no_cube (found name true cover table)) refl refl e
  ]
    where
      cases : (a b : Bool) → is_over table.inputs cover ≡ a → has_no_cube (found name true cover table) ≡ b → divided name true cover table ≡ table
          → literals_of_table (divided name true cover table) + gains cover (cubes_of table) ≡ literals_of_table table
      cases false b h k e = keeps e (gains_by_rows cover table ∙ are.outside h)
      cases true false h k e = loses (record { over = h; some = k })
      cases true true h k e =
          keeps e
          (nothing_saved (gains cover (cubes_of table)) (length cover) (literals_in cover) (literals_in_all (found name true cover table)) (length (found name true cover table))
          (ap (λ (n : ℕ). n + (literals_in_all (found name true cover table) + length (found name true cover table))) (gains_by_rows cover table) ∙ are.inside h)
          (ap literals_in_all (no_cube (found name true cover table) k)) (ap length (no_cube (found name true cover table) k)))
