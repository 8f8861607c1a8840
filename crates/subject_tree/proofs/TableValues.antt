-- The value of a table's tree is the table's value.
use Rattle.std.proofs.Common.{◌≡◌, ◌==◌, Bool, true, false, not, ◌&&◌, ◌||◌, Option, Some, None, List, [], ◌∷◌, ◌++◌, map, length, option_map, option_to_list, unwrap_or, refl, sym, ap, ◌∙◌, arith}
use Rattle.std.specs.List.{AllByRecursion, list_all, list_any}
use Rattle.std.proofs.lemmas.Bool.{false≢true, or_right, or_parts}
use Rattle.std.proofs.lemmas.Option.{same_Some, none-some}
use Rattle.std.proofs.Math.Bool.{and-true, or-false}
use Rattle.sis_base.specs.Rows.{matches, some_matches, phase_value, value_by_phase}
use Rattle.circuit_model.specs.Values.{literal_of, table_value}
use Rattle.circuit_model.specs.declared.circuit.Tri.{Tri}
use Rattle.circuit_model.specs.declared.circuit.Tri.TheVariants.{Zero, One, Free}
use Rattle.circuit_model.specs.declared.circuit.Table.{Table}
use Rattle.subject_tree.specs.Trees.{Tree, product_of, sum_of, value_at}
use Rattle.subject_tree.specs.Tables.{with_front, joined, literal_trees, row_tree, row_trees, by_phase, table_tree, is_blank, is_constant}
use Rattle.subject_tree.proofs.Values.{complement-value, product-value, sum-value}

module _ {A : Type 0} (value : A → Bool) where
  -- the value of what may be no tree
  worth : Bool → Option (Tree A) → Bool
  worth d t = unwrap_or (option_map (value_at value) t) d

  front_product : (t : Tree A) (rest : Option (Tree A)) → value_at value (with_front product_of t rest) ≡ (value_at value t && worth true rest)
  unfolding worth
  front_product t None = sym (and-true (value_at value t))
  front_product t (Some u) = product-value value t u

  front_sum : (t : Tree A) (rest : Option (Tree A)) → value_at value (with_front sum_of t rest) ≡ (value_at value t || worth false rest)
  unfolding worth
  front_sum t None = sym (or-false (value_at value t))
  front_sum t (Some u) = sum-value value t u

  product_worth : (ts : List (Tree A)) → worth true (joined product_of ts) ≡ list_all (value_at value) ts
  unfolding worth joined
  product_worth [] = refl
  product_worth (t ∷ ts) = front_product t (joined product_of ts) ∙ ap (λ (b : Bool). value_at value t && b) (product_worth ts)

  sum_worth : (ts : List (Tree A)) → worth false (joined sum_of ts) ≡ list_any (value_at value) ts
  unfolding worth joined
  sum_worth [] = refl
  sum_worth (t ∷ ts) = front_sum t (joined sum_of ts) ∙ ap (λ (b : Bool). value_at value t || b) (sum_worth ts)

  literals_value : (ts : List (Tree A)) (row : List Tri) → list_all (value_at value) (literal_trees ts row) ≡ matches (map literal_of row) (map (value_at value) ts)
  unfolding literal_trees matches
  literals_value [] [] = refl
  literals_value [] (c ∷ row) = refl
  literals_value (t ∷ ts) [] = refl
  literals_value (t ∷ ts) (Zero ∷ row) =
      ap (λ (b : Bool). b && list_all (value_at value) (literal_trees ts row)) (complement-value value t) ∙ ap (λ (b : Bool). not (value_at value t) && b) (literals_value ts row)
  literals_value (t ∷ ts) (One ∷ row) = ap (λ (b : Bool). value_at value t && b) (literals_value ts row)
  literals_value (t ∷ ts) (Free ∷ row) = literals_value ts row

  -- a row without a tree has no literal
  blank_none : (ts : List (Tree A)) (row : List Tri) → length row ≡ length ts → row_tree ts row ≡ None → is_blank row ≡ true
  unfolding literal_trees joined
  blank_none [] [] width none = refl
  blank_none [] (c ∷ row) width none = absurd (omega (arith, width))
  blank_none (t ∷ ts) [] width none = refl
  blank_none (t ∷ ts) (Zero ∷ row) width none = absurd (none-some _ (sym none))
  blank_none (t ∷ ts) (One ∷ row) width none = absurd (none-some _ (sym none))
  blank_none (t ∷ ts) (Free ∷ row) width none = blank_none ts row (omega (arith, width)) none

  rows_value : (ts : List (Tree A)) (rows : List (List Tri)) → AllByRecursion (λ (row : List Tri). length row ≡ length ts) rows → list_any is_blank rows ≡ false
      → list_any (value_at value) (row_trees ts rows) ≡ some_matches (map (map literal_of) rows) (map (value_at value) ts)
  unfolding row_trees some_matches value_at worth
  rows_value ts [] widths full = refl
  rows_value ts (row ∷ rows) widths full =
      let (mine, others) = or_parts (is_blank row) (list_any is_blank rows) full in
      cases (row_tree ts row) refl mine (rows_value ts rows widths.1 others)
    where
      cases : (found : Option (Tree A)) → row_tree ts row ≡ found → is_blank row ≡ false
          → list_any (value_at value) (row_trees ts rows) ≡ some_matches (map (map literal_of) rows) (map (value_at value) ts)
          → list_any (value_at value) (option_to_list found ++ row_trees ts rows) ≡ (matches (map literal_of row) (map (value_at value) ts) || some_matches (map (map literal_of) rows) (map (value_at value) ts))
      cases None e mine rest = absurd (false≢true (sym mine ∙ blank_none ts row widths.0 e))
      cases (Some u) e mine rest =
          let here : value_at value u ≡ matches (map literal_of row) (map (value_at value) ts) =
          sym (ap (worth true) e) ∙ (product_worth (literal_trees ts row) ∙ literals_value ts row) in
          ap (λ (b : Bool). b || list_any (value_at value) (row_trees ts rows)) here ∙ ap (λ (b : Bool). matches (map literal_of row) (map (value_at value) ts) || b) rest

  phase_of : (phase : Bool) (t : Tree A) → value_at value (by_phase phase t) ≡ phase_value phase (value_at value t)
  phase_of true t = refl
  phase_of false t = complement-value value t

  pub table_tree-value : (ts : List (Tree A)) (table : Table) (t : Tree A) → AllByRecursion (λ (row : List Tri). length row ≡ length ts) table.rows → is_constant table ≡ false → table_tree ts table ≡ Some t
      → value_at value t ≡ table_value table (map (value_at value) ts)
  unfolding is_constant table_value value_by_phase value_at worth
  table_tree-value ts table t widths full made = cases (joined sum_of (row_trees ts table.rows)) refl made
    where
      cases : (found : Option (Tree A)) → joined sum_of (row_trees ts table.rows) ≡ found → option_map (by_phase table.phase) found ≡ Some t
          → value_at value t ≡ phase_value table.phase (some_matches (map (map literal_of) table.rows) (map (value_at value) ts))
      cases None e made = absurd (none-some t made)
      cases (Some s) e made =
          let sum : value_at value s ≡ some_matches (map (map literal_of) table.rows) (map (value_at value) ts) =
          sym (ap (worth false) e) ∙ (sum_worth (row_trees ts table.rows) ∙ rows_value ts table.rows widths (or_parts (length table.rows == 0) (list_any is_blank table.rows) full).1) in
          ap (value_at value) (sym (same_Some (by_phase table.phase s) t made)) ∙ (phase_of table.phase s ∙ ap (phase_value table.phase) sum)

  -- a table that is not constant has a tree
  rows_none : (ts : List (Tree A)) (rows : List (List Tri)) → AllByRecursion (λ (row : List Tri). length row ≡ length ts) rows → joined sum_of (row_trees ts rows) ≡ None → ((length rows == 0) || list_any is_blank rows) ≡ true
  unfolding row_trees joined
  rows_none ts [] widths none = refl
  rows_none ts (row ∷ rows) widths none =
      or_right (length (row ∷ rows) == 0) (is_blank row || list_any is_blank rows) (cases (row_tree ts row) refl none)
    where
      cases : (found : Option (Tree A)) → row_tree ts row ≡ found → joined sum_of (option_to_list found ++ row_trees ts rows) ≡ None → (is_blank row || list_any is_blank rows) ≡ true
      cases None e none = ap (λ (b : Bool). b || list_any is_blank rows) (blank_none ts row widths.0 e)
      cases (Some u) e none = absurd (none-some _ (sym none))

pub table_tree-there : {A : Type 0} → (A → Bool) → (ts : List (Tree A)) (table : Table) → AllByRecursion (λ (row : List Tri). length row ≡ length ts) table.rows → is_constant table ≡ false → table_tree ts table ≡ None → ⊥
unfolding is_constant
table_tree-there {A} value ts table widths full none = cases (joined sum_of (row_trees ts table.rows)) refl none
  where
    cases : (found : Option (Tree A)) → joined sum_of (row_trees ts table.rows) ≡ found → option_map (by_phase table.phase) found ≡ None → ⊥
    cases None e none = false≢true (sym full ∙ rows_none value ts table.rows widths e)
    cases (Some s) e none = none-some _ (sym none)
