-- Other things in the place of the leaves, before or after trees are put together.
use Rattle.std.proofs.Common.{◌≡◌, ℕ, ◌+◌, Bool, true, false, Option, Some, None, List, [], ◌∷◌, ◌++◌, map, option_map, option_to_list, refl, ap, ◌∙◌, arith}
use Rattle.circuit_model.specs.declared.circuit.Tri.{Tri}
use Rattle.circuit_model.specs.declared.circuit.Tri.TheVariants.{Zero, One, Free}
use Rattle.circuit_model.specs.declared.circuit.Table.{Table}
use Rattle.subject_tree.specs.Trees.{Tree, Leaf, Inv, Nand, complement_of, product_of, sum_of, size_of, renamed}
use Rattle.subject_tree.specs.Tables.{with_front, joined, literal_tree, literal_trees, row_tree, row_trees, by_phase, table_tree}

pub size-renamed : {A B : Type 0} (f : A → B) (t : Tree A) → size_of (renamed f t) ≡ size_of t
unfolding size_of renamed
size-renamed f (Leaf x) = refl
size-renamed f (Inv t) = ap (λ (n : ℕ). n + 1) (size-renamed f t)
size-renamed f (Nand t u) = omega (arith, size-renamed f t, size-renamed f u)

module _ {A B : Type 0} (f : A → B) where
  complement-renamed : (t : Tree A) → complement_of (renamed f t) ≡ renamed f (complement_of t)
  unfolding renamed
  complement-renamed (Leaf x) = refl
  complement-renamed (Inv t) = refl
  complement-renamed (Nand t u) = refl

  product-renamed : (t u : Tree A) → product_of (renamed f t) (renamed f u) ≡ renamed f (product_of t u)
  unfolding renamed
  product-renamed t u = refl

  sum-renamed : (t u : Tree A) → sum_of (renamed f t) (renamed f u) ≡ renamed f (sum_of t u)
  unfolding renamed
  sum-renamed t u = ap (λ (v : Tree B). Nand v (complement_of (renamed f u))) (complement-renamed t) ∙ ap (Nand (renamed f (complement_of t))) (complement-renamed u)

  joined-renamed : (one : Tree A → Tree A → Tree A) (other : Tree B → Tree B → Tree B) → ((t u : Tree A) → other (renamed f t) (renamed f u) ≡ renamed f (one t u))
      → (ts : List (Tree A)) → joined other (map (renamed f) ts) ≡ option_map (renamed f) (joined one ts)
  unfolding joined
  joined-renamed one other h [] = refl
  joined-renamed one other h (t ∷ ts) = ap (λ (rest : Option (Tree B)). Some (with_front other (renamed f t) rest)) (joined-renamed one other h ts) ∙ ap (λ (u : Tree B). Some u) (front (joined one ts))
    where
      front : (rest : Option (Tree A)) → with_front other (renamed f t) (option_map (renamed f) rest) ≡ renamed f (with_front one t rest)
      front None = refl
      front (Some u) = h t u

  listed-renamed : (found : Option (Tree A)) (ts : List (Tree A)) → option_to_list (option_map (renamed f) found) ++ map (renamed f) ts ≡ map (renamed f) (option_to_list found ++ ts)
  listed-renamed None ts = refl
  listed-renamed (Some t) ts = refl

  literal-renamed : (c : Tri) (t : Tree A) → literal_tree c (renamed f t) ≡ option_map (renamed f) (literal_tree c t)
  literal-renamed Zero t = ap (λ (u : Tree B). Some u) (complement-renamed t)
  literal-renamed One t = refl
  literal-renamed Free t = refl

  literals-renamed : (ts : List (Tree A)) (row : List Tri) → literal_trees (map (renamed f) ts) row ≡ map (renamed f) (literal_trees ts row)
  unfolding literal_trees
  literals-renamed [] row = refl
  literals-renamed (t ∷ ts) [] = refl
  literals-renamed (t ∷ ts) (c ∷ row) =
      ap (λ (o : Option (Tree B)). option_to_list o ++ literal_trees (map (renamed f) ts) row) (literal-renamed c t)
      ∙ (ap (λ (us : List (Tree B)). option_to_list (option_map (renamed f) (literal_tree c t)) ++ us) (literals-renamed ts row) ∙ listed-renamed (literal_tree c t) (literal_trees ts row))

  row-renamed : (ts : List (Tree A)) (row : List Tri) → row_tree (map (renamed f) ts) row ≡ option_map (renamed f) (row_tree ts row)
  row-renamed ts row = ap (joined product_of) (literals-renamed ts row) ∙ joined-renamed product_of product_of product-renamed (literal_trees ts row)

  rows-renamed : (ts : List (Tree A)) (rows : List (List Tri)) → row_trees (map (renamed f) ts) rows ≡ map (renamed f) (row_trees ts rows)
  unfolding row_trees
  rows-renamed ts [] = refl
  rows-renamed ts (row ∷ rows) =
      ap (λ (o : Option (Tree B)). option_to_list o ++ row_trees (map (renamed f) ts) rows) (row-renamed ts row)
      ∙ (ap (λ (us : List (Tree B)). option_to_list (option_map (renamed f) (row_tree ts row)) ++ us) (rows-renamed ts rows) ∙ listed-renamed (row_tree ts row) (row_trees ts rows))

  phase-renamed : (phase : Bool) (found : Option (Tree A)) → option_map (by_phase phase) (option_map (renamed f) found) ≡ option_map (renamed f) (option_map (by_phase phase) found)
  phase-renamed phase None = refl
  phase-renamed true (Some t) = refl
  phase-renamed false (Some t) = ap (λ (u : Tree B). Some u) (complement-renamed t)

  pub table-renamed : (ts : List (Tree A)) (table : Table) → table_tree (map (renamed f) ts) table ≡ option_map (renamed f) (table_tree ts table)
  table-renamed ts table =
      ap (option_map (by_phase table.phase)) (ap (joined sum_of) (rows-renamed ts table.rows) ∙ joined-renamed sum_of sum_of sum-renamed (row_trees ts table.rows)) ∙ phase-renamed table.phase (joined sum_of (row_trees ts table.rows))
