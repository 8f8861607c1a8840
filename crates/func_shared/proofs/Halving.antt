-- The halves of the trees of numbers at a variable.
use Rattle.std.proofs.Common.{◌≡◌, ℕ, zero, suc, ◌<◌, ◌≤◌, List, refl, sym, ◌∙◌, subst, arith}
use Rattle.func_core.specs.Trees.{Tree, Zero, One, Node, IsReduced}
use Rattle.func_shared.specs.Vertices.{tree_at, IsNumber, IsTable}
use Rattle.func_shared.specs.Merging.{SplitsAt}
use Rattle.func_shared.specs.Answers.{IsOpened}
use Rattle.func_shared.specs.declared.vertex.Vertex.{Vertex}
use Rattle.func_shared.proofs.Merged.{splits_node, splits_whole, reduced_Zero, reduced_One, reduced_above}
use Rattle.func_shared.proofs.Numbered.{tree_at-zero, tree_at-one}

split_node : (place : ℕ) (t low high : Tree) → t ≡ Node place low high → IsReduced 0 t →
    SplitsAt place t low high
split_node place t low high e r =
    subst (λ (u : Tree). SplitsAt place u low high) (sym e)
    (splits_node 0 place low high (subst (λ (u : Tree). IsReduced 0 u) e r))

-- both halves of a tree at a variable above its top variable are the tree
split_above : (place other : ℕ) (t low high : Tree) → t ≡ Node other low high → place < other →
    IsReduced 0 t → SplitsAt place t t t
split_above place other t low high e below r =
    splits_whole place t
    (subst (λ (u : Tree). IsReduced (suc place) u) (sym e)
    (reduced_above (suc place) other low high below (subst (λ (u : Tree). IsReduced 0 u) e r)))

split_constant : (place : ℕ) (vs : List Vertex) (n : ℕ) → n < 2 →
    SplitsAt place (tree_at vs n) (tree_at vs n) (tree_at vs n)
split_constant place vs zero low =
    splits_whole place _
    (subst (λ (u : Tree). IsReduced (suc place) u) (sym (tree_at-zero vs)) (reduced_Zero (suc place)))
split_constant place vs (suc zero) low =
    splits_whole place _
    (subst (λ (u : Tree). IsReduced (suc place) u) (sym (tree_at-one vs)) (reduced_One (suc place)))
split_constant place vs (suc (suc n)) low = absurd (omega arith)

-- only a constant's number is below 2
node_number : (vs : List Vertex) (n place : ℕ) (low high : Tree) →
    tree_at vs n ≡ Node place low high → 2 ≤ n
node_number vs zero place low high e =
    let k : Zero ≡ Node place low high = sym (tree_at-zero vs) ∙ e in cc
node_number vs (suc zero) place low high e =
    let k : One ≡ Node place low high = sym (tree_at-one vs) ∙ e in cc
node_number vs (suc (suc n)) place low high e = omega arith

pub opened_vertex : (vs : List Vertex) (n : ℕ) (v : Vertex) → IsTable vs → IsNumber vs n →
    tree_at vs n ≡ Node v.place (tree_at vs v.low) (tree_at vs v.high) →
    (v.low < n) × (v.high < n) → IsOpened vs n v
opened_vertex vs n v table is e below = record {
  low = omega arith;
  high = omega arith;
  splits = split_node v.place _ _ _ e (table.reduced n);
  above = λ place higher. split_above place v.place _ _ _ e higher (table.reduced n);
  low_falls = omega arith;
  high_falls = omega arith;
  falls = λ h. below;
  last = λ h. absurd (omega (arith, node_number vs n _ _ _ e));
}

pub opened_constant : (vs : List Vertex) (n : ℕ) → IsTable vs → IsNumber vs n → n < 2 →
    IsOpened vs n (record { place = 4294967295; low = n; high = n })
opened_constant vs n table is constant = record {
  low = is;
  high = is;
  splits = split_constant 4294967295 vs n constant;
  above = λ place below. split_constant place vs n constant;
  low_falls = omega arith;
  high_falls = omega arith;
  falls = λ h. absurd (omega arith);
  last = λ h. refl;
}
