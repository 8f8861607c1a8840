-- The answers that equal numbers and constants determine.
use Rattle.std.proofs.Common.{◌≡◌, ℕ, List, refl, ap, sym, ◌∙◌, subst, arith}
use Rattle.func_core.specs.Trees.{Tree, Zero, One}
use Rattle.func_shared.specs.Vertices.{tree_at, Has, IsTable}
use Rattle.func_shared.specs.Merging.{merged}
use Rattle.func_shared.specs.Answers.{made}
use Rattle.func_core.specs.declared.operation.Operation.{Operation}
use Rattle.func_core.specs.declared.operation.Operation.TheVariants.{And, Or, Xor}
use Rattle.func_shared.specs.declared.vertex.Vertex.{Vertex}
use Rattle.func_shared.specs.declared.cache.Pair.{Pair}
use Rattle.func_shared.proofs.Merged.{merged_and_zero, merged_and_one, merged_or_zero, merged_or_one, merged_xor_zero, merged_and_same, merged_or_same, merged_xor_same}
use Rattle.func_shared.proofs.Numbered.{tree_at-zero, tree_at-one}

-- the answer of a pair, if what its numbers' trees give is known
same_first : (vs : List Vertex) (operation : Operation) (pair : Pair) (t : Tree) →
    pair.left ≡ pair.right →
    merged operation (tree_at vs pair.left) (tree_at vs pair.left) ≡ t → t ≡ made vs operation pair
same_first vs operation pair t e h =
    sym (subst (λ (n : ℕ). merged operation (tree_at vs pair.left) (tree_at vs n) ≡ t) e h)

first_is : (vs : List Vertex) (operation : Operation) (pair : Pair) (n : ℕ) (t u : Tree) →
    n ≡ pair.left → tree_at vs n ≡ t →
    merged operation t (tree_at vs pair.right) ≡ u → u ≡ made vs operation pair
first_is vs operation pair n t u e f h =
    sym h ∙ ap (λ (s : Tree). merged operation s (tree_at vs pair.right))
    (sym f ∙ ap (tree_at vs) e)

xor_same : (vs : List Vertex) (pair : Pair) → pair.left ≡ pair.right → IsTable vs →
    Has vs 0 (made vs Xor pair)
xor_same vs pair e table = (
  omega arith,
  tree_at-zero vs ∙ same_first vs Xor pair Zero e
      (merged_xor_same _ (table.reduced pair.left)),
)

pub same_xor : (vs : List Vertex) (operation : Operation) (pair : Pair) → pair.left ≡ pair.right →
    operation ≡ Xor →
    IsTable vs → Has vs 0 (made vs operation pair)
same_xor vs operation pair e is table = rw is (xor_same vs pair e table)

pub same_other : (vs : List Vertex) (operation : Operation) (pair : Pair) → pair.left ≡ pair.right →
    (operation ≡ Xor → ⊥) → IsTable vs → tree_at vs pair.left ≡ made vs operation pair
same_other vs And pair e other table = same_first vs And pair _ e
    (merged_and_same _ (table.reduced pair.left))
same_other vs Or pair e other table = same_first vs Or pair _ e
    (merged_or_same _ (table.reduced pair.left))
same_other vs Xor pair e other table = absurd (other refl)

zero_and : (vs : List Vertex) (pair : Pair) → 0 ≡ pair.left → IsTable vs →
    Has vs 0 (made vs And pair)
zero_and vs pair e table = (
  omega arith,
  tree_at-zero vs ∙ first_is vs And pair 0 Zero Zero e (tree_at-zero vs)
      (merged_and_zero _ (table.reduced pair.right)),
)

pub and_zero : (vs : List Vertex) (operation : Operation) (pair : Pair) → 0 ≡ pair.left →
    operation ≡ And →
    IsTable vs → Has vs 0 (made vs operation pair)
and_zero vs operation pair e is table = rw is (zero_and vs pair e table)

zero_or : (vs : List Vertex) (pair : Pair) → 0 ≡ pair.left → IsTable vs →
    tree_at vs pair.right ≡ made vs Or pair
zero_or vs pair e table = first_is vs Or pair 0 Zero _ e (tree_at-zero vs)
    (merged_or_zero _ (table.reduced pair.right))

pub or_zero : (vs : List Vertex) (operation : Operation) (pair : Pair) → 0 ≡ pair.left →
    operation ≡ Or →
    IsTable vs → tree_at vs pair.right ≡ made vs operation pair
or_zero vs operation pair e is table = rw is (zero_or vs pair e table)

zero_xor : (vs : List Vertex) (pair : Pair) → 0 ≡ pair.left → IsTable vs →
    tree_at vs pair.right ≡ made vs Xor pair
zero_xor vs pair e table = first_is vs Xor pair 0 Zero _ e (tree_at-zero vs)
    (merged_xor_zero _ (table.reduced pair.right))

pub xor_zero : (vs : List Vertex) (operation : Operation) (pair : Pair) → 0 ≡ pair.left →
    operation ≡ Xor →
    IsTable vs → tree_at vs pair.right ≡ made vs operation pair
xor_zero vs operation pair e is table = rw is (zero_xor vs pair e table)

one_and : (vs : List Vertex) (pair : Pair) → 1 ≡ pair.left → IsTable vs →
    tree_at vs pair.right ≡ made vs And pair
one_and vs pair e table = first_is vs And pair 1 One _ e (tree_at-one vs)
    (merged_and_one _ (table.reduced pair.right))

pub and_one : (vs : List Vertex) (operation : Operation) (pair : Pair) → 1 ≡ pair.left →
    operation ≡ And →
    IsTable vs → tree_at vs pair.right ≡ made vs operation pair
and_one vs operation pair e is table = rw is (one_and vs pair e table)

one_or : (vs : List Vertex) (pair : Pair) → 1 ≡ pair.left → IsTable vs → Has vs 1 (made vs Or pair)
one_or vs pair e table = (
  omega arith,
  tree_at-one vs ∙ first_is vs Or pair 1 One One e (tree_at-one vs)
      (merged_or_one _ (table.reduced pair.right)),
)

pub or_one : (vs : List Vertex) (operation : Operation) (pair : Pair) → 1 ≡ pair.left →
    operation ≡ Or →
    IsTable vs → Has vs 1 (made vs operation pair)
or_one vs operation pair e is table = rw is (one_or vs pair e table)
