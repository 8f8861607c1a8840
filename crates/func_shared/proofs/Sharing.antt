-- Functions by numbers of one table: what a number means, and that each stays the same as the table
-- grows.
use Rattle.std.proofs.Common.{◌≡◌, ℕ, ◌+◌, ◌<◌, ◌≤◌, Bool, true, false, if◌then◌else◌, nat_eq, List, length, refl, ap, sym, ◌∙◌, subst, arith, eq-eqb}
use Rattle.std.specs.Prelude.{IsTrue, ◌↔◌}
use Rattle.std.proofs.lemmas.Bool.{eqb-true}
use Rattle.func_core.specs.Trees.{BooleanFunction, Tree, Zero, One, Node, eval, IsReduced, IsTreeOf, constant, variable, complement}
use Rattle.func_core.specs.Sizes.{size}
use Rattle.func_core.specs.Numbers.{Means, IsBig, Stays}
use Rattle.func_core.proofs.Meanings.{own-tree, complement-size}
use Rattle.func_core.proofs.Steps.{eval_variable, reduced_variable}
use Rattle.func_core.specs.declared.operation.Operation.{Operation}
use Rattle.func_core.specs.declared.operation.Operation.TheVariants.{Xor}
use Rattle.func_shared.specs.declared.vertex.Vertex.{Vertex}
use Rattle.func_shared.specs.declared.shared.SharedFunctions.{SharedFunctions}
use Rattle.func_shared.specs.Vertices.{tree_at, IsNumber, IsTable, Has, Grows}
use Rattle.func_core.specs.Operations.{bits}
use Rattle.func_shared.specs.Merging.{leaf, merged}
use Rattle.func_shared.specs.Shares.{shared_tree, shared_limit, SharedHolds, operated}
use Rattle.func_shared.proofs.Numbered.{tree_at-zero, tree_at-one}
use Rattle.func_shared.proofs.Growing.{kept}
use Rattle.func_shared.proofs.Merged.{merged_computes, merged_reduced, reduced_One}

-- the result of an operation on reduced trees is the tree of the operation on their functions
pub merged_tree : (operation : Operation) (t u : Tree) → IsReduced 0 t → IsReduced 0 u →
    IsTreeOf (λ point. bits operation (eval t point) (eval u point)) (merged operation t u)
merged_tree operation t u r s = record {
  reduced = merged_reduced operation 0 t u r s;
  computes = merged_computes operation t u;
}

-- a valid number of a table that grows denotes the same tree
pub shared_stays : (old new : SharedFunctions) (after : List Vertex) →
    new.nodes ≡ after → Grows old.nodes after →
    old.standing ≤ new.standing → new.limit ≡ old.limit →
    Stays SharedHolds shared_tree shared_limit old new
shared_stays old new after is grows stands same =
    stays (subst (λ (vs : List Vertex). Grows old.nodes vs) (sym is) grows)
  where
    stays : Grows old.nodes new.nodes → Stays SharedHolds shared_tree shared_limit old new
    stays grown = record {
      kept = λ n h.
          let below : n < old.standing = h.0 in
          let e : shared_tree new n ≡ shared_tree old n =
          (kept old.nodes new.nodes n grown (omega (arith, old.numbered))).1 in
          ((omega arith, subst (λ (t : Tree). IsReduced 0 t) (sym e) h.1), e);
      same = same;
    }

-- a number below the mark means what its tree computes
pub shared_means : (functions : SharedFunctions) (vertices : List Vertex) (n number : ℕ) (t : Tree)
    (f : BooleanFunction) →
    functions.nodes ≡ vertices → Has vertices number t → n ≡ number → number < functions.standing →
    IsTreeOf f t → Means SharedHolds shared_tree shared_limit functions n f
shared_means functions vertices n number t f same has e stands is =
    let here : tree_at functions.nodes n ≡ t =
    ap (tree_at functions.nodes) e ∙ ap (λ (vs : List Vertex). tree_at vs number) same ∙ has.1 in
    let own : IsTreeOf f (shared_tree functions n) =
    subst (λ (u : Tree). IsTreeOf f u) (sym here) is in
    record { stands = (omega arith, own.reduced); is_tree = own; fits = functions.fit n }

-- the operation on two functions
operation_tree : (old : SharedFunctions) (operation : Operation) (f g left right : ℕ) →
    SharedHolds old f → SharedHolds old g → left ≡ f → right ≡ g →
    IsTreeOf (operated old operation f g)
    (merged operation (tree_at old.nodes left) (tree_at old.nodes right))
operation_tree old operation f g left right h k p q =
    subst (λ (m : ℕ). IsTreeOf (operated old operation f g)
    (merged operation (tree_at old.nodes m) (tree_at old.nodes right))) (sym p)
    (subst (λ (m : ℕ). IsTreeOf (operated old operation f g)
    (merged operation (tree_at old.nodes f) (tree_at old.nodes m))) (sym q)
    (merged_tree operation (shared_tree old f) (shared_tree old g) h.1 k.1))

pub operation_means : (old new : SharedFunctions) (after : List Vertex) (operation : Operation)
    (f g left right n number : ℕ) →
    SharedHolds old f → SharedHolds old g → left ≡ f → right ≡ g →
    new.nodes ≡ after →
    Has after number (merged operation (tree_at old.nodes left) (tree_at old.nodes right)) →
    n ≡ number → number < new.standing →
    Means SharedHolds shared_tree shared_limit new n (operated old operation f g)
operation_means old new after operation f g left right n number h k p q same has e stands =
    shared_means new after n number
    (merged operation (tree_at old.nodes left) (tree_at old.nodes right))
    (operated old operation f g)
    same has e stands (operation_tree old operation f g left right h k p q)

pub operation_big : (old : SharedFunctions) (operation : Operation) (f g left right : ℕ) →
    SharedHolds old f → SharedHolds old g → left ≡ f → right ≡ g →
    old.limit < size (merged operation (tree_at old.nodes left) (tree_at old.nodes right)) →
    IsBig old.limit (operated old operation f g)
operation_big old operation f g left right h k p q above = record {
  tree = merged operation (tree_at old.nodes left) (tree_at old.nodes right);
  is_tree = operation_tree old operation f g left right h k p q;
  above = above;
}

-- the tree of a constant
pub constant_tree : (bit : Bool) → IsTreeOf (constant bit) (leaf bit)
unfolding eval IsReduced
constant_tree false = record { reduced = tt; computes = λ point. refl }
constant_tree true = record { reduced = tt; computes = λ point. refl }

pub constant_number : (vertices : List Vertex) (bit : Bool) →
    Has vertices (if bit then 1 else 0) (leaf bit)
constant_number vertices false = (omega arith, tree_at-zero vertices)
constant_number vertices true = (omega arith, tree_at-one vertices)

-- the tree of a variable
pub variable_tree : (place at : ℕ) → at ≡ place → IsTreeOf (variable place) (Node at Zero One)
variable_tree place at e = record {
  reduced = reduced_variable at Zero One refl refl;
  computes = λ point. eval_variable at Zero One point refl refl ∙ ap point e;
}

-- the tree of a complement, which fits if the function does
pub complement_tree : (old : SharedFunctions) (f right : ℕ) → SharedHolds old f → right ≡ f →
    IsTreeOf (complement (eval (shared_tree old f)))
    (merged Xor (tree_at old.nodes 1) (tree_at old.nodes right))
unfolding eval
complement_tree old f right h e =
    subst (λ (m : ℕ). IsTreeOf (complement (eval (shared_tree old f)))
    (merged Xor (tree_at old.nodes 1) (tree_at old.nodes m))) (sym e)
    (subst (λ (t : Tree). IsTreeOf (complement (eval (shared_tree old f)))
    (merged Xor t (shared_tree old f))) (sym (tree_at-one old.nodes))
    (record {
      reduced = merged_reduced Xor 0 One (shared_tree old f) (reduced_One 0) h.1;
      computes = merged_computes Xor One (shared_tree old f);
    }))

pub complement_fits : (old : SharedFunctions) (f right : ℕ) → SharedHolds old f → right ≡ f →
    old.limit < size (merged Xor (tree_at old.nodes 1) (tree_at old.nodes right)) → ⊥
complement_fits old f right h e above =
    let own : IsTreeOf (eval (shared_tree old f)) (shared_tree old f) =
    own-tree (shared_tree old f) h.1 in
    let same : size (merged Xor (tree_at old.nodes 1) (tree_at old.nodes right))
    ≡ size (shared_tree old f) =
    complement-size (eval (shared_tree old f)) (shared_tree old f) _ own
    (complement_tree old f right h e) in
    let fits : size (shared_tree old f) ≤ old.limit = old.fit f in
    omega arith

-- only the first number's tree is Zero
pub zero_number : (functions : SharedFunctions) (n : ℕ) →
    IsTable functions.nodes → SharedHolds functions n →
    IsTrue (nat_eq n 0) ↔ (shared_tree functions n ≡ Zero)
zero_number functions n table h = (
  λ e. ap (tree_at functions.nodes) (eqb-true n 0 e) ∙ tree_at-zero functions.nodes,
  λ e.
      let below : n < functions.standing = h.0 in
      let numbered : functions.standing ≤ 2 + length functions.nodes = functions.numbered in
      eq-eqb n 0 (table.one n 0 (omega arith) (omega arith)
      (e ∙ sym (tree_at-zero functions.nodes))),
)

-- a valid number is one of the table
pub standing_number : (functions : SharedFunctions) (n : ℕ) → SharedHolds functions n →
    IsNumber functions.nodes n
standing_number functions n h =
    let below : n < functions.standing = h.0 in
    let numbered : functions.standing ≤ 2 + length functions.nodes = functions.numbered in
    omega arith
