-- The order of choices is a total one.
use Rattle.std.proofs.Common.{◌≡◌, ℕ, false, List, Less, Equal, Greater, refl, sym, ap, ◌∙◌}
use Rattle.std.specs.Ordering.{is_gt, ordering_reverse}
use Rattle.std.specs.Cmp.{IsTotalOrder, then_total, on_total, nat_cmp_total}
use Rattle.std.specs.Cmp.Lexicographic.{lists_total}
use Rattle.std.specs.declared.cmp.Ordering.{Ordering}
use Rattle.std.proofs.lemmas.Cmp.{upto}
use Rattle.std.proofs.lemmas.Bool.{false≢true}
use Rattle.subject_tree.specs.Trees.{Tree}
use Rattle.subject_tree.specs.Order.{tree_cmp, place_cmp}
use Rattle.subject_tree.specs.Tables.{trees_of}
use Rattle.subject_tree.specs.declared.arena.Vertex.{Vertex}
use Rattle.subject_tree.proofs.Comparing.{place_total, place_exact, tree_total}
use Rattle.tree_cover.specs.declared.choice.Choice.{Choice}
use Rattle.tree_cover.specs.Candidates.{order_of}
use Rattle.tree_cover.proofs.Bests.{IsOrder}

choices_total : (cmp : Tree ℕ → Tree ℕ → Ordering) (vs : List Vertex) → IsTotalOrder cmp → IsTotalOrder (order_of cmp vs)
choices_total cmp vs total =
    then_total (on_total (λ (c : Choice). c.cost) nat_cmp_total) (then_total (on_total (λ (c : Choice). c.place) nat_cmp_total) (on_total (λ (c : Choice). trees_of vs c.pins) (lists_total total)))

not_gt : (r : Ordering) → (r ≡ Greater → ⊥) → is_gt r ≡ false
not_gt Less h = refl
not_gt Equal h = refl
not_gt Greater h = absurd (h refl)

gt_not : (r : Ordering) → is_gt r ≡ false → r ≡ Greater → ⊥
gt_not Less e h = let x : ⊥ = cc in x
gt_not Equal e h = let x : ⊥ = cc in x
gt_not Greater e h = false≢true (sym e)

total_order : (order : Choice → Choice → Ordering) → IsTotalOrder order → IsOrder order
total_order order total = record {
  turned = λ x y p q. let e : Greater ≡ Less = sym p ∙ (total.antisymm x y ∙ ap ordering_reverse q) in let z : ⊥ = cc in z;
  chain = λ x y z p q. gt_not (order x z) (upto total x y z (not_gt (order x y) p) (not_gt (order y z) q));
}

pub choices_ordered : (names : List (List ℕ)) (vs : List Vertex) → IsOrder (order_of (tree_cmp (place_cmp names)) vs)
choices_ordered names vs =
    total_order (order_of (tree_cmp (place_cmp names)) vs) (choices_total (tree_cmp (place_cmp names)) vs (tree_total (place_cmp names) (place_total names) (place_exact names)))
