-- The trees of numbers that are indices in a list of trees.
use Rattle.std.proofs.Common.{◌≡◌, ℕ, Bool, not, get_or, ap, sym, ◌∙◌, subst}
use Rattle.std.proofs.lemmas.List.{get_or-map}
use Rattle.func_core.specs.Trees.{Tree, Zero, eval, IsReduced, IsTreeOf, complement}
use Rattle.func_core.specs.PlainTrees.{shape, plain_tree, PlainHolds}
use Rattle.func_core.specs.declared.diagram.Diagram.{Diagram}
use Rattle.func_core.specs.declared.plain.PlainFunctions.{PlainFunctions}

-- the tree of a number is the one at its index
pub plain_tree-shape : (functions : PlainFunctions) (n : ℕ) (d : Diagram) → PlainHolds functions n →
    d ≡ get_or functions.diagrams.items n d → plain_tree functions n ≡ shape d
plain_tree-shape functions n d s e = get_or-map shape functions.diagrams.items n d Zero s.0 ∙ ap shape (sym e)

pub reduced-at : (functions : PlainFunctions) (n : ℕ) (d : Diagram) → PlainHolds functions n →
    d ≡ get_or functions.diagrams.items n d → IsReduced 0 (shape d)
reduced-at functions n d s e = subst (λ (t : Tree). IsReduced 0 t) (plain_tree-shape functions n d s e) s.1

-- what is made for the complement of a number's function is its tree
pub complement-made : (functions : PlainFunctions) (n : ℕ) (d : Diagram) (made : Tree) → PlainHolds functions n →
    d ≡ get_or functions.diagrams.items n d → ((point : ℕ → Bool) → eval made point ≡ not (eval (shape d) point)) →
    ((least : ℕ) → IsReduced least (shape d) → IsReduced least made) →
    IsTreeOf (complement (eval (plain_tree functions n))) made
complement-made functions n d made s e computes reduced = record {
  reduced = reduced 0 (reduced-at functions n d s e);
  computes = λ point. computes point ∙ ap (λ (t : Tree). not (eval t point)) (sym (plain_tree-shape functions n d s e));
}
