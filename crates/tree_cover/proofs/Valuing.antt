-- Values of trees that patterns match, and least costs.
use Rattle.std.proofs.Common.{◌≡◌, ℕ, Bool, not, ◌&&◌, List, [], ◌∷◌, sym, ap, ◌∙◌, inl, inr, arith}
use Rattle.std.proofs.lemmas.Option.{get_or_from_slice_get}
use Rattle.std.proofs.Math.Bool.{and_comm}
use Rattle.subject_tree.specs.Trees.{Tree, Leaf, Inv, Nand, value_at}
use Rattle.subject_tree.specs.Arenas.{tree_in, nowhere}
use Rattle.genlib_expr.specs.Formula.{Formula}
use Rattle.genlib_expr.specs.Values.{formula_value}
use Rattle.pattern_set.specs.Patterns.{IsPattern}
use Rattle.pattern_set.proofs.Values.{pattern-value}
use Rattle.tree_cover.specs.Covers.{Tile, Matches, Least, LeastOfAll}

both_values : (a b c d : Bool) → a ≡ c → b ≡ d → not (a && b) ≡ not (c && d)
both_values a b c d p q = ap (λ (x : Bool). not (x && b)) p ∙ ap (λ (x : Bool). not (c && x)) q

matches-value : (value : ℕ → Bool) (p t : Tree ℕ) (bound : List (Tree ℕ)) → Matches p t bound → value_at (λ pin. value_at value (tree_in bound pin)) p ≡ value_at value t
unfolding Matches value_at
matches-value value (Leaf pin) t bound h = ap (value_at value) (get_or_from_slice_get bound pin t nowhere h)
matches-value value (Inv p) (Leaf place) bound h = elim h [ ]
matches-value value (Inv p) (Inv t) bound h = ap not (matches-value value p t bound h)
matches-value value (Inv p) (Nand t u) bound h = elim h [ ]
matches-value value (Nand p q) (Leaf place) bound h = elim h [ ]
matches-value value (Nand p q) (Inv t) bound h = elim h [ ]
matches-value value (Nand p q) (Nand t u) bound (inl h) = both_values _ _ _ _ (matches-value value p t bound h.0) (matches-value value q u bound h.1)
matches-value value (Nand p q) (Nand t u) bound (inr h) =
    both_values _ _ _ _ (matches-value value p u bound h.0) (matches-value value q t bound h.1)
    ∙ ap not (and_comm (value_at value u) (value_at value t))

pub gate-value : (value : ℕ → Bool) (e : Formula) (pattern t : Tree ℕ) (bound : List (Tree ℕ)) → IsPattern e pattern → Matches pattern t bound
    → formula_value (λ pin. value_at value (tree_in bound pin)) e ≡ value_at value t
gate-value value e pattern t bound is h = sym (pattern-value (λ pin. value_at value (tree_in bound pin)) is) ∙ matches-value value pattern t bound h

pub least-one : (library : List Tile) (t : Tree ℕ) (one other : ℕ) → Least library t one → Least library t other → one ≡ other
least-one library t one other a b = omega (arith, a.least other b.cover, b.least one a.cover)

pub leasts-one : (library : List Tile) (ts : List (Tree ℕ)) (one other : ℕ) → LeastOfAll library ts one → LeastOfAll library ts other → one ≡ other
unfolding LeastOfAll
leasts-one library [] one other a b = a ∙ sym b
leasts-one library (t ∷ ts) one other (f, r, first, rest, e) (g, s, second, more, h) =
    omega (arith, e, h, least-one library t f g first second, leasts-one library ts r s rest more)
