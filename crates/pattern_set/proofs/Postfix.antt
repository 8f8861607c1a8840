-- What is gathered from nodes in postfix order is what is gathered of their formula.
use Rattle.std.proofs.Common.{◌≡◌, ℕ, List, [], ◌∷◌, fold, map, refl, ap, ◌∙◌}
use Rattle.subject_tree.specs.declared.arena.Vertex.{Vertex}
use Rattle.genlib_expr.specs.declared.node.Node.{Node}
use Rattle.genlib_expr.specs.declared.node.Node.TheVariants.{Constant, Pin, Not, And, Or}
use Rattle.genlib_expr.specs.Formula.{Formula, built, newest as newest_formula, formula_of}
use Rattle.pattern_set.specs.declared.gathering.Operands.{Operands}
use Rattle.pattern_set.specs.Numbers.{AreNumbers, gathered_at, GatherAll}
use Rattle.pattern_set.specs.Lists.{Gathered, settled, gathered_of, gathered_more, newest, patterns_of}

built_gathered : (fs : List Formula) (node : Node) → gathered_more (map gathered_of fs) node ≡ map gathered_of (built fs node)
unfolding gathered_more gathered_of built
built_gathered fs (Constant bit) = refl
built_gathered fs (Pin place) = refl
built_gathered [] Not = refl
built_gathered (e ∷ fs) Not = refl
built_gathered [] And = refl
built_gathered (e ∷ []) And = refl
built_gathered (e ∷ d ∷ fs) And = refl
built_gathered [] Or = refl
built_gathered (e ∷ []) Or = refl
built_gathered (e ∷ d ∷ fs) Or = refl

nodes_gathered : (nodes : List Node) (fs : List Formula) → fold gathered_more (map gathered_of fs) nodes ≡ map gathered_of (fold built fs nodes)
nodes_gathered [] fs = refl
nodes_gathered (node ∷ nodes) fs = ap (λ (gs : List Gathered). fold gathered_more gs nodes) (built_gathered fs node) ∙ nodes_gathered nodes (built fs node)

newest_gathered : (fs : List Formula) → newest (map gathered_of fs) ≡ gathered_of (newest_formula fs)
unfolding gathered_of
newest_gathered [] = refl
newest_gathered (e ∷ fs) = refl

pub patterns_of_nodes : (nodes : List Node) → settled (newest (fold gathered_more [] nodes)) ≡ patterns_of (formula_of nodes)
unfolding formula_of
patterns_of_nodes nodes =
    ap (λ (gs : List Gathered). settled (newest gs)) (nodes_gathered nodes []) ∙ ap settled (newest_gathered (fold built [] nodes))

-- the numbers of the patterns of the newest
pub newest_patterns : (old new : List Vertex) (expr nodes : List Node) (waiting : List Operands) (made : List ℕ) → nodes ≡ expr → GatherAll old waiting (fold gathered_more [] nodes)
    → AreNumbers new made (settled (newest (map (gathered_at old) waiting))) → AreNumbers new made (patterns_of (formula_of expr))
newest_patterns old new expr nodes waiting made same gathers are = (
  are.0,
  are.1 ∙ (ap (λ (gs : List Gathered). settled (newest gs)) gathers.1 ∙ (patterns_of_nodes nodes ∙ ap (λ (ns : List Node). patterns_of (formula_of ns)) same)),
)
