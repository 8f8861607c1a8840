-- The gates of well-formed cells can be taken.
use Rattle.std.proofs.Common.{◌≡◌, ℕ, ◌<◌, ◌≤◌, ◌^◌, List, [], ◌∷◌, sym, subst, ◌↔◌}
use Rattle.std.specs.List.{AllByRecursion}
use Rattle.subject_tree.specs.Trees.{Tree}
use Rattle.subject_tree.specs.Tables.{trees_of}
use Rattle.subject_tree.specs.declared.arena.Vertex.{Vertex}
use Rattle.genlib_expr.specs.Formula.{formula_of}
use Rattle.pattern_set.specs.Values.{HasLeaf}
use Rattle.pattern_set.specs.Cells.{IsUsedPattern, AreGatesOf}
use Rattle.pattern_set.specs.declared.cells.Cell.{Cell}
use Rattle.pattern_set.specs.declared.cells.PatternGate.{PatternGate}
use Rattle.pattern_set.proofs.Pins.{pattern-pins}
use Rattle.tree_cover.specs.Candidates.{IsUsable, IsWellFormed}
use Rattle.sis_base.specs.declared.limits.TheConstants.{MAX_PINS}

leaves_of_all : (ts : List (Tree ℕ)) (cell : Cell) (pins : ℕ) → pins ≡ cell.pins → IsWellFormed cell → AllByRecursion (IsUsedPattern (formula_of cell.expr.now)) ts
    → AllByRecursion (λ (t : Tree ℕ). (pin : ℕ) → HasLeaf pin t ↔ (pin < pins)) ts
leaves_of_all [] cell pins same well all = tt
leaves_of_all (t ∷ ts) cell pins same well all = (
  λ pin. (
    λ h. subst (λ (k : ℕ). pin < k) (sym same) ((well.pins pin).0 ((pattern-pins pin (formula_of cell.expr.now) t all.0.1).0 h)),
    λ lt. (pattern-pins pin (formula_of cell.expr.now) t all.0.1).1 ((well.pins pin).1 (subst (λ (k : ℕ). pin < k) same lt)),
  ),
  leaves_of_all ts cell pins same well all.1,
)

pub gates-usable : (vertices : List Vertex) (cells : List Cell) (gates : List PatternGate) → AreGatesOf vertices cells gates → AllByRecursion IsWellFormed cells → AllByRecursion (IsUsable vertices) gates
gates-usable vertices [] [] are well = tt
gates-usable vertices [] (g ∷ gates) are well = absurd are
gates-usable vertices (c ∷ cells) [] are well = absurd are
gates-usable vertices (c ∷ cells) (g ∷ gates) are well = (
  record {
    area = subst (λ (k : ℕ). k < 2 ^ 50) (sym are.0.area) well.0.area;
    few = subst (λ (k : ℕ). k ≤ MAX_PINS) (sym are.0.pins) well.0.few;
    leaves = leaves_of_all (trees_of vertices g.patterns) c g.pins are.0.pins well.0 are.0.patterns.listed;
  },
  gates-usable vertices cells gates are.1 well.1,
)
