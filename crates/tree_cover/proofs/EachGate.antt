-- The cells and the gates of a library, one by one.
use Rattle.std.proofs.Common.{◌≡◌, ℕ, zero, suc, ◌+◌, ◌<◌, ◌≤◌, ◌^◌, Bool, true, false, List, [], ◌∷◌, ◌++◌, length, take, get_or, refl, sym, ap, ◌∙◌, subst, ◌↔◌, arith}
use Rattle.std.specs.List.{AllByRecursion, Contains}
use Rattle.std.specs.declared.result.Result.TheVariants.{Ok}
use Rattle.std.proofs.lemmas.List.{take_more}
use Rattle.std.proofs.lemmas.Option.{same_Some, none-some}
use Rattle.subject_tree.specs.Trees.{Tree}
use Rattle.subject_tree.specs.Tables.{trees_of}
use Rattle.subject_tree.specs.declared.arena.Vertex.{Vertex}
use Rattle.genlib_expr.specs.Formula.{formula_of}
use Rattle.genlib_expr.specs.declared.node.Node.{Node}
use Rattle.genlib_format.specs.declared.gate.Gate.{Gate}
use Rattle.genlib_format.specs.Soundness.{IsSoundGate}
use Rattle.pattern_set.specs.declared.cells.Cell.{Cell}
use Rattle.pattern_set.specs.declared.cells.PatternGate.{PatternGate}
use Rattle.pattern_set.specs.Values.{HasPin, HasLeaf}
use Rattle.pattern_set.specs.Cells.{Lists, IsUsedPattern, AreGatesOf, lack_of, is_inverter, is_nand, has_some}
use Rattle.pattern_set.proofs.Pins.{pattern-pins}
use Rattle.tree_cover.specs.Covers.{Tile, tile_of, tiles}
use Rattle.tree_cover.specs.Candidates.{IsUsable, IsWellFormed, IsLibrary}
use Rattle.tree_cover.proofs.Choosing.{contains_get}
use Rattle.tree_cover.proofs.Open.{get_all}
use Rattle.tree_cover.specs.Written.{Describes}
use Rattle.tree_cover.specs.Listed.{IsCellOf, AreCellsOf, HavePatterns, function_in}
use Rattle.tree_cover.proofs.Mentioned.{pins_exact}
use Rattle.sis_base.specs.declared.limits.TheConstants.{MAX_PINS}

cells_push : (gates : List Gate) (cells : List Cell) (g : Gate) (c : Cell) → AreCellsOf gates cells → IsCellOf g c → AreCellsOf (gates ++ g ∷ []) (cells ++ c ∷ [])
cells_push [] [] g c are is = (is, tt)
cells_push [] (d ∷ cells) g c are is = absurd are
cells_push (h ∷ gates) [] g c are is = absurd are
cells_push (h ∷ gates) (d ∷ cells) g c are is = (are.0, cells_push gates cells g c are.1 is)

-- one cell more
pub cells_more : (gates : List Gate) (cells pushed : List Cell) (i : ℕ) (g : Gate) (c : Cell) → i < length gates → g ≡ get_or gates i g
    → AreCellsOf (take i gates) cells → IsCellOf g c → pushed ≡ cells ++ c ∷ [] → AreCellsOf (take (i + 1) gates) pushed
cells_more gates cells pushed i g c lt is are made pushes =
    subst (λ (cs : List Cell). AreCellsOf (take (i + 1) gates) cs) (sym pushes)
    (subst (λ (gs : List Gate). AreCellsOf gs (cells ++ c ∷ [])) (sym (take_more gates i g lt ∙ ap (λ (h : Gate). take i gates ++ h ∷ []) (sym is)))
    (cells_push (take i gates) cells g c are made))

-- the gates made of cells are those of the library
pub patterns_had : (vertices : List Vertex) (gates : List Gate) (cells : List Cell) (made : List PatternGate) → AreCellsOf gates cells → AreGatesOf vertices cells made → HavePatterns vertices gates made
patterns_had vertices [] [] [] cells_are gates_are = tt
patterns_had vertices [] [] (m ∷ made) cells_are gates_are = absurd gates_are
patterns_had vertices [] (c ∷ cells) made cells_are gates_are = absurd cells_are
patterns_had vertices (g ∷ gates) [] made cells_are gates_are = absurd cells_are
patterns_had vertices (g ∷ gates) (c ∷ cells) [] cells_are gates_are = absurd gates_are
patterns_had vertices (g ∷ gates) (c ∷ cells) (m ∷ made) cells_are gates_are = (
  record {
    area = gates_are.0.area ∙ cells_are.0.area;
    pins = gates_are.0.pins ∙ cells_are.0.pins;
    patterns = subst (λ (nodes : List Node). Lists vertices m.patterns (IsUsedPattern (formula_of nodes))) cells_are.0.expr gates_are.0.patterns;
  },
  patterns_had vertices gates cells made cells_are.1 gates_are.1,
)

area_fits : (area : ℕ) → area < 10 ^ 15 → area < 2 ^ 50
area_fits area lt = omega (arith, lt)

cell_formed : (gate : Gate) (cell : Cell) → IsCellOf gate cell → IsSoundGate gate → IsWellFormed cell
cell_formed gate cell is sound = record {
  area = subst (λ (k : ℕ). k < 2 ^ 50) (sym is.area) (area_fits gate.area.0 sound.area);
  few = subst (λ (k : ℕ). k ≤ MAX_PINS) (sym is.pins) sound.few;
  pins = λ pin. (
    λ h. subst (λ (k : ℕ). pin < k) (sym is.pins) ((pins_exact gate sound pin).0 (subst (λ (nodes : List Node). HasPin pin (formula_of nodes)) is.expr h)),
    λ lt. subst (λ (nodes : List Node). HasPin pin (formula_of nodes)) (sym is.expr) ((pins_exact gate sound pin).1 (subst (λ (k : ℕ). pin < k) is.pins lt)),
  );
}

-- the cells of sound gates are well-formed
pub cells_formed : (gates : List Gate) (cells : List Cell) → AreCellsOf gates cells → AllByRecursion IsSoundGate gates → AllByRecursion IsWellFormed cells
cells_formed [] [] are sound = tt
cells_formed [] (c ∷ cells) are sound = absurd are
cells_formed (g ∷ gates) [] are sound = absurd are
cells_formed (g ∷ gates) (c ∷ cells) are sound = (cell_formed g c are.0 sound.0, cells_formed gates cells are.1 sound.1)

leaves_exact : (ts : List (Tree ℕ)) (gate : Gate) (pins : ℕ) → pins ≡ length gate.pins → IsSoundGate gate → AllByRecursion (IsUsedPattern (formula_of gate.expr)) ts
    → AllByRecursion (λ (t : Tree ℕ). (pin : ℕ) → HasLeaf pin t ↔ (pin < pins)) ts
leaves_exact [] gate pins same sound all = tt
leaves_exact (t ∷ ts) gate pins same sound all = (
  λ pin. (
    λ h. subst (λ (k : ℕ). pin < k) (sym same) ((pins_exact gate sound pin).0 ((pattern-pins pin (formula_of gate.expr) t all.0.1).0 h)),
    λ lt. (pattern-pins pin (formula_of gate.expr) t all.0.1).1 ((pins_exact gate sound pin).1 (subst (λ (k : ℕ). pin < k) same lt)),
  ),
  leaves_exact ts gate pins same sound all.1,
)

-- the gates of sound gates can be taken
pub gates_usable : (vertices : List Vertex) (gates : List Gate) (made : List PatternGate) → HavePatterns vertices gates made → AllByRecursion IsSoundGate gates → AllByRecursion (IsUsable vertices) made
gates_usable vertices [] [] have sound = tt
gates_usable vertices [] (m ∷ made) have sound = absurd have
gates_usable vertices (g ∷ gates) [] have sound = absurd have
gates_usable vertices (g ∷ gates) (m ∷ made) have sound = (
  record {
    area = subst (λ (k : ℕ). k < 2 ^ 50) (sym have.0.area) (area_fits g.area.0 sound.0.area);
    few = subst (λ (k : ℕ). k ≤ MAX_PINS) (sym have.0.pins) sound.0.few;
    leaves = leaves_exact (trees_of vertices m.patterns) g m.pins have.0.pins sound.0 have.0.patterns.listed;
  },
  gates_usable vertices gates made have.1 sound.1,
)

-- what a library with no lack has
record HasBoth (inverter nand : Bool) : Type 0 where
  first : inverter ≡ true
  second : nand ≡ true

lacks_none : (inverter nand : Bool) → lack_of inverter nand ≡ Ok tt → HasBoth inverter nand
lacks_none false nand e = absurd (let off = e in cc)
lacks_none true false e = absurd (let off = e in cc)
lacks_none true true e = record { first = refl; second = refl }

pub covers_trees : (vertices : List Vertex) (gates : List Gate) (made : List PatternGate) → HavePatterns vertices gates made → AllByRecursion IsSoundGate gates
    → lack_of (has_some is_inverter vertices made) (has_some is_nand vertices made) ≡ Ok tt → IsLibrary vertices made
covers_trees vertices gates made have sound e =
    let both = lacks_none (has_some is_inverter vertices made) (has_some is_nand vertices made) e in
    record { usable = gates_usable vertices gates made have sound; inverter = both.first; nand = both.second }

-- the patterns of gates are patterns of their functions
pub patterns_described : (vertices : List Vertex) (gates : List Gate) (made : List PatternGate) → HavePatterns vertices gates made → Describes (function_in gates) (tiles vertices made)
patterns_described vertices gates [] have place tile pattern at listed = absurd (none-some tile at)
patterns_described vertices [] (m ∷ made) have place tile pattern at listed = absurd have
patterns_described vertices (g ∷ gates) (m ∷ made) have zero tile pattern at listed =
    let same : tile_of vertices m ≡ tile = same_Some (tile_of vertices m) tile at in
    let mine : Contains (trees_of vertices m.patterns) pattern = subst (λ (t : Tile). Contains t.patterns pattern) (sym same) listed in
    let (i, here) = contains_get pattern (trees_of vertices m.patterns) mine in
    (get_all (IsUsedPattern (formula_of g.expr)) (trees_of vertices m.patterns) i pattern have.0.patterns.listed here).1
patterns_described vertices (g ∷ gates) (m ∷ made) have (suc place) tile pattern at listed = patterns_described vertices gates made have.1 place tile pattern at listed
