-- A circuit's forest with the cover that is taken of each tree.
-- Source: Keutzer, "DAGON: Technology binding and local optimization by DAG matching" (24th Design
-- Automation Conference, 1987): a network is cut into trees, each of which is covered on its own by
-- patterns of the library's gates.
use Rattle.std.specs.Prelude.{◌≡◌, ℕ, ◌≤◌, true, Bool, List, [], ◌∷◌, sum_by}
use Rattle.std.specs.List.{Contains}
use Rattle.circuit_model.specs.Names.{all_different}
use Rattle.circuit_model.specs.declared.circuit.Circuit.{Circuit}
use Rattle.subject_tree.specs.Trees.{Tree}
use Rattle.subject_tree.specs.Order.{tree_cmp, place_cmp}
use Rattle.subject_tree.specs.Arenas.{tree_at}
use Rattle.subject_tree.specs.Forest.{AreTrees}
use Rattle.subject_tree.specs.Roots.{roots_of, AreRoots, forest_size}
use Rattle.subject_tree.specs.declared.arena.Vertex.{Vertex}
use Rattle.subject_tree.specs.declared.forest.Root.{Root}
use Rattle.sis_base.specs.declared.limits.TheConstants.{MAX_VERTICES}
use Rattle.genlib_expr.specs.Formula.{formula_of}
use Rattle.genlib_format.specs.declared.gate.Gate.{Gate}
use Rattle.pattern_set.specs.Cells.{IsUsedPattern, is_inverter, is_nand}
use Rattle.pattern_set.specs.declared.cells.PatternGate.{PatternGate}
use Rattle.tree_cover.specs.Covers.{Tile, tiles, Least}
use Rattle.tree_cover.specs.Written.{IsWritten, area_at}
use Rattle.tree_cover.specs.declared.writing.CoverGate.{CoverGate}
use Rattle.tree_cover.specs.Listed.{HavePatterns}
use Rattle.map_net.specs.declared.covers.TreeCover.{TreeCover}

-- trees, the names of the signals at their leaves, the roots that they belong to, patterns, and a
-- cover for each root
pub record Covering : Type 0 where
  pub signal_tree : List ℕ → Tree (List ℕ)
  pub vertices : List Vertex
  pub names : List (List ℕ)
  pub roots : List Root
  pub shapes : List Vertex
  pub gates : List PatternGate
  pub covers : List TreeCover

-- the gates of the library, by the patterns that there are
abbrev pub tiles_of : Covering → List Tile
tiles_of covering = tiles covering.shapes covering.gates

-- the tree of a root
abbrev pub tree_of : Covering → Root → Tree ℕ
tree_of covering root = tree_at covering.vertices root.number

-- the cover that is taken of a tree: its gates, in the order in which they are written; their areas
-- have its cost as their sum, and no cover of the tree costs less
pub record IsTaken (covering : Covering) (t : Tree ℕ) (cover : TreeCover) : Type 0 where
  pub written : IsWritten (tree_cmp (place_cmp covering.names)) (tiles_of covering) t 0 cover.root
      cover.gates
  pub areas : sum_by (λ (gate : CoverGate). area_at (tiles_of covering) gate.place) cover.gates ≡
      cover.cost
  pub least : Least (tiles_of covering) t cover.cost

-- there is one cover for each root: the one that is taken of its tree
unfoldable pub AreTaken : Covering → List Root → List TreeCover → Type 0
AreTaken covering [] covers = covers ≡ []
AreTaken covering (root ∷ roots) [] = ⊥
AreTaken covering (root ∷ roots) (cover ∷ covers) = IsTaken covering (tree_of covering root) cover
    × AreTaken covering roots covers

-- a covering is that of a circuit by a library: its trees are those of the circuit's roots, no two
-- of their leaves have one name, all are together no larger than a forest may be, the patterns are
-- those of the library, and each tree has the cover that is taken of it
pub record IsCovering (circuit : Circuit) (library : List Gate) (covering : Covering) : Type 0 where
  pub signals : AreTrees circuit covering.signal_tree
  pub roots : AreRoots covering.vertices covering.names covering.signal_tree (roots_of circuit)
      covering.roots
  pub small : forest_size circuit covering.signal_tree ≤ MAX_VERTICES
  pub once : all_different covering.names ≡ true
  pub patterns : HavePatterns covering.shapes library covering.gates
  pub covers : AreTaken covering covering.roots covering.covers

-- some gate that is used has a pattern that passes a test
abbrev pub HasPattern : (Tree ℕ → Bool) → List Gate → Type 0
HasPattern test library =
    (gate : Gate) × Contains library gate × (t : Tree ℕ) × IsUsedPattern (formula_of gate.expr) t
    × (test t ≡ true)

abbrev pub HasInverter : List Gate → Type 0
HasInverter library = HasPattern is_inverter library

abbrev pub HasNand : List Gate → Type 0
HasNand library = HasPattern is_nand library
