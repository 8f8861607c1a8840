-- The forest of a circuit: its roots, their trees, and how large they are together.
-- Source: Keutzer, "DAGON: Technology binding and local optimization by DAG matching" (24th Design
-- Automation Conference, 1987): a network as a forest, each tree covered on its own. That a tree is
-- counted each time it occurs, though equal trees are kept once, is the project's own.
use Rattle.std.specs.Prelude.{◌≡◌, ℕ, ◌<◌, ◌≤◌, Bool, true, false, Option, Some, None, List, map, filter, length, sum_by}
use Rattle.std.specs.List.{AllByRecursion}
use Rattle.circuit_model.specs.Soundness.{outputs_of}
use Rattle.circuit_model.specs.declared.circuit.Table.{Table}
use Rattle.circuit_model.specs.declared.circuit.Circuit.{Circuit}
use Rattle.subject_tree.specs.Trees.{Tree, size_of, renamed}
use Rattle.subject_tree.specs.Order.{name_at, KeepsNames}
use Rattle.subject_tree.specs.Arenas.{tree_at}
use Rattle.subject_tree.specs.Tables.{table_tree}
use Rattle.subject_tree.specs.Forest.{fate_of, AreTrees}
use Rattle.subject_tree.specs.declared.arena.Vertex.{Vertex}
use Rattle.subject_tree.specs.declared.forest.Root.{Root}
use Rattle.subject_tree.specs.declared.judging.Role.{Role}
use Rattle.subject_tree.specs.declared.judging.Role.TheVariants.{Constant, Put, Unused, Root as RootFate}
use Rattle.sis_base.specs.declared.limits.TheConstants.{MAX_VERTICES}

-- whether a table of this fate is the root of a tree of its own
abbrev pub is_root_fate : Role → Bool
is_root_fate Constant = false
is_root_fate Put = false
is_root_fate Unused = false
is_root_fate RootFate = true

-- the tables that are roots, in their order
abbrev pub roots_of : Circuit → List Table
roots_of circuit = filter (λ (table : Table). is_root_fate (fate_of circuit table)) circuit.tables

-- the tree of a table over the trees of signals
abbrev pub tree_over : (List ℕ → Tree (List ℕ)) → Table → Option (Tree (List ℕ))
tree_over tree table = table_tree (map tree table.inputs) table

-- the size of a tree; 0 if there is none
abbrev pub size_if : {A : Type 0} → Option (Tree A) → ℕ
size_if None = 0
size_if (Some t) = size_of t

-- the number of vertices of the trees of all roots, a tree counted each time it occurs
abbrev pub forest_size : Circuit → (List ℕ → Tree (List ℕ)) → ℕ
forest_size circuit tree = sum_by (λ (table : Table). size_if (tree_over tree table)) (roots_of circuit)

-- the tree of a root by the names of its leaves
abbrev pub named_tree : List Vertex → List (List ℕ) → Root → Tree (List ℕ)
named_tree vertices names root = renamed (name_at names) (tree_at vertices root.number)

-- roots match tables: each has its table's name, a number that is taken, and the table's tree over
-- the trees of signals, whatever names are added to those that there are
pub record AreRoots (vertices : List Vertex) (names : List (List ℕ)) (tree : List ℕ → Tree (List ℕ)) (tables : List Table) (roots : List Root) : Type 0 where
  pub named : map (λ (root : Root). root.name) roots ≡ outputs_of tables
  pub taken : AllByRecursion (λ (root : Root). root.number < length vertices) roots
  pub trees : (more : List (List ℕ)) → KeepsNames names more → map (λ (root : Root). Some (named_tree vertices more root)) roots ≡ map (tree_over tree) tables

-- over the trees of signals, the roots match the tables that are roots, and are not too large
-- together
abbrev pub IsForest : Circuit → List Vertex → List (List ℕ) → List Root → Type 0
IsForest circuit vertices names roots =
    (tree : List ℕ → Tree (List ℕ)) × AreTrees circuit tree × AreRoots vertices names tree (roots_of circuit) roots × (forest_size circuit tree ≤ MAX_VERTICES)

-- over the trees of signals, the trees of all roots are too large together
abbrev pub IsTooLarge : Circuit → Type 0
IsTooLarge circuit = (tree : List ℕ → Tree (List ℕ)) × AreTrees circuit tree × (MAX_VERTICES < forest_size circuit tree)
