-- The netlist of a circuit by a library.
-- Source: Keutzer, "DAGON: Technology binding and local optimization by DAG matching" (24th Design
-- Automation Conference, 1987): the gates of the covers of all trees are the mapped network. How
-- inner signals are named, the order of the gates, and what is written as a table are the project's
-- own.
use Rattle.std.specs.Prelude.{◌≡◌, ℕ, ◌+◌, ◌<◌, ◌≤◌, true, Option, Some, None, Result, Ok, Err}
use Rattle.std.specs.Prelude.{List, [], ◌∷◌, ◌++◌, map, flat_map, length, sum_by, slice_get}
use Rattle.std.specs.Prelude.{slice_index_or}
use Rattle.circuit_model.specs.declared.circuit.Tri.TheVariants.{One}
use Rattle.circuit_model.specs.declared.circuit.Table.{Table}
use Rattle.circuit_model.specs.declared.circuit.Circuit.{Circuit}
use Rattle.circuit_laws.specs.Edits.{with_tables}
use Rattle.net_core.specs.Fresh.{used_names}
use Rattle.sis_base.specs.declared.limits.TheConstants.{MAX_NODES}
use Rattle.genlib_format.specs.declared.gate.Gate.{Gate}
use Rattle.subject_tree.specs.Trees.{Tree, Leaf, Inv, Nand}
use Rattle.subject_tree.specs.Order.{name_at}
use Rattle.subject_tree.specs.Forest.{fate_of}
use Rattle.subject_tree.specs.Roots.{tree_over, IsTooLarge}
use Rattle.subject_tree.specs.declared.forest.Root.{Root}
use Rattle.subject_tree.specs.declared.forest.ForestFault.{ForestFault}
use Rattle.subject_tree.specs.declared.forest.ForestFault.TheVariants.{TreeLimit as TooLarge}
use Rattle.subject_tree.specs.declared.forest.ForestFault.TheVariants.{Memory as NoMemory}
use Rattle.pattern_set.specs.declared.cells.PatternFault.{PatternFault}
use Rattle.pattern_set.specs.declared.cells.PatternFault.TheVariants.{NoInverter as LacksInverter}
use Rattle.pattern_set.specs.declared.cells.PatternFault.TheVariants.{NoNand as LacksNand}
use Rattle.subject_tree.specs.declared.judging.Role.{Role}
use Rattle.subject_tree.specs.declared.judging.Role.TheVariants.{Constant, Put, Unused}
use Rattle.subject_tree.specs.declared.judging.Role.TheVariants.{Root as RootFate}
use Rattle.tree_cover.specs.declared.writing.Signal.{Signal}
use Rattle.tree_cover.specs.declared.writing.Signal.TheVariants.{Leaf as AtLeaf, Gate as AtGate}
use Rattle.tree_cover.specs.declared.writing.CoverGate.{CoverGate}
use Rattle.netlist.specs.declared.mapped.Connection.{Connection}
use Rattle.netlist.specs.declared.mapped.Placed.{Placed}
use Rattle.netlist.specs.declared.mapped.TreeFigure.{TreeFigure}
use Rattle.netlist.specs.declared.mapped.Mapped.{Mapped}
use Rattle.map_net.specs.declared.covers.TreeCover.{TreeCover}
use Rattle.map_net.specs.declared.mapping.MapFault.{MapFault}
use Rattle.map_net.specs.declared.mapping.MapFault.TheVariants.{NoInverter, NoNand, TreeLimit}
use Rattle.map_net.specs.declared.mapping.MapFault.TheVariants.{NodeLimit, Memory}
use Rattle.map_net.specs.Covering.{Covering, IsCovering, HasInverter, HasNand}
use Rattle.map_net.specs.Naming.{AreNew}

-- a lack of the library as a reason against a netlist, and a fault of the forest as one
abbrev pub fault_of_patterns : PatternFault → MapFault
fault_of_patterns LacksInverter = NoInverter
fault_of_patterns LacksNand = NoNand

abbrev pub fault_of_forest : ForestFault → MapFault
fault_of_forest TooLarge = TreeLimit
fault_of_forest NoMemory = Memory

-- the buffer table from a signal to an output
abbrev pub buffer : List ℕ → List ℕ → Table
buffer signal output = record {
  inputs = signal ∷ [];
  output = output;
  rows = (One ∷ []) ∷ [];
  phase = true;
}

-- what is left of a table, by its fate and its tree: a constant table as it is, and a root whose
-- tree is a leaf as a buffer table from the leaf
abbrev pub left_by : Role → Option (Tree (List ℕ)) → Table → List Table
left_by Constant t table = table ∷ []
left_by Put t table = []
left_by Unused t table = []
left_by RootFate None table = []
left_by RootFate (Some (Leaf signal)) table = buffer signal table.output ∷ []
left_by RootFate (Some (Inv t)) table = []
left_by RootFate (Some (Nand t u)) table = []

-- the tables that no gates implement, in order
unfoldable pub tables_left : Circuit → (List ℕ → Tree (List ℕ)) → List Table
tables_left circuit tree =
    flat_map (λ (table : Table). left_by (fate_of circuit table) (tree_over tree table) table)
    circuit.tables

-- the name of a signal of a cover, where those of the leaves and of what the gates drive are given
abbrev pub name_of : List (List ℕ) → List (List ℕ) → Signal → List ℕ
name_of names driven (AtLeaf place) = name_at names place
name_of names driven (AtGate k) = slice_index_or driven k []

-- pins with their signals, in order
unfoldable pub connected : List (List ℕ) → List (List ℕ) → List Connection
connected [] signals = []
connected (pin ∷ pins) [] = []
connected (pin ∷ pins) (signal ∷ signals) = record { pin = pin; signal = signal } ∷ connected pins
    signals

-- a gate of the library with its pins at signals, in their order, which drives another signal
abbrev pub placed_as : Gate → List (List ℕ) → List ℕ → Placed
placed_as gate signals output = record {
  cell = gate.cell;
  pins = connected gate.pins signals ++ record { pin = gate.output; signal = output } ∷ [];
}

-- a gate of a cover is placed, driving a signal
abbrev pub IsPlacedAs : List Gate → (Signal → List ℕ) → CoverGate → List ℕ → Placed → Type 0
IsPlacedAs library named gate output placed =
    (cell : Gate) × (slice_get library gate.place ≡ Some cell)
    × (placed ≡ placed_as cell (map named gate.pins) output)

-- the gates of a cover are placed, each driving one of some signals, in order
unfoldable pub ArePlacedAs : List Gate → (Signal → List ℕ) → List CoverGate → List (List ℕ)
    → List Placed → Type 0
ArePlacedAs library named [] driven placed = (driven ≡ []) × (placed ≡ [])
ArePlacedAs library named (gate ∷ gates) driven placed =
    (output : List ℕ) × (outputs : List (List ℕ)) × (first : Placed) × (rest : List Placed)
    × (driven ≡ output ∷ outputs) × (placed ≡ first ∷ rest)
    × IsPlacedAs library named gate output first × ArePlacedAs library named gates outputs rest

-- what the gates of a cover drive: the last one the root, and those before it inner signals, in
-- order
abbrev pub driven_in : Signal → List (List ℕ) → List ℕ → List (List ℕ)
driven_in (AtLeaf place) inner root = inner
driven_in (AtGate k) inner root = inner ++ root ∷ []

-- the gates of a tree's cover are placed, over inner signals of those names
abbrev pub IsPlacedCover : List Gate → List (List ℕ) → List ℕ → TreeCover → List (List ℕ)
    → List Placed → Type 0
IsPlacedCover library names root cover inner placed =
    ArePlacedAs library (name_of names (driven_in cover.root inner root)) cover.gates
    (driven_in cover.root inner root) placed

-- the gates of all covers are placed, tree by tree, and inner signals have these names, in order
unfoldable pub ArePlaced : List Gate → List (List ℕ) → List Root → List TreeCover → List (List ℕ)
    → List Placed → Type 0
ArePlaced library names [] covers fresh placed = (covers ≡ []) × (fresh ≡ []) × (placed ≡ [])
ArePlaced library names (root ∷ roots) [] fresh placed = ⊥
ArePlaced library names (root ∷ roots) (cover ∷ covers) fresh placed =
    (inner : List (List ℕ)) × (others : List (List ℕ)) × (own : List Placed) × (rest : List Placed)
    × (fresh ≡ inner ++ others) × (placed ≡ own ++ rest)
    × IsPlacedCover library names root.name cover inner own
    × ArePlaced library names roots covers others rest

-- the figure of a tree: the name of its root, the cost of its cover, and the number of its gates
abbrev pub figure_of : Root → TreeCover → TreeFigure
figure_of root cover = record { name = root.name; figure = cover.cost; gates = length cover.gates }

-- the figures of trees, in order
unfoldable pub figures_of : List Root → List TreeCover → List TreeFigure
figures_of [] covers = []
figures_of (root ∷ roots) [] = []
figures_of (root ∷ roots) (cover ∷ covers) = figure_of root cover ∷ figures_of roots covers

-- the number of gates, tables and latches of the netlist of a covering, the tables of the
-- don't-care part included
abbrev pub node_count : Circuit → Covering → ℕ
node_count circuit covering =
    sum_by (λ (cover : TreeCover). length cover.gates) covering.covers + length
    (tables_left circuit covering.signal_tree)
    + length circuit.latches + length circuit.dont_care

-- a netlist is that of a circuit by a library: its gates are those of the covers that are taken of
-- the trees, and no others; its tables are those that no gates implement; all else is the
-- circuit's. New names occur nowhere in the circuit.
pub record IsMapped (circuit : Circuit) (library : List Gate) (mapped : Mapped) : Type 0 where
  pub covering : Covering
  pub covered : IsCovering circuit library covering
  pub few : node_count circuit covering ≤ MAX_NODES
  pub base : mapped.base ≡ with_tables circuit (tables_left circuit covering.signal_tree)
  pub fresh : List (List ℕ)
  pub new : AreNew (used_names circuit) fresh
  pub gates : ArePlaced library covering.names covering.roots covering.covers fresh mapped.gates
  pub figures : mapped.trees ≡ figures_of covering.roots covering.covers

-- some covering of a circuit by a library has too many gates, tables and latches
abbrev pub HasTooManyNodes : Circuit → List Gate → Type 0
HasTooManyNodes circuit library = (covering : Covering) × IsCovering circuit library covering
    × (MAX_NODES < node_count circuit covering)

-- what mapping a circuit by a library may answer: the first of the reasons against it, or its
-- netlist
abbrev pub Maps : Circuit → List Gate → Result Mapped MapFault → Type 0
Maps circuit library (Ok mapped) = HasInverter library × HasNand library
    × IsMapped circuit library mapped
Maps circuit library (Err NoInverter) = HasInverter library → ⊥
Maps circuit library (Err NoNand) = HasInverter library × (HasNand library → ⊥)
Maps circuit library (Err TreeLimit) = HasInverter library × HasNand library × IsTooLarge circuit
Maps circuit library (Err NodeLimit) = HasInverter library × HasNand library
    × HasTooManyNodes circuit library
Maps circuit library (Err Memory) = Unit {0}
