-- Which gates of a netlist belong to which tree, and that their areas sum to its figure. Source:
-- Keutzer, "DAGON: Technology binding and local optimization by DAG matching" (24th Design
-- Automation Conference, 1987): each tree is covered on its own, and its cover costs the areas of
-- its gates; the genlib format of SIS (UCB/ERL M92/41) for areas, here in millionths. That the
-- gates are in the order of the trees, the gate at the root last, is the project's own.
use Rattle.std.specs.Prelude.{◌≡◌, ℕ, ◌-◌, List, [], ◌∷◌, ◌++◌, length, sum_by, slice_index_or}
use Rattle.std.specs.Option.{option_map_or}
use Rattle.genlib_format.specs.Reader.{gate_named}
use Rattle.genlib_format.specs.declared.gate.Gate.{Gate}
use Rattle.netlist.specs.Netlists.{signals_of}
use Rattle.netlist.specs.declared.mapped.Placed.{Placed}
use Rattle.netlist.specs.declared.mapped.TreeFigure.{TreeFigure}

-- the area of a placed gate, in millionths; 0 if the library has no such cell
abbrev pub area_of : List Gate → Placed → ℕ
area_of library placed = option_map_or (λ (gate : Gate). gate.area.0)
    (gate_named library placed.cell) 0

-- the signal that a placed gate drives: the last one
abbrev pub driven_by : Placed → List ℕ
driven_by placed = slice_index_or (signals_of placed) (length placed.pins - 1) []

-- the gates of a tree: as many as it counts, their areas sum to its figure, and the last one drives
-- its root
pub record AreGatesOf (library : List Gate) (tree : TreeFigure) (gates : List Placed) : Type 0 where
  pub count : length gates ≡ tree.gates
  pub areas : sum_by (area_of library) gates ≡ tree.figure
  pub root : (before : List Placed) (last : Placed) → gates ≡ before ++ last ∷ []
      → driven_by last ≡ tree.name

-- gates are those of trees, tree after tree
unfoldable pub ArePartedBy : List Gate → List TreeFigure → List Placed → Type 0
ArePartedBy library [] gates = gates ≡ []
ArePartedBy library (tree ∷ trees) gates =
    (own : List Placed) × (others : List Placed) × (gates ≡ own ++ others)
    × AreGatesOf library tree own × ArePartedBy library trees others
