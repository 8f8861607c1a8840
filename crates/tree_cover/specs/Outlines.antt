-- Outlines: patterns whose pins are not distinguished, and where they fit.
-- Source: Hoffmann, O'Donnell, "Pattern matching in trees" (Journal of the ACM 29, 1982): what
-- patterns have in common is looked for once.
use Rattle.std.specs.Prelude.{◌≡◌, ℕ, ◌<◌, Bool, true, false, ◌&&◌, ◌||◌, Some, List, length, slice_get}
use Rattle.subject_tree.specs.Trees.{Tree, Leaf, Inv, Nand}
use Rattle.subject_tree.specs.Arenas.{tree_at}
use Rattle.subject_tree.specs.declared.arena.Vertex.{Vertex}

-- whether a pattern fits a tree, with any tree at each of its leaves; the two sides of a NAND may
-- be swapped
unfoldable pub fits : Tree ℕ → Tree ℕ → Bool
fits (Leaf pin) t = true
fits (Inv p) (Leaf place) = false
fits (Inv p) (Inv t) = fits p t
fits (Inv p) (Nand t u) = false
fits (Nand p q) (Leaf place) = false
fits (Nand p q) (Inv t) = false
fits (Nand p q) (Nand t u) = (fits p t && fits q u) || (fits p u && fits q t)

-- the tree of a number fits exactly where a pattern does
abbrev pub IsOutline : List Vertex → Tree ℕ → ℕ → Type 0
IsOutline outlines pattern o = (o < length outlines) × ((t : Tree ℕ) → fits (tree_at outlines o) t ≡ fits pattern t)

-- patterns have these outlines, in order
abbrev pub AreOutlines : List Vertex → List Vertex → List ℕ → Type 0
AreOutlines outlines shapes numbers = (pattern o : ℕ) → slice_get numbers pattern ≡ Some o → IsOutline outlines (tree_at shapes pattern) o

-- marks say of outlines, in order, whether they fit the tree of a number
abbrev pub AreMarks : List Vertex → List Vertex → ℕ → List Bool → Type 0
AreMarks outlines vertices n marks = (o : ℕ) (mark : Bool) → slice_get marks o ≡ Some mark → mark ≡ fits (tree_at outlines o) (tree_at vertices n)

-- no pattern fits the tree of a number whose outline is marked as a misfit
abbrev pub TellMisfits : List Vertex → List Vertex → ℕ → List ℕ → List Bool → Type 0
TellMisfits shapes vertices n numbers marks =
    (pattern o : ℕ) → slice_get numbers pattern ≡ Some o → slice_get marks o ≡ Some false → fits (tree_at shapes pattern) (tree_at vertices n) ≡ false
