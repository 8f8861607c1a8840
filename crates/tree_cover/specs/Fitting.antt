-- A quick test whether a pattern may match a tree: their top two levels fit. No public clause needs
-- these definitions.
-- Source: Keutzer, "DAGON: Technology binding and local optimization by DAG matching" (24th Design
-- Automation Conference, 1987): patterns are distinguished by the operators at their roots first.
use Rattle.std.specs.Prelude.{ℕ, Bool, true, false, ◌&&◌, ◌||◌}
use Rattle.subject_tree.specs.Trees.{Tree, Leaf, Inv, Nand}

-- whether a tree is an inverter, and whether it is a NAND
abbrev pub has_inverter : Tree ℕ → Bool
has_inverter (Leaf place) = false
has_inverter (Inv t) = true
has_inverter (Nand t u) = false

abbrev pub has_nand : Tree ℕ → Bool
has_nand (Leaf place) = false
has_nand (Inv t) = false
has_nand (Nand t u) = true

-- whether the roots fit: a pin fits any tree
abbrev pub fits_root : Tree ℕ → Tree ℕ → Bool
fits_root (Leaf pin) t = true
fits_root (Inv p) t = has_inverter t
fits_root (Nand p q) t = has_nand t

-- whether the roots, and those below them, fit; no pattern that is a single pin does
abbrev pub may_fit : Tree ℕ → Tree ℕ → Bool
may_fit (Leaf pin) t = false
may_fit (Inv p) (Leaf place) = false
may_fit (Inv p) (Inv t) = fits_root p t
may_fit (Inv p) (Nand t u) = false
may_fit (Nand p q) (Leaf place) = false
may_fit (Nand p q) (Inv t) = false
may_fit (Nand p q) (Nand t u) = (fits_root p t && fits_root q u) || (fits_root p u && fits_root q t)
