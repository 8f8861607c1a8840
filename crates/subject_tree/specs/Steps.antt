-- One step down two trees, from their roots to the first subtrees that differ.
-- Source: the lexicographic order of terms over ranked symbols (Baader and Nipkow, "Term Rewriting
-- and All That", 1998, chapter 5), on terms that are numbered vertices, where equal terms have one
-- number.
use Rattle.std.specs.Prelude.{ℕ, ◌==◌, if◌then◌else◌}
use Rattle.std.specs.declared.cmp.Ordering.{Ordering}
use Rattle.std.specs.declared.cmp.Ordering.TheVariants.{Less, Greater}
use Rattle.subject_tree.specs.declared.arena.Vertex.{Vertex}
use Rattle.subject_tree.specs.declared.arena.Vertex.TheVariants.{Leaf, Inv, Nand}
use Rattle.subject_tree.specs.declared.order.Next.{Next}
use Rattle.subject_tree.specs.declared.order.Next.TheVariants.{Done, Below}

-- what the roots of two different trees decide: how the trees compare, or which two trees below
-- compare as they do
abbrev pub next : (ℕ → ℕ → Ordering) → Vertex → Vertex → Next
next cmp (Leaf m) (Leaf n) = Done (cmp m n)
next cmp (Leaf m) (Inv n) = Done Less
next cmp (Leaf m) (Nand i n) = Done Less
next cmp (Inv m) (Leaf n) = Done Greater
next cmp (Inv m) (Inv n) = Below m n
next cmp (Inv m) (Nand i n) = Done Less
next cmp (Nand i m) (Leaf n) = Done Greater
next cmp (Nand i m) (Inv n) = Done Greater
next cmp (Nand i m) (Nand j n) = if i == j then Below m n else Below i j
