-- A point at which a function is true, as the literals on one path of its tree. Source: R. E.
-- Bryant, "Graph-Based Algorithms for Boolean Function Manipulation", IEEE Transactions on
-- Computers C-35 (1986), "satisfy-one".
use Rattle.std.specs.Prelude.{◌≡◌, ℕ, suc, ◌≤◌, Bool, true, false, Option, Some, None, List, [], ◌∷◌, if◌then◌else◌}
use Rattle.func_core.specs.Trees.{Tree, Zero, One, Node}

-- whether a tree is the constant false
abbrev pub is_constant_zero : Tree → Bool
is_constant_zero Zero = true
is_constant_zero One = false
is_constant_zero (Node place lo hi) = false

-- the literals on the path that takes the false half unless that is Zero
unfoldable pub path : Tree → List (ℕ × Bool)
path Zero = []
path One = []
path (Node place lo hi) = if is_constant_zero lo then (place, true) ∷ path hi else (place, false) ∷ path lo

-- that path, if the tree is not Zero
abbrev pub one_path : Tree → Option (List (ℕ × Bool))
one_path t = if is_constant_zero t then None else Some (path t)

-- a valuation has the bits of a list of literals
unfoldable pub Follows : (ℕ → Bool) → List (ℕ × Bool) → Type 0
Follows point [] = Unit {0}
Follows point (l ∷ ls) = (point l.0 ≡ l.1) × Follows point ls

-- the variables of the literals increase, from a least one
unfoldable pub IsRising : ℕ → List (ℕ × Bool) → Type 0
IsRising least [] = Unit {0}
IsRising least (l ∷ ls) = (least ≤ l.0) × IsRising (suc l.0) ls
