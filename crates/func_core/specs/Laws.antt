-- Laws of Boolean functions and their trees. Source: R. E. Bryant, "Graph-Based Algorithms for
-- Boolean Function Manipulation", IEEE Transactions on Computers C-35 (1986), whose theorem 1 is
-- that each function has one reduced tree.
use Rattle.std.specs.Prelude.{◌≡◌, ℕ, ◌≤◌, Bool, true, Some, None, List}
use Rattle.func_core.specs.Trees.{BooleanFunction, Tree, Zero, eval, IsReduced, IsTreeOf, complement}
use Rattle.func_core.specs.Sizes.{size}
use Rattle.func_core.specs.Points.{one_path, Follows, IsRising}
use Rattle.func_core.specs.Numbers.{IsBig}

-- functions that agree at each valuation have one tree
abbrev pub OneTree : Type 0
OneTree =
    (f g : BooleanFunction) (t u : Tree) → IsTreeOf f t → IsTreeOf g u →
    ((point : ℕ → Bool) → f point ≡ g point) → t ≡ u

-- a tree is that of each function that agrees at each valuation with one whose tree it is
abbrev pub TreeGoesByPoints : Type 0
TreeGoesByPoints =
    (f g : BooleanFunction) (t : Tree) → IsTreeOf f t → ((point : ℕ → Bool) → f point ≡ g point) →
    IsTreeOf g t

-- functions that agree at each valuation are too big for the same limits
abbrev pub BigGoesByPoints : Type 0
BigGoesByPoints =
    (limit : ℕ) (f g : BooleanFunction) → IsBig limit f → ((point : ℕ → Bool) → f point ≡ g point) →
    IsBig limit g

-- a function whose tree is within a limit is not too big for it
abbrev pub FittingIsNotBig : Type 0
FittingIsNotBig = (limit : ℕ) (f : BooleanFunction) (t : Tree) → IsTreeOf f t → size t ≤ limit → IsBig limit f → ⊥

-- the tree of a complement has the size of the function's tree
abbrev pub ComplementHasSize : Type 0
ComplementHasSize =
    (f : BooleanFunction) (t u : Tree) → IsTreeOf f t → IsTreeOf (complement f) u → size u ≡ size t

-- a function whose tree is not Zero is true somewhere
abbrev pub NonzeroIsTrueSomewhere : Type 0
NonzeroIsTrueSomewhere =
    (f : BooleanFunction) (t : Tree) → IsTreeOf f t → (t ≡ Zero → ⊥) → (point : ℕ → Bool) × (f point ≡ true)

-- only Zero has no path
abbrev pub NoPointIsZero : Type 0
NoPointIsZero = (t : Tree) → one_path t ≡ None → t ≡ Zero

-- a reduced tree is true at each valuation that follows its path
abbrev pub PointIsTrue : Type 0
PointIsTrue =
    (t : Tree) (literals : List (ℕ × Bool)) (point : ℕ → Bool) →
    IsReduced 0 t → one_path t ≡ Some literals → Follows point literals → eval t point ≡ true

-- no variable occurs twice on the path
abbrev pub PointRises : Type 0
PointRises =
    (t : Tree) (literals : List (ℕ × Bool)) → IsReduced 0 t → one_path t ≡ Some literals → IsRising 0 literals
