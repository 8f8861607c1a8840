-- Functions by their numbers: the bits that they have at a valuation.
-- Source: R. E. Bryant, "Graph-Based Algorithms for Boolean Function Manipulation", IEEE
-- Transactions on Computers C-35 (1986).
use Rattle.std.specs.Prelude.{ℕ, Bool, List, map}
use Rattle.std.specs.List.{AllByRecursion}
use Rattle.func_core.specs.Trees.{BooleanFunction, Tree, eval}
use Rattle.func_core.specs.declared.functions.Func.{Func}

-- the function of a number
abbrev pub computed : {S : Type 0} → (S → ℕ → Tree) → S → Func → BooleanFunction
computed tree state number = eval (tree state number.0)

-- the bits of some functions at a valuation
abbrev pub bits_of : {S : Type 0} → (S → ℕ → Tree) → S → List Func → (ℕ → Bool) → List Bool
bits_of tree state numbers point = map (λ number. computed tree state number point) numbers

-- all numbers are valid
abbrev pub AllStand : {S : Type 0} → (S → ℕ → Type 0) → S → List Func → Type 0
AllStand holds state numbers = AllByRecursion (λ (number : Func). holds state number.0) numbers
