-- The formula of a gate's expression, and the order in which it is kept. Source: the genlib format
-- of SIS (UCB/ERL M92/41): a gate's output is a sum of products of its pins.
use Rattle.std.specs.Prelude.{◌≡◌, ℕ, Bool, false, List, [], ◌∷◌, ◌++◌}
use Rattle.std.specs.List.{fold}
use Rattle.genlib_expr.specs.declared.node.Node.{Node}
use Rattle.genlib_expr.specs.declared.node.Node.TheVariants.{Constant, Pin, Not, And, Or}

-- a formula over pins, which are given by their indices
pub data Formula : Type 0 where
  constant : Bool → Formula
  pin : ℕ → Formula
  complement : Formula → Formula
  product : Formula → Formula → Formula
  sum : Formula → Formula → Formula

-- postfix order: operands, then the operator
unfoldable pub postfix : Formula → List Node
postfix (constant bit) = Constant bit ∷ []
postfix (pin place) = Pin place ∷ []
postfix (complement e) = postfix e ++ Not ∷ []
postfix (product d e) = postfix d ++ postfix e ++ And ∷ []
postfix (sum d e) = postfix d ++ postfix e ++ Or ∷ []

-- the stack of formulas after one more node, the newest first
unfoldable pub built : List Formula → Node → List Formula
built fs (Constant bit) = constant bit ∷ fs
built fs (Pin place) = pin place ∷ fs
built (e ∷ fs) Not = complement e ∷ fs
built [] Not = []
built (e ∷ d ∷ fs) And = product d e ∷ fs
built (e ∷ []) And = []
built [] And = []
built (e ∷ d ∷ fs) Or = sum d e ∷ fs
built (e ∷ []) Or = []
built [] Or = []

-- the newest formula
abbrev pub newest : List Formula → Formula
newest [] = constant false
newest (e ∷ fs) = e

-- the formula whose nodes these are
unfoldable pub formula_of : List Node → Formula
formula_of nodes = newest (fold built [] nodes)

-- nodes are a formula's postfix order
abbrev pub ArePostfix : List Node → Type 0
ArePostfix nodes = nodes ≡ postfix (formula_of nodes)
