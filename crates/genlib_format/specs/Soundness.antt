-- When a library is sound. Source: the genlib format of SIS (UCB/ERL M92/41): a gate's pins are the
-- names of its expression, each pin has its delays, and a gate is known by its name. The limits are
-- the project's own.
use Rattle.std.specs.Prelude.{◌≡◌, ℕ, ◌<◌, ◌≤◌, ◌^◌, Bool, true, false, Some, List, [], ◌∷◌, length, map, slice_get, slice_index_or}
use Rattle.std.specs.List.{AllByRecursion}
use Rattle.circuit_model.specs.Names.{has, all_different}
use Rattle.circuit_tables.specs.Folding.{each_once}
use Rattle.genlib_expr.specs.Formula.{formula_of, ArePostfix}
use Rattle.genlib_expr.specs.declared.node.Node.{Node}
use Rattle.genlib_expr.specs.declared.node.Node.TheVariants.{Constant, Pin, Not, And, Or}
use Rattle.genlib_expr.specs.Functions.{function_of}
use Rattle.genlib_format.specs.declared.gate.Gate.{Gate}
use Rattle.genlib_format.specs.declared.gate.Block.{Block}
use Rattle.genlib_format.specs.Gates.{is_gate_name}
use Rattle.sis_base.specs.declared.limits.TheConstants.{MAX_NAME, MAX_PINS}

-- a name of the format, of at most `MAX_NAME` bytes
abbrev pub IsName : List ℕ → Type 0
IsName name = (is_gate_name name ≡ true) × (length name ≤ MAX_NAME)

-- the indices of pins among nodes, in order
unfoldable pub pin_places : List Node → List ℕ
pin_places [] = []
pin_places (Pin place ∷ nodes) = place ∷ pin_places nodes
pin_places (Constant bit ∷ nodes) = pin_places nodes
pin_places (Not ∷ nodes) = pin_places nodes
pin_places (And ∷ nodes) = pin_places nodes
pin_places (Or ∷ nodes) = pin_places nodes

-- the names in an expression over pins, as often and in the order in which it mentions them
abbrev pub mentions : List (List ℕ) → List Node → List (List ℕ)
mentions pins nodes = map (λ place. slice_index_or pins place []) (pin_places nodes)

-- delays below 10^15 millionths
abbrev pub IsShort : Block → Type 0
IsShort block = (block.rise.0 < 10 ^ 15) × (block.fall.0 < 10 ^ 15)

-- a gate by itself
pub record IsSoundGate (gate : Gate) : Type 0 where
  pub cell : IsName gate.cell
  pub output : IsName gate.output
  pub pins : AllByRecursion IsName gate.pins
  pub different : all_different gate.pins ≡ true
  pub few : length gate.pins ≤ MAX_PINS
  pub order : ArePostfix gate.expr
  pub mentioned : each_once (mentions gate.pins gate.expr) ≡ gate.pins
  pub inner : has gate.pins gate.output ≡ false
  pub delays : length gate.blocks ≡ length gate.pins
  pub area : gate.area.0 < 10 ^ 15
  pub short : AllByRecursion IsShort gate.blocks

-- two gates are one cell: they have the same output, pins, area, function and delays
pub record IsOneCell (gate other : Gate) : Type 0 where
  pub output : gate.output ≡ other.output
  pub pins : gate.pins ≡ other.pins
  pub area : gate.area ≡ other.area
  pub function : (point : List Bool) → length point ≡ length gate.pins → function_of (formula_of gate.expr) point ≡ function_of (formula_of other.expr) point
  pub delays : gate.blocks ≡ other.blocks

-- each gate is sound, and gates of one name are one cell
pub record IsSoundGates (gates : List Gate) : Type 0 where
  pub each : AllByRecursion IsSoundGate gates
  pub cells : (i j : ℕ) (gate other : Gate) → slice_get gates i ≡ Some gate → slice_get gates j ≡ Some other → gate.cell ≡ other.cell → IsOneCell gate other
