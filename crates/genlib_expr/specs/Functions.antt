-- The function of a formula over its pins. Source: the genlib format of SIS (UCB/ERL M92/41): a
-- gate's output is a Boolean function of its pins.
use Rattle.std.specs.Prelude.{ℕ, Bool, false, List, slice_index_or}
use Rattle.genlib_expr.specs.Formula.{Formula}
use Rattle.genlib_expr.specs.Values.{formula_value}

-- the bit of a pin at a point, which has one bit for each pin in order; a pin past the end has 0
abbrev pub bit_at : List Bool → ℕ → Bool
bit_at point place = slice_index_or point place false

-- the value of a formula at a point
unfoldable pub function_of : Formula → List Bool → Bool
function_of e point = formula_value (bit_at point) e
