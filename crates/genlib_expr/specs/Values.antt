-- The value of a formula. Source: the genlib format of SIS (UCB/ERL M92/41): `!` is the complement,
-- `*` the product, `+` the sum.
use Rattle.std.specs.Prelude.{ℕ, Bool, not, ◌&&◌, ◌||◌}
use Rattle.genlib_expr.specs.Formula.{Formula, constant, pin, complement, product, sum}

-- the value of a formula, given those of its pins
unfoldable pub formula_value : (ℕ → Bool) → Formula → Bool
formula_value value (constant bit) = bit
formula_value value (pin place) = value place
formula_value value (complement e) = not (formula_value value e)
formula_value value (product d e) = formula_value value d && formula_value value e
formula_value value (sum d e) = formula_value value d || formula_value value e
