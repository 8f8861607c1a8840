-- Constants and pins among the nodes of a formula.
-- Source: the genlib format of SIS (UCB/ERL M92/41).
use Rattle.std.specs.Prelude.{Bool, true, false}
use Rattle.genlib_expr.specs.declared.node.Node.{Node}
use Rattle.genlib_expr.specs.declared.node.Node.TheVariants.{Constant, Pin, Not, And, Or}

abbrev pub is_constant_node : Node → Bool
is_constant_node (Constant bit) = true
is_constant_node (Pin place) = false
is_constant_node Not = false
is_constant_node And = false
is_constant_node Or = false

abbrev pub is_pin_node : Node → Bool
is_pin_node (Constant bit) = false
is_pin_node (Pin place) = true
is_pin_node Not = false
is_pin_node And = false
is_pin_node Or = false
