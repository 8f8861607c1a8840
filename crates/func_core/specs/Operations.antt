-- Operations on two bits, and on two functions at each valuation.
use Rattle.std.specs.Prelude.{Bool, ◌&&◌, ◌||◌}
use Rattle.func_core.specs.Trees.{BooleanFunction, differ}
use Rattle.func_core.specs.declared.operation.Operation.{Operation}
use Rattle.func_core.specs.declared.operation.Operation.TheVariants.{And, Or, Xor}

-- the result of an operation on two bits
abbrev pub bits : Operation → Bool → Bool → Bool
bits And = ◌&&◌
bits Or = ◌||◌
bits Xor = differ

-- an operation on two functions
abbrev pub operation_on : Operation → BooleanFunction → BooleanFunction → BooleanFunction
operation_on operation f g = λ point. bits operation (f point) (g point)
