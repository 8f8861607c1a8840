-- How `SharedFunctions` stores its functions: as numbers of one table, of which those below a mark
-- are valid. Only private functions need these definitions: each clause of the trait and of the
-- laws is stated without them.
use Rattle.std.specs.Prelude.{ℕ, ◌<◌}
use Rattle.func_core.specs.Trees.{BooleanFunction, Tree, eval, IsReduced}
use Rattle.func_shared.specs.Vertices.{tree_at}
use Rattle.func_core.specs.Operations.{operation_on}
use Rattle.func_core.specs.declared.operation.Operation.{Operation}
use Rattle.func_shared.specs.declared.shared.SharedFunctions.{SharedFunctions}

-- the tree of a number
abbrev pub shared_tree : SharedFunctions → ℕ → Tree
shared_tree functions n = tree_at functions.nodes n

-- a number is valid: it is below the mark, and its tree is reduced
abbrev pub SharedHolds : SharedFunctions → ℕ → Type 0
SharedHolds functions n = (n < functions.standing) × IsReduced 0 (shared_tree functions n)

-- the limit that was given
abbrev pub shared_limit : SharedFunctions → ℕ
shared_limit functions = functions.limit

-- the operation on the functions of two numbers
abbrev pub operated : SharedFunctions → Operation → ℕ → ℕ → BooleanFunction
operated functions operation f g =
    operation_on operation (eval (shared_tree functions f)) (eval (shared_tree functions g))
