-- How an expression is read from the left with a stack of pending operators (Dijkstra's shunting
-- yard). Private functions promise these steps, and the public ones the grammar.
use Rattle.std.specs.Prelude.{Bool, true, false, if◌then◌else◌, Option, Some, None, List, [], ◌∷◌, ◌++◌}
use Rattle.std.specs.Option.{option_map_or}
use Rattle.genlib_expr.specs.declared.token.Token.{Token}
use Rattle.genlib_expr.specs.declared.token.Token.TheVariants as token
use Rattle.genlib_expr.specs.declared.node.Node.{Node}
use Rattle.genlib_expr.specs.declared.node.Node.TheVariants as node
use Rattle.genlib_expr.specs.declared.reading.Operator.{Operator}
use Rattle.genlib_expr.specs.declared.reading.Operator.TheVariants.{Invert, Multiply, Add, Parenthesis}

-- the nodes so far, the pending operators, newest first, and whether an operand has just been read
pub record State : Type 0 where
  pub nodes : List Node
  pub waiting : List Operator
  pub ready : Bool

-- which operator is pending, the newest
abbrev pub waits_to_invert : List Operator → Bool
waits_to_invert (Invert ∷ waiting) = true
waits_to_invert waiting = false

abbrev pub waits_to_multiply : List Operator → Bool
waits_to_multiply (Multiply ∷ waiting) = true
waits_to_multiply waiting = false

abbrev pub waits_to_add : List Operator → Bool
waits_to_add (Add ∷ waiting) = true
waits_to_add waiting = false

abbrev pub waits_to_close : List Operator → Bool
waits_to_close (Parenthesis ∷ waiting) = true
waits_to_close waiting = false

-- after an operand: each pending `!` is applied
unfoldable pub inverted : List Node → List Operator → State
inverted nodes (Invert ∷ waiting) = inverted (nodes ++ node.Not ∷ []) waiting
inverted nodes waiting = record { nodes = nodes; waiting = waiting; ready = true }

-- after a factor: a pending product is applied
unfoldable pub multiplied : List Node → List Operator → State
multiplied nodes (Multiply ∷ waiting) = record { nodes = nodes ++ node.And ∷ []; waiting = waiting; ready = true }
multiplied nodes waiting = record { nodes = nodes; waiting = waiting; ready = true }

-- after a product: a pending sum is applied
unfoldable pub added : List Node → List Operator → State
added nodes (Add ∷ waiting) = record { nodes = nodes ++ node.Or ∷ []; waiting = waiting; ready = true }
added nodes waiting = record { nodes = nodes; waiting = waiting; ready = true }

-- a factor has ended
abbrev pub factor_ended : State → State
factor_ended state = multiplied state.nodes state.waiting

-- a sum has ended
abbrev pub sum_ended : State → State
sum_ended state = added (factor_ended state).nodes (factor_ended state).waiting

-- an operator waits for an operand
abbrev pub awaiting : State → Operator → State
awaiting state operator = record { nodes = state.nodes; waiting = operator ∷ state.waiting; ready = false }

-- an operand has been read
abbrev pub with_operand : State → Node → State
with_operand state operand = inverted (state.nodes ++ operand ∷ []) state.waiting

-- a token where an operand is to come; none if it is not allowed there
unfoldable pub begin : Token → State → Option State
begin (token.Constant bit) state = Some (with_operand state (node.Constant bit))
begin (token.Name place) state = Some (with_operand state (node.Pin place))
begin token.Bang state = Some (awaiting state Invert)
begin token.Open state = Some (awaiting state Parenthesis)
begin token.Quote state = None
begin token.Star state = None
begin token.Plus state = None
begin token.Close state = None
begin token.Other state = None

-- a parenthesis is closed; none if none is open
unfoldable pub closed : List Node → List Operator → Option State
closed nodes (Parenthesis ∷ waiting) = Some (inverted nodes waiting)
closed nodes waiting = None

-- a token after an operand: what may begin an operand begins a factor next to the previous one
unfoldable pub follow : Token → State → Option State
follow token.Quote state = Some (record { nodes = state.nodes ++ node.Not ∷ []; waiting = state.waiting; ready = true })
follow token.Star state = Some (awaiting (factor_ended state) Multiply)
follow token.Plus state = Some (awaiting (sum_ended state) Add)
follow token.Close state = closed (sum_ended state).nodes (sum_ended state).waiting
follow (token.Constant bit) state = begin (token.Constant bit) (awaiting (factor_ended state) Multiply)
follow (token.Name place) state = begin (token.Name place) (awaiting (factor_ended state) Multiply)
follow token.Bang state = begin token.Bang (awaiting (factor_ended state) Multiply)
follow token.Open state = begin token.Open (awaiting (factor_ended state) Multiply)
follow token.Other state = None

-- one more token
unfoldable pub step : Token → State → Option State
step t state = if state.ready then follow t state else begin t state

-- what has been read if nothing is pending any more
unfoldable pub finished : List Node → List Operator → Option (List Node)
finished nodes [] = Some nodes
finished nodes (operator ∷ waiting) = None

-- the tokens to the end: the nodes of the expression, none if the tokens spell none
unfoldable pub run : List Token → State → Option (List Node)
run [] state = if state.ready then finished (sum_ended state).nodes (sum_ended state).waiting else None
run (t ∷ ts) state = option_map_or (run ts) (step t state) None

-- before the first token
abbrev pub start : State
start = record { nodes = []; waiting = []; ready = false }
