use Rattle.std.proofs.Common.{◌+◌, arith}
use Rattle.func_shared.proofs.Frames.{turned_numbers, stack_known, stack_asks}
use Rattle.func_shared.proofs.Costs.{cost_some, asks_falls}
use Rattle.func_shared.proofs.answering.ask.Goals as goal

pub returns-in-Some-clause-stack : goal.returns-in-Some-clause-stack
returns-in-Some-clause-stack c = λ aim stack.
    stack_known _ _ aim _ c.ordered-pair.result c.args.asked c.in-Some.number c.sound.ensures
    c.ordered-pair.ensures.same
    (c.in-Some.ensures.right _ c.sound.ensures
    (turned_numbers _ _ _ c.ordered-pair.ensures.same c.requires.numbers)) stack

pub returns-in-Some-clause-falls : goal.returns-in-Some-clause-falls
returns-in-Some-clause-falls c = omega (arith, cost_some (c.args.asked.left + c.args.asked.right))

pub returns-in-Some-get-clause-stack : goal.returns-in-Some-get-clause-stack
returns-in-Some-get-clause-stack c = λ aim stack.
    stack_known _ _ aim _ c.ordered-pair.result c.args.asked c.in-Some-get.number c.sound.ensures
    c.ordered-pair.ensures.same
    (c.in-Some-get.ensures _ c.requires.answers) stack

pub returns-in-Some-get-clause-falls : goal.returns-in-Some-get-clause-falls
returns-in-Some-get-clause-falls c =
    omega (arith, cost_some (c.args.asked.left + c.args.asked.right))

pub returns-clause-stack : goal.returns-clause-stack
returns-clause-stack c = λ aim stack.
    stack_asks _ _ aim _ _ c.ordered-pair.result c.args.asked c.halves_of-halves.result.place _ _
    c.in_ok-push.ensures.items
    c.sound.ensures c.ordered-pair.ensures.same c.requires.numbers c.halves_of-halves.ensures.high
    c.halves_of-halves.ensures.left_splits c.halves_of-halves.ensures.right_splits stack

pub returns-clause-falls : goal.returns-clause-falls
returns-clause-falls c =
    asks_falls _ _ c.ordered-pair.result c.args.asked _ _ c.halves_of-halves.result.place
    c.in_ok-push.ensures.items
    c.ordered-pair.ensures.same c.halves_of-halves.ensures.low_falls
    c.halves_of-halves.ensures.high_falls
