use Rattle.std.proofs.Common.{reverse, subst}
use Rattle.func_shared.specs.Vertices.{tree_at}
use Rattle.func_shared.specs.Answers.{made, pair_of, IsFrame, IsStack}
use Rattle.func_shared.specs.declared.answering.Frame.{Frame}
use Rattle.func_shared.specs.declared.answering.Frame.TheVariants.{High}
use Rattle.func_shared.proofs.Frames.{numbers_grow, answers_grow, stack_joins, joins_answer}
use Rattle.func_shared.proofs.answering.resume.Goals as goal

waiting : (c : goal.After-put) →
    IsFrame c.args.table.now c.args.operation (High c.in-High.pair c.in-High.place c.in-High.low)
    (tree_at c.args.table.now c.args.number)
waiting c =
    subst (λ (f : Frame). IsFrame c.args.table.now c.args.operation f
    (tree_at c.args.table.now c.args.number)) c.in-High.is c.requires.frame

pub returns-in_err-joined-in-High-clause-answers : goal.returns-in_err-joined-in-High-clause-answers
returns-in_err-joined-in-High-clause-answers c =
    answers_grow _ _ c.args.answers.now c.in_err-joined-in-High.ensures.grows c.requires.answers

pub returns-in_ok-joined-in-High-clause-answers : goal.returns-in_ok-joined-in-High-clause-answers
returns-in_ok-joined-in-High-clause-answers c =
    c.put.ensures _ (answers_grow _ _ c.args.answers.now c.in_ok-joined-in-High.ensures.grows
    c.requires.answers)
    (numbers_grow _ _ c.in-High.pair c.in_ok-joined-in-High.ensures.grows (waiting c).0)
    (joins_answer _ _ c.args.operation c.in-High.pair c.in-High.place c.in-High.low c.args.number
    c.in_ok-joined-in-High.joined
    c.in_ok-joined-in-High.ensures.grows (waiting c) c.in_ok-joined-in-High.ensures.ok)

pub returns-in_ok-joined-in-High-clause-stack : goal.returns-in_ok-joined-in-High-clause-stack
returns-in_ok-joined-in-High-clause-stack c = λ aim stack.
    stack_joins _ _ c.args.operation aim _ c.in-High.pair c.in-High.place c.in-High.low
    c.args.number c.in_ok-joined-in-High.joined
    c.in_ok-joined-in-High.ensures.grows (waiting c) c.in_ok-joined-in-High.ensures.ok
    (subst (λ (f : Frame). IsStack c.args.table.now c.args.operation aim
    (reverse c.args.frames.now.items) (made c.args.table.now c.args.operation (pair_of f)))
    c.in-High.is stack)
