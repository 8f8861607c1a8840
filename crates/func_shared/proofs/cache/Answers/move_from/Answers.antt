use Rattle.func_shared.proofs.Remembered.{read_answer}
use Rattle.func_shared.proofs.cache.Answers.move_from.Goals as goal

pub returns-in-Some-clause-kept : goal.returns-in-Some-clause-kept
returns-in-Some-clause-kept c = λ vs are.
    c.keep.ensures.kept vs are
    (read_answer vs _ _ c.args.place c.in-Some.answer.now _ c.deref.ensures.value are
    c.in-Some.ensures.lookup.0 c.in-Some.ensures.lookup.1)
