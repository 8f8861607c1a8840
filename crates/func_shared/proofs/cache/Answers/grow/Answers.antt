use Rattle.func_shared.proofs.Remembered.{resized}
use Rattle.func_shared.proofs.cache.Answers.grow.Goals as goal

pub returns-then-is_ok-clause-kept : goal.returns-then-is_ok-clause-kept
returns-then-is_ok-clause-kept c = λ vs are. c.spread.ensures.kept vs
    (resized vs _ _ _ _ _ c.resize.ensures.items are)
