use Rattle.std.proofs.Common.{sym, ◌∙◌, arith}
use Rattle.subject_tree.proofs.Shrinking.{all_small}
use Rattle.subject_tree.proofs.pruning.shrink.Goals as goal

pub returns-then-are_small-clause-small : goal.returns-then-are_small-clause-small
returns-then-are_small-clause-small c n lt =
    all_small c.args.arena c.as_slice.result.now _ n (c.as_slice.ensures.value ∙ c.in_ok-sizes.ensures) (omega arith) (omega arith) (sym c.are_small.ensures ∙ c.if-are_small.true)
