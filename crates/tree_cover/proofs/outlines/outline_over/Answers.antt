use Rattle.std.proofs.lemmas.Result.{IfOk-weaker}
use Rattle.subject_tree.specs.Arenas.{tree_at}
use Rattle.tree_cover.proofs.Misfits.{turned_outline}
use Rattle.tree_cover.proofs.outlines.outline_over.Goals as goal

pub returns-then-other-one-clause-ok : goal.returns-then-other-one-clause-ok
returns-then-other-one-clause-ok c =
    IfOk-weaker c.gate.result _ _ (turned_outline c.gate.new.self (tree_at c.args.outlines.now c.args.one) (tree_at c.args.outlines.now c.args.other)) c.gate.ensures.ok
