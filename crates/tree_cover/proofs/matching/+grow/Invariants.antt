use Rattle.tree_cover.proofs.matching.+grow.Given as goal

abbrev pub decreases-grow : goal.decreases-grow
decreases-grow l = l.pattern
