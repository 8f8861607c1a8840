use Rattle.alg_div.proofs.steps.holder_count.Given as goal

abbrev pub invariant-loop-row : goal.invariant-loop-row
invariant-loop-row g l = Unit {0}
