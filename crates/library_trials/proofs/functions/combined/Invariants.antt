use Rattle.library_trials.proofs.functions.combined.Given as goal

-- what is made so far is a function of this object
abbrev pub invariant-loop : goal.invariant-loop
invariant-loop g l = g.F.Functions.holds l.functions l.made.0
