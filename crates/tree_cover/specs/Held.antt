-- Candidates as the choices that they are. Source: Aho, Ganapathi, Tjiang, "Code generation using
-- tree matching and dynamic programming" (ACM Transactions on Programming Languages and Systems 11,
-- 1989): at each vertex the cheapest match so far is kept.
use Rattle.std.specs.Prelude.{Option, None, Some}
use Rattle.tree_cover.specs.declared.choice.Choice.{Choice}
use Rattle.tree_cover.specs.declared.choice.Candidate.{Candidate}

-- the choice that a candidate is
abbrev pub choice_of : Candidate → Choice
choice_of candidate = record { cost = candidate.cost; place = candidate.place; pins = candidate.pins }

-- that of a candidate, if there is one
abbrev pub held : Option Candidate → Option Choice
held None = None
held (Some candidate) = Some (choice_of candidate)
