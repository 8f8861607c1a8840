use Rattle.std.proofs.Common.{◌≡◌, ◌++◌, length, map, take}
use Rattle.cover_search.specs.Ties.{AreWide}
use Rattle.cover_search.specs.Views.{tie_of}
use Rattle.cover_search.specs.Searches.{constraint_of}
use Rattle.cover_search.proofs.tied.add_ties.Given as goal

abbrev pub invariant-loop-tie : goal.invariant-loop-tie
invariant-loop-tie g l = record {
  constraints : l.constraints.items ≡ l.initial.constraints.items ++ map (constraint_of (g.R.Row.literals l.given)) (map tie_of (take l.tie-index l.ties));
  wide : AreWide (length (g.R.Row.literals l.given)) (map tie_of (take l.tie-index l.ties));
}
