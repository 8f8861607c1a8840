use Rattle.std.proofs.Common.{◌≡◌, ◌≤◌, ◌+◌, true, false, map, drop}
use Rattle.cube_cover.specs.Literals.{literal_occurrences}
use Rattle.alg_factor.proofs.choice.polarity_counts_at.Given as goal

abbrev pub invariant-loop-row : goal.invariant-loop-row
invariant-loop-row g l =
    (l.counts.negative + literal_occurrences l.place false (map g.R.Row.literals (drop l.row-index l.rows)) ≡ literal_occurrences l.place false (map g.R.Row.literals l.rows))
    × (l.counts.positive + literal_occurrences l.place true (map g.R.Row.literals (drop l.row-index l.rows)) ≡ literal_occurrences l.place true (map g.R.Row.literals l.rows))
    × (l.counts.negative ≤ l.row-index)
    × (l.counts.positive ≤ l.row-index)
