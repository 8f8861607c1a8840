use Rattle.std.proofs.Common.{◌≡◌, ◌≤◌, ◌+◌, true, false, map, drop}
use Rattle.cube_cover.specs.Covers.{picked_rows}
use Rattle.cube_cover.specs.Literals.{literal_occurrences}
use Rattle.cube_cover.proofs.unate.polarity_counts_at.Given as goal

abbrev pub invariant-loop-number : goal.invariant-loop-number
invariant-loop-number g l =
    (l.counts.positive + literal_occurrences l.place true (picked_rows (map g.R.Row.literals l.rows) (drop l.number-index l.numbers)) ≡ literal_occurrences l.place true (picked_rows (map g.R.Row.literals l.rows) l.numbers))
    × (l.counts.negative + literal_occurrences l.place false (picked_rows (map g.R.Row.literals l.rows) (drop l.number-index l.numbers)) ≡ literal_occurrences l.place false (picked_rows (map g.R.Row.literals l.rows) l.numbers))
    × (l.counts.positive + l.counts.negative ≤ l.number-index)
