use Rattle.std.proofs.Common.{◌≡◌, map}
use Rattle.alg_factor.specs.Forms.{with_literal, no_literal}
use Rattle.alg_factor.proofs.choice.part_rows.Given as goal

abbrev pub invariant-loop-row : goal.invariant-loop-row
invariant-loop-row g l =
    (map g.R.Row.literals l.with.items ≡ with_literal l.fn.place l.fn.bit (map g.R.Row.literals l.yielded))
    × (map g.R.Row.literals l.others.items ≡ no_literal l.fn.place l.fn.bit (map g.R.Row.literals l.yielded))
