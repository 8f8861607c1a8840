use Rattle.std.proofs.Common.{◌≡◌, ◌++◌, map}
use Rattle.alg_factor.specs.Forms.{put_literal}
use Rattle.alg_factor.proofs.expansion.followed_with.Given as goal

abbrev pub invariant-loop-row : goal.invariant-loop-row
invariant-loop-row g l = map g.R.Row.literals l.made.items ≡ map g.R.Row.literals l.fn.first.items ++ put_literal l.place l.bit (map g.R.Row.literals l.yielded)
