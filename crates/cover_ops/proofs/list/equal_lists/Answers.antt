use Rattle.std.proofs.Common.{◌≡◌, length, sym, ◌∙◌, arith}
use Rattle.cube_cover.proofs.Points.{width_read}
use Rattle.cover_ops.proofs.Joins.{same_read}
use Rattle.cover_ops.proofs.list.equal_lists.Goals as goal

pub is_equal-requires : goal.is_equal-requires
is_equal-requires g c =
    let low : length (g.R.Row.literals c.index-low-i.result) ≡ c.args.width = width_read g.R.Row.literals c.args.width c.args.low.now c.loop-i.i c.index-low-i.result c.requires.low (omega arith) c.index-low-i.is in
    let high : length (g.R.Row.literals c.index-high-i.result) ≡ c.args.width = width_read g.R.Row.literals c.args.width c.args.high.now c.loop-i.i c.index-high-i.result c.requires.high (omega arith) c.index-high-i.is in
    low ∙ sym high

pub returns-then-not-is_equal : goal.returns-then-not-is_equal
returns-then-not-is_equal g c = (
  λ h. cc,
  λ h. sym c.if-not-is_equal.true ∙ c.is_equal.ensures.1 (same_read g.R.Row.literals c.args.low.now c.args.high.now c.loop-i.i c.index-low-i.result c.index-high-i.result (omega arith) (omega arith) c.index-low-i.is c.index-high-i.is h),
)
