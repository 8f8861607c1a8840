use Rattle.std.proofs.Common.{sym, ◌∙◌, arith}
use Rattle.cube_cover.proofs.Dashed.{agreeing_reduction}
use Rattle.cube_cover.proofs.unate.pick_consistent.Goals as goal

pub returns-in-Some : goal.returns-in-Some
returns-in-Some g c = rw c.in_ok-part-in-Some.ensures (agreeing_reduction _ c.args.place c.in-Some.bit _ c.requires (omega (arith, c.if-place-width.true, c.width.ensures)) (sym c.at.ensures ∙ c.in-Some.is))
