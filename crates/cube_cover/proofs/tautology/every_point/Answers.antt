use Rattle.std.proofs.Common.{◌≡◌, Bool, Option, List, map, subst, IsTrue, ◌↔◌}
use Rattle.cube_cover.specs.Covers.{picked_rows, IsCovered}
use Rattle.cube_cover.proofs.Splits.{whole_answer}
use Rattle.cube_cover.proofs.tautology.every_point.Goals as goal

pub returns : goal.returns
returns g c =
    let all : picked_rows (map g.R.Row.literals c.args.rows.now) c.as_slice-2.result.now ≡ map g.R.Row.literals c.args.rows.now = rw c.as_slice-2.ensures.value c.in_ok-all.ensures in
    whole_answer c.args.width _ (map g.R.Row.literals c.args.rows.now) c.in_ok-answer.answer c.in_ok-given.ensures
    (subst (λ (rows : List (List (Option Bool))). IsTrue c.in_ok-answer.answer ↔ IsCovered (g.R.Row.literals c.in_ok-given.given) rows) all c.in_ok-answer.ensures)
