use Rattle.std.proofs.Common.{◌≡◌, length, sym, ap, ◌∙◌}
use Rattle.std.proofs.lemmas.List.{map_push}
use Rattle.cube_cover.specs.Covers.{Shape}
use Rattle.cube_cover.proofs.Points.{HasWidth-push}
use Rattle.cube_cover.proofs.cover.Cover.push.Goals as goal

pub invariant_of-self-2 : goal.invariant_of-self-2
invariant_of-self-2 g c =
    let e : length (g.R.Row.literals c.args.row) ≡ c.self.inside.width = c.requires ∙ sym (ap (λ (s : Shape). s.width) c.self.view_is) in
    rw (c.in_ok-push.ensures.items, map_push) (HasWidth-push _ _ _ c.self.invariant e)
