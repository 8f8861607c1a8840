use Rattle.std.proofs.Common.{ℕ, ap, ◌∙◌, subst, sym, ◌+◌, ◌++◌, take, drop}
use Rattle.sis_base.specs.Rows.{HasWidth}
use Rattle.cube_cover.specs.Covers.{Shape}
use Rattle.cube_cover.proofs.Points.{HasWidth-append}
use Rattle.cover_min.proofs.Trimming.{HasWidth-take, HasWidth-drop, map_taken, map_read, place_below, holds_taken}
use Rattle.cover_min.proofs.minimum.taken_out.Goals as goal

pub of-requires : goal.of-requires
of-requires g c =
    let made = map_taken g.R.Row.literals c.into_rows-rows.result.items c.remove-row.new.self.items c.args.others.rows c.args.place c.into_rows-rows.ensures.items c.remove-row.ensures.by_index.2 in
    subst (HasWidth c.width-width.result) (sym made)
    (subst (λ (w : ℕ). HasWidth w (take c.args.place c.args.others.rows ++ drop (c.args.place + 1) c.args.others.rows)) (sym c.width-width.ensures)
    (HasWidth-append c.args.others.width (take c.args.place c.args.others.rows) (drop (c.args.place + 1) c.args.others.rows)
    (HasWidth-take c.args.others.width c.args.others.rows c.args.place c.into_rows-rows.ensures.widths) (HasWidth-drop c.args.others.width c.args.others.rows (c.args.place + 1) c.into_rows-rows.ensures.widths)))

pub returns-clause-held : goal.returns-clause-held
returns-clause-held g c =
    let below = place_below g.R.Row.literals c.rows.result.now c.args.others.rows c.args.place c.rows.ensures.items c.requires c.if-place-rows.false in
    let made = map_taken g.R.Row.literals c.into_rows-rows.result.items c.remove-row.new.self.items c.args.others.rows c.args.place c.into_rows-rows.ensures.items c.remove-row.ensures.by_index.2 in
    holds_taken c.args.others.rows c.args.place (g.R.Row.literals c.remove-row.result) c.of.result below
    (map_read g.R.Row.literals c.into_rows-rows.result.items c.args.others.rows c.args.place c.remove-row.result c.into_rows-rows.ensures.items below c.remove-row.ensures.value)
    (ap (λ (shape : Shape). shape.rows) c.of.ensures ∙ made)
