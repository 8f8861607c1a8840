use Rattle.std.proofs.Common.{ℕ, ap, ◌∙◌, subst, sym, set}
use Rattle.sis_base.specs.Rows.{HasWidth}
use Rattle.cube_cover.specs.Covers.{Shape}
use Rattle.cover_min.proofs.Trimming.{HasWidth-set, map_put, map_read, place_below, read_through, holds_put}
use Rattle.cover_min.proofs.minimum.put_in.Goals as goal

pub of-requires : goal.of-requires
of-requires g c =
    subst (HasWidth c.width-width.result) (sym (map_put g.R.Row.literals c.into_rows-rows.result.items c.args.others.rows c.args.place c.replace-next.new.dest c.args.row c.into_rows-rows.ensures.items c.replace-next.ensures.after))
    (subst (λ (w : ℕ). HasWidth w (set c.args.others.rows c.args.place (g.R.Row.literals c.args.row))) (sym c.width-width.ensures)
    (HasWidth-set c.args.others.width c.args.others.rows c.args.place (g.R.Row.literals c.args.row) c.into_rows-rows.ensures.widths c.requires.width))

pub returns-clause-held : goal.returns-clause-held
returns-clause-held g c =
    let below = place_below g.R.Row.literals c.rows.result.now c.args.others.rows c.args.place c.rows.ensures.items c.requires.place c.if-place-rows.false in
    holds_put c.args.others.rows c.args.place (g.R.Row.literals c.args.row) (g.R.Row.literals c.replace-next.result) c.of.result below
    (map_read g.R.Row.literals c.into_rows-rows.result.items c.args.others.rows c.args.place c.replace-next.result c.into_rows-rows.ensures.items below
    (read_through c.into_rows-rows.result.items c.args.place c.replace-next.result c.index_mut.result.now c.replace-next.ensures.value c.index_mut.ensures.value))
    (ap (λ (shape : Shape). shape.rows) c.of.ensures
    ∙ map_put g.R.Row.literals c.into_rows-rows.result.items c.args.others.rows c.args.place c.replace-next.new.dest c.args.row c.into_rows-rows.ensures.items c.replace-next.ensures.after)
