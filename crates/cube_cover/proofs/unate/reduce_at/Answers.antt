use Rattle.std.proofs.Common.{◌≡◌, true, false, None, is_none, get_or, map, sym, ap, ◌∙◌}
use Rattle.cube_cover.specs.Covers.{picked_rows}
use Rattle.cube_cover.specs.Literals.{literal_occurrences}
use Rattle.cube_cover.proofs.Dashed.{dashed_reduction}
use Rattle.cube_cover.proofs.unate.reduce_at.Goals as goal

pub returns-then-counts-eq0 : goal.returns-then-counts-eq0
returns-then-counts-eq0 g c =
    let z : literal_occurrences c.args.place true (picked_rows (map g.R.Row.literals c.args.rows.now) c.args.numbers.items) ≡ 0 = rw (← c.as_slice.ensures.value, ← c.polarity_counts_at-counts.ensures.positive) c.if-counts-eq0.true in
    let d : is_none (get_or (g.R.Row.literals c.args.given.now) c.args.place None) ≡ true = ap is_none (sym c.at.ensures) ∙ sym c.is_dash.ensures ∙ c.if-is_dash.true in
    rw (c.in_ok-kept.ensures, c.as_slice-then-counts-eq0.ensures.value) (dashed_reduction _ c.args.place true _ c.requires.widths c.requires.place d z)

pub returns-then-counts-eq0-2 : goal.returns-then-counts-eq0-2
returns-then-counts-eq0-2 g c =
    let z : literal_occurrences c.args.place false (picked_rows (map g.R.Row.literals c.args.rows.now) c.args.numbers.items) ≡ 0 = rw (← c.as_slice.ensures.value, ← c.polarity_counts_at-counts.ensures.negative) c.if-counts-eq0-2.true in
    let d : is_none (get_or (g.R.Row.literals c.args.given.now) c.args.place None) ≡ true = ap is_none (sym c.at.ensures) ∙ sym c.is_dash.ensures ∙ c.if-is_dash.true in
    rw (c.in_ok-kept-2.ensures, c.as_slice-then-counts-eq0-2.ensures.value) (dashed_reduction _ c.args.place false _ c.requires.widths c.requires.place d z)
