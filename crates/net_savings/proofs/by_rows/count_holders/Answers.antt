use Rattle.std.proofs.Common.{length, map, sym, ap, if◌then◌else◌, ◌∙◌, Bool}
use Rattle.cube_cover.specs.Literals.{row_contains}
use Rattle.alg_div.proofs.Lists.{has-read}
use Rattle.alg_div.proofs.Terms.{width-has}
use Rattle.net_savings.proofs.ByRows.{many_next}
use Rattle.net_savings.proofs.by_rows.count_holders.Goals as goal

pub contains_row-requires : goal.contains_row-requires
contains_row-requires g c =
    sym (width-has (length (g.R.Row.literals c.args.wanted.now)) (map g.R.Row.literals c.args.rows.now) (g.R.Row.literals c.row-item.result) c.requires
    (has-read g.R.Row.literals c.args.rows.now c.loop-row.row-index c.row-item.result c.loop-row-test.true c.row-item.is))

pub loop-row-preserved : goal.loop-row-preserved
loop-row-preserved g c =
    many_next (row_contains (g.R.Row.literals c.args.wanted.now)) g.R.Row.literals c.args.rows.now c.loop-row.row-index c.row-item.result c.row-item.result c.loop-row.count c.one_if-one.result
    c.in_ok-count.count c.loop-row-test.true c.row-item.is c.loop-row.invariant (c.one_if-one.ensures ∙ ap (λ (b : Bool). if b then 1 else 0) c.contains_row.ensures) c.in_ok-count.ensures
