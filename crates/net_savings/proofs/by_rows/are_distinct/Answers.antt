use Rattle.std.proofs.Common.{◌++◌, ◌∷◌, [], Bool, Option, List, sym, ap, ◌∙◌, subst}
use Rattle.alg_div.specs.Cubes.{Has}
use Rattle.net_savings.proofs.ByRows.{keys_next, once_next}
use Rattle.net_savings.proofs.by_rows.are_distinct.Goals as goal

pub loop-row-preserved : goal.loop-row-preserved
loop-row-preserved g c =
    let is_new = c.if-not-is_new.false in
    let added = c.in_ok-is_new.ensures.keys is_new ∙ ap (λ (row : List (Option Bool)). c.loop-row.seen.keys ++ row ∷ []) c.in_ok-literals_of.ensures in
    record {
      keys = keys_next g.R.Row.literals c.args.rows.now c.loop-row.row-index c.row-item.result c.row-item.result c.loop-row.seen.keys c.add_row.new.rows.keys c.loop-row-test.true c.row-item.is
          c.loop-row.invariant.keys added;
      once = once_next g.R.Row.literals c.args.rows.now c.loop-row.row-index c.row-item.result c.row-item.result c.loop-row.seen.keys c.add_row.new.rows.keys c.loop-row-test.true c.row-item.is
          c.loop-row.invariant.keys added c.loop-row.invariant.once
          (λ m. c.in_ok-is_new.ensures.was is_new (subst (λ (row : List (Option Bool)). Has row c.loop-row.seen.keys) (sym c.in_ok-literals_of.ensures) m));
    }
