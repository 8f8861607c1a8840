use Rattle.std.proofs.Common.{map, bytes_eq, ◌∙◌}
use Rattle.indexmap.specs.IndexSet.{contains}
use Rattle.circuit_tables.specs.Tidy.{row_text}
use Rattle.circuit_tables.proofs.Tidied.{behind_none}
use Rattle.circuit_tables.proofs.Steps.{once_next, once_done, seen_next}
use Rattle.net_core.specs.Tables.{characters_of}
use Rattle.net_core.proofs.Narrowed.{characters_more, characters_end}
use Rattle.net_core.proofs.tidying.rows_once.Goals as goal

pub loop-row-preserved : goal.loop-row-preserved
loop-row-preserved g c =
    let at = c.loop-row in
    let row = characters_of (g.R.Row.literals c.row-item.result) in
    let known = contains bytes_eq at.seen (row_text row) in
    let made = map characters_of (map g.R.Row.literals at.made.items) in
    let new = map characters_of (map g.R.Row.literals c.push_new.new.made.items) in (
      once_next _ made new row _ _ known (characters_more g.R.Row.literals c.args.rows.now at.row-index c.row-item.result c.loop-row-test.true c.row-item.is)
          (at.invariant.1 (row_text row)) c.in_ok-push_new.ensures.rows at.invariant.0,
      λ text. seen_next made new row text known (contains bytes_eq at.seen text) (contains bytes_eq c.push_new.new.seen text)
          (at.invariant.1 (row_text row)) c.in_ok-push_new.ensures.rows (at.invariant.1 text) (c.in_ok-push_new.ensures.seen text),
    )

pub returns : goal.returns
returns g c =
    let at = c.loop-row in
    once_done _ (map characters_of (map g.R.Row.literals at.made.items)) _ (characters_end g.R.Row.literals c.args.rows.now at.row-index c.loop-row-test.false) at.invariant.0
    ∙ behind_none (map characters_of (map g.R.Row.literals c.args.rows.now))
