use Rattle.std.proofs.Common.{◌≡◌, ◌∷◌, [], bytes_eq, length, ap, sym, ◌∙◌, arith}
use Rattle.std.specs.Vec.Iter.{into_iter_items}
use Rattle.indexmap.specs.IndexSet.{contains}
use Rattle.circuit_tables.specs.Tidy.{row_text}
use Rattle.circuit_tables.proofs.Tidied.{rows_behind, behind_none}
use Rattle.circuit_tables.proofs.Steps.{once_next, once_done, seen_next}
use Rattle.circuit_tables.proofs.tidying.rows_once.Goals as goal

pub loop-row-preserved : goal.loop-row-preserved
loop-row-preserved c =
    let at = c.loop-row in
    let row = c.in-Some.row in
    let known = contains bytes_eq at.seen (row_text row) in
    let steps : into_iter_items at.row-iterator ≡ row ∷ into_iter_items c.next.new.self = c.in-Some.ensures.steps.0 in (
      once_next (rows_behind [] (into_iter_items c.into_iter-row-iterator.result)) at.made c.push_new.new.made row (into_iter_items c.next.new.self) (into_iter_items at.row-iterator) known
          steps (at.invariant.1 (row_text row)) c.in_ok-push_new.ensures.rows at.invariant.0,
      λ text. seen_next at.made c.push_new.new.made row text known (contains bytes_eq at.seen text) (contains bytes_eq c.push_new.new.seen text)
          (at.invariant.1 (row_text row)) c.in_ok-push_new.ensures.rows (at.invariant.1 text) (c.in_ok-push_new.ensures.seen text),
      let was = at.invariant.2 in
          let gone = c.in-Some.ensures.steps.1 in
          let short = ap length steps in
          omega arith,
    )

pub returns : goal.returns
returns c =
    let at = c.loop-row in
    let none = c.in-None.ensures.steps in
    once_done (rows_behind [] (into_iter_items c.into_iter-row-iterator.result)) at.made (into_iter_items at.row-iterator) (sym at.invariant.2 ∙ none.0) at.invariant.0
    ∙ ap (rows_behind []) (c.into_iter-row-iterator.ensures.into_iter_gives.0 ∙ c.into_vec-row-items.ensures)
    ∙ behind_none c.args.rows
