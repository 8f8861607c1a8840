use Rattle.std.proofs.Common.{◌≡◌, [], ◌∷◌, length, sym, ◌∙◌, ap, arith}
use Rattle.std.specs.Vec.Iter.{into_iter_items}
use Rattle.std.proofs.lemmas.Result.{err_from_is_err_and}
use Rattle.genlib_format.specs.Reader.{read_entries}
use Rattle.genlib_format.proofs.ReadSteps.{entries_go_on, entries_fail, entries_end}
use Rattle.genlib_format.proofs.reading.read_entries.Goals as goal

pub returns-in_err-take_entry : goal.returns-in_err-take_entry
returns-in_err-take_entry c =
    let at = c.loop-entry in
    let steps : into_iter_items at.entry-iterator ≡ c.in-Some.entry ∷ into_iter_items c.next.new.self = c.in-Some.ensures.steps.0 in
    let p = err_from_is_err_and c.from_residual.result c.from_residual.ensures.1 in
    rw (p.1, p.2) (entries_fail c.in_err-take_entry.field-0.0 at.count at.library c.take_entry.new.library c.in-Some.entry (into_iter_items c.next.new.self) (into_iter_items at.entry-iterator)
    (read_entries 0 [] c.args.entries.items) steps c.in_err-take_entry.ensures.value (at.invariant.0 ∙ ap (read_entries 0 []) c.into_iter-entry-iterator.ensures.into_iter_gives.0))

pub loop-entry-preserved : goal.loop-entry-preserved
loop-entry-preserved c =
    let at = c.loop-entry in
    let steps : into_iter_items at.entry-iterator ≡ c.in-Some.entry ∷ into_iter_items c.next.new.self = c.in-Some.ensures.steps.0 in (
      entries_go_on at.count at.library c.take_entry.new.library c.in-Some.entry (into_iter_items c.next.new.self) (into_iter_items at.entry-iterator) steps c.in_ok-take_entry.ensures.value ∙ at.invariant.0,
      let was = at.invariant.1 in
          let gone = c.in-Some.ensures.steps.1 in
          let short = ap length steps in
          omega arith,
    )

pub returns : goal.returns
returns c =
    let at = c.loop-entry in
    let none = c.in-None.ensures.steps in
    ap (read_entries 0 []) (sym c.into_iter-entry-iterator.ensures.into_iter_gives.0)
    ∙ entries_end at.count at.library (into_iter_items at.entry-iterator) (read_entries 0 [] (into_iter_items c.into_iter-entry-iterator.result)) (sym at.invariant.1 ∙ none.0) at.invariant.0
