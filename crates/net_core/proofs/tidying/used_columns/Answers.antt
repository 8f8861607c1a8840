use Rattle.std.proofs.Common.{ℕ, Vec, Global, ◌+◌, ◌++◌, map, ap, ◌∙◌}
use Rattle.net_core.specs.Tables.{characters_of}
use Rattle.net_core.proofs.Narrowed.{columns_from, columns_first, columns_done, column_used, column_unused}
use Rattle.net_core.proofs.tidying.used_columns.Goals as goal
use Rattle.net_core.proofs.tidying.used_columns.Goals.{then-is_place_used+in_ok-push, else-is_place_used}

pub loop-place-preserved : goal.loop-place-preserved
loop-place-preserved g c =
    let rows = map characters_of (map g.R.Row.literals c.args.rows.now) in
    elim c.if-is_place_used.branch [
      | then-is_place_used+in_ok-push w ↦
          column_used c.args.inputs.now rows c.loop-place.place c.loop-place.places.items _ _ _ c.loop-place-test.true c.is_place_used.ensures w.if-is_place_used.true
          (ap (λ (v : Vec ℕ Global). v.items) w.places-is ∙ w.in_ok-push.ensures.items) c.loop-place.invariant
      | else-is_place_used w ↦
          ap (λ (v : Vec ℕ Global). v.items ++ columns_from c.args.inputs.now rows (c.loop-place.place + 1)) w.places-is
          ∙ column_unused c.args.inputs.now rows c.loop-place.place c.loop-place.places.items _ _ c.loop-place-test.true c.is_place_used.ensures w.if-is_place_used.false c.loop-place.invariant
    ]

pub returns : goal.returns
returns g c =
    columns_done c.args.inputs.now (map characters_of (map g.R.Row.literals c.args.rows.now)) c.loop-place.place _ _ c.loop-place-test.false c.loop-place.invariant ∙ columns_first _ _
