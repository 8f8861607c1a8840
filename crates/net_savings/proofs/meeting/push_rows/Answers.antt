use Rattle.std.proofs.Common.{List, map, refl, ap, ◌++◌, ◌∙◌}
use Rattle.std.proofs.lemmas.List.{take_all}
use Rattle.cover_names.specs.Cubes.{cube_over}
use Rattle.cover_names.specs.Literals.{Cube, sorted_cube}
use Rattle.net_candidates.proofs.OfTables.{cubes_told}
use Rattle.net_savings.proofs.meeting.push_rows.Goals as goal

pub returns : goal.returns
returns g c = λ output.
    (let all = take_all c.loop-row.row-index c.rows-row-items.result.now c.loop-row-test.false in
    c.loop-row.invariant
    ∙ ap (λ (more : List Cube). c.args.rows.now.items ++ more)
    (ap (λ rows. map (λ row. sorted_cube (cube_over c.args.table.now.inputs row)) (map g.R.Row.literals rows)) all
    ∙ cubes_told output c.args.table.now c.args.table.now.inputs (map g.R.Row.literals c.rows-row-items.result.now)
    (map (λ row. sorted_cube (cube_over c.args.table.now.inputs row)) (map g.R.Row.literals c.rows-row-items.result.now)) refl c.rows-row-items.ensures.items refl))
