use Rattle.std.proofs.Common.{◌≡◌, ℕ, Bool, Option, List, map}
use Rattle.std.proofs.lemmas.Result.{IfOk-weaker}
use Rattle.net_candidates.specs.Candidates.{cubes_of}
use Rattle.cover_names.specs.Cubes.{cube_over}
use Rattle.cover_names.specs.Literals.{Cube, sorted_cube}
use Rattle.net_core.specs.Tables.{named}
use Rattle.net_candidates.proofs.OfTables.{cubes_told}
use Rattle.net_candidates.proofs.cubes.cubes_of.Goals as goal

pub returns : goal.returns
returns g c =
    let rows : List (List (Option Bool)) = map g.R.Row.literals c.rows.result.now in
    IfOk-weaker c.cubes_over.result
    (λ (cubes : List Cube). cubes ≡ map (λ row. sorted_cube (cube_over c.as_slice.result.now row)) rows)
    (λ (cubes : List Cube). (output : List ℕ) → cubes ≡ cubes_of (named output c.args.table.now))
    (λ cubes e output. cubes_told output c.args.table.now c.as_slice.result.now rows cubes c.as_slice.ensures c.rows.ensures.items e)
    c.cubes_over.ensures
