use Rattle.std.proofs.Common.{Option, Bool, List, Vec, Global, sym, ap, ◌∙◌}
use Rattle.cover_names.specs.Literals.{cube_cmp, sorted, sorted_cube}
use Rattle.cover_names.specs.Cubes.{cube_over}
use Rattle.cover_names.proofs.Over.{map_twice}
use Rattle.cover_names.proofs.cubes.cover_over.Goals as goal

pub returns : goal.returns
returns c =
    c.sorted_cover.ensures
    ∙ ap (sorted cube_cmp)
    (c.in_ok-cubes.ensures ∙ sym (map_twice (λ (row : Vec (Option Bool) Global). row.items) (λ (row : List (Option Bool)). sorted_cube (cube_over c.args.names.now row)) c.args.rows.now))
