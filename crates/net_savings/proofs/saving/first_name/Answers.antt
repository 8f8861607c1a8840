use Rattle.std.proofs.Common.{slice_get, sym, ap, ◌∙◌, subst}
use Rattle.alg_div.specs.Cubes.{Has}
use Rattle.alg_div.proofs.Lists.{Has-at}
use Rattle.cover_names.specs.Literals.{Cube}
use Rattle.net_savings.proofs.Naming.{literal_named, first_has}
use Rattle.net_savings.proofs.saving.first_name.Goals as goal

pub returns-in-Some : goal.returns-in-Some
returns-in-Some c =
    literal_named c.args.cover.now c.cube-item.result c.in-Some.literal.now
    (subst (λ (cube : Cube). Has cube c.args.cover.now) (sym c.cube-item.is) (Has-at c.args.cover.now c.loop-cube.cube-index c.cube-item.result c.loop-cube-test.true))
    (first_has c.cube-item.result c.in-Some.literal.now (c.in-Some.ensures.value ∙ ap (λ (cube : Cube). slice_get cube 0) c.as_slice.ensures))
