use Rattle.std.proofs.Common.{◌≡◌, ℕ, true, List, inl, inr, sym, subst}
use Rattle.circuit_model.specs.Names.{has}
use Rattle.alg_div.specs.Cubes.{Has}
use Rattle.alg_div.proofs.Lists.{Has-at}
use Rattle.cover_names.specs.Cubes.{names_in}
use Rattle.cover_names.specs.Literals.{Cube}
use Rattle.net_savings.proofs.Naming.{literal_named}
use Rattle.net_savings.proofs.saving.rarest_name.Goals as goal

pub loop-cube-preserved : goal.loop-cube-preserved
loop-cube-preserved g c =
    elim c.rarest_in-rarest.ensures as (λ _. has (names_in c.args.cover.now) c.rarest_in-rarest.result.now ≡ true) [
      | inl e ↦ subst (λ (name : List ℕ). has (names_in c.args.cover.now) name ≡ true) (sym e) c.loop-cube.invariant
      | inr read ↦ subst (λ (name : List ℕ). has (names_in c.args.cover.now) name ≡ true) read.2
          (literal_named c.args.cover.now c.cube-item.result read.0
          (subst (λ (cube : Cube). Has cube c.args.cover.now) (sym c.cube-item.is) (Has-at c.args.cover.now c.loop-cube.cube-index c.cube-item.result c.loop-cube-test.true))
          (subst (Has read.0) c.as_slice.ensures read.1))
    ]
