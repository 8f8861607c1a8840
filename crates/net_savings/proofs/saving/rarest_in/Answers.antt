use Rattle.std.proofs.Common.{◌≡◌, ◌⊎◌, ℕ, List, inl, inr, sym, subst}
use Rattle.alg_div.specs.Cubes.{Has}
use Rattle.alg_div.proofs.Lists.{Has-at}
use Rattle.cover_names.specs.declared.literal.Literal.{Literal}
use Rattle.net_savings.proofs.saving.rarest_in.Goals as goal

pub loop-literal-preserved : goal.loop-literal-preserved
loop-literal-preserved g c =
    elim c.rarer-rarest.ensures as (λ _. (c.rarer-rarest.result.now ≡ c.args.name.now) ⊎ ((literal : Literal) × Has literal c.args.cube.now × (literal.name ≡ c.rarer-rarest.result.now))) [
      | inl e ↦ inr (c.literal-item.result, subst (λ (l : Literal). Has l c.args.cube.now) (sym c.literal-item.is) (Has-at c.args.cube.now c.loop-literal.literal-index c.literal-item.result c.loop-literal-test.true), sym e)
      | inr e ↦ subst (λ (name : List ℕ). (name ≡ c.args.name.now) ⊎ ((literal : Literal) × Has literal c.args.cube.now × (literal.name ≡ name))) (sym e) c.loop-literal.invariant
    ]
