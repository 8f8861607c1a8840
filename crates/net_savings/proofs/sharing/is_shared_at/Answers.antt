use Rattle.std.proofs.Common.{◌↔◌, List, IsTrue, ◌∙◌, subst}
use Rattle.std.proofs.lemmas.Result.{IfOk-weaker}
use Rattle.net_candidates.specs.Listed.{IsSharedOf}
use Rattle.cover_names.specs.Literals.{Cube}
use Rattle.net_savings.proofs.SharersAt.{shared_chosen}
use Rattle.net_savings.proofs.sharing.is_shared_at.Goals as goal

pub returns : goal.returns
returns g c =
    let all = shared_chosen c.args.work.now.slots c.args.places.now c.args.cover.now c.requires.all c.requires.rising in
    IfOk-weaker c.is_shared.result _ _
    (λ is told.
    let here = subst (λ (cubes : List Cube). IsTrue is ↔ IsSharedOf cubes c.args.cover.now) (c.as_slice.ensures.value ∙ c.in_ok-cubes.ensures) told in
    (λ h. all.0 (here.0 h), λ k. here.1 (all.1 k)))
    c.is_shared.ensures
