use Rattle.std.proofs.Common.{◌≡◌, ℕ, List, flat_map, sym, ap, ◌∙◌, subst}
use Rattle.std.proofs.lemmas.Result.{IfOk-weaker}
use Rattle.net_candidates.specs.Listed.{IsSharedWith}
use Rattle.net_candidates.specs.Candidates.{cubes_of}
use Rattle.cover_names.specs.Literals.{Cube}
use Rattle.net_core.specs.Places.{written_of}
use Rattle.net_work.specs.Placed.{table_at}
use Rattle.net_savings.specs.Sharing.{cubes_in}
use Rattle.net_savings.proofs.Partners.{shared_some, shared_within, shared_across}
use Rattle.net_savings.proofs.sharing.shared_by_table.Goals as goal

pub returns-clause-some : goal.returns-clause-some
returns-clause-some g c =
    IfOk-weaker c.shared_with.result _ _ (λ covers told cover m. shared_some c.as_slice-2.result.now c.as_slice-3.result.now cover ((told cover).0 m)) c.shared_with.ensures

pub returns-clause-here : goal.returns-clause-here
returns-clause-here g c =
    let cubes : c.as_slice-2.result.now ≡ cubes_of (written_of c.args.entry.now) = c.as_slice-2.ensures ∙ c.in_ok-cubes.ensures c.args.entry.now.output in
    IfOk-weaker c.shared_with.result _ _
    (λ covers told one cover k.
    (told cover).1
    (subst (λ (rows : List Cube). IsSharedWith rows c.as_slice-3.result.now cover) (sym cubes) (shared_within (written_of c.args.entry.now) c.as_slice-3.result.now one cover k)))
    c.shared_with.ensures

pub returns-clause-there : goal.returns-clause-there
returns-clause-there g c =
    let cubes : c.as_slice-2.result.now ≡ cubes_of (written_of c.args.entry.now) = c.as_slice-2.ensures ∙ c.in_ok-cubes.ensures c.args.entry.now.output in
    let others : c.as_slice-3.result.now ≡ flat_map (λ at. cubes_in (table_at c.args.work.now.slots at)) c.in_ok-partners.partners.items =
    c.as_slice-3.ensures.value
    ∙ (c.in_ok-others.ensures ∙ ap (λ (places : List ℕ). flat_map (λ at. cubes_in (table_at c.args.work.now.slots at)) places) c.as_slice.ensures.value) in
    IfOk-weaker c.shared_with.result _ _
    (λ covers told one other cover listed k.
    (told cover).1
    (subst (λ (rows : List Cube). IsSharedWith rows c.as_slice-3.result.now cover) (sym cubes)
    (subst (λ (more : List Cube). IsSharedWith (cubes_of (written_of c.args.entry.now)) more cover) (sym others)
    (shared_across c.args.work.now.slots (written_of c.args.entry.now) c.in_ok-partners.partners.items one other cover
    (λ apart. c.in_ok-partners.ensures one other cover apart listed k) k))))
    c.shared_with.ensures
