use Rattle.std.proofs.Common.{◌≡◌, ◌↔◌, true, ℕ, List, Bool, IsTrue, sym, subst}
use Rattle.std.proofs.lemmas.Result.{IfOk-weaker}
use Rattle.net_candidates.specs.Candidates.{IsSharedCube, IsCandidate}
use Rattle.net_readers.specs.Fanouts.{is_in}
use Rattle.cover_names.specs.Literals.{NamedCover}
use Rattle.cover_names.specs.Cubes.{is_over}
use Rattle.net_work.specs.Placed.{standing}
use Rattle.net_savings.proofs.FirstSaved.{held_candidate, shared_is}
use Rattle.net_savings.proofs.saved.is_candidate.Goals as goal

pub returns-in-Gcx : goal.returns-in-Gcx
returns-in-Gcx g c =
    let same = shared_is c.args.rule c.args.work.now c.requires.sound c.args.own.now.items c.requires.kept c.requires.listed c.args.cover.now c.in-Gcx.is in
    IfOk-weaker c.is_shared_at.result (λ (is : Bool). IsTrue is ↔ IsSharedCube (standing c.args.work.now.slots) c.args.cover.now)
    (λ (is : Bool). IsTrue is ↔ IsCandidate c.args.rule (standing c.args.work.now.slots) c.args.cover.now) (λ is k. (λ yes. same.0 (k.0 yes), λ may. k.1 (same.1 may))) c.is_shared_at.ensures

pub returns : goal.returns
returns g c =
    let same = held_candidate c.args.rule c.args.work.now c.requires.sound c.args.own.now.items c.requires.kept c.requires.listed c.args.cover.now c.as_slice-in_default.result.now c.in_default.not-Gcx
    (λ at table there over.
    subst (λ (places : List ℕ). is_in places at ≡ true) (sym c.as_slice-in_default.ensures.value)
    (c.in_ok-places.ensures.all at table there (subst (λ (cover : NamedCover). is_over table.inputs cover ≡ true) (sym c.as_slice.ensures) over))) in
    (λ yes. same.0 (c.is_held_at.ensures.0 yes), λ may. c.is_held_at.ensures.1 (same.1 may))
