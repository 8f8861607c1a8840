use Rattle.std.proofs.Common.{◌≤◌, ◌==◌, ℕ, flat_map, arith, sym, subst}
use Rattle.net_candidates.specs.Spots.{told, many, AreTold}
use Rattle.cover_names.specs.Literals.{Cube}
use Rattle.net_candidates.proofs.Listing.{listed_step, listed_all, among_keys}
use Rattle.net_candidates.proofs.shared.shared_covers.Goals as goal

pub loop-place-preserved : goal.loop-place-preserved
loop-place-preserved c =
    listed_step c.args.cubes.now c.loop-place.place c.index-cubes-place.result (told c.loop-place.spots) (told c.tell_all.new.spots) c.in_ok-partners.partners.keys
    c.loop-place.made.keys c.add_shared.new.made.keys c.loop-place-test.true c.index-cubes-place.is c.loop-place.invariant
    (λ at h. among_keys c.in_ok-partners.partners at
    (c.in_ok-partners.ensures at (subst (λ (cube : Cube). 2 ≤ many (λ (place : ℕ). place == at) (flat_map (told c.loop-place.spots) cube)) (sym c.as_slice.ensures) h)))
    c.in_ok-add_shared.ensures
    (subst (λ (cube : Cube). AreTold cube c.loop-place.place (told c.loop-place.spots) (told c.tell_all.new.spots)) c.as_slice-in-loop-place.ensures c.in_ok-tell_all.ensures)

pub returns : goal.returns
returns c = λ cover.
    listed_all c.args.cubes.now c.loop-place.place c.loop-place.made.keys (told c.loop-place.spots) (omega (arith, c.loop-place-test.false)) c.loop-place.invariant cover
