use Rattle.std.proofs.Common.{◌≡◌, true, List, ℕ, get_or, refl, sym, ◌∙◌, subst}
use Rattle.std.proofs.lemmas.Bool.{false≢true}
use Rattle.std.proofs.lemmas.List.{take_all}
use Rattle.net_readers.specs.Fanouts.{is_in}
use Rattle.net_savings.proofs.FirstSaved.{held_in, in_held, place_among, not_in_next}
use Rattle.net_savings.proofs.saved.is_held_at.Goals as goal

pub returns-then-is_held : goal.returns-then-is_held
returns-then-is_held c = (
  λ yes. (
    get_or c.args.places.now c.loop-place.place-index 0,
    place_among c.args.places.now c.loop-place.place-index c.loop-place-test.true,
    held_in c.args.own.now.items (get_or c.args.places.now c.loop-place.place-index 0) c.args.cover.now (sym c.is_held.ensures ∙ c.if-is_held.true),
  ),
  λ is. refl,
)

pub loop-place-preserved : goal.loop-place-preserved
loop-place-preserved c =
    not_in_next c.args.own.now.items c.args.cover.now c.args.places.now c.loop-place.place-index (get_or c.args.places.now c.loop-place.place-index 0) 0 c.loop-place-test.true refl c.loop-place.invariant
    (in_held c.args.own.now.items (get_or c.args.places.now c.loop-place.place-index 0) c.args.cover.now (sym c.is_held.ensures ∙ c.if-is_held.false))

pub returns : goal.returns
returns c = (
  λ yes. absurd (false≢true yes),
  λ (place, among, is). absurd (c.loop-place.invariant place
      (subst (λ (places : List ℕ). is_in places place ≡ true) (sym (take_all c.loop-place.place-index c.args.places.now c.loop-place-test.false)) among) is),
)
