use Rattle.std.proofs.Common.{List, ℕ, sym, ap, ◌∙◌}
use Rattle.std.proofs.lemmas.List.{drop_all}
use Rattle.net_extract.specs.Dividing.{with_divided}
use Rattle.net_extract.proofs.Places.{divided_more}
use Rattle.net_extract.proofs.stepping.divide_places.Goals as goal

pub loop-place-preserved : goal.loop-place-preserved
loop-place-preserved g c = record {
  divided = divided_more c.args.name.now c.args.cover.now c.args.places.now c.loop-place.place-index c.loop-place.work c.divide_at.new.work (with_divided c.args.name.now c.args.cover.now c.args.places.now c.args.work.now)
      c.loop-place-test.true c.loop-place.invariant.divided c.in_ok-divide_at.ensures.divided;
  bounded = λ all. c.in_ok-divide_at.ensures.bounded (c.loop-place.invariant.bounded all);
  known = c.in_ok-divide_at.ensures.known;
  saved = λ rule saved. c.in_ok-divide_at.ensures.saved rule (c.loop-place.invariant.saved rule saved);
}

pub returns-clause-divided : goal.returns-clause-divided
returns-clause-divided g c =
    sym (ap (λ (places : List ℕ). with_divided c.args.name.now c.args.cover.now places c.loop-place.work) (drop_all c.loop-place.place-index c.args.places.now c.loop-place-test.false))
    ∙ c.loop-place.invariant.divided

pub divide_at-requires : goal.divide_at-requires
divide_at-requires g c = record { known = c.loop-place.invariant.known }
