use Rattle.std.proofs.Common.{◌≡◌, ℕ, ◌-◌, ◌++◌, drop, get_or, refl, ap, ◌∙◌, arith}
use Rattle.tree_cover.specs.Postorder.{visits}
use Rattle.tree_cover.proofs.Walking.{visits_begun, visits_more}
use Rattle.tree_cover.proofs.writing.wait_for.Goals as goal

pub loop-place-init : goal.loop-place-init
loop-place-init c = record { within = omega arith; behind = visits_begun c.args.waiting.now.items c.args.numbers.now }

pub loop-place-preserved : goal.loop-place-preserved
loop-place-preserved c = record {
  within = omega (arith, c.loop-place.invariant.within);
  behind =
      visits_more c.args.waiting.now.items c.loop-place.waiting.items c.push.new.self.items c.args.numbers.now (c.loop-place.place - 1) c.loop-place.place (get_or c.args.numbers.now (c.loop-place.place - 1) 0)
      (omega (arith, c.loop-place.invariant.within)) (omega arith) refl c.loop-place.invariant.behind c.in_ok-push.ensures.items;
}

pub returns : goal.returns
returns c =
    let e : c.loop-place.place ≡ 0 = omega arith in
    c.loop-place.invariant.behind ∙ ap (λ (k : ℕ). c.args.waiting.now.items ++ visits (drop k c.args.numbers.now)) e
