use Rattle.std.proofs.Common.{◌≡◌, map, arith}
use Rattle.std.proofs.lemmas.Result.{IfOk-weaker}
use Rattle.alg_factor.specs.Forms.{Sum, Split, IsChosen, NoneShared, IsFactored}
use Rattle.alg_factor.specs.Shapes.{shape}
use Rattle.alg_factor.specs.Chains.{chain_form}
use Rattle.alg_factor.proofs.Laws.{HasWidth-with, HasWidth-no}
use Rattle.alg_factor.proofs.Chains.{chain_form-push, with-fewer, others-fewer, factored-split, factored-sum}
use Rattle.alg_factor.proofs.factoring.+factored_rows.Goals as goal

pub loop-best-init : goal.loop-best-init
unfolding chain_form
loop-best-init g t c = record { widths = c.requires; fewer = omega arith; form = λ form h. rw c.new-products.ensures.items h }

pub factored_rows-requires : goal.factored_rows-requires
factored_rows-requires g t c = λ κs s.
    let chosen : IsChosen c.in-Some.best.place c.in-Some.best.bit (map g.R.Row.literals c.loop-best.rest.items) = rw (← c.as_slice.ensures.value) c.in-Some.ensures.1 in (
      rw c.in_ok-parts.ensures.with (omega (arith, with-fewer _ _ _ chosen, c.loop-best.invariant.fewer, c.decreases)),
      (s, rw c.in_ok-parts.ensures.with (HasWidth-with _ _ _ _ c.loop-best.invariant.widths)),
    )

pub loop-best-smaller : goal.loop-best-smaller
loop-best-smaller g t c =
    let chosen : IsChosen c.in-Some.best.place c.in-Some.best.bit (map g.R.Row.literals c.loop-best.rest.items) = rw (← c.as_slice.ensures.value) c.in-Some.ensures.1 in
    rw c.in_ok-parts.ensures.others (others-fewer _ _ _ chosen)

pub loop-best-preserved : goal.loop-best-preserved
loop-best-preserved g t c =
    let chosen : IsChosen c.in-Some.best.place c.in-Some.best.bit (map g.R.Row.literals c.loop-best.rest.items) = rw (← c.as_slice.ensures.value) c.in-Some.ensures.1 in
    record {
      widths = rw c.in_ok-parts.ensures.others (HasWidth-no _ _ _ _ c.loop-best.invariant.widths);
      fewer = rw c.in_ok-parts.ensures.others (omega (arith, others-fewer _ _ _ chosen, c.loop-best.invariant.fewer));
      form = λ form h.
          rw (c.in_ok-push.ensures.items, chain_form-push)
          (c.loop-best.invariant.form (Split c.in-Some.best.place c.in-Some.best.bit (shape g.R.Row.literals c.in_ok-quotient.quotient) form)
          (factored-split _ _ _ _ _ _ _ chosen c.in_ok-parts.ensures.with c.in_ok-parts.ensures.others c.in_ok-quotient.ensures h));
    }

pub returns : goal.returns
returns g t c =
    let none : NoneShared (map g.R.Row.literals c.loop-best.rest.items) = rw (← c.as_slice.ensures.value) c.in_default.ensures in
    IfOk-weaker c.chain.result
    (λ tree. shape g.R.Row.literals tree ≡ chain_form g.R.Row.literals c.loop-best.products.items (Sum (map g.R.Row.literals c.loop-best.rest.items)))
    (λ tree. IsFactored (map g.R.Row.literals c.args.rows.items) (shape g.R.Row.literals tree))
    (λ tree e. rw e (c.loop-best.invariant.form (Sum (map g.R.Row.literals c.loop-best.rest.items)) (factored-sum _ none)))
    c.chain.ensures
