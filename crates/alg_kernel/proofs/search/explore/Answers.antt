use Rattle.std.proofs.Common.{◌≤◌, List, Option, Bool, length, arith}
use Rattle.std.proofs.lemmas.Result.{err_from_is_err_and}
use Rattle.alg_div.specs.Cubes.{Has}
use Rattle.alg_div.specs.Steps.{literals_in}
use Rattle.alg_kernel.specs.Search.{kernels_in, holding_rows, kernel_at, IsStep}
use Rattle.alg_kernel.proofs.Faults.{ok-no-fault, fault-as}
use Rattle.alg_kernel.proofs.Searches.{more-none, more-trans, many-more, explored-all, explored-more, both-bits}
use Rattle.alg_kernel.proofs.search.explore.Goals as goal

pub loop-place-init : goal.loop-place-init
loop-place-init c = record {
  more = more-none (IsStep (literals_in c.args.kernel.now)) (kernels_in c.args.seen.now.items) (kernels_in c.args.todo.now.items) c.requires.order c.requires.room;
  to = λ i bit lt two. absurd (omega (arith, lt));
}

pub step-requires : goal.step-requires
step-requires c = record { width = c.requires.width; place = c.loop-place-test.true; order = c.loop-place.invariant.more.order; room = c.loop-place.invariant.more.room }

pub loop-place-preserved : goal.loop-place-preserved
loop-place-preserved c =
    let h : List (List (Option Bool)) = literals_in c.args.kernel.now in
    record {
      more = more-trans (IsStep h) _ _ _ _ _ _ (more-trans (IsStep h) _ _ _ _ _ _ c.loop-place.invariant.more c.in_ok-step.ensures.more) c.in_ok-step-2.ensures.more;
      to = explored-more (kernels_in c.loop-place.seen.items) (kernels_in c.step-in-loop-place.new.seen.items) h c.loop-place.place (λ z m. c.in_ok-step-2.ensures.more.kept z (c.in_ok-step.ensures.more.kept z m)) c.loop-place.invariant.to
          (both-bits (λ bit. 2 ≤ length (holding_rows c.loop-place.place bit h) → Has (kernel_at c.loop-place.place bit h) (kernels_in c.step-in-loop-place.new.seen.items)) (λ two. c.in_ok-step-2.ensures.more.kept _ (c.in_ok-step.ensures.has two)) c.in_ok-step-2.ensures.has);
    }

pub returns : goal.returns
returns c = record {
  more = c.loop-place.invariant.more;
  explored = explored-all c.args.width (kernels_in c.loop-place.seen.items) (literals_in c.args.kernel.now) c.loop-place.place c.requires.width c.loop-place-test.false c.loop-place.invariant.to;
  over = λ e. absurd (ok-no-fault e);
}

pub returns-in_err-step : goal.returns-in_err-step
returns-in_err-step c =
    let p = err_from_is_err_and c.from_residual.result c.from_residual.ensures.1 in
    rw p.1 (record {
      more = tt;
      explored = tt;
      over = λ e. many-more (IsStep (literals_in c.args.kernel.now)) _ _ _ _ c.loop-place.invariant.more (c.in_err-step.ensures.over (fault-as p.0 c.in_err-step.field-0.0 p.2 e));
    })

pub returns-in_err-step-2 : goal.returns-in_err-step-2
returns-in_err-step-2 c =
    let p = err_from_is_err_and c.from_residual-in_err-step-2.result c.from_residual-in_err-step-2.ensures.1 in
    rw p.1 (record {
      more = tt;
      explored = tt;
      over = λ e. many-more (IsStep (literals_in c.args.kernel.now)) _ _ _ _ (more-trans (IsStep (literals_in c.args.kernel.now)) _ _ _ _ _ _ c.loop-place.invariant.more c.in_ok-step.ensures.more) (c.in_err-step-2.ensures.over (fault-as p.0 c.in_err-step-2.field-0.0 p.2 e));
    })
