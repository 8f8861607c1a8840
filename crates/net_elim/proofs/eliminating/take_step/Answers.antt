use Rattle.std.proofs.Common.{◌≡◌, ◌<◌, ℤ, Some, None, length, ◌∙◌, subst, w32}
use Rattle.std.proofs.lemmas.Int.{to_z-of_z}
use Rattle.net_elim.specs.Eliminating.{eliminate_step}
use Rattle.net_work.specs.Placed.{Placed, standing, circuit_of}
use Rattle.net_elim.specs.Waiting.{AreWaiting, IsNext}
use Rattle.net_elim.proofs.Leasts.{first_least, fewer_waiting}
use Rattle.net_elim.proofs.Steps.{step_done, done_fewer, step_none, waiting_refused}
use Rattle.net_elim.proofs.eliminating.take_step.Goals as goal

pub returns-then-branch-clause-step : goal.returns-then-branch-clause-step
returns-then-branch-clause-step g c =
    subst (λ (p : Placed). eliminate_step c.args.threshold c.args.rows (circuit_of p) ≡ Some (circuit_of c.try_at.new.work)) c.loop-place.invariant.same
    (step_done c.args.threshold c.args.rows c.loop-place.work c.try_at.new.work c.loop-place.waiting c.in-Some.place c.in_ok-try_at.field-0
    (subst (λ (t : ℤ). AreWaiting t c.args.rows c.loop-place.work c.loop-place.waiting) (to_z-of_z w32 c.args.threshold c.ranges.threshold) c.loop-place.invariant.waiting)
    (first_least c.loop-place.waiting c.in-Some.place c.in-Some.ensures) c.if-branch.true c.in_ok-try_at.ensures.answer c.in_ok-try_at.ensures.circuit)

pub returns-then-branch-clause-fewer : goal.returns-then-branch-clause-fewer
returns-then-branch-clause-fewer g c = λ yes_.
    subst (λ (p : Placed). length (standing c.try_at.new.work.slots) < length (standing p.slots)) c.loop-place.invariant.same
    (done_fewer _ c.args.rows c.loop-place.work c.try_at.new.work c.loop-place.waiting c.in-Some.place c.in_ok-try_at.field-0 c.loop-place.invariant.waiting (first_least c.loop-place.waiting c.in-Some.place c.in-Some.ensures) c.if-branch.true c.in_ok-try_at.ensures.done)

pub loop-place-smaller : goal.loop-place-smaller
loop-place-smaller g c =
    let first = first_least c.loop-place.waiting c.in-Some.place c.in-Some.ensures in
    fewer_waiting c.loop-place.waiting c.try_at.new.waiting c.remove.new.self c.in-Some.place first.value c.remove.result first.here (c.in_ok-try_at.ensures.same c.if-branch.false).1 c.remove.ensures.before c.remove.ensures.len

pub loop-place-preserved : goal.loop-place-preserved
loop-place-preserved g c = record {
  same = (c.in_ok-try_at.ensures.same c.if-branch.false).0 ∙ c.loop-place.invariant.same;
  waiting = waiting_refused _ c.args.rows c.loop-place.work c.try_at.new.work c.loop-place.waiting c.try_at.new.waiting c.remove.new.self c.in-Some.place c.in_ok-try_at.field-0 c.loop-place.invariant.waiting
      c.if-branch.false c.in_ok-try_at.ensures.same c.in_ok-try_at.ensures.answer c.remove.ensures.values;
}

pub returns-clause-step : goal.returns-clause-step
returns-clause-step g c =
    subst (λ (p : Placed). eliminate_step c.args.threshold c.args.rows (circuit_of p) ≡ None) c.loop-place.invariant.same
    (step_none c.args.threshold c.args.rows c.loop-place.work c.loop-place.waiting
    (subst (λ (t : ℤ). AreWaiting t c.args.rows c.loop-place.work c.loop-place.waiting) (to_z-of_z w32 c.args.threshold c.ranges.threshold) c.loop-place.invariant.waiting)
    (subst (IsNext c.loop-place.waiting) c.in_default.is c.next.ensures))
