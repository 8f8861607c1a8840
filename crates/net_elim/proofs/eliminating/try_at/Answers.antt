use Rattle.std.proofs.Common.{ℤ, sym, subst, w32}
use Rattle.std.proofs.lemmas.Int.{to_z-of_z}
use Rattle.net_elim.specs.Touching.{AreTouched, AreRenewed}
use Rattle.net_elim.proofs.Fanouts.{before_there}
use Rattle.net_elim.proofs.Touched.{waiting_stepped}
use Rattle.net_elim.proofs.eliminating.try_at.Goals as goal

pub returns-then-branch-clause-waiting : goal.returns-then-branch-clause-waiting
returns-then-branch-clause-waiting g c =
    let (inner, e) = before_there c.args.work.now.slots c.args.place c.requires.there in
    waiting_stepped c.args.threshold c.args.rows c.args.work.now c.eliminate_at.new.work c.args.place inner c.as_slice.result.now c.args.waiting.now c.renew_all.new.waiting c.requires.sound e
    (c.in_ok-eliminate_at.ensures.done c.if-branch.true inner e)
    (subst (AreTouched c.args.work.now.slots inner.output c.args.place) (sym c.as_slice.ensures.value) (c.in_ok-touched.ensures inner e)) c.requires.waiting
    (subst (λ (t : ℤ). AreRenewed t c.eliminate_at.new.work c.as_slice.result.now c.args.waiting.now c.renew_all.new.waiting) (to_z-of_z w32 c.args.threshold c.ranges.threshold) c.in_ok-renew_all.ensures)
