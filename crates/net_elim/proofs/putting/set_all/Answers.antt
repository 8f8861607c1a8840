use Rattle.std.proofs.Common.{sym, ◌∙◌, subst}
use Rattle.std.specs.List.{AllByRecursion}
use Rattle.std.proofs.lemmas.List.{nil_from_length}
use Rattle.net_elim.specs.Putting.{IsFit}
use Rattle.net_elim.proofs.Fanouts.{front_of, partly_begun, partly_there, partly_more, partly_ended}
use Rattle.net_elim.proofs.putting.set_all.Goals as goal

pub loop-one-init : goal.loop-one-init
loop-one-init g c = record { fit = c.requires.fit; partly = λ inner are. partly_begun inner c.args.made.items c.args.work.now are }

pub set-requires-clause-there : goal.set-requires-clause-there
set-requires-clause-there g c =
    partly_there c.requires.made.0 c.loop-one.left.items c.pop.new.self.items c.in-Some.one c.args.work.now c.loop-one.work (c.loop-one.invariant.partly c.requires.made.0 c.requires.made.1) c.in-Some.ensures.items

pub set-requires-clause-over : goal.set-requires-clause-over
set-requires-clause-over g c = (front_of IsFit c.pop.new.self.items c.in-Some.one (subst (AllByRecursion IsFit) c.in-Some.ensures.items c.loop-one.invariant.fit)).1.over

pub set-requires-clause-once : goal.set-requires-clause-once
set-requires-clause-once g c = (front_of IsFit c.pop.new.self.items c.in-Some.one (subst (AllByRecursion IsFit) c.in-Some.ensures.items c.loop-one.invariant.fit)).1.once

pub loop-one-preserved : goal.loop-one-preserved
loop-one-preserved g c = record {
  fit = (front_of IsFit c.pop.new.self.items c.in-Some.one (subst (AllByRecursion IsFit) c.in-Some.ensures.items c.loop-one.invariant.fit)).0;
  partly = λ inner are.
      partly_more inner c.loop-one.left.items c.pop.new.self.items c.in-Some.one c.args.work.now c.loop-one.work c.set.new.self (c.loop-one.invariant.partly inner are) c.in-Some.ensures.items c.in_ok-set.ensures;
}

pub returns : goal.returns
returns g c = λ inner are.
    partly_ended inner c.loop-one.left.items c.args.work.now c.loop-one.work (c.loop-one.invariant.partly inner are) (nil_from_length _ (sym c.loop-one.left.ok.0 ∙ c.in_default.ensures.cases.0))
