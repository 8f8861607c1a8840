use Rattle.std.proofs.Common.{◌≡◌, true, List, ℕ, sym, subst}
use Rattle.std.proofs.lemmas.List.{take_all}
use Rattle.circuit_model.specs.Names.{has}
use Rattle.cover_names.specs.Literals.{Cube}
use Rattle.net_savings.specs.Meeting.{is_met}
use Rattle.net_savings.proofs.Refreshed.{grown_both, touched_next}
use Rattle.net_savings.proofs.renewing.renew_touched.Goals as goal

pub loop-one-preserved : goal.loop-one-preserved
loop-one-preserved g c = record {
  found = c.in_ok-renew_under.ensures.grown.found c.loop-one.invariant.found;
  grown = grown_both c.args.work.now c.args.ranked.now c.loop-one.ranked c.renew_under.new.ranked c.loop-one.invariant.grown c.in_ok-renew_under.ensures.grown;
  right = touched_next c.args.work.now c.loop-one.ranked c.renew_under.new.ranked c.in_ok-renew_under.ensures.grown c.args.touched.now (is_met c.args.changed.items) c.loop-one.one-index c.one-item.result c.one-item.result c.loop-one-test.true
      c.one-item.is c.loop-one.invariant.right
      (λ cover by. c.in_ok-renew_under.ensures.right cover (subst (λ (rows : List Cube). is_met rows cover ≡ true) (sym c.in_ok-rows.ensures) by));
}

pub returns-clause-right : goal.returns-clause-right
returns-clause-right g c = λ under cover h by m.
    c.loop-one.invariant.right under cover (subst (λ (names : List (List ℕ)). has names under ≡ true) (sym (take_all c.loop-one.one-index c.args.touched.now c.loop-one-test.false)) h) by m
