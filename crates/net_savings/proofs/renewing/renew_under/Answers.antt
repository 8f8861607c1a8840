use Rattle.std.proofs.Common.{List, sym, ◌∙◌, subst}
use Rattle.std.proofs.lemmas.List.{take_all}
use Rattle.alg_div.specs.Cubes.{Has}
use Rattle.alg_div.proofs.Lists.{Has-at}
use Rattle.alg_tables.proofs.Quotients.{kept_has}
use Rattle.cover_names.specs.Literals.{NamedCover}
use Rattle.net_savings.specs.Meeting.{is_met}
use Rattle.net_savings.specs.Ranking.{covers_under}
use Rattle.net_savings.proofs.Refreshed.{named_literal, under_right, grown_both, right_next}
use Rattle.net_savings.proofs.renewing.renew_under.Goals as goal

pub renew-requires-clause-some : goal.renew-requires-clause-some
renew-requires-clause-some g c =
    named_literal c.cover-item.result c.args.touched.now
    (c.requires.found.named c.args.touched.now c.cover-item.result
    (kept_has (is_met c.args.rows.now) (covers_under c.args.ranked.now c.args.touched.now) c.cover-item.result
    (subst (λ (covers : List NamedCover). Has c.cover-item.result covers) (c.deref-cover-items.ensures.value ∙ c.in_ok-covers.ensures)
    (subst (λ (cover : NamedCover). Has cover c.deref-cover-items.result.now) (sym c.cover-item.is) (Has-at c.deref-cover-items.result.now c.loop-cover.cover-index c.cover-item.result c.loop-cover-test.true)))).0)

pub loop-cover-preserved : goal.loop-cover-preserved
loop-cover-preserved g c = record {
  grown = grown_both c.args.work.now c.args.ranked.now c.loop-cover.ranked c.renew.new.ranked c.loop-cover.invariant.grown c.in_ok-renew.ensures.grown;
  right = right_next c.args.work.now c.loop-cover.ranked c.renew.new.ranked c.in_ok-renew.ensures.grown c.deref-cover-items.result.now c.loop-cover.cover-index c.cover-item.result c.cover-item.result c.loop-cover-test.true
      c.cover-item.is c.loop-cover.invariant.right c.in_ok-renew.ensures.right;
}

pub returns-clause-right : goal.returns-clause-right
returns-clause-right g c = λ cover by m.
    under_right c.args.work.now c.args.ranked.now c.loop-cover.ranked c.loop-cover.invariant.grown c.deref-cover-items.result.now c.args.touched.now (is_met c.args.rows.now) (c.deref-cover-items.ensures.value ∙ c.in_ok-covers.ensures)
    (λ cover m. c.loop-cover.invariant.right cover (subst (λ (covers : List NamedCover). Has cover covers) (sym (take_all c.loop-cover.cover-index c.deref-cover-items.result.now c.loop-cover-test.false)) m)) cover by m
