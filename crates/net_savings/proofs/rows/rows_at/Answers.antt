use Rattle.std.proofs.Common.{ℕ, List, [], take, sym, subst}
use Rattle.std.proofs.lemmas.List.{take_all, take_more}
use Rattle.cover_names.specs.Literals.{Cube}
use Rattle.net_savings.specs.Indexed.{AreTold}
use Rattle.net_savings.specs.declared.rows.RowSpan.{RowSpan}
use Rattle.net_savings.proofs.Told.{told_none_yet}
use Rattle.net_savings.proofs.rows.rows_at.Goals as goal

pub loop-place-init : goal.loop-place-init
loop-place-init g c =
    subst (λ (others : List ℕ). AreTold c.args.work.now [] c.new-rows.result.items c.new-spans.result.items others) (sym c.new-others.ensures.items)
    (subst (λ (spans : List RowSpan). AreTold c.args.work.now [] c.new-rows.result.items spans []) (sym c.new-spans.ensures.items)
    (subst (λ (rows : List Cube). AreTold c.args.work.now [] rows [] []) (sym c.new-rows.ensures.items) (told_none_yet c.args.work.now)))

pub loop-place-preserved : goal.loop-place-preserved
loop-place-preserved g c =
    subst (λ (places : List ℕ). AreTold c.args.work.now places c.add_place.new.rows.items c.add_place.new.spans.items c.add_place.new.others.items)
    (sym (take_more c.args.places.now c.loop-place.place-index 0 c.loop-place-test.true))
    (c.in_ok-add_place.ensures (take c.loop-place.place-index c.args.places.now) c.loop-place.invariant)

pub returns : goal.returns
returns g c =
    subst (λ (places : List ℕ). AreTold c.args.work.now places c.loop-place.rows.items c.loop-place.spans.items c.loop-place.others.items) (take_all c.loop-place.place-index c.args.places.now c.loop-place-test.false) c.loop-place.invariant
