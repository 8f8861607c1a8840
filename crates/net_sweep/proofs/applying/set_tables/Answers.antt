use Rattle.std.proofs.Common.{ℕ, ◌<◌, Some, refl, sym, ap, ◌∙◌, subst}
use Rattle.net_wires.proofs.Searching.{at_place}
use Rattle.net_sweep.proofs.Rewiring.{set_within, set_more}
use Rattle.net_sweep.proofs.applying.set_tables.Goals as goal

pub set-requires : goal.set-requires
set-requires c = set_within c.args.places.now _ c.args.tables.now c.args.aliased.now c.loop-i.aliased c.loop-i.i _ 0 c.loop-i.invariant c.loop-i-test.true refl c.requires.within

pub loop-i-preserved : goal.loop-i-preserved
loop-i-preserved c =
    set_more c.args.places.now c.args.tables.now c.args.aliased.now c.loop-i.aliased c.set.new.self c.loop-i.i _ 0 c.in_ok-copy.field-0 c.loop-i.invariant c.loop-i-test.true refl
    (set_within c.args.places.now _ c.args.tables.now c.args.aliased.now c.loop-i.aliased c.loop-i.i _ 0 c.loop-i.invariant c.loop-i-test.true refl c.requires.within)
    (at_place c.args.tables.now c.loop-i.i c.index-tables-i.result (subst (λ (n : ℕ). c.loop-i.i < n) (sym c.requires.each) c.loop-i-test.true) c.index-tables-i.is ∙ ap Some (sym c.in_ok-copy.ensures))
    c.in_ok-set.ensures
