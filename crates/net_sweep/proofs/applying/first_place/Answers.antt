use Rattle.std.proofs.Common.{sym, ◌∙◌}
use Rattle.std.specs.Ordering.{nat_cmp}
use Rattle.std.specs.BTreeSet.{contains}
use Rattle.net_sweep.specs.Settled.{passes}
use Rattle.net_sweep.proofs.Finds.{all_wide}
use Rattle.net_sweep.proofs.Marking.{least_first, none_first_from, none_marked_from, marked_less, marked_back}
use Rattle.net_sweep.proofs.applying.first_place.Goals as goal

pub applies_at-requires : goal.applies_at-requires
applies_at-requires g c = all_wide c.args.aliased.now.tables c.requires.sound.shaped

pub returns-then-branch-clause-first : goal.returns-then-branch-clause-first
returns-then-branch-clause-first g c =
    least_first (passes c.args.rule c.args.aliased.now.tables) (contains nat_cmp c.loop-place.waiting) c.args.aliased.now.tables c.in-Some.place c.loop-place.invariant c.in-Some.ensures.least
    (sym c.in_ok-applies_at.ensures ∙ c.if-branch.true)

pub returns-then-branch-clause-candidates : goal.returns-then-branch-clause-candidates
returns-then-branch-clause-candidates g c =
    marked_back (passes c.args.rule c.args.aliased.now.tables) (contains nat_cmp c.loop-place.waiting) (contains nat_cmp c.pop_least.new.set) (contains nat_cmp c.put_place.new.set) c.args.aliased.now.tables c.in-Some.place
    c.loop-place.invariant c.in-Some.ensures.rest c.in_ok-put_place.ensures

pub loop-place-preserved : goal.loop-place-preserved
loop-place-preserved g c =
    marked_less (passes c.args.rule c.args.aliased.now.tables) (contains nat_cmp c.loop-place.waiting) (contains nat_cmp c.pop_least.new.set) c.args.aliased.now.tables c.in-Some.place c.loop-place.invariant c.in-Some.ensures.rest
    (sym c.in_ok-applies_at.ensures ∙ c.if-branch.false)

pub returns-clause-first : goal.returns-clause-first
returns-clause-first g c =
    none_first_from (passes c.args.rule c.args.aliased.now.tables) (contains nat_cmp c.loop-place.waiting) c.args.aliased.now.tables c.pop_least.result c.loop-place.invariant c.in_default.is c.pop_least.ensures.none

pub returns-clause-candidates : goal.returns-clause-candidates
returns-clause-candidates g c =
    none_marked_from (passes c.args.rule c.args.aliased.now.tables) (contains nat_cmp c.loop-place.waiting) (contains nat_cmp c.pop_least.new.set) c.args.aliased.now.tables c.pop_least.result c.loop-place.invariant c.in_default.is c.pop_least.ensures.none
