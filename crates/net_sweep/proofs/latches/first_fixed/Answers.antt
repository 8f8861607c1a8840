use Rattle.std.proofs.Common.{sym}
use Rattle.std.specs.Ordering.{nat_cmp}
use Rattle.std.specs.BTreeSet.{contains}
use Rattle.net_sweep.specs.Latches.{is_fixed}
use Rattle.net_sweep.proofs.Marking.{none_first_from}
use Rattle.net_sweep.proofs.Latching.{first_is_fixed}
use Rattle.net_sweep.proofs.latches.first_fixed.Goals as goal

pub returns-in-Some-bit_at-clause-first : goal.returns-in-Some-bit_at-clause-first
returns-in-Some-bit_at-clause-first c =
    first_is_fixed c.args.aliased.now c.args.slots.now (contains nat_cmp c.loop-place.waiting) c.in-Some.place c.in-Some-bit_at.bit c.loop-place.invariant c.in-Some.ensures.least (sym c.in-Some-bit_at.ensures)

pub returns-clause-first : goal.returns-clause-first
returns-clause-first c =
    none_first_from (is_fixed c.args.aliased.now) (contains nat_cmp c.loop-place.waiting) c.args.slots.now c.pop_least.result c.loop-place.invariant c.in_default.is c.pop_least.ensures.none
