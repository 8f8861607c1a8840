use Rattle.std.proofs.Common.{◌^◌, refl, arith}
use Rattle.circuit_model.specs.Counts.{literals_of_table}
use Rattle.net_core.specs.Places.{present}
use Rattle.net_core.specs.Reads.{IsBounded}
use Rattle.net_core.proofs.Counting.{sum_slots, sum_small, all_present_at}
use Rattle.net_core.proofs.reads.slots_literals.Goals as goal

pub loop-slot-init : goal.loop-slot-init
unfolding present
loop-slot-init g c = (refl, omega arith)

pub slot_literals-total-requires : goal.slot_literals-total-requires
slot_literals-total-requires g c = all_present_at IsBounded c.args.slots.now c.loop-slot.slot-index c.slot-item.result c.requires.rows c.loop-slot-test.true c.slot-item.is

pub overflow_add-total : goal.overflow_add-total
overflow_add-total g c =
    let sums = sum_slots literals_of_table (2 ^ 97) c.args.slots.now c.loop-slot.slot-index c.slot-item.result c.loop-slot.total c.slot_literals-total.result c.loop-slot-test.true c.slot-item.is c.loop-slot.invariant c.slot_literals-total.ensures.literals c.slot_literals-total.ensures.bound in
    omega (arith, sum_small c.args.slots.now _ (2 ^ 97) _ sums.1 c.requires.few)

pub loop-slot-preserved : goal.loop-slot-preserved
loop-slot-preserved g c =
    sum_slots literals_of_table (2 ^ 97) c.args.slots.now c.loop-slot.slot-index c.slot-item.result c.loop-slot.total c.slot_literals-total.result c.loop-slot-test.true c.slot-item.is c.loop-slot.invariant c.slot_literals-total.ensures.literals c.slot_literals-total.ensures.bound
