use Rattle.std.proofs.Common.{◌≡◌, sym, ap, ◌∙◌, length, arith}
use Rattle.circuit_model.specs.Levels.{bits_to, settled_bits}
use Rattle.circuit_model.proofs.LevelValues.{settled_more, settled_early}
use Rattle.circuit_model.proofs.simulation.settle.Goals as goal

pub loop-depth-init : goal.loop-depth-init
unfolding bits_to
loop-depth-init c = c.in_ok-bits.ensures

pub returns-then-are_equal : goal.returns-then-are_equal
returns-then-are_equal c =
    settled_early c.args.tables.now c.args.reads.now c.args.front.now c.args.back.now c.loop-depth.depth c.loop-depth.bits.items c.in_ok-next.next.items c.loop-depth-test.true c.loop-depth.invariant
    (rw (← c.as_slice.ensures.value) c.in_ok-next.ensures)
    (sym c.as_slice-in-loop-depth.ensures.value ∙ (c.are_equal.ensures.0 c.if-are_equal.true ∙ c.as_slice-in-loop-depth-2.ensures.value))

pub loop-depth-preserved : goal.loop-depth-preserved
loop-depth-preserved c =
    settled_more c.args.tables.now c.args.reads.now c.args.front.now c.args.back.now c.loop-depth.depth c.loop-depth.bits.items c.in_ok-next.next.items c.loop-depth.invariant
    (rw (← c.as_slice.ensures.value) c.in_ok-next.ensures)

pub returns : goal.returns
unfolding settled_bits
returns c =
    let all : c.loop-depth.depth ≡ length c.args.tables.now = omega arith in
    c.loop-depth.invariant ∙ ap (bits_to c.args.tables.now c.args.reads.now c.args.front.now c.args.back.now) all
