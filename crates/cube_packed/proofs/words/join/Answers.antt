use Rattle.std.proofs.Common.{◌≡◌, ℕ, ◌+◌, ◌*◌, ◌/◌, length, subst, arith}
use Rattle.cube_packed.proofs.PlaneLoops.{IsJoinedTo, joined_more, joined_ends}
use Rattle.cube_packed.proofs.PlaneLanes.{joined_block}
use Rattle.cube_packed.proofs.words.join.Goals as goal

pub loop-block-preserved : goal.loop-block-preserved
loop-block-preserved c =
    let next : 4 * (c.loop-block.block + 1) ≡ 4 * c.loop-block.block + 4 = omega arith in
    joined_block c.args.words.now c.args.others.now c.loop-block.words (4 * c.loop-block.block) (4 * (c.loop-block.block + 1)) c.requires c.loop-block.auto.words next (omega arith) c.loop-block.invariant

pub loop-place-init : goal.loop-place-init
loop-place-init c =
    let end : 4 * c.loop-block.block ≡ 4 * (length c.args.words.now / 4) = omega arith in
    subst (λ (i : ℕ). IsJoinedTo c.args.words.now c.args.others.now c.loop-block.words i) end c.loop-block.invariant

pub loop-place-preserved : goal.loop-place-preserved
loop-place-preserved c =
    joined_more c.args.words.now c.args.others.now c.loop-place.words c.loop-place.place c.requires (omega arith) (omega arith) c.loop-place.invariant

pub returns : goal.returns
returns c =
    joined_ends c.args.words.now c.args.others.now c.loop-place.words c.loop-place.place c.requires (omega arith) (omega arith) c.loop-place.invariant
