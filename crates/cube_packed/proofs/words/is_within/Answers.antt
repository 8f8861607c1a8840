use Rattle.std.proofs.Common.{◌≡◌, ℕ, ◌+◌, ◌*◌, ◌/◌, length, drop, true, false, sym, ap, ◌∙◌, arith}
use Rattle.cube_packed.specs.Planes.{words_within}
use Rattle.cube_packed.proofs.PlaneBits.{within_answer}
use Rattle.cube_packed.proofs.PlaneLoops.{within_fails, within_goes, within_ends}
use Rattle.cube_packed.proofs.PlaneLanes.{within_block, within_rest}
use Rattle.cube_packed.proofs.words.is_within.Goals as goal

pub returns-then-not-block_is_within : goal.returns-then-not-block_is_within
returns-then-not-block_is_within c =
    let ws = c.args.words.now in
    let vs = c.args.others.now in
    let i = 4 * c.loop-block.block in
    let next : 4 * (c.loop-block.block + 1) ≡ i + 4 = omega arith in
    within_answer ws vs c.requires (λ k. (c.type_inv.words k).fits) false
    (sym (c.loop-block.invariant ∙ within_block ws vs i (4 * (c.loop-block.block + 1)) false c.requires next (sym c.if-not-block_is_within.true ∙ c.block_is_within.ensures ∙ within_rest c.args.words.now c.args.others.now (4 * c.loop-block.block))))

pub loop-block-preserved : goal.loop-block-preserved
loop-block-preserved c =
    let i = 4 * c.loop-block.block in
    let next : 4 * (c.loop-block.block + 1) ≡ i + 4 = omega arith in
    c.loop-block.invariant
    ∙ within_block c.args.words.now c.args.others.now i (4 * (c.loop-block.block + 1)) true c.requires next (sym c.if-not-block_is_within.false ∙ c.block_is_within.ensures ∙ within_rest c.args.words.now c.args.others.now (4 * c.loop-block.block))

pub loop-place-init : goal.loop-place-init
loop-place-init c =
    let end : 4 * c.loop-block.block ≡ 4 * (length c.args.words.now / 4) = omega arith in
    c.loop-block.invariant ∙ ap (λ (i : ℕ). words_within (drop i c.args.words.now) (drop i c.args.others.now)) end

pub returns-then-words-place : goal.returns-then-words-place
returns-then-words-place c =
    let ws = c.args.words.now in
    let vs = c.args.others.now in
    within_answer ws vs c.requires (λ k. (c.type_inv.words k).fits) false
    (sym (c.loop-place.invariant ∙ within_fails ws vs c.loop-place.place (omega arith) (omega arith) c.if-words-place.true))

pub loop-place-preserved : goal.loop-place-preserved
loop-place-preserved c =
    c.loop-place.invariant ∙ within_goes c.args.words.now c.args.others.now c.loop-place.place (omega arith) (omega arith) c.if-words-place.false

pub returns : goal.returns
returns c =
    let ws = c.args.words.now in
    let vs = c.args.others.now in
    within_answer ws vs c.requires (λ k. (c.type_inv.words k).fits) true (sym (c.loop-place.invariant ∙ within_ends ws vs c.loop-place.place (omega arith)))
