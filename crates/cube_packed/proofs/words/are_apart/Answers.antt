use Rattle.std.proofs.Common.{◌≡◌, ℕ, ◌+◌, ◌*◌, ◌/◌, length, drop, true, false, sym, ap, ◌∙◌, arith}
use Rattle.cube_packed.specs.Planes.{words_apart}
use Rattle.cube_packed.proofs.PlaneBits.{apart_answer}
use Rattle.cube_packed.proofs.PlaneLoops.{apart_fails, apart_goes, apart_ends}
use Rattle.cube_packed.proofs.PlaneLanes.{apart_block, apart_rest}
use Rattle.cube_packed.proofs.words.are_apart.Goals as goal

pub returns-then-not-block_is_apart : goal.returns-then-not-block_is_apart
returns-then-not-block_is_apart c =
    let ws = c.args.words.now in
    let vs = c.args.others.now in
    let i = 4 * c.loop-block.block in
    let next : 4 * (c.loop-block.block + 1) ≡ i + 4 = omega arith in
    apart_answer ws vs (λ k. (c.type_inv.words k).fits) false
    (sym (c.loop-block.invariant ∙ apart_block ws vs i (4 * (c.loop-block.block + 1)) false c.requires next (sym c.if-not-block_is_apart.true ∙ c.block_is_apart.ensures ∙ apart_rest c.args.words.now c.args.others.now (4 * c.loop-block.block))))

pub loop-block-preserved : goal.loop-block-preserved
loop-block-preserved c =
    let i = 4 * c.loop-block.block in
    let next : 4 * (c.loop-block.block + 1) ≡ i + 4 = omega arith in
    c.loop-block.invariant
    ∙ apart_block c.args.words.now c.args.others.now i (4 * (c.loop-block.block + 1)) true c.requires next (sym c.if-not-block_is_apart.false ∙ c.block_is_apart.ensures ∙ apart_rest c.args.words.now c.args.others.now (4 * c.loop-block.block))

pub loop-place-init : goal.loop-place-init
loop-place-init c =
    let end : 4 * c.loop-block.block ≡ 4 * (length c.args.words.now / 4) = omega arith in
    c.loop-block.invariant ∙ ap (λ (i : ℕ). words_apart (drop i c.args.words.now) (drop i c.args.others.now)) end

pub returns-then-words-place-ne0 : goal.returns-then-words-place-ne0
returns-then-words-place-ne0 c =
    let ws = c.args.words.now in
    let vs = c.args.others.now in
    apart_answer ws vs (λ k. (c.type_inv.words k).fits) false
    (sym (c.loop-place.invariant ∙ apart_fails ws vs c.loop-place.place (omega arith) (omega arith) c.if-words-place-ne0.true))

pub loop-place-preserved : goal.loop-place-preserved
loop-place-preserved c =
    c.loop-place.invariant ∙ apart_goes c.args.words.now c.args.others.now c.loop-place.place (omega arith) (omega arith) c.if-words-place-ne0.false

pub returns : goal.returns
returns c =
    let ws = c.args.words.now in
    let vs = c.args.others.now in
    apart_answer ws vs (λ k. (c.type_inv.words k).fits) true (sym (c.loop-place.invariant ∙ apart_ends ws vs c.loop-place.place (omega arith)))
