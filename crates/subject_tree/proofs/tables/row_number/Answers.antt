use Rattle.std.proofs.Common.{◌-◌, ◌<◌, length, refl, arith}
use Rattle.subject_tree.proofs.Joining.{all_at, row_begun, row_step, kept_on}
use Rattle.subject_tree.proofs.tables.row_number.Goals as goal

pub loop-place-init : goal.loop-place-init
loop-place-init c = record {
  within = omega arith;
  kept = λ n lt. (lt, refl);
  finds = row_begun c.args.arena.now c.args.inputs.now c.args.row.now;
}

pub with_literal-requires-clause-input : goal.with_literal-requires-clause-input
with_literal-requires-clause-input c =
    (c.loop-place.invariant.kept _ (all_at (λ n. n < length c.args.arena.now) c.args.inputs.now (c.loop-place.place - 1) 0 c.requires.taken (omega (arith, c.loop-place.invariant.within)))).0

pub loop-place-preserved : goal.loop-place-preserved
loop-place-preserved c = record {
  within = omega (arith, c.loop-place.invariant.within);
  kept = kept_on c.args.arena.now c.loop-place.arena c.with_literal.new.arena c.loop-place.invariant.kept c.in_ok-made.ensures.kept;
  finds = row_step c.args.arena.now c.loop-place.arena c.with_literal.new.arena c.args.inputs.now c.args.row.now (c.loop-place.place - 1) c.loop-place.place _ c.loop-place.made c.in_ok-made.made (omega arith)
      c.loop-place.invariant.within c.requires.width c.loop-place.invariant.kept c.requires.taken c.loop-place.invariant.finds c.in_ok-made.ensures.ok;
}
