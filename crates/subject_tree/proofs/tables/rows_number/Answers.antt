use Rattle.std.proofs.Common.{◌-◌, List, refl, subst, arith}
use Rattle.circuit_model.specs.declared.circuit.Tri.{Tri}
use Rattle.subject_tree.specs.Tables.{row_tree, trees_of, Finds}
use Rattle.subject_tree.proofs.Joining.{taken-kept, rows_begun, rows_step, kept_on}
use Rattle.subject_tree.proofs.tables.rows_number.Goals as goal

pub loop-place-init : goal.loop-place-init
loop-place-init c = record {
  within = omega arith;
  kept = λ n lt. (lt, refl);
  finds = rows_begun (trees_of c.args.arena.now c.args.inputs.now) c.args.rows.now;
}

pub row_number-requires-clause-taken : goal.row_number-requires-clause-taken
row_number-requires-clause-taken c =
    taken-kept c.args.arena.now c.loop-place.arena c.args.inputs.now c.loop-place.invariant.kept c.requires.taken

pub loop-place-preserved : goal.loop-place-preserved
loop-place-preserved c = record {
  within = omega (arith, c.loop-place.invariant.within);
  kept = kept_on c.args.arena.now c.row_number.new.arena c.with_row.new.arena (kept_on c.args.arena.now c.loop-place.arena c.row_number.new.arena c.loop-place.invariant.kept c.in_ok-row.ensures.kept) c.in_ok-made.ensures.kept;
  finds = rows_step c.args.arena.now c.loop-place.arena c.row_number.new.arena c.with_row.new.arena c.args.inputs.now c.args.rows.now (c.loop-place.place - 1) c.loop-place.place c.index-rows-place.result c.in_ok-row.row c.loop-place.made c.in_ok-made.made (omega arith)
      c.loop-place.invariant.within c.loop-place.invariant.kept c.in_ok-row.ensures.kept c.requires.taken c.index-rows-place.is c.loop-place.invariant.finds
      (subst (λ (r : List Tri). Finds c.row_number.new.arena c.in_ok-row.row (row_tree (trees_of c.loop-place.arena c.args.inputs.now) r)) c.as_slice.ensures c.in_ok-row.ensures.ok) c.in_ok-made.ensures.ok;
}
