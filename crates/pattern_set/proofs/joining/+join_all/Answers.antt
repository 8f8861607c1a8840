use Rattle.std.proofs.Common.{ℕ, ◌-◌, ◌∷◌, List, length, get_or, sym, ap, ◌∙◌, subst, arith}
use borrow.Author.Tests.{eqb-true}
use Rattle.subject_tree.specs.Tables.{AreTaken}
use Rattle.subject_tree.proofs.Joining.{taken-kept, kept_on}
use Rattle.pattern_set.specs.Lists.{join_by}
use Rattle.pattern_set.specs.Numbers.{set_trees}
use Rattle.pattern_set.proofs.Numbering.{none_by_depth, none_by_places, one_by_place, sets_kept, parting_more, all_partings_made, some_left}
use Rattle.pattern_set.proofs.joining.+join_all.Goals as goal

pub returns-then-depth-eq0-clause-ok : goal.returns-then-depth-eq0-clause-ok
returns-then-depth-eq0-clause-ok t c =
    none_by_depth (join_by c.args.kind) (set_trees c.args.arena.now c.args.sets.now) c.args.arena.now c.args.depth c.args.places.now c.new.result.items (omega arith) c.new.ensures.items

pub returns-then-is_empty-clause-ok : goal.returns-then-is_empty-clause-ok
returns-then-is_empty-clause-ok t c =
    none_by_places (join_by c.args.kind) (set_trees c.args.arena.now c.args.sets.now) c.args.arena.now c.args.depth c.args.places.now c.new-then-is_empty.result.items
    (eqb-true (length c.args.places.now) 0 (sym c.is_empty.ensures ∙ c.if-is_empty.true)) c.new-then-is_empty.ensures.items

pub returns-then-is_empty-2-clause-ok : goal.returns-then-is_empty-2-clause-ok
returns-then-is_empty-2-clause-ok t c =
    one_by_place (join_by c.args.kind) c.args.arena.now c.args.sets.now c.args.depth c.args.places.now c.rest_of-rest.result.now c.in_ok-set.set.items c.requires (omega arith)
    (some_left (length c.args.places.now) c.is_empty.result c.is_empty.ensures c.if-is_empty.false) c.rest_of-rest.ensures
    (eqb-true (length c.rest_of-rest.result.now) 0 (sym c.is_empty-2.ensures ∙ c.if-is_empty-2.true)) c.in_ok-set.ensures

pub join_all-requires : goal.join_all-requires
join_all-requires t c = (omega arith, (sets_kept c.args.arena.now c.loop-parting.arena c.args.sets.now c.loop-parting.invariant.kept c.requires).0)

pub join_all-requires-in-loop-parting : goal.join_all-requires-in-loop-parting
join_all-requires-in-loop-parting t c =
    (omega arith, (sets_kept c.args.arena.now c.join_all.new.arena c.args.sets.now (kept_on c.args.arena.now c.loop-parting.arena c.join_all.new.arena c.loop-parting.invariant.kept c.in_ok-lefts.ensures.kept) c.requires).0)

pub cross-requires-clause-lefts : goal.cross-requires-clause-lefts
cross-requires-clause-lefts t c =
    subst (λ (ns : List ℕ). AreTaken c.join_all-in-loop-parting.new.arena ns) (sym c.as_slice-in-loop-parting-3.ensures.value)
    (taken-kept c.join_all.new.arena c.join_all-in-loop-parting.new.arena c.in_ok-lefts.lefts.items c.in_ok-rights.ensures.kept c.in_ok-lefts.ensures.ok.0)

pub cross-requires-clause-made : goal.cross-requires-clause-made
cross-requires-clause-made t c =
    taken-kept c.loop-parting.arena c.join_all-in-loop-parting.new.arena c.loop-parting.made.items
    (kept_on c.loop-parting.arena c.join_all.new.arena c.join_all-in-loop-parting.new.arena c.in_ok-lefts.ensures.kept c.in_ok-rights.ensures.kept) c.loop-parting.invariant.made.0

pub loop-parting-preserved : goal.loop-parting-preserved
loop-parting-preserved t c = record {
  kept = kept_on c.args.arena.now c.loop-parting.arena c.cross.new.arena c.loop-parting.invariant.kept
      (kept_on c.loop-parting.arena c.join_all.new.arena c.cross.new.arena c.in_ok-lefts.ensures.kept (kept_on c.join_all.new.arena c.join_all-in-loop-parting.new.arena c.cross.new.arena c.in_ok-rights.ensures.kept c.in_ok-cross.ensures.kept));
  made = parting_more (join_by c.args.kind) c.args.arena.now c.loop-parting.arena c.join_all.new.arena c.join_all-in-loop-parting.new.arena c.cross.new.arena c.args.sets.now (c.args.depth - 1) (get_or c.args.places.now 0 0)
      c.loop-parting.parting-index c.as_slice-in-loop-parting.result.now c.as_slice-in-loop-parting-2.result.now c.in_ok-lefts.lefts.items c.in_ok-rights.rights.items c.as_slice-in-loop-parting-3.result.now
      c.as_slice-in-loop-parting-4.result.now c.loop-parting.made.items c.cross.new.made.items c.deref-parting-items.result.now c.parting-item.result c.loop-parting.invariant.kept c.in_ok-lefts.ensures.kept
      c.in_ok-rights.ensures.kept c.requires c.loop-parting-test.true c.parting-item.is
      (c.as_slice-in-loop-parting.ensures ∙ (c.in_ok-first.ensures ∙ ap (λ (ns : List ℕ). get_or c.args.places.now 0 0 ∷ ns) c.as_slice.ensures)) c.as_slice-in-loop-parting-2.ensures
      c.as_slice-in-loop-parting-3.ensures.value c.as_slice-in-loop-parting-4.ensures.value c.loop-parting.invariant.made c.in_ok-lefts.ensures.ok c.in_ok-rights.ensures.ok c.in_ok-cross.ensures.ok;
}

pub returns-clause-ok : goal.returns-clause-ok
returns-clause-ok t c =
    all_partings_made (join_by c.args.kind) c.args.arena.now c.loop-parting.arena c.args.sets.now c.args.depth c.args.places.now c.rest_of-rest.result.now c.loop-parting.made.items c.loop-parting.parting-index c.in_ok-all.all.items
    c.deref-parting-items.result.now (omega arith) c.rest_of-rest.ensures (some_left (length c.rest_of-rest.result.now) c.is_empty-2.result c.is_empty-2.ensures c.if-is_empty-2.false) c.deref-parting-items.ensures.value c.in_ok-all.ensures
    (omega arith) c.loop-parting.invariant.made
