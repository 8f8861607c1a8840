use Rattle.std.proofs.Common.{List, bytes_eq, subst, arith}
use Rattle.indexmap.specs.IndexMap.{get}
use Rattle.circuit_model.specs.Soundness.{IsShaped}
use Rattle.circuit_model.specs.declared.circuit.Table.{Table}
use Rattle.subject_tree.specs.Roots.{AreRoots}
use Rattle.subject_tree.proofs.Joining.{kept_on}
use Rattle.subject_tree.proofs.Reading.{named_on, taken-all}
use Rattle.subject_tree.proofs.Rooting.{all_tables, roots-next, roots_all}
use Rattle.subject_tree.proofs.forest.grow_roots.Goals as goal

pub add_if_root-requires-clause-shaped : goal.add_if_root-requires-clause-shaped
add_if_root-requires-clause-shaped c =
    all_tables IsShaped c.args.tables.now c.loop-place.place c.index-tables-place.result c.requires.shaped c.loop-place-test.true c.index-tables-place.is

pub loop-place-preserved : goal.loop-place-preserved
loop-place-preserved c = record {
  kept = kept_on c.args.arena.now c.loop-place.arena c.add_if_root.new.arena c.loop-place.invariant.kept c.in_ok-add_if_root.ensures.kept;
  named = named_on c.args.leaves.now c.loop-place.leaves c.add_if_root.new.leaves c.loop-place.invariant.named c.in_ok-add_if_root.ensures.named;
  taken = λ signal. taken-all c.loop-place.arena c.add_if_root.new.arena (get bytes_eq c.args.numbers.now signal) c.in_ok-add_if_root.ensures.kept (c.loop-place.invariant.taken signal);
  roots = λ circuit tree is read.
      roots-next circuit c.args.tables.now c.args.fates.now c.args.arena.now c.loop-place.arena c.add_if_root.new.arena c.args.leaves.now c.loop-place.leaves c.add_if_root.new.leaves (get bytes_eq c.args.numbers.now) c.loop-place.place c.index-tables-place.result c.is_root_at-is_root.result
      c.loop-place.roots.items c.add_if_root.new.roots.items tree is c.loop-place-test.true c.index-tables-place.is c.is_root_at-is_root.ensures c.loop-place.invariant.kept c.loop-place.invariant.named c.requires.taken read c.in_ok-add_if_root.ensures.added (c.loop-place.invariant.roots circuit tree is read);
}

pub returns : goal.returns
returns c circuit tree same is read =
    subst (λ (ts : List Table). AreRoots c.loop-place.arena c.loop-place.leaves tree ts c.loop-place.roots.items) (roots_all circuit c.args.tables.now c.loop-place.place same (omega arith)) (c.loop-place.invariant.roots circuit tree is read)
