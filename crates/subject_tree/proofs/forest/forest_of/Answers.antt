use Rattle.std.proofs.Common.{refl, arith}
use Rattle.subject_tree.specs.Roots.{roots_of}
use Rattle.subject_tree.proofs.Rooting.{forest_large, forest_small, roots_small}
use Rattle.subject_tree.proofs.forest.forest_of.Goals as goal

pub returns-clause-ok : goal.returns-clause-ok
returns-clause-ok c =
    let (tree, trees) = c.forest_trees_are_there.ensures c.args.circuit.now c.requires.acyclic c.requires.shaped in
    let roots = c.in_ok-roots.ensures tree trees in (
      tree,
      trees,
      c.in_ok-arena.ensures.roots c.plant.new.leaves tree (roots_of c.args.circuit.now) roots
          (roots_small _ c.plant.new.arena _ c.in_ok-roots.roots.items c.in_ok-total.total c.in_ok-total.ensures refl c.as_slice.ensures.value (omega arith)),
      forest_small _ c.plant.new.arena _ c.in_ok-roots.roots.items c.plant.new.leaves tree (roots_of c.args.circuit.now) c.in_ok-total.total c.in_ok-total.ensures refl c.as_slice.ensures.value roots (omega arith),
    )

pub returns-then-total-gt-MAX_VERTICES-clause-limit : goal.returns-then-total-gt-MAX_VERTICES-clause-limit
returns-then-total-gt-MAX_VERTICES-clause-limit c is =
    let (tree, trees) = c.forest_trees_are_there.ensures c.args.circuit.now c.requires.acyclic c.requires.shaped in
    (tree, trees, forest_large _ c.plant.new.arena _ c.in_ok-roots.roots.items c.plant.new.leaves tree (roots_of c.args.circuit.now) c.in_ok-total.total c.in_ok-total.ensures refl c.as_slice.ensures.value (c.in_ok-roots.ensures tree trees) (omega arith))
