use Rattle.subject_tree.proofs.Rooting.{roots-same, roots-one}
use Rattle.subject_tree.proofs.forest.add_if_root.Goals as goal

pub returns-in_ok-add_root-clause-added : goal.returns-in_ok-add_root-clause-added
returns-in_ok-add_root-clause-added c tree tables read full are =
    roots-one c.add_root.new.arena c.add_root.new.leaves tree tables c.args.table.now c.add_root.new.roots.items c.args.is_root c.if-is_root.true (c.in_ok-add_root.ensures.added tree tables read (full c.if-is_root.true) are)

pub returns-else-is_root-clause-added : goal.returns-else-is_root-clause-added
returns-else-is_root-clause-added c tree tables read full are =
    roots-same c.args.arena.now c.args.leaves.now tree tables c.args.table.now c.args.roots.now.items c.args.is_root c.if-is_root.false are
