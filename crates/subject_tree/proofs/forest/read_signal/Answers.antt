use Rattle.std.proofs.Common.{bytes_eq}
use Rattle.indexmap.specs.IndexMap.{get}
use Rattle.subject_tree.proofs.Reading.{leaf-told}
use Rattle.subject_tree.proofs.forest.read_signal.Goals as goal

pub returns-in_ok-number-in-None-clause-tree : goal.returns-in_ok-number-in-None-clause-tree
returns-in_ok-number-in-None-clause-tree c t read =
    leaf-told c.leaf.new.self c.args.arena.now c.place_of.new.self c.args.leaves.now c.args.signal.now c.in_ok-copy-in-None.field-0 c.in_ok-place-in-None.place c.in_ok-number-in-None.number (get bytes_eq c.args.numbers.now c.args.signal.now) c.find.result t
    c.in_ok-copy-in-None.ensures c.find.ensures c.in-None.is c.in_ok-place-in-None.ensures.ok c.in_ok-number-in-None.ensures.ok read
