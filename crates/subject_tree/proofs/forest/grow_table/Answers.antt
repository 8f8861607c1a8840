use Rattle.std.proofs.Common.{bytes_eq}
use Rattle.indexmap.specs.IndexMap.{get}
use Rattle.subject_tree.proofs.Reading.{table-told}
use Rattle.subject_tree.proofs.forest.grow_table.Goals as goal

pub returns-clause-tree : goal.returns-clause-tree
returns-clause-tree c tree read =
    table-told c.args.arena.now c.read_signals.new.arena c.table_number.new.arena c.args.leaves.now c.read_signals.new.leaves (get bytes_eq c.args.numbers.now) c.as_slice.result.now c.in_ok-inputs.inputs.items c.as_slice-2.result.now c.args.table.now c.in_ok-made.made tree
    c.as_slice.ensures c.as_slice-2.ensures.value c.in_ok-made.ensures.ok c.in_ok-inputs.ensures.trees read
