use Rattle.std.proofs.Common.{bytes_eq}
use Rattle.indexmap.specs.IndexMap.{get}
use Rattle.subject_tree.proofs.Planting.{grown-more, noted-taken}
use Rattle.subject_tree.proofs.forest.grow_put.Goals as goal

pub returns-clause-taken : goal.returns-clause-taken
returns-clause-taken c =
    noted-taken c.args.arena.now c.grow_table.new.arena (get bytes_eq c.args.numbers.now) (get bytes_eq c.note_made.new.numbers) c.args.table.now.output c.in_ok-made.made c.in_ok-made.ensures.kept c.requires.taken c.in_ok-made.ensures.taken c.in_ok-note_made.ensures

pub returns-clause-grown : goal.returns-clause-grown
returns-clause-grown c circuit =
    grown-more circuit c.args.arena.now c.grow_table.new.arena c.args.leaves.now c.grow_table.new.leaves (get bytes_eq c.args.numbers.now) (get bytes_eq c.note_made.new.numbers) c.args.table.now c.in_ok-made.made c.in_ok-made.ensures.kept c.in_ok-made.ensures.named
    c.requires.taken c.in_ok-note_made.ensures c.in_ok-made.ensures.tree
