use Rattle.std.proofs.Common.{sym, ap, ◌∙◌}
use Rattle.subject_tree.specs.Arenas.{trees, built}
use Rattle.subject_tree.proofs.Arenas.{reads_all}
use Rattle.pattern_set.proofs.listing.vertex_of.Goals as goal

pub returns : goal.returns
returns c =
    reads_all c.args.arena.now c.sound.ensures c.args.number ∙ ap (built (trees c.args.arena.now)) (sym c.vertex.ensures)
