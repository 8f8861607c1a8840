use Rattle.func_shared.proofs.Halving.{opened_vertex, opened_constant}
use Rattle.func_shared.proofs.answering.opened.Goals as goal

pub returns-in-Some : goal.returns-in-Some
returns-in-Some c =
    opened_vertex c.args.table.now c.args.number c.in-Some.vertex c.sound.ensures c.requires
    c.in-Some.ensures.tree c.in-Some.ensures.below

pub returns-in-None : goal.returns-in-None
returns-in-None c =
    opened_constant c.args.table.now c.args.number c.sound.ensures c.requires
    (c.vertex.ensures.constant c.in-None.is)
