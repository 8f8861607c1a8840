use Rattle.std.proofs.Common.{map}
use Rattle.subject_tree.specs.Packing.{unpacked}
use Rattle.subject_tree.proofs.Arenas.{put-arena, put-keeps, put-has, put-added}
use Rattle.subject_tree.proofs.Vertices.{packed-put, packed-same}
use Rattle.subject_tree.proofs.arena.Arena.number_of.Goals as goal

pub invariant_of-self-2 : goal.invariant_of-self-2
invariant_of-self-2 c =
    put-arena (map unpacked c.self.inside.nodes.keys) (map unpacked c.insert_full.new.self.keys) c.args.vertex
    (packed-put c.self.inside.nodes.keys c.insert_full.new.self.keys c.in_ok-packed.packed c.args.vertex c.in_ok-packed.ensures c.in_ok-number.ensures.keys) c.self.invariant (rw c.self.view_is c.requires)

pub returns-clause-kept : goal.returns-clause-kept
returns-clause-kept c =
    rw (← c.self.view_is)
    (put-keeps (map unpacked c.self.inside.nodes.keys) (map unpacked c.insert_full.new.self.keys) c.args.vertex
    (packed-put c.self.inside.nodes.keys c.insert_full.new.self.keys c.in_ok-packed.packed c.args.vertex c.in_ok-packed.ensures c.in_ok-number.ensures.keys))

pub returns-clause-ok : goal.returns-clause-ok
returns-clause-ok c =
    let (key, at, same) = c.in_ok-number.ensures.stored in
    rw (← c.self.view_is)
    (put-has (map unpacked c.self.inside.nodes.keys) (map unpacked c.insert_full.new.self.keys) c.args.vertex c.in_ok-number.number
    (packed-put c.self.inside.nodes.keys c.insert_full.new.self.keys c.in_ok-packed.packed c.args.vertex c.in_ok-packed.ensures c.in_ok-number.ensures.keys) c.self.invariant (rw c.self.view_is c.requires)
    (packed-same c.insert_full.new.self.keys c.in_ok-packed.packed key c.args.vertex c.in_ok-number.number c.in_ok-packed.ensures at same))

pub returns-clause-added : goal.returns-clause-added
returns-clause-added c =
    rw (← c.self.view_is)
    (put-added (map unpacked c.self.inside.nodes.keys) (map unpacked c.insert_full.new.self.keys) c.args.vertex
    (packed-put c.self.inside.nodes.keys c.insert_full.new.self.keys c.in_ok-packed.packed c.args.vertex c.in_ok-packed.ensures c.in_ok-number.ensures.keys) c.self.invariant (rw c.self.view_is c.requires))
