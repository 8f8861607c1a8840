use Rattle.std.proofs.Common.{List, sym, subst}
use Rattle.subject_tree.specs.Arenas.{tree_at}
use Rattle.subject_tree.specs.declared.arena.Vertex.{Vertex}
use Rattle.map_net.specs.Covering.{IsTaken}
use Rattle.map_net.proofs.Taking.{taken_none, taken_next}
use Rattle.map_net.proofs.covers.covers_of.Goals as goal

pub loop-root-init : goal.loop-root-init
loop-root-init c = λ covering chosen. taken_none covering _ c.in_ok-covers.ensures.items

pub loop-root-preserved : goal.loop-root-preserved
loop-root-preserved c = λ covering chosen.
    taken_next covering c.args.roots.now c.loop-root.covers.items c.push.new.self.items
    c.loop-root.root-index c.root-item.result c.in_ok-cover_at.field-0 c.loop-root-test.true
    c.root-item.is c.in_ok-push.ensures.items (c.loop-root.invariant covering chosen)
    (subst (λ (vertices : List Vertex). IsTaken covering (tree_at vertices
    c.root-item.result.number) c.in_ok-cover_at.field-0) (sym chosen.vertices_are)
    (c.in_ok-cover_at.ensures covering chosen))
