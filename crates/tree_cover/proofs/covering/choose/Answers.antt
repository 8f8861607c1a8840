use Rattle.std.proofs.Common.{refl, ap}
use Rattle.subject_tree.specs.Order.{tree_cmp, place_cmp}
use Rattle.subject_tree.specs.declared.arena.Vertex.TheVariants.{Leaf}
use Rattle.tree_cover.specs.Covers.{tiles}
use Rattle.tree_cover.specs.Held.{choice_of, held}
use Rattle.tree_cover.proofs.Growing.{told}
use Rattle.tree_cover.proofs.Made.{some_open, choice_made, leaf_made, no_leaf}
use Rattle.tree_cover.proofs.covering.choose.Goals as goal

pub returns-in-Leaf : goal.returns-in-Leaf
returns-in-Leaf c =
    leaf_made (tree_cmp (place_cmp c.args.leaves.now)) c.args.nodes.now (tiles c.args.shapes.now c.args.gates.now) c.args.number c.in-Leaf.field-0 (record { cost = 0; place = 0; pins = c.new.result })
    (told c.args.nodes.now c.args.number c.vertex.result (Leaf c.in-Leaf.field-0) c.sound.ensures c.vertex.ensures c.in-Leaf.is) refl c.new.ensures

pub unreachable-requires : goal.unreachable-requires
unreachable-requires c =
    let (choice, there) = some_open (tree_cmp (place_cmp c.args.leaves.now)) c.args.nodes.now c.args.shapes.now c.args.gates.now c.args.choices.now c.args.number c.sound.ensures c.requires.number c.requires.library
    c.requires.made (no_leaf c.args.nodes.now c.args.number c.vertex.result c.sound.ensures c.vertex.ensures c.in_default.not-Leaf) in
    c.in_ok-best.ensures.none choice (ap held c.in-None.is) there

pub returns : goal.returns
returns c =
    choice_made (tree_cmp (place_cmp c.args.leaves.now)) c.args.nodes.now c.args.shapes.now c.args.gates.now c.args.choices.now c.args.number c.sound.ensures c.requires.number c.requires.library c.requires.made
    (held c.in_ok-best.best) (choice_of c.in-Some.candidate)
    (no_leaf c.args.nodes.now c.args.number c.vertex.result c.sound.ensures c.vertex.ensures c.in_default.not-Leaf) c.in_ok-best.ensures (ap held c.in-Some.is)
