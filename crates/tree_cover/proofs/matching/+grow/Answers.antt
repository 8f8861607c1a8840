use Rattle.std.proofs.Common.{length, sym, ap, ◌∙◌}
use borrow.Author.Tests.{eqb-true}
use Rattle.subject_tree.specs.Arenas.{tree_at}
use Rattle.tree_cover.specs.Bindings.{grown}
use Rattle.tree_cover.proofs.Growing.{grown_empty, grown_leaf, grown_inverter, grown_no_inverter, grown_nand, grown_no_nand}
use Rattle.tree_cover.proofs.matching.+grow.Goals as goal

pub returns-then-is_empty : goal.returns-then-is_empty
returns-then-is_empty t c =
    grown_empty c.args.nodes.now (tree_at c.args.shapes.now c.args.pattern) c.args.number c.args.bindings.now c.new.result.items (eqb-true (length c.args.bindings.now) 0 (sym c.is_empty.ensures ∙ c.if-is_empty.true))
    c.new.ensures.items

pub returns-in_ok-made-in-Leaf : goal.returns-in_ok-made-in-Leaf
returns-in_ok-made-in-Leaf t c =
    grown_leaf c.args.nodes.now c.args.shapes.now c.args.pattern c.args.number c.args.bindings.now c.sound.ensures c.in-Leaf.pin c.vertex.result c.in_ok-made-in-Leaf.made.items c.vertex.ensures c.in-Leaf.is
    c.in_ok-made-in-Leaf.ensures

pub returns-in_ok-made-in-Inv-vertex : goal.returns-in_ok-made-in-Inv-vertex
returns-in_ok-made-in-Inv-vertex t c =
    grown_inverter c.args.nodes.now c.args.shapes.now c.args.pattern c.args.number c.args.bindings.now c.sound.ensures c.in-Inv.below c.in-Inv-vertex.under c.vertex.result c.vertex-in-Inv.result
    c.in_ok-made-in-Inv-vertex.made.items c.vertex.ensures c.in-Inv.is c.vertex-in-Inv.ensures c.in-Inv-vertex.is c.in_ok-made-in-Inv-vertex.ensures

pub returns-in-Leaf-vertex : goal.returns-in-Leaf-vertex
returns-in-Leaf-vertex t c =
    grown_no_inverter c.args.nodes.now c.args.shapes.now c.args.pattern c.args.number c.args.bindings.now c.sound.ensures c.in-Inv.below c.vertex.result c.vertex-in-Inv.result c.new-in-Leaf-vertex.result.items
    c.vertex.ensures c.in-Inv.is c.vertex-in-Inv.ensures (λ m e. cc (e, c.in-Leaf-vertex.is)) c.new-in-Leaf-vertex.ensures.items

pub returns-in-Nand-vertex : goal.returns-in-Nand-vertex
returns-in-Nand-vertex t c =
    grown_no_inverter c.args.nodes.now c.args.shapes.now c.args.pattern c.args.number c.args.bindings.now c.sound.ensures c.in-Inv.below c.vertex.result c.vertex-in-Inv.result c.new-in-Nand-vertex.result.items
    c.vertex.ensures c.in-Inv.is c.vertex-in-Inv.ensures (λ m e. cc (e, c.in-Nand-vertex.is)) c.new-in-Nand-vertex.ensures.items

pub returns-in_ok-made-in-Nand-vertex-2 : goal.returns-in_ok-made-in-Nand-vertex-2
returns-in_ok-made-in-Nand-vertex-2 t c =
    grown_nand c.args.nodes.now c.args.shapes.now c.args.pattern c.args.number c.args.bindings.now c.sound.ensures c.in-Nand.left c.in-Nand.right c.in-Nand-vertex-2.first c.in-Nand-vertex-2.second c.vertex.result
    c.vertex-in-Nand.result c.in_ok-made-in-Nand-vertex-2.made.items c.in_ok-straight-in-Nand-vertex-2-2.straight.items c.in_ok-crossed-in-Nand-vertex-2-2.crossed.items c.vertex.ensures c.in-Nand.is c.vertex-in-Nand.ensures
    c.in-Nand-vertex-2.is
    (c.in_ok-straight-in-Nand-vertex-2-2.ensures
    ∙ ap (grown c.args.nodes.now (tree_at c.args.shapes.now c.in-Nand.right) c.in-Nand-vertex-2.second) (c.as_slice.ensures.value ∙ c.in_ok-straight-in-Nand-vertex-2.ensures))
    (c.in_ok-crossed-in-Nand-vertex-2-2.ensures
    ∙ ap (grown c.args.nodes.now (tree_at c.args.shapes.now c.in-Nand.right) c.in-Nand-vertex-2.first) (c.as_slice-in-Nand-vertex-2.ensures.value ∙ c.in_ok-crossed-in-Nand-vertex-2.ensures))
    c.in_ok-made-in-Nand-vertex-2.ensures

pub returns-in-Leaf-vertex-2 : goal.returns-in-Leaf-vertex-2
returns-in-Leaf-vertex-2 t c =
    grown_no_nand c.args.nodes.now c.args.shapes.now c.args.pattern c.args.number c.args.bindings.now c.sound.ensures c.in-Nand.left c.in-Nand.right c.vertex.result c.vertex-in-Nand.result
    c.new-in-Leaf-vertex-2.result.items c.vertex.ensures c.in-Nand.is c.vertex-in-Nand.ensures (λ m k e. cc (e, c.in-Leaf-vertex-2.is)) c.new-in-Leaf-vertex-2.ensures.items

pub returns-in-Inv-vertex-2 : goal.returns-in-Inv-vertex-2
returns-in-Inv-vertex-2 t c =
    grown_no_nand c.args.nodes.now c.args.shapes.now c.args.pattern c.args.number c.args.bindings.now c.sound.ensures c.in-Nand.left c.in-Nand.right c.vertex.result c.vertex-in-Nand.result
    c.new-in-Inv-vertex-2.result.items c.vertex.ensures c.in-Nand.is c.vertex-in-Nand.ensures (λ m k e. cc (e, c.in-Inv-vertex-2.is)) c.new-in-Inv-vertex-2.ensures.items
