use Rattle.std.proofs.Common.{◌≡◌, ◌&&◌, refl}
use Rattle.subject_tree.specs.Arenas.{tree_at}
use Rattle.subject_tree.specs.declared.arena.Vertex.TheVariants.{Leaf, Inv, Nand}
use Rattle.tree_cover.specs.Outlines.{fits}
use Rattle.tree_cover.proofs.Misfits.{fits_read, leaf_fits, and_then, and_else, or_first, or_second}
use Rattle.tree_cover.proofs.outlines.+fits.Goals.{then-fits, else-fits}
use Rattle.tree_cover.proofs.outlines.+fits.Goals as goal

pub returns-in-Leaf : goal.returns-in-Leaf
returns-in-Leaf t c = leaf_fits c.args.shapes.now c.args.pattern c.in-Leaf.field-0 c.vertex.result _ c.sound.ensures c.vertex.ensures c.in-Leaf.is

pub returns-in-Leaf-vertex : goal.returns-in-Leaf-vertex
unfolding fits
returns-in-Leaf-vertex t c =
    fits_read c.args.shapes.now c.args.nodes.now c.args.pattern c.args.number c.vertex.result c.vertex-in-Inv.result (Inv c.in-Inv.below) (Leaf c.in-Leaf-vertex.field-0) _ c.sound.ensures c.sound-2.ensures c.vertex.ensures c.in-Inv.is c.vertex-in-Inv.ensures c.in-Leaf-vertex.is refl

pub returns-in-Inv-vertex : goal.returns-in-Inv-vertex
unfolding fits
returns-in-Inv-vertex t c =
    fits_read c.args.shapes.now c.args.nodes.now c.args.pattern c.args.number c.vertex.result c.vertex-in-Inv.result (Inv c.in-Inv.below) (Inv c.in-Inv-vertex.under) _ c.sound.ensures c.sound-2.ensures c.vertex.ensures c.in-Inv.is c.vertex-in-Inv.ensures c.in-Inv-vertex.is c.fits.ensures

pub returns-in-Nand-vertex : goal.returns-in-Nand-vertex
unfolding fits
returns-in-Nand-vertex t c =
    fits_read c.args.shapes.now c.args.nodes.now c.args.pattern c.args.number c.vertex.result c.vertex-in-Inv.result (Inv c.in-Inv.below) (Nand c.in-Nand-vertex.field-0 c.in-Nand-vertex.field-1) _ c.sound.ensures c.sound-2.ensures c.vertex.ensures c.in-Inv.is c.vertex-in-Inv.ensures c.in-Nand-vertex.is refl

pub returns-in-Leaf-vertex-2 : goal.returns-in-Leaf-vertex-2
unfolding fits
returns-in-Leaf-vertex-2 t c =
    fits_read c.args.shapes.now c.args.nodes.now c.args.pattern c.args.number c.vertex.result c.vertex-in-Nand.result (Nand c.in-Nand.left c.in-Nand.right) (Leaf c.in-Leaf-vertex-2.field-0) _ c.sound.ensures c.sound-2.ensures c.vertex.ensures c.in-Nand.is c.vertex-in-Nand.ensures c.in-Leaf-vertex-2.is refl

pub returns-in-Inv-vertex-2 : goal.returns-in-Inv-vertex-2
unfolding fits
returns-in-Inv-vertex-2 t c =
    fits_read c.args.shapes.now c.args.nodes.now c.args.pattern c.args.number c.vertex.result c.vertex-in-Nand.result (Nand c.in-Nand.left c.in-Nand.right) (Inv c.in-Inv-vertex-2.field-0) _ c.sound.ensures c.sound-2.ensures c.vertex.ensures c.in-Nand.is c.vertex-in-Nand.ensures c.in-Inv-vertex-2.is refl

pub returns-then-fits-2 : goal.returns-then-fits-2
unfolding fits
returns-then-fits-2 t c =
    fits_read c.args.shapes.now c.args.nodes.now c.args.pattern c.args.number c.vertex.result c.vertex-in-Nand.result (Nand c.in-Nand.left c.in-Nand.right) (Nand c.in-Nand-vertex-2.first c.in-Nand-vertex-2.second) _ c.sound.ensures c.sound-2.ensures c.vertex.ensures c.in-Nand.is c.vertex-in-Nand.ensures c.in-Nand-vertex-2.is
    (or_first c.if-fits.value _ _ c.if-fits-2.true
    (elim c.if-fits.branch as (λ _. c.if-fits.value ≡ (fits (tree_at c.args.shapes.now c.in-Nand.left) (tree_at c.args.nodes.now c.in-Nand-vertex-2.first) && fits (tree_at c.args.shapes.now c.in-Nand.right) (tree_at c.args.nodes.now c.in-Nand-vertex-2.second))) [
      | then-fits w ↦ and_then c.if-fits.value c.fits-in-Nand-vertex-2.result w.fits-then-fits.result (fits (tree_at c.args.shapes.now c.in-Nand.left) (tree_at c.args.nodes.now c.in-Nand-vertex-2.first)) (fits (tree_at c.args.shapes.now c.in-Nand.right) (tree_at c.args.nodes.now c.in-Nand-vertex-2.second)) w.if-fits.true c.fits-in-Nand-vertex-2.ensures w.value-is w.fits-then-fits.ensures
      | else-fits w ↦ and_else c.if-fits.value c.fits-in-Nand-vertex-2.result (fits (tree_at c.args.shapes.now c.in-Nand.left) (tree_at c.args.nodes.now c.in-Nand-vertex-2.first)) (fits (tree_at c.args.shapes.now c.in-Nand.right) (tree_at c.args.nodes.now c.in-Nand-vertex-2.second)) w.if-fits.false c.fits-in-Nand-vertex-2.ensures w.value-is
    ]))

pub returns-then-fits-3 : goal.returns-then-fits-3
unfolding fits
returns-then-fits-3 t c =
    fits_read c.args.shapes.now c.args.nodes.now c.args.pattern c.args.number c.vertex.result c.vertex-in-Nand.result (Nand c.in-Nand.left c.in-Nand.right) (Nand c.in-Nand-vertex-2.first c.in-Nand-vertex-2.second) _ c.sound.ensures c.sound-2.ensures c.vertex.ensures c.in-Nand.is c.vertex-in-Nand.ensures c.in-Nand-vertex-2.is
    (or_second c.if-fits.value c.fits-then-fits-3.result _ _ c.if-fits-2.false
    (elim c.if-fits.branch as (λ _. c.if-fits.value ≡ (fits (tree_at c.args.shapes.now c.in-Nand.left) (tree_at c.args.nodes.now c.in-Nand-vertex-2.first) && fits (tree_at c.args.shapes.now c.in-Nand.right) (tree_at c.args.nodes.now c.in-Nand-vertex-2.second))) [
      | then-fits w ↦ and_then c.if-fits.value c.fits-in-Nand-vertex-2.result w.fits-then-fits.result (fits (tree_at c.args.shapes.now c.in-Nand.left) (tree_at c.args.nodes.now c.in-Nand-vertex-2.first)) (fits (tree_at c.args.shapes.now c.in-Nand.right) (tree_at c.args.nodes.now c.in-Nand-vertex-2.second)) w.if-fits.true c.fits-in-Nand-vertex-2.ensures w.value-is w.fits-then-fits.ensures
      | else-fits w ↦ and_else c.if-fits.value c.fits-in-Nand-vertex-2.result (fits (tree_at c.args.shapes.now c.in-Nand.left) (tree_at c.args.nodes.now c.in-Nand-vertex-2.first)) (fits (tree_at c.args.shapes.now c.in-Nand.right) (tree_at c.args.nodes.now c.in-Nand-vertex-2.second)) w.if-fits.false c.fits-in-Nand-vertex-2.ensures w.value-is
    ])
    (and_then c.fits-then-fits-3.result c.fits-else-fits-2.result c.fits-then-fits-3.result (fits (tree_at c.args.shapes.now c.in-Nand.left) (tree_at c.args.nodes.now c.in-Nand-vertex-2.second)) (fits (tree_at c.args.shapes.now c.in-Nand.right) (tree_at c.args.nodes.now c.in-Nand-vertex-2.first)) c.if-fits-3.true c.fits-else-fits-2.ensures refl c.fits-then-fits-3.ensures))

pub returns-else-fits-3 : goal.returns-else-fits-3
unfolding fits
returns-else-fits-3 t c =
    fits_read c.args.shapes.now c.args.nodes.now c.args.pattern c.args.number c.vertex.result c.vertex-in-Nand.result (Nand c.in-Nand.left c.in-Nand.right) (Nand c.in-Nand-vertex-2.first c.in-Nand-vertex-2.second) _ c.sound.ensures c.sound-2.ensures c.vertex.ensures c.in-Nand.is c.vertex-in-Nand.ensures c.in-Nand-vertex-2.is
    (or_second c.if-fits.value c.fits-else-fits-2.result _ _ c.if-fits-2.false
    (elim c.if-fits.branch as (λ _. c.if-fits.value ≡ (fits (tree_at c.args.shapes.now c.in-Nand.left) (tree_at c.args.nodes.now c.in-Nand-vertex-2.first) && fits (tree_at c.args.shapes.now c.in-Nand.right) (tree_at c.args.nodes.now c.in-Nand-vertex-2.second))) [
      | then-fits w ↦ and_then c.if-fits.value c.fits-in-Nand-vertex-2.result w.fits-then-fits.result (fits (tree_at c.args.shapes.now c.in-Nand.left) (tree_at c.args.nodes.now c.in-Nand-vertex-2.first)) (fits (tree_at c.args.shapes.now c.in-Nand.right) (tree_at c.args.nodes.now c.in-Nand-vertex-2.second)) w.if-fits.true c.fits-in-Nand-vertex-2.ensures w.value-is w.fits-then-fits.ensures
      | else-fits w ↦ and_else c.if-fits.value c.fits-in-Nand-vertex-2.result (fits (tree_at c.args.shapes.now c.in-Nand.left) (tree_at c.args.nodes.now c.in-Nand-vertex-2.first)) (fits (tree_at c.args.shapes.now c.in-Nand.right) (tree_at c.args.nodes.now c.in-Nand-vertex-2.second)) w.if-fits.false c.fits-in-Nand-vertex-2.ensures w.value-is
    ])
    (and_else c.fits-else-fits-2.result c.fits-else-fits-2.result (fits (tree_at c.args.shapes.now c.in-Nand.left) (tree_at c.args.nodes.now c.in-Nand-vertex-2.second)) (fits (tree_at c.args.shapes.now c.in-Nand.right) (tree_at c.args.nodes.now c.in-Nand-vertex-2.first)) c.if-fits-3.false c.fits-else-fits-2.ensures refl))
