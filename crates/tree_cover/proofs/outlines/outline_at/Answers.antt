use Rattle.std.proofs.lemmas.Result.{IfOk-weaker}
use Rattle.tree_cover.proofs.Misfits.{leaf_outline, inverter_outline, nand_outline}
use Rattle.tree_cover.proofs.outlines.outline_at.Goals as goal

pub returns-in-Leaf-clause-ok : goal.returns-in-Leaf-clause-ok
returns-in-Leaf-clause-ok c =
    IfOk-weaker c.leaf.result _ _ (λ made has. leaf_outline c.leaf.new.self c.args.shapes.now c.args.pattern c.in-Leaf.field-0 made c.vertex.result c.sound.ensures c.vertex.ensures c.in-Leaf.is has) c.leaf.ensures.ok

pub returns-in-Inv-clause-ok : goal.returns-in-Inv-clause-ok
returns-in-Inv-clause-ok c =
    IfOk-weaker c.number_of.result _ _
    (λ made has.
    inverter_outline c.args.outlines.now c.number_of.new.self c.args.shapes.now c.args.numbers.now c.args.pattern c.vertex.result c.sound.ensures c.requires.pattern c.requires.count c.requires.numbers c.vertex.ensures c.in-Inv.below made c.in-Inv.is
    has) c.number_of.ensures.ok

pub returns-in-Nand-clause-ok : goal.returns-in-Nand-clause-ok
returns-in-Nand-clause-ok c =
    IfOk-weaker c.outline_over.result _ _
    (λ made has.
    nand_outline c.args.outlines.now c.outline_over.new.outlines c.args.shapes.now c.args.numbers.now c.args.pattern c.vertex.result c.sound.ensures c.requires.pattern c.requires.count c.requires.numbers c.vertex.ensures c.in-Nand.left c.in-Nand.right
    made c.in-Nand.is has) c.outline_over.ensures.ok
