use Rattle.std.proofs.Common.{[], ◌∷◌, ◌++◌, ap, ◌∙◌}
use Rattle.std.proofs.lemmas.Slice.Zip.{Zip-more, either_empty_from_Zip}
use Rattle.netlist.specs.declared.mapped.TreeFigure.{TreeFigure}
use Rattle.map_net.specs.Mapping.{figures_of}
use Rattle.map_net.proofs.Zipped.{zipped_more, zipped_all}
use Rattle.map_net.proofs.Figuring.{figure_step, figures_zipped}
use Rattle.map_net.proofs.mapping.figures.Goals as goal

pub loop-root-preserved : goal.loop-root-preserved
loop-root-preserved c =
    let (first, second) = Zip-more c.loop-root.root-iterator c.next.new.self c.next.result
    (c.in-Some.root, c.in-Some.cover) c.in-Some.is c.next.ensures.steps in
    zipped_more figure_step figures_of figures_zipped c.in-Some.root.now c.in-Some.cover.now _ _ _ _
    _ _ _
    (c.in_ok-push.ensures.ok ∙ ap (λ (figure : TreeFigure). c.loop-root.made ++ figure ∷ [])
    c.in_ok-figure.ensures) first second c.loop-root.invariant

pub returns : goal.returns
returns c =
    zipped_all figure_step figures_of figures_zipped _ _ _ _
    (either_empty_from_Zip c.loop-root.root-iterator c.next.new.self c.next.result c.in-None.is
    c.next.ensures.steps) c.loop-root.invariant
