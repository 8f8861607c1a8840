use Rattle.std.proofs.Common.{List, [], ◌∷◌, ◌++◌, ap, ◌∙◌}
use Rattle.subject_tree.specs.Arenas.{tree_at}
use Rattle.tree_cover.specs.declared.binding.Binding.{Binding}
use Rattle.tree_cover.specs.Bindings.{grown}
use Rattle.tree_cover.proofs.Agreeing.{matches_from}
use Rattle.tree_cover.proofs.matching.matches.Goals as goal
use Rattle.sis_base.specs.declared.limits.TheConstants.{MAX_PINS}

pub returns-clause-exact : goal.returns-clause-exact
returns-clause-exact c =
    matches_from c.args.nodes.now (tree_at c.args.shapes.now c.args.pattern) c.args.number MAX_PINS c.in_ok-made.made.items c.as_slice.result.now c.push.new.self.items c.unbound.result c.sound.ensures c.requires.number c.requires.pins
    c.as_slice.ensures.value c.unbound.ensures
    (c.in_ok-push.ensures.items ∙ ap (λ (bs : List Binding). bs ++ c.unbound.result ∷ []) c.in_ok-start.ensures.items) c.in_ok-made.ensures

pub returns-clause-grown : goal.returns-clause-grown
returns-clause-grown c =
    c.in_ok-made.ensures
    ∙ ap (grown c.args.nodes.now (tree_at c.args.shapes.now c.args.pattern) c.args.number)
    (c.as_slice.ensures.value ∙ (c.in_ok-push.ensures.items ∙ (ap (λ (bs : List Binding). bs ++ c.unbound.result ∷ []) c.in_ok-start.ensures.items ∙ ap (λ (b : Binding). b ∷ []) c.unbound.ensures)))
