use Rattle.std.proofs.Common.{List, sym, subst}
use Rattle.func_shared.specs.declared.vertex.Vertex.{Vertex}
use Rattle.func_shared.specs.Fitting.{AllFit}
use Rattle.func_shared.proofs.Merged.{reduced_Zero, reduced_One}
use Rattle.func_shared.proofs.Numbered.{tree_at-zero, tree_at-one}
use Rattle.func_shared.proofs.Fitted.{fit_variable, joined_variable}
use Rattle.func_shared.proofs.Frames.{answers_grow}
use Rattle.func_shared.proofs.nodes.Nodes.variable.Goals as goal

pub join-joined-requires-clause-low_reduced : goal.join-joined-requires-clause-low_reduced
join-joined-requires-clause-low_reduced c = rw (tree_at-zero c.self.inside.table) (reduced_Zero _)

pub join-joined-requires-clause-high_reduced : goal.join-joined-requires-clause-high_reduced
join-joined-requires-clause-high_reduced c = rw (tree_at-one c.self.inside.table) (reduced_One _)

pub returns-clause-ok : goal.returns-clause-ok
returns-clause-ok c = rw (joined_variable c.self.inside.table c.args.place) at c.join-joined.ensures.ok

pub returns-clause-fit : goal.returns-clause-fit
returns-clause-fit c limit some fit =
    fit_variable _ _ c.args.place limit some
    (subst (λ (vs : List Vertex). AllFit vs limit) (sym c.self.view_is) fit) c.join-joined.ensures.grows
    (rw (joined_variable c.self.inside.table c.args.place) at c.join-joined.ensures.added)

pub invariant_of-self : goal.invariant_of-self
invariant_of-self c = answers_grow _ _ c.self.inside.answers c.join-joined.ensures.grows c.self.invariant
