use Rattle.std.proofs.Common.{sym, ◌∙◌, subst, List}
use Rattle.func_shared.specs.declared.vertex.Vertex.{Vertex}
use Rattle.func_shared.specs.Fitting.{AllFit}
use Rattle.func_shared.proofs.Fitted.{fit_reached, fit_low, fit_same, counted_fits}
use Rattle.func_shared.proofs.nodes.Nodes.attempt.Goals as goal
use Rattle.func_shared.proofs.nodes.Nodes.attempt.Goals.{then-len-before-via-then-len-before, then-len-before-via-else-len-before+then-number-limit}

pub returns-then-len-before-clause-fit : goal.returns-then-len-before-clause-fit
returns-then-len-before-clause-fit c =
    let fit : AllFit c.self.inside.table c.args.limit =
    subst (λ (vs : List Vertex). AllFit vs c.args.limit) (sym c.self.view_is) c.requires.fit in
    elim c.then-len-before.branch [
      | then-len-before-via-then-len-before w ↦
          fit_same _ _ c.args.limit fit c.answer.ensures.grows
          (sym c.len.ensures ∙ w.if-len-before.true ∙ c.len-before.ensures)
      | then-len-before-via-else-len-before+then-number-limit w ↦
          fit_low _ _ _ _ c.args.limit fit c.answer.ensures.grows c.answer.ensures.added
          c.in_ok-number.ensures.ok
          c.sound.ensures w.if-number-limit.true
    ]

pub returns-clause-fit : goal.returns-clause-fit
returns-clause-fit c =
    let fit : AllFit c.self.inside.table c.args.limit =
    subst (λ (vs : List Vertex). AllFit vs c.args.limit) (sym c.self.view_is) c.requires.fit in
    fit_reached _ _ _ _ c.args.limit fit c.answer.ensures.grows c.answer.ensures.added
    c.in_ok-number.ensures.ok
    (counted_fits c.in_ok-counted.counted _ c.args.limit c.if-is_none.ensures
    c.in_ok-counted.ensures)
