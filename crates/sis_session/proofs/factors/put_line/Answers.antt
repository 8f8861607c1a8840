use Rattle.std.proofs.Common.{◌∙◌, sym, ap, subst, List, ℕ, ◌∷◌, ◌++◌, []}
use Rattle.sis_session.specs.Told.{AreFactorLines}
use Rattle.sis_session.proofs.Lines.{lines_more}
use Rattle.sis_session.proofs.factors.put_line.Goals as goal

pub returns : goal.returns
returns c = λ before are.
    subst (AreFactorLines (before ++ c.args.table.now ∷ []))
    (ap (λ (line : List ℕ). c.args.text.now.items ++ line) (sym c.as_slice.ensures.value) ∙ sym c.in_ok-extend_from_slice.ensures.items)
    (lines_more before c.args.text.now.items c.in_ok-line.line.items c.args.table.now are c.in_ok-line.ensures)
