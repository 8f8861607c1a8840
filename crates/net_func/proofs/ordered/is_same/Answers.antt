use Rattle.std.proofs.Common.{sym, ◌∙◌}
use Rattle.net_func.proofs.Alike.{same_tables}
use Rattle.net_func.proofs.ordered.is_same.Goals as goal

pub returns-then-eq : goal.returns-then-eq
returns-then-eq c = λ h.
    same_tables c.args.one.now c.args.other.now c.requires c.if-one-other.false
    (sym c.eq.ensures ∙ c.if-eq.true) (sym c.eq-then-eq.ensures ∙ h)
