use Rattle.std.proofs.Common.{Bool, ◌||◌, is_some, sym, ap, ◌∙◌}
use Rattle.circuit_model.specs.Names.{has}
use Rattle.net_core.specs.Fresh.{reserved_by}
use Rattle.net_core.proofs.Noted.{used_split}
use Rattle.net_work.proofs.changes.is_used.Goals as goal

pub returns-then-is_some : goal.returns-then-is_some
returns-then-is_some c = λ tables known.
    c.if-is_some.true
    ∙ sym (used_split c.args.frame.now tables c.args.name.now
    ∙ ap (λ (b : Bool). b || has (reserved_by c.args.frame.now) c.args.name.now) (sym known ∙ (sym (c.is_some.ensures ∙ ap is_some c.found_place.ensures) ∙ c.if-is_some.true)))

pub returns-else-is_some : goal.returns-else-is_some
returns-else-is_some c = λ tables known.
    c.is_reserved.ensures
    ∙ sym (used_split c.args.frame.now tables c.args.name.now
    ∙ ap (λ (b : Bool). b || has (reserved_by c.args.frame.now) c.args.name.now) (sym known ∙ (sym (c.is_some.ensures ∙ ap is_some c.found_place.ensures) ∙ c.if-is_some.false)))
