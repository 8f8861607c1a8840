use Rattle.std.proofs.Common.{◌∙◌, sym}
use Rattle.std.proofs.lemmas.List.{map-append}
use Rattle.func_core.proofs.Sizes.{Adds-there, Adds-new}
use Rattle.func_core.proofs.diagram.see.Goals as goal

pub returns-then-is_among : goal.returns-then-is_among
returns-then-is_among c = Adds-there _ _ (rw c.deref.ensures.value at (sym c.is_among.ensures ∙ c.if-is_among.true))

pub returns : goal.returns
returns c =
    rw (c.in_ok-push.ensures.items, map-append)
    (Adds-new _ _ (rw c.deref.ensures.value at (sym c.is_among.ensures ∙ c.if-is_among.false)))
