use Rattle.std.proofs.Common.{[], sym, ◌∙◌}
use Rattle.net_gains.proofs.Looked.{literal_back}
use Rattle.net_gains.proofs.codes.Codes.literal.Goals as goal

pub returns-in_ok-copy-in-Some : goal.returns-in_ok-copy-in-Some
returns-in_ok-copy-in-Some c =
    rw (← c.self.view_is, ← c.deref.ensures.value)
    (literal_back c.deref.result.now (rw c.deref.ensures.value c.self.invariant.0) c.args.number c.in_ok-copy-in-Some.field-0
    c.in-Some.ensures.lookup.3.0 (sym (c.in-Some.ensures.lookup.3.1 []) ∙ sym c.in_ok-copy-in-Some.ensures))
