use Rattle.func_core.proofs.Meanings.{variable-fits}
use Rattle.func_core.proofs.plain.PlainFunctionsFunctions.var.Goals as goal

pub returns-clause-fits : goal.returns-clause-fits
returns-clause-fits c h =
    variable-fits _ c.args.place _ c.args.self.now.positive
    (record { reduced = c.in_ok-made.ensures.reduced; computes = c.in_ok-made.ensures.computes })
    (c.keep.ensures.big h)
