use Rattle.std.proofs.Common.{sym, ◌∙◌, arith}
use Rattle.net_gains.proofs.Compared.{found_here, found_later, found_last}
use Rattle.net_gains.proofs.comparing.compared.Goals as goal

pub returns-then-is_ne : goal.returns-then-is_ne
returns-then-is_ne c =
    found_here c.args.one.now c.args.other.now c.loop-at.at 0 0 (omega arith) (omega arith) c.cmp-order.result c.cmp-order.ensures (sym c.is_ne.ensures ∙ c.if-is_ne.true) c.loop-at.invariant.2

pub loop-at-preserved : goal.loop-at-preserved
loop-at-preserved c = (
  c.loop-at.invariant.0,
  omega arith,
  found_later c.args.one.now c.args.other.now c.loop-at.at 0 0 (omega arith) (omega arith) c.cmp-order.result c.cmp-order.ensures (sym c.is_ne.ensures ∙ c.if-is_ne.false) c.loop-at.invariant.2,
)

pub returns : goal.returns
returns c = c.cmp.ensures ∙ (sym (found_last c.args.one.now c.args.other.now c.loop-at.at (omega arith) (omega arith) (omega arith)) ∙ c.loop-at.invariant.2)
