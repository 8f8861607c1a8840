use Rattle.std.proofs.Common.{Option, refl, subst, arith}
use Rattle.circuit_model.specs.declared.circuit.Table.{Table}
use Rattle.net_work.specs.Placed.{table_at}
use Rattle.net_savings.specs.Saving.{IsLoss}
use Rattle.net_savings.proofs.Narrowing.{entry_narrow, loss_tells}
use Rattle.net_savings.proofs.Tabled.{name_unread}
use Rattle.net_savings.proofs.narrow.is_narrow_at.Goals as goal

pub loss_of-requires-clause-free : goal.loss_of-requires-clause-free
loss_of-requires-clause-free g c =
    name_unread c.args.work.now c.args.name.now c.in-Some.entry.now c.args.place c.requires.sound c.requires.free c.in-Some.ensures.table

pub returns-then-len-lt-MAX_INPUTS : goal.returns-then-len-lt-MAX_INPUTS
returns-then-len-lt-MAX_INPUTS g c = (
  λ _. entry_narrow c.args.name.now c.args.cover.now c.args.work.now c.in-Some.entry.now c.args.place c.requires.sound c.requires.free c.in-Some.ensures.table c.in-Some.ensures.once
      (omega (arith, c.len.ensures, c.if-len-lt-MAX_INPUTS.true)),
  λ _. refl,
)

pub returns-in_ok-loss-in-Some : goal.returns-in_ok-loss-in-Some
returns-in_ok-loss-in-Some g c =
    loss_tells c.args.name.now c.args.cover.now (table_at c.args.work.now.slots c.args.place) c.in_ok-loss-in-Some.loss c.is_some.result c.is_some.ensures
    (subst (λ (table : Option Table). IsLoss c.args.name.now c.args.cover.now table c.in_ok-loss-in-Some.loss) c.in-Some.ensures.table (c.in_ok-loss-in-Some.ensures c.in-Some.entry.now.output))
