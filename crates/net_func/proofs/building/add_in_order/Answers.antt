use Rattle.std.proofs.Common.{take}
use Rattle.std.proofs.lemmas.Result.{err_from_is_err_and}
use Rattle.std.proofs.lemmas.Bool.{false≢true}
use Rattle.circuit_model.specs.Names.{has}
use Rattle.func_core.proofs.Meanings.{Stays-none, Stays-chain}
use Rattle.net_func.specs.Numbering.{number_in, SolvesRest, IsBlamed}
use Rattle.net_func.proofs.Lists.{has_more}
use Rattle.net_func.proofs.Adding.{adds_none, inputs_known, driven_at, order_more, order_big, blames_weaker}
use Rattle.net_func.proofs.building.add_in_order.Goals as goal

pub loop-name-init : goal.loop-name-init
loop-name-init g c = record {
  stays = Stays-none g.F.Functions.holds g.F.Functions.tree g.F.Functions.limit
      c.args.functions.now;
  adds = adds_none g.F.Functions.holds g.F.Functions.tree g.F.Functions.limit c.args.functions.now
      (number_in c.args.numbers.now) (has (take 0 c.args.order.now))
      (SolvesRest c.args.tables.now (number_in c.args.numbers.now)) c.requires.stand
      (λ name never. absurd (false≢true never));
}

pub add_named-requires-clause-driven : goal.add_named-requires-clause-driven
add_named-requires-clause-driven g c =
    driven_at c.args.tables.now c.args.order.now c.loop-name.name-index c.name-item.result
    c.requires.order c.loop-name-test.true c.name-item.is

pub add_named-requires-clause-stand : goal.add_named-requires-clause-stand
add_named-requires-clause-stand g c = c.loop-name.invariant.adds.stand

pub add_named-requires-clause-known : goal.add_named-requires-clause-known
add_named-requires-clause-known g c = λ table at.
    inputs_known c.args.tables.now c.args.order.now c.loop-name.name-index c.name-item.result
    (number_in c.args.numbers.now) (number_in c.loop-name.numbers) table c.requires.order
    c.requires.closed
    c.loop-name-test.true c.name-item.is c.loop-name.invariant.adds.known at

pub returns-in_err-add_named-clause-big : goal.returns-in_err-add_named-clause-big
returns-in_err-add_named-clause-big g c =
    let p = err_from_is_err_and c.from_residual.result c.from_residual.ensures.1 in
    rw (p.1, p.2)
    (blames_weaker
    (IsBlamed g.F.Functions.holds g.F.Functions.tree g.F.Functions.limit c.loop-name.functions
    c.args.tables.now (number_in c.loop-name.numbers)
    (SolvesRest c.args.tables.now (number_in c.loop-name.numbers))) _ c.in_err-add_named.field-0.0
    (λ blamed.
    order_big g.F.Functions.holds g.F.Functions.tree g.F.Functions.limit c.args.functions.now
    c.loop-name.functions c.args.tables.now (number_in c.args.numbers.now) (number_in
    c.loop-name.numbers)
    (has (take c.loop-name.name-index c.args.order.now)) blamed c.loop-name.invariant.stays
    c.loop-name.invariant.adds)
    c.in_err-add_named.ensures.big)

pub loop-name-preserved : goal.loop-name-preserved
loop-name-preserved g c = record {
  stays = Stays-chain g.F.Functions.holds g.F.Functions.tree g.F.Functions.limit
      c.args.functions.now
      c.loop-name.functions c.add_named.new.functions c.loop-name.invariant.stays
      c.in_ok-add_named.ensures.stays;
  adds = order_more g.F.Functions.holds g.F.Functions.tree g.F.Functions.limit c.args.functions.now
      c.loop-name.functions c.add_named.new.functions c.args.tables.now (number_in
      c.args.numbers.now)
      (number_in c.loop-name.numbers) (number_in c.add_named.new.numbers)
      (has (take c.loop-name.name-index c.args.order.now)) _ c.name-item.result
      c.loop-name.invariant.adds c.in_ok-add_named.ensures.ok
      (λ other. has_more c.args.order.now c.loop-name.name-index c.name-item.result other
      c.loop-name-test.true c.name-item.is);
}
