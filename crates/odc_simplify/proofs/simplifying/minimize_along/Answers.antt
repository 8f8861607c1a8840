use Rattle.std.proofs.Common.{arith}
use Rattle.std.proofs.lemmas.Result.{err_from_is_err_and}
use Rattle.odc_simplify.proofs.Along.{underway_first, turn_due, turn_more, turn_stopped, turns_done}
use Rattle.odc_simplify.proofs.simplifying.minimize_along.Goals as goal

pub loop-name-init : goal.loop-name-init
loop-name-init g c = record {
  underway = underway_first (g.F.Functions.limit c.args.functions.now) c.args.names.now
      c.args.network.now c.requires.driven;
  serves = c.requires.serves;
}

pub minimize-requires : goal.minimize-requires
minimize-requires g c = record {
  driven = turn_due (g.F.Functions.limit c.args.functions.now)
      (g.F.Functions.limit c.loop-name.functions) c.args.names.now c.loop-name.name-index
      c.name-item.result _ c.args.network.now c.loop-name.network c.loop-name-test.true
      c.name-item.is c.loop-name.invariant.underway;
  serves = c.loop-name.invariant.serves;
}

pub loop-name-preserved : goal.loop-name-preserved
loop-name-preserved g c = record {
  underway = turn_more (g.F.Functions.limit c.args.functions.now)
      (g.F.Functions.limit c.loop-name.functions) c.args.names.now c.loop-name.name-index
      c.name-item.result _ c.args.network.now c.loop-name.network c.loop-name-test.true
      c.name-item.is c.loop-name.invariant.underway
      (g.F.Functions.limit c.minimize.new.functions) c.minimize.new.network
      c.in_ok-minimize.ensures.limit c.in_ok-minimize.ensures.minimized
      c.in_ok-minimize.ensures.signals c.in_ok-minimize.ensures.passed;
  serves = c.in_ok-minimize.ensures.serves;
}

pub returns-in_err-minimize-clause-fault : goal.returns-in_err-minimize-clause-fault
returns-in_err-minimize-clause-fault g c =
    let p = err_from_is_err_and c.from_residual.result c.from_residual.ensures.1 in
    rw (p.1, p.2)
    (turn_stopped (g.F.Functions.limit c.args.functions.now)
    (g.F.Functions.limit c.loop-name.functions) c.args.names.now c.loop-name.name-index
    c.name-item.result _ c.args.network.now c.loop-name.network c.loop-name-test.true
    c.name-item.is c.loop-name.invariant.underway
    c.in_err-minimize.field-0.0 c.in_err-minimize.ensures.fault)

pub returns-clause-limit : goal.returns-clause-limit
returns-clause-limit g c = c.loop-name.invariant.underway.same

pub returns-clause-turned : goal.returns-clause-turned
returns-clause-turned g c =
    turns_done (g.F.Functions.limit c.args.functions.now)
    (g.F.Functions.limit c.loop-name.functions) c.args.names.now c.loop-name.name-index
    c.args.network.now c.loop-name.network c.loop-name.invariant.underway (omega arith)
