use Rattle.std.proofs.Common.{◌<◌, length, arith}
use Rattle.circuit_model.proofs.Levels.{level_step}
use Rattle.circuit_model.proofs.simulation.add_level.Goals as goal

pub loop-i-preserved : goal.loop-i-preserved
loop-i-preserved c =
    let within : c.loop-i.i < length c.args.reads.now = omega (arith, c.requires, c.loop-i-test.true) in
    level_step c.args.tables.now c.args.reads.now c.args.old.now c.loop-i.bits.items c.push.new.self.items _ c.loop-i.i c.index-tables-i.result c.index-reads-i.result c.as_slice.result.now c.table_bit.result
    c.loop-i-test.true within c.index-tables-i.is c.index-reads-i.is c.as_slice.ensures c.table_bit.ensures c.in_ok-push.ensures.items c.loop-i.invariant
