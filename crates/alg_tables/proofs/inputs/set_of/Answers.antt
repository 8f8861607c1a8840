use Rattle.alg_tables.proofs.Steps.{set_more}
use Rattle.alg_tables.proofs.inputs.set_of.Goals as goal

pub loop-name-preserved : goal.loop-name-preserved
loop-name-preserved c =
    set_more c.args.names.now c.loop-name.set.keys c.insert_full.new.self.keys c.loop-name.name-index c.name-item.result c.in_ok-copy.field-0 c.requires c.loop-name-test.true c.name-item.is c.in_ok-copy.ensures
    c.loop-name.invariant c.in_ok-_place.ensures.keys
