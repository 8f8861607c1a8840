use Rattle.std.proofs.Common.{sym, ◌∙◌}
use Rattle.circuit_tables.proofs.FoldSteps.{names_more, names_done}
use Rattle.net_wires.proofs.needed.add_names.Goals as goal

pub loop-name-preserved : goal.loop-name-preserved
loop-name-preserved c =
    names_more c.loop-name.names.keys c.insert_full.new.self.keys _ c.args.more.now c.loop-name.name-index c.name-item.result c.in_ok-copy.field-0
    c.loop-name-test.true c.name-item.is c.in_ok-copy.ensures c.in_ok-insert_full.ensures.keys c.loop-name.invariant

pub returns : goal.returns
returns c = sym (names_done c.loop-name.names.keys c.args.more.now c.loop-name.name-index c.loop-name-test.false) ∙ c.loop-name.invariant
