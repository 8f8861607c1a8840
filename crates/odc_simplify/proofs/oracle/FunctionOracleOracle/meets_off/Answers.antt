use Rattle.odc_simplify.proofs.Numbers.{keeps_on}
use Rattle.odc_simplify.proofs.oracle.FunctionOracleOracle.meets_off.Goals as goal

pub returns-in-Ok-clause-stays : goal.returns-in-Ok-clause-stays
returns-in-Ok-clause-stays g c =
    keeps_on g.F.Functions.holds g.F.Functions.tree g.F.Functions.limit
    c.args.self.now.functions.ghost_name c.args.self.now.functions.now c.meets.new.functions
    c.args.self.now.leaves c.args.self.now.on c.args.self.now.off c.args.self.now.literals.now
    c.in-Ok.ensures.stays c.requires.ready

pub returns-in-Err-clause-stays : goal.returns-in-Err-clause-stays
returns-in-Err-clause-stays g c =
    keeps_on g.F.Functions.holds g.F.Functions.tree g.F.Functions.limit
    c.args.self.now.functions.ghost_name c.args.self.now.functions.now c.meets.new.functions
    c.args.self.now.leaves c.args.self.now.on c.args.self.now.off c.args.self.now.literals.now
    c.in-Err.ensures.stays c.requires.ready
