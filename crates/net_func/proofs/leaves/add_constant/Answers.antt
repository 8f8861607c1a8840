use Rattle.std.proofs.lemmas.Result.{on_ok_weaker}
use Rattle.net_func.specs.Numbering.{number_in}
use Rattle.net_func.proofs.LeafBits.{constant_added}
use Rattle.net_func.proofs.leaves.add_constant.Goals as goal

pub returns-in-Ok-clause-ok : goal.returns-in-Ok-clause-ok
returns-in-Ok-clause-ok g c =
    on_ok_weaker c.insert.result
    (λ put.
    constant_added g.F.Functions.holds g.F.Functions.tree g.F.Functions.limit c.args.functions.now
    c.constant.new.self (number_in c.args.numbers.now) (number_in c.insert.new.self) c.args.name.now
    c.args.bit c.in-Ok.number c.in-Ok.ensures.stays c.requires.stand put c.in-Ok.ensures.ok)
    c.insert.ensures
