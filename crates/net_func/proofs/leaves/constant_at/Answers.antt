use Rattle.net_func.specs.Numbering.{number_in}
use Rattle.net_func.proofs.LeafBits.{empty_stands, from_none}
use Rattle.net_func.proofs.leaves.constant_at.Goals as goal

pub add_constant-requires : goal.add_constant-requires
add_constant-requires g c = record {
  stand = empty_stands g.F.Functions.holds g.F.Functions.tree g.F.Functions.limit
      c.args.functions.now
      (number_in c.new-numbers.result) c.new-numbers.ensures;
}

pub returns-clause-ok : goal.returns-clause-ok
returns-clause-ok g c =
    from_none g.F.Functions.holds g.F.Functions.tree g.F.Functions.limit c.args.functions.now
    c.add_constant.new.functions (number_in c.new-numbers.result) (number_in
    c.add_constant.new.numbers)
    _ _ c.new-numbers.ensures c.in_ok-add_constant.ensures.ok
