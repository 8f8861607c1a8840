use Rattle.std.proofs.Common.{refl, sym}
use Rattle.net_func.proofs.Replacing.{all_left, some_left}
use Rattle.net_func.proofs.kept.KeptFunctions.replace.Goals as goal

pub returns-clause-kept : goal.returns-clause-kept
returns-clause-kept c =
    some_left c.args.self.now
    (record {
      ordered = c.put_table.new.ordered;
      own = c.in_ok-own.own;
      free = c.args.self.now.free;
    })
    c.args.table c.requires.ready c.put_table.ensures.ready c.put_table.ensures.replaced
    c.in_ok-own.ensures refl

pub returns-then-stands-clause-kept : goal.returns-then-stands-clause-kept
returns-then-stands-clause-kept c = all_left c.args.self.now

pub returns-then-stands-clause-replaced : goal.returns-then-stands-clause-replaced
returns-then-stands-clause-replaced c = sym (c.stands.ensures c.if-stands.true)
