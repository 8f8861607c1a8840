use Rattle.std.proofs.Common.{sym, refl}
use Rattle.std.proofs.lemmas.Result.{on_ok_weaker}
use Rattle.net_func.specs.Numbering.{number_in}
use Rattle.net_func.proofs.Reach.{unreached_more}
use Rattle.net_func.proofs.unreached.take_over.Goals as goal

pub returns-in-Some : goal.returns-in-Some
returns-in-Some c =
    on_ok_weaker c.insert.result
    (unreached_more c.args.tables.now c.args.name.now c.args.signal.now
    (number_in c.args.numbers.now) (number_in c.args.unreached.now) (number_in c.insert.new.self)
    c.in-Some.number c.requires.unreached (sym c.if-eq.ensures)
    (c.if-not-reads_known.ensures refl) (sym c.in-Some.ensures))
    c.insert.ensures
