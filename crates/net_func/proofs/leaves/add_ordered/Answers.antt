use Rattle.std.proofs.Common.{bytes_eq}
use Rattle.std.proofs.lemmas.Result.{on_ok_weaker, IfErr-weaker}
use Rattle.indexmap.specs.IndexMap.{get}
use Rattle.net_func.specs.Numbering.{number_in, SolvesRest, IsBlamed}
use Rattle.net_func.proofs.Adding.{blames_weaker}
use Rattle.net_func.proofs.LeafBits.{closed_over, over_added, over_big}
use Rattle.net_func.proofs.leaves.add_ordered.Goals as goal

pub add_all-requires-clause-closed : goal.add_all-requires-clause-closed
add_all-requires-clause-closed g c =
    closed_over g.F.Functions.holds g.F.Functions.tree g.F.Functions.limit c.args.functions.now
    c.add_leaves.new.functions c.args.tables.now c.args.leaves.now
    (get bytes_eq c.args.order.now.places) (number_in c.args.numbers.now)
    (number_in c.add_leaves.new.numbers) c.requires.order.places c.requires.over
    c.in_ok-add_leaves.ensures.ok

pub returns-clause-ok : goal.returns-clause-ok
returns-clause-ok g c =
    on_ok_weaker c.add_all.result
    (over_added g.F.Functions.holds g.F.Functions.tree g.F.Functions.limit c.args.functions.now
    c.add_leaves.new.functions c.add_all.new.functions
    c.args.tables.now c.args.leaves.now (get bytes_eq c.args.order.now.places)
    (number_in c.args.numbers.now) (number_in c.add_leaves.new.numbers) (number_in
    c.add_all.new.numbers)
    c.requires.order.places c.in_ok-add_leaves.ensures.ok)
    c.add_all.ensures.ok

pub returns-clause-big : goal.returns-clause-big
returns-clause-big g c =
    IfErr-weaker c.add_all.result _ _
    (λ fault.
    blames_weaker
    (IsBlamed g.F.Functions.holds g.F.Functions.tree g.F.Functions.limit c.add_leaves.new.functions
    c.args.tables.now (number_in c.add_leaves.new.numbers)
    (SolvesRest c.args.tables.now (number_in c.add_leaves.new.numbers))) _ fault
    (λ blamed.
    over_big g.F.Functions.holds g.F.Functions.tree g.F.Functions.limit c.args.functions.now
    c.add_leaves.new.functions c.args.tables.now c.args.leaves.now
    (get bytes_eq c.args.order.now.places) (number_in c.args.numbers.now)
    (number_in c.add_leaves.new.numbers) blamed c.requires.order.places
    c.in_ok-add_leaves.ensures.stays c.in_ok-add_leaves.ensures.ok))
    c.add_all.ensures.big
