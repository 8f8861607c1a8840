use Rattle.std.proofs.Common.{ℕ, Option, is_some, bytes_eq, sym, ap, ◌∙◌}
use Rattle.std.proofs.lemmas.Result.{on_ok_weaker}
use Rattle.indexmap.specs.IndexMap.{get}
use Rattle.func_core.specs.declared.functions.Func.{Func}
use Rattle.net_func.specs.Numbering.{number_in}
use Rattle.net_func.proofs.LeafBits.{leaf_driven, leaf_there, leaf_added, no_place}
use Rattle.net_func.proofs.leaves.add_leaf.Goals as goal

pub returns-then-is_some-clause-ok : goal.returns-then-is_some-clause-ok
returns-then-is_some-clause-ok g c =
    leaf_driven g.F.Functions.holds g.F.Functions.tree g.F.Functions.limit c.args.functions.now
    (number_in c.args.numbers.now) (get bytes_eq c.args.places.now) c.args.name.now _
    c.requires.stand
    (ap (λ (found : Option ℕ). is_some found) (sym c.place_at.ensures) ∙ sym c.if-is_some.ensures)

pub returns-in-Ok-clause-ok : goal.returns-in-Ok-clause-ok
returns-in-Ok-clause-ok g c =
    on_ok_weaker c.insert.result
    (λ put.
    leaf_added g.F.Functions.holds g.F.Functions.tree g.F.Functions.limit c.args.functions.now
    c.var.new.self (number_in c.args.numbers.now) (number_in c.insert.new.self)
    (get bytes_eq c.args.places.now) c.args.name.now c.args.place c.in-Ok.number
    c.in-Ok.ensures.stays
    c.requires.stand put c.in-Ok.ensures.ok
    (sym c.place_at.ensures ∙ no_place c.place_at.result (sym c.if-is_some.ensures)))
    c.insert.ensures

pub returns-then-is_some-2-clause-ok : goal.returns-then-is_some-2-clause-ok
returns-then-is_some-2-clause-ok g c =
    leaf_there g.F.Functions.holds g.F.Functions.tree g.F.Functions.limit c.args.functions.now
    (number_in c.args.numbers.now) (get bytes_eq c.args.places.now) c.args.name.now _
    c.requires.stand
    (ap (λ (found : Option Func). is_some found) (sym c.get.ensures) ∙ sym c.if-is_some-2.ensures)
