use Rattle.std.proofs.Common.{ℕ, List, sym, subst}
use Rattle.std.proofs.lemmas.Result.{on_ok_weaker}
use Rattle.circuit_model.specs.Names.{has}
use Rattle.circuit_model.specs.Soundness.{outputs_of}
use Rattle.circuit_order.specs.Order.{IsOrdered}
use Rattle.net_func.specs.Numbering.{number_in, SolvesRest}
use Rattle.net_func.proofs.Adding.{adds_same}
use Rattle.net_func.proofs.building.add_all.Goals as goal

pub add_in_order-requires-clause-order : goal.add_in_order-requires-clause-order
add_in_order-requires-clause-order g c =
    subst (λ (names : List (List ℕ)). IsOrdered c.args.tables.now names)
    (sym c.as_slice-names.ensures) c.requires.order.names

pub returns-clause-ok : goal.returns-clause-ok
returns-clause-ok g c =
    let in_order : IsOrdered c.args.tables.now c.as_slice-names.result.now =
    subst (λ (names : List (List ℕ)). IsOrdered c.args.tables.now names)
    (sym c.as_slice-names.ensures) c.requires.order.names in
    on_ok_weaker c.add_in_order.result
    (λ adds.
    adds_same g.F.Functions.holds g.F.Functions.tree g.F.Functions.limit c.args.functions.now
    c.add_in_order.new.functions (number_in c.args.numbers.now) (number_in
    c.add_in_order.new.numbers)
    (has c.as_slice-names.result.now) (has (outputs_of c.args.tables.now))
    (SolvesRest c.args.tables.now (number_in c.args.numbers.now)) adds in_order.each)
    c.add_in_order.ensures.ok
