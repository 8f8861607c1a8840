use Rattle.std.proofs.Common.{ℕ, List, ap, ◌∙◌, subst}
use Rattle.circuit_order.specs.Order.{order_of}
use Rattle.net_func.specs.Numbering.{number_in, IsListing}
use Rattle.net_func.specs.Signals.{free_function}
use Rattle.net_func.proofs.Listed.{numbered_from, parts_known}
use Rattle.net_func.proofs.listing.free_listed.Goals as goal

pub order-requires : goal.order-requires
order-requires g c = rw c.as_slice.ensures c.requires.sound.dont_care_once

pub listed-requires : goal.listed-requires
listed-requires g c =
    rw (c.as_slice-2.ensures ∙ c.in_ok-names.ensures ∙ ap order_of c.as_slice.ensures)
    (parts_known c.args.circuit.now (number_in c.in_ok-numbers.numbers) c.requires.sound
    c.in_ok-numbers.ensures.ok.known)

pub returns-clause-ok : goal.returns-clause-ok
returns-clause-ok g c =
    numbered_from g.F.Functions.holds g.F.Functions.tree g.F.Functions.limit
    c.part_numbers.new.functions (number_in c.in_ok-numbers.numbers)
    (free_function c.args.circuit.now) (order_of c.args.circuit.now.dont_care)
    c.in_ok-listed.field-0
    c.in_ok-numbers.ensures.ok.right
    (subst (λ (names : List (List ℕ)). IsListing (number_in c.in_ok-numbers.numbers) names
    c.in_ok-listed.field-0)
    (c.as_slice-2.ensures ∙ c.in_ok-names.ensures ∙ ap order_of c.as_slice.ensures)
    c.in_ok-listed.ensures)
