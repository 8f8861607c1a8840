use Rattle.std.proofs.Common.{ℕ, List, ◌∙◌, subst}
use Rattle.std.proofs.lemmas.Result.{IfOk-weaker}
use Rattle.net_func.specs.Numbering.{number_in, IsListing}
use Rattle.net_func.proofs.Listed.{signals_known}
use Rattle.net_func.proofs.listing.listed_signals.Goals as goal

pub listed-requires : goal.listed-requires
listed-requires c =
    rw (c.as_slice.ensures ∙ c.in_ok-names.ensures)
    (signals_known c.args.circuit.now (number_in c.args.numbers.now) c.requires.sound
    c.requires.known)

pub returns : goal.returns
returns c =
    IfOk-weaker c.listed.result _ _
    (λ list listing.
    subst (λ (names : List (List ℕ)). IsListing (number_in c.args.numbers.now) names list)
    (c.as_slice.ensures ∙ c.in_ok-names.ensures) listing)
    c.listed.ensures
