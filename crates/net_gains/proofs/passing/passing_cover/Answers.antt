use Rattle.std.proofs.Common.{◌≡◌, false, sym, ap, ◌∙◌, subst}
use Rattle.std.proofs.lemmas.Bool.{false≢true}
use Rattle.cover_names.proofs.Orders.{cover_order}
use Rattle.net_gains.specs.Divisors.{cover_of}
use Rattle.net_gains.specs.Codes.{coded, are_coded}
use Rattle.net_gains.proofs.Carried.{same_items}
use Rattle.net_gains.proofs.Coded.{cover_known, coded_known, covers_keep, number_lists_order}
use Rattle.net_gains.specs.Numbers.{lists_in}
use Rattle.net_gains.proofs.passing.passing_cover.Goals as goal

pub returns-in-None : goal.returns-in-None
returns-in-None g c = λ cover known are passes.
    let none : are_coded c.args.codes.now (lists_in c.as_slice.result.now) ≡ false = rw c.in-None.is at c.in_ok-cover.ensures in
    absurd (false≢true (sym none ∙ ap (are_coded c.args.codes.now) (ap lists_in c.as_slice.ensures.value ∙ c.in_ok-numbers.ensures ∙ sym are) ∙ coded_known c.args.codes.now cover known))

pub returns : goal.returns
returns g c = λ other known are passes.
    let does = rw c.in-Some.is at c.in_ok-cover.ensures in
    let here : coded c.args.codes.now c.in-Some.cover ≡ cover_of c.args.divisor.now = does.2 ∙ ap lists_in c.as_slice.ensures.value ∙ c.in_ok-numbers.ensures in
    let same : other ≡ c.in-Some.cover =
    same_items (covers_keep c.args.codes.now c.sound.ensures.rising) cover_order number_lists_order.total other c.in-Some.cover (cover_known c.args.codes.now other known)
    (cover_known c.args.codes.now c.in-Some.cover does.1) (are ∙ sym here) in
    c.in_ok-passes-in-Some.ensures.no c.if-branch.false (subst (g.T.Trial.Passes c.args.trial.now) same passes)
