use Rattle.std.proofs.Common.{ℕ, List, [], ◌++◌, sym, ap, ◌∙◌, subst}
use Rattle.net_core.specs.Tables.{named}
use Rattle.net_core.specs.Places.{written_of}
use Rattle.net_resub.specs.Listed.{is_under, AreJoined}
use Rattle.net_resub.proofs.Visiting.{divisors_none, divisors_joined, divisors_risen}
use Rattle.net_resub.proofs.candidates.divisors.Goals as goal

pub returns-in-None : goal.returns-in-None
returns-in-None g c = divisors_none c.args.work.now.slots c.args.place c.new-places.result.items (sym c.in-None.ensures.table)

pub returns-in_ok-push_listed-in-Some : goal.returns-in_ok-push_listed-in-Some
unfolding named
returns-in_ok-push_listed-in-Some g c =
    divisors_risen c.args.work.now.slots c.args.place c.push_listed.new.places.items c.risen.result.items
    (divisors_joined c.args.work.now.slots c.args.place (written_of c.in-Some.entry.now) c.args.lists.now c.extend_from_slice.new.self.items c.push_listed.new.places.items (sym c.in-Some.ensures.table) c.requires
    (c.in_ok-extend_from_slice-in-Some.ensures.items ∙ (ap (λ (ps : List ℕ). ps ++ c.as_slice.result.now) c.new-places.ensures.items ∙ ap (λ (ps : List ℕ). [] ++ ps) c.as_slice.ensures.value))
    (subst (λ (names : List (List ℕ)). AreJoined (is_under c.args.lists.now) names c.extend_from_slice.new.self.items c.push_listed.new.places.items) c.as_slice-in-Some.ensures c.in_ok-push_listed-in-Some.ensures))
    c.risen.ensures
