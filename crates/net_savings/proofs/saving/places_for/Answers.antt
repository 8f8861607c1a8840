use Rattle.std.proofs.Common.{List, ℕ, sym, ap, ◌∙◌, subst}
use Rattle.std.specs.List.Sorted.{IsStrictlyIncreasing}
use Rattle.net_readers.specs.Fanouts.{is_in}
use Rattle.net_savings.proofs.Naming.{readers_all, reads_within}
use Rattle.net_savings.proofs.saving.places_for.Goals as goal

pub returns-clause-rising : goal.returns-clause-rising
returns-clause-rising g c =
    subst IsStrictlyIncreasing (sym c.into_vec.ensures) c.in_ok-readers-in-Some.ensures.rising

pub returns-clause-all : goal.returns-clause-all
returns-clause-all g c =
    readers_all c.args.work.now.slots c.args.cover.now c.in-Some.name.now
    c.in_ok-readers-in-Some.readers
    c.into_vec.result.items c.in-Some.ensures c.in_ok-readers-in-Some.ensures.exact
    (λ at h. ap (λ (places : List ℕ). is_in places at) c.into_vec.ensures ∙ h)

pub returns-clause-within : goal.returns-clause-within
returns-clause-within g c = λ at h.
    reads_within c.args.work.now.slots c.in-Some.name.now at
    (sym (c.in_ok-readers-in-Some.ensures.exact at)
    ∙ (sym (ap (λ (places : List ℕ). is_in places at) c.into_vec.ensures) ∙ h))
