use Rattle.std.proofs.Common.{◌≡◌, ◌==◌, ℕ, List, take, get_or, eqb, refl, sym, ap, ◌∙◌}
use Rattle.std.proofs.lemmas.Bool.{false≢true}
use Rattle.std.proofs.lemmas.List.{take_all}
use Rattle.std.proofs.lemmas.List.Filters.{dedup_is}
use Rattle.std.proofs.lemmas.List.Sorted.{list_any-IsPermutation}
use Rattle.net_readers.specs.Fanouts.{is_in}
use Rattle.net_savings.proofs.Naming.{dedup_kept, of_dedup}
use Rattle.net_savings.proofs.Partners.{listed_left, listed_more, only_left, only_more}
use Rattle.net_savings.proofs.sharing.listed_of.Goals as goal
use Rattle.net_savings.proofs.sharing.listed_of.Goals.{then-is_listed+in_ok-push, else-is_listed}

pub loop-place-preserved : goal.loop-place-preserved
loop-place-preserved c =
    elim c.if-is_listed.branch [
      | then-is_listed+in_ok-push w ↦
          rw w.listed-is
          (record {
            all = listed_more c.args.own.now.items c.deref-place-items.result.now c.loop-place.place-index (get_or c.deref-place-items.result.now c.loop-place.place-index 0) 0 c.loop-place.listed.items w.push.new.self.items
                c.loop-place-test.true refl w.in_ok-push.ensures.items c.loop-place.invariant.all;
            only = only_more c.args.own.now.items c.deref-place-items.result.now c.loop-place.place-index (get_or c.deref-place-items.result.now c.loop-place.place-index 0) 0 c.loop-place.listed.items w.push.new.self.items
                c.loop-place-test.true refl (c.is_listed.ensures.0 w.if-is_listed.true) w.in_ok-push.ensures.items c.loop-place.invariant.only;
          })
      | else-is_listed w ↦
          rw w.listed-is
          (record {
            all = listed_left c.args.own.now.items c.deref-place-items.result.now c.loop-place.place-index (get_or c.deref-place-items.result.now c.loop-place.place-index 0) 0 c.loop-place.listed.items
                c.loop-place-test.true refl (λ k. false≢true (sym w.if-is_listed.false ∙ c.is_listed.ensures.1 k)) c.loop-place.invariant.all;
            only = only_left c.args.own.now.items c.deref-place-items.result.now c.loop-place.place-index (get_or c.deref-place-items.result.now c.loop-place.place-index 0) 0 c.loop-place.listed.items
                c.loop-place-test.true refl c.loop-place.invariant.only;
          })
    ]

pub returns-clause-all : goal.returns-clause-all
returns-clause-all c = λ at h k.
    let all : take c.loop-place.place-index c.deref-place-items.result.now ≡ c.dedup.new.self.items =
    take_all c.loop-place.place-index c.deref-place-items.result.now c.loop-place-test.false ∙ c.deref-place-items.ensures.value in
    c.loop-place.invariant.all at
    (ap (λ (ps : List ℕ). is_in ps at) (all ∙ dedup_is eqb c.sort_unstable.new.self.items c.dedup.new.self.items c.dedup.ensures.filtered)
    ∙ dedup_kept c.sort_unstable.new.self.items at
    (sym (list_any-IsPermutation (λ (other : ℕ). other == at) c.args.places.items c.sort_unstable.new.self.items c.sort_unstable.ensures.permutation) ∙ h))
    k

pub returns-clause-only : goal.returns-clause-only
returns-clause-only c = λ at h.
    let all : take c.loop-place.place-index c.deref-place-items.result.now ≡ c.dedup.new.self.items =
    take_all c.loop-place.place-index c.deref-place-items.result.now c.loop-place-test.false ∙ c.deref-place-items.ensures.value in
    let p = c.loop-place.invariant.only at h in (
      list_any-IsPermutation (λ (other : ℕ). other == at) c.args.places.items c.sort_unstable.new.self.items c.sort_unstable.ensures.permutation
          ∙ of_dedup c.sort_unstable.new.self.items at
          (sym (ap (λ (ps : List ℕ). is_in ps at) (all ∙ dedup_is eqb c.sort_unstable.new.self.items c.dedup.new.self.items c.dedup.ensures.filtered)) ∙ p.0),
      p.1,
    )
