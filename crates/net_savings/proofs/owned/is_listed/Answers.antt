use Rattle.std.proofs.Common.{◌≡◌, ◌<◌, Option, List, Some, None, slice_get, length, refl, sym, ap, ◌∙◌}
use Rattle.std.proofs.lemmas.Bool.{false≢true, lt-ltb, ltb-true}
use Rattle.std.proofs.lemmas.Option.{none-some, same_Some}
use Rattle.cover_names.specs.Literals.{NamedCover}
use Rattle.net_core.proofs.Lookups.{get_at}
use Rattle.net_savings.proofs.KeptLists.{within}
use Rattle.net_savings.proofs.owned.is_listed.Goals as goal

pub returns-in-Some-Some : goal.returns-in-Some-Some
returns-in-Some-Some c = (
  λ yes. (
    c.in-Some-Some._covers,
    ap (λ (lists : List (Option (List NamedCover))). slice_get lists c.args.place) (sym c.deref.ensures.value)
        ∙ (get_at c.deref.result.now c.args.place c.in-Some-Some.field-0.now (ltb-true c.args.place (length c.deref.result.now) (sym c.in-Some-Some.ensures.lookup.0))
        ∙ ap (λ (list : Option (List NamedCover)). Some list) (sym c.in-Some-Some.ensures.lookup.1 ∙ c.in-Some-Some.field-0-is)),
  ),
  λ is. refl,
)

pub returns-in-None : goal.returns-in-None
returns-in-None c = (
  λ yes. absurd (false≢true yes),
  λ (covers, e). (let below : c.args.place < length c.deref.result.now =
      within c.deref.result.now c.args.place (Some covers) (ap (λ (lists : List (Option (List NamedCover))). slice_get lists c.args.place) c.deref.ensures.value ∙ e) in
      absurd (false≢true (c.in-None.ensures.lookup.0 ∙ lt-ltb c.args.place (length c.deref.result.now) below))),
)

pub returns-in-Some-None : goal.returns-in-Some-None
returns-in-Some-None c = (
  λ yes. absurd (false≢true yes),
  λ (covers, e). (let none : slice_get c.args.own.now.items c.args.place ≡ Some None =
      ap (λ (lists : List (Option (List NamedCover))). slice_get lists c.args.place) (sym c.deref.ensures.value)
      ∙ (get_at c.deref.result.now c.args.place c.in-Some-None.field-0.now (ltb-true c.args.place (length c.deref.result.now) (sym c.in-Some-None.ensures.lookup.0))
      ∙ ap (λ (list : Option (List NamedCover)). Some list) (sym c.in-Some-None.ensures.lookup.1 ∙ c.in-Some-None.field-0-is)) in
      absurd (none-some covers (same_Some None (Some covers) (sym none ∙ e)))),
)
