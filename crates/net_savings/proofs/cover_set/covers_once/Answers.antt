use Rattle.std.proofs.Common.{◌≡◌, ◌↔◌, rules, List, [], ◌∷◌, ◌++◌, sym, ap, ◌∙◌, subst}
use Rattle.std.proofs.lemmas.List.{append_assoc, append-nil, nil_from_length}
use Rattle.std.specs.Vec.Iter.{into_iter_items}
use Rattle.alg_div.specs.Cubes.{Has}
use Rattle.cover_names.specs.Literals.{NamedCover}
use Rattle.net_savings.proofs.CoverSets.{put_more}
use Rattle.net_savings.proofs.cover_set.covers_once.Goals as goal

pub loop-cover-init : goal.loop-cover-init
loop-cover-init c = (
  λ cover. subst (λ (keys : List NamedCover). Has cover keys ↔ Has cover []) (sym c.new-made.ensures.empty) (λ m. m, λ m. m),
  search rules,
)

pub loop-cover-preserved : goal.loop-cover-preserved
loop-cover-preserved c = (
  put_more c.loop-cover.made.keys c.insert.new.self.keys c.loop-cover.yielded c.in-Some.cover c.in_ok-insert.ensures.keys c.loop-cover.invariant.0,
  append_assoc c.loop-cover.yielded (c.in-Some.cover ∷ []) (into_iter_items c.next.new.self)
      ∙ ap (λ (l : List NamedCover). c.loop-cover.yielded ++ l) (sym c.in-Some.ensures.steps.0) ∙ c.loop-cover.invariant.1,
)

pub returns : goal.returns
returns c = λ cover.
    let none : into_iter_items c.loop-cover.cover-iterator ≡ [] = nil_from_length _ (sym c.loop-cover.cover-iterator.rest.ok.0 ∙ c.in-None.ensures.steps.0) in
    subst (λ (covers : List NamedCover). Has cover c.loop-cover.made.keys ↔ Has cover covers)
    (sym (append-nil c.loop-cover.yielded) ∙ ap (λ (l : List NamedCover). c.loop-cover.yielded ++ l) (sym none) ∙ c.loop-cover.invariant.1) (c.loop-cover.invariant.0 cover)
