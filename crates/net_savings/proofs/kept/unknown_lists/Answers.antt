use Rattle.std.proofs.Common.{◌+◌, ◌≡◌, ◌∷◌, [], true, ℕ, Option, Some, None, List, length, slice_get, subst, sym, ap, ◌∙◌, arith}
use Rattle.cover_names.specs.Literals.{NamedCover}
use Rattle.std.proofs.lemmas.List.{length-append}
use Rattle.net_readers.specs.Fanouts.{is_in}
use Rattle.net_savings.proofs.NotesKept.{pushed_some, first_more}
use Rattle.net_savings.proofs.kept.unknown_lists.Goals as goal

pub loop-place-preserved : goal.loop-place-preserved
loop-place-preserved c =
    let long : length c.push.new.self.items ≡ length c.loop-place.lists.items + 1 = ap (λ (lists : List (Option (List NamedCover))). length lists) c.in_ok-push.ensures.items ∙ length-append c.loop-place.lists.items (None ∷ []) in
    record {
      long = omega (arith, long, c.loop-place.invariant.long);
      none = λ at covers e.
          c.loop-place.invariant.none at covers
          (pushed_some c.loop-place.lists.items at covers (subst (λ (lists : List (Option (List NamedCover))). slice_get lists at ≡ Some (Some covers)) c.in_ok-push.ensures.items e));
      all = λ at below.
          subst (λ (places : List ℕ). is_in places at ≡ true) (sym c.in_ok-push-2.ensures.items) (first_more c.loop-place.places.items c.loop-place.place c.loop-place.invariant.all at below);
    }
