use Rattle.std.proofs.Common.{◌∙◌, ◌||◌, ◌==◌, ◌++◌, ◌∷◌, [], Bool, List, ap, sym, map, arith}
use Rattle.std.specs.List.{range_with_len}
use Rattle.std.proofs.lemmas.List.FromFn.{map-range_with_len_more}
use Rattle.circuit_checks.specs.Searching.{is_seen}
use Rattle.blif_models.specs.Models.{is_used}
use Rattle.blif_models.proofs.graph.used.Goals as goal

pub loop-place-preserved : goal.loop-place-preserved
unfolding is_used
loop-place-preserved c =
    c.in_ok-push.ensures.items
    ∙ ap (λ (front : List Bool). front ++ c.is_first_or_seen.result ∷ []) c.loop-place.invariant
    ∙ ap (λ (mark : Bool). map (is_used c.args.graph.now) (range_with_len 0 c.loop-place.place) ++ mark ∷ [])
    (c.is_first_or_seen.ensures ∙ ap (λ (seen : List Bool). c.loop-place.place == 0 || is_seen seen c.loop-place.place) c.as_slice.ensures.value
    ∙ ap (λ (b : Bool). c.loop-place.place == 0 || b) (c.in_ok-seen.ensures c.loop-place.place))
    ∙ sym (map-range_with_len_more (is_used c.args.graph.now) 0 c.loop-place.place c.loop-place.place (omega arith))
