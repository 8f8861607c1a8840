use Rattle.std.proofs.Common.{ℕ, List, [], ◌∷◌, length, ap, arith, length-append}
use Rattle.map_net.proofs.New.{new_none, new_put}
use Rattle.map_net.proofs.naming.next_names.Goals as goal

pub loop-place-init : goal.loop-place-init
loop-place-init c = (
  new_none _ _ _ c.in_ok-names.ensures.items,
  ap (λ (names : List (List ℕ)). length names) c.in_ok-names.ensures.items,
)

pub loop-place-preserved : goal.loop-place-preserved
loop-place-preserved c = (
  new_put _ _ _ _ _ _ c.in_ok-name.name c.loop-place.invariant.0 c.in_ok-name.ensures
      c.in_ok-push.ensures.items,
  let counts = length-append c.loop-place.names.items (c.in_ok-name.name ∷ []) in
      let same = ap (λ (names : List (List ℕ)). length names) c.in_ok-push.ensures.items in
      let before = c.loop-place.invariant.1 in
      omega (arith, counts, same, before),
)
