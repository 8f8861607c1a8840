use Rattle.std.proofs.Common.{ℕ, List, Vec, Global, ◌++◌, ◌∷◌, [], not, map, sym, ap, ◌∙◌}
use Rattle.std.proofs.lemmas.List.{map-append}
use Rattle.circuit_model.specs.Names.{has}
use Rattle.net_gains.specs.Turning.{apart}
use Rattle.net_gains.proofs.InSets.{cubes_of, filter_put, filter_skip}
use Rattle.net_gains.proofs.parting.cubes_beside.Goals.{then-not-holds+in_ok-from_slice+in_ok-push, else-not-holds}
use Rattle.net_gains.proofs.parting.cubes_beside.Goals as goal

pub loop-cube-preserved : goal.loop-cube-preserved
loop-cube-preserved c =
    elim c.if-not-holds.branch [
      | then-not-holds+in_ok-from_slice+in_ok-push w ↦
          filter_put (λ cube. cube.items) c.args.cubes.now c.loop-cube.cube-index c.cube-item.result c.loop-cube-test.true c.cube-item.is (λ cube. not (has (cubes_of c.args.set.now.keys) cube)) (map (λ cube. cube.items) c.loop-cube.made.items)
          (map (λ cube. cube.items) c.if-not-holds.made.items) (apart (cubes_of c.args.set.now.keys) (map (λ cube. cube.items) c.args.cubes.now))
          (ap not (ap (has (cubes_of c.args.set.now.keys)) (sym c.as_slice.ensures.value) ∙ (sym c.holds.ensures ∙ w.if-not-holds.true)))
          (ap (λ (made : Vec (Vec ℕ Global) Global). map (λ cube. cube.items) made.items) w.made-is
          ∙ (ap (map (λ cube. cube.items)) w.in_ok-push.ensures.items
          ∙ (map-append (λ (cube : Vec ℕ Global). cube.items) c.loop-cube.made.items (w.in_ok-from_slice.field-0 ∷ [])
          ∙ ap (λ (cube : List ℕ). map (λ cube. cube.items) c.loop-cube.made.items ++ cube ∷ []) (w.in_ok-from_slice.ensures.items ∙ w.as_slice-then-not-holds.ensures.value))))
          c.loop-cube.invariant
      | else-not-holds w ↦
          filter_skip (λ cube. cube.items) c.args.cubes.now c.loop-cube.cube-index c.cube-item.result c.loop-cube-test.true c.cube-item.is (λ cube. not (has (cubes_of c.args.set.now.keys) cube)) (map (λ cube. cube.items) c.loop-cube.made.items)
          (map (λ cube. cube.items) c.if-not-holds.made.items) (apart (cubes_of c.args.set.now.keys) (map (λ cube. cube.items) c.args.cubes.now))
          (ap not (ap (has (cubes_of c.args.set.now.keys)) (sym c.as_slice.ensures.value) ∙ (sym c.holds.ensures ∙ w.if-not-holds.false))) (ap (λ (made : Vec (Vec ℕ Global) Global). map (λ cube. cube.items) made.items) w.made-is) c.loop-cube.invariant
    ]
