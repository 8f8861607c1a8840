use Rattle.std.proofs.Common.{ℕ, List, Vec, Global, ◌++◌, ◌∷◌, [], map, sym, ap, ◌∙◌}
use Rattle.std.proofs.lemmas.List.{map-append}
use Rattle.circuit_model.specs.Names.{has}
use Rattle.net_gains.specs.Turning.{among}
use Rattle.net_gains.proofs.InSets.{cubes_of, filter_put, filter_skip}
use Rattle.net_gains.proofs.parting.cubes_in.Goals.{then-holds+in_ok-from_slice+in_ok-push, else-holds}
use Rattle.net_gains.proofs.parting.cubes_in.Goals as goal

pub loop-cube-preserved : goal.loop-cube-preserved
loop-cube-preserved c =
    elim c.if-holds.branch [
      | then-holds+in_ok-from_slice+in_ok-push w ↦
          filter_put (λ cube. cube.items) c.args.cubes.now c.loop-cube.cube-index c.cube-item.result c.loop-cube-test.true c.cube-item.is (has (cubes_of c.args.set.now.keys)) (map (λ cube. cube.items) c.loop-cube.made.items)
          (map (λ cube. cube.items) c.if-holds.made.items) (among (cubes_of c.args.set.now.keys) (map (λ cube. cube.items) c.args.cubes.now))
          (ap (has (cubes_of c.args.set.now.keys)) (sym c.as_slice.ensures.value) ∙ (sym c.holds.ensures ∙ w.if-holds.true))
          (ap (λ (made : Vec (Vec ℕ Global) Global). map (λ cube. cube.items) made.items) w.made-is
          ∙ (ap (map (λ cube. cube.items)) w.in_ok-push.ensures.items
          ∙ (map-append (λ (cube : Vec ℕ Global). cube.items) c.loop-cube.made.items (w.in_ok-from_slice.field-0 ∷ [])
          ∙ ap (λ (cube : List ℕ). map (λ cube. cube.items) c.loop-cube.made.items ++ cube ∷ []) (w.in_ok-from_slice.ensures.items ∙ w.as_slice-then-holds.ensures.value))))
          c.loop-cube.invariant
      | else-holds w ↦
          filter_skip (λ cube. cube.items) c.args.cubes.now c.loop-cube.cube-index c.cube-item.result c.loop-cube-test.true c.cube-item.is (has (cubes_of c.args.set.now.keys)) (map (λ cube. cube.items) c.loop-cube.made.items)
          (map (λ cube. cube.items) c.if-holds.made.items) (among (cubes_of c.args.set.now.keys) (map (λ cube. cube.items) c.args.cubes.now))
          (ap (has (cubes_of c.args.set.now.keys)) (sym c.as_slice.ensures.value) ∙ (sym c.holds.ensures ∙ w.if-holds.false)) (ap (λ (made : Vec (Vec ℕ Global) Global). map (λ cube. cube.items) made.items) w.made-is) c.loop-cube.invariant
    ]
