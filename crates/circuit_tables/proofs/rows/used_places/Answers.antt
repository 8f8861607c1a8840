use Rattle.std.proofs.Common.{Bool, List, [], ◌∷◌, ◌++◌, ◌+◌, get_or, map, drop, ap, ◌∙◌}
use Rattle.std.specs.List.{list_any}
use Rattle.circuit_model.specs.Counts.{is_literal}
use Rattle.circuit_model.specs.declared.circuit.Tri.{Tri}
use Rattle.circuit_model.specs.declared.circuit.Tri.TheVariants.{Free}
use Rattle.circuit_tables.specs.Tidy.{used_places}
use Rattle.circuit_tables.proofs.Steps.{used_begun, used_more, used_done, marks_next, marks_all}
use Rattle.circuit_tables.proofs.rows.used_places.Goals as goal

pub loop-place-init : goal.loop-place-init
loop-place-init c = rw c.in_ok-marks.ensures.items (used_begun c.args.inputs.now c.args.rows.now)

pub loop-place-preserved : goal.loop-place-preserved
loop-place-preserved c =
    marks_next (used_places c.args.inputs.now c.args.rows.now) (used_places (drop (c.loop-place.place + 1) c.args.inputs.now) (map (drop (c.loop-place.place + 1)) c.args.rows.now))
    (used_places (drop c.loop-place.place c.args.inputs.now) (map (drop c.loop-place.place) c.args.rows.now)) c.loop-place.marks.items c.push.new.self.items
    (list_any (λ (row : List Tri). is_literal (get_or row c.loop-place.place Free)) c.args.rows.now) c.loop-place.invariant
    (used_more c.args.inputs.now c.args.rows.now c.loop-place.place c.loop-place-test.true)
    (c.in_ok-push.ensures.items ∙ ap (λ (mark : Bool). c.loop-place.marks.items ++ mark ∷ []) c.is_place_used.ensures)

pub returns : goal.returns
returns c =
    marks_all (used_places c.args.inputs.now c.args.rows.now) (used_places (drop c.loop-place.place c.args.inputs.now) (map (drop c.loop-place.place) c.args.rows.now)) c.loop-place.marks.items c.loop-place.invariant
    (used_done c.args.inputs.now c.args.rows.now c.loop-place.place c.loop-place-test.false)
