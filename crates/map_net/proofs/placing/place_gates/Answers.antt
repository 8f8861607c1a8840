use Rattle.std.proofs.Common.{List, map, ap, ◌∙◌, rules}
use Rattle.std.proofs.lemmas.Slice.Zip.{Zip-more, either_empty_from_Zip}
use Rattle.tree_cover.specs.declared.writing.Signal.{Signal}
use Rattle.map_net.specs.Mapping.{name_of, placed_as}
use Rattle.map_net.proofs.Placements.{gates_begun, next_place, gates_more, gates_all}
use Rattle.map_net.proofs.placing.place_gates.Goals as goal

pub loop-gate-init : goal.loop-gate-init
loop-gate-init c =
    gates_begun c.args.library.now (name_of c.args.leaves.now c.args.driven.now) c.args.cover.now
    c.args.driven.now _ _ c.args.gates.now (search rules) (search rules) c.requires.count
    c.requires.places

pub gate_at-cell-requires : goal.gate_at-cell-requires
gate_at-cell-requires c =
    let (first, second) = Zip-more c.loop-gate.gate-iterator c.next.new.self c.next.result
    (c.in-Some.gate, c.in-Some.output) c.in-Some.is c.next.ensures.steps in
    next_place c.args.library.now (name_of c.args.leaves.now c.args.driven.now) c.args.cover.now
    c.args.driven.now _ _ _ c.args.gates.now c.loop-gate.gates c.in-Some.gate.now first
    c.loop-gate.invariant

pub loop-gate-preserved : goal.loop-gate-preserved
loop-gate-preserved c =
    let (first, second) = Zip-more c.loop-gate.gate-iterator c.next.new.self c.next.result
    (c.in-Some.gate, c.in-Some.output) c.in-Some.is c.next.ensures.steps in
    let named = name_of c.args.leaves.now c.args.driven.now in
    gates_more c.args.library.now named c.args.cover.now c.args.driven.now _ _ _ _
    c.args.gates.now c.loop-gate.gates _ c.in-Some.gate.now c.in-Some.output.now
    c.in_ok-placed_gate.field-0 first second (
      c.gate_at-cell.result.now,
      c.gate_at-cell.ensures,
      c.in_ok-placed_gate.ensures
          ∙ ap (λ (signals : List Signal). placed_as c.gate_at-cell.result.now (map named signals)
          c.in-Some.output.now) c.as_slice-signals.ensures,
    ) c.in_ok-push.ensures.ok
    c.loop-gate.invariant

pub returns : goal.returns
returns c =
    gates_all c.args.library.now (name_of c.args.leaves.now c.args.driven.now) c.args.cover.now
    c.args.driven.now _ _ c.args.gates.now c.loop-gate.gates
    (either_empty_from_Zip c.loop-gate.gate-iterator c.next.new.self c.next.result c.in-None.is
    c.next.ensures.steps) c.loop-gate.invariant
