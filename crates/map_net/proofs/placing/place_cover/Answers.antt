use Rattle.std.proofs.lemmas.Result.{on_ok_weaker}
use Rattle.map_net.proofs.Placements.{cover_placed}
use Rattle.map_net.proofs.placing.place_cover.Goals as goal

pub returns : goal.returns
returns c =
    on_ok_weaker c.place_gates.result
    (cover_placed c.args.library.now c.args.leaves.now c.args.used.now.keys c.args.root.now
    c.args.cover.now c.args.start.now c.names_driven.new.start c.in_ok-driven.driven.items
    c.as_slice.result.now c.as_slice-cover.result.now c.args.gates.now c.place_gates.new.gates
    c.as_slice.ensures.value c.as_slice-cover.ensures c.in_ok-driven.ensures.names)
    c.place_gates.ensures
