use Rattle.std.proofs.Common.{◌<◌, ◌≤◌, length, arith}
use Rattle.blif_models.proofs.FirstLines.{clocks_begin, clocks_go_on, clocks_done}
use Rattle.blif_models.proofs.first_model.used_clocks.Goals as goal

pub loop-place-init : goal.loop-place-init
loop-place-init c = clocks_begin c.args.file.now.models c.new-names.result c.new-names.ensures

pub loop-place-preserved : goal.loop-place-preserved
loop-place-preserved c =
    let within : c.loop-place.place < length c.args.file.now.models = omega arith in
    clocks_go_on c.args.file.now.models c.loop-place.place c.loop-place.names c.add_used.new.names _ within c.in_ok-add_used.ensures c.loop-place.invariant

pub returns : goal.returns
returns c =
    let past : length c.args.file.now.models ≤ c.loop-place.place = omega arith in
    clocks_done c.args.file.now.models c.loop-place.place c.loop-place.names _ past c.loop-place.invariant
