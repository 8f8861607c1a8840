use Rattle.blif_lines.proofs.Beside.{beside_begins, beside_goes_on, beside_ends}
use Rattle.blif_lines.specs.Reader.{names_beside}
use Rattle.blif_lines.proofs.ports.names_beside.Goals as goal

pub loop-name-init : goal.loop-name-init
loop-name-init c = beside_begins c.new-found.result c.in_ok-known.known.keys c.args.others.now c.args.names.now c.new-found.ensures c.in_ok-known.ensures

pub loop-name-preserved : goal.loop-name-preserved
loop-name-preserved c =
    beside_goes_on c.loop-name.found c.add_new.new.found c.loop-name.known.keys c.add_new.new.known.keys (names_beside c.args.others.now c.args.names.now) c.args.names.now c.loop-name.name-index c.name-item.result
    c.loop-name-test.true c.name-item.is c.in_ok-add_new.ensures.found c.in_ok-add_new.ensures.known c.loop-name.invariant

pub returns : goal.returns
returns c = beside_ends c.loop-name.found c.loop-name.known.keys (names_beside c.args.others.now c.args.names.now) c.args.names.now c.loop-name.name-index c.loop-name-test.false c.loop-name.invariant
