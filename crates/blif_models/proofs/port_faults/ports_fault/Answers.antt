use Rattle.std.proofs.Common.{arith, option_copied}
use Rattle.blif_models.specs.PortFaults.{lines_wrong}
use Rattle.blif_models.specs.Reader.{ports_fault}
use Rattle.blif_models.proofs.UsedModels.{ports_begin, goes_on, stops, ends}
use Rattle.blif_models.proofs.port_faults.ports_fault.Goals as goal

pub loop-place-init : goal.loop-place-init
loop-place-init c = ports_begin (option_copied c.args.library) c.args.file.now.models c.args.table.now c.requires.table

pub returns-in-Some : goal.returns-in-Some
returns-in-Some c =
    let count = c.count-place-end.ensures in
    stops (lines_wrong c.args.file.now.models c.args.table.now) c.args.file.now.models c.args.used.now c.loop-place.place c.in_ok-fault.field-0 (ports_fault (option_copied c.args.library) c.args.file.now.models) c.in-Some.fault c.requires.used (omega (arith, c.loop-place-test.true, count))
    c.in_ok-fault.ensures c.in-Some.is c.loop-place.invariant

pub loop-place-preserved : goal.loop-place-preserved
loop-place-preserved c =
    let count = c.count-place-end.ensures in
    goes_on (lines_wrong c.args.file.now.models c.args.table.now) c.args.file.now.models c.args.used.now c.loop-place.place c.in_ok-fault.field-0 (ports_fault (option_copied c.args.library) c.args.file.now.models) c.requires.used (omega (arith, c.loop-place-test.true, count))
    c.in_ok-fault.ensures c.in_default.is c.loop-place.invariant

pub returns : goal.returns
returns c =
    let count = c.count-place-end.ensures in
    ends (lines_wrong c.args.file.now.models c.args.table.now) c.args.file.now.models c.loop-place.place (ports_fault (option_copied c.args.library) c.args.file.now.models) (omega (arith, c.loop-place-test.false, count)) c.loop-place.invariant
