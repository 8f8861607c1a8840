use Rattle.std.proofs.Common.{arith}
use Rattle.blif_models.specs.PortFaults.{lines_twice}
use Rattle.blif_models.specs.Reader.{twice_fault}
use Rattle.blif_models.proofs.UsedModels.{twice_begins, goes_on, stops, ends}
use Rattle.blif_models.proofs.port_faults.twice_fault.Goals as goal

pub loop-place-init : goal.loop-place-init
loop-place-init c = twice_begins c.args.file.now.models

pub returns-in-Some : goal.returns-in-Some
returns-in-Some c =
    let count = c.count-place-end.ensures in
    stops lines_twice c.args.file.now.models c.args.used.now c.loop-place.place c.in_ok-fault.field-0 (twice_fault c.args.file.now.models) c.in-Some.fault c.requires (omega (arith, c.loop-place-test.true, count))
    c.in_ok-fault.ensures c.in-Some.is c.loop-place.invariant

pub loop-place-preserved : goal.loop-place-preserved
loop-place-preserved c =
    let count = c.count-place-end.ensures in
    goes_on lines_twice c.args.file.now.models c.args.used.now c.loop-place.place c.in_ok-fault.field-0 (twice_fault c.args.file.now.models) c.requires (omega (arith, c.loop-place-test.true, count))
    c.in_ok-fault.ensures c.in_default.is c.loop-place.invariant

pub returns : goal.returns
returns c =
    let count = c.count-place-end.ensures in
    ends lines_twice c.args.file.now.models c.loop-place.place (twice_fault c.args.file.now.models) (omega (arith, c.loop-place-test.false, count)) c.loop-place.invariant
