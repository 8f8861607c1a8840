use Rattle.std.proofs.Common.{◌≡◌, sym}
use Rattle.net_core.specs.Tables.{named}
use Rattle.net_candidates.specs.declared.fault.ListFault.TheVariants.{ManyKernels}
use Rattle.net_savings.proofs.own.own_of.Goals as goal

pub returns-in_ok-name-in-Err-ManyKernels-clause-many : goal.returns-in_ok-name-in-Err-ManyKernels-clause-many
unfolding named
returns-in_ok-name-in-Err-ManyKernels-clause-many g c =
    let many : c.in-Err-ManyKernels.field-0 ≡ ManyKernels = cc in
    (c.in-Err-ManyKernels.ensures.many many c.args.entry.now.output, sym c.in_ok-name-in-Err-ManyKernels.ensures)
