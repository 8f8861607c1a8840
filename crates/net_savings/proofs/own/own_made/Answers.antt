use Rattle.net_savings.proofs.Unlisted.{many_not}
use Rattle.net_savings.proofs.own.own_made.Goals as goal

pub first_many-requires : goal.first_many-requires
first_many-requires g c =
    let many = rw c.in-Err-ManyKernels.field-0-is at c.in-Err-ManyKernels.ensures.many in
    many_not c.args.rule c.args.work.now.slots c.args.place c.in-Err-ManyKernels._name many
