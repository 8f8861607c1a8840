use Rattle.library_trials.proofs.Changes.{constant_fits, constant_acyclic}
use Rattle.library_trials.proofs.networks.put_constant.Goals as goal

pub replace-requires-clause-fitting : goal.replace-requires-clause-fitting
replace-requires-clause-fitting c =
    rw (c.constant.ensures.written c.args.name.now) (constant_fits c.args.network.now c.args.name.now)

pub replace-requires-clause-acyclic : goal.replace-requires-clause-acyclic
replace-requires-clause-acyclic c =
    rw (c.constant.ensures.written c.args.name.now) (constant_acyclic c.args.network.now.tables c.args.name.now c.sound.ensures.acyclic)
