use Rattle.library_trials.proofs.Changes.{constant_fits}
use Rattle.library_trials.proofs.networks.add_constant.Goals as goal

pub add-requires-clause-fitting : goal.add-requires-clause-fitting
add-requires-clause-fitting c name = rw (c.constant.ensures.written name) (constant_fits c.args.network.now name)
