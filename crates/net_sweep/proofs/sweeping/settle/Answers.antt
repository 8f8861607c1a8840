use Rattle.net_sweep.proofs.Finds.{all_wide}
use Rattle.net_sweep.proofs.sweeping.settle.Goals as goal

pub all_candidates-requires : goal.all_candidates-requires
all_candidates-requires g c = all_wide c.args.aliased.now.tables c.requires.sound.shaped
