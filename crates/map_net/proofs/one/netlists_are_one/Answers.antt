use Rattle.map_net.proofs.Single.{netlists_one}
use Rattle.map_net.proofs.Outcomes.{sound_one}
use Rattle.map_net.proofs.one.netlists_are_one.Goals as goal

pub returns : goal.returns
returns c circuit library mapped other sound well =
    netlists_one circuit library (sound_one circuit library sound well) mapped other
