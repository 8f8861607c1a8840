use Rattle.map_net.proofs.Outcomes.{answers_one, sound_one}
use Rattle.map_net.proofs.one.answers_are_one.Goals as goal

pub returns : goal.returns
returns c circuit library one other sound well =
    answers_one circuit library (sound_one circuit library sound well) one other
