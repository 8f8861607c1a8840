use Rattle.sis_script.proofs.Fitting.{words_fit_slots}
use Rattle.sis_script.proofs.laws.words_fit_slots.Goals as goal

pub returns : goal.returns
returns c = words_fit_slots
