use Rattle.blif_models.proofs.OneModel.{one_model}
use Rattle.blif_models.proofs.laws.one_model_is_read_by_itself.Goals as goal

pub returns : goal.returns
returns c = one_model
