use Rattle.std.proofs.Common.{◌≡◌, option_copied}
use Rattle.blif_models.proofs.EarlierModels.{fault_from}
use Rattle.blif_models.proofs.checking.check_others.Given as goal

abbrev pub invariant-loop-place : goal.invariant-loop-place
invariant-loop-place l = fault_from (option_copied l.library) l.file.models l.place ≡ fault_from (option_copied l.library) l.file.models 1
