use Rattle.func_shared.proofs.Sharing.{zero_number}
use Rattle.func_shared.proofs.shared.SharedFunctionsFunctions.is_zero.Goals as goal

pub returns : goal.returns
returns c = zero_number c.args.self.now c.args.f.0 c.sound.ensures c.requires
