use Rattle.std.proofs.Common.{refl, arith}
use Rattle.map_net.proofs.New.{new_one}
use Rattle.map_net.proofs.naming.next_name.Goals as goal

pub returns : goal.returns
returns c = new_one _ _ _ _ _ c.in_ok-number.ensures.from
    (let small = c.in_ok-number.ensures.small in omega (arith, small)) c.in_ok-name.ensures
    c.in_ok-number.ensures.free c.in_ok-number.ensures.taken refl
