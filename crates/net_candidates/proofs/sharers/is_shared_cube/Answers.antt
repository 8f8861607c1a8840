use Rattle.std.proofs.Common.{◌↔◌, ◌≤◌, Bor, List, IsTrue, map, length, subst, arith}
use Rattle.cover_names.specs.Literals.{Cube}
use Rattle.net_candidates.specs.Pairs.{IsSharedByTwo}
use Rattle.net_candidates.proofs.ByTwo.{shared_by_holders}
use Rattle.net_candidates.proofs.sharers.is_shared_cube.Goals as goal

pub returns : goal.returns
returns c =
    let two : 2 ≤ length c.args.cube.now = omega arith in
    let is = shared_by_holders c.args.cubes.now (map (λ (one : Bor Cube). one.now) c.in_ok-holders.holders.items) c.args.cube.now two c.in_ok-holders.ensures in
    let told = subst (λ (holders : List (Bor Cube)). IsTrue c.two_share.result ↔ IsSharedByTwo (map (λ (one : Bor Cube). one.now) holders) c.args.cube.now) c.as_slice.ensures.value c.two_share.ensures in
    (λ h. is.0 (told.0 h), λ k. told.1 (is.1 k))
