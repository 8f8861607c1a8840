use Rattle.std.proofs.Common.{◌≡◌, ◌<◌, ◌≤◌, arith}
use Rattle.func_core.specs.Sizes.{size}
use Rattle.func_core.specs.PlainTrees.{shape, plain_tree}
use Rattle.func_core.proofs.Meanings.{complement-size, own-tree}
use Rattle.func_core.proofs.PlainNumbers.{complement-made}
use Rattle.func_core.proofs.plain.PlainFunctionsFunctions.not.Goals as goal

pub returns-clause-fits : goal.returns-clause-fits
returns-clause-fits c h =
    let above : c.args.self.now.limit < size (shape c.in_ok-made.made) = c.keep.ensures.big h in
    let same : size (shape c.in_ok-made.made) ≡ size (plain_tree c.args.self.now c.args.f.0) =
    complement-size _ _ (shape c.in_ok-made.made) (own-tree (plain_tree c.args.self.now c.args.f.0) c.requires.1)
    (complement-made c.args.self.now c.args.f.0 _ _ c.requires c.index.ensures c.in_ok-made.ensures.computes c.in_ok-made.ensures.reduced) in
    let within : size (plain_tree c.args.self.now c.args.f.0) ≤ c.args.self.now.limit = c.requires.2 in
    omega arith
