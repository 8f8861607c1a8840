use Rattle.std.proofs.Common.{◌≡◌, ◌<◌, arith}
use Rattle.func_core.specs.Sizes.{size}
use Rattle.func_core.specs.PlainTrees.{shape}
use Rattle.func_core.proofs.Meanings.{constant-size}
use Rattle.func_core.proofs.plain.PlainFunctionsFunctions.constant.Goals as goal

pub returns-clause-fits : goal.returns-clause-fits
returns-clause-fits c h =
    let above : c.args.self.now.limit < size (shape c.leaf.result) = c.keep.ensures.big h in
    let none : size (shape c.leaf.result) ≡ 0 =
    constant-size c.args.value _ (record { reduced = c.leaf.ensures.reduced 0; computes = c.leaf.ensures.computes }) in
    omega arith
