use Rattle.std.proofs.Common.{arith}
use Rattle.std.proofs.lemmas.Result.{IfOk-weaker}
use Rattle.map_net.proofs.Taking.{taken_over}
use Rattle.map_net.proofs.mapping.cover_forest.Goals as goal

pub best-requires-clause-sizes : goal.best-requires-clause-sizes
best-requires-clause-sizes c = λ n below. omega (arith, c.requires.sizes n below)

pub covers_of-requires-clause-below : goal.covers_of-requires-clause-below
covers_of-requires-clause-below c = λ n choice at.
    (c.in_ok-choices.ensures.made n choice at).below

pub returns : goal.returns
returns c =
    IfOk-weaker c.covers_of.result _ _
    (λ covers. taken_over c.args.forest.now c.args.patterns.now c.in_ok-choices.choices
    c.as_slice.result.now covers.items c.in_ok-choices.ensures c.as_slice.ensures.value)
    c.covers_of.ensures
