use Rattle.std.proofs.Common.{◌+◌, ◌∙◌, arith}
use Rattle.circuit_gen.proofs.Numbers.{all_named}
use Rattle.circuit_gen.proofs.generating.generate.Goals as goal

pub circuit_over-requires-clause-names : goal.circuit_over-requires-clause-names
circuit_over-requires-clause-names c =
    (all_named c.as_slice.result.now (24 + c.from-tables.result) (c.as_slice.ensures.value ∙ c.in_ok-names.ensures)).0

pub circuit_over-requires-clause-room : goal.circuit_over-requires-clause-room
circuit_over-requires-clause-room c =
    let n = (all_named c.as_slice.result.now (24 + c.from-tables.result) (c.as_slice.ensures.value ∙ c.in_ok-names.ensures)).1 in omega arith
