use Rattle.std.proofs.Common.{◌≡◌, ◌++◌, map, take}
use Rattle.circuit_model.specs.Runs.{tri_of}
use Rattle.circuit_model.specs.Text.{character}
use Rattle.sis_session.proofs.encoding.put_bits.Given as goal

abbrev pub invariant-loop-bit : goal.invariant-loop-bit
invariant-loop-bit l =
    l.out.items ≡ l.fn.out.items ++ map (λ bit. character (tri_of bit)) (take l.bit-index l.bits)
