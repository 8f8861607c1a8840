use Rattle.std.proofs.Common.{◌≡◌, ℕ, ◌+◌, ◌*◌, Bool, true, false, refl, ap₂, ◌∙◌}
use Rattle.std.specs.Int.{from_bool}
use Rattle.net_gains.specs.Codes.{bit_number, code_of}
use Rattle.net_gains.proofs.codes.Codes.code.Goals as goal

bit_is : (bit : Bool) → from_bool bit ≡ bit_number bit
bit_is true = refl
bit_is false = refl

pub returns-in-Some : goal.returns-in-Some
unfolding code_of
returns-in-Some c =
    (c.in-Some.ensures.0, ap₂ (λ (m n : ℕ). 2 * m + n) c.in-Some.ensures.1 (c.from.ensures ∙ bit_is c.args.literal.now.bit))
