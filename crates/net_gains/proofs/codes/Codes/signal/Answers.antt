use Rattle.std.proofs.Common.{◌≡◌, ℕ, ◌+◌, ◌*◌, ap₂, arith}
use Rattle.net_gains.specs.Codes.{place_of, code_of}
use Rattle.net_gains.specs.declared.codes.Signal.{Signal}
use Rattle.net_gains.proofs.codes.Codes.signal.Goals as goal

numbers : ℕ → ℕ → Signal
numbers negative positive = record { negative = negative; positive = positive }

pub returns-in-Some : goal.returns-in-Some
unfolding code_of numbers
returns-in-Some c =
    let at : c.in-Some.place ≡ place_of c.args.self.now c.args.name.now = c.in-Some.ensures.1 in
    let negative : 2 * c.in-Some.place ≡ 2 * place_of c.args.self.now c.args.name.now + 0 = omega (arith, at) in
    let positive : 2 * c.in-Some.place + 1 ≡ 2 * place_of c.args.self.now c.args.name.now + 1 = omega (arith, at) in
    (c.in-Some.ensures.0, ap₂ numbers negative positive)
