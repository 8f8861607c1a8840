use Rattle.std.proofs.Common.{◌≡◌, ℕ, true, take}
use Rattle.net_readers.specs.Fanouts.{is_in}
use Rattle.net_savings.specs.Savings.{IsIn}
use Rattle.net_savings.proofs.saved.is_held_at.Given as goal

abbrev pub invariant-loop-place : goal.invariant-loop-place
invariant-loop-place l = (at : ℕ) → is_in (take l.place-index l.places) at ≡ true → IsIn l.own.items at l.cover → ⊥
