-- Divisions in the order of what they save, and queues that have exactly some of them. No public
-- clause needs these definitions. Source: Brayton, Rudell, Sangiovanni-Vincentelli and Wang, "MIS:
-- A Multiple-Level Logic Optimization System" (1987). The order among divisions that save as much
-- is the project's own.
use Rattle.std.specs.Prelude.{◌≡◌, ℕ, ◌<◌, ◌==◌, ltb, Bool, ◌&&◌, if◌then◌else◌, Option, Some, None, List}
use Rattle.std.specs.List.{list_any}
use Rattle.std.specs.Ordering.{nat_cmp, ordering_then}
use Rattle.std.specs.declared.cmp.Ordering.{Ordering}
use Rattle.std.specs.declared.cmp.Reverse.{Reverse}
use Rattle.std.proofs.Common.{ap}
use Rattle.std.proofs.lemmas.Map.Lookups.{CmpEqualImpliesEq, exact_unsigned, exact_pairs}
use Rattle.net_queue.specs.Greatest.{reversed}
use Rattle.net_queue.specs.Queue.{value_in}
use Rattle.net_resub.specs.declared.divisions.Division.{Division}

-- by the index of the dividend, and then by that of the divisor
abbrev pub division_cmp : Division → Division → Ordering
division_cmp one other = ordering_then (nat_cmp one.place other.place) (nat_cmp one.by other.by)

-- divisions that compare equal are the same
pub divisions_exact : CmpEqualImpliesEq division_cmp
divisions_exact one other h =
    ap (λ (places : ℕ × ℕ). let division : Division = record { place = places.0; by = places.1 } in division)
    (exact_pairs nat_cmp nat_cmp exact_unsigned exact_unsigned (one.place, one.by) (other.place, other.by) h)

-- the greatest saving first
abbrev pub rank_of : Division → ℕ → Option (Reverse ℕ)
rank_of division saving = Some (reversed saving)

-- whether two divisions are the same, and whether one is among some
abbrev pub is_of : Division → Division → Bool
is_of one other = (one.place == other.place) && (one.by == other.by)

abbrev pub is_among : List Division → Division → Bool
is_among divisions division = list_any (λ one. is_of one division) divisions

-- what the division of the table at an index by that at another one saves
abbrev pub Savings : Type 0
Savings = ℕ → ℕ → ℕ

abbrev pub saving_in : Savings → Division → ℕ
saving_in savings division = savings division.place division.by

-- a saving, if a literal is saved
abbrev pub saved : ℕ → Option ℕ
saved saving = if ltb 0 saving then Some saving else None

-- a queue has exactly those divisions that save and pass a test, with what they save
abbrev pub HasJust : (Division → Bool) → Savings → List (Division × ℕ) → Type 0
HasJust test savings entries = (division : Division) → value_in is_of entries division ≡ (if test division then saved (saving_in savings division) else None)

-- of the divisions that save, a list has exactly those that pass a test
abbrev pub AreJust : (Division → Bool) → Savings → List Division → Type 0
AreJust test savings divisions = (division : Division) → 0 < saving_in savings division → is_among divisions division ≡ test division
