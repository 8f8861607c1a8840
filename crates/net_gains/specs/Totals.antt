-- Totals of divisors: the total of each cover, how a change alters it, and which divisors save more
-- than they cost. Source: Rajski and Vasudevamurthy, "The testability-preserving concurrent
-- decomposition and factorization of Boolean expressions" (IEEE Transactions on CAD 11, 1992): the
-- weight of a divisor is a sum over pairs of cubes; a divisor itself costs its literals.
use Rattle.std.specs.Prelude.{◌≡◌, ℕ, ◌+◌, ◌-◌, ◌≤◌, Option, Some, None, List, nat_lt, unwrap_or, if◌then◌else◌}
use Rattle.std.specs.List.{AllByRecursion}
use Rattle.std.specs.List.Sorted.{IsStrictlySortedBy}
use Rattle.std.specs.Map.{lookup}
use Rattle.std.specs.Ordering.{nat_cmp}
use Rattle.std.specs.declared.cmp.Reverse.{Reverse}
use Rattle.net_queue.specs.Greatest.{reversed}
use Rattle.net_candidates.specs.Candidates.{literals_in}
use Rattle.net_gains.specs.CodedGains.{same_lists}
use Rattle.net_gains.specs.Divisors.{cover_of}
use Rattle.net_gains.specs.Orders.{divisor_eq}
use Rattle.net_gains.specs.declared.divisor.Divisor.{Divisor}
use Rattle.net_gains.specs.declared.totals.Change.{Change}
use Rattle.net_gains.specs.declared.totals.Change.TheVariants.{Comes, Goes}

-- the total of a cover among entries, and that of a divisor; 0 if there is none
abbrev pub total_of : List (Divisor × ℕ) → List (List ℕ) → ℕ
total_of entries cover = unwrap_or (lookup (λ divisor. same_lists cover (cover_of divisor)) entries) 0

abbrev pub total_at : List (Divisor × ℕ) → Divisor → ℕ
total_at entries divisor = unwrap_or (lookup (divisor_eq divisor) entries) 0

-- cubes are strictly rising lists
abbrev pub AreCubes : List (List ℕ) → Type 0
AreCubes cubes = AllByRecursion (IsStrictlySortedBy nat_cmp) cubes

-- a gain is added to a total, or one that was part of it is subtracted
abbrev pub Changes : Change → ℕ → ℕ → ℕ → Type 0
Changes Comes before gain after = after ≡ before + gain
Changes Goes before gain after = after + gain ≡ before

-- what may be added or subtracted: anything is added, and only a part of the total is subtracted
abbrev pub Allows : Change → ℕ → ℕ → Type 0
Allows Comes before gain = gain ≤ gain
Allows Goes before gain = gain ≤ before

-- by how much a divisor's total exceeds its literals; none if it does not
abbrev pub rank_of : Divisor → ℕ → Option (Reverse ℕ)
rank_of divisor total =
    if nat_lt (literals_in (cover_of divisor)) total
    then Some (reversed (total - literals_in (cover_of divisor))) else None
