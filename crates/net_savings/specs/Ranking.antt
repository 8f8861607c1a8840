-- What is known of covers: what each saves, which are listed under a name, and the order of those
-- that save. Source: Brayton, Rudell, Sangiovanni-Vincentelli and Wang, "MIS: A Multiple-Level
-- Logic Optimization System" (1987): the divisor that saves most is extracted. The order among
-- equal ones is the project's own.
use Rattle.std.specs.Prelude.{ℕ, ◌==◌, Option, Some, None, List, [], bytes_eq, unwrap_or, if◌then◌else◌}
use Rattle.std.specs.Map.{lookup}
use Rattle.std.specs.declared.cmp.Reverse.{Reverse}
use Rattle.cover_names.specs.Literals.{NamedCover}
use Rattle.net_queue.specs.Greatest.{reversed}
use Rattle.net_queue.specs.Queue as queue
use Rattle.net_savings.specs.Orders.{cover_eq}

-- what covers save, and the covers that are listed under names
pub record KnownCovers : Type 0 where
  pub savings : List (NamedCover × ℕ)
  pub lists : List (List ℕ × List NamedCover)

-- what a cover saves, if it is known
abbrev pub saving_in : KnownCovers → NamedCover → Option ℕ
saving_in known cover = queue.value_in cover_eq known.savings cover

-- what a cover saves; 0 if that is not known
abbrev pub saved_by : KnownCovers → NamedCover → ℕ
saved_by known cover = unwrap_or (saving_in known cover) 0

-- a list of covers; empty if there is no list
abbrev pub listed : Option (List NamedCover) → List NamedCover
listed None = []
listed (Some covers) = covers

-- the covers that are listed under a name
abbrev pub covers_under : KnownCovers → List ℕ → List NamedCover
covers_under known name = listed (lookup (bytes_eq name) known.lists)

-- covers that save a literal or more have a rank
abbrev pub rank_of : NamedCover → ℕ → Option (Reverse ℕ)
rank_of cover saving = if saving == 0 then None else Some (reversed saving)

abbrev pub rank_in : KnownCovers → NamedCover → Option (Reverse ℕ)
rank_in known cover = queue.rank_in cover_eq rank_of known.savings cover
