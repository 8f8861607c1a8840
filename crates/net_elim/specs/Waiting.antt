-- The values of tables that may be eliminated, and which table is next: that of least value, the
-- first of several. No public clause needs these definitions. Source: Brayton, Rudell,
-- Sangiovanni-Vincentelli and Wang, "MIS: A Multiple-Level Logic Optimization System" (1987), and
-- the SIS report (UCB/ERL M92/41), `eliminate`; De Micheli, "Synthesis and Optimization of Digital
-- Circuits", chapter 8 (elimination).
use Rattle.std.specs.Prelude.{◌≡◌, ℕ, ℤ, Bool, true, not, ◌&&◌, if◌then◌else◌, Option, Some, None, List, int_lt, nat_eq}
use Rattle.std.specs.Option.{option_map_or}
use Rattle.std.specs.Ordering.{int_cmp, nat_cmp}
use Rattle.circuit_model.specs.declared.circuit.Table.{Table}
use Rattle.circuit_laws.specs.Edits.{is_root}
use Rattle.net_elim.specs.Eliminating.{is_candidate}
use Rattle.net_core.specs.Reads.{value_of}
use Rattle.net_queue.specs.Queue.{value_in, rank_in, IsFirst}
use Rattle.net_work.specs.Placed.{Placed, standing, circuit_of, table_at}

-- a value, if a condition holds
abbrev pub when : Bool → ℤ → Option ℤ
when counts value = if counts then Some value else None

-- the elimination value of a table that drives no output and no latch input, if it is not above a
-- threshold
abbrev pub worth_within : ℤ → Placed → Table → Option ℤ
worth_within threshold placed table =
    when (not (is_root placed.frame table.output) && not (int_lt threshold (value_of (standing placed.slots) table.output))) (value_of (standing placed.slots) table.output)

-- the same for the table at an index
abbrev pub worth_at : ℤ → Placed → ℕ → Option ℤ
worth_at threshold placed place = option_map_or (worth_within threshold placed) (table_at placed.slots place) None

-- the value in the queue for an index, if there is one
abbrev pub waits_at : List (ℕ × ℤ) → ℕ → Option ℤ
waits_at values place = value_in nat_eq values place

-- the value for an index is set, or removed, and all others stay
abbrev pub IsPutAt : ℕ → Option ℤ → List (ℕ × ℤ) → List (ℕ × ℤ) → Type 0
IsPutAt place value before after = (other : ℕ) → waits_at after other ≡ (if nat_eq place other then value else waits_at before other)

-- the values in the queue are those of the tables, and those of all tables that may be eliminated
-- are among them
pub record AreWaiting (threshold : ℤ) (rows : ℕ) (placed : Placed) (values : List (ℕ × ℤ)) : Type 0 where
  pub worth : (place : ℕ) (value : ℤ) → waits_at values place ≡ Some value → worth_at threshold placed place ≡ Some value
  pub all : (place : ℕ) (table : Table) → table_at placed.slots place ≡ Some table → is_candidate threshold rows (circuit_of placed) table ≡ true → waits_at values place ≡ worth_at threshold placed place

-- the index of least value, the first of several; none if there is no value
abbrev pub IsNext : List (ℕ × ℤ) → Option ℕ → Type 0
IsNext values place = IsFirst int_cmp nat_cmp (rank_in nat_eq (λ (place : ℕ) (value : ℤ). Some value) values) place
