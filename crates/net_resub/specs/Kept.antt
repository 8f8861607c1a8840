-- What is kept with a network. No public clause needs these definitions. Source: Brayton, Rudell,
-- Sangiovanni-Vincentelli and Wang, "MIS: A Multiple-Level Logic Optimization System" (1987).
use Rattle.std.specs.Prelude.{ℕ, ◌==◌, true, not, Option, List}
use Rattle.circuit_model.specs.declared.circuit.Table.{Table}
use Rattle.net_resub.specs.Candidates.{is_with}
use Rattle.net_resub.specs.Divisions.{HasJust}
use Rattle.net_resub.specs.Listed.{AreListed}
use Rattle.net_resub.specs.Pairs.{saving_at}
use Rattle.net_resub.specs.declared.kept.Kept.{Kept}

-- the queue has exactly the divisions that save, and all tables are listed
pub record IsKept (slots : List (Option Table)) (kept : Kept) : Type 0 where
  pub divisions : HasJust (λ division. true) (saving_at slots) kept.divisions
  pub lists : AreListed (λ at. true) slots kept.lists

-- the same except for the table at an index
pub record IsKeptBeside (place : ℕ) (slots : List (Option Table)) (kept : Kept) : Type 0 where
  pub divisions : HasJust (λ division. not (is_with place division)) (saving_at slots) kept.divisions
  pub lists : AreListed (λ at. not (place == at)) slots kept.lists
