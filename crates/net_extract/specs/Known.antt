-- What is kept with a working network: the gains that its tables give, if they are counted, or what
-- its candidates save. No public clause needs these definitions.
-- Source: the project's own representation.
use Rattle.std.specs.Prelude.{◌≡◌, true, Option, Some, None, List, map}
use Rattle.std.specs.List.{AllByRecursion}
use Rattle.circuit_model.specs.declared.circuit.Table.{Table}
use Rattle.net_candidates.specs.declared.rule.Rule.{Rule}
use Rattle.net_gains.specs.Kept.{Kept}
use Rattle.net_savings.specs.Savings.{AreSavings}
use Rattle.net_savings.specs.Sharing.{cubes_in}
use Rattle.net_savings.specs.declared.kept.CandidateQueue.{CandidateQueue}
use Rattle.net_work.specs.Placed.{Placed, standing}
use Rattle.circuit_tables.specs.Tidy.{rows_differ}

-- the cubes of all tables are kept, by index, and no table has a row twice
pub record IsCounted (slots : List (Option Table)) (kept : Kept) : Type 0 where
  pub tables : kept.tables ≡ map cubes_in slots
  pub differ : AllByRecursion (λ (table : Table). rows_differ table.rows ≡ true) (standing slots)

-- the gains kept, if any are, are those of the tables
abbrev pub AreCounted : List (Option Table) → Option Kept → Type 0
AreCounted slots None = Unit {0}
AreCounted slots (Some kept) = IsCounted slots kept

-- the savings kept, if any are, are those of the tables
abbrev pub AreSaved : Rule → Placed → Option CandidateQueue → Type 0
AreSaved rule placed None = Unit {0}
AreSaved rule placed (Some kept) = AreSavings rule placed kept

-- savings that were kept for some tables can be kept for others
abbrev pub StaySaved : Placed → Option CandidateQueue → Placed → Option CandidateQueue → Type 0
StaySaved placed kept new_placed new_kept = (rule : Rule) → AreSaved rule placed kept → AreSaved rule new_placed new_kept
