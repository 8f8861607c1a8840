-- What tables at indices give by themselves, and which table is the first that gives too much to be
-- listed. Source: Brayton and McMullen, "The Decomposition and Factorization of Boolean
-- Expressions" (1982): the kernels of a table. The limit on their number is the project's own.
use Rattle.std.specs.Prelude.{◌≡◌, ◌↔◌, ℕ, ◌≤◌, Option, Some, None, List, [], ◌∷◌, length, slice_get}
use Rattle.circuit_model.specs.declared.circuit.Table.{Table}
use Rattle.circuit_model.specs.declared.circuit.Circuit.{Circuit}
use Rattle.alg_div.specs.Cubes.{Has}
use Rattle.net_candidates.specs.Listed.{IsOwn}
use Rattle.net_candidates.specs.Extracting.{HasManyCandidates, IsListable, IsFirstMany}
use Rattle.net_candidates.specs.declared.rule.Rule.{Rule}
use Rattle.cover_names.specs.Literals.{NamedCover}
use Rattle.net_work.specs.Placed.{table_at}
use Rattle.net_savings.specs.declared.fault.SavingsFault.{SavingsFault}
use Rattle.net_savings.specs.declared.fault.SavingsFault.TheVariants.{ManyKernels, Memory}

-- exactly what a table gives by itself; nothing if there is no table
abbrev pub AreOwn : Rule → Option Table → List NamedCover → Type 0
AreOwn rule None covers = covers ≡ []
AreOwn rule (Some table) covers = IsListable rule table × ((cover : NamedCover) → Has cover covers ↔ IsOwn rule table cover)

-- a table has too many kernels; running out of memory needs no cause
abbrev pub IsMany : Rule → Table → SavingsFault → Type 0
IsMany rule table (ManyKernels name) = HasManyCandidates rule table × (table.output ≡ name)
IsMany rule table Memory = Unit {0}

abbrev pub IsManyIn : Rule → Option Table → SavingsFault → Type 0
IsManyIn rule (Some table) fault = IsMany rule table fault
IsManyIn rule None (ManyKernels name) = ⊥
IsManyIn rule None Memory = Unit {0}

-- the table at an index, if there is one
abbrev pub told : Option Table → List Table
told None = []
told (Some table) = table ∷ []

-- lists of covers that are kept are what the tables at their indices give by themselves
pub record AreKept (rule : Rule) (slots : List (Option Table)) (lists : List (Option (List NamedCover))) : Type 0 where
  pub long : length lists ≤ length slots
  pub each : (place : ℕ) (covers : List NamedCover) → slice_get lists place ≡ Some (Some covers) → AreOwn rule (table_at slots place) covers

-- what the table at an index gives by itself is listed
abbrev pub IsListed : List (Option (List NamedCover)) → ℕ → Type 0
IsListed own place = (covers : List NamedCover) × (slice_get own place ≡ Some (Some covers))

-- why the candidates of a circuit are not listed; running out of memory needs no cause
abbrev pub IsUnlisted : Rule → Circuit → SavingsFault → Type 0
IsUnlisted rule circuit (ManyKernels name) = IsFirstMany rule circuit.tables name
IsUnlisted rule circuit Memory = Unit {0}
