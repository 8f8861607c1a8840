-- Extraction: the candidate that saves most literals becomes a table, by which all earlier tables
-- are divided; step by step, until none saves any. Source: Brayton, Rudell, Sangiovanni-Vincentelli
-- and Wang, "MIS: A Multiple-Level Logic Optimization System" (1987); the SIS report (UCB/ERL
-- M92/41), `fx`, `gkx` and `gcx`. The order among candidates that save as much, and the limits, are
-- the project's own.
use Rattle.std.specs.Prelude.{◌≡◌, ◌⊎◌, ℕ, ◌<◌, ◌≤◌, true, List, map, length}
use Rattle.std.specs.List.{AllByRecursion}
use Rattle.std.specs.declared.cmp.Ordering.TheVariants.{Less}
use Rattle.circuit_model.specs.Counts.{literals_of}
use Rattle.circuit_model.specs.declared.circuit.Table.{Table}
use Rattle.circuit_model.specs.declared.circuit.Circuit.{Circuit}
use Rattle.alg_kernel.specs.Kernels.{MoreKernels}
use Rattle.circuit_laws.specs.Greedy.{Reaches, HasEnd, HasStop, IsBestChoice, NoneSaves, IsFirstFailing}
use Rattle.net_candidates.specs.Candidates.{IsCandidate}
use Rattle.net_candidates.specs.declared.rule.Rule.{Rule}
use Rattle.net_candidates.specs.declared.rule.Rule.TheVariants.{Gkx}
use Rattle.cover_names.specs.Literals.{NamedCover, cover_cmp}
use Rattle.net_core.specs.Fresh.{IsNewName, node_count}
use Rattle.net_core.specs.Tables.{places_of}
use Rattle.circuit_laws.specs.Splits.{with_split}
use Rattle.alg_tables.specs.Dividing.{cover_table, divided}
use Rattle.sis_base.specs.declared.limits.TheConstants.{MAX_INPUTS, MAX_KERNELS, MAX_NODES}

-- the circuit with the table of a cover as its last, under a name, and all earlier tables divided
-- by it
abbrev pub extracted : Circuit → List ℕ → NamedCover → Circuit
extracted circuit name cover = with_split circuit (divided name true cover) (cover_table name cover)

-- a table stays as it is, or has at most `MAX_INPUTS` inputs after it is divided
abbrev pub IsNarrow : List ℕ → NamedCover → Table → Type 0
IsNarrow name cover table = (divided name true cover table ≡ table) ⊎ (length (divided name true cover table).inputs ≤ MAX_INPUTS)

-- a candidate that may be extracted: no table that it adds or changes then has more than
-- `MAX_INPUTS` inputs
pub record IsOpen (rule : Rule) (circuit : Circuit) (name : List ℕ) (cover : NamedCover) : Type 0 where
  pub candidate : IsCandidate rule circuit.tables cover
  pub added : length (cover_table name cover).inputs ≤ MAX_INPUTS
  pub changed : AllByRecursion (IsNarrow name cover) circuit.tables

-- the number of literals after a cover is extracted
abbrev pub literals_after : Circuit → List ℕ → NamedCover → ℕ
literals_after circuit name cover = literals_of (extracted circuit name cover)

-- the candidate that leaves fewest literals, and fewer than before; the first of several
abbrev pub IsBest : Rule → Circuit → List ℕ → NamedCover → Type 0
IsBest rule circuit name cover =
    IsBestChoice (IsOpen rule circuit name) (λ other one. cover_cmp other one ≡ Less) (literals_after circuit name) (literals_of circuit) cover

-- a table has more than `MAX_KERNELS` kernels, which are too many to be listed
abbrev pub HasManyKernels : Table → Type 0
HasManyKernels table = MoreKernels MAX_KERNELS (length table.inputs) (map places_of table.rows)

-- kernels are the candidates, and a table has too many of them
abbrev pub HasManyCandidates : Rule → Table → Type 0
HasManyCandidates Gkx table = HasManyKernels table
HasManyCandidates rule table = ⊥

-- the candidates of a table can be listed
abbrev pub IsListable : Rule → Table → Type 0
IsListable rule table = HasManyCandidates rule table → ⊥

-- the best candidate of a circuit, under the least free name
pub record IsNext (rule : Rule) (circuit : Circuit) (name : List ℕ) (cover : NamedCover) : Type 0 where
  pub listable : AllByRecursion (IsListable rule) circuit.tables
  pub free : IsNewName circuit name
  pub best : IsBest rule circuit name cover

-- a step: there is room, and the best candidate is extracted
pub record IsStep (rule : Rule) (circuit new : Circuit) : Type 0 where
  pub name : List ℕ
  pub cover : NamedCover
  pub next : IsNext rule circuit name cover
  pub room : node_count circuit < MAX_NODES
  pub made : new ≡ extracted circuit name cover

-- steps lead from one circuit to another one
abbrev pub IsReached : Rule → Circuit → Circuit → Type 0
IsReached rule circuit new = Reaches (IsStep rule) circuit new

-- the finished form: all candidates can be listed, and none saves a literal under the least free
-- name
pub record IsDone (rule : Rule) (circuit : Circuit) : Type 0 where
  pub listable : AllByRecursion (IsListable rule) circuit.tables
  pub none : (name : List ℕ) → IsNewName circuit name → NoneSaves (IsOpen rule circuit name) (literals_after circuit name) (literals_of circuit)

-- steps lead to a circuit that is done
abbrev pub IsExtracted : Rule → Circuit → Circuit → Type 0
IsExtracted rule circuit new = HasEnd (IsStep rule) (IsDone rule) circuit new

-- there is no room for the next table
pub record IsOver (rule : Rule) (circuit : Circuit) : Type 0 where
  pub name : List ℕ
  pub cover : NamedCover
  pub next : IsNext rule circuit name cover
  pub over : MAX_NODES ≤ node_count circuit

-- steps lead to a circuit that has no room for the next table
abbrev pub IsFull : Rule → Circuit → Type 0
IsFull rule circuit = HasStop (IsStep rule) (IsOver rule) circuit

-- the first of some tables with too many kernels drives a name
pub record IsFirstMany (rule : Rule) (tables : List Table) (name : List ℕ) : Type 0 where
  pub table : Table
  pub first : IsFirstFailing (IsListable rule) (HasManyCandidates rule) tables table
  pub named : table.output ≡ name

-- steps lead to a circuit whose first table with too many kernels drives a name
abbrev pub IsUnlistable : Rule → Circuit → List ℕ → Type 0
IsUnlistable rule circuit name = HasStop (IsStep rule) (λ last. IsFirstMany rule last.tables name) circuit
