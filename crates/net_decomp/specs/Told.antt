-- The rows of the program as contracts see them. No public clause needs these definitions.
-- Source: the project's own representation.
use Rattle.std.specs.Prelude.{Bool, Option, List, map}
use Rattle.net_decomp.specs.Partings.{Parting}
use Rattle.net_decomp.specs.declared.parting.Parting.{Parting as Parted}

-- the decomposition given by lists of rows
abbrev pub told : {R : Type 0} → (R → List (Option Bool)) → Parted R → Parting
told f parted = record { parts = map (λ part. map f part.items) parted.parts.items; rows = map f parted.rows.items }
