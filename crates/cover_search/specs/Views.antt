-- The view that contracts have of a program's ties. Source: De Micheli, "Synthesis and Optimization
-- of Digital Circuits", chapter 8 (satisfiability don't-care conditions).
use Rattle.cover_search.specs.declared.tied.NodeConstraint.{NodeConstraint as OwnedTie}
use Rattle.cover_search.specs.Ties.{NodeConstraint}

-- a tie by the rows of its cover
abbrev pub tie_of : {R : Type 0} → OwnedTie R → NodeConstraint
tie_of tie = record { place = tie.place; rows = tie.cover.rows; phase = tie.phase }
