-- The forms that the trees of the code represent. Source: the project's own representation.
use Rattle.std.specs.Prelude.{Bool, Option, List, map}
use Rattle.alg_factor.specs.Forms.{Form, Sum, Split}
use Rattle.alg_factor.specs.declared.form.Tree.{Tree, Rows, Term'}

-- the form of a tree, by the literals of its rows
abbrev pub shape : {X : Type 0} → (X → List (Option Bool)) → Tree X → Form
shape f (Rows rows) = Sum (map f rows.items)
shape f (Term' place bit p quotient s rest) = Split place bit (shape f quotient) (shape f rest)
