-- The patterns of a formula as lists, operand by operand; private functions promise this, and the
-- public ones `Patterns`.
use Rattle.std.specs.Prelude.{ℕ, zero, suc, Bool, true, false, if◌then◌else◌, List, [], ◌∷◌, ◌++◌, map, length, slice_index_or}
use Rattle.std.specs.List.{flat_map, range_with_len}
use Rattle.subject_tree.specs.Trees.{Tree, Leaf, complement_of, product_of, sum_of}
use Rattle.genlib_expr.specs.Formula.{Formula, constant, pin, complement, product, sum}
use Rattle.genlib_expr.specs.declared.node.Node.{Node}
use Rattle.genlib_expr.specs.declared.node.Node.TheVariants as node
use Rattle.pattern_set.specs.declared.kind.Kind.{Kind}
use Rattle.pattern_set.specs.declared.kind.Kind.TheVariants.{Product, Sum}
use Rattle.pattern_set.specs.declared.parting.Parting.{Parting}

-- how operands of a kind are joined
abbrev pub join_by : Kind → Tree ℕ → Tree ℕ → Tree ℕ
join_by Product t u = product_of t u
join_by Sum t u = sum_of t u

-- one more index in the first part, and in the second one
abbrev pub with_first : ℕ → Parting → Parting
with_first place parting = record { first = place ∷ parting.first; second = parting.second }

abbrev pub with_second : ℕ → Parting → Parting
with_second place parting = record { first = parting.first; second = place ∷ parting.second }

-- all ways to split indices in two parts
unfoldable pub partings : List ℕ → List Parting
partings [] = (record { first = []; second = [] }) ∷ []
partings (place ∷ places) = map (with_first place) (partings places) ++ map (with_second place) (partings places)

-- each tree of one list joined to each of another
unfoldable pub crossed : (Tree ℕ → Tree ℕ → Tree ℕ) → List (Tree ℕ) → List (Tree ℕ) → List (Tree ℕ)
crossed join [] us = []
crossed join (t ∷ ts) us = map (join t) us ++ crossed join ts us

-- the trees that join one of each of the sets at some indices, nested at most `depth` deep
unfoldable pub joined : (Tree ℕ → Tree ℕ → Tree ℕ) → List (List (Tree ℕ)) → ℕ → List ℕ → List (Tree ℕ)
joined join sets zero places = []
joined join sets (suc depth) [] = []
joined join sets (suc depth) (place ∷ []) = slice_index_or sets place []
joined join sets (suc depth) (place ∷ next ∷ places) =
    flat_map (λ (parting : Parting). crossed join (joined join sets depth (place ∷ parting.first)) (joined join sets depth parting.second)) (partings (next ∷ places))

-- the operands of a product or of a sum, each by the list of its patterns; one operand is its own
-- product, and its own sum
pub record Gathered : Type 0 where
  pub kind : Kind
  pub sets : List (List (Tree ℕ))

-- one operand
abbrev pub one : List (Tree ℕ) → Gathered
one ts = record { kind = Product; sets = ts ∷ [] }

-- the patterns of gathered operands
unfoldable pub settled : Gathered → List (Tree ℕ)
settled gathered = joined (join_by gathered.kind) gathered.sets (length gathered.sets) (range_with_len 0 (length gathered.sets))

abbrev pub is_same : Kind → Kind → Bool
is_same Product Product = true
is_same Product Sum = false
is_same Sum Product = false
is_same Sum Sum = true

-- gathered operands as operands of a kind
unfoldable pub operands_as : Kind → Gathered → List (List (Tree ℕ))
operands_as kind gathered = if is_same kind gathered.kind then gathered.sets else settled gathered ∷ []

abbrev pub complemented : Gathered → Gathered
complemented gathered = one (map complement_of (settled gathered))

abbrev pub combined : Kind → Gathered → Gathered → Gathered
combined kind left right = record { kind = kind; sets = operands_as kind left ++ operands_as kind right }

-- the operands gathered of a formula
unfoldable pub gathered_of : Formula → Gathered
gathered_of (constant bit) = one []
gathered_of (pin place) = one (Leaf place ∷ [])
gathered_of (complement e) = complemented (gathered_of e)
gathered_of (product d e) = combined Product (gathered_of d) (gathered_of e)
gathered_of (sum d e) = combined Sum (gathered_of d) (gathered_of e)

-- the patterns of a formula
abbrev pub patterns_of : Formula → List (Tree ℕ)
patterns_of e = settled (gathered_of e)

-- the two newest combined, if there are two
abbrev pub combined_newest : Kind → List Gathered → List Gathered
combined_newest kind (g ∷ f ∷ gs) = combined kind f g ∷ gs
combined_newest kind (g ∷ []) = []
combined_newest kind [] = []

-- the complement of the newest, if there is one
abbrev pub complemented_newest : List Gathered → List Gathered
complemented_newest (g ∷ gs) = complemented g ∷ gs
complemented_newest [] = []

-- the stack after one more node, the newest first
unfoldable pub gathered_more : List Gathered → Node → List Gathered
gathered_more gs (node.Constant bit) = one [] ∷ gs
gathered_more gs (node.Pin place) = one (Leaf place ∷ []) ∷ gs
gathered_more gs node.Not = complemented_newest gs
gathered_more gs node.And = combined_newest Product gs
gathered_more gs node.Or = combined_newest Sum gs

-- the newest of the stack
abbrev pub newest : List Gathered → Gathered
newest [] = one []
newest (g ∷ gs) = g
