-- The tables that the code makes are those of the functions that formulas say, and their rows are
-- Shannon's.
use Rattle.std.proofs.Common.{◌≡◌, ℕ, zero, suc, ◌+◌, ◌/◌, Bool, true, false, not, ◌&&◌, ◌||◌, if◌then◌else◌, Option, Some, None, List, [], ◌∷◌, ◌++◌, length, take, drop, map, fold, slice_index_or, refl, sym, ◌∙◌, ap, arith}
use Rattle.std.proofs.Math.Bool.{and-true}
use Rattle.std.proofs.Math.Seq.{take-append_seam, drop-append_seam}
use Rattle.std.proofs.lemmas.List.{map-append, map-id, append_assoc, append-nil, length-append}
use Rattle.circuit_model.specs.Values.{literal_of}
use Rattle.circuit_model.specs.declared.circuit.Tri.{Tri}
use Rattle.circuit_model.specs.declared.circuit.Tri.TheVariants.{Zero, One, Free}
use Rattle.cover_ops.specs.Shannon.{bits_equal, same, shannon}
use Rattle.genlib_expr.specs.declared.node.Node.{Node}
use Rattle.genlib_expr.specs.declared.node.Node.TheVariants.{Constant, Pin, Not, And, Or}
use Rattle.genlib_expr.specs.Formula.{Formula, constant, pin, complement, product, sum, built, newest, formula_of}
use Rattle.genlib_expr.specs.Values.{formula_value}
use Rattle.genlib_expr.specs.Functions.{function_of}
use Rattle.genlib_expr.specs.Tables.{values, twice, constant_values, pin_values, products, sums, complements, complemented, multiplied, added, tables_with, newest_table, are_same, low_half, high_half, rows_behind}

-- tables of one width are ls long
same_length : (width : ℕ) (f g : List Bool → Bool) → length (values width f) ≡ length (values width g)
unfolding values
same_length zero f g = refl
same_length (suc width) f g =
    length-append (values width (λ point. f (false ∷ point))) (values width (λ point. f (true ∷ point)))
    ∙ ap (λ (n : ℕ). n + length (values width (λ point. f (true ∷ point)))) (same_length width (λ point. f (false ∷ point)) (λ point. g (false ∷ point)))
    ∙ ap (λ (n : ℕ). length (values width (λ point. g (false ∷ point))) + n) (same_length width (λ point. f (true ∷ point)) (λ point. g (true ∷ point)))
    ∙ sym (length-append (values width (λ point. g (false ∷ point))) (values width (λ point. g (true ∷ point))))

constant_table : (width : ℕ) (bit : Bool) → values width (λ point. bit) ≡ constant_values width bit
unfolding values constant_values
constant_table zero bit = refl
constant_table (suc width) bit = ap twice (constant_table width bit)

pin_table : (width place : ℕ) → values width (λ point. slice_index_or point place false) ≡ pin_values width place
unfolding values pin_values
pin_table zero place = refl
pin_table (suc width) zero = rw (constant_table width false, constant_table width true) refl
pin_table (suc width) (suc place) = ap twice (pin_table width place)

complement_table : (width : ℕ) (f : List Bool → Bool) → values width (λ point. not (f point)) ≡ complements (values width f)
unfolding values
complement_table zero f = refl
complement_table (suc width) f =
    rw (complement_table width (λ point. f (false ∷ point)), complement_table width (λ point. f (true ∷ point)))
    (sym (map-append not (values width (λ point. f (false ∷ point))) (values width (λ point. f (true ∷ point)))))

products_behind : (ls rs cs ds : List Bool) → length ls ≡ length rs → products (ls ++ cs) (rs ++ ds) ≡ products ls rs ++ products cs ds
unfolding products
products_behind [] [] cs ds e = refl
products_behind [] (b ∷ rs) cs ds e = absurd (omega (arith, e))
products_behind (a ∷ ls) [] cs ds e = absurd (omega (arith, e))
products_behind (a ∷ ls) (b ∷ rs) cs ds e = ap (λ (rest : List Bool). (a && b) ∷ rest) (products_behind ls rs cs ds (omega (arith, e)))

sums_behind : (ls rs cs ds : List Bool) → length ls ≡ length rs → sums (ls ++ cs) (rs ++ ds) ≡ sums ls rs ++ sums cs ds
unfolding sums
sums_behind [] [] cs ds e = refl
sums_behind [] (b ∷ rs) cs ds e = absurd (omega (arith, e))
sums_behind (a ∷ ls) [] cs ds e = absurd (omega (arith, e))
sums_behind (a ∷ ls) (b ∷ rs) cs ds e = ap (λ (rest : List Bool). (a || b) ∷ rest) (sums_behind ls rs cs ds (omega (arith, e)))

product_table : (width : ℕ) (f g : List Bool → Bool) → values width (λ point. f point && g point) ≡ products (values width f) (values width g)
unfolding values products
product_table zero f g = refl
product_table (suc width) f g =
    rw (product_table width (λ point. f (false ∷ point)) (λ point. g (false ∷ point)), product_table width (λ point. f (true ∷ point)) (λ point. g (true ∷ point)))
    (sym (products_behind (values width (λ point. f (false ∷ point))) (values width (λ point. g (false ∷ point))) (values width (λ point. f (true ∷ point))) (values width (λ point. g (true ∷ point)))
    (same_length width (λ point. f (false ∷ point)) (λ point. g (false ∷ point)))))

sum_table : (width : ℕ) (f g : List Bool → Bool) → values width (λ point. f point || g point) ≡ sums (values width f) (values width g)
unfolding values sums
sum_table zero f g = refl
sum_table (suc width) f g =
    rw (sum_table width (λ point. f (false ∷ point)) (λ point. g (false ∷ point)), sum_table width (λ point. f (true ∷ point)) (λ point. g (true ∷ point)))
    (sym (sums_behind (values width (λ point. f (false ∷ point))) (values width (λ point. g (false ∷ point))) (values width (λ point. f (true ∷ point))) (values width (λ point. g (true ∷ point)))
    (same_length width (λ point. f (false ∷ point)) (λ point. g (false ∷ point)))))

-- the table of a formula
table_of : ℕ → Formula → List Bool
table_of width e = values width (function_of e)

of_constant : (width : ℕ) (bit : Bool) → constant_values width bit ≡ table_of width (constant bit)
unfolding table_of function_of formula_value
of_constant width bit = sym (constant_table width bit)

of_pin : (width place : ℕ) → pin_values width place ≡ table_of width (pin place)
unfolding table_of function_of formula_value
of_pin width place = sym (pin_table width place)

of_complement : (width : ℕ) (e : Formula) → complements (table_of width e) ≡ table_of width (complement e)
unfolding table_of function_of formula_value
of_complement width e = sym (complement_table width (λ point. function_of e point))

of_product : (width : ℕ) (d e : Formula) → products (table_of width d) (table_of width e) ≡ table_of width (product d e)
unfolding table_of function_of formula_value
of_product width d e = sym (product_table width (λ point. function_of d point) (λ point. function_of e point))

of_sum : (width : ℕ) (d e : Formula) → sums (table_of width d) (table_of width e) ≡ table_of width (sum d e)
unfolding table_of function_of formula_value
of_sum width d e = sym (sum_table width (λ point. function_of d point) (λ point. function_of e point))

-- one node more
built_tables : (width : ℕ) (fs : List Formula) (node : Node) → tables_with width (map (table_of width) fs) node ≡ map (table_of width) (built fs node)
unfolding tables_with complemented multiplied added built
built_tables width fs (Constant bit) = ap (λ (table : List Bool). table ∷ map (table_of width) fs) (of_constant width bit)
built_tables width fs (Pin place) = ap (λ (table : List Bool). table ∷ map (table_of width) fs) (of_pin width place)
built_tables width [] Not = refl
built_tables width (e ∷ fs) Not = ap (λ (table : List Bool). table ∷ map (table_of width) fs) (of_complement width e)
built_tables width [] And = refl
built_tables width (e ∷ []) And = refl
built_tables width (e ∷ d ∷ fs) And = ap (λ (table : List Bool). table ∷ map (table_of width) fs) (of_product width d e)
built_tables width [] Or = refl
built_tables width (e ∷ []) Or = refl
built_tables width (e ∷ d ∷ fs) Or = ap (λ (table : List Bool). table ∷ map (table_of width) fs) (of_sum width d e)

nodes_tables : (width : ℕ) (nodes : List Node) (fs : List Formula) → fold (tables_with width) (map (table_of width) fs) nodes ≡ map (table_of width) (fold built fs nodes)
nodes_tables width [] fs = refl
nodes_tables width (node ∷ nodes) fs = ap (λ (tables : List (List Bool)). fold (tables_with width) tables nodes) (built_tables width fs node) ∙ nodes_tables width nodes (built fs node)

newest_of : (width : ℕ) (fs : List Formula) → newest_table width (map (table_of width) fs) ≡ table_of width (newest fs)
unfolding newest_table
newest_of width [] = of_constant width false
newest_of width (e ∷ fs) = refl

-- the newest table after all nodes is that of their formula
pub newest_values : (width : ℕ) (nodes : List Node) → newest_table width (fold (tables_with width) [] nodes) ≡ values width (function_of (formula_of nodes))
unfolding table_of formula_of
newest_values width nodes = ap (newest_table width) (nodes_tables width nodes []) ∙ newest_of width (fold built [] nodes)

grouped : (x y z : Bool) → (x && (y && z)) ≡ ((x && y) && z)
grouped true y z = refl
grouped false y z = refl

same_behind : (ls rs cs ds : List Bool) → length ls ≡ length rs → are_same (ls ++ cs) (rs ++ ds) ≡ (are_same ls rs && are_same cs ds)
same_behind [] [] cs ds e = refl
same_behind [] (b ∷ rs) cs ds e = absurd (omega (arith, e))
same_behind (a ∷ ls) [] cs ds e = absurd (omega (arith, e))
same_behind (a ∷ ls) (b ∷ rs) cs ds e = ap (λ (rest : Bool). bits_equal a b && rest) (same_behind ls rs cs ds (omega (arith, e))) ∙ grouped (bits_equal a b) (are_same ls rs) (are_same cs ds)

-- tables are the same just where the functions agree at all points
pub same_values : (width : ℕ) (f g : List Bool → Bool) → are_same (values width f) (values width g) ≡ same width f g
unfolding values same
same_values zero f g = and-true (bits_equal (f []) (g []))
same_values (suc width) f g =
    same_behind (values width (λ point. f (false ∷ point))) (values width (λ point. g (false ∷ point))) (values width (λ point. f (true ∷ point))) (values width (λ point. g (true ∷ point)))
    (same_length width (λ point. f (false ∷ point)) (λ point. g (false ∷ point)))
    ∙ ap (λ (b : Bool). b && are_same (values width (λ point. f (true ∷ point))) (values width (λ point. g (true ∷ point)))) (same_values width (λ point. f (false ∷ point)) (λ point. g (false ∷ point)))
    ∙ ap (λ (b : Bool). same width (λ point. f (false ∷ point)) (λ point. g (false ∷ point)) && b) (same_values width (λ point. f (true ∷ point)) (λ point. g (true ∷ point)))

-- the halves of two tables that are ls long
half_length : (ls rs : List Bool) → length ls ≡ length rs → length (ls ++ rs) / 2 ≡ length ls
half_length ls rs e =
    let l : length (ls ++ rs) ≡ length ls + length rs = length-append ls rs in
    omega (arith, e, l)

low_of : (ls rs : List Bool) → length ls ≡ length rs → low_half (ls ++ rs) ≡ ls
low_of ls rs e = ap (λ (n : ℕ). take n (ls ++ rs)) (half_length ls rs e) ∙ take-append_seam ls rs

high_of : (ls rs : List Bool) → length ls ≡ length rs → high_half (ls ++ rs) ≡ rs
high_of ls rs e = ap (λ (n : ℕ). drop n (ls ++ rs)) (half_length ls rs e) ∙ drop-append_seam ls rs

-- the characters of rows as literals
literals : List (List Tri) → List (List (Option Bool))
literals rows = map (map literal_of) rows

-- literals of rows after those of a front
behind : List Tri → List (List (Option Bool)) → List (List (Option Bool))
behind front rows = map (λ row. map literal_of front ++ row) rows

behind_more : (front : List Tri) (character : Tri) (rows : List (List (Option Bool))) → behind (front ++ character ∷ []) rows ≡ behind front (map (λ row. literal_of character ∷ row) rows)
unfolding behind
behind_more front character [] = refl
behind_more front character (row ∷ rows) =
    let first : map literal_of (front ++ character ∷ []) ++ row ≡ map literal_of front ++ literal_of character ∷ row =
    ap (λ (f : List (Option Bool)). f ++ row) (map-append literal_of front (character ∷ [])) ∙ append_assoc (map literal_of front) (literal_of character ∷ []) row in
    ap (λ (r : List (Option Bool)). r ∷ behind (front ++ character ∷ []) rows) first ∙ ap (λ (rs : List (List (Option Bool))). (map literal_of front ++ literal_of character ∷ row) ∷ rs) (behind_more front character rows)

one_row : (front : List Tri) (bit : Bool) → literals (if bit then front ∷ [] else []) ≡ behind front (if bit then [] ∷ [] else [])
unfolding literals behind
one_row front true = ap (λ (row : List (Option Bool)). row ∷ []) (sym (append-nil (map literal_of front)))
one_row front false = refl

-- the rows of a table by its halves
of_halves : (front : List Tri) (width : ℕ) (ls rs : List Bool) → length ls ≡ length rs
    → (if are_same (low_half (ls ++ rs)) (high_half (ls ++ rs))
    then rows_behind (front ++ Free ∷ []) width (low_half (ls ++ rs))
    else rows_behind (front ++ Zero ∷ []) width (low_half (ls ++ rs)) ++ rows_behind (front ++ One ∷ []) width (high_half (ls ++ rs)))
    ≡ (if are_same ls rs then rows_behind (front ++ Free ∷ []) width ls else rows_behind (front ++ Zero ∷ []) width ls ++ rows_behind (front ++ One ∷ []) width rs)
of_halves front width ls rs e = rw (low_of ls rs e, high_of ls rs e) refl

behind_both : (front : List Tri) (low high : List (List (Option Bool))) → behind front low ++ behind front high ≡ behind front (low ++ high)
unfolding behind
behind_both front low high = sym (map-append (λ (row : List (Option Bool)). map literal_of front ++ row) low high)

literals_both : (low high : List (List Tri)) → literals (low ++ high) ≡ literals low ++ literals high
unfolding literals
literals_both low high = map-append (map literal_of) low high

-- the halves' rows are the whole's
joined : (front : List Tri) (alike test : Bool) → test ≡ alike → (free zeros ones : List (List Tri)) (low high : List (List (Option Bool)))
    → literals free ≡ behind (front ++ Free ∷ []) low → literals zeros ≡ behind (front ++ Zero ∷ []) low → literals ones ≡ behind (front ++ One ∷ []) high
    → literals (if test then free else zeros ++ ones)
    ≡ behind front (if alike then map (λ row. None ∷ row) low else map (λ row. Some false ∷ row) low ++ map (λ row. Some true ∷ row) high)
joined front true test e free zeros ones low high h k l = rw e (h ∙ behind_more front Free low)
joined front false test e free zeros ones low high h k l =
    rw e (literals_both zeros ones
    ∙ ap (λ (rows : List (List (Option Bool))). rows ++ literals ones) (k ∙ behind_more front Zero low)
    ∙ ap (λ (rows : List (List (Option Bool))). behind front (map (λ row. Some false ∷ row) low) ++ rows) (l ∙ behind_more front One high)
    ∙ behind_both front (map (λ row. Some false ∷ row) low) (map (λ row. Some true ∷ row) high))

-- the rows of a table are those of Shannon's expansion of its function
listed : (front : List Tri) (width : ℕ) (f : List Bool → Bool) → literals (rows_behind front width (values width f)) ≡ behind front (shannon width f)
unfolding rows_behind values shannon
listed front zero f = one_row front (f [])
listed front (suc width) f =
    ap literals (of_halves front width (values width (λ point. f (false ∷ point))) (values width (λ point. f (true ∷ point)))
    (same_length width (λ point. f (false ∷ point)) (λ point. f (true ∷ point))))
    ∙ joined front (same width (λ point. f (false ∷ point)) (λ point. f (true ∷ point))) (are_same (values width (λ point. f (false ∷ point))) (values width (λ point. f (true ∷ point))))
    (same_values width (λ point. f (false ∷ point)) (λ point. f (true ∷ point)))
    (rows_behind (front ++ Free ∷ []) width (values width (λ point. f (false ∷ point)))) (rows_behind (front ++ Zero ∷ []) width (values width (λ point. f (false ∷ point))))
    (rows_behind (front ++ One ∷ []) width (values width (λ point. f (true ∷ point))))
    (shannon width (λ point. f (false ∷ point))) (shannon width (λ point. f (true ∷ point)))
    (listed (front ++ Free ∷ []) width (λ point. f (false ∷ point))) (listed (front ++ Zero ∷ []) width (λ point. f (false ∷ point))) (listed (front ++ One ∷ []) width (λ point. f (true ∷ point)))

-- all rows, after an empty front
pub rows_listed : (width : ℕ) (f : List Bool → Bool) → map (map literal_of) (rows_behind [] width (values width f)) ≡ shannon width f
unfolding literals behind
rows_listed width f = listed [] width f ∙ map-id (shannon width f)
