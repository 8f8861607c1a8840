-- The table of single literals over the columns that hold them: it has the normal form of their
-- table over all columns.
use Rattle.std.proofs.Common.{◌≡◌, ℕ, ◌+◌, ◌-◌, ◌≤◌, zero, suc, Bool, true, false, ◌&&◌, ◌||◌, Option, Some, None, List, [], ◌∷◌, ◌++◌, length, map, take, drop, replicate, set, refl, sym, ap, ap₂, ◌∙◌, subst, arith}
use Rattle.std.specs.List.{AllByRecursion, list_any}
use Rattle.std.proofs.lemmas.Bool.{false≢true}
use Rattle.std.proofs.lemmas.List.{map-append, append_assoc, length-append, length-take-le, length-drop, length-replicate, take-append-drop, replicate-append-replicate, set-append_left, set-append_right}
use Rattle.circuit_model.specs.Names.{all_different}
use Rattle.circuit_model.specs.Counts.{is_literal}
use Rattle.circuit_model.specs.declared.circuit.Tri.{Tri}
use Rattle.circuit_model.specs.declared.circuit.Tri.TheVariants.{Free}
use Rattle.circuit_model.specs.declared.circuit.Table.{Table}
use Rattle.circuit_laws.proofs.Names.{different_apart}
use Rattle.circuit_laws.proofs.Sound.{all_parts}
use Rattle.circuit_tables.specs.Tidy.{same_place, same_row, rows_differ, front_place, behind_front, used_places, some_row_or_phase_one, chosen, tidied}
use Rattle.circuit_tables.proofs.Tidied.{tidied_lost}
use Rattle.net_core.specs.Tables.{characters_of, character_of}
use Rattle.net_decomp.specs.Sums.{single_row, sum_rows, shifted, shifted_rows, sum_table, IsBelow, IsBetween, IsListed}
use Rattle.net_decomp.specs.declared.sums.Literal.{Literal}
use Rattle.net_decomp.proofs.Singles.{copied_table}
use Rattle.net_decomp.proofs.SumSteps.{drawn, drawn_long, drawn_parts, dashes_characters}
use Rattle.net_decomp.proofs.TidyRows.{Within, AreLong, differ_parts, tidied_chosen}

-- the marks of the columns after the first n, and a row with dashes in the other columns
abbrev middle : ℕ → ℕ → ℕ → List Bool
middle n m k = replicate n false ++ (replicate m true ++ replicate k false)

abbrev padded : ℕ → ℕ → List Tri → List Tri
padded n k row = replicate n Free ++ (row ++ replicate k Free)

chosen_none : {A : Type 0} (k : ℕ) (c : List A) → chosen (replicate k false) c ≡ []
unfolding chosen
chosen_none zero c = refl
chosen_none (suc k) [] = refl
chosen_none (suc k) (x ∷ c) = chosen_none k c

chosen_middle : {A : Type 0} (a b c : List A) (k : ℕ) → chosen (middle (length a) (length b) k) (a ++ (b ++ c)) ≡ b
unfolding chosen
chosen_middle [] [] c k = chosen_none k c
chosen_middle {A} [] (y ∷ b) c k = ap (λ (l : List A). y ∷ l) (chosen_middle [] b c k)
chosen_middle (x ∷ a) b c k = chosen_middle a b c k

unpadded : (n m k : ℕ) (row : List Tri) → length row ≡ m → chosen (middle n m k) (padded n k row) ≡ row
unpadded n m k row e =
    subst (λ (w : ℕ). chosen (middle n w k) (padded n k row) ≡ row) e
    (subst (λ (w : ℕ). chosen (middle w (length row) k) (padded n k row) ≡ row) (length-replicate n Free) (chosen_middle (replicate n Free) row (replicate k Free) k))

all_unpadded : (n m k : ℕ) (rows : List (List Tri)) → AreLong m rows → map (chosen (middle n m k)) (map (padded n k) rows) ≡ rows
all_unpadded n m k [] long = refl
all_unpadded n m k (row ∷ rows) long = rw (unpadded n m k row long.0, all_unpadded n m k rows long.1) refl

-- a row whose literals are in marked columns
abbrev RowIn : List Bool → List Tri → Type 0
RowIn [] row = Unit {0}
RowIn (mark ∷ marks) row = (is_literal (front_place row) ≡ true → mark ≡ true) × RowIn marks (behind_front row)

front_in : (mark : Bool) (marks : List Bool) (rows : List (List Tri)) → AllByRecursion (RowIn (mark ∷ marks)) rows → list_any (λ (row : List Tri). is_literal (front_place row)) rows ≡ true → mark ≡ true
front_in mark marks [] all h = absurd (false≢true h)
front_in mark marks (row ∷ rows) all h = cases (is_literal (front_place row)) all.0.0 (front_in mark marks rows all.1) h
  where
    cases : (s : Bool) → (s ≡ true → mark ≡ true) → (list_any (λ (other : List Tri). is_literal (front_place other)) rows ≡ true → mark ≡ true)
        → (s || list_any (λ (other : List Tri). is_literal (front_place other)) rows) ≡ true → mark ≡ true
    cases true k rest e = k refl
    cases false k rest e = rest e

behind_in : (mark : Bool) (marks : List Bool) (rows : List (List Tri)) → AllByRecursion (RowIn (mark ∷ marks)) rows → AllByRecursion (RowIn marks) (map behind_front rows)
behind_in mark marks [] all = tt
behind_in mark marks (row ∷ rows) all = (all.0.1, behind_in mark marks rows all.1)

rows_within : (names : List (List ℕ)) (marks : List Bool) (rows : List (List Tri)) → length marks ≡ length names → AllByRecursion (RowIn marks) rows → Within (used_places names rows) marks
unfolding used_places
rows_within [] [] rows e all = tt
rows_within [] (mark ∷ marks) rows e all = absurd (omega arith)
rows_within (name ∷ names) [] rows e all = absurd (omega arith)
rows_within (name ∷ names) (mark ∷ marks) rows e all = (front_in mark marks rows all, rows_within names marks (map behind_front rows) (omega arith) (behind_in mark marks rows all))

dashes_in : (k : ℕ) → RowIn (replicate k false) (replicate k Free)
dashes_in zero = tt
dashes_in (suc k) = (λ e. e, dashes_in k)

padded_in : (n k : ℕ) (row : List Tri) → RowIn (middle n (length row) k) (padded n k row)
padded_in zero k [] = dashes_in k
padded_in zero k (x ∷ row) = (λ e. refl, padded_in zero k row)
padded_in (suc n) k row = (λ e. e, padded_in n k row)

all_in : (n m k : ℕ) (rows : List (List Tri)) → AreLong m rows → AllByRecursion (RowIn (middle n m k)) (map (padded n k) rows)
all_in n m k [] long = tt
all_in n m k (row ∷ rows) long = (subst (λ (w : ℕ). RowIn (middle n w k) (padded n k row)) long.0 (padded_in n k row), all_in n m k rows long.1)

-- such rows differ as the rows without those dashes do
same_dashes : (k : ℕ) → same_row (replicate k Free) (replicate k Free) ≡ true
unfolding same_row
same_dashes zero = refl
same_dashes (suc k) = same_dashes k

same_padded : (n k : ℕ) (a b : List Tri) → length a ≡ length b → same_row (padded n k a) (padded n k b) ≡ same_row a b
unfolding same_row
same_padded zero k [] [] e = same_dashes k
same_padded zero k [] (y ∷ b) e = absurd (omega arith)
same_padded zero k (x ∷ a) [] e = absurd (omega arith)
same_padded zero k (x ∷ a) (y ∷ b) e = ap (λ (t : Bool). same_place x y && t) (same_padded zero k a b (omega arith))
same_padded (suc n) k a b e = same_padded n k a b e

among_padded : (n m k : ℕ) (row : List Tri) (rows : List (List Tri)) → length row ≡ m → AreLong m rows → list_any (same_row (padded n k row)) (map (padded n k) rows) ≡ list_any (same_row row) rows
among_padded n m k row [] e long = refl
among_padded n m k row (first ∷ rows) e long = rw (same_padded n k row first (e ∙ sym long.0), among_padded n m k row rows e long.1) refl

padded_differ : (n m k : ℕ) (rows : List (List Tri)) → AreLong m rows → rows_differ (map (padded n k) rows) ≡ rows_differ rows
unfolding rows_differ
padded_differ n m k [] long = refl
padded_differ n m k (row ∷ rows) long = rw (among_padded n m k row rows long.0 long.1, padded_differ n m k rows long.1) refl

-- the normal form over the middle columns
abbrev over : List (List ℕ) → List ℕ → Bool → List (List Tri) → Table
over names name phase rows = record { inputs = names; output = name; rows = rows; phase = phase }

middle_long : (a b c : List (List ℕ)) → length (middle (length a) (length b) (length c)) ≡ length (a ++ (b ++ c))
middle_long a b c =
    omega (
      arith,
      length-append a (b ++ c),
      length-append b c,
      length-append (replicate (length a) false) (replicate (length b) true ++ replicate (length c) false),
      length-append (replicate (length b) true) (replicate (length c) false),
      length-replicate (length a) false,
      length-replicate (length b) true,
      length-replicate (length c) false,
    )

tidied_some : (a b c : List (List ℕ)) (name : List ℕ) (phase : Bool) (rows : List (List Tri)) → all_different (a ++ (b ++ c)) ≡ true → all_different b ≡ true → AreLong (length b) rows → rows_differ (map (padded (length a) (length c)) rows) ≡ true
    → some_row_or_phase_one (map (padded (length a) (length c)) rows) phase ≡ true → tidied (over b name phase rows) ≡ tidied (over (a ++ (b ++ c)) name phase (map (padded (length a) (length c)) rows))
tidied_some a b c name phase rows once few long differ some =
    let marks : List Bool = middle (length a) (length b) (length c) in
    let inputs : chosen marks (a ++ (b ++ c)) ≡ b = chosen_middle a b c (length c) in
    let same : map (chosen marks) (map (padded (length a) (length c)) rows) ≡ rows = all_unpadded (length a) (length b) (length c) rows long in
    ap₂ (λ (names : List (List ℕ)) (list : List (List Tri)). tidied (over names name phase list)) (sym inputs) (sym same)
    ∙ tidied_chosen (a ++ (b ++ c)) name (map (padded (length a) (length c)) rows) phase marks once (ap all_different inputs ∙ few) differ
    (ap rows_differ same ∙ sym (padded_differ (length a) (length b) (length c) rows long) ∙ differ) some
    (rows_within (a ++ (b ++ c)) marks (map (padded (length a) (length c)) rows) (middle_long a b c) (all_in (length a) (length b) (length c) rows long))

tidied_middle : (a b c : List (List ℕ)) (name : List ℕ) (phase : Bool) (rows : List (List Tri)) → all_different (a ++ (b ++ c)) ≡ true → AreLong (length b) rows → rows_differ (map (padded (length a) (length c)) rows) ≡ true
    → tidied (over b name phase rows) ≡ tidied (over (a ++ (b ++ c)) name phase (map (padded (length a) (length c)) rows))
tidied_middle a b c name phase rows once long differ = cases phase rows long differ
  where
    few : all_different b ≡ true
    few = (different_apart b c (different_apart a (b ++ c) once).back).front

    cases : (t : Bool) (list : List (List Tri)) → AreLong (length b) list → rows_differ (map (padded (length a) (length c)) list) ≡ true
        → tidied (over b name t list) ≡ tidied (over (a ++ (b ++ c)) name t (map (padded (length a) (length c)) list))
    cases false [] l d = tidied_lost (over b name false []) few refl ∙ sym (tidied_lost (over (a ++ (b ++ c)) name false []) once refl)
    cases true [] l d = tidied_some a b c name true [] once few l d refl
    cases t (row ∷ list) l d = tidied_some a b c name t (row ∷ list) once few l d refl

-- the rows of literals in the middle columns
single_padded : (n m k : ℕ) (literal : Literal) → IsBetween n (n + m) literal → characters_of (single_row (n + (m + k)) literal) ≡ padded n k (characters_of (single_row m (shifted n literal)))
single_padded n m k literal between =
    let dashes : ℕ → List (Option Bool) = λ w. replicate w None in
    let first : length (dashes n) ≡ n = length-replicate n None in
    let second : length (dashes m) ≡ m = length-replicate m None in
    let row : single_row (n + (m + k)) literal ≡ dashes n ++ (single_row m (shifted n literal) ++ dashes k) =
    ap (λ (r : List (Option Bool)). set r literal.place (Some literal.bit)) (sym (replicate-append-replicate n (m + k) None))
    ∙ set-append_right (dashes n) (dashes (m + k)) n literal.place (Some literal.bit) first between.0
    ∙ ap (λ (r : List (Option Bool)). dashes n ++ r)
    (ap (λ (r : List (Option Bool)). set r (literal.place - n) (Some literal.bit)) (sym (replicate-append-replicate m k None))
    ∙ set-append_left (dashes m) (dashes k) (literal.place - n) (Some literal.bit) (omega (arith, between.0, between.1, second))) in
    ap (λ (r : List (Option Bool)). characters_of r) row
    ∙ map-append character_of (dashes n) (single_row m (shifted n literal) ++ dashes k)
    ∙ ap₂ (λ (p q : List Tri). p ++ q) (dashes_characters n)
    (map-append character_of (single_row m (shifted n literal)) (dashes k) ∙ ap (λ (q : List Tri). characters_of (single_row m (shifted n literal)) ++ q) (dashes_characters k))

drawn_padded : (n m k : ℕ) (literals : List Literal) → AllByRecursion (IsBetween n (n + m)) literals → drawn (n + (m + k)) literals ≡ map (padded n k) (drawn m (map (shifted n) literals))
drawn_padded n m k [] between = refl
drawn_padded n m k (literal ∷ literals) between = ap₂ (λ (row : List Tri) (rows : List (List Tri)). row ∷ rows) (single_padded n m k literal between.0) (drawn_padded n m k literals between.1)

middle_table : (a b c : List (List ℕ)) (name : List ℕ) (phase : Bool) (literals : List Literal) → IsListed (a ++ (b ++ c)) literals → AllByRecursion (IsBetween (length a) (length a + length b)) literals
    → sum_table b name phase (map (shifted (length a)) literals) ≡ sum_table (a ++ (b ++ c)) name phase literals
middle_table a b c name phase literals listed between =
    let width : length (a ++ (b ++ c)) ≡ length a + (length b + length c) = omega (arith, length-append a (b ++ c), length-append b c) in
    let rows : drawn (length (a ++ (b ++ c))) literals ≡ map (padded (length a) (length c)) (drawn (length b) (map (shifted (length a)) literals)) =
    ap (λ (w : ℕ). drawn w literals) width ∙ drawn_padded (length a) (length b) (length c) literals between in
    tidied_middle a b c name phase (drawn (length b) (map (shifted (length a)) literals)) listed.different (drawn_long (length b) (map (shifted (length a)) literals)) (ap rows_differ (sym rows) ∙ listed.differ)
    ∙ ap (λ (list : List (List Tri)). tidied (over (a ++ (b ++ c)) name phase list)) (sym rows)

pub shifted_is : (width from : ℕ) (literals : List Literal) → shifted_rows width from literals ≡ sum_rows width (map (shifted from) literals)
shifted_is width from [] = refl
shifted_is width from (literal ∷ literals) = ap (λ (rows : List (List (Option Bool))). single_row width (shifted from literal) ∷ rows) (shifted_is width from literals)

-- the table that is made over the columns from one index up to another
pub span_table : (names front few copied : List (List ℕ)) (from to width : ℕ) (literals : List Literal) (name : List ℕ) (phase : Bool) (rows : List (List (Option Bool))) (made : Table) → IsListed names literals
    → AllByRecursion (IsBetween from to) literals → from ≤ to → to ≤ length names → front ≡ take to names → few ≡ drop from front → copied ≡ few → width ≡ length few → rows ≡ shifted_rows width from literals
    → made ≡ tidied (over copied name phase (map characters_of rows)) → made ≡ sum_table names name phase literals
span_table names front few copied from to width literals name phase rows made listed between order fits front_is few_is same wide are is =
    copied_table few copied width name phase (map (shifted from) literals) rows made same wide (are ∙ shifted_is width from literals) is
    ∙ subst (λ (w : ℕ). sum_table few name phase (map (shifted w) literals) ≡ sum_table names name phase literals) before_long
    (subst (λ (list : List (List ℕ)). sum_table few name phase (map (shifted (length before)) literals) ≡ sum_table list name phase literals) whole
    (middle_table before few behind name phase literals (subst (λ (list : List (List ℕ)). IsListed list literals) (sym whole) listed)
    (subst (λ (n : ℕ). AllByRecursion (IsBetween n (n + length few)) literals) (sym before_long) (subst (λ (n : ℕ). AllByRecursion (IsBetween from n) literals) ends between))))
  where
    before : List (List ℕ)
    before = take from front

    behind : List (List ℕ)
    behind = drop to names

    front_long : length front ≡ to
    front_long = ap length front_is ∙ length-take-le to names fits

    before_long : length before ≡ from
    before_long = length-take-le from front (omega (arith, front_long, order))

    ends : to ≡ from + length few
    ends = let long : length few ≡ length front - from = ap length few_is ∙ length-drop from front in omega (arith, long, front_long, order)

    whole : before ++ (few ++ behind) ≡ names
    whole =
        sym (append_assoc before few behind)
        ∙ ap (λ (list : List (List ℕ)). (before ++ list) ++ behind) few_is
        ∙ ap (λ (list : List (List ℕ)). list ++ behind) (take-append-drop from front ∙ front_is)
        ∙ take-append-drop to names

-- the first literals of a list
pub first_listed : (names : List (List ℕ)) (most : ℕ) (literals later front : List Literal) → IsListed names literals → later ≡ literals → front ≡ take most later → IsListed names front
first_listed names most literals later front listed same is =
    subst (IsListed names) (sym (is ∙ ap (λ (list : List Literal). take most list) same))
    (record {
      different = listed.different;
      below = (all_parts (IsBelow (length names)) (take most literals) (drop most literals) (subst (AllByRecursion (IsBelow (length names))) (sym (take-append-drop most literals)) listed.below)).0;
      differ = (differ_parts (drawn (length names) (take most literals)) (drawn (length names) (drop most literals)) (ap rows_differ (drawn_parts (length names) most literals) ∙ listed.differ)).0;
    })
