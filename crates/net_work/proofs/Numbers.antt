-- Numbers of different names: up to a step of a loop, and those of the inputs of a table.
use Rattle.std.proofs.Common.{◌≡◌, ℕ, ◌+◌, ◌<◌, ◌≤◌, zero, suc, Bool, true, false, not, cond, ltb, if◌then◌else◌, Option, Some, None, List, [], ◌∷◌, ◌++◌, length, get_or, take, bytes_eq, position, option_map, refl, sym, ap, ◌∙◌, subst, arith, inl, inr}
use Rattle.std.specs.List.{position_or_len}
use Rattle.std.proofs.lemmas.Bool.{false≢true, lt-ltb, le-ltb, ltb-true, ltb-false}
use Rattle.circuit_model.specs.Names.{has, all_different}
use Rattle.circuit_model.specs.declared.circuit.Tri.{Tri}
use Rattle.circuit_model.specs.declared.circuit.Table.{Table}
use Rattle.circuit_laws.proofs.Names.{name_is, name_cases, different_head, different_tail, has_head, has_tail}
use Rattle.net_core.specs.Reads.{rows_with, rows_at, uses_in}
use Rattle.net_work.specs.Uses.{uses_from, AreUses, number_of}
use Rattle.net_readers.proofs.Sets.{name_swapped}

-- one more name
taken_has : (names : List (List ℕ)) (i : ℕ) (d : List ℕ) → i < length names → has names (get_or names i d) ≡ true
taken_has [] i d lt = absurd (omega (arith, lt))
taken_has (first ∷ names) zero d lt = has_head first names
taken_has (first ∷ names) (suc i) d lt = has_tail first names (get_or names i d) (taken_has names i d (omega (arith, lt)))

number_more : (names : List (List ℕ)) (numbers : List ℕ) (i : ℕ) (d name other : List ℕ) (e : ℕ) → i < length names → length numbers ≡ length names → all_different names ≡ true → name ≡ get_or names i d
    → number_of (take (suc i) names) numbers other ≡ number_of (take i names) numbers other + (if bytes_eq name other then get_or numbers i e else 0)
unfolding number_of
number_more [] numbers i d name other e lt long different is = absurd (omega (arith, lt))
number_more (first ∷ names) [] i d name other e lt long different is = absurd (omega (arith, long))
number_more (first ∷ names) (number ∷ numbers) zero d name other e lt long different is =
    let same : ◌≡◌ {A = ℕ} (if bytes_eq other first then number else 0) (if bytes_eq name other then number else 0) =
    ap (λ (b : Bool). if b then number else 0) (name_swapped other first ∙ ap (λ (n : List ℕ). bytes_eq n other) (sym is)) in
    omega (arith, same)
number_more (first ∷ names) (number ∷ numbers) (suc i) d name other e lt long different is =
    cases (bytes_eq other first) refl (number_more names numbers i d name other e (omega (arith, lt)) (omega (arith, long)) (different_tail first names different) is)
  where
    here : bytes_eq other first ≡ true → bytes_eq name other ≡ false
    here e = elim (name_cases name other) as (λ _. bytes_eq name other ≡ false) [
      | inl same ↦ absurd (false≢true (sym (different_head first names different) ∙ subst (λ (n : List ℕ). has names n ≡ true) (sym is ∙ (same ∙ same_one)) (taken_has names i d (omega (arith, lt)))))
      | inr apart ↦ apart
    ]
      where
        same_one : other ≡ first
        same_one = elim (name_cases other first) as (λ _. other ≡ first) [
          | inl same ↦ same
          | inr apart ↦ absurd (false≢true (sym apart ∙ e))
        ]

    cases : (b : Bool) → bytes_eq other first ≡ b
        → number_of (take (suc i) names) numbers other ≡ number_of (take i names) numbers other + (if bytes_eq name other then get_or numbers i e else 0)
        → (if b then number else number_of (take (suc i) names) numbers other) ≡ (if b then number else number_of (take i names) numbers other) + (if bytes_eq name other then get_or numbers i e else 0)
    cases true h rest = let none : ◌≡◌ {A = ℕ} (if bytes_eq name other then get_or numbers i e else 0) 0 = ap (λ (b : Bool). if b then get_or numbers i e else 0) (here h) in omega (arith, none)
    cases false h rest = rest

pub gained_more : (names : List (List ℕ)) (numbers : List ℕ) (i : ℕ) (d name : List ℕ) (e : ℕ) (before now after : List ℕ → ℕ) → i < length names → length numbers ≡ length names → all_different names ≡ true → name ≡ get_or names i d
    → ((other : List ℕ) → now other ≡ before other + number_of (take i names) numbers other)
    → ((other : List ℕ) → after other ≡ now other + (if bytes_eq name other then get_or numbers i e else 0))
    → (other : List ℕ) → after other ≡ before other + number_of (take (i + 1) names) numbers other
gained_more names numbers i d name e before now after lt long different is h more other =
    let next : i + 1 ≡ suc i = omega arith in
    let step : number_of (take (i + 1) names) numbers other ≡ number_of (take i names) numbers other + (if bytes_eq name other then get_or numbers i e else 0) =
    ap (λ (n : ℕ). number_of (take n names) numbers other) next ∙ number_more names numbers i d name other e lt long different is in
    omega (arith, h other, more other, step)

pub lost_more : (names : List (List ℕ)) (numbers : List ℕ) (i : ℕ) (d name : List ℕ) (e : ℕ) (before now after : List ℕ → ℕ) → i < length names → length numbers ≡ length names → all_different names ≡ true → name ≡ get_or names i d
    → ((other : List ℕ) → now other + number_of (take i names) numbers other ≡ before other)
    → ((other : List ℕ) → after other + (if bytes_eq name other then get_or numbers i e else 0) ≡ now other)
    → (other : List ℕ) → after other + number_of (take (i + 1) names) numbers other ≡ before other
lost_more names numbers i d name e before now after lt long different is h more other =
    let next : i + 1 ≡ suc i = omega arith in
    let step : number_of (take (i + 1) names) numbers other ≡ number_of (take i names) numbers other + (if bytes_eq name other then get_or numbers i e else 0) =
    ap (λ (n : ℕ). number_of (take n names) numbers other) next ∙ number_more names numbers i d name other e lt long different is in
    omega (arith, h other, more other, step)

-- what is to be subtracted for the next name is still there
number_up_to : (names : List (List ℕ)) (numbers : List ℕ) (i : ℕ) (other : List ℕ) → number_of (take i names) numbers other ≤ number_of names numbers other
unfolding number_of
number_up_to [] numbers zero other = omega arith
number_up_to [] numbers (suc i) other = omega arith
number_up_to (first ∷ names) [] zero other = omega arith
number_up_to (first ∷ names) [] (suc i) other = omega arith
number_up_to (first ∷ names) (number ∷ numbers) zero other = omega arith
number_up_to (first ∷ names) (number ∷ numbers) (suc i) other = cases (bytes_eq other first) (number_up_to names numbers i other)
  where
    cases : (b : Bool) → number_of (take i names) numbers other ≤ number_of names numbers other
        → (if b then number else number_of (take i names) numbers other) ≤ (if b then number else number_of names numbers other)
    cases true h = omega arith
    cases false h = h

pub enough_left : (names : List (List ℕ)) (numbers : List ℕ) (i : ℕ) (d name : List ℕ) (e : ℕ) (before now : List ℕ → ℕ) → i < length names → length numbers ≡ length names → all_different names ≡ true → name ≡ get_or names i d
    → ((other : List ℕ) → now other + number_of (take i names) numbers other ≡ before other) → ((other : List ℕ) → number_of names numbers other ≤ before other)
    → get_or numbers i e ≤ now name
enough_left names numbers i d name e before now lt long different is h enough =
    let step : number_of (take (suc i) names) numbers name ≡ number_of (take i names) numbers name + (if bytes_eq name name then get_or numbers i e else 0) = number_more names numbers i d name name e lt long different is in
    let own : ◌≡◌ {A = ℕ} (if bytes_eq name name then get_or numbers i e else 0) (get_or numbers i e) = ap (λ (b : Bool). if b then get_or numbers i e else 0) (name_is name name refl) in
    omega (arith, step, own, h name, enough name, number_up_to names numbers (suc i) name)

-- the numbers of the inputs of a table are its uses
position_next : {X : Type 0} (p : X → Bool) (x : X) (xs : List X) → position p (x ∷ xs) ≡ cond (p x) (Some 0) (option_map suc (position p xs))
position_next p x xs = cases (p x)
  where
    len : ℕ
    len = position_or_len p xs

    later : (b : Bool) → ltb len (length xs) ≡ b → cond (ltb (1 + len) (suc (length xs))) (Some (1 + len)) None ≡ option_map suc (cond b (Some len) None)
    later true e = let z : ltb (1 + len) (suc (length xs)) ≡ true = lt-ltb (1 + len) (suc (length xs)) (omega (arith, ltb-true len (length xs) e)) in rw z (ap Some (let one : 1 + len ≡ suc len = omega arith in one))
    later false e = let z : ltb (1 + len) (suc (length xs)) ≡ false = le-ltb (1 + len) (suc (length xs)) (omega (arith, ltb-false len (length xs) e)) in rw z refl

    cases : (b : Bool) → cond (ltb (cond (not b) (1 + len) 0) (suc (length xs))) (Some (cond (not b) (1 + len) 0)) None ≡ cond b (Some 0) (option_map suc (position p xs))
    cases true = let z : ltb 0 (suc (length xs)) ≡ true = lt-ltb 0 (suc (length xs)) (omega arith) in rw z refl
    cases false = later (ltb len (length xs)) refl

-- the rows with a literal of a name among inputs, the first of which has the given column
abbrev pub rows_at_from : ℕ → Option ℕ → List (List Tri) → ℕ
rows_at_from place None rows = 0
rows_at_from place (Some at) rows = rows_with (place + at) rows

uses_later : (inputs : List (List ℕ)) (place : ℕ) (rows : List (List Tri)) (name : List ℕ) → rows_at_from place (position (bytes_eq name) inputs) rows ≡ number_of inputs (uses_from place inputs rows) name
unfolding number_of uses_from
uses_later [] place rows name = refl
uses_later (first ∷ inputs) place rows name =
    ap (λ (o : Option ℕ). rows_at_from place o rows) (position_next (bytes_eq name) first inputs) ∙ cases (bytes_eq name first) (position (bytes_eq name) inputs) (uses_later inputs (suc place) rows name)
  where
    cases : (b : Bool) (o : Option ℕ) → rows_at_from (suc place) o rows ≡ number_of inputs (uses_from (suc place) inputs rows) name
        → rows_at_from place (cond b (Some 0) (option_map suc o)) rows ≡ (if b then rows_with place rows else number_of inputs (uses_from (suc place) inputs rows) name)
    cases true o h = ap (λ (n : ℕ). rows_with n rows) (let z : place + 0 ≡ place = omega arith in z)
    cases false None h = h
    cases false (Some at) h = ap (λ (n : ℕ). rows_with n rows) (let z : place + suc at ≡ suc place + at = omega arith in z) ∙ h

pub uses_are : (table : Table) (numbers : List ℕ) → AreUses numbers table → (name : List ℕ) → number_of table.inputs numbers name ≡ uses_in name table
unfolding uses_in
uses_are table numbers are name =
    ap (λ (ns : List ℕ). number_of table.inputs ns name) are ∙ (sym (uses_later table.inputs 0 table.rows name) ∙ from_none (position (bytes_eq name) table.inputs))
  where
    from_none : (o : Option ℕ) → rows_at_from 0 o table.rows ≡ rows_at o table.rows
    from_none None = refl
    from_none (Some at) = ap (λ (n : ℕ). rows_with n table.rows) (let z : 0 + at ≡ at = omega arith in z)

pub uses_long : (place : ℕ) (inputs : List (List ℕ)) (rows : List (List Tri)) → length (uses_from place inputs rows) ≡ length inputs
unfolding uses_from
uses_long place [] rows = refl
uses_long place (input ∷ inputs) rows = ap suc (uses_long (suc place) inputs rows)

-- one more input
uses_next : (rows : List (List Tri)) (names : List (List ℕ)) (place i : ℕ) → i < length names → uses_from place (take (suc i) names) rows ≡ uses_from place (take i names) rows ++ rows_with (place + i) rows ∷ []
unfolding uses_from
uses_next rows [] place i lt = absurd (omega (arith, lt))
uses_next rows (first ∷ names) place zero lt = ap (λ (n : ℕ). rows_with n rows ∷ []) (let z : place ≡ place + 0 = omega arith in z)
uses_next rows (first ∷ names) place (suc i) lt =
    ap (λ (ns : List ℕ). rows_with place rows ∷ ns) (uses_next rows names (suc place) i (omega (arith, lt)) ∙ ap (λ (n : ℕ). uses_from (suc place) (take i names) rows ++ rows_with n rows ∷ []) (let z : suc place + i ≡ place + suc i = omega arith in z))

pub uses_more : (inputs : List (List ℕ)) (rows : List (List Tri)) (i : ℕ) → i < length inputs → uses_from 0 (take (i + 1) inputs) rows ≡ uses_from 0 (take i inputs) rows ++ rows_with i rows ∷ []
uses_more inputs rows i lt =
    ap (λ (n : ℕ). uses_from 0 (take n inputs) rows) (let z : i + 1 ≡ suc i = omega arith in z) ∙ (uses_next rows inputs 0 i lt ∙ ap (λ (n : ℕ). uses_from 0 (take i inputs) rows ++ rows_with n rows ∷ []) (let z : 0 + i ≡ i = omega arith in z))

pub uses_none : (inputs : List (List ℕ)) (rows : List (List Tri)) → uses_from 0 (take 0 inputs) rows ≡ []
unfolding uses_from
uses_none [] rows = refl
uses_none (input ∷ inputs) rows = refl

pub number_none : (names : List (List ℕ)) (numbers : List ℕ) (other : List ℕ) → number_of (take 0 names) numbers other ≡ 0
unfolding number_of
number_none [] numbers other = refl
number_none (first ∷ names) numbers other = refl
