-- Tables that have one bit at every point.
use Rattle.std.proofs.Common.{◌≡◌, ℕ, zero, suc, Bool, true, false, not, eqb, if◌then◌else◌, Some, None, List, [], ◌∷◌, length, map, refl, sym, ap, ◌∙◌, subst, arith, inl, inr, ◌⊎◌}
use Rattle.std.proofs.lemmas.Bool.Decides.{nat_tests}
use Rattle.std.proofs.lemmas.Bool.{and_from, and_parts}
use Rattle.sis_base.specs.Rows.{matches, some_matches, value_by_phase, phase_value}
use Rattle.circuit_model.specs.Values.{literal_of, table_value}
use Rattle.circuit_model.specs.declared.circuit.Tri.{Tri}
use Rattle.circuit_model.specs.declared.circuit.Tri.TheVariants.{Zero, One, Free}
use Rattle.circuit_model.specs.declared.circuit.Table.{Table}
use Rattle.cube_cover.specs.Covers.{IsTautology}
use Rattle.net_core.specs.Tables.{HasCharacters, places_of}
use Rattle.net_wires.specs.Points.{every_point, constant_bit}

-- a test that holds at every point, and at each one
pub every_holds : (width : ℕ) (test : List Bool → Bool) → ((point : List Bool) → length point ≡ width → test point ≡ true) → every_point width test ≡ true
unfolding every_point
every_holds zero test h = h [] refl
every_holds (suc width) test h =
    and_from (every_point width (λ point. test (false ∷ point))) (every_point width (λ point. test (true ∷ point)))
    (every_holds width (λ point. test (false ∷ point)) (λ p e. h (false ∷ p) (omega (arith, e))))
    (every_holds width (λ point. test (true ∷ point)) (λ p e. h (true ∷ p) (omega (arith, e))))

pub every_gives : (width : ℕ) (test : List Bool → Bool) → every_point width test ≡ true → (point : List Bool) → length point ≡ width → test point ≡ true
unfolding every_point
every_gives zero test h [] e = h
every_gives zero test h (b ∷ point) e = absurd (omega (arith, e))
every_gives (suc width) test h [] e = absurd (omega (arith, e))
every_gives (suc width) test h (false ∷ point) e =
    every_gives width (λ p. test (false ∷ p)) (and_parts (every_point width (λ p. test (false ∷ p))) (every_point width (λ p. test (true ∷ p))) h).0 point (omega (arith, e))
every_gives (suc width) test h (true ∷ point) e =
    every_gives width (λ p. test (true ∷ p)) (and_parts (every_point width (λ p. test (false ∷ p))) (every_point width (λ p. test (true ∷ p))) h).1 point (omega (arith, e))

-- a point that a row matches
bit_of : Tri → Bool
bit_of One = true
bit_of Zero = false
bit_of Free = false

point_of : List Tri → List Bool
point_of row = map bit_of row

point_length : (row : List Tri) → length (point_of row) ≡ length row
unfolding point_of
point_length [] = refl
point_length (c ∷ row) = omega (arith, point_length row)

point_matches : (row : List Tri) → matches (map literal_of row) (point_of row) ≡ true
unfolding matches point_of bit_of
point_matches [] = refl
point_matches (Zero ∷ row) = point_matches row
point_matches (One ∷ row) = point_matches row
point_matches (Free ∷ row) = point_matches row

-- the value of a table where some row matches, and where none does
value_matched : (table : Table) (point : List Bool) → some_matches (map (map literal_of) table.rows) point ≡ true → table_value table point ≡ table.phase
unfolding table_value value_by_phase
value_matched table point h = rw h (of_true table.phase)
  where
    of_true : (phase : Bool) → phase_value phase true ≡ phase
    of_true true = refl
    of_true false = refl

value_turns : (table : Table) (point : List Bool) → table_value table point ≡ table.phase → some_matches (map (map literal_of) table.rows) point ≡ true
unfolding table_value value_by_phase
value_turns table point h = back table.phase (some_matches (map (map literal_of) table.rows) point) h
  where
    back : (phase matched : Bool) → phase_value phase matched ≡ phase → matched ≡ true
    back true matched h = h
    back false true h = refl
    back false false h = let z : true ≡ false = h in absurd cc

value_unmatched : (table : Table) (point : List Bool) → table.rows ≡ [] → table_value table point ≡ not table.phase
unfolding table_value value_by_phase some_matches
value_unmatched table point h = rw h (of_false table.phase)
  where
    of_false : (phase : Bool) → phase_value phase false ≡ not phase
    of_false true = refl
    of_false false = refl

-- a table that has its phase at every point, or the other bit
abbrev Has : Table → Bool → Type 0
Has table bit = (point : List Bool) → length point ≡ length table.inputs → table_value table point ≡ bit

zeros : ℕ → List Bool
zeros zero = []
zeros (suc n) = false ∷ zeros n

zeros_long : (n : ℕ) → length (zeros n) ≡ n
unfolding zeros
zeros_long zero = refl
zeros_long (suc n) = omega (arith, zeros_long n)

pub has_bit : (table : Table) (bit : Bool) → Has table bit → constant_bit table ≡ Some bit
unfolding constant_bit
has_bit table true h =
    let e : every_point (length table.inputs) (λ point. table_value table point) ≡ true = every_holds (length table.inputs) (λ point. table_value table point) h in
    rw e refl
has_bit table false h =
    let f : every_point (length table.inputs) (λ point. not (table_value table point)) ≡ true =
    every_holds (length table.inputs) (λ point. not (table_value table point)) (λ p e. ap not (h p e)) in
    cases (every_point (length table.inputs) (λ point. table_value table point)) refl (every_point (length table.inputs) (λ point. not (table_value table point))) f
  where
    cases : (b : Bool) → every_point (length table.inputs) (λ point. table_value table point) ≡ b → (c : Bool) → c ≡ true → (if b then Some true else (if c then Some false else None)) ≡ Some false
    cases true e c f =
        let z : true ≡ false = sym (every_gives (length table.inputs) (λ point. table_value table point) e (zeros (length table.inputs)) (zeros_long (length table.inputs))) ∙ h (zeros (length table.inputs)) (zeros_long (length table.inputs)) in absurd cc
    cases false e c f = rw f refl

pub has_no_bit : (table : Table) → ((bit : Bool) → Has table bit → ⊥) → constant_bit table ≡ None
unfolding constant_bit
has_no_bit table h = cases (every_point (length table.inputs) (λ point. table_value table point)) refl (every_point (length table.inputs) (λ point. not (table_value table point))) refl
  where
    turned : (b : Bool) → not b ≡ true → b ≡ false
    turned true e = let z : false ≡ true = e in absurd cc
    turned false e = refl

    cases : (b : Bool) → every_point (length table.inputs) (λ point. table_value table point) ≡ b → (c : Bool) → every_point (length table.inputs) (λ point. not (table_value table point)) ≡ c
        → (if b then Some true else (if c then Some false else None)) ≡ None
    cases true e c f = absurd (h true (λ p k. every_gives (length table.inputs) (λ point. table_value table point) e p k))
    cases false e true f = absurd (h false (λ p k. turned (table_value table p) (every_gives (length table.inputs) (λ point. not (table_value table point)) f p k)))
    cases false e false f = refl

-- by the cover
pub full_bit : (table : Table) → IsTautology (record { width = length table.inputs; rows = map places_of table.rows }) → constant_bit table ≡ Some table.phase
full_bit table h = has_bit table table.phase (λ p e. value_matched table p (h p e))

nil_of : {X : Type 0} (xs : List X) → eqb (length xs) 0 ≡ true → xs ≡ []
nil_of [] e = refl
nil_of (x ∷ xs) e = let z : suc (length xs) ≡ 0 = grind (arith, nat_tests) in absurd (omega (arith, z))

cons_of : {X : Type 0} (xs : List X) → eqb (length xs) 0 ≡ false → xs ≡ [] → ⊥
cons_of [] e h = let z : true ≡ false = e in cc
cons_of (x ∷ xs) e h = cc

pub empty_bit : (table : Table) → eqb (length table.rows) 0 ≡ true → constant_bit table ≡ Some (not table.phase)
empty_bit table h = has_bit table (not table.phase) (λ p e. value_unmatched table p (nil_of table.rows h))

first_matches : (row : List Tri) (rows : List (List Tri)) → some_matches (map (map literal_of) (row ∷ rows)) (point_of row) ≡ true
unfolding some_matches
first_matches row rows = rw (point_matches row) refl

pub no_bit : (table : Table) → HasCharacters (length table.inputs) table.rows → (IsTautology (record { width = length table.inputs; rows = map places_of table.rows }) → ⊥) → eqb (length table.rows) 0 ≡ false
    → constant_bit table ≡ None
no_bit table w n e = has_no_bit table (λ bit h. by_rows table.rows refl bit h)
  where
    same_or_not : (a b : Bool) → (a ≡ b) ⊎ (a ≡ not b)
    same_or_not true true = inl refl
    same_or_not true false = inr refl
    same_or_not false true = inr refl
    same_or_not false false = inl refl

    not_same : (a : Bool) → a ≡ not a → ⊥
    not_same true h = let z : true ≡ false = h in cc
    not_same false h = let z : false ≡ true = h in cc

    by_rows : (rows : List (List Tri)) → table.rows ≡ rows → (bit : Bool) → Has table bit → ⊥
    by_rows [] f bit h = cons_of table.rows e f
    by_rows (row ∷ rows) f bit h = elim (same_or_not bit table.phase) [
      | inl s ↦ n (λ p k. value_turns table p (h p k ∙ s))
      | inr s ↦
          let wide : HasCharacters (length table.inputs) (row ∷ rows) = subst (λ rs. HasCharacters (length table.inputs) rs) f w in
          let long : length (point_of row) ≡ length table.inputs = point_length row ∙ wide.0 in
          let here : some_matches (map (map literal_of) table.rows) (point_of row) ≡ true = ap (λ rs. some_matches (map (map literal_of) rs) (point_of row)) f ∙ first_matches row rows in
          not_same table.phase (sym (value_matched table (point_of row) here) ∙ (h (point_of row) long ∙ s))
    ]
