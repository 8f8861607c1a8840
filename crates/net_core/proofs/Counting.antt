-- Sums and counts over rows and tables, as far as a loop has come, and how large they can be.
use Rattle.std.proofs.Common.{◌≡◌, ℕ, ◌+◌, ◌*◌, ◌^◌, ◌<◌, ◌≤◌, zero, suc, Bool, true, false, ◌||◌, cond, Option, Some, None, List, [], ◌∷◌, ◌++◌, length, get_or, take, map, bytes_eq, refl, sym, ap, ◌∙◌, subst, arith}
use Rattle.std.specs.List.{sum_by, find, filter, AllByRecursion}
use Rattle.std.proofs.lemmas.List.{length-append, length-map, map-append}
use Rattle.std.proofs.lemmas.List.Sums.{sum_by-append, sum_by-cons, count_by-le-length}
use Rattle.std.proofs.lemmas.List.Elements.{filter-append}
use Rattle.std.proofs.lemmas.Nat.{mul-le}
use Rattle.std.proofs.lemmas.Option.{same_Some}
use Rattle.cube_cover.specs.Literals.{row_literals}
use Rattle.circuit_model.specs.Names.{has}
use Rattle.circuit_model.specs.Values.{driver}
use Rattle.circuit_model.specs.Runs.{latch_outputs}
use Rattle.circuit_model.specs.Counts.{is_literal, literals_of_row, literals_of_table}
use Rattle.circuit_model.specs.Soundness.{given, control_of, names_of, outputs_of, IsSound, IsShaped}
use Rattle.circuit_model.specs.declared.circuit.Tri.{Tri}
use Rattle.circuit_model.specs.declared.circuit.Table.{Table}
use Rattle.circuit_model.specs.declared.circuit.Circuit.{Circuit}
use Rattle.net_core.specs.declared.places.Entry.{Entry}
use Rattle.net_core.specs.declared.table.CoverTable.{CoverTable}
use Rattle.net_core.specs.Tables.{character_of, characters_of, named}
use Rattle.net_core.specs.Places.{present}
use Rattle.net_core.specs.Reads.{readers_of, IsBounded, HasBounds}
use Rattle.net_core.specs.Fresh.{used_names, IsNewName}
use Rattle.net_core.proofs.Lookups.{has-append}
use Rattle.net_core.proofs.Indexing.{present_more}

counted : Tri → ℕ
counted t = cond {A = ℕ} (is_literal t) 1 0

-- a row has as many literals as its characters
pub literals_same : (row : List (Option Bool)) → literals_of_row (characters_of row) ≡ row_literals row
unfolding literals_of_row row_literals counted
literals_same [] = refl
literals_same (None ∷ row) = sum_by-cons counted (character_of None) (characters_of row) ∙ ap (λ (n : ℕ). 0 + n) (literals_same row)
literals_same (Some true ∷ row) = sum_by-cons counted (character_of (Some true)) (characters_of row) ∙ ap (λ (n : ℕ). 1 + n) (literals_same row)
literals_same (Some false ∷ row) = sum_by-cons counted (character_of (Some false)) (characters_of row) ∙ ap (λ (n : ℕ). 1 + n) (literals_same row)

-- at most one literal a column
pub literals_few : (row : List (Option Bool)) → row_literals row ≤ length row
unfolding row_literals
literals_few [] = omega arith
literals_few (None ∷ row) = omega (arith, literals_few row)
literals_few (Some bit ∷ row) = omega (arith, literals_few row)

-- what holds of each table holds of the driver of a signal
pub driver_has : (P : Table → Type 0) (tables : List Table) (q : List ℕ) (t : Table) → AllByRecursion P tables → driver tables q ≡ Some t → P t
unfolding driver
driver_has P [] q t h e = absurd cc
driver_has P (first ∷ tables) q t h e = cases (bytes_eq q first.output) e (λ k. driver_has P tables q t h.1 k)
  where
    cases : (b : Bool) → cond b (Some first) (find (λ (table : Table). bytes_eq q table.output) tables) ≡ Some t → (find (λ (table : Table). bytes_eq q table.output) tables ≡ Some t → P t) → P t
    cases true k rest = subst (λ (x : Table). P x) (same_Some first t k) h.0
    cases false k rest = rest k

module _ {R : Type 0} where
  -- a sum over the tables in slots, and a bound on it
  pub sum_slots : (f : Table → ℕ) (bound : ℕ) (slots : List (Option (Entry R))) (i : ℕ) (x : Option (Entry R)) (total here : ℕ) → i < length slots → x ≡ get_or slots i x
      → (total ≡ sum_by f (present (take i slots))) × (total ≤ length (present (take i slots)) * bound) → here ≡ sum_by f (present (x ∷ [])) → here ≤ length (present (x ∷ [])) * bound
      → (total + here ≡ sum_by f (present (take (i + 1) slots))) × (total + here ≤ length (present (take (i + 1) slots)) * bound)
  sum_slots f bound slots i x total here lt e h a b =
      let parts : present (take (i + 1) slots) ≡ present (take i slots) ++ present (x ∷ []) = present_more slots i x lt e in
      let sums : sum_by f (present (take (i + 1) slots)) ≡ sum_by f (present (take i slots)) + sum_by f (present (x ∷ [])) = ap (sum_by f) parts ∙ sum_by-append f (present (take i slots)) (present (x ∷ [])) in
      let lengths : length (present (take (i + 1) slots)) ≡ length (present (take i slots)) + length (present (x ∷ [])) = ap length parts ∙ length-append (present (take i slots)) (present (x ∷ [])) in
      let product : length (present (take (i + 1) slots)) * bound ≡ (length (present (take i slots)) + length (present (x ∷ []))) * bound = ap (λ n. n * bound) lengths in
      (omega (arith, h.0, a, sums), omega (arith, h.1, b, product))

  present_front : (slots : List (Option (Entry R))) (n : ℕ) → length (present (take n slots)) ≤ length (present slots)
  unfolding present
  present_front [] zero = omega arith
  present_front [] (suc n) = omega arith
  present_front (x ∷ slots) zero = omega arith
  present_front (None ∷ slots) (suc n) = present_front slots n
  present_front (Some e ∷ slots) (suc n) = omega (arith, present_front slots n)

  pub fewer_present : (slots : List (Option (Entry R))) → length (present slots) ≤ length slots
  unfolding present
  fewer_present [] = omega arith
  fewer_present (None ∷ slots) = omega (arith, fewer_present slots)
  fewer_present (Some e ∷ slots) = omega (arith, fewer_present slots)

  -- a sum that is bounded at each table fits
  pub sum_small : (slots : List (Option (Entry R))) (n bound total : ℕ) → total ≤ length (present (take n slots)) * bound → length (present slots) < 2 ^ 29 → total ≤ 2 ^ 29 * bound
  sum_small slots n bound total h k =
      let few : length (present (take n slots)) ≤ 2 ^ 29 = omega (arith, present_front slots n, k) in
      omega (arith, h, mul-le (length (present (take n slots))) bound (2 ^ 29) bound few (omega arith))

  pub all_present_at : (P : Table → Type 0) (slots : List (Option (Entry R))) (i : ℕ) (x : Option (Entry R)) → AllByRecursion P (present slots) → i < length slots → x ≡ get_or slots i x → AllByRecursion P (present (x ∷ []))
  unfolding present
  all_present_at P [] i x h lt e = absurd (omega arith)
  all_present_at P (y ∷ slots) zero x h lt e = subst (λ (z : Option (Entry R)). AllByRecursion P (present (z ∷ []))) (sym e) (first y h)
    where
      first : (y : Option (Entry R)) → AllByRecursion P (present (y ∷ slots)) → AllByRecursion P (present (y ∷ []))
      first None k = tt
      first (Some t) k = (k.0, tt)
  all_present_at P (None ∷ slots) (suc i) x h lt e = all_present_at P slots i x h (omega arith) e
  all_present_at P (Some t ∷ slots) (suc i) x h lt e = all_present_at P slots i x h.1 (omega arith) e

  pub few_rows_of : (e : Entry R) → AllByRecursion IsBounded (present (Some e ∷ [])) → length e.table.cover.rows < 2 ^ 33
  unfolding present named
  few_rows_of e h = omega (arith, h.0.rows, length-map e.table.cover.rows characters_of)

  pub few_rows_named : (q : List ℕ) (t : CoverTable R) → IsBounded (named q t) → length t.cover.rows < 2 ^ 33
  unfolding named
  few_rows_named q t h = omega (arith, h.rows, length-map t.cover.rows characters_of)

  pub one_present : (e : Entry R) (n bound : ℕ) → n ≤ bound → n ≤ length (present (Some e ∷ [])) * bound
  unfolding present
  one_present e n bound h = omega (arith, h)

rows_bound : (w : ℕ) (rows : List (List Tri)) → AllByRecursion (λ (row : List Tri). length row ≡ w) rows → sum_by literals_of_row rows ≤ length rows * w
unfolding literals_of_row
rows_bound w [] h = omega arith
rows_bound w (row ∷ rows) h =
    let tail : sum_by literals_of_row rows ≤ length rows * w = rows_bound w rows h.1 in
    omega (arith, sum_by-cons literals_of_row row rows, count_by-le-length is_literal row, h.0, tail)

pub literals_bound : (c : Circuit) (q : List ℕ) (t : Table) → IsSound c → HasBounds c → driver c.tables q ≡ Some t → literals_of_table t ≤ 2 ^ 63
unfolding literals_of_table
literals_bound c q t h b e =
    let shaped : IsShaped t = driver_has IsShaped c.tables q t h.shaped e in
    let small : IsBounded t = driver_has IsBounded c.tables q t b.tables e in
    omega (arith, rows_bound (length t.inputs) t.rows shaped.0, mul-le (length t.rows) (length t.inputs) (2 ^ 33) (2 ^ 30) (omega (arith, small.rows)) (omega (arith, small.inputs)))

-- the fanouts among the tables before and after
pub readers-append : (xs ys : List Table) (q : List ℕ) → readers_of (xs ++ ys) q ≡ readers_of xs q ++ readers_of ys q
unfolding readers_of
readers-append xs ys q =
    ap (map (λ (t : Table). t.output)) (filter-append (λ (t : Table). has t.inputs q) xs ys)
    ∙ map-append (λ (t : Table). t.output) (filter (λ (t : Table). has t.inputs q) xs) (filter (λ (t : Table). has t.inputs q) ys)

-- where a name is used
used_is : (c : Circuit) (q : List ℕ) → has (used_names c) q
    ≡ ((has c.inputs q || (has (latch_outputs c) q || has (outputs_of c.tables) q)) || (has c.outputs q || (has c.clocks q || (has (control_of c.timing) q || has (names_of c.dont_care) q))))
unfolding used_names given
used_is c q =
    let rest : List (List ℕ) = c.outputs ++ (c.clocks ++ (control_of c.timing ++ names_of c.dont_care)) in
    rw (
      has-append (c.inputs ++ (latch_outputs c ++ outputs_of c.tables)) rest q,
      has-append c.inputs (latch_outputs c ++ outputs_of c.tables) q,
      has-append (latch_outputs c) (outputs_of c.tables) q,
      has-append c.outputs (c.clocks ++ (control_of c.timing ++ names_of c.dont_care)) q,
      has-append c.clocks (control_of c.timing ++ names_of c.dont_care) q,
      has-append (control_of c.timing) (names_of c.dont_care) q,
    ) refl

any_third : (a b t d : Bool) → t ≡ true → ((a || (b || t)) || d) ≡ true
any_third true b t d h = refl
any_third false true t d h = refl
any_third false false t d h = rw h refl

any_six : (a b t d e f g : Bool) → t ≡ false → ((a || (b || t)) || (d || (e || (f || g)))) ≡ (((((a || b) || d) || e) || f) || g)
any_six true b t d e f g h = refl
any_six false true t d e f g h = refl
any_six false false t true e f g h = rw h refl
any_six false false t false true f g h = rw h refl
any_six false false t false false true g h = rw h refl
any_six false false t false false false g h = rw h refl

pub used_by_table : (c : Circuit) (q : List ℕ) → has (outputs_of c.tables) q ≡ true → has (used_names c) q ≡ true
used_by_table c q h = used_is c q ∙ any_third (has c.inputs q) (has (latch_outputs c) q) (has (outputs_of c.tables) q) (has c.outputs q || (has c.clocks q || (has (control_of c.timing) q || has (names_of c.dont_care) q))) h

pub used_else : (c : Circuit) (q : List ℕ) → has (outputs_of c.tables) q ≡ false
    → has (used_names c) q ≡ (((((has c.inputs q || has (latch_outputs c) q) || has c.outputs q) || has c.clocks q) || has (control_of c.timing) q) || has (names_of c.dont_care) q)
used_else c q h = used_is c q ∙ any_six (has c.inputs q) (has (latch_outputs c) q) (has (outputs_of c.tables) q) (has c.outputs q) (has c.clocks q) (has (control_of c.timing) q) (has (names_of c.dont_care) q) h

-- a new name is no table's
pub new_is_no_table : (c : Circuit) (q : List ℕ) → IsNewName c q → has (outputs_of c.tables) q ≡ false
new_is_no_table c q h = cases (has (outputs_of c.tables) q) refl
  where
    cases : (b : Bool) → has (outputs_of c.tables) q ≡ b → has (outputs_of c.tables) q ≡ false
    cases true e = let x : true ≡ false = sym (used_by_table c q e) ∙ (ap (has (used_names c)) h.is ∙ h.free) in absurd cc
    cases false e = e
