-- What is needed is closed: as many steps as there are tables and latches suffice.
use Rattle.std.proofs.Common.{◌≡◌, ℕ, zero, suc, ◌+◌, ◌<◌, ◌≤◌, Bool, true, false, not, ◌&&◌, ◌||◌, if◌then◌else◌, List, [], ◌∷◌, ◌++◌, length, map, bytes_eq, refl, sym, ap₂, ◌∙◌, arith, inl, inr, ◌⊎◌}
use Rattle.std.specs.List.{AllByRecursion, list_any}
use Rattle.std.proofs.lemmas.Bool.{false≢true, and_from, or_left, or_right, not_from_false}
use Rattle.std.proofs.lemmas.List.{length-map}
use Rattle.std.proofs.Common.{length-append}
use Rattle.circuit_model.specs.Names.{has}
use Rattle.circuit_model.specs.Runs.{latch_outputs}
use Rattle.circuit_model.specs.Soundness.{outputs_of, table_inputs}
use Rattle.circuit_model.specs.declared.circuit.Table.{Table}
use Rattle.circuit_model.specs.declared.circuit.Latch.{Latch}
use Rattle.circuit_model.specs.declared.circuit.Circuit.{Circuit}
use Rattle.circuit_laws.specs.Kept.{IsClosed}
use Rattle.circuit_laws.proofs.Names.{all_from_has, name_itself}
use Rattle.circuit_laws.proofs.Sound.{all_parts}
use Rattle.net_wires.specs.Needed.{dont_care_reads, needed_within, is_needed}

-- how many names pass
unfoldable pub counted : (List ℕ → Bool) → List (List ℕ) → ℕ
counted test [] = 0
counted test (name ∷ names) = if test name then suc (counted test names) else counted test names

pub counted_small : (test : List ℕ → Bool) (names : List (List ℕ)) → counted test names ≤ length names
unfolding counted
counted_small test [] = omega arith
counted_small test (name ∷ names) = cases (test name) (counted_small test names)
  where
    cases : (t : Bool) → counted test names ≤ length names → (if t then suc (counted test names) else counted test names) ≤ suc (length names)
    cases true h = omega arith
    cases false h = omega arith

-- where all that pass pass another test, no more pass
pub counted_most : (p q : List ℕ → Bool) → ((name : List ℕ) → p name ≡ true → q name ≡ true) → (names : List (List ℕ)) → counted p names ≤ counted q names
unfolding counted
counted_most p q h [] = omega arith
counted_most p q h (first ∷ names) = by (p first) refl (q first) refl (counted_most p q h names)
  where
    by : (a : Bool) → p first ≡ a → (b : Bool) → q first ≡ b → counted p names ≤ counted q names
        → (if a then suc (counted p names) else counted p names) ≤ (if b then suc (counted q names) else counted q names)
    by true e true d k = omega arith
    by true e false d k = absurd (false≢true (sym d ∙ h first e))
    by false e true d k = omega arith
    by false e false d k = k

-- then the same ones pass, or fewer
pub agree_or_more : (p q : List ℕ → Bool) → ((name : List ℕ) → p name ≡ true → q name ≡ true) → (names : List (List ℕ))
    → AllByRecursion (λ name. q name ≡ p name) names ⊎ (counted p names < counted q names)
unfolding counted
agree_or_more p q h [] = inl tt
agree_or_more p q h (name ∷ names) = cases (p name) refl (q name) refl (agree_or_more p q h names) (counted_most p q h names)
  where
    cases : (a : Bool) → p name ≡ a → (b : Bool) → q name ≡ b → AllByRecursion (λ n. q n ≡ p n) names ⊎ (counted p names < counted q names) → counted p names ≤ counted q names
        → ((q name ≡ p name) × AllByRecursion (λ n. q n ≡ p n) names) ⊎ ((if a then suc (counted p names) else counted p names) < (if b then suc (counted q names) else counted q names))
    cases true e true d (inl same) k = inl (d ∙ sym e, same)
    cases true e true d (inr grown) k = inr (omega arith)
    cases true e false d rest k = absurd (false≢true (sym d ∙ h name e))
    cases false e true d rest k = inr (omega arith)
    cases false e false d (inl same) k = inl (d ∙ sym e, same)
    cases false e false d (inr grown) k = inr grown

-- sets of names that grow by what some of them are, stop growing
IsStable : (ℕ → List ℕ → Bool) → ℕ → Type 0
IsStable seen n = (name : List ℕ) → seen (suc n) name ≡ seen n name

abbrev Agrees : (ℕ → List ℕ → Bool) → List (List ℕ) → ℕ → Type 0
Agrees seen names n = AllByRecursion (λ name. seen (suc n) name ≡ seen n name) names

stable_or_more : (seen : ℕ → List ℕ → Bool) (names : List (List ℕ)) → ((n : ℕ) (name : List ℕ) → seen n name ≡ true → seen (suc n) name ≡ true)
    → (AllByRecursion (λ name. seen 0 name ≡ false) names → IsStable seen 0) → ((n : ℕ) → Agrees seen names n → IsStable seen (suc n))
    → (n : ℕ) → IsStable seen n ⊎ (n < counted (seen n) names)
unfolding counted IsStable
stable_or_more seen names grows start next zero = cases names (first names)
  where
    first : (some : List (List ℕ)) → AllByRecursion (λ name. seen 0 name ≡ false) some ⊎ (0 < counted (seen 0) some)
    first [] = inl tt
    first (name ∷ some) = by (seen 0 name) refl (first some)
      where
        by : (t : Bool) → seen 0 name ≡ t → AllByRecursion (λ other. seen 0 other ≡ false) some ⊎ (0 < counted (seen 0) some)
            → ((seen 0 name ≡ false) × AllByRecursion (λ other. seen 0 other ≡ false) some) ⊎ (0 < (if t then suc (counted (seen 0) some) else counted (seen 0) some))
        by true e rest = inr (omega arith)
        by false e (inl none) = inl (e, none)
        by false e (inr one) = inr one

    cases : (some : List (List ℕ)) → AllByRecursion (λ name. seen 0 name ≡ false) names ⊎ (0 < counted (seen 0) names) → IsStable seen 0 ⊎ (0 < counted (seen 0) names)
    cases some (inl none) = inl (start none)
    cases some (inr one) = inr one
stable_or_more seen names grows start next (suc n) =
    cases (stable_or_more seen names grows start next n) (agree_or_more (seen n) (seen (suc n)) (grows n) names)
  where
    all : (some : List (List ℕ)) → ((name : List ℕ) → seen (suc n) name ≡ seen n name) → Agrees seen some n
    all [] h = tt
    all (name ∷ some) h = (h name, all some h)

    cases : IsStable seen n ⊎ (n < counted (seen n) names) → Agrees seen names n ⊎ (counted (seen n) names < counted (seen (suc n)) names) → IsStable seen (suc n) ⊎ (suc n < counted (seen (suc n)) names)
    cases (inl stable) rest = inl (next n (all names stable))
    cases (inr many) (inl same) = inl (next n same)
    cases (inr many) (inr more) = inr (omega arith)

pub stable : (seen : ℕ → List ℕ → Bool) (names : List (List ℕ)) → ((n : ℕ) (name : List ℕ) → seen n name ≡ true → seen (suc n) name ≡ true)
    → (AllByRecursion (λ name. seen 0 name ≡ false) names → (name : List ℕ) → seen 1 name ≡ seen 0 name)
    → ((n : ℕ) → AllByRecursion (λ name. seen (suc n) name ≡ seen n name) names → (name : List ℕ) → seen (suc (suc n)) name ≡ seen (suc n) name)
    → (n : ℕ) → n ≡ length names → (name : List ℕ) → seen (suc n) name ≡ seen n name
unfolding IsStable
stable seen names grows start next n e =
    elim (stable_or_more seen names grows start next n) as (λ _. (name : List ℕ) → seen (suc n) name ≡ seen n name) [
      | inl still ↦ still
      | inr many ↦ let small : counted (seen n) names ≤ length names = counted_small (seen n) names in absurd (omega arith)
    ]

-- what is needed

unfoldable pub tables_reach : (List ℕ → Bool) → List ℕ → List Table → Bool
tables_reach test name tables = list_any (λ (table : Table). test table.output && has table.inputs name) tables

unfoldable pub latches_reach : (List ℕ → Bool) → List ℕ → List Latch → Bool
latches_reach test name latches = list_any (λ (latch : Latch). test latch.output && bytes_eq latch.input name) latches

pub within_more : (circuit : Circuit) (n : ℕ) (name : List ℕ)
    → needed_within circuit (suc n) name ≡ ((needed_within circuit n name || tables_reach (needed_within circuit n) name circuit.tables) || latches_reach (needed_within circuit n) name circuit.latches)
unfolding needed_within tables_reach latches_reach
within_more circuit n name = by (needed_within circuit n name) (list_any (λ (table : Table). needed_within circuit n table.output && has table.inputs name) circuit.tables)
    (list_any (λ (latch : Latch). needed_within circuit n latch.output && bytes_eq latch.input name) circuit.latches)
  where
    by : (a b c : Bool) → (a || b || c) ≡ ((a || b) || c)
    by true b c = refl
    by false b c = refl

reach_tables : (p q : List ℕ → Bool) (name : List ℕ) (tables : List Table) → AllByRecursion (λ other. p other ≡ q other) (outputs_of tables) → tables_reach p name tables ≡ tables_reach q name tables
unfolding tables_reach
reach_tables p q name [] h = refl
reach_tables p q name (table ∷ tables) h = rw (h.0, reach_tables p q name tables h.1) refl

reach_latches : (p q : List ℕ → Bool) (name : List ℕ) (latches : List Latch) → AllByRecursion (λ other. p other ≡ q other) (map (λ (latch : Latch). latch.output) latches) → latches_reach p name latches ≡ latches_reach q name latches
unfolding latches_reach
reach_latches p q name [] h = refl
reach_latches p q name (latch ∷ latches) h = rw (h.0, reach_latches p q name latches h.1) refl

none_tables : (p : List ℕ → Bool) (name : List ℕ) (tables : List Table) → AllByRecursion (λ other. p other ≡ false) (outputs_of tables) → tables_reach p name tables ≡ false
unfolding tables_reach
none_tables p name [] h = refl
none_tables p name (table ∷ tables) h = rw (h.0, none_tables p name tables h.1) refl

none_latches : (p : List ℕ → Bool) (name : List ℕ) (latches : List Latch) → AllByRecursion (λ other. p other ≡ false) (map (λ (latch : Latch). latch.output) latches) → latches_reach p name latches ≡ false
unfolding latches_reach
none_latches p name [] h = refl
none_latches p name (latch ∷ latches) h = rw (h.0, none_latches p name latches h.1) refl

abbrev signals_of : Circuit → List (List ℕ)
signals_of circuit = outputs_of circuit.tables ++ latch_outputs circuit

signals_count : (circuit : Circuit) → length circuit.tables + length circuit.latches ≡ length (signals_of circuit)
signals_count circuit =
    let whole : length (signals_of circuit) ≡ length (outputs_of circuit.tables) + length (latch_outputs circuit) = length-append (outputs_of circuit.tables) (latch_outputs circuit) in
    let tables : length (outputs_of circuit.tables) ≡ length circuit.tables = length-map circuit.tables (λ (table : Table). table.output) in
    let latches : length (latch_outputs circuit) ≡ length circuit.latches = length-map circuit.latches (λ (latch : Latch). latch.output) in
    omega arith

needed_stable : (circuit : Circuit) (name : List ℕ) → needed_within circuit (suc (length circuit.tables + length circuit.latches)) name ≡ needed_within circuit (length circuit.tables + length circuit.latches) name
needed_stable circuit =
    stable (needed_within circuit) (signals_of circuit)
    (λ n name h. within_more circuit n name ∙ grown (needed_within circuit n name) (tables_reach (needed_within circuit n) name circuit.tables) (latches_reach (needed_within circuit n) name circuit.latches) h)
    (λ none name.
    let parts = all_parts (λ other. needed_within circuit 0 other ≡ false) (outputs_of circuit.tables) (latch_outputs circuit) none in
    within_more circuit 0 name
    ∙ ap₂ (λ (b c : Bool). (needed_within circuit 0 name || b) || c) (none_tables (needed_within circuit 0) name circuit.tables parts.0) (none_latches (needed_within circuit 0) name circuit.latches parts.1)
    ∙ nothing (needed_within circuit 0 name))
    (λ n same name.
    let parts = all_parts (λ other. needed_within circuit (suc n) other ≡ needed_within circuit n other) (outputs_of circuit.tables) (latch_outputs circuit) same in
    within_more circuit (suc n) name
    ∙ ap₂ (λ (b c : Bool). (needed_within circuit (suc n) name || b) || c)
    (reach_tables (needed_within circuit (suc n)) (needed_within circuit n) name circuit.tables parts.0)
    (reach_latches (needed_within circuit (suc n)) (needed_within circuit n) name circuit.latches parts.1)
    ∙ absorbed (needed_within circuit (suc n) name) (needed_within circuit n name) (tables_reach (needed_within circuit n) name circuit.tables) (latches_reach (needed_within circuit n) name circuit.latches) (within_more circuit n name))
    (length circuit.tables + length circuit.latches) (signals_count circuit)
  where
    grown : (a b c : Bool) → a ≡ true → ((a || b) || c) ≡ true
    grown true b c e = refl
    grown false b c e = absurd (false≢true e)

    nothing : (a : Bool) → ((a || false) || false) ≡ a
    nothing true = refl
    nothing false = refl

    absorbed : (s a b c : Bool) → s ≡ ((a || b) || c) → ((s || b) || c) ≡ s
    absorbed true a b c e = refl
    absorbed false true b c e = absurd (false≢true e)
    absorbed false false true c e = absurd (false≢true e)
    absorbed false false false true e = absurd (false≢true e)
    absorbed false false false false e = refl

-- what is needed within some steps more is needed
pub needed_next : (circuit : Circuit) (name : List ℕ) → needed_within circuit (suc (length circuit.tables + length circuit.latches)) name ≡ true → is_needed circuit name ≡ true
unfolding is_needed
needed_next circuit name h = sym (needed_stable circuit name) ∙ h

-- outputs, and what the don't-care part reads, are needed at once
within_start : (circuit : Circuit) (name : List ℕ) → needed_within circuit 0 name ≡ true → (n : ℕ) → needed_within circuit n name ≡ true
within_start circuit name h zero = h
within_start circuit name h (suc n) = within_more circuit n name ∙ grown (needed_within circuit n name) (tables_reach (needed_within circuit n) name circuit.tables) (latches_reach (needed_within circuit n) name circuit.latches) (within_start circuit name h n)
  where
    grown : (a b c : Bool) → a ≡ true → ((a || b) || c) ≡ true
    grown true b c e = refl
    grown false b c e = absurd (false≢true e)

pub needed_start : (circuit : Circuit) (name : List ℕ) → (has circuit.outputs name || dont_care_reads circuit name) ≡ true → is_needed circuit name ≡ true
unfolding is_needed needed_within
needed_start circuit name h = within_start circuit name h (length circuit.tables + length circuit.latches)

by_tables : (circuit : Circuit) (tables : List Table)
    → ((name : List ℕ) → tables_reach (is_needed circuit) name tables ≡ true → is_needed circuit name ≡ true)
    → AllByRecursion (λ (table : Table). is_needed circuit table.output ≡ true → AllByRecursion (λ name. is_needed circuit name ≡ true) table.inputs) tables
unfolding tables_reach
by_tables circuit [] h = tt
by_tables circuit (table ∷ tables) h = (
  λ needs. all_from_has (λ name. is_needed circuit name ≡ true) table.inputs (λ name reads.
      h name (or_left (is_needed circuit table.output && has table.inputs name) (list_any (λ (other : Table). is_needed circuit other.output && has other.inputs name) tables)
      (and_from (is_needed circuit table.output) (has table.inputs name) needs reads))),
  by_tables circuit tables (λ name k. h name (or_right (is_needed circuit table.output && has table.inputs name) (list_any (λ (other : Table). is_needed circuit other.output && has other.inputs name) tables) k)),
)

by_latches : (circuit : Circuit) (latches : List Latch)
    → ((name : List ℕ) → latches_reach (is_needed circuit) name latches ≡ true → is_needed circuit name ≡ true)
    → AllByRecursion (λ (latch : Latch). is_needed circuit latch.output ≡ true → is_needed circuit latch.input ≡ true) latches
unfolding latches_reach
by_latches circuit [] h = tt
by_latches circuit (latch ∷ latches) h = (
  λ needs. h latch.input (or_left (is_needed circuit latch.output && bytes_eq latch.input latch.input) (list_any (λ (other : Latch). is_needed circuit other.output && bytes_eq other.input latch.input) latches)
      (and_from (is_needed circuit latch.output) (bytes_eq latch.input latch.input) needs (name_itself latch.input))),
  by_latches circuit latches (λ name k. h name (or_right (is_needed circuit latch.output && bytes_eq latch.input name) (list_any (λ (other : Latch). is_needed circuit other.output && bytes_eq other.input name) latches) k)),
)

pub needed_closed : (circuit : Circuit) → IsClosed circuit (is_needed circuit)
unfolding is_needed dont_care_reads
needed_closed circuit = record {
  outputs = all_from_has (λ name. is_needed circuit name ≡ true) circuit.outputs (λ name h. needed_start circuit name (or_left (has circuit.outputs name) (dont_care_reads circuit name) h));
  tables = by_tables circuit circuit.tables (λ name h. needed_next circuit name (within_more circuit (length circuit.tables + length circuit.latches) name
      ∙ middle (is_needed circuit name) (tables_reach (is_needed circuit) name circuit.tables) (latches_reach (is_needed circuit) name circuit.latches) h));
  latches = by_latches circuit circuit.latches (λ name h. needed_next circuit name (within_more circuit (length circuit.tables + length circuit.latches) name
      ∙ last (is_needed circuit name || tables_reach (is_needed circuit) name circuit.tables) (latches_reach (is_needed circuit) name circuit.latches) h));
  dont_care = all_from_has (λ name. (has (outputs_of circuit.dont_care) name ≡ true) ⊎ (is_needed circuit name ≡ true)) (table_inputs circuit.dont_care) (λ name reads.
      by name (has (outputs_of circuit.dont_care) name) refl reads);
}
  where
    middle : (a b c : Bool) → b ≡ true → ((a || b) || c) ≡ true
    middle true b c e = refl
    middle false true c e = refl
    middle false false c e = absurd (false≢true e)

    last : (a c : Bool) → c ≡ true → (a || c) ≡ true
    last a c e = or_right a c e

    by : (name : List ℕ) (t : Bool) → has (outputs_of circuit.dont_care) name ≡ t → has (table_inputs circuit.dont_care) name ≡ true → (has (outputs_of circuit.dont_care) name ≡ true) ⊎ (is_needed circuit name ≡ true)
    by name true e reads = inl e
    by name false e reads =
        inr (needed_start circuit name (or_right (has circuit.outputs name) (not (has (outputs_of circuit.dont_care) name) && has (table_inputs circuit.dont_care) name)
        (and_from (not (has (outputs_of circuit.dont_care) name)) (has (table_inputs circuit.dont_care) name) (not_from_false (has (outputs_of circuit.dont_care) name) e) reads)))
