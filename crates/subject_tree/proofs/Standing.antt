-- The signals that must stand, put among names from the last to the first.
use Rattle.std.proofs.Common.{◌≡◌, ℕ, ◌+◌, ◌≤◌, Bool, true, false, ◌&&◌, ◌||◌, if◌then◌else◌, List, [], ◌∷◌, ◌++◌, map, filter, length, drop, get_or, bytes_eq, refl, sym, ap, ◌∙◌, subst, arith}
use Rattle.std.proofs.lemmas.List.{drop_more}
use Rattle.circuit_model.specs.Names.{has}
use Rattle.circuit_model.specs.Soundness.{table_inputs}
use Rattle.circuit_model.specs.declared.circuit.Latch.{Latch}
use Rattle.circuit_model.specs.declared.circuit.Table.{Table}
use Rattle.circuit_model.specs.declared.circuit.Circuit.{Circuit}
use Rattle.circuit_laws.proofs.Names.{same_name, has_append}
use Rattle.subject_tree.specs.Forest.{is_outer}
use Rattle.subject_tree.specs.Tables.{is_constant}
use Rattle.subject_tree.proofs.Counting.{drop_all}

or_again : (a b : Bool) → (b ≡ true → a ≡ true) → a ≡ (a || b)
or_again true b h = refl
or_again false true h = h refl
or_again false false h = refl

or_later : (a r h : Bool) → ((a || r) || h) ≡ (a || (h || r))
or_later true r h = refl
or_later false true true = refl
or_later false true false = refl
or_later false false true = refl
or_later false false false = refl

or_nothing : (a : Bool) → a ≡ (a || false)
or_nothing true = refl
or_nothing false = refl

-- one name more
pub named_more : (old new : List (List ℕ)) (name copy : List ℕ) → copy ≡ name → new ≡ (if has old copy then old else old ++ copy ∷ []) → (signal : List ℕ) → has new signal ≡ (has old signal || bytes_eq signal name)
named_more old new name copy same put signal =
    subst (λ (n : List ℕ). has new signal ≡ (has old signal || bytes_eq signal n)) same (cases (has old copy) refl put)
  where
    cases : (b : Bool) → has old copy ≡ b → new ≡ (if b then old else old ++ copy ∷ []) → has new signal ≡ (has old signal || bytes_eq signal copy)
    cases true e is =
        ap (λ (names : List (List ℕ)). has names signal) is
        ∙ or_again (has old signal) (bytes_eq signal copy) (λ h. ap (has old) (same_name signal copy h) ∙ e)
    cases false e is =
        ap (λ (names : List (List ℕ)). has names signal) is
        ∙ (has_append old (copy ∷ []) signal ∙ ap (λ (b : Bool). has old signal || b) (sym (or_nothing (bytes_eq signal copy))))

-- whether a signal is among what items from a place on give, where each gives some test
abbrev pub any_from : {X : Type 0} → (X → Bool) → List X → Bool
any_from test [] = false
any_from test (x ∷ xs) = test x || any_from test xs

pub standing_begun : {X : Type 0} (test : X → Bool) (a : Bool) (xs : List X) → a ≡ (a || any_from test (drop (length xs) xs))
standing_begun {X} test a xs =
    or_nothing a ∙ ap (λ (ys : List X). a || any_from test ys) (sym (drop_all xs))

pub standing_more : {X : Type 0} (test : X → Bool) (a b c : Bool) (xs : List X) (k place : ℕ) (x : X) → k + 1 ≡ place → place ≤ length xs → x ≡ get_or xs k x → b ≡ (a || any_from test (drop place xs)) → c ≡ (b || test x)
    → c ≡ (a || any_from test (drop k xs))
standing_more {X} test a b c xs k place x next within is before step =
    let here : any_from test (drop k xs) ≡ (test x || any_from test (drop place xs)) =
    ap (any_from test) (drop_more xs k x (omega (arith, next, within)) ∙ ap (λ (y : X). y ∷ drop (k + 1) xs) (sym is)) ∙ ap (λ (p : ℕ). test x || any_from test (drop p xs)) next in
    step ∙ (ap (λ (d : Bool). d || test x) before ∙ (or_later a (any_from test (drop place xs)) (test x) ∙ ap (λ (d : Bool). a || d) (sym here)))

pub names_from : (signal : List ℕ) (names : List (List ℕ)) → any_from (bytes_eq signal) names ≡ has names signal
names_from signal [] = refl
names_from signal (name ∷ names) = ap (λ (b : Bool). bytes_eq signal name || b) (names_from signal names)

pub latches_from : (signal : List ℕ) (latches : List Latch) → any_from (λ (latch : Latch). bytes_eq signal latch.input) latches ≡ has (map (λ (latch : Latch). latch.input) latches) signal
latches_from signal [] = refl
latches_from signal (latch ∷ latches) = ap (λ (b : Bool). bytes_eq signal latch.input || b) (latches_from signal latches)

pub constants_from : (signal : List ℕ) (tables : List Table) → any_from (λ (table : Table). is_constant table && has table.inputs signal) tables ≡ has (table_inputs (filter is_constant tables)) signal
constants_from signal [] = refl
constants_from signal (table ∷ tables) = cases (is_constant table) refl (constants_from signal tables)
  where
    cases : (b : Bool) → is_constant table ≡ b → any_from (λ (t : Table). is_constant t && has t.inputs signal) tables ≡ has (table_inputs (filter is_constant tables)) signal
        → ((b && has table.inputs signal) || any_from (λ (t : Table). is_constant t && has t.inputs signal) tables) ≡ has (table_inputs (if b then table ∷ filter is_constant tables else filter is_constant tables)) signal
    cases true e rest =
        ap (λ (c : Bool). has table.inputs signal || c) rest ∙ sym (has_append table.inputs (table_inputs (filter is_constant tables)) signal)
    cases false e rest = rest

pub standing_all : (circuit : Circuit) (none first second third outputs : List (List ℕ)) (latches : List Latch) (tables : List Table) → none ≡ [] → outputs ≡ circuit.outputs → latches ≡ circuit.latches → tables ≡ circuit.tables
    → ((signal : List ℕ) → has first signal ≡ (has none signal || has outputs signal)) → ((signal : List ℕ) → has second signal ≡ (has first signal || has (map (λ (latch : Latch). latch.input) latches) signal))
    → ((signal : List ℕ) → has third signal ≡ (has second signal || has (table_inputs (filter is_constant tables)) signal)) → (signal : List ℕ) → has third signal ≡ is_outer circuit signal
unfolding is_outer
standing_all circuit none first second third outputs latches tables empty o l t p q r signal =
    r signal
    ∙ (ap (λ (b : Bool). b || has (table_inputs (filter is_constant tables)) signal)
    (q signal ∙ ap (λ (b : Bool). b || has (map (λ (latch : Latch). latch.input) latches) signal) (p signal ∙ ap (λ (names : List (List ℕ)). has names signal || has outputs signal) empty))
    ∙ (ap (λ (names : List (List ℕ)). (has names signal || has (map (λ (latch : Latch). latch.input) latches) signal) || has (table_inputs (filter is_constant tables)) signal) o
    ∙ (ap (λ (ls : List Latch). (has circuit.outputs signal || has (map (λ (latch : Latch). latch.input) ls) signal) || has (table_inputs (filter is_constant tables)) signal) l
    ∙ ap (λ (ts : List Table). (has circuit.outputs signal || has (map (λ (latch : Latch). latch.input) circuit.latches) signal) || has (table_inputs (filter is_constant ts)) signal) t)))
