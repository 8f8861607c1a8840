-- What the checks say if they find nothing, and conversely; crates above may cite these lemmas.
use Rattle.std.proofs.Common.{◌≡◌, ℕ, suc, Bool, true, false, not, ◌||◌, cond, if◌then◌else◌, Option, Some, None, option_map, List, [], ◌∷◌, ◌++◌, refl, sym, ap, ◌∙◌, append_assoc}
use Rattle.std.specs.Prelude.{bytes_eq, find}
use Rattle.std.specs.List.{AllByRecursion}
use Rattle.std.proofs.lemmas.Bool.{true≢false}
use Rattle.std.proofs.lemmas.List.{append-nil}
use Rattle.circuit_model.specs.Names.{has, all_different}
use Rattle.circuit_model.specs.Values.{driver}
use Rattle.circuit_model.specs.Soundness.{Leads, IsAcyclic}
use Rattle.circuit_model.specs.declared.circuit.Table.{Table}
use Rattle.circuit_checks.specs.NameChecks.{first_again, first_missing, first_listed_twice, is_twice}
use Rattle.circuit_checks.specs.Cycles.{is_on_cycle, first_on_cycle}
use Rattle.circuit_checks.proofs.Naming.{same_name, has_append, has_more, same_bytes}
use Rattle.circuit_checks.proofs.Counting.{different_from_count, count_from_different, first_different, rest_different}
use Rattle.circuit_checks.proofs.Driving.{on_cycle_by_places, led_by_steps}

pub some_none : {A : Type 0} (x : A) → Some x ≡ None → ⊥
some_none x e = cc

-- no name is repeated: all are different
different_push : (known : List (List ℕ)) (name : List ℕ) → all_different known ≡ true → has known name ≡ false → all_different (known ++ name ∷ []) ≡ true
unfolding all_different
different_push [] name d h = refl
different_push (first ∷ known) name d h =
    let here : has (known ++ name ∷ []) first ≡ false = has_more known name first
    ∙ neither (has known first) (bytes_eq first name) (first_different first known d) (same_bytes first name ∙ left (bytes_eq name first) (has known name) h) in
    rw here (different_push known name (rest_different first known d) (right (bytes_eq name first) (has known name) h))
  where
    neither : (a b : Bool) → a ≡ false → b ≡ false → (a || b) ≡ false
    neither true b e f = e
    neither false b e f = f

    left : (a b : Bool) → (a || b) ≡ false → a ≡ false
    left true b e = e
    left false b e = refl

    right : (a b : Bool) → (a || b) ≡ false → b ≡ false
    right true b e = absurd (true≢false e)
    right false b e = e

pub different_from_again : (known names : List (List ℕ)) → all_different known ≡ true → first_again known names ≡ None → all_different (known ++ names) ≡ true
unfolding first_again
different_from_again known [] d h = ap all_different (append-nil known) ∙ d
different_from_again known (name ∷ names) d h = cases (has known name) refl h (λ e. different_from_again (known ++ name ∷ []) names (different_push known name d e))
  where
    cases : (b : Bool) → has known name ≡ b → (if b then Some name else first_again (known ++ name ∷ []) names) ≡ None
        → (has known name ≡ false → first_again (known ++ name ∷ []) names ≡ None → all_different ((known ++ name ∷ []) ++ names) ≡ true)
        → all_different (known ++ name ∷ names) ≡ true
    cases true e h rec = absurd (some_none name h)
    cases false e h rec = ap all_different (sym (append_assoc known (name ∷ []) names)) ∙ rec e h

-- a name is not among those before it
pub apart_behind : (known : List (List ℕ)) (name : List ℕ) (names : List (List ℕ)) → all_different (known ++ name ∷ names) ≡ true → has known name ≡ false
apart_behind [] name names h = refl
apart_behind (first ∷ known) name names h =
    both (bytes_eq name first) (has known name)
    (same_bytes name first ∙ middle (has known first) (bytes_eq first name) (has names first) (sym (has_append known (name ∷ names) first) ∙ first_different first (known ++ name ∷ names) h))
    (apart_behind known name names (rest_different first (known ++ name ∷ names) h))
  where
    both : (a b : Bool) → a ≡ false → b ≡ false → (a || b) ≡ false
    both true b e f = e
    both false b e f = f

    middle : (a b c : Bool) → (a || (b || c)) ≡ false → b ≡ false
    middle true b c e = absurd (true≢false e)
    middle false true c e = e
    middle false false c e = refl

pub again_from_different : (known names : List (List ℕ)) → all_different (known ++ names) ≡ true → first_again known names ≡ None
unfolding first_again
again_from_different known [] h = refl
again_from_different known (name ∷ names) h =
    rw (apart_behind known name names h)
    (again_from_different (known ++ name ∷ []) names (ap all_different (append_assoc known (name ∷ []) names) ∙ h))

-- no name is missing: each is known
pub known_from_missing : (known names : List (List ℕ)) → first_missing known names ≡ None → AllByRecursion (λ name. has known name ≡ true) names
unfolding first_missing
known_from_missing known [] h = tt
known_from_missing known (name ∷ names) h = cases (has known name) refl h (known_from_missing known names)
  where
    cases : (b : Bool) → has known name ≡ b → cond (not b) (Some name) (find (λ (name : List ℕ). not (has known name)) names) ≡ None
        → (find (λ (name : List ℕ). not (has known name)) names ≡ None → AllByRecursion (λ name. has known name ≡ true) names)
        → (has known name ≡ true) × AllByRecursion (λ name. has known name ≡ true) names
    cases true e h rec = (e, rec h)
    cases false e h rec = absurd (some_none name h)

pub missing_from_known : (known names : List (List ℕ)) → AllByRecursion (λ name. has known name ≡ true) names → first_missing known names ≡ None
unfolding first_missing
missing_from_known known [] h = refl
missing_from_known known (name ∷ names) h = rw h.0 (missing_from_known known names h.1)

-- no name is listed twice: each list has different names
none_found : (test : List ℕ → Bool) (names : List (List ℕ)) → find test names ≡ None → (query : List ℕ) → has names query ≡ true → test query ≡ false
none_found test [] h query m = absurd (true≢false (sym m))
none_found test (name ∷ names) h query m = cases (test name) (bytes_eq query name) refl refl h (λ n. none_found test names n query)
  where
    cases : (a b : Bool) → test name ≡ a → bytes_eq query name ≡ b → cond a (Some name) (find test names) ≡ None
        → (find test names ≡ None → has names query ≡ true → test query ≡ false) → test query ≡ false
    cases true b t e h rec = absurd (some_none name h)
    cases false true t e h rec = ap test (same_name query name e) ∙ t
    cases false false t e h rec = rec h (sym (ap (λ (c : Bool). c || has names query) e) ∙ m)

all_has : (others names : List (List ℕ)) → AllByRecursion (λ name. has others name ≡ true) names → (query : List ℕ) → has names query ≡ true → has others query ≡ true
all_has others [] all query m = absurd (true≢false (sym m))
all_has others (name ∷ names) all query m = cases (bytes_eq query name) refl (all_has others names all.1 query)
  where
    cases : (b : Bool) → bytes_eq query name ≡ b → (has names query ≡ true → has others query ≡ true) → has others query ≡ true
    cases true e rec = ap (λ (n : List ℕ). has others n) (same_name query name e) ∙ all.0
    cases false e rec = rec (sym (ap (λ (c : Bool). c || has names query) e) ∙ m)

pub or_first : (a b : Bool) → (a || b) ≡ false → a ≡ false
or_first true b e = e
or_first false b e = refl

pub or_second : (a b : Bool) → (a || b) ≡ false → b ≡ false
or_second true b e = absurd (true≢false e)
or_second false b e = e

pub inputs_from_listed : (inputs outputs in_order : List (List ℕ)) → AllByRecursion (λ name. has in_order name ≡ true) inputs → first_listed_twice inputs outputs in_order ≡ None → all_different inputs ≡ true
unfolding first_listed_twice
inputs_from_listed inputs outputs in_order all h =
    different_from_count inputs (λ query m.
    or_first (is_twice inputs query) (is_twice outputs query)
    (none_found (λ (name : List ℕ). is_twice inputs name || is_twice outputs name) in_order h query (all_has in_order inputs all query m)))

pub outputs_from_listed : (inputs outputs in_order : List (List ℕ)) → AllByRecursion (λ name. has in_order name ≡ true) outputs → first_listed_twice inputs outputs in_order ≡ None → all_different outputs ≡ true
unfolding first_listed_twice
outputs_from_listed inputs outputs in_order all h =
    different_from_count outputs (λ query m.
    or_second (is_twice inputs query) (is_twice outputs query)
    (none_found (λ (name : List ℕ). is_twice inputs name || is_twice outputs name) in_order h query (all_has in_order outputs all query m)))

pub listed_from_different : (inputs outputs in_order : List (List ℕ)) → all_different inputs ≡ true → all_different outputs ≡ true → first_listed_twice inputs outputs in_order ≡ None
unfolding first_listed_twice
listed_from_different inputs outputs [] i o = refl
listed_from_different inputs outputs (name ∷ names) i o =
    rw (count_from_different inputs i name, count_from_different outputs o name) (listed_from_different inputs outputs names i o)

pub all_front : (P : List ℕ → Type 0) (front back : List (List ℕ)) → AllByRecursion P (front ++ back) → AllByRecursion P front
all_front P [] back h = tt
all_front P (name ∷ front) back h = (h.0, all_front P front back h.1)

pub all_back : (P : List ℕ → Type 0) (front back : List (List ℕ)) → AllByRecursion P (front ++ back) → AllByRecursion P back
all_back P [] back h = h
all_back P (name ∷ front) back h = all_back P front back h.1

-- a signal is on a cycle exactly if it leads to itself
pub led_from_on_cycle : (tables : List Table) (signal : List ℕ) → is_on_cycle tables signal ≡ true → (steps : ℕ) × Leads tables (suc steps) signal signal
led_from_on_cycle tables signal h = led_by_steps tables signal h

pub on_cycle_from_led : (tables : List Table) (signal : List ℕ) (steps : ℕ) → Leads tables (suc steps) signal signal → is_on_cycle tables signal ≡ true
on_cycle_from_led tables signal steps h = on_cycle_by_places tables signal steps h

-- no table is on a cycle: no signal leads to itself
none_driving : (test : Table → Bool) (tables : List Table) (signal : List ℕ) (table : Table) → find test tables ≡ None → driver tables signal ≡ Some table
    → (test table ≡ false) × (signal ≡ table.output)
unfolding driver
none_driving test [] signal table h d = absurd (some_none table (sym d))
none_driving test (first ∷ tables) signal table h d = cases (test first) (bytes_eq signal first.output) refl refl h d (none_driving test tables signal table)
  where
    inside : {x y : Table} → Some x ≡ Some y → x ≡ y
    inside e = cc

    cases : (a b : Bool) → test first ≡ a → bytes_eq signal first.output ≡ b → cond a (Some first) (find test tables) ≡ None
        → cond b (Some first) (driver tables signal) ≡ Some table
        → (find test tables ≡ None → driver tables signal ≡ Some table → (test table ≡ false) × (signal ≡ table.output))
        → (test table ≡ false) × (signal ≡ table.output)
    cases true b t e h d rec = absurd (some_none first h)
    cases false true t e h d rec =
        let same : first ≡ table = inside d in
        (ap test (sym same) ∙ t, same_name signal first.output e ∙ ap (λ (one : Table). one.output) same)
    cases false false t e h d rec = rec h d

no_output : (o : Option Table) → option_map (λ (table : Table). table.output) o ≡ None → o ≡ None
no_output None e = refl
no_output (Some table) e = absurd (some_none table.output e)

pub acyclic_from_none : (tables : List Table) → first_on_cycle tables ≡ None → IsAcyclic tables
unfolding first_on_cycle IsAcyclic Leads
acyclic_from_none tables h signal steps (table, drives, next, reads, rest) =
    let (passes, same) = none_driving (λ (table : Table). is_on_cycle tables table.output) tables signal table (no_output (find (λ (table : Table). is_on_cycle tables table.output) tables) h) drives in
    true≢false (sym (on_cycle_from_led tables signal steps (table, drives, next, reads, rest)) ∙ ap (is_on_cycle tables) same ∙ passes)

none_passes : (test : Table → Bool) (tables : List Table) → ((table : Table) → test table ≡ true → ⊥) → find test tables ≡ None
none_passes test [] h = refl
none_passes test (table ∷ tables) h = cases (test table) refl (none_passes test tables h)
  where
    cases : (b : Bool) → test table ≡ b → find test tables ≡ None → cond b (Some table) (find test tables) ≡ None
    cases true e rec = absurd (h table e)
    cases false e rec = rec

pub none_from_acyclic : (tables : List Table) → IsAcyclic tables → first_on_cycle tables ≡ None
unfolding first_on_cycle IsAcyclic
none_from_acyclic tables h =
    ap (option_map (λ (table : Table). table.output))
    (none_passes (λ (table : Table). is_on_cycle tables table.output) tables
    (λ table e. let (steps, led) = led_from_on_cycle tables table.output e in h table.output steps led))
