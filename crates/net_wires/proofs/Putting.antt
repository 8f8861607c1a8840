-- Names added to a set, one by one.
use Rattle.std.proofs.Common.{◌≡◌, ℕ, ◌+◌, ◌<◌, Bool, true, false, not, ◌&&◌, ◌||◌, List, [], ◌∷◌, ◌++◌, take, length, get_or, bytes_eq, if◌then◌else◌, refl, sym, ap, ◌∙◌}
use Rattle.std.proofs.lemmas.List.{take_more, map-append}
use Rattle.std.proofs.lemmas.Grind.{flat_map-append}
use Rattle.std.proofs.Math.Bool.{or-false}
use Rattle.circuit_model.specs.Names.{has}
use Rattle.circuit_model.specs.Soundness.{outputs_of, table_inputs}
use Rattle.circuit_model.specs.declared.circuit.Table.{Table}
use Rattle.circuit_model.specs.declared.circuit.Circuit.{Circuit}
use Rattle.net_wires.specs.Needed.{dont_care_reads}
use Rattle.circuit_laws.proofs.Names.{same_name, has_append}
use Rattle.circuit_tables.specs.Listing.{names_with}
use Rattle.circuit_tables.proofs.Once.{has-names_with}

-- one name more
one : (names : List (List ℕ)) (x q : List ℕ) → has (if has names x then names else names ++ x ∷ []) q ≡ (has names q || bytes_eq q x)
unfolding names_with
one names x q = has-names_with names (x ∷ []) q ∙ ap (λ (b : Bool). has names q || b) (or-false (bytes_eq q x))

pub has_put : (known new : List (List ℕ)) (name seen : List ℕ) → seen ≡ name → new ≡ (if has known seen then known else known ++ seen ∷ [])
    → (other : List ℕ) → has new other ≡ (has known other || bytes_eq other name)
has_put known new name seen s n other =
    ap (λ (names : List (List ℕ)). has names other) n
    ∙ (one known seen other ∙ ap (λ (x : List ℕ). has known other || bytes_eq other x) s)

-- what is among the first items, with one item more
pub more_names : (names : List (List ℕ)) (i : ℕ) (name other : List ℕ) → i < length names → name ≡ get_or names i name → has (take (i + 1) names) other ≡ (has (take i names) other || bytes_eq other name)
more_names names i name other lt is =
    ap (λ (xs : List (List ℕ)). has xs other) (take_more names i name lt)
    ∙ (has_append (take i names) (get_or names i name ∷ []) other
    ∙ ap (λ (b : Bool). has (take i names) other || b) (or-false (bytes_eq other (get_or names i name)) ∙ ap (bytes_eq other) (sym is)))

pub more_outputs : (tables : List Table) (i : ℕ) (table : Table) (other : List ℕ) → i < length tables → table ≡ get_or tables i table
    → has (outputs_of (take (i + 1) tables)) other ≡ (has (outputs_of (take i tables)) other || bytes_eq other table.output)
more_outputs tables i table other lt is =
    ap (λ (ts : List Table). has (outputs_of ts) other) (take_more tables i table lt)
    ∙ (ap (λ (xs : List (List ℕ)). has xs other) (map-append (λ (t : Table). t.output) (take i tables) (get_or tables i table ∷ []))
    ∙ (has_append (outputs_of (take i tables)) ((get_or tables i table).output ∷ []) other
    ∙ ap (λ (b : Bool). has (outputs_of (take i tables)) other || b) (or-false (bytes_eq other (get_or tables i table).output) ∙ ap (λ (t : Table). bytes_eq other t.output) (sym is))))

pub more_inputs : (tables : List Table) (i : ℕ) (table : Table) (other : List ℕ) → i < length tables → table ≡ get_or tables i table
    → has (table_inputs (take (i + 1) tables)) other ≡ (has (table_inputs (take i tables)) other || has table.inputs other)
more_inputs tables i table other lt is =
    ap (λ (ts : List Table). has (table_inputs ts) other) (take_more tables i table lt)
    ∙ (ap (λ (xs : List (List ℕ)). has xs other) (flat_map-append (λ (t : Table). t.inputs) (take i tables) (get_or tables i table ∷ []))
    ∙ (has_append (table_inputs (take i tables)) (table_inputs (get_or tables i table ∷ [])) other
    ∙ ap (λ (b : Bool). has (table_inputs (take i tables)) other || b)
    (has_append (get_or tables i table).inputs [] other ∙ (or-false (has (get_or tables i table).inputs other) ∙ ap (λ (t : Table). has t.inputs other) (sym is)))))

-- a name that is wanted or not, where it depends on the name alone
pub more_wanted : (wanted : List ℕ → Bool) (before front now : Bool) (name other : List ℕ) → now ≡ ((before || (wanted other && front)) || (wanted name && bytes_eq other name))
    → now ≡ (before || (wanted other && (front || bytes_eq other name)))
more_wanted wanted before front now name other h = h ∙ cases (bytes_eq other name) refl
  where
    late : (a b c : Bool) → ((a || (b && c)) || (b && true)) ≡ (a || (b && (c || true)))
    late true b c = refl
    late false true true = refl
    late false true false = refl
    late false false c = refl

    early : (a b c d : Bool) → ((a || (b && c)) || (d && false)) ≡ (a || (b && (c || false)))
    early true b c d = refl
    early false true true d = refl
    early false true false true = refl
    early false true false false = refl
    early false false c true = refl
    early false false c false = refl

    cases : (e : Bool) → bytes_eq other name ≡ e → ((before || (wanted other && front)) || (wanted name && e)) ≡ (before || (wanted other && (front || e)))
    cases true e = ap (λ (x : List ℕ). (before || (wanted other && front)) || (wanted x && true)) (sym (same_name other name e)) ∙ late before (wanted other) front
    cases false e = early before (wanted other) front (wanted name)

pub undriven_more : (driven more old now new : List (List ℕ)) (i : ℕ) (item : List ℕ) (is_driven : Bool) → i < length more → item ≡ get_or more i item → is_driven ≡ has driven item
    → ((other : List ℕ) → has now other ≡ (has old other || (not (has driven other) && has (take i more) other)))
    → ((other : List ℕ) → has new other ≡ (has now other || (not is_driven && bytes_eq other item)))
    → (other : List ℕ) → has new other ≡ (has old other || (not (has driven other) && has (take (i + 1) more) other))
undriven_more driven more old now new i item is_driven lt is d before put other =
    more_wanted (λ (name : List ℕ). not (has driven name)) (has old other) (has (take i more) other) (has new other) item other
    (put other ∙ (ap (λ (b : Bool). b || (not is_driven && bytes_eq other item)) (before other)
    ∙ ap (λ (b : Bool). (has old other || (not (has driven other) && has (take i more) other)) || (not b && bytes_eq other item)) d))
    ∙ ap (λ (b : Bool). has old other || (not (has driven other) && b)) (sym (more_names more i item other lt is))

pub spread : (a b c : Bool) → ((a && b) || (a && c)) ≡ (a && (b || c))
spread true b c = refl
spread false b c = refl

-- names with what a table or a latch reads
pub nothing_read : (known more : List (List ℕ)) → more ≡ [] → known ≡ names_with known more
unfolding names_with
nothing_read known more h = rw h refl

pub one_read : (known new more : List (List ℕ)) (name seen : List ℕ) → seen ≡ name → more ≡ name ∷ [] → new ≡ (if has known seen then known else known ++ seen ∷ []) → new ≡ names_with known more
unfolding names_with
one_read known new more name seen s m n = rw m (n ∙ ap (λ (x : List ℕ). if has known x then known else known ++ x ∷ []) s)

-- what is needed at once
pub roots_are : (circuit : Circuit) (read keys outputs : List (List ℕ)) → outputs ≡ circuit.outputs → ((name : List ℕ) → has read name ≡ dont_care_reads circuit name) → keys ≡ names_with read outputs
    → (name : List ℕ) → has keys name ≡ (has circuit.outputs name || dont_care_reads circuit name)
roots_are circuit read keys outputs o r k name =
    ap (λ (names : List (List ℕ)). has names name) k
    ∙ (has-names_with read outputs name
    ∙ (ap (λ (b : Bool). b || has outputs name) (r name)
    ∙ (ap (λ (names : List (List ℕ)). dont_care_reads circuit name || has names name) o ∙ turned (dont_care_reads circuit name) (has circuit.outputs name))))
  where
    turned : (a b : Bool) → (a || b) ≡ (b || a)
    turned true true = refl
    turned true false = refl
    turned false true = refl
    turned false false = refl
