-- Items found by their names, by index.
use Rattle.std.proofs.Common.{◌≡◌, ℕ, zero, suc, ◌+◌, ◌<◌, ◌≤◌, Bool, true, false, ◌||◌, cond, Option, Some, None, List, [], ◌∷◌, ◌++◌, map, find, flat_map, drop, length, get_or, slice_get, bytes_eq, if◌then◌else◌, refl, sym, ap, ◌∙◌, arith}
use Rattle.std.specs.Option.{option_map_or}
use Rattle.std.proofs.lemmas.List.{drop_more, drop_all, append-nil}
use Rattle.circuit_model.specs.Names.{has, all_different}
use Rattle.circuit_model.specs.Values.{driver}
use Rattle.circuit_model.specs.Soundness.{outputs_of}
use Rattle.circuit_model.specs.declared.circuit.Table.{Table}
use Rattle.circuit_model.specs.declared.circuit.Latch.{Latch}
use Rattle.circuit_laws.proofs.Names.{same_name, different_head, different_tail}
use Rattle.circuit_tables.proofs.Once.{bytes_eq-sym}
use Rattle.net_wires.specs.Places.{holder, item_at}
use Rattle.net_wires.specs.Reading.{read_by_tables, read_by_latches, held_by}

pub at_place : {X : Type 0} (items : List X) (i : ℕ) (item : X) → i < length items → item ≡ get_or items i item → slice_get items i ≡ Some item
at_place [] i item lt is = absurd (omega (arith, lt))
at_place (x ∷ items) zero item lt is = ap Some (sym is)
at_place (x ∷ items) (suc i) item lt is = at_place items i item (omega (arith, lt)) is

-- the search from an index on, by the item at that index
pub find_here : {X : Type 0} (test : X → Bool) (items : List X) (i : ℕ) (item : X) → i < length items → item ≡ get_or items i item
    → find test (drop i items) ≡ cond (test item) (Some item) (find test (drop (i + 1) items))
find_here test items i item lt is = rw (drop_more items i item lt, ← is) refl

pub find_done : {X : Type 0} (test : X → Bool) (items : List X) (i : ℕ) → length items ≤ i → find test (drop i items) ≡ None
find_done test items i le = rw (drop_all i items le) refl

-- the index of one more item is set, from the last item to the first
noted : {X : Type 0} (name_of : X → List ℕ) (items : List X) (i : ℕ) (item : X) (key : List ℕ) (old new : List ℕ → Option ℕ) → i < length items → item ≡ get_or items i item
    → key ≡ name_of item → ((other : List ℕ) → new other ≡ (if bytes_eq key other then Some i else old other))
    → ((name : List ℕ) → item_at items (old name) ≡ find (λ x. bytes_eq name (name_of x)) (drop (i + 1) items))
    → (name : List ℕ) → item_at items (new name) ≡ find (λ x. bytes_eq name (name_of x)) (drop i items)
noted {X} name_of items i item key old new lt is k n before name =
    ap (item_at items) (n name) ∙ (cases (bytes_eq key name) refl ∙ sym (find_here (λ x. bytes_eq name (name_of x)) items i item lt is))
  where
    test : bytes_eq name (name_of item) ≡ bytes_eq key name
    test = ap (bytes_eq name) (sym k) ∙ bytes_eq-sym name key

    cases : (b : Bool) → bytes_eq key name ≡ b
        → item_at items (if b then Some i else old name) ≡ cond (bytes_eq name (name_of item)) (Some item) (find (λ x. bytes_eq name (name_of x)) (drop (i + 1) items))
    cases true e = at_place items i item lt is ∙ sym (ap (λ (b : Bool). cond b (Some item) (find (λ x. bytes_eq name (name_of x)) (drop (i + 1) items))) (test ∙ e))
    cases false e = before name ∙ sym (ap (λ (b : Bool). cond b (Some item) (find (λ x. bytes_eq name (name_of x)) (drop (i + 1) items))) (test ∙ e))

pub noted_table : (tables : List Table) (i left : ℕ) (table : Table) (key : List ℕ) (old new : List ℕ → Option ℕ) → left ≡ i + 1 → i < length tables → table ≡ get_or tables i table
    → key ≡ table.output → ((other : List ℕ) → new other ≡ (if bytes_eq key other then Some i else old other))
    → ((name : List ℕ) → item_at tables (old name) ≡ driver (drop left tables) name) → (name : List ℕ) → item_at tables (new name) ≡ driver (drop i tables) name
unfolding driver
noted_table tables i left table key old new e lt is k n before name =
    noted (λ (t : Table). t.output) tables i table key old new lt is k n (λ other. before other ∙ ap (λ (l : ℕ). find (λ (t : Table). bytes_eq other t.output) (drop l tables)) e) name

pub noted_latch : (latches : List Latch) (i left : ℕ) (latch : Latch) (key : List ℕ) (old new : List ℕ → Option ℕ) → left ≡ i + 1 → i < length latches → latch ≡ get_or latches i latch
    → key ≡ latch.output → ((other : List ℕ) → new other ≡ (if bytes_eq key other then Some i else old other))
    → ((name : List ℕ) → item_at latches (old name) ≡ holder (drop left latches) name) → (name : List ℕ) → item_at latches (new name) ≡ holder (drop i latches) name
unfolding holder
noted_latch latches i left latch key old new e lt is k n before name =
    noted (λ (l : Latch). l.output) latches i latch key old new lt is k n (λ other. before other ∙ ap (λ (m : ℕ). find (λ (l : Latch). bytes_eq other l.output) (drop m latches)) e) name

-- after the last item nothing is found
pub no_table : (tables : List Table) (i : ℕ) (name : List ℕ) → length tables ≤ i → None ≡ driver (drop i tables) name
unfolding driver
no_table tables i name le = sym (find_done (λ (t : Table). bytes_eq name t.output) tables i le)

pub no_latch : (latches : List Latch) (i : ℕ) (name : List ℕ) → length latches ≤ i → None ≡ holder (drop i latches) name
unfolding holder
no_latch latches i name le = sym (find_done (λ (l : Latch). bytes_eq name l.output) latches i le)

-- where names are all different, what the items of a name have is what the first of them has
nothing : {X : Type 0} (name_of : X → List ℕ) (what : X → List (List ℕ)) (name : List ℕ) (items : List X) → has (map name_of items) name ≡ false
    → flat_map (λ x. if bytes_eq name (name_of x) then what x else []) items ≡ []
nothing name_of what name [] h = refl
nothing {X} name_of what name (item ∷ items) h = cases (bytes_eq name (name_of item)) h (nothing name_of what name items)
  where
    cases : (b : Bool) → (b || has (map name_of items) name) ≡ false → (has (map name_of items) name ≡ false → flat_map (λ x. if bytes_eq name (name_of x) then what x else []) items ≡ [])
        → (if b then what item else []) ++ flat_map (λ x. if bytes_eq name (name_of x) then what x else []) items ≡ []
    cases true k rest = let z : true ≡ false = k in absurd cc
    cases false k rest = rest k

first_alone : {X : Type 0} (name_of : X → List ℕ) (what : X → List (List ℕ)) (name : List ℕ) (items : List X) → all_different (map name_of items) ≡ true
    → flat_map (λ x. if bytes_eq name (name_of x) then what x else []) items ≡ option_map_or what (find (λ x. bytes_eq name (name_of x)) items) []
first_alone name_of what name [] h = refl
first_alone {X} name_of what name (item ∷ items) h = cases (bytes_eq name (name_of item)) refl (first_alone name_of what name items (different_tail (name_of item) (map name_of items) h))
  where
    cases : (b : Bool) → bytes_eq name (name_of item) ≡ b
        → flat_map (λ x. if bytes_eq name (name_of x) then what x else []) items ≡ option_map_or what (find (λ x. bytes_eq name (name_of x)) items) []
        → (if b then what item else []) ++ flat_map (λ x. if bytes_eq name (name_of x) then what x else []) items
        ≡ option_map_or what (if b then Some item else find (λ x. bytes_eq name (name_of x)) items) []
    cases true e rest =
        ap (λ (names : List (List ℕ)). what item ++ names)
        (nothing name_of what name items (ap (has (map name_of items)) (same_name name (name_of item) e) ∙ different_head (name_of item) (map name_of items) h))
        ∙ append-nil (what item)
    cases false e rest = rest

pub read_of_table : (tables : List Table) (name : List ℕ) (found : Option Table) → all_different (outputs_of tables) ≡ true → found ≡ driver tables name
    → read_by_tables name tables ≡ option_map_or (λ (table : Table). table.inputs) found []
unfolding read_by_tables driver
read_of_table tables name found h f = rw f (first_alone (λ (t : Table). t.output) (λ (t : Table). t.inputs) name tables h)

pub read_of_latch : (latches : List Latch) (name : List ℕ) (found : Option Latch) → all_different (held_by latches) ≡ true → found ≡ holder latches name
    → read_by_latches name latches ≡ option_map_or (λ (latch : Latch). latch.input ∷ []) found []
unfolding read_by_latches holder
read_of_latch latches name found h f = rw f (first_alone (λ (l : Latch). l.output) (λ (l : Latch). l.input ∷ []) name latches h)
