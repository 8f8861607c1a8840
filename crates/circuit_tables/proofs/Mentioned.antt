-- What holds of all names that tables mention holds of all names that the folded tables mention.
use Rattle.std.specs.Prelude.{◌≡◌, ℕ, Bool, true, false, ◌||◌, List, [], ◌∷◌, ◌++◌, map, bytes_eq}
use Rattle.std.specs.List.{AllByRecursion}
use Rattle.std.proofs.Common.{refl, sym, subst}
use Rattle.circuit_model.specs.Names.{has}
use Rattle.circuit_model.specs.Soundness.{table_inputs, names_of}
use Rattle.circuit_model.specs.declared.circuit.Table.{Table}
use Rattle.circuit_tables.specs.Folding.{folded}
use Rattle.circuit_tables.proofs.Once.{same_name, itself}
use Rattle.circuit_tables.proofs.Folded.{folded_reads, folded_output}

-- a name among some of which all a property holds
has_one : (P : List ℕ → Type 0) (names : List (List ℕ)) (name : List ℕ) → AllByRecursion P names → has names name ≡ true → P name
has_one P [] name all h = absurd (let no : false ≡ true = h in cc)
has_one P (first ∷ names) name all h = by (bytes_eq name first) refl h (λ k. has_one P names name all.1 k)
  where
    by : (t : Bool) → bytes_eq name first ≡ t → (t || has names name) ≡ true → (has names name ≡ true → P name) → P name
    by true e k rest = subst P (sym (same_name name first e)) all.0
    by false e k rest = rest k

has_all : (P : List ℕ → Type 0) (names : List (List ℕ)) → ((name : List ℕ) → has names name ≡ true → P name) → AllByRecursion P names
has_all P [] h = tt
has_all P (first ∷ names) h = (h first here, has_all P names (λ name k. h name (later (bytes_eq name first) name k)))
  where
    here : has (first ∷ names) first ≡ true
    here = rw (itself first) refl

    later : (t : Bool) (name : List ℕ) → has names name ≡ true → (t || has names name) ≡ true
    later true name k = refl
    later false name k = k

pub folded_inputs_all : (P : List ℕ → Type 0) (table : Table) → AllByRecursion P table.inputs → AllByRecursion P (folded table).inputs
folded_inputs_all P table all = has_all P (folded table).inputs (λ name h. has_one P table.inputs name all (folded_reads table name h))

both : (P : List ℕ → Type 0) (a b : List (List ℕ)) → AllByRecursion P a → AllByRecursion P b → AllByRecursion P (a ++ b)
both P [] b h k = k
both P (name ∷ a) b h k = (h.0, both P a b h.1 k)

front : (P : List ℕ → Type 0) (a b : List (List ℕ)) → AllByRecursion P (a ++ b) → AllByRecursion P a
front P [] b h = tt
front P (name ∷ a) b h = (h.0, front P a b h.1)

back : (P : List ℕ → Type 0) (a b : List (List ℕ)) → AllByRecursion P (a ++ b) → AllByRecursion P b
back P [] b h = h
back P (name ∷ a) b h = back P a b h.1

pub folded_reads_all : (P : List ℕ → Type 0) (tables : List Table) → AllByRecursion P (table_inputs tables) → AllByRecursion P (table_inputs (map folded tables))
folded_reads_all P [] all = tt
folded_reads_all P (table ∷ tables) all =
    both P (folded table).inputs (table_inputs (map folded tables))
    (folded_inputs_all P table (front P table.inputs (table_inputs tables) all))
    (folded_reads_all P tables (back P table.inputs (table_inputs tables) all))

pub folded_names_all : (P : List ℕ → Type 0) (tables : List Table) → AllByRecursion P (names_of tables) → AllByRecursion P (names_of (map folded tables))
folded_names_all P [] all = tt
folded_names_all P (table ∷ tables) all = (
  subst P (sym (folded_output table)) all.0,
  both P (folded table).inputs (names_of (map folded tables))
      (folded_inputs_all P table (front P table.inputs (names_of tables) all.1))
      (folded_names_all P tables (back P table.inputs (names_of tables) all.1)),
)
