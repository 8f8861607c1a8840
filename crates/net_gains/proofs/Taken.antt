-- The names and the cubes that are kept after a table was added or changed.
use Rattle.std.proofs.Common.{◌≡◌, ℕ, Bool, true, false, ◌||◌, List, [], ◌∷◌, ◌++◌, map, bytes_eq, refl, sym, ap, ◌∙◌, subst, inl, inr}
use Rattle.std.specs.List.{AllByRecursion}
use Rattle.std.proofs.Math.ListN.{set}
use Rattle.std.proofs.lemmas.Bool.{or_left, or_right, false≢true}
use Rattle.std.proofs.lemmas.List.{map-append, map-set}
use Rattle.std.proofs.lemmas.Slice.Eq.{bytes_eq-Decides}
use Rattle.circuit_laws.proofs.Sound.{all_append}
use Rattle.circuit_model.specs.Names.{has}
use Rattle.circuit_model.specs.declared.circuit.Table.{Table}
use Rattle.net_candidates.specs.Candidates.{cubes_of}
use Rattle.cover_names.specs.Literals.{Cube}
use Rattle.cover_names.proofs.Members.{Has}
use Rattle.cover_names.proofs.Sorting.{sorted_has, sorted_keeps}
use Rattle.net_gains.specs.Codes.{in_order, are_coded}
use Rattle.net_gains.proofs.Coded.{coded_known}
use Rattle.alg_tables.proofs.Divided.{name_order}
use Rattle.net_gains.specs.Numbers.{tables_in, cubes_at, AreNumbers, IsCounted, IsKept}
use Rattle.net_gains.specs.declared.counted.Counted.{Counted}
use Rattle.net_gains.proofs.Decoded.{cubes_decoded}
use Rattle.net_gains.proofs.Numbered.{decided}
use Rattle.net_gains.proofs.Summed.{all_set}

-- ---- names in order are the same names

has_told : (names : List (List ℕ)) (name : List ℕ) → has names name ≡ true → Has name names
has_told [] name h = absurd (false≢true h)
has_told (first ∷ names) name h = cases (bytes_eq name first) refl h (has_told names name)
  where
    cases : (b : Bool) → bytes_eq name first ≡ b → (b || has names name) ≡ true → (has names name ≡ true → Has name names) → Has name (first ∷ names)
    cases true e k rest = inl ((bytes_eq-Decides name first).0 e)
    cases false e k rest = inr (rest k)

told_has : (names : List (List ℕ)) (name : List ℕ) → Has name names → has names name ≡ true
told_has [] name m = absurd m
told_has (first ∷ names) name m =
    elim m as (λ _. has (first ∷ names) name ≡ true) [
      | inl e ↦ or_left (bytes_eq name first) (has names name) ((bytes_eq-Decides name first).1 e)
      | inr n ↦ or_right (bytes_eq name first) (has names name) (told_has names name n)
    ]

pub has_in_order : (names : List (List ℕ)) (name : List ℕ) → has (in_order names) name ≡ has names name
has_in_order names name =
    decided (has (in_order names) name) (has names name) (λ h. told_has names name (sorted_has name_order names name (has_told (in_order names) name h)))
    (λ h. told_has (in_order names) name (sorted_keeps name_order names name (has_told names name h)))

-- ---- tables that were added or changed

module _ (names : List (List ℕ)) (old taken new : Counted) (is : IsKept names old) (moved : taken ≡ old) (counted : IsCounted new) (table : Table) (cubes : List (List ℕ)) (are : AreNumbers names table cubes) where
  cubes_coded : are_coded names cubes ≡ true
  cubes_coded = ap (are_coded names) are.are ∙ coded_known names (cubes_of table) are.known

  cubes_back : cubes_at names cubes ≡ cubes_of table
  cubes_back = ap (cubes_at names) are.are ∙ cubes_decoded names (cubes_of table) are.known

  module _ (more : tables_in new.tables.items ≡ tables_in taken.tables.items ++ cubes ∷ []) where
    came : tables_in new.tables.items ≡ tables_in old.tables.items ++ cubes ∷ []
    came = more ∙ ap (λ (c : Counted). tables_in c.tables.items ++ cubes ∷ []) moved

    pub kept_more : IsKept names new
    kept_more = record {
      sums = counted;
      known = subst (AllByRecursion (λ (xs : List (List ℕ)). are_coded names xs ≡ true)) (sym came)
          (all_append (λ (xs : List (List ℕ)). are_coded names xs ≡ true) (tables_in old.tables.items) (cubes ∷ []) is.known (cubes_coded, tt));
    }

    pub cubes_more : map (cubes_at names) (tables_in new.tables.items) ≡ map (cubes_at names) (tables_in old.tables.items) ++ cubes_of table ∷ []
    cubes_more =
        ap (map (cubes_at names)) came
        ∙ map-append (cubes_at names) (tables_in old.tables.items) (cubes ∷ [])
        ∙ ap (λ (xs : List Cube). map (cubes_at names) (tables_in old.tables.items) ++ xs ∷ []) cubes_back

  module _ (place : ℕ) (changed : tables_in new.tables.items ≡ set (tables_in taken.tables.items) place cubes) where
    turned : tables_in new.tables.items ≡ set (tables_in old.tables.items) place cubes
    turned = changed ∙ ap (λ (c : Counted). set (tables_in c.tables.items) place cubes) moved

    pub kept_changed : IsKept names new
    kept_changed = record {
      sums = counted;
      known = subst (AllByRecursion (λ (xs : List (List ℕ)). are_coded names xs ≡ true)) (sym turned)
          (all_set (λ (xs : List (List ℕ)). are_coded names xs ≡ true) (tables_in old.tables.items) place cubes cubes_coded is.known);
    }

    pub cubes_changed : map (cubes_at names) (tables_in new.tables.items) ≡ set (map (cubes_at names) (tables_in old.tables.items)) place (cubes_of table)
    cubes_changed =
        ap (map (cubes_at names)) turned
        ∙ map-set (cubes_at names) (tables_in old.tables.items) place cubes
        ∙ ap (set (map (cubes_at names) (tables_in old.tables.items)) place) cubes_back
