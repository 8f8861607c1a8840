-- Names that are not among others, each once, found by a set that grows.
use Rattle.std.specs.Prelude.{◌≡◌, ℕ, ◌+◌, ◌<◌, ◌≤◌, Bool, true, false, not, ◌&&◌, ◌||◌, List, [], ◌∷◌, ◌++◌, length, drop, bytes_eq, if◌then◌else◌}
use Rattle.std.specs.List.{filter}
use Rattle.std.proofs.Common.{refl, sym, ◌∙◌, ap, get_or, append_assoc}
use Rattle.std.proofs.lemmas.List.{append-nil, drop_more, drop_all}
use Rattle.std.proofs.Math.Bool.{and_comm}
use Rattle.circuit_model.specs.Names.{has}
use Rattle.circuit_checks.specs.Sets.{with_name, Alike}
use Rattle.circuit_checks.proofs.Naming.{has_with}
use Rattle.circuit_tables.specs.Folding.{each_once}
use Rattle.circuit_tables.proofs.Once.{same_name, bytes_eq-sym, filter_twice}
use Rattle.blif_lines.specs.Reader.{names_beside}

-- the names that are not known, each once
unfoldable pub new_beside : List (List ℕ) → List (List ℕ) → List (List ℕ)
new_beside known [] = []
new_beside known (name ∷ names) = if has known name then new_beside known names else name ∷ new_beside (with_name known name) names

filter_same : (p q : List ℕ → Bool) → ((name : List ℕ) → p name ≡ q name) → (names : List (List ℕ)) → filter p names ≡ filter q names
filter_same p q h [] = refl
filter_same p q h (name ∷ names) = rw (h name, filter_same p q h names) refl

-- a name that does not pass makes no difference to those that do
dropped : (p : List ℕ → Bool) (name : List ℕ) → p name ≡ false → (other : List ℕ) → (not (bytes_eq name other) && p other) ≡ p other
dropped p name e other = by (bytes_eq name other) refl
  where
    by : (t : Bool) → bytes_eq name other ≡ t → (not t && p other) ≡ p other
    by true same = sym (ap p (sym (same_name name other same)) ∙ e)
    by false same = refl

-- some names once are once some names
pub once_filtered : (p : List ℕ → Bool) (names : List (List ℕ)) → filter p (each_once names) ≡ each_once (filter p names)
unfolding each_once
once_filtered p [] = refl
once_filtered p (name ∷ names) = by (p name) refl (once_filtered p names)
  where
    other : List ℕ → Bool
    other = λ one. not (bytes_eq name one)

    by : (t : Bool) → p name ≡ t → filter p (each_once names) ≡ each_once (filter p names)
        → (if t then name ∷ filter p (filter other (each_once names)) else filter p (filter other (each_once names))) ≡ each_once (if t then name ∷ filter p names else filter p names)
    by true e rest =
        ap (λ list. name ∷ list)
        (filter_twice p other (each_once names)
        ∙ filter_same (λ one. other one && p one) (λ one. p one && other one) (λ one. and_comm (other one) (p one)) (each_once names)
        ∙ sym (filter_twice other p (each_once names))
        ∙ ap (filter other) rest)
    by false e rest =
        filter_twice p other (each_once names)
        ∙ filter_same (λ one. other one && p one) p (dropped p name e) (each_once names)
        ∙ rest

pub new_beside_is : (known others names : List (List ℕ)) → Alike known others → new_beside known names ≡ names_beside others names
unfolding new_beside names_beside each_once
new_beside_is known others names alike = is known names ∙ ap each_once (filter_same (λ name. not (has known name)) (λ name. not (has others name)) (λ name. ap not (alike name)) names)
  where
    is : (set rest : List (List ℕ)) → new_beside set rest ≡ each_once (filter (λ name. not (has set name)) rest)
    is set [] = refl
    is set (name ∷ rest) = by (has set name) refl (is set rest) (is (with_name set name) rest)
      where
        new : (b : Bool) (one : List ℕ) → (not (b || bytes_eq one name)) ≡ (not b && not (bytes_eq name one))
        new true one = refl
        new false one = ap not (bytes_eq-sym one name)

        by : (t : Bool) → has set name ≡ t → new_beside set rest ≡ each_once (filter (λ one. not (has set one)) rest)
            → new_beside (with_name set name) rest ≡ each_once (filter (λ one. not (has (with_name set name) one)) rest)
            → (if t then new_beside set rest else name ∷ new_beside (with_name set name) rest) ≡ each_once (if not t then name ∷ filter (λ one. not (has set one)) rest else filter (λ one. not (has set one)) rest)
        by true e same more = same
        by false e same more =
            ap (λ list. name ∷ list)
            (more
            ∙ ap each_once (filter_same (λ one. not (has (with_name set name) one)) (λ one. not (has set one) && not (bytes_eq name one)) (λ one. ap not (has_with set name one) ∙ new (has set one) one) rest
            ∙ sym (filter_twice (λ one. not (bytes_eq name one)) (λ one. not (has set one)) rest))
            ∙ sym (once_filtered (λ one. not (bytes_eq name one)) (filter (λ one. not (has set one)) rest)))

-- the loop
pub beside_begins : (found known others names : List (List ℕ)) → found ≡ [] → Alike known others → found ++ new_beside known names ≡ names_beside others names
beside_begins found known others names none alike = ap (λ list. list ++ new_beside known names) none ∙ new_beside_is known others names alike

pub beside_goes_on : (found put known new all names : List (List ℕ)) (i : ℕ) (name : List ℕ) → i < length names → name ≡ get_or names i name → put ≡ (if has known name then found else found ++ name ∷ []) → new ≡ with_name known name
    → found ++ new_beside known (drop i names) ≡ all → put ++ new_beside new (drop (i + 1) names) ≡ all
unfolding new_beside with_name
beside_goes_on found put known new all names i name lt is p n before =
    ap (λ list. list ++ new_beside new (drop (i + 1) names)) p ∙ ap (λ set. (if has known name then found else found ++ name ∷ []) ++ new_beside set (drop (i + 1) names)) n
    ∙ by (has known name)
    ∙ sym (ap (λ rest. found ++ new_beside known rest) more)
    ∙ before
  where
    more : drop i names ≡ name ∷ drop (i + 1) names
    more = drop_more names i name lt ∙ ap (λ (one : List ℕ). one ∷ drop (i + 1) names) (sym is)

    by : (b : Bool) → (if b then found else found ++ name ∷ []) ++ new_beside (if b then known else known ++ name ∷ []) (drop (i + 1) names)
        ≡ found ++ (if b then new_beside known (drop (i + 1) names) else name ∷ new_beside (if b then known else known ++ name ∷ []) (drop (i + 1) names))
    by true = refl
    by false = append_assoc found (name ∷ []) (new_beside (known ++ name ∷ []) (drop (i + 1) names))

pub beside_ends : (found known all names : List (List ℕ)) (i : ℕ) → length names ≤ i → found ++ new_beside known (drop i names) ≡ all → found ≡ all
unfolding new_beside
beside_ends found known all names i le before = sym (append-nil found) ∙ ap (λ rest. found ++ new_beside known rest) (sym (drop_all i names le)) ∙ before
