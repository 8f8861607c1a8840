-- Two cubes that rise share the same cube, whichever comes first.
use Rattle.std.proofs.Common.{◌≡◌, Bool, true, false, cond, [], ◌∷◌, filter, refl, sym, ◌∙◌, subst, inl, inr}
use Rattle.std.specs.List.{list_any}
use Rattle.std.proofs.lemmas.Bool.{false≢true}
use Rattle.std.proofs.lemmas.List.Kept.{IsStrictlySortedBy-filter}
use Rattle.circuit_model.specs.declared.circuit.Table.{Table}
use Rattle.alg_div.specs.Cubes.{Has}
use Rattle.net_candidates.specs.Candidates.{same_literal, shared, cubes_of}
use Rattle.net_candidates.proofs.Proper.{Rising, cubes_rise}
use Rattle.net_candidates.proofs.Usable.{all_member}
use Rattle.cover_names.specs.Literals.{Cube, literal_cmp}
use Rattle.cover_names.specs.declared.literal.Literal.{Literal}
use Rattle.cover_names.proofs.Orders.{literal_order}
use Rattle.cover_names.proofs.Sorting.{rising_same}
use Rattle.net_candidates.proofs.ByTwo.{has_in, left_has}
use Rattle.net_candidates.proofs.Keeping.{same_is, any_has}

has_left : (test : Literal → Bool) (cube : Cube) (literal : Literal) → Has literal cube → test literal ≡ true → Has literal (filter test cube)
has_left test [] literal m h = absurd m
has_left test (first ∷ cube) literal m h = cases (test first) refl (λ n. has_left test cube literal n h) m
  where
    cases : (b : Bool) → test first ≡ b → (Has literal cube → Has literal (filter test cube)) → Has literal (first ∷ cube) → Has literal (cond b (first ∷ filter test cube) (filter test cube))
    cases true k rest n = elim n as (λ _. Has literal (first ∷ filter test cube)) [ inl e ↦ inl e | inr l ↦ inr (rest l) ]
    cases false k rest n =
        elim n as (λ _. Has literal (filter test cube)) [
          | inl e ↦ absurd (false≢true (sym k ∙ subst (λ (x : Literal). test x ≡ true) e h))
          | inr l ↦ rest l
        ]

turned_has : (one other : Cube) (literal : Literal) → Has literal (shared one other) → Has literal (shared other one)
turned_has one other literal m =
    let p = left_has (λ (l : Literal). list_any (same_literal l) other) one literal m in
    has_left (λ (l : Literal). list_any (same_literal l) one) other literal (any_has same_literal same_is other literal p.1) (has_in one literal p.0)

pub shared_turned : (one other : Cube) → Rising one → Rising other → shared one other ≡ shared other one
shared_turned one other first second =
    rising_same literal_order (shared one other) (shared other one)
    (IsStrictlySortedBy-filter literal_cmp (λ (l : Literal). list_any (same_literal l) other) one first)
    (IsStrictlySortedBy-filter literal_cmp (λ (l : Literal). list_any (same_literal l) one) other second)
    (turned_has one other) (turned_has other one)

-- so do cubes of tables
pub rows_turned : (t u : Table) (one other : Cube) → Has one (cubes_of t) → Has other (cubes_of u) → shared one other ≡ shared other one
rows_turned t u one other m n =
    shared_turned one other (all_member Rising (cubes_of t) (cubes_rise t) one m) (all_member Rising (cubes_of u) (cubes_rise u) other n)
