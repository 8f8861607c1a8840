-- When two of some cubes share exactly a given cube.
use Rattle.std.proofs.Common.{◌≡◌, ◌↔◌, ℕ, ◌+◌, ◌-◌, ◌<◌, ◌≤◌, Bool, true, false, cond, List, [], ◌∷◌, ◌++◌, Bor, map, filter, length, get_or, take, drop, refl, sym, ap, ◌∙◌, subst, inl, inr, arith, take_all}
use Rattle.std.specs.List.{list_all, list_any}
use Rattle.std.proofs.lemmas.List.{length-drop}
use Rattle.std.proofs.lemmas.Bool.{and_from, or_left, or_right, false≢true}
use Rattle.alg_div.specs.Cubes.{Has}
use Rattle.alg_div.proofs.Lists.{map-drop, Has-right}
use Rattle.net_candidates.specs.Candidates.{same_literal, shared}
use Rattle.net_candidates.proofs.Sums.{has_split}
use Rattle.cover_names.specs.Literals.{Cube}
use Rattle.cover_names.specs.declared.literal.Literal.{Literal}
use Rattle.net_candidates.specs.Listed.{IsSharedOf}
use Rattle.net_candidates.specs.Pairs.{has_all, IsSharedWithSome, IsSharedByTwo}
use Rattle.net_candidates.proofs.Keeping.{itself}

-- ---- cubes that have all literals of a cube

pub has_in : (cube : Cube) (literal : Literal) → Has literal cube → list_any (same_literal literal) cube ≡ true
has_in [] literal m = absurd m
has_in (first ∷ cube) literal m =
    elim m as (λ _. list_any (same_literal literal) (first ∷ cube) ≡ true) [
      | inl e ↦ or_left (same_literal literal first) (list_any (same_literal literal) cube) (subst (λ (x : Literal). same_literal literal x ≡ true) e (itself literal))
      | inr n ↦ or_right (same_literal literal first) (list_any (same_literal literal) cube) (has_in cube literal n)
    ]

all_from : (test : Literal → Bool) (cube : Cube) → ((literal : Literal) → Has literal cube → test literal ≡ true) → list_all test cube ≡ true
all_from test [] each = refl
all_from test (literal ∷ cube) each = and_from _ _ (each literal (inl refl)) (all_from test cube (λ other m. each other (inr m)))

-- a literal that passes a test is in the cube and passes the test
pub left_has : (test : Literal → Bool) (cube : Cube) (literal : Literal) → Has literal (filter test cube) → Has literal cube × (test literal ≡ true)
left_has test [] literal m = absurd m
left_has test (first ∷ cube) literal m = cases (test first) refl (left_has test cube literal) m
  where
    cases : (b : Bool) → test first ≡ b → (Has literal (filter test cube) → Has literal cube × (test literal ≡ true)) → Has literal (cond b (first ∷ filter test cube) (filter test cube))
        → Has literal (first ∷ cube) × (test literal ≡ true)
    cases true h rest k =
        elim k as (λ _. Has literal (first ∷ cube) × (test literal ≡ true)) [
          | inl e ↦ (inl e, subst (λ (x : Literal). test x ≡ true) (sym e) h)
          | inr n ↦ (let p = rest n in (inr p.0, p.1))
        ]
    cases false h rest k = let p = rest k in (inr p.0, p.1)

shared_has : (one other cube : Cube) → shared one other ≡ cube → (has_all cube one ≡ true) × (has_all cube other ≡ true)
shared_has one other cube e = (
  all_from (λ (literal : Literal). list_any (same_literal literal) one) cube (λ literal m. has_in one literal (both literal m).0),
  all_from (λ (literal : Literal). list_any (same_literal literal) other) cube (λ literal m. (both literal m).1),
)
  where
    both : (literal : Literal) → Has literal cube → Has literal one × (list_any (same_literal literal) other ≡ true)
    both literal m = left_has (λ (l : Literal). list_any (same_literal l) other) one literal (subst (λ (x : Cube). Has literal x) (sym e) m)

-- ---- two of some cubes

some_has : (others : List Cube) (one cube : Cube) → IsSharedWithSome others one cube → (other : Cube) × Has other others × (shared one other ≡ cube)
some_has [] one cube k = absurd k
some_has (first ∷ others) one cube k =
    elim k as (λ _. (other : Cube) × Has other (first ∷ others) × (shared one other ≡ cube)) [
      | inl e ↦ (first, inl refl, e)
      | inr n ↦ (let p = some_has others one cube n in (p.0, inr p.1, p.2))
    ]

-- the cubes that pass a test include those that share a cube
some_kept : (test : Cube → Bool) (others : List Cube) (one other cube : Cube) → Has other others → test other ≡ true → shared one other ≡ cube → IsSharedWithSome (filter test others) one cube
some_kept test [] one other cube m h e = absurd m
some_kept test (first ∷ others) one other cube m h e = cases (test first) refl (λ n. some_kept test others one other cube n h e) m
  where
    cases : (b : Bool) → test first ≡ b → (Has other others → IsSharedWithSome (filter test others) one cube) → Has other (first ∷ others)
        → IsSharedWithSome (cond b (first ∷ filter test others) (filter test others)) one cube
    cases true k rest n = elim n as (λ _. IsSharedWithSome (first ∷ filter test others) one cube) [ inl s ↦ inl (subst (λ (x : Cube). shared one x ≡ cube) s e) | inr l ↦ inr (rest l) ]
    cases false k rest n =
        elim n as (λ _. IsSharedWithSome (filter test others) one cube) [
          | inl s ↦ absurd (false≢true (sym k ∙ subst (λ (x : Cube). test x ≡ true) s h))
          | inr l ↦ rest l
        ]

some_back : (test : Cube → Bool) (others : List Cube) (one cube : Cube) → IsSharedWithSome (filter test others) one cube → IsSharedWithSome others one cube
some_back test [] one cube k = k
some_back test (first ∷ others) one cube k = cases (test first) (some_back test others one cube) k
  where
    cases : (b : Bool) → (IsSharedWithSome (filter test others) one cube → IsSharedWithSome others one cube) → IsSharedWithSome (cond b (first ∷ filter test others) (filter test others)) one cube
        → IsSharedWithSome (first ∷ others) one cube
    cases true rest n = elim n as (λ _. IsSharedWithSome (first ∷ others) one cube) [ inl e ↦ inl e | inr l ↦ inr (rest l) ]
    cases false rest n = inr (rest n)

two_back : (test : Cube → Bool) (cubes : List Cube) (cube : Cube) → IsSharedByTwo (filter test cubes) cube → IsSharedByTwo cubes cube
two_back test [] cube k = k
two_back test (first ∷ cubes) cube k = cases (test first) (two_back test cubes cube) k
  where
    cases : (b : Bool) → (IsSharedByTwo (filter test cubes) cube → IsSharedByTwo cubes cube) → IsSharedByTwo (cond b (first ∷ filter test cubes) (filter test cubes)) cube
        → IsSharedByTwo (first ∷ cubes) cube
    cases true rest n = elim n as (λ _. IsSharedByTwo (first ∷ cubes) cube) [ inl e ↦ inl (some_back test cubes first cube e) | inr l ↦ inr (rest l) ]
    cases false rest n = inr (rest n)

two_kept : (cubes : List Cube) (cube : Cube) → IsSharedByTwo cubes cube → IsSharedByTwo (filter (has_all cube) cubes) cube
two_kept [] cube k = k
two_kept (first ∷ cubes) cube k = cases (has_all cube first) refl (two_kept cubes cube) k
  where
    kept : IsSharedWithSome cubes first cube → (has_all cube first ≡ true) × IsSharedWithSome (filter (has_all cube) cubes) first cube
    kept e =
        let p = some_has cubes first cube e in
        let both = shared_has first p.0 cube p.2 in
        (both.0, some_kept (has_all cube) cubes first p.0 cube p.1 both.1 p.2)

    cases : (b : Bool) → has_all cube first ≡ b → (IsSharedByTwo cubes cube → IsSharedByTwo (filter (has_all cube) cubes) cube) → IsSharedByTwo (first ∷ cubes) cube
        → IsSharedByTwo (cond b (first ∷ filter (has_all cube) cubes) (filter (has_all cube) cubes)) cube
    cases true h rest n = elim n as (λ _. IsSharedByTwo (first ∷ filter (has_all cube) cubes) cube) [ inl e ↦ inl (kept e).1 | inr l ↦ inr (rest l) ]
    cases false h rest n = elim n as (λ _. IsSharedByTwo (filter (has_all cube) cubes) cube) [ inl e ↦ absurd (false≢true (sym h ∙ (kept e).0)) | inr l ↦ rest l ]

-- ---- the result

two_pair : (cubes : List Cube) (cube : Cube) → 2 ≤ length cube → IsSharedByTwo cubes cube → IsSharedOf cubes (cube ∷ [])
two_pair [] cube two k = absurd k
two_pair (first ∷ cubes) cube two k =
    elim k as (λ _. IsSharedOf (first ∷ cubes) (cube ∷ [])) [
      | inl e ↦ here (some_has cubes first cube e)
      | inr n ↦ later (two_pair cubes cube two n)
    ]
  where
    here : ((other : Cube) × Has other cubes × (shared first other ≡ cube)) → IsSharedOf (first ∷ cubes) (cube ∷ [])
    here p =
        let parts = has_split p.0 cubes p.1 in
        record {
          one = first;
          other = p.0;
          pair = record { before = []; between = parts.0; after = parts.1; among = ap (λ (xs : List Cube). first ∷ xs) parts.2 };
          two = subst (λ (x : Cube). 2 ≤ length x) (sym p.2) two;
          is = ap (λ (x : Cube). x ∷ []) (sym p.2);
        }

    later : IsSharedOf cubes (cube ∷ []) → IsSharedOf (first ∷ cubes) (cube ∷ [])
    later k = record {
      one = k.one;
      other = k.other;
      pair = record { before = first ∷ k.pair.before; between = k.pair.between; after = k.pair.after; among = ap (λ (xs : List Cube). first ∷ xs) k.pair.among };
      two = k.two;
      is = k.is;
    }

has_some : (others : List Cube) (one other cube : Cube) → Has other others → shared one other ≡ cube → IsSharedWithSome others one cube
has_some [] one other cube m e = absurd m
has_some (first ∷ others) one other cube m e =
    elim m as (λ _. IsSharedWithSome (first ∷ others) one cube) [
      | inl s ↦ inl (subst (λ (x : Cube). shared one x ≡ cube) s e)
      | inr n ↦ inr (has_some others one other cube n e)
    ]

pair_two : (before between after : List Cube) (one other cube : Cube) → shared one other ≡ cube → IsSharedByTwo (before ++ one ∷ (between ++ other ∷ after)) cube
pair_two [] between after one other cube e = inl (has_some (between ++ other ∷ after) one other cube (Has-right other between (other ∷ after) (inl refl)) e)
pair_two (first ∷ before) between after one other cube e = inr (pair_two before between after one other cube e)

cube_is : (one cube : Cube) → (cube ∷ []) ≡ (one ∷ []) → one ≡ cube
cube_is one cube e = cc

pub shared_by_holders : (cubes holders : List Cube) (cube : Cube) → 2 ≤ length cube → holders ≡ filter (has_all cube) cubes → IsSharedByTwo holders cube ↔ IsSharedOf cubes (cube ∷ [])
shared_by_holders cubes holders cube two are = (
  λ k. two_pair cubes cube two (two_back (has_all cube) cubes cube (subst (λ (xs : List Cube). IsSharedByTwo xs cube) are k)),
  λ k.
      subst (λ (xs : List Cube). IsSharedByTwo xs cube) (sym are)
      (two_kept cubes cube
      (subst (λ (xs : List Cube). IsSharedByTwo xs cube) (sym k.pair.among)
      (pair_two k.pair.before k.pair.between k.pair.after k.one k.other cube (cube_is (shared k.one k.other) cube k.is)))),
)

-- ---- a loop over borrowed cubes

pub two_here : (cubes : List (Bor Cube)) (i : ℕ) (one : Bor Cube) (cube : Cube) → i < length cubes → one ≡ get_or cubes i one
    → IsSharedWithSome (map (λ (other : Bor Cube). other.now) (take (length cubes - (i + 1)) (drop (i + 1) cubes))) one.now cube
    → IsSharedByTwo (map (λ (other : Bor Cube). other.now) (drop i cubes)) cube
two_here cubes i one cube lt is k =
    let all : take (length cubes - (i + 1)) (drop (i + 1) cubes) ≡ drop (i + 1) cubes =
    take_all (length cubes - (i + 1)) (drop (i + 1) cubes) (omega (arith, length-drop (i + 1) cubes)) in
    subst (λ (xs : List Cube). IsSharedByTwo xs cube) (sym (map-drop (λ (other : Bor Cube). other.now) cubes i one lt is))
    (inl (subst (λ (xs : List (Bor Cube)). IsSharedWithSome (map (λ (other : Bor Cube). other.now) xs) one.now cube) all k))
