-- Whether what two cubes share is exactly a third one, literal by literal.
use Rattle.std.proofs.Common.{◌≡◌, ◌↔◌, ℕ, suc, ◌+◌, ◌-◌, ◌<◌, ◌≤◌, Bool, true, false, cond, List, [], ◌∷◌, length, get_or, drop, sym, ap, ◌∙◌, subst, arith, add-one}
use Rattle.std.proofs.lemmas.List.{drop_all, length-drop}
use Rattle.std.proofs.lemmas.Bool.{false≢true}
use Rattle.std.proofs.Math.Seq.{drop-cons}
use Rattle.std.specs.List.{list_any}
use Rattle.net_candidates.specs.Candidates.{same_literal, shared}
use Rattle.cover_names.specs.Literals.{Cube}
use Rattle.cover_names.specs.declared.literal.Literal.{Literal}
use Rattle.net_candidates.proofs.Keeping.{same_is, itself}

drop_head : {X : Type 0} (xs : List X) (i : ℕ) (x : X) → i < length xs → x ≡ get_or xs i x → drop i xs ≡ x ∷ drop (i + 1) xs
drop_head {X} xs i x lt is = rw add-one (drop-cons xs i x lt ∙ ap (λ (y : X). y ∷ drop (suc i) xs) (sym is))

-- what the rest of a cube shares, by its first literal
shared_head : (one other : Cube) (i : ℕ) (literal : Literal) (b : Bool) → i < length one → literal ≡ get_or one i literal → list_any (same_literal literal) other ≡ b
    → shared (drop i one) other ≡ cond b (literal ∷ shared (drop (i + 1) one) other) (shared (drop (i + 1) one) other)
shared_head one other i literal b lt is e =
    ap (λ (xs : Cube). shared xs other) (drop_head one i literal lt is)
    ∙ ap (λ (c : Bool). cond c (literal ∷ shared (drop (i + 1) one) other) (shared (drop (i + 1) one) other)) e

-- what the remainders share is the remainder of a cube exactly if the same holds of the whole
abbrev pub IsAsFar : Cube → Cube → Cube → ℕ → ℕ → Type 0
IsAsFar one other cube i count = (shared (drop i one) other ≡ drop count cube) ↔ (shared one other ≡ cube)

pub far_passed : (one other cube : Cube) (i count : ℕ) (literal : Literal) → i < length one → literal ≡ get_or one i literal → list_any (same_literal literal) other ≡ false
    → IsAsFar one other cube i count → IsAsFar one other cube (i + 1) count
far_passed one other cube i count literal lt is away before =
    let same = shared_head one other i literal false lt is away in
    (λ e. before.0 (same ∙ e), λ k. sym same ∙ before.1 k)

heads : (literal : Literal) (xs ys : Cube) → (literal ∷ xs) ≡ (literal ∷ ys) → xs ≡ ys
heads literal xs ys e = cc

pub far_met : (one other cube : Cube) (i count : ℕ) (literal wanted : Literal) → i < length one → literal ≡ get_or one i literal → list_any (same_literal literal) other ≡ true
    → count < length cube → wanted ≡ get_or cube count wanted → same_literal wanted literal ≡ true → IsAsFar one other cube i count → IsAsFar one other cube (i + 1) (count + 1)
far_met one other cube i count literal wanted lt is there within at same before =
    let left = shared_head one other i literal true lt is there in
    let right : drop count cube ≡ literal ∷ drop (count + 1) cube =
    drop_head cube count wanted within at ∙ ap (λ (x : Literal). x ∷ drop (count + 1) cube) (same_is wanted literal same) in (
      λ e. before.0 (left ∙ (ap (λ (xs : Cube). literal ∷ xs) e ∙ sym right)),
      λ k. heads literal (shared (drop (i + 1) one) other) (drop (count + 1) cube) (sym left ∙ (before.1 k ∙ right)),
    )

other_heads : (literal wanted : Literal) (xs ys : Cube) → same_literal wanted literal ≡ false → (literal ∷ xs) ≡ (wanted ∷ ys) → ⊥
other_heads literal wanted xs ys away e =
    let h : wanted ≡ literal = cc in
    false≢true (sym away ∙ subst (λ (x : Literal). same_literal wanted x ≡ true) h (itself wanted))

some_none : (literal : Literal) (xs : Cube) → (literal ∷ xs) ≡ [] → ⊥
some_none literal xs e = cc

pub far_differs : (one other cube : Cube) (i count : ℕ) (literal wanted : Literal) → i < length one → literal ≡ get_or one i literal → list_any (same_literal literal) other ≡ true
    → count < length cube → wanted ≡ get_or cube count wanted → same_literal wanted literal ≡ false → IsAsFar one other cube i count → shared one other ≡ cube → ⊥
far_differs one other cube i count literal wanted lt is there within at away before k =
    let left = shared_head one other i literal true lt is there in
    other_heads literal wanted (shared (drop (i + 1) one) other) (drop (count + 1) cube) away (sym left ∙ (before.1 k ∙ drop_head cube count wanted within at))

pub far_ended : (one other cube : Cube) (i count : ℕ) (literal : Literal) → i < length one → literal ≡ get_or one i literal → list_any (same_literal literal) other ≡ true
    → length cube ≤ count → IsAsFar one other cube i count → shared one other ≡ cube → ⊥
far_ended one other cube i count literal lt is there over before k =
    some_none literal (shared (drop (i + 1) one) other) (sym (shared_head one other i literal true lt is there) ∙ (before.1 k ∙ drop_all count cube over))

pub far_all : (one other cube : Cube) (i count : ℕ) → length one ≤ i → count ≤ length cube → IsAsFar one other cube i count → (count ≡ length cube) ↔ (shared one other ≡ cube)
far_all one other cube i count over within before =
    let none : shared (drop i one) other ≡ [] = ap (λ (xs : Cube). shared xs other) (drop_all i one over) in (
      λ e. before.0 (none ∙ sym (drop_all count cube (omega (arith, e)))),
      λ k. let left : length cube - count ≡ 0 = sym (length-drop count cube) ∙ ap (λ (xs : Cube). length xs) (sym (before.1 k) ∙ none) in omega (arith, left, within),
    )
