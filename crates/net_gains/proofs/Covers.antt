-- Covers that are the same, sorted covers of two cubes, and the two cubes that some cubes have
-- besides what they share.
use Rattle.std.proofs.Common.{◌≡◌, ◌≢◌, ◌⊎◌, ℕ, ◌+◌, ◌-◌, Bool, true, false, not, ◌&&◌, cond, List, [], ◌∷◌, length, Ordering, Less, Equal, Greater, refl, sym, ap, ◌∙◌, subst, inl, inr, arith}
use Rattle.std.specs.Cmp.{Equal-is}
use Rattle.std.proofs.lemmas.Bool.{and_parts, and_from, false≢true, false_from_ne_true}
use Rattle.std.proofs.lemmas.Cmp.{tied_itself}
use Rattle.std.proofs.lemmas.List.Sums.{sum_by-cons}
use Rattle.alg_div.specs.Cubes.{Has}
use Rattle.net_candidates.specs.Candidates.{shared, own, literals_in}
use Rattle.net_candidates.proofs.Divisors.{has_in, in_has}
use Rattle.net_candidates.proofs.Local.{own_has, IsSum}
use Rattle.cover_names.specs.Literals.{Cube, NamedCover, cube_cmp, cover_cmp, put_by, put_in, sorted}
use Rattle.cover_names.specs.declared.literal.Literal.{Literal}
use Rattle.cover_names.proofs.Members.{Has as IsIn}
use Rattle.cover_names.proofs.Orders.{cube_order, cover_order}
use Rattle.cover_names.proofs.Sorting.{sorted_has, sorted_keeps, sorted_same}
use Rattle.net_gains.specs.Gains.{same_cover, is_one, sum_of_two, sum_gain}

-- ---- the same cover

pub same_cover_is : (one other : NamedCover) → same_cover one other ≡ true → one ≡ other
same_cover_is one other h = cover_order.same one other ((Equal-is (cover_cmp one other)).0 h)

pub is_same_cover : (one other : NamedCover) → one ≡ other → same_cover one other ≡ true
is_same_cover one other e = (Equal-is (cover_cmp one other)).1 (subst (λ (x : NamedCover). cover_cmp one x ≡ Equal) e (tied_itself cover_order.total one))

-- ---- sorted covers of two cubes

pub has_first : (one other : Cube) → Has one (sorted cube_cmp (one ∷ other ∷ []))
has_first one other = in_has one (sorted cube_cmp (one ∷ other ∷ [])) (sorted_keeps cube_order (one ∷ other ∷ []) one (inl refl))

pub has_second : (one other : Cube) → Has other (sorted cube_cmp (one ∷ other ∷ []))
has_second one other = in_has other (sorted cube_cmp (one ∷ other ∷ [])) (sorted_keeps cube_order (one ∷ other ∷ []) other (inr (inl refl)))

pub two_have : (one other cube : Cube) → Has cube (sorted cube_cmp (one ∷ other ∷ [])) → (cube ≡ one) ⊎ (cube ≡ other)
two_have one other cube m =
    elim (sorted_has cube_order (one ∷ other ∷ []) cube (has_in cube (sorted cube_cmp (one ∷ other ∷ [])) m)) as (λ _. (cube ≡ one) ⊎ (cube ≡ other)) [
      | inl e ↦ inl e
      | inr n ↦ elim n as (λ _. (cube ≡ one) ⊎ (cube ≡ other)) [ inl e ↦ inr e | inr k ↦ absurd k ]
    ]

pub two_turned : (one other : Cube) → sorted cube_cmp (one ∷ other ∷ []) ≡ sorted cube_cmp (other ∷ one ∷ [])
two_turned one other = sorted_same cube_order (one ∷ other ∷ []) (other ∷ one ∷ []) (λ x m. turned one other x m) (λ x m. turned other one x m)
  where
    turned : (a b x : Cube) → IsIn x (a ∷ b ∷ []) → IsIn x (b ∷ a ∷ [])
    turned a b x (inl e) = inr (inl e)
    turned a b x (inr (inl e)) = inl e
    turned a b x (inr (inr n)) = absurd n

-- two sums of two cubes that are sorted to the same list have the same cubes
pub two_same : (one other first second : Cube) → (first ≡ second → ⊥) → sorted cube_cmp (one ∷ other ∷ []) ≡ sorted cube_cmp (first ∷ second ∷ [])
    → ((one ≡ first) × (other ≡ second)) ⊎ ((one ≡ second) × (other ≡ first))
two_same one other first second apart e =
    pick (two_have first second one (subst (λ (cover : NamedCover). Has one cover) e (has_first one other)))
    (two_have first second other (subst (λ (cover : NamedCover). Has other cover) e (has_second one other)))
  where
    pick : (one ≡ first) ⊎ (one ≡ second) → (other ≡ first) ⊎ (other ≡ second) → ((one ≡ first) × (other ≡ second)) ⊎ ((one ≡ second) × (other ≡ first))
    pick (inl a) (inr b) = inl (a, b)
    pick (inr a) (inl b) = inr (a, b)
    pick (inl a) (inl b) =
        absurd (elim (two_have one other second (subst (λ (cover : NamedCover). Has second cover) (sym e) (has_second first second))) as (λ _. ⊥) [
          | inl k ↦ apart (sym (k ∙ a))
          | inr k ↦ apart (sym (k ∙ b))
        ])
    pick (inr a) (inr b) =
        absurd (elim (two_have one other first (subst (λ (cover : NamedCover). Has first cover) (sym e) (has_first first second))) as (λ _. ⊥) [
          | inl k ↦ apart (k ∙ a)
          | inr k ↦ apart (k ∙ b)
        ])

pub two_literals : (one other : Cube) → (one ≡ other → ⊥) → literals_in (sorted cube_cmp (one ∷ other ∷ [])) ≡ length one + length other
unfolding sorted put_in
two_literals one other apart = cases (cube_cmp one other) refl
  where
    cases : (o : Ordering) → cube_cmp one other ≡ o → literals_in (put_by o one other [] (one ∷ [])) ≡ length one + length other
    cases Less e = omega (arith, sum_by-cons length one (other ∷ []), sum_by-cons length other [])
    cases Equal e = absurd (apart (cube_order.same one other e))
    cases Greater e = omega (arith, sum_by-cons length other (one ∷ []), sum_by-cons length one [])

pub two_long : (one other : Cube) → (one ≡ other → ⊥) → length (sorted cube_cmp (one ∷ other ∷ [])) ≡ 2
unfolding sorted put_in
two_long one other apart = cases (cube_cmp one other) refl
  where
    cases : (o : Ordering) → cube_cmp one other ≡ o → length (put_by o one other [] (one ∷ [])) ≡ 2
    cases Less e = refl
    cases Equal e = absurd (apart (cube_order.same one other e))
    cases Greater e = refl

-- ---- cubes with literals

pub some_member : (cube : Cube) → cube ≢ [] → (literal : Literal) × Has literal cube
some_member [] h = absurd (h refl)
some_member (literal ∷ cube) h = (literal, inl refl)

not_one : (cube : Cube) → not (is_one cube) ≡ true → cube ≢ []
not_one [] h = absurd (false≢true h)
not_one (literal ∷ cube) h = λ e. absurd cc

one_not : (cube : Cube) → cube ≢ [] → not (is_one cube) ≡ true
one_not [] h = absurd (h refl)
one_not (literal ∷ cube) h = refl

-- the two cubes of such a sum are different
pub sum_differs : (names : List (List ℕ)) (cover : NamedCover) (sum : IsSum names cover) → sum.one ≡ sum.other → ⊥
sum_differs names cover sum e =
    let (literal, m) = some_member sum.one sum.left in
    sum.disjoint literal m (subst (λ (cube : Cube). Has literal cube) e m)

-- and they may be exchanged
abbrev pub sum_turned : (names : List (List ℕ)) (cover : NamedCover) → IsSum names cover → IsSum names cover
sum_turned names cover sum = record {
  one = sum.other;
  other = sum.one;
  left = sum.right;
  right = sum.left;
  disjoint = λ literal m n. sum.disjoint literal n m;
  first = sum.second;
  second = sum.first;
  is = sum.is ∙ two_turned sum.one sum.other;
}

-- ---- cubes that have a cover besides what they share

-- two cubes have the cover's two besides what they share
pub record ArePartners (cover : NamedCover) (one other : Cube) : Type 0 where
  pub left : own one other ≢ []
  pub right : own other one ≢ []
  pub is : cover ≡ sum_of_two one other

abbrev pub is_pair : NamedCover → Cube → Cube → Bool
is_pair cover one other = not (is_one (own one other)) && not (is_one (own other one)) && same_cover cover (sum_of_two one other)

pub pair_partners : (cover : NamedCover) (one other : Cube) → is_pair cover one other ≡ true → ArePartners cover one other
pair_partners cover one other h =
    let parts = and_parts (not (is_one (own one other)) && not (is_one (own other one))) (same_cover cover (sum_of_two one other)) h in
    let some = and_parts (not (is_one (own one other))) (not (is_one (own other one))) parts.0 in
    record { left = not_one (own one other) some.0; right = not_one (own other one) some.1; is = same_cover_is cover (sum_of_two one other) parts.1 }

pub partners_pair : (cover : NamedCover) (one other : Cube) → ArePartners cover one other → is_pair cover one other ≡ true
partners_pair cover one other are =
    and_from (not (is_one (own one other)) && not (is_one (own other one))) (same_cover cover (sum_of_two one other))
    (and_from (not (is_one (own one other))) (not (is_one (own other one))) (one_not (own one other) are.left) (one_not (own other one) are.right))
    (is_same_cover cover (sum_of_two one other) are.is)

-- what two cubes have besides each other differs
pub own_differ : (one other : Cube) → own one other ≢ [] → own one other ≡ own other one → ⊥
own_differ one other some e =
    let (literal, m) = some_member (own one other) some in
    (own_has one other literal m).1 ((own_has other one literal (subst (λ (cube : Cube). Has literal cube) e m)).0)

-- what partners save
pub pair_gain : (cover : NamedCover) (one other : Cube) → sum_gain cover one other ≡ cond {A = ℕ} (is_pair cover one other) (length (shared one other) + literals_in cover - 1) 0
unfolding sum_gain
pair_gain cover one other = cases (is_pair cover one other) refl
  where
    cases : (b : Bool) → is_pair cover one other ≡ b
        → cond {A = ℕ} b (length (shared one other) + length (own one other) + length (own other one) - 1) 0 ≡ cond {A = ℕ} b (length (shared one other) + literals_in cover - 1) 0
    cases true h =
        let are = pair_partners cover one other h in
        let e : literals_in cover ≡ length (own one other) + length (own other one) =
        ap literals_in are.is ∙ two_literals (own one other) (own other one) (own_differ one other are.left) in
        omega (arith, e)
    cases false h = refl

pub no_partners : (cover : NamedCover) (one other : Cube) → (ArePartners cover one other → ⊥) → sum_gain cover one other ≡ 0
no_partners cover one other apart =
    pair_gain cover one other
    ∙ ap (λ (b : Bool). cond {A = ℕ} b (length (shared one other) + literals_in cover - 1) 0)
    (false_from_ne_true (is_pair cover one other) (λ h. apart (pair_partners cover one other h)))
