-- The totals of covers by those of divisors.
use Rattle.std.proofs.Common.{Less, Equal, Greater, ◌≡◌, ◌<◌, ◌⊎◌, inl, inr, ℕ, Bool, true, false, nat_cmp, ◌&&◌, cond, Option, Some, None, List, [], ◌∷◌, refl, sym, ap, ◌∙◌, subst, arith}
use Rattle.std.specs.Cmp.{both_tied}
use Rattle.std.specs.Cmp.Lexicographic.{pointwise, texts_ties}
use Rattle.std.specs.Map.{lookup}
use Rattle.std.proofs.lemmas.Bool.{false≢true}
use Rattle.std.proofs.lemmas.Cmp.{lists_total, nat_list_cmp_total, tied_itself}
use Rattle.std.specs.Ordering.{is_eq, ordering_then}
use Rattle.std.specs.Prelude.{nat_eq, unwrap_or}
use Rattle.std.specs.declared.cmp.Ordering.{Ordering}
use Rattle.std.proofs.lemmas.Map.Lookups.{exact_unsigned}
use Rattle.cover_names.proofs.Orders.{same_lists as exact_lists}
use Rattle.net_candidates.specs.Candidates.{literals_in}
use Rattle.net_gains.specs.Divisors.{cover_with, cover_of}
use Rattle.net_gains.specs.CodedGains.{numbers_cmp, lists_cmp, same_lists}
use Rattle.net_gains.specs.Orders.{divisor_eq, divisor_ties, divisor_total}
use Rattle.net_gains.specs.Totals.{total_of, total_at, Changes, Allows}
use Rattle.net_gains.specs.Turning.{saved_by, AreAllowed}
use Rattle.net_gains.specs.declared.divisor.Divisor.{Divisor}
use Rattle.net_gains.specs.declared.totals.Change.{Change}
use Rattle.net_gains.specs.declared.totals.Change.TheVariants.{Comes, Goes}
use Rattle.net_gains.proofs.Ranks.{is_equal, divisor_same, divisor_swapped}

never_less : (o : Ordering) → is_eq (ordering_then o Less) ≡ false
never_less Less = refl
never_less Equal = refl
never_less Greater = refl

never_greater : (o : Ordering) → is_eq (ordering_then o Greater) ≡ false
never_greater Less = refl
never_greater Equal = refl
never_greater Greater = refl

then_equal : (o : Ordering) → is_eq o ≡ is_eq (ordering_then o Equal)
then_equal Less = refl
then_equal Equal = refl
then_equal Greater = refl

never_then : (o p : Ordering) → is_eq (ordering_then o (ordering_then p Greater)) ≡ false
never_then Less p = refl
never_then Equal p = never_greater p
never_then Greater p = refl

-- a cover is that of one divisor, or of none
abbrev pub Is : List (List ℕ) → Divisor → Type 0
Is cover divisor = (other : Divisor) → same_lists cover (cover_of other) ≡ divisor_eq divisor other

abbrev pub IsNone : List (List ℕ) → Type 0
IsNone cover = (other : Divisor) → same_lists cover (cover_of other) ≡ false

pub divisor_told : (cover : List (List ℕ)) → ((divisor : Divisor) × Is cover divisor) ⊎ IsNone cover
divisor_told [] = inr (λ other. none other.first other.second)
  where
    none : (first second : List ℕ) → same_lists [] (cover_with first second) ≡ false
    none first [] = refl
    none first (number ∷ second) = refl
divisor_told (a ∷ []) = inl (record { first = a; second = [] }, λ other. one other.first other.second)
  where
    one : (first second : List ℕ) → same_lists (a ∷ []) (cover_with first second) ≡ (pointwise nat_eq a first && pointwise nat_eq [] second)
    one first [] = sym (both_tied (pointwise nat_eq a first) true (numbers_cmp a first) Equal (texts_ties a first) refl)
    one first (number ∷ second) = sym (both_tied (pointwise nat_eq a first) false (numbers_cmp a first) Less (texts_ties a first) refl)
divisor_told (a ∷ [] ∷ []) = inr (λ other. none other.first other.second)
  where
    none : (first second : List ℕ) → same_lists (a ∷ [] ∷ []) (cover_with first second) ≡ false
    none first [] = never_greater (numbers_cmp a first)
    none first (number ∷ second) = never_less (numbers_cmp a first)
divisor_told (a ∷ (m ∷ b) ∷ []) = inl (record { first = a; second = m ∷ b }, λ other. two other.first other.second)
  where
    two : (first second : List ℕ) → same_lists (a ∷ (m ∷ b) ∷ []) (cover_with first second) ≡ (pointwise nat_eq a first && pointwise nat_eq (m ∷ b) second)
    two first [] = sym (both_tied (pointwise nat_eq a first) false (numbers_cmp a first) Greater (texts_ties a first) refl)
    two first (n ∷ second) =
        sym (both_tied (pointwise nat_eq a first) (pointwise nat_eq (m ∷ b) (n ∷ second)) (numbers_cmp a first) (ordering_then (numbers_cmp (m ∷ b) (n ∷ second)) Equal) (texts_ties a first)
        (texts_ties (m ∷ b) (n ∷ second) ∙ then_equal (numbers_cmp (m ∷ b) (n ∷ second))))
divisor_told (a ∷ b ∷ c ∷ cover) = inr (λ other. none other.first other.second)
  where
    none : (first second : List ℕ) → same_lists (a ∷ b ∷ c ∷ cover) (cover_with first second) ≡ false
    none first [] = never_greater (numbers_cmp a first)
    none first (number ∷ second) = never_then (numbers_cmp a first) (numbers_cmp b (number ∷ second))

-- the total of a cover is that of its divisor, or 0
pub total_told : (entries : List (Divisor × ℕ)) (cover : List (List ℕ)) (divisor : Divisor) → Is cover divisor → total_of entries cover ≡ total_at entries divisor
total_told entries cover divisor is = ap (λ (test : Divisor → Bool). unwrap_or (lookup test entries) 0) (λ i other. is other i)

pub total_none : (entries : List (Divisor × ℕ)) (cover : List (List ℕ)) → IsNone cover → total_of entries cover ≡ 0
total_none [] cover none = refl
total_none (entry ∷ entries) cover none =
    ap (λ (b : Bool). unwrap_or (cond b (Some entry.1) (lookup (λ divisor. same_lists cover (cover_of divisor)) entries)) 0) (none entry.0) ∙ total_none entries cover none

-- a saving of 0 is added or subtracted
pub changes_none : (change : Change) (total : ℕ) → Changes change total 0 total
changes_none Comes total = omega arith
changes_none Goes total = omega arith

-- a cover is itself
pub same_itself : (cover : List (List ℕ)) → same_lists cover cover ≡ true
same_itself cover = ap is_eq (tied_itself (lists_total nat_list_cmp_total) cover)

pub cover_is : (divisor : Divisor) (entries : List (Divisor × ℕ)) → total_of entries (cover_of divisor) ≡ total_at entries divisor
cover_is divisor entries = cases (divisor_told (cover_of divisor))
  where
    cases : ((other : Divisor) × Is (cover_of divisor) other) ⊎ IsNone (cover_of divisor) → total_of entries (cover_of divisor) ≡ total_at entries divisor
    cases (inl (other, is)) =
        total_told entries (cover_of divisor) other is
        ∙ ap (total_at entries) (divisor_same other divisor (sym (is divisor) ∙ same_itself (cover_of divisor)))
    cases (inr none) = absurd (false≢true (sym (none divisor) ∙ same_itself (cover_of divisor)))

-- a cover that saves more than its literals is that of a divisor
pub divisor_of : (entries : List (Divisor × ℕ)) (cover : List (List ℕ)) → literals_in cover < total_of entries cover → (divisor : Divisor) × (cover ≡ cover_of divisor)
divisor_of entries cover less = elim (divisor_told cover) as (λ _. (divisor : Divisor) × (cover ≡ cover_of divisor)) [
  | inl w ↦ (
    w.0,
    exact_lists numbers_cmp (exact_lists nat_cmp exact_unsigned) cover (cover_of w.0) (is_equal (lists_cmp cover (cover_of w.0)) (w.1 w.0 ∙ (divisor_ties w.0 w.0 ∙ ap is_eq (tied_itself divisor_total w.0)))),
  )
  | inr none ↦ (let zero : total_of entries cover ≡ 0 = total_none entries cover none in absurd (omega (arith, less, zero)))
]

-- a total that is set, where none counts as 0
pub total_set : (b : Bool) (total : ℕ) (before : Option ℕ) → unwrap_or (cond b (Some total) before) 0 ≡ cond b total (unwrap_or before 0)
total_set true total before = refl
total_set false total before = refl

pub total_gone : (b : Bool) (before : Option ℕ) → unwrap_or (cond b None before) 0 ≡ cond b 0 (unwrap_or before 0)
total_gone true before = refl
total_gone false before = refl

-- the totals of all covers when that of a divisor changes
pub changed_totals : (change : Change) (old new : List (Divisor × ℕ)) (divisor : Divisor) (before after saving : ℕ) → before ≡ total_at old divisor → Changes change before saving after
    → ((other : Divisor) → total_at new other ≡ cond (divisor_eq divisor other) after (total_at old other))
    → (cover : List (List ℕ)) → Changes change (total_of old cover) (cond (same_lists cover (cover_of divisor)) saving 0) (total_of new cover)
changed_totals change old new divisor before after saving was turned told cover = cases (divisor_told cover)
  where
    at : (was now gain total next : ℕ) → was ≡ total → now ≡ next → gain ≡ saving → Changes change total saving next → Changes change was gain now
    at was now gain total next e f g h = subst (λ (n : ℕ). Changes change n gain now) (sym e) (subst (λ (n : ℕ). Changes change total n now) (sym g) (subst (λ (n : ℕ). Changes change total saving n) (sym f) h))

    stays : (was now gain : ℕ) → was ≡ now → gain ≡ 0 → Changes change was gain now
    stays was now gain e g = subst (λ (n : ℕ). Changes change was n now) (sym g) (subst (λ (n : ℕ). Changes change was 0 n) e (changes_none change was))

    by : (other : Divisor) → Is cover other → (b : Bool) → divisor_eq divisor other ≡ b → Changes change (total_of old cover) (cond (same_lists cover (cover_of divisor)) saving 0) (total_of new cover)
    by other is true e =
        let same : divisor ≡ other = divisor_same divisor other e in
        at (total_of old cover) (total_of new cover) (cond (same_lists cover (cover_of divisor)) saving 0) before after
        (total_told old cover other is ∙ (ap (total_at old) (sym same) ∙ sym was))
        (total_told new cover other is ∙ (told other ∙ ap (λ (b : Bool). cond b after (total_at old other)) e))
        (ap (λ (b : Bool). cond {A = ℕ} b saving 0) (is divisor ∙ (divisor_swapped other divisor ∙ e))) turned
    by other is false e =
        stays (total_of old cover) (total_of new cover) (cond (same_lists cover (cover_of divisor)) saving 0)
        (total_told old cover other is ∙ sym (total_told new cover other is ∙ (told other ∙ ap (λ (b : Bool). cond b after (total_at old other)) e)))
        (ap (λ (b : Bool). cond {A = ℕ} b saving 0) (is divisor ∙ (divisor_swapped other divisor ∙ e)))

    cases : ((other : Divisor) × Is cover other) ⊎ IsNone cover → Changes change (total_of old cover) (cond (same_lists cover (cover_of divisor)) saving 0) (total_of new cover)
    cases (inl (other, is)) = by other is (divisor_eq divisor other) refl
    cases (inr none) =
        stays (total_of old cover) (total_of new cover) (cond (same_lists cover (cover_of divisor)) saving 0)
        (total_none old cover none ∙ sym (total_none new cover none)) (ap (λ (b : Bool). cond {A = ℕ} b saving 0) (none divisor))

-- how much may be subtracted from a divisor's total
pub allowed_at : (change : Change) (entries : List (Divisor × ℕ)) (divisor : Divisor) (saving : ℕ) → AreAllowed change (total_of entries) (saved_by divisor saving) → Allows change (total_at entries divisor) saving
allowed_at change entries divisor saving allowed =
    subst (Allows change (total_at entries divisor)) (ap (λ (b : Bool). cond {A = ℕ} b saving 0) (same_itself (cover_of divisor)))
    (subst (λ (n : ℕ). Allows change n (saved_by divisor saving (cover_of divisor))) (cover_is divisor entries) (allowed (cover_of divisor)))
