-- The first least value of indices, and values that are set for indices.
use Rattle.std.proofs.Common.{Less, Equal, Greater, ◌≡◌, ℕ, ◌+◌, ◌<◌, ◌==◌, nat_eq, ℤ, Bool, true, false, cond, if◌then◌else◌, Option, Some, None, is_some, List, length, int_lt, refl, sym, ap, ◌∙◌, arith}
use Rattle.std.specs.Option.{option_map_or}
use Rattle.std.proofs.lemmas.Bool.{eq-eqb, ne_eqb, lt-ltb}
use Rattle.std.proofs.lemmas.Map.Lookups.{exact_signed}
use Rattle.net_queue.specs.Queue.{rank_in}
use Rattle.net_elim.specs.Waiting.{waits_at, IsPutAt, IsNext}

-- a value in the queue is the rank of its index
rank_waits : (values : List (ℕ × ℤ)) (place : ℕ) → rank_in nat_eq (λ (place : ℕ) (value : ℤ). Some value) values place ≡ waits_at values place
rank_waits values place = cases (waits_at values place)
  where
    cases : (value : Option ℤ) → option_map_or (λ (value : ℤ). Some value) value None ≡ value
    cases None = refl
    cases (Some value) = refl

-- the value for an index is least, and none for an earlier index is as small
pub record IsLeast (values : List (ℕ × ℤ)) (place : ℕ) : Type 0 where
  pub value : ℤ
  pub here : waits_at values place ≡ Some value
  pub no_lesser : (other : ℕ) (that : ℤ) → waits_at values other ≡ Some that → int_lt that value ≡ false
  pub greater : (other : ℕ) (that : ℤ) → other < place → waits_at values other ≡ Some that → int_lt value that ≡ true

pub first_least : (values : List (ℕ × ℤ)) (place : ℕ) → IsNext values (Some place) → IsLeast values place
first_least values place first = record {
  value = first.rank;
  here = sym (rank_waits values place) ∙ first.here;
  no_lesser = no_lesser;
  greater = λ other that lt waits. greater other that lt waits (int_lt first.rank that) refl;
}
  where
    no_lesser : (other : ℕ) (that : ℤ) → waits_at values other ≡ Some that → int_lt that first.rank ≡ false
    no_lesser other that waits = cases (int_lt that first.rank) refl
      where
        cases : (b : Bool) → int_lt that first.rank ≡ b → b ≡ false
        cases true e = absurd (first.no_lesser other that tt (rank_waits values other ∙ waits) (ap (λ (b : Bool). cond b Less (cond (int_lt first.rank that) Greater Equal)) e))
        cases false e = refl

    greater : (other : ℕ) (that : ℤ) → other < place → waits_at values other ≡ Some that → (b : Bool) → int_lt first.rank that ≡ b → b ≡ true
    greater other that lt waits true e = refl
    greater other that lt waits false e =
        let same : first.rank ≡ that =
        exact_signed first.rank that
        (ap (λ (b : Bool). cond b Less (cond (int_lt that first.rank) Greater Equal)) e ∙ ap (λ (b : Bool). cond b Greater Equal) (no_lesser other that waits)) in
        absurd (first.no_earlier other tt (rank_waits values other ∙ (waits ∙ ap (λ (v : ℤ). Some v) (sym same))) (ap (λ (b : Bool). cond b Less (cond (other == place) Equal Greater)) (lt-ltb other place lt)))

pub first_none : (values : List (ℕ × ℤ)) → IsNext values None → (place : ℕ) → waits_at values place ≡ None
first_none values none place = sym (rank_waits values place) ∙ none place

-- a value that is set for an index
pub waits_same : (place : ℕ) (value : Option ℤ) (before after : List (ℕ × ℤ)) → IsPutAt place value before after → (other : ℕ) → place ≡ other → waits_at after other ≡ value
waits_same place value before after put other same = put other ∙ ap (λ (b : Bool). if b then value else waits_at before other) (eq-eqb place other same)

pub waits_other : (place : ℕ) (value : Option ℤ) (before after : List (ℕ × ℤ)) → IsPutAt place value before after → (other : ℕ) → (place ≡ other → ⊥) → waits_at after other ≡ waits_at before other
waits_other place value before after put other apart = put other ∙ ap (λ (b : Bool). if b then value else waits_at before other) (ne_eqb place other apart)

-- a value that is removed
pub fewer_waiting : (before mid after : List (ℕ × ℤ)) (place : ℕ) (value : ℤ) (gone : Option ℤ) → waits_at before place ≡ Some value → mid ≡ before → gone ≡ waits_at mid place
    → length after + (if is_some gone then 1 else 0) ≡ length mid → length after < length before
fewer_waiting before mid after place value gone here same is long = cases gone (is ∙ (ap (λ (values : List (ℕ × ℤ)). waits_at values place) same ∙ here)) long
  where
    cases : (gone : Option ℤ) → gone ≡ Some value → length after + (if is_some gone then 1 else 0) ≡ length mid → length after < length before
    cases None e k = absurd (let z : None ≡ Some value = e in cc)
    cases (Some that) e k = let whole : length mid ≡ length before = ap length same in omega (arith, whole, k)
