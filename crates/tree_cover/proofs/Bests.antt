-- The best of choices, one kind more at a time.
use Rattle.std.proofs.Common.{◌≡◌, ℕ, ◌+◌, Bool, true, false, if◌then◌else◌, Option, Some, None, Less, Equal, Greater, refl, sym, subst, inl, inr, ◌⊎◌, arith}
use Rattle.std.specs.Ordering.{is_gt}
use Rattle.std.specs.declared.cmp.Ordering.{Ordering}
use Rattle.std.proofs.lemmas.Bool.{false≢true, cases_lt}
use Rattle.std.proofs.lemmas.Option.{same_Some, none-some}
use Rattle.tree_cover.specs.declared.choice.Choice.{Choice}
use Rattle.tree_cover.specs.Candidates.{better_of, BestOf, Below}

-- a test whether one comes after another
gt_true : (r : Ordering) → is_gt r ≡ true → r ≡ Greater
gt_true Less e = absurd (false≢true e)
gt_true Equal e = absurd (false≢true e)
gt_true Greater e = refl

gt_false : (r : Ordering) → is_gt r ≡ false → r ≡ Greater → ⊥
gt_false Less e h = let x : ⊥ = cc in x
gt_false Equal e h = let x : ⊥ = cc in x
gt_false Greater e h = false≢true (sym e)

-- what is asked of an order
pub record IsOrder (order : Choice → Choice → Ordering) : Type 0 where
  pub turned : (x y : Choice) → order x y ≡ Greater → order y x ≡ Greater → ⊥
  pub chain : (x y z : Choice) → (order x y ≡ Greater → ⊥) → (order y z ≡ Greater → ⊥) → order x z ≡ Greater → ⊥

module _ (order : Choice → Choice → Ordering) (laws : IsOrder order) where
  -- the same choices by another name
  pub best_same : (P Q : Choice → Type 0) (best : Option Choice) → ((c : Choice) → P c → Q c) → ((c : Choice) → Q c → P c) → BestOf order P best → BestOf order Q best
  best_same P Q best there back is = record {
    among = λ c e. there c (is.among c e);
    first = λ c d e q. is.first c d e (back d q);
    none = λ d e q. is.none d e (back d q);
  }

  -- the better of two bests
  pub best_both : (P Q : Choice → Type 0) (a b : Option Choice) → BestOf order P a → BestOf order Q b → BestOf order (λ c. P c ⊎ Q c) (better_of order a b)
  best_both P Q None b p q = record {
    among = λ c e. inr (q.among c e);
    first = λ c d e h. elim h as (λ _. order c d ≡ Greater → ⊥) [ inl x ↦ λ g. p.none d refl x | inr y ↦ q.first c d e y ];
    none = λ d e h. elim h as (λ _. ⊥) [ inl x ↦ p.none d refl x | inr y ↦ q.none d e y ];
  }
  best_both P Q (Some x) None p q = record {
    among = λ c e. inl (p.among c e);
    first = λ c d e h. elim h as (λ _. order c d ≡ Greater → ⊥) [ inl a ↦ p.first c d e a | inr b ↦ λ g. q.none d refl b ];
    none = λ d e h. none-some x (sym e);
  }
  best_both P Q (Some x) (Some y) p q = by_test (is_gt (order x y)) refl
    where
      by_test : (t : Bool) → is_gt (order x y) ≡ t → BestOf order (λ c. P c ⊎ Q c) (if t then Some y else Some x)
      by_test true e = record {
        among = λ c f. inr (q.among c f);
        first = λ c d f h. elim h as (λ _. order c d ≡ Greater → ⊥) [
          | inl a ↦ subst (λ (z : Choice). order z d ≡ Greater → ⊥) (same_Some y c f)
              (laws.chain y x d (λ g. laws.turned x y (gt_true (order x y) e) g) (p.first x d refl a))
          | inr b ↦ q.first c d f b
        ];
        none = λ d f h. none-some y (sym f);
      }
      by_test false e = record {
        among = λ c f. inl (p.among c f);
        first = λ c d f h. elim h as (λ _. order c d ≡ Greater → ⊥) [
          | inl a ↦ p.first c d f a
          | inr b ↦ subst (λ (z : Choice). order z d ≡ Greater → ⊥) (same_Some x c f) (laws.chain x y d (gt_false (order x y) e) (q.first y d refl b))
        ];
        none = λ d f h. none-some x (sym f);
      }

  -- one item more
  pub best_more : (Q : ℕ → Choice → Type 0) (i : ℕ) (a b : Option Choice) → BestOf order (Below i Q) a → BestOf order (Q i) b → BestOf order (Below (i + 1) Q) (better_of order a b)
  best_more Q i a b p q = best_same (λ c. Below i Q c ⊎ Q i c) (Below (i + 1) Q) (better_of order a b) there back (best_both (Below i Q) (Q i) a b p q)
    where
      there : (c : Choice) → Below i Q c ⊎ Q i c → Below (i + 1) Q c
      there c (inl (k, lt, h)) = (k, omega (arith, lt), h)
      there c (inr h) = (i, omega arith, h)

      back : (c : Choice) → Below (i + 1) Q c → Below i Q c ⊎ Q i c
      back c (k, lt, h) = elim (cases_lt k i) as (λ _. Below i Q c ⊎ Q i c) [
        | inl before ↦ inl (k, before, h)
        | inr past ↦ inr (subst (λ (j : ℕ). Q j c) (omega (arith, lt, past)) h)
      ]

  -- one item more, and all items
  pub best_step : (Q : ℕ → Choice → Type 0) (i : ℕ) (a b c : Option Choice) → BestOf order (Below i Q) a → BestOf order (Q i) b → c ≡ better_of order a b → BestOf order (Below (i + 1) Q) c
  best_step Q i a b c p q e = subst (BestOf order (Below (i + 1) Q)) (sym e) (best_more Q i a b p q)

  pub best_end : (Q : ℕ → Choice → Type 0) (i n : ℕ) (a : Option Choice) → i ≡ n → BestOf order (Below i Q) a → BestOf order (Below n Q) a
  best_end Q i n a e p = subst (λ (k : ℕ). BestOf order (Below k Q) a) e p
