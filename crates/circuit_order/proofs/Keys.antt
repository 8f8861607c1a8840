-- Keys of a set of numbers.
use Rattle.std.proofs.Common.{◌≡◌, ℕ, ◌==◌, Less, Equal, Greater, nat_cmp, is_eq, sym, ap, ◌∙◌, inl, inr, arith, eq-eqb, ne_eqb}
use Rattle.std.specs.Cmp.{nat_cmp_is}
use Rattle.std.proofs.lemmas.Bool.{cases_eq, cases_lt}

pub same_key : (p q : ℕ) → is_eq (nat_cmp p q) ≡ (p == q)
same_key p q = elim (cases_eq p q) as (λ _. is_eq (nat_cmp p q) ≡ (p == q)) [
  | inl e ↦ ap is_eq (sym (nat_cmp_is p q Equal e)) ∙ sym (eq-eqb p q e)
  | inr n ↦ elim (cases_lt p q) as (λ _. is_eq (nat_cmp p q) ≡ (p == q)) [
    | inl lt ↦ ap is_eq (sym (nat_cmp_is p q Less lt)) ∙ sym (ne_eqb p q n)
    | inr le ↦ ap is_eq (sym (nat_cmp_is p q Greater (omega (arith, le, n)))) ∙ sym (ne_eqb p q n)
  ]
]
