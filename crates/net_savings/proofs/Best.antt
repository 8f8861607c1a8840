-- Which cover is the best of those that pass a test, by its rank.
use Rattle.std.proofs.Common.{◌≡◌, zero, suc, Bool, cond, ◌<◌, ◌≤◌, ℕ, Option, Some, None, Ordering, Less, Equal, Greater, nat_cmp, refl, sym, ap, ◌∙◌, arith}
use Rattle.std.specs.Option.{option_map_or}
use Rattle.std.specs.Prelude.{unwrap_or}
use Rattle.std.specs.declared.cmp.Reverse.{Reverse}
use Rattle.std.proofs.lemmas.Bool.{ne_eqb}
use Rattle.std.proofs.lemmas.Cmp.{ranked}
use Rattle.std.proofs.lemmas.Option.{none-some, same_Some}
use Rattle.cover_names.specs.Literals.{NamedCover, cover_cmp}
use Rattle.net_queue.specs.Greatest.{reversed, greatest_cmp}
use Rattle.net_queue.specs.Queue.{IsBest}
use Rattle.net_savings.specs.Ranking.{KnownCovers, saving_in, saved_by, rank_of, rank_in}

-- no cover that passes is better: none saves more, and none that saves as much comes before it in
-- the order of covers
pub record IsBestOf (known : KnownCovers) (Passes : NamedCover → Type 0) (best : NamedCover) : Type 0 where
  pub saves : 1 ≤ saved_by known best
  pub most : (other : NamedCover) → Passes other → saved_by known other ≤ saved_by known best
  pub first : (other : NamedCover) → Passes other → saved_by known other ≡ saved_by known best → cover_cmp other best ≡ Less → ⊥

not_less : (x y : ℕ) → (nat_cmp x y ≡ Less → ⊥) → y ≤ x
not_less x y not = cases (nat_cmp x y) refl
  where
    cases : (o : Ordering) → nat_cmp x y ≡ o → y ≤ x
    cases Less e = absurd (not e)
    cases Equal e = let same : x ≡ y = ranked x y Equal (sym e) in omega (arith, same)
    cases Greater e = let more : y < x = ranked x y Greater (sym e) in omega (arith, more)

rank_some : (cover : NamedCover) (saving : ℕ) → 1 ≤ saving → rank_of cover saving ≡ Some (reversed saving)
rank_some cover saving some = ap (λ (b : Bool). cond b None (Some (reversed saving))) (ne_eqb saving 0 (λ none. absurd (omega (arith, some, none))))

-- the rank of a known saving, and the saving of a rank
rank_here : (cover : NamedCover) (known : Option ℕ) → 1 ≤ unwrap_or known 0 → option_map_or (rank_of cover) known None ≡ Some (reversed (unwrap_or known 0))
rank_here cover None some = absurd (omega (arith, some))
rank_here cover (Some saving) some = rank_some cover saving some

rank_told : (cover : NamedCover) (known : Option ℕ) (rank : Reverse ℕ) → option_map_or (rank_of cover) known None ≡ Some rank → (1 ≤ unwrap_or known 0) × (unwrap_or known 0 ≡ rank.0)
rank_told cover None rank h = absurd (none-some rank h)
rank_told cover (Some zero) rank h = absurd (none-some rank h)
rank_told cover (Some (suc less)) rank h = (omega arith, ap (λ (one : Reverse ℕ). one.0) (same_Some (reversed (suc less)) rank (sym (rank_some cover (suc less) (omega arith)) ∙ h)))

module _ (known : KnownCovers) (Passes : NamedCover → Type 0) where
  pub best_told : (cover : NamedCover) → IsBest greatest_cmp cover_cmp (rank_in known) Passes cover → IsBestOf known Passes cover
  best_told cover best = record {
    saves = told.0;
    most = λ other passes. cases other passes (saved_by known other) refl;
    first = λ other passes level less.
        best.no_earlier other passes
        (rank_here other (saving_in known other) (omega (arith, told.0, level)) ∙ ap (λ (saving : ℕ). Some (reversed saving)) (level ∙ told.1)) less;
  }
    where
      told : (1 ≤ saved_by known cover) × (saved_by known cover ≡ best.rank.0)
      told = rank_told cover (saving_in known cover) best.rank best.here

      cases : (other : NamedCover) → Passes other → (n : ℕ) → saved_by known other ≡ n → saved_by known other ≤ saved_by known cover
      cases other passes zero e = omega (arith, e)
      cases other passes (suc less) e =
          let here = told.1 in
          let most : saved_by known other ≤ best.rank.0 =
          not_less best.rank.0 (saved_by known other) (best.no_lesser other (reversed (saved_by known other)) passes (rank_here other (saving_in known other) (omega (arith, e)))) in
          omega (arith, most, here)

  pub none_saves : ((other : NamedCover) (rank : Reverse ℕ) → Passes other → rank_in known other ≡ Some rank → ⊥) → (other : NamedCover) → Passes other → saved_by known other ≡ 0
  none_saves none other passes = cases (saved_by known other) refl
    where
      cases : (n : ℕ) → saved_by known other ≡ n → saved_by known other ≡ 0
      cases zero e = e
      cases (suc less) e = absurd (none other (reversed (saved_by known other)) passes (rank_here other (saving_in known other) (omega (arith, e))))
