-- The first division of a queue that may be made is the best one.
use Rattle.std.proofs.Common.{Less, Equal, Greater, ◌≡◌, ℕ, ◌<◌, ◌≤◌, zero, suc, Bool, true, false, cond, eqb, Option, Some, None, List, [], ◌∷◌, Bor, refl, sym, ap, ◌∙◌, inl, inr, arith}
use Rattle.std.specs.Cmp.{IsTotalOrder, on_total, then_total, nat_cmp_total}
use Rattle.std.specs.List.{AllByRecursion}
use Rattle.std.specs.Option.{option_map_or}
use Rattle.std.specs.Ordering.{nat_cmp, ordering_then}
use Rattle.std.specs.declared.cmp.Reverse.{Reverse}
use Rattle.std.proofs.lemmas.Bool.{false≢true, lt-ltb}
use Rattle.std.proofs.lemmas.Cmp.{tied_itself}
use Rattle.std.proofs.lemmas.Option.{same_Some}
use Rattle.net_queue.specs.Greatest.{reversed, greatest_cmp}
use Rattle.net_queue.specs.Queue.{rank_in, IsBest}
use Rattle.net_resub.specs.Best.{IsAhead, IsFirst}
use Rattle.net_resub.specs.Divisions.{division_cmp, rank_of, is_of, Savings, saving_in, saved, HasJust}
use Rattle.net_resub.specs.declared.divisions.Division.{Division}

pub division_total : IsTotalOrder division_cmp
division_total = then_total (on_total (λ (division : Division). division.place) nat_cmp_total) (on_total (λ (division : Division). division.by) nat_cmp_total)

below : (x y : ℕ) → x < y → nat_cmp x y ≡ Less
below x y lt = ap (λ (b : Bool). cond b Less (cond (eqb x y) Equal Greater)) (lt-ltb x y lt)

-- a pair of indices before another one
ahead_less : (one other : Division) → IsAhead one.place one.by other → division_cmp one other ≡ Less
ahead_less one other (inl lt) = ap (λ o. ordering_then o (nat_cmp one.by other.by)) (below one.place other.place lt)
ahead_less one other (inr (same, lt)) =
    ap (λ (place : ℕ). ordering_then (nat_cmp place other.place) (nat_cmp one.by other.by)) same
    ∙ (ap (λ o. ordering_then o (nat_cmp one.by other.by)) (tied_itself nat_cmp_total other.place) ∙ below one.by other.by lt)

-- the ranks of the divisions in the queue
abbrev pub ranks_in : List (Division × ℕ) → Division → Option (Reverse ℕ)
ranks_in entries division = rank_in is_of rank_of entries division

module _ (led : ℕ → ℕ → Bool) where
  -- whether a division may be made
  abbrev pub May : Division → Type 0
  May division = led division.by division.place ≡ false

  pub came_led : (came : List (Bor (Reverse ℕ × Division))) → AllByRecursion (λ (ranked : Bor (Reverse ℕ × Division)). led ranked.now.1.by ranked.now.1.place ≡ true) came
      → AllByRecursion (λ (ranked : Bor (Reverse ℕ × Division)). May ranked.now.1 → ⊥) came
  came_led [] all = tt
  came_led (ranked ∷ came) all = ((λ may. false≢true (sym may ∙ all.0)), came_led came all.1)

  module _ (savings worths : Savings) (none : (place by : ℕ) → led by place ≡ true → worths place by ≡ 0) (whole : (place by : ℕ) → led by place ≡ false → worths place by ≡ savings place by)
      (entries : List (Division × ℕ)) (has : HasJust (λ division. true) savings entries) where
    rank_some : (division : Division) → 0 < saving_in savings division → ranks_in entries division ≡ Some (reversed (saving_in savings division))
    rank_some division some =
        ap (λ (value : Option ℕ). option_map_or (rank_of division) value None) (has division ∙ ap (λ (b : Bool). cond b (Some (saving_in savings division)) None) (lt-ltb 0 (saving_in savings division) some))

    rank_told : (division : Division) (rank : Reverse ℕ) → ranks_in entries division ≡ Some rank → (0 < saving_in savings division) × (saving_in savings division ≡ rank.0)
    rank_told division rank h = cases (saving_in savings division) refl
      where
        cases : (n : ℕ) → saving_in savings division ≡ n → (0 < saving_in savings division) × (saving_in savings division ≡ rank.0)
        cases zero e =
            absurd (let z : None ≡ Some rank = sym (ap (λ (value : Option ℕ). option_map_or (rank_of division) value None) (has division ∙ ap saved e)) ∙ h in cc)
        cases (suc n) e =
            let some : 0 < saving_in savings division = omega (arith, e) in
            (some, ap (λ (one : Reverse ℕ). one.0) (same_Some (reversed (saving_in savings division)) rank (sym (rank_some division some) ∙ h)))

    pub none_best : ((division : Division) (rank : Reverse ℕ) → May division → ranks_in entries division ≡ Some rank → ⊥) → (place by : ℕ) → worths place by ≡ 0
    none_best fail place by = cases (led by place) refl (savings place by) refl
      where
        cases : (b : Bool) → led by place ≡ b → (n : ℕ) → savings place by ≡ n → worths place by ≡ 0
        cases true e n f = none place by e
        cases false e zero f = whole place by e ∙ f
        cases false e (suc n) f = absurd (fail (record { place = place; by = by }) (reversed (savings place by)) e (rank_some (record { place = place; by = by }) (omega (arith, f))))

    pub first_best : (division : Division) → IsBest greatest_cmp division_cmp (ranks_in entries) May division → May division → IsFirst worths division
    first_best division best may = record {
      saves = (let some = told.0 in omega (arith, some, here));
      most = λ place by. most place by (led by place) refl (savings place by) refl;
      first = λ place by equal ahead. first place by equal ahead (led by place) refl;
    }
      where
        told : (0 < saving_in savings division) × (saving_in savings division ≡ best.rank.0)
        told = rank_told division best.rank best.here

        here : saving_in worths division ≡ saving_in savings division
        here = whole division.place division.by may

        most : (place by : ℕ) (b : Bool) → led by place ≡ b → (n : ℕ) → savings place by ≡ n → worths place by ≤ saving_in worths division
        most place by true e n f = let z = none place by e in omega (arith, z)
        most place by false e zero f = let z = whole place by e in omega (arith, z, f)
        most place by false e (suc n) f =
            let z = whole place by e in
            let rank = told.1 in
            let beyond : best.rank.0 < savings place by → ⊥ =
            λ lt. best.no_lesser (record { place = place; by = by }) (reversed (savings place by)) e (rank_some (record { place = place; by = by }) (omega (arith, f))) (below best.rank.0 (savings place by) lt) in
            omega (arith, z, rank, here, beyond)

        first : (place by : ℕ) → worths place by ≡ saving_in worths division → IsAhead place by division → (b : Bool) → led by place ≡ b → ⊥
        first place by equal ahead true e = let z = none place by e in let some = told.0 in omega (arith, z, equal, here, some)
        first place by equal ahead false e =
            let z = whole place by e in
            let some = told.0 in
            let rank = told.1 in
            let same : savings place by ≡ best.rank.0 = omega (arith, z, equal, here, rank) in
            best.no_earlier (record { place = place; by = by }) e (rank_some (record { place = place; by = by }) (omega (arith, some, rank, same)) ∙ ap (λ (n : ℕ). Some (reversed n)) same)
            (ahead_less (record { place = place; by = by }) division ahead)
