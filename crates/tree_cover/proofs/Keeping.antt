-- Choices in flat lists: what is read of them, and one more behind them.
use Rattle.std.proofs.Common.{◌≡◌, ℕ, zero, suc, ◌+◌, ◌-◌, ◌≤◌, List, [], ◌∷◌, ◌++◌, length, take, drop, get_or, refl, ap, ◌∙◌, arith, length-append}
use Rattle.std.specs.List.{AllByRecursion}
use Rattle.std.proofs.lemmas.List.{length-drop, take_all, take-append-le, drop_at, drop-append-le}
use Rattle.tree_cover.specs.declared.choice.Choice.{Choice}
use Rattle.tree_cover.specs.Candidates.{choice_at, cost_at}
use Rattle.tree_cover.specs.Flat.{part, start_at, choices_in, AreFlat}

-- there is no list of none that has as many items as one with some
short : (n : ℕ) → 0 ≡ suc n → ⊥
short n e = omega (arith, e)

long : (n : ℕ) → suc n ≡ 0 → ⊥
long n e = omega (arith, e)

count_at : (costs places starts pins : List ℕ) → length places ≡ length costs → length starts ≡ length costs → length (choices_in costs places starts pins) ≡ length costs
unfolding choices_in
count_at [] places starts pins e f = refl
count_at (c ∷ cs) [] starts pins e f = absurd (short (length cs) e)
count_at (c ∷ cs) (p ∷ ps) [] pins e f = absurd (short (length cs) f)
count_at (c ∷ cs) (p ∷ ps) (s ∷ ss) pins e f = ap (λ (n : ℕ). suc n) (count_at cs ps ss pins (omega (arith, e)) (omega (arith, f)))

cost_read : (costs places starts pins : List ℕ) (n : ℕ) → length places ≡ length costs → length starts ≡ length costs → cost_at (choices_in costs places starts pins) n ≡ get_or costs n 0
unfolding choices_in
cost_read [] places starts pins n e f = refl
cost_read (c ∷ cs) [] starts pins n e f = absurd (short (length cs) e)
cost_read (c ∷ cs) (p ∷ ps) [] pins n e f = absurd (short (length cs) f)
cost_read (c ∷ cs) (p ∷ ps) (s ∷ ss) pins zero e f = refl
cost_read (c ∷ cs) (p ∷ ps) (s ∷ ss) pins (suc n) e f = cost_read cs ps ss pins n (omega (arith, e)) (omega (arith, f))

place_read : (costs places starts pins : List ℕ) (n : ℕ) → length places ≡ length costs → length starts ≡ length costs → (choice_at (choices_in costs places starts pins) n).place ≡ get_or places n 0
unfolding choices_in
place_read [] [] starts pins n e f = refl
place_read [] (p ∷ ps) starts pins n e f = absurd (long (length ps) e)
place_read (c ∷ cs) [] starts pins n e f = absurd (short (length cs) e)
place_read (c ∷ cs) (p ∷ ps) [] pins n e f = absurd (short (length cs) f)
place_read (c ∷ cs) (p ∷ ps) (s ∷ ss) pins zero e f = refl
place_read (c ∷ cs) (p ∷ ps) (s ∷ ss) pins (suc n) e f = place_read cs ps ss pins n (omega (arith, e)) (omega (arith, f))

nothing : (k : ℕ) (pins : List ℕ) → [] ≡ part k k pins
nothing k pins =
    let none : 0 ≡ k - k = omega arith in
    ap (λ (n : ℕ). take n (drop k pins)) none

pins_read : (costs places starts pins : List ℕ) (n : ℕ) → length places ≡ length costs → length starts ≡ length costs
    → (choice_at (choices_in costs places starts pins) n).pins ≡ part (start_at starts pins n) (start_at starts pins (suc n)) pins
unfolding choices_in
pins_read [] places [] pins n e f = nothing (length pins) pins
pins_read [] places (s ∷ ss) pins n e f = absurd (long (length ss) f)
pins_read (c ∷ cs) [] starts pins n e f = absurd (short (length cs) e)
pins_read (c ∷ cs) (p ∷ ps) [] pins n e f = absurd (short (length cs) f)
pins_read (c ∷ cs) (p ∷ ps) (s ∷ ss) pins zero e f = refl
pins_read (c ∷ cs) (p ∷ ps) (s ∷ ss) pins (suc n) e f = pins_read cs ps ss pins n (omega (arith, e)) (omega (arith, f))

module _ (costs places starts pins : List ℕ) (flat : AreFlat costs places starts pins) where
  pub choices_count : length (choices_in costs places starts pins) ≡ length costs
  choices_count = count_at costs places starts pins flat.gates flat.beginnings

  pub cost_in : (n : ℕ) → cost_at (choices_in costs places starts pins) n ≡ get_or costs n 0
  cost_in n = cost_read costs places starts pins n flat.gates flat.beginnings

  pub place_in : (n : ℕ) → (choice_at (choices_in costs places starts pins) n).place ≡ get_or places n 0
  place_in n = place_read costs places starts pins n flat.gates flat.beginnings

  pub pins_in : (n : ℕ) → (choice_at (choices_in costs places starts pins) n).pins ≡ part (start_at starts pins n) (start_at starts pins (n + 1)) pins
  pins_in n =
      let next : suc n ≡ n + 1 = omega arith in
      pins_read costs places starts pins n flat.gates flat.beginnings ∙ ap (λ (k : ℕ). part (start_at starts pins n) (start_at starts pins k) pins) next

start_least : (starts pins : List ℕ) (n : ℕ) → AllByRecursion (λ start. start ≤ length pins) starts → start_at starts pins n ≤ length pins
start_least [] pins n all = omega arith
start_least (s ∷ ss) pins zero all = all.0
start_least (s ∷ ss) pins (suc n) all = start_least ss pins n all.1

-- without costs there are no choices
pub none_in : (costs places starts pins : List ℕ) → costs ≡ [] → choices_in costs places starts pins ≡ []
unfolding choices_in
none_in costs places starts pins e = ap (λ (cs : List ℕ). choices_in cs places starts pins) e

-- no pins begin past the last
pub starts_within : (costs places starts pins : List ℕ) → AreFlat costs places starts pins → (n : ℕ) → start_at starts pins n ≤ length pins
starts_within costs places starts pins flat n = start_least starts pins n flat.within

-- pins that come behind change none of those before them, and are the last ones
part_kept : (pins more : List ℕ) (start end : ℕ) → start ≤ length pins → end ≤ length pins → part start end (pins ++ more) ≡ part start end pins
part_kept pins more start end low high =
    let fits : end - start ≤ length (drop start pins) = omega (arith, low, high, length-drop start pins) in
    ap (take (end - start)) (drop-append-le start pins more low) ∙ take-append-le (end - start) (drop start pins) more fits

part_last : (pins more : List ℕ) → part (length pins) (length (pins ++ more)) (pins ++ more) ≡ more
part_last pins more =
    let all : length more ≤ length (pins ++ more) - length pins = omega (arith, length-append pins more) in
    ap (take (length (pins ++ more) - length pins)) (drop_at pins more (length pins) refl) ∙ take_all (length (pins ++ more) - length pins) more all

next_kept : (starts pins more : List ℕ) → start_at (starts ++ length pins ∷ []) (pins ++ more) 0 ≡ start_at starts pins 0
next_kept [] pins more = refl
next_kept (s ∷ ss) pins more = refl

more_in : (costs places starts pins more : List ℕ) (cost place : ℕ) → length places ≡ length costs → length starts ≡ length costs → AllByRecursion (λ start. start ≤ length pins) starts
    → choices_in (costs ++ cost ∷ []) (places ++ place ∷ []) (starts ++ length pins ∷ []) (pins ++ more) ≡ choices_in costs places starts pins ++ record { cost = cost; place = place; pins = more } ∷ []
unfolding choices_in
more_in [] [] [] pins more cost place e f all = ap (λ (xs : List ℕ). record { cost = cost; place = place; pins = xs } ∷ []) (part_last pins more)
more_in [] (p ∷ ps) starts pins more cost place e f all = absurd (long (length ps) e)
more_in [] [] (s ∷ ss) pins more cost place e f all = absurd (long (length ss) f)
more_in (c ∷ cs) [] starts pins more cost place e f all = absurd (short (length cs) e)
more_in (c ∷ cs) (p ∷ ps) [] pins more cost place e f all = absurd (short (length cs) f)
more_in (c ∷ cs) (p ∷ ps) (s ∷ ss) pins more cost place e f all =
    ap (λ (xs : List ℕ). record { cost = c; place = p; pins = xs } ∷ choices_in (cs ++ cost ∷ []) (ps ++ place ∷ []) (ss ++ length pins ∷ []) (pins ++ more))
    (ap (λ (end : ℕ). part s end (pins ++ more)) (next_kept ss pins more) ∙ part_kept pins more s (start_at ss pins 0) all.0 (start_least ss pins 0 all.1))
    ∙ ap (λ (cs : List Choice). record { cost = c; place = p; pins = part s (start_at ss pins 0) pins } ∷ cs) (more_in cs ps ss pins more cost place (omega (arith, e)) (omega (arith, f)) all.1)

within_more : (starts pins more : List ℕ) → AllByRecursion (λ start. start ≤ length pins) starts → AllByRecursion (λ start. start ≤ length (pins ++ more)) (starts ++ length pins ∷ [])
within_more [] pins more all = (omega (arith, length-append pins more), tt)
within_more (s ∷ ss) pins more all = (omega (arith, length-append pins more, all.0), within_more ss pins more all.1)

-- one choice more
module _ (costs places starts pins more : List ℕ) (cost place start : ℕ) (flat : AreFlat costs places starts pins) (at : start ≡ length pins) where
  pub choices_more : choices_in (costs ++ cost ∷ []) (places ++ place ∷ []) (starts ++ start ∷ []) (pins ++ more)
      ≡ choices_in costs places starts pins ++ record { cost = cost; place = place; pins = more } ∷ []
  choices_more = rw at (more_in costs places starts pins more cost place flat.gates flat.beginnings flat.within)

  pub flat_more : AreFlat (costs ++ cost ∷ []) (places ++ place ∷ []) (starts ++ start ∷ []) (pins ++ more)
  flat_more =
      rw at (record {
        gates = omega (arith, length-append costs (cost ∷ []), length-append places (place ∷ []), flat.gates);
        beginnings = omega (arith, length-append costs (cost ∷ []), length-append starts (length pins ∷ []), flat.beginnings);
        within = within_more starts pins more flat.within;
      })
