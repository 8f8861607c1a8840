-- The work that is left falls.
use Rattle.std.proofs.Common.{◌≡◌, ℕ, zero, suc, ◌+◌, ◌-◌, ◌*◌, ◌<◌, ◌≤◌, ◌⊎◌, inl, inr, List, [], ◌∷◌, ◌++◌, reverse, refl, ap, sym, subst, arith}
use Rattle.std.proofs.lemmas.List.{reverse-append}
use Rattle.func_shared.specs.Answers.{cost, frame_cost, stack_cost}
use Rattle.func_shared.specs.declared.answering.Frame.{Frame}
use Rattle.func_shared.specs.declared.answering.Frame.TheVariants.{Low, High}
use Rattle.func_shared.specs.declared.cache.Pair.{Pair}

cost_next : (n : ℕ) → cost (suc n) ≡ 2 * cost n + 3
unfolding cost
cost_next n = refl

pub cost_some : (n : ℕ) → 0 < cost n
unfolding cost
cost_some zero = omega arith
cost_some (suc n) = omega arith

cost_more : (a k : ℕ) → cost a ≤ cost (k + a)
cost_more a zero = let e : zero + a ≡ a = omega arith in rw e (omega arith)
cost_more a (suc k) =
    let e : suc k + a ≡ suc (k + a) = omega arith in
    rw e (omega (arith, cost_more a k, cost_next (k + a)))

cost_least : (a b : ℕ) → a ≤ b → cost a ≤ cost b
cost_least a b h =
    let e : (b - a) + a ≡ b = omega arith in
    subst (λ (n : ℕ). cost a ≤ cost n) e (cost_more a (b - a))

-- two halves cost less than the whole, together with the cost of their frame
pub halves_cost : (low high whole : ℕ) → low < whole → high < whole →
    cost low + (cost high + 2) < cost whole
halves_cost low high zero p q = absurd (omega arith)
halves_cost low high (suc n) p q =
    omega (arith, cost_least low n (omega arith), cost_least high n (omega arith), cost_next n)

pub push_cost : (frames : List Frame) (frame : Frame) →
    stack_cost (reverse (frames ++ frame ∷ [])) ≡ frame_cost frame + stack_cost (reverse frames)
push_cost frames frame = rw (reverse-append frames (frame ∷ [])) refl

-- the work left after the low halves of a pair are asked for, and after its high halves are
pub asks_falls : (frames new : List Frame) (pair asked low high : Pair) (place : ℕ) →
    new ≡ frames ++ Low pair place high ∷ [] →
    (pair ≡ asked) ⊎ ((pair.left ≡ asked.right) × (pair.right ≡ asked.left)) →
    low.left + low.right < pair.left + pair.right →
    high.left + high.right < pair.left + pair.right →
    cost (low.left + low.right) + stack_cost (reverse new)
    < cost (asked.left + asked.right) + stack_cost (reverse frames)
asks_falls frames new pair asked low high place e turned p q =
    let same : asked.left + asked.right ≡ pair.left + pair.right = sum turned in
    let less : cost (low.left + low.right) + (cost (high.left + high.right) + 2)
    < cost (pair.left + pair.right) =
    halves_cost (low.left + low.right) (high.left + high.right) (pair.left + pair.right) p q in
    rw (e, same) (omega (arith, push_cost frames (Low pair place high), less))
  where
    sum : (pair ≡ asked) ⊎ ((pair.left ≡ asked.right) × (pair.right ≡ asked.left)) →
        asked.left + asked.right ≡ pair.left + pair.right
    sum (inl e) = ap (λ (p : Pair). p.left + p.right) (sym e)
    sum (inr e) = let f = e.0 in let g = e.1 in omega (arith, f, g)

pub turns_falls : (frames new : List Frame) (pair high : Pair) (place number : ℕ) →
    new ≡ frames ++ High pair place number ∷ [] →
    cost (high.left + high.right) + stack_cost (reverse new)
    < frame_cost (Low pair place high) + stack_cost (reverse frames)
turns_falls frames new pair high place number e =
    rw e (omega (arith, push_cost frames (High pair place number)))
