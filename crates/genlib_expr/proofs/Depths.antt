-- The depth of tokens, token by token.
use Rattle.std.proofs.Common.{◌≡◌, ℕ, ◌+◌, ◌<◌, ◌≤◌, max, List, [], ◌∷◌, length, drop, get_or, refl, sym, ◌∙◌, ap, arith}
use Rattle.std.proofs.lemmas.List.{drop_more, drop_all}
use Rattle.genlib_expr.specs.declared.token.Token.{Token}
use Rattle.genlib_expr.specs.Text.{level_behind, depth_from}

level_least : (level : ℕ) (ts : List Token) → level ≤ depth_from level ts
unfolding depth_from
level_least level [] = omega arith
level_least level (t ∷ ts) = omega arith

depth_more : (level i : ℕ) (ts : List Token) (d : Token) → i < length ts → depth_from level (drop i ts) ≡ max level (depth_from (level_behind level (get_or ts i d)) (drop (i + 1) ts))
unfolding depth_from
depth_more level i ts d h = rw (drop_more ts i d h) refl

pub depth_step : (level next deepest deeper whole i : ℕ) (ts : List Token) (d : Token) → deeper ≡ max deepest next → max deepest (depth_from level (drop i ts)) ≡ whole → level ≤ deepest → i < length ts → next ≡ level_behind level (get_or ts i d) → max deeper (depth_from next (drop (i + 1) ts)) ≡ whole
depth_step level next deepest deeper whole i ts d larger is seen inside e =
    let more : depth_from level (drop i ts) ≡ max level (depth_from next (drop (i + 1) ts)) = depth_more level i ts d inside ∙ ap (λ (n : ℕ). max level (depth_from n (drop (i + 1) ts))) (sym e) in
    let least : next ≤ depth_from next (drop (i + 1) ts) = level_least next (drop (i + 1) ts) in
    omega (arith, larger, more, least, is)

pub depth_done : (level deepest whole i : ℕ) (ts : List Token) → max deepest (depth_from level (drop i ts)) ≡ whole → level ≤ deepest → length ts ≤ i → deepest ≡ whole
unfolding depth_from
depth_done level deepest whole i ts is seen end =
    let last : depth_from level (drop i ts) ≡ level = ap (depth_from level) (drop_all i ts end) in
    omega (arith, last, is)
