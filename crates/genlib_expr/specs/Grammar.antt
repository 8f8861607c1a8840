-- Which tokens spell which formula. Source: the genlib format of SIS (UCB/ERL M92/41): `+` is the
-- sum, `*` or nothing the product, `!` in front or `'` after the complement; the complement binds
-- tightest, then the product, and both associate to the left. A part of a text is given by the
-- tokens that are left at its beginning and those that are left at its end.
use Rattle.std.specs.Prelude.{ℕ, Bool, List, [], ◌∷◌}
use Rattle.genlib_expr.specs.declared.token.Token.{Token}
use Rattle.genlib_expr.specs.declared.token.Token.TheVariants.{Constant, Name, Bang, Quote, Star, Plus, Open, Close}
use Rattle.genlib_expr.specs.Formula.{Formula, constant, pin, complement, product, sum}

mutual
  -- a sum is a product, or a sum, `+` and a product
  pub data IsSum : List Token → List Token → Formula → Type 0 where
    one_product : {ts us : List Token} {e : Formula} → IsProduct ts us e → IsSum ts us e
    plus : {ts us vs : List Token} {d e : Formula} → IsSum ts (Plus ∷ us) d → IsProduct us vs e → IsSum ts vs (sum d e)

  -- a product is a factor, or a product and a factor, with `*` or nothing between them
  pub data IsProduct : List Token → List Token → Formula → Type 0 where
    one_factor : {ts us : List Token} {e : Formula} → IsFactor ts us e → IsProduct ts us e
    star : {ts us vs : List Token} {d e : Formula} → IsProduct ts (Star ∷ us) d → IsFactor us vs e → IsProduct ts vs (product d e)
    beside : {ts us vs : List Token} {d e : Formula} → IsProduct ts us d → IsFactor us vs e → IsProduct ts vs (product d e)

  -- a factor is `!` and a factor, or a primary
  pub data IsFactor : List Token → List Token → Formula → Type 0 where
    bang : {ts us : List Token} {e : Formula} → IsFactor ts us e → IsFactor (Bang ∷ ts) us (complement e)
    one_primary : {ts us : List Token} {e : Formula} → IsPrimary ts us e → IsFactor ts us e

  -- a primary is a primary and `'`, a constant, a name, or a sum in parentheses
  pub data IsPrimary : List Token → List Token → Formula → Type 0 where
    quote : {ts us : List Token} {e : Formula} → IsPrimary ts (Quote ∷ us) e → IsPrimary ts us (complement e)
    one_constant : {us : List Token} (bit : Bool) → IsPrimary (Constant bit ∷ us) us (constant bit)
    one_name : {us : List Token} (place : ℕ) → IsPrimary (Name place ∷ us) us (pin place)
    parentheses : {ts us : List Token} {e : Formula} → IsSum ts (Close ∷ us) e → IsPrimary (Open ∷ ts) us e

-- all of the tokens spell a formula
abbrev pub Spells : List Token → Formula → Type 0
Spells tokens e = IsSum tokens [] e
