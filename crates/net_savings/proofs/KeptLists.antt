-- What tables give by themselves, kept while tables are added and change.
use Rattle.std.proofs.Common.{◌≡◌, ℕ, ◌<◌, zero, suc, Option, Some, None, List, [], ◌∷◌, ◌++◌, length, set, slice_get, refl, sym, ap, subst, arith}
use Rattle.std.proofs.lemmas.List.{length-set, length-append}
use Rattle.std.proofs.lemmas.Option.{none-some, same_Some}
use Rattle.circuit_model.specs.declared.circuit.Table.{Table}
use Rattle.net_candidates.specs.declared.rule.Rule.{Rule}
use Rattle.cover_names.specs.Literals.{NamedCover}
use Rattle.net_core.proofs.Lookups.{get_set_other}
use Rattle.net_work.specs.Placed.{joined, table_at}
use Rattle.net_savings.specs.Listing.{AreKept, AreOwn}

-- what is left after an index is cleared
pub cleared : (lists : List (Option (List NamedCover))) (place at : ℕ) (covers : List NamedCover) → slice_get (set lists place None) at ≡ Some (Some covers)
    → (slice_get lists at ≡ Some (Some covers)) × (at ≡ place → ⊥)
cleared [] place at covers e = absurd (none-some (Some covers) e)
cleared (first ∷ lists) zero zero covers e = absurd (none-some covers (same_Some None (Some covers) e))
cleared (first ∷ lists) zero (suc at) covers e = (e, λ same. absurd (omega (arith, same)))
cleared (first ∷ lists) (suc place) zero covers e = (e, λ same. absurd (omega (arith, same)))
cleared (first ∷ lists) (suc place) (suc at) covers e =
    let rest = cleared lists place at covers e in
    (rest.0, λ same. rest.1 (omega (arith, same)))

pub within : {X : Type 0} (xs : List X) (at : ℕ) (x : X) → slice_get xs at ≡ Some x → at < length xs
within [] at x e = absurd (none-some x e)
within (first ∷ xs) zero x e = omega arith
within (first ∷ xs) (suc at) x e = let below : at < length xs = within xs at x e in omega (arith, below)

pub before : (slots : List (Option Table)) (slot : Option Table) (at : ℕ) → at < length slots → table_at (slots ++ slot ∷ []) at ≡ table_at slots at
before [] slot at below = absurd (omega (arith, below))
before (first ∷ slots) slot zero below = refl
before (first ∷ slots) slot (suc at) below = before slots slot at (omega (arith, below))

module _ (rule : Rule) (slots : List (Option Table)) (lists : List (Option (List NamedCover))) (kept : AreKept rule slots lists) where
  pub kept_set : (place : ℕ) (slot : Option Table) → AreKept rule (set slots place slot) (set lists place None)
  kept_set place slot = record {
    long = (let long : length (set lists place None) ≡ length lists = length-set lists place None in
        let other : length (set slots place slot) ≡ length slots = length-set slots place slot in
        omega (arith, long, other, kept.long));
    each = λ at covers e.
        (let left = cleared lists place at covers e in
        subst (λ (s : Option Table). AreOwn rule s covers) (sym (ap joined (get_set_other slots place at slot left.1))) (kept.each at covers left.0));
  }

  pub kept_push : (slot : Option Table) → AreKept rule (slots ++ slot ∷ []) lists
  kept_push slot = record {
    long = omega (arith, kept.long, length-append slots (slot ∷ []));
    each = λ at covers e.
        (let below : at < length lists = within lists at (Some covers) e in
        subst (λ (s : Option Table). AreOwn rule s covers) (sym (before slots slot at (omega (arith, below, kept.long)))) (kept.each at covers e));
  }
