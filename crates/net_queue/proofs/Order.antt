-- An order after the rank of one key changes, and what its first key says of the ranks.
use Rattle.std.proofs.Common.{◌≡◌, ◌↔◌, ℕ, ◌<◌, zero, suc, [], ◌∷◌, length, slice_get, arith, Bool, true, false, ◌&&◌, cond, Option, Some, None, List, Ordering, Less, Greater, refl, sym, ap, ◌∙◌}
use Rattle.std.specs.BTreeSet.{BTreeSet, contains, Updates, IsOrdered, IsLowerBound}
use Rattle.std.specs.Cmp.{IsTotalOrder, both_tied, Equal-is}
use Rattle.std.specs.List.{Contains}
use Rattle.std.specs.Map.{lookup}
use Rattle.std.specs.Option.{option_eq, option_map_or}
use Rattle.std.specs.Ordering.{is_eq, is_gt, ordering_then, ordering_reverse}
use Rattle.std.proofs.lemmas.Bool.{false≢true}
use Rattle.std.proofs.lemmas.Cmp.{tied_itself, on_total, then_total}
use Rattle.std.proofs.lemmas.Map.Lookups.{CmpEqualImpliesEq, exact_pairs}
use Rattle.std.proofs.lemmas.Map.Views.{btree_set_contains_iff}
use Rattle.net_queue.specs.Queue.{ranked_cmp, is_rank, rank_in, IsOrder, AreRanked, IsBest}

-- what a ranking guarantees of keys and ranks
pub record AreExact {K R : Type 0} (eq : K → K → Bool) (rank_cmp : R → R → Ordering) (key_cmp : K → K → Ordering) : Type 0 where
  pub rank_total : IsTotalOrder rank_cmp
  pub key_total : IsTotalOrder key_cmp
  pub ties : (one other : K) → eq one other ≡ is_eq (key_cmp one other)
  pub ranks_exact : CmpEqualImpliesEq rank_cmp
  pub keys_exact : CmpEqualImpliesEq key_cmp

and_true : (a : Bool) → (a && true) ≡ a
and_true true = refl
and_true false = refl

and_false : (a : Bool) → (a && false) ≡ false
and_false true = refl
and_false false = refl

some_none : {X : Type 0} (x : X) → Some x ≡ None → ⊥
some_none x e = cc

-- each index has an entry
pub entry_at : {X : Type 0} (xs : List X) (index : ℕ) → index < length xs → (x : X) × (slice_get xs index ≡ Some x)
entry_at [] index lt = absurd (omega (arith, lt))
entry_at (x ∷ xs) zero lt = (x, refl)
entry_at (x ∷ xs) (suc index) lt = entry_at xs index (omega (arith, lt))

module _ {K R : Type 0} {eq : K → K → Bool} {rank_cmp : R → R → Ordering} {key_cmp : K → K → Ordering} (laws : AreExact eq rank_cmp key_cmp) where
  pub same_key : (one other : K) → eq one other ≡ true → one ≡ other
  same_key one other h = laws.keys_exact one other ((Equal-is (key_cmp one other)).0 (sym (laws.ties one other) ∙ h))

  pub key_itself : (key : K) → eq key key ≡ true
  key_itself key = laws.ties key key ∙ ap is_eq (tied_itself laws.key_total key)

  rank_itself : (rank : R) → is_eq (rank_cmp rank rank) ≡ true
  rank_itself rank = ap is_eq (tied_itself laws.rank_total rank)

  tested : (rank that : R) (key other : K) → is_eq (ordering_then (rank_cmp rank that) (key_cmp key other)) ≡ (is_eq (rank_cmp rank that) && eq key other)
  tested rank that key other = sym (both_tied (is_eq (rank_cmp rank that)) (eq key other) (rank_cmp rank that) (key_cmp key other) refl (laws.ties key other))

  -- an order by ranks is an order by any ranks that are equal to them
  pub order_same : (ranks others : K → Option R) (order : BTreeSet (R × K)) → ((key : K) → ranks key ≡ others key) → IsOrder rank_cmp key_cmp ranks order → IsOrder rank_cmp key_cmp others order
  order_same ranks others order same is rank key = is rank key ∙ ap (λ (own : Option R). is_rank rank_cmp own rank) (same key)

  module _ (ranks : K → Option R) (key : K) where
    -- the key with another rank, or none
    abbrev pub with_rank : Option R → K → Option R
    with_rank rank other = cond (eq key other) rank (ranks other)

    own_rank : (other : K) (rank : Option R) → ranks key ≡ rank → eq key other ≡ true → ranks other ≡ rank
    own_rank other rank has e = ap ranks (sym (same_key key other e)) ∙ has

    -- the rank that the key already has
    pub rank_still : (rank : Option R) → ranks key ≡ rank → (other : K) → ranks other ≡ with_rank rank other
    rank_still rank has other = cases (eq key other) refl
      where
        cases : (b : Bool) → eq key other ≡ b → ranks other ≡ cond b rank (ranks other)
        cases true e = own_rank other rank has e
        cases false e = refl

    -- a rank is removed
    pub rank_gone : (before after : BTreeSet (R × K)) (rank : R) → IsOrder rank_cmp key_cmp ranks before → ranks key ≡ Some rank → Updates (ranked_cmp rank_cmp key_cmp) before after (rank, key) false
        → IsOrder rank_cmp key_cmp (with_rank None) after
    rank_gone before after rank is has updates that other =
        updates.0 (that, other)
        ∙ (ap (λ (b : Bool). cond b false (contains (ranked_cmp rank_cmp key_cmp) before (that, other))) (tested rank that key other)
        ∙ (ap (cond (is_eq (rank_cmp rank that) && eq key other) false) (is that other) ∙ cases (eq key other) refl))
      where
        gone : (a : Bool) → cond a false a ≡ false
        gone true = refl
        gone false = refl

        cases : (b : Bool) → eq key other ≡ b → cond (is_eq (rank_cmp rank that) && b) false (is_rank rank_cmp (ranks other) that) ≡ is_rank rank_cmp (cond b None (ranks other)) that
        cases true e =
            ap (λ (a : Bool). cond a false (is_rank rank_cmp (ranks other) that)) (and_true (is_eq (rank_cmp rank that)))
            ∙ (ap (λ (own : Option R). cond (is_eq (rank_cmp rank that)) false (is_rank rank_cmp own that)) (own_rank other (Some rank) has e) ∙ gone (is_eq (rank_cmp rank that)))
        cases false e = ap (λ (a : Bool). cond a false (is_rank rank_cmp (ranks other) that)) (and_false (is_eq (rank_cmp rank that)))

    -- a rank is added
    pub rank_come : (before after : BTreeSet (R × K)) (rank : R) → IsOrder rank_cmp key_cmp ranks before → ranks key ≡ None → Updates (ranked_cmp rank_cmp key_cmp) before after (rank, key) true
        → IsOrder rank_cmp key_cmp (with_rank (Some rank)) after
    rank_come before after rank is has updates that other =
        updates.0 (that, other)
        ∙ (ap (λ (b : Bool). cond b true (contains (ranked_cmp rank_cmp key_cmp) before (that, other))) (tested rank that key other)
        ∙ (ap (cond (is_eq (rank_cmp rank that) && eq key other) true) (is that other) ∙ cases (eq key other) refl))
      where
        come : (a : Bool) → cond a true false ≡ a
        come true = refl
        come false = refl

        cases : (b : Bool) → eq key other ≡ b → cond (is_eq (rank_cmp rank that) && b) true (is_rank rank_cmp (ranks other) that) ≡ is_rank rank_cmp (cond b (Some rank) (ranks other)) that
        cases true e =
            ap (λ (a : Bool). cond a true (is_rank rank_cmp (ranks other) that)) (and_true (is_eq (rank_cmp rank that)))
            ∙ (ap (λ (own : Option R). cond (is_eq (rank_cmp rank that)) true (is_rank rank_cmp own that)) (own_rank other None has e) ∙ come (is_eq (rank_cmp rank that)))
        cases false e = ap (λ (a : Bool). cond a true (is_rank rank_cmp (ranks other) that)) (and_false (is_eq (rank_cmp rank that)))

    -- a rank added after one was removed
    pub rank_changed : (rank : Option R) (other : K) → cond (eq key other) rank (with_rank None other) ≡ with_rank rank other
    rank_changed rank other = cases (eq key other) refl
      where
        cases : (b : Bool) → eq key other ≡ b → cond b rank (with_rank None other) ≡ cond b rank (ranks other)
        cases true e = refl
        cases false e = ap (λ (b : Bool). cond b None (ranks other)) e

    -- a rank is removed, and another one added for the same key
    pub rank_renewed : (between after : BTreeSet (R × K)) (rank : Option R) → IsOrder rank_cmp key_cmp (with_rank None) between
        → ((others : K → Option R) → IsOrder rank_cmp key_cmp others between → others key ≡ None → IsOrder rank_cmp key_cmp (λ other. cond (eq key other) rank (others other)) after)
        → IsOrder rank_cmp key_cmp (with_rank rank) after
    rank_renewed between after rank is put =
        order_same (λ other. cond (eq key other) rank (with_rank None other)) (with_rank rank) after (rank_changed rank)
        (put (with_rank None) is (ap (λ (b : Bool). cond b None (ranks key)) (key_itself key)))

  -- ranks that compare equal are the same
  pub same_rank : {rank_eq : R → R → Bool} → ((one other : R) → rank_eq one other ≡ is_eq (rank_cmp one other)) → (one other : Option R) → option_eq rank_eq one other ≡ true → one ≡ other
  same_rank ties None None h = refl
  same_rank ties None (Some other) h = absurd (false≢true h)
  same_rank ties (Some one) None h = absurd (false≢true h)
  same_rank ties (Some one) (Some other) h = ap Some (laws.ranks_exact one other ((Equal-is (rank_cmp one other)).0 (sym (ties one other) ∙ h)))

  -- the ranks of values of which one is changed
  pub ranks_with : {V : Type 0} (rank_of : K → V → Option R) (before after : List (K × V)) (key : K) (value : Option V)
      → ((other : K) → lookup (eq other) after ≡ cond (eq key other) value (lookup (eq other) before))
      → (other : K) → cond (eq key other) (option_map_or (rank_of key) value None) (rank_in eq rank_of before other) ≡ rank_in eq rank_of after other
  ranks_with rank_of before after key value set other = cases (eq key other) refl ∙ sym (ap (λ found. option_map_or (rank_of other) found None) (set other))
    where
      cases : (b : Bool) → eq key other ≡ b
          → cond b (option_map_or (rank_of key) value None) (rank_in eq rank_of before other) ≡ option_map_or (rank_of other) (cond b value (lookup (eq other) before)) None
      cases true e = ap (λ one. option_map_or (rank_of one) value None) (same_key key other e)
      cases false e = refl

  -- ---- what an order says of ranks

  module _ (ranks : K → Option R) (order : BTreeSet (R × K)) (is : IsOrder rank_cmp key_cmp ranks order) where
    there : (rank : R) (key : K) → ranks key ≡ Some rank → contains (ranked_cmp rank_cmp key_cmp) order (rank, key) ≡ true
    there rank key has = is rank key ∙ (ap (λ (own : Option R). is_rank rank_cmp own rank) has ∙ rank_itself rank)

    told : (rank : R) (key : K) → contains (ranked_cmp rank_cmp key_cmp) order (rank, key) ≡ true → ranks key ≡ Some rank
    told rank key h = cases (ranks key) refl
      where
        cases : (own : Option R) → ranks key ≡ own → ranks key ≡ Some rank
        cases None e = absurd (false≢true (sym (is rank key ∙ ap (λ (own : Option R). is_rank rank_cmp own rank) e) ∙ h))
        cases (Some own) e = e ∙ ap Some (laws.ranks_exact own rank ((Equal-is (rank_cmp own rank)).0 (sym (is rank key ∙ ap (λ (own : Option R). is_rank rank_cmp own rank) e) ∙ h)))

    -- the order as a list
    pub order_listed : IsOrdered (ranked_cmp rank_cmp key_cmp) order → AreRanked rank_cmp key_cmp ranks order.keys
    order_listed ordered = record {
      all = λ rank key has. (members (rank, key)).0 (there rank key has);
      only = λ rank key h. told rank key ((members (rank, key)).1 h);
      rise = ordered;
    }
      where
        members : (one : R × K) → (contains (ranked_cmp rank_cmp key_cmp) order one ≡ true) ↔ Contains order.keys one
        members =
            btree_set_contains_iff (then_total (on_total (λ (one : R × K). one.0) laws.rank_total) (on_total (λ (one : R × K). one.1) laws.key_total))
            (exact_pairs rank_cmp key_cmp laws.ranks_exact laws.keys_exact) order

    -- an empty order, and its first key
    pub order_empty : ((rank : R) (key : K) → contains (ranked_cmp rank_cmp key_cmp) order (rank, key) ≡ false) → (key : K) → ranks key ≡ None
    order_empty none key = cases (ranks key) refl
      where
        cases : (own : Option R) → ranks key ≡ own → ranks key ≡ None
        cases None e = e
        cases (Some rank) e = absurd (false≢true (sym (none rank key) ∙ there rank key e))

    pub order_first : (found : R × K) → contains (ranked_cmp rank_cmp key_cmp) order found ≡ true → IsLowerBound (ranked_cmp rank_cmp key_cmp) order found → IsBest rank_cmp key_cmp ranks (λ (key : K). Unit {0}) found.1
    order_first found has bound = record {
      rank = found.0;
      here = told found.0 found.1 has;
      no_lesser = λ other that passes e less. false≢true (sym (bound (that, other) (there that other e)) ∙ ap is_gt (ap (λ (o : Ordering). ordering_then o (key_cmp found.1 other)) (back found.0 that less)));
      no_earlier = λ other passes e less.
          false≢true (sym (bound (found.0, other) (there found.0 other e))
          ∙ (ap is_gt (ap (λ (o : Ordering). ordering_then o (key_cmp found.1 other)) (tied_itself laws.rank_total found.0))
          ∙ ap is_gt (laws.key_total.antisymm found.1 other ∙ ap ordering_reverse less)));
    }
      where
        back : (one other : R) → rank_cmp other one ≡ Less → rank_cmp one other ≡ Greater
        back one other less = laws.rank_total.antisymm one other ∙ ap ordering_reverse less
