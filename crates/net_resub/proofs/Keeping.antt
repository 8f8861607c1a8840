-- The divisions in the queue: all of them at the start; those with a table, which are removed and
-- added; and the lists of tables.
use Rattle.std.proofs.Common.{◌≡◌, ℕ, ◌+◌, ◌≤◌, ◌==◌, Bool, true, false, ◌||◌, ◌&&◌, not, cond, ltb, eqb-true, Option, Some, List, [], set, length, refl, sym, ap, ◌∙◌, subst, arith}
use Rattle.std.proofs.lemmas.Bool.{lt-ltb, le-ltb, eqb-false, or_parts, not-true, ltb-true, ltb-false}
use Rattle.circuit_model.specs.declared.circuit.Table.{Table}
use Rattle.net_core.proofs.Lookups.{get_set_other}
use Rattle.net_work.specs.Placed.{Placed, joined, table_at, with_slot}
use Rattle.net_resub.specs.Candidates.{is_by, is_with}
use Rattle.net_resub.specs.Divisions.{is_among, saving_in, HasJust, AreJust}
use Rattle.net_resub.specs.Kept.{IsKeptBeside}
use Rattle.net_resub.specs.Pairs.{saving_between, saving_at}
use Rattle.net_resub.specs.declared.divisions.Division.{Division}
use Rattle.net_resub.specs.declared.kept.Kept.{Kept}
use Rattle.net_work.proofs.Indexed.{place_within}
use Rattle.net_resub.proofs.Saving.{saving_places}
use Rattle.net_resub.proofs.Sets.{just_none, just_told, just_moved}

-- ---- all divisions by the first tables

pub all_none : (slots : List (Option Table)) (divisions : List (Division × ℕ)) → divisions ≡ [] → HasJust (λ division. ltb division.by 0) (saving_at slots) divisions
all_none slots divisions none =
    just_told (λ division. false) (λ division. ltb division.by 0) (saving_at slots) divisions (λ division some. sym (le-ltb division.by 0 (omega arith))) (just_none (saving_at slots) divisions none)

below_or_there : (by count : ℕ) → (ltb by count || (count == by)) ≡ ltb by (count + 1)
below_or_there by count = cases (ltb by count) refl (count == by) refl
  where
    cases : (a : Bool) → ltb by count ≡ a → (b : Bool) → (count == by) ≡ b → (a || b) ≡ ltb by (count + 1)
    cases true e b f = let lt = ltb-true by count e in sym (lt-ltb by (count + 1) (omega (arith, lt)))
    cases false e true f = let same = eqb-true count by f in sym (lt-ltb by (count + 1) (omega (arith, same)))
    cases false e false f = let le = ltb-false by count e in let apart = eqb-false count by f in sym (le-ltb by (count + 1) (omega (arith, le, apart)))

pub all_more : (slots : List (Option Table)) (count : ℕ) (pairs : List Division) (divisions : List (Division × ℕ)) → AreJust (is_by count) (saving_at slots) pairs
    → HasJust (λ division. ltb division.by count || is_among pairs division) (saving_at slots) divisions → HasJust (λ division. ltb division.by (count + 1)) (saving_at slots) divisions
all_more slots count pairs divisions are =
    just_told (λ division. ltb division.by count || is_among pairs division) (λ division. ltb division.by (count + 1)) (saving_at slots) divisions
    (λ division some. ap (λ (b : Bool). ltb division.by count || b) (are division some) ∙ below_or_there division.by count)

pub all_there : (slots : List (Option Table)) (count : ℕ) (divisions : List (Division × ℕ)) → length slots ≤ count → HasJust (λ division. ltb division.by count) (saving_at slots) divisions
    → HasJust (λ division. true) (saving_at slots) divisions
all_there slots count divisions long =
    just_told (λ division. ltb division.by count) (λ division. true) (saving_at slots) divisions
    (λ division some.
    let at = saving_places slots division.place division.by some in
    let below = place_within slots division.by at.divisor at.there in
    lt-ltb division.by count (omega (arith, below, long)))

-- ---- those with a table

pub left_beside : (slots : List (Option Table)) (place : ℕ) (pairs : List Division) (divisions : List (Division × ℕ)) → AreJust (is_with place) (saving_at slots) pairs
    → HasJust (λ division. true && not (is_among pairs division)) (saving_at slots) divisions → HasJust (λ division. not (is_with place division)) (saving_at slots) divisions
left_beside slots place pairs divisions are =
    just_told (λ division. true && not (is_among pairs division)) (λ division. not (is_with place division)) (saving_at slots) divisions
    (λ division some. ap not (are division some))

pub come_whole : (slots : List (Option Table)) (place : ℕ) (pairs : List Division) (divisions : List (Division × ℕ)) → AreJust (is_with place) (saving_at slots) pairs
    → HasJust (λ division. not (is_with place division) || is_among pairs division) (saving_at slots) divisions → HasJust (λ division. true) (saving_at slots) divisions
come_whole slots place pairs divisions are =
    just_told (λ division. not (is_with place division) || is_among pairs division) (λ division. true) (saving_at slots) divisions
    (λ division some. ap (λ (b : Bool). not (is_with place division) || b) (are division some) ∙ either (is_with place division))
  where
    either : (b : Bool) → (not b || b) ≡ true
    either true = refl
    either false = refl

-- ---- a table is replaced by another one

table_stays : (slots : List (Option Table)) (place : ℕ) (slot : Option Table) (at : ℕ) → (at ≡ place → ⊥) → table_at (set slots place slot) at ≡ table_at slots at
table_stays slots place slot at apart = ap joined (get_set_other slots place at slot apart)

saving_stays : (slots : List (Option Table)) (place : ℕ) (slot : Option Table) (division : Division) → not (is_with place division) ≡ true
    → saving_in (saving_at slots) division ≡ saving_in (saving_at (set slots place slot)) division
unfolding saving_at
saving_stays slots place slot division apart =
    let both = or_parts (place == division.place) (place == division.by) (not-true (is_with place division) apart) in
    ap (λ (o : Option Table). cond {A = ℕ} (division.place == division.by) 0 (saving_between o (table_at slots division.by)))
    (sym (table_stays slots place slot division.place (λ same. eqb-false place division.place both.0 (sym same))))
    ∙ ap (λ (o : Option Table). cond {A = ℕ} (division.place == division.by) 0 (saving_between (table_at (set slots place slot) division.place) o))
    (sym (table_stays slots place slot division.by (λ same. eqb-false place division.by both.1 (sym same))))

beside_set : (slots : List (Option Table)) (place : ℕ) (slot : Option Table) (kept : Kept) → IsKeptBeside place slots kept → IsKeptBeside place (set slots place slot) kept
beside_set slots place slot kept is = record {
  divisions = just_moved (λ division. not (is_with place division)) (saving_at slots) (saving_at (set slots place slot)) kept.divisions (saving_stays slots place slot) is.divisions;
  lists = λ at table other there. is.lists at table other (sym (table_stays slots place slot at (λ same. eqb-false place at (not-true (place == at) other) (sym same))) ∙ there);
}

pub kept_set : (placed next : Placed) (place : ℕ) (table : Table) (kept : Kept) → next ≡ with_slot placed place (Some table) → IsKeptBeside place placed.slots kept → IsKeptBeside place next.slots kept
kept_set placed next place table kept is beside = subst (λ (p : Placed). IsKeptBeside place p.slots kept) (sym is) (beside_set placed.slots place (Some table) kept beside)
