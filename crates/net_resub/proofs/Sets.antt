-- Queues of divisions: one division that is added or removed, some of them one after the other, and
-- other tests with the same results.
use Rattle.std.proofs.Common.{◌≡◌, ℕ, ◌+◌, ◌<◌, zero, suc, Bool, true, false, ◌||◌, ◌&&◌, not, cond, Option, None, List, [], ◌∷◌, ◌++◌, length, take, get_or, eqb, eqb-true, refl, sym, ap, ◌∙◌, arith}
use Rattle.std.proofs.lemmas.Bool.{and_parts}
use Rattle.std.proofs.lemmas.List.{take_more}
use Rattle.std.proofs.lemmas.List.Folds.{list_any-append}
use Rattle.net_queue.specs.Queue.{value_in}
use Rattle.net_resub.specs.Divisions.{is_of, is_among, Savings, saving_in, saved, HasJust}
use Rattle.net_resub.specs.declared.divisions.Division.{Division}

-- ---- queues that have exactly some divisions

pub just_none : (savings : Savings) (entries : List (Division × ℕ)) → entries ≡ [] → HasJust (λ division. false) savings entries
just_none savings entries none division = ap (λ (entries : List (Division × ℕ)). value_in is_of entries division) none

-- a test with the same result for all divisions that save
pub just_told : (test other : Division → Bool) (savings : Savings) (entries : List (Division × ℕ)) → ((division : Division) → 0 < saving_in savings division → test division ≡ other division)
    → HasJust test savings entries → HasJust other savings entries
just_told test other savings entries same has division = has division ∙ tells (saving_in savings division) refl
  where
    nothing : (b : Bool) → cond {A = Option ℕ} b None None ≡ None
    nothing true = refl
    nothing false = refl

    tells : (n : ℕ) → saving_in savings division ≡ n → cond (test division) (saved (saving_in savings division)) None ≡ cond (other division) (saved (saving_in savings division)) None
    tells zero e =
        ap (λ (n : ℕ). cond (test division) (saved n) None) e ∙ (nothing (test division) ∙ sym (ap (λ (n : ℕ). cond (other division) (saved n) None) e ∙ nothing (other division)))
    tells (suc n) e = ap (λ (b : Bool). cond b (saved (saving_in savings division)) None) (same division (omega (arith, e)))

-- savings that are the same if the test is true
pub just_moved : (test : Division → Bool) (savings others : Savings) (entries : List (Division × ℕ)) → ((division : Division) → test division ≡ true → saving_in savings division ≡ saving_in others division)
    → HasJust test savings entries → HasJust test others entries
just_moved test savings others entries same has division = has division ∙ tells (test division) refl
  where
    tells : (b : Bool) → test division ≡ b → cond b (saved (saving_in savings division)) None ≡ cond b (saved (saving_in others division)) None
    tells true e = ap saved (same division e)
    tells false e = refl

-- equal divisions save the same
of_one : (savings : Savings) (one division : Division) → is_of one division ≡ true → savings one.place one.by ≡ saving_in savings division
of_one savings one division is =
    let parts = and_parts (eqb one.place division.place) (eqb one.by division.by) is in
    ap (λ (place : ℕ). savings place one.by) (eqb-true one.place division.place parts.0) ∙ ap (savings division.place) (eqb-true one.by division.by parts.1)

-- one division more or less
pub just_put : (test : Division → Bool) (savings : Savings) (before after : List (Division × ℕ)) (one : Division) (saving : ℕ) → saving ≡ savings one.place one.by
    → ((division : Division) → value_in is_of after division ≡ cond (is_of one division) (saved saving) (value_in is_of before division))
    → HasJust test savings before → HasJust (λ division. test division || is_of one division) savings after
just_put test savings before after one saving is put has division = put division ∙ cases (is_of one division) refl (test division) (has division)
  where
    cases : (a : Bool) → is_of one division ≡ a → (b : Bool) → value_in is_of before division ≡ cond b (saved (saving_in savings division)) None
        → cond a (saved saving) (value_in is_of before division) ≡ cond (b || a) (saved (saving_in savings division)) None
    cases true e true h = ap saved (is ∙ of_one savings one division e)
    cases true e false h = ap saved (is ∙ of_one savings one division e)
    cases false e true h = h
    cases false e false h = h

pub just_taken : (test : Division → Bool) (savings : Savings) (before after : List (Division × ℕ)) (one : Division)
    → ((division : Division) → value_in is_of after division ≡ cond (is_of one division) None (value_in is_of before division))
    → HasJust test savings before → HasJust (λ division. test division && not (is_of one division)) savings after
just_taken test savings before after one out has division = out division ∙ cases (is_of one division) (test division) (has division)
  where
    cases : (a b : Bool) → value_in is_of before division ≡ cond b (saved (saving_in savings division)) None
        → cond a None (value_in is_of before division) ≡ cond (b && not a) (saved (saving_in savings division)) None
    cases true true h = refl
    cases true false h = refl
    cases false true h = h
    cases false false h = h

-- those at the first indices of a list
among_more : (pairs : List Division) (i : ℕ) (pair : Division) (division : Division) → i < length pairs → pair ≡ get_or pairs i pair → is_among (take (i + 1) pairs) division ≡ (is_among (take i pairs) division || is_of pair division)
among_more pairs i pair division below at =
    ap (λ (ps : List Division). is_among ps division) (take_more pairs i pair below ∙ ap (λ (p : Division). take i pairs ++ p ∷ []) (sym at))
    ∙ (list_any-append (λ (p : Division). is_of p division) (take i pairs) (pair ∷ []) ∙ ap (λ (b : Bool). is_among (take i pairs) division || b) (last (is_of pair division)))
  where
    last : (b : Bool) → (b || false) ≡ b
    last true = refl
    last false = refl

pub put_begun : (test : Division → Bool) (savings : Savings) (divisions : List (Division × ℕ)) → HasJust test savings divisions → HasJust (λ division. test division || false) savings divisions
put_begun test savings divisions = just_told test (λ division. test division || false) savings divisions (λ division some. same (test division))
  where
    same : (b : Bool) → b ≡ (b || false)
    same true = refl
    same false = refl

pub put_more : (test : Division → Bool) (savings : Savings) (pairs : List Division) (i : ℕ) (pair : Division) (divisions : List (Division × ℕ)) → i < length pairs → pair ≡ get_or pairs i pair
    → HasJust (λ division. (test division || is_among (take i pairs) division) || is_of pair division) savings divisions
    → HasJust (λ division. test division || is_among (take (i + 1) pairs) division) savings divisions
put_more test savings pairs i pair divisions below at =
    just_told (λ division. (test division || is_among (take i pairs) division) || is_of pair division) (λ division. test division || is_among (take (i + 1) pairs) division) savings divisions
    (λ division some. apart (test division) (is_among (take i pairs) division) (is_of pair division) ∙ ap (λ (b : Bool). test division || b) (sym (among_more pairs i pair division below at)))
  where
    apart : (a b c : Bool) → ((a || b) || c) ≡ (a || (b || c))
    apart true b c = refl
    apart false b c = refl

pub taken_begun : (test : Division → Bool) (savings : Savings) (divisions : List (Division × ℕ)) → HasJust test savings divisions → HasJust (λ division. test division && true) savings divisions
taken_begun test savings divisions = just_told test (λ division. test division && true) savings divisions (λ division some. same (test division))
  where
    same : (b : Bool) → b ≡ (b && true)
    same true = refl
    same false = refl

pub taken_more : (test : Division → Bool) (savings : Savings) (pairs : List Division) (i : ℕ) (pair : Division) (divisions : List (Division × ℕ)) → i < length pairs → pair ≡ get_or pairs i pair
    → HasJust (λ division. (test division && not (is_among (take i pairs) division)) && not (is_of pair division)) savings divisions
    → HasJust (λ division. test division && not (is_among (take (i + 1) pairs) division)) savings divisions
taken_more test savings pairs i pair divisions below at =
    just_told (λ division. (test division && not (is_among (take i pairs) division)) && not (is_of pair division)) (λ division. test division && not (is_among (take (i + 1) pairs) division)) savings divisions
    (λ division some. apart (test division) (is_among (take i pairs) division) (is_of pair division) ∙ ap (λ (b : Bool). test division && not b) (sym (among_more pairs i pair division below at)))
  where
    apart : (a b c : Bool) → ((a && not b) && not c) ≡ (a && not (b || c))
    apart true true c = refl
    apart true false c = refl
    apart false b c = refl
