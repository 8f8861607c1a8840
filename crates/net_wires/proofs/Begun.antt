-- Latches that became constants are different ones, and each may have started at its bit.
use Rattle.std.proofs.Common.{◌≡◌, ℕ, Bool, true, false, ◌&&◌, ◌||◌, cond, Some, List, [], ◌∷◌, ◌++◌, map, filter, find, bytes_eq, sym, ap, ◌∙◌, subst, inl, inr}
use Rattle.std.specs.List.{AllByRecursion, list_any}
use Rattle.std.proofs.lemmas.Bool.{false≢true, and_from, or_cases, or_left, or_right}
use Rattle.std.proofs.lemmas.List.{map-append}
use Rattle.std.proofs.lemmas.Option.{none-some, same_Some}
use Rattle.circuit_model.specs.Names.{has, all_different}
use Rattle.circuit_model.specs.Runs.{latch_outputs}
use Rattle.circuit_model.specs.declared.circuit.Latch.{Latch}
use Rattle.circuit_model.specs.declared.circuit.Circuit.{Circuit}
use Rattle.circuit_laws.specs.Edits.{latches_kept}
use Rattle.circuit_laws.specs.Left.{ConstantLatch}
use Rattle.circuit_laws.proofs.Names.{name_itself, all_has, apart_different}
use Rattle.net_wires.specs.Rules.{starts_at}
use Rattle.net_wires.specs.Keeping.{may_begin}

-- where what is found passes a test, something passes it
find_any : {X : Type 0} (p q : X → Bool) (xs : List X) (x : X) → find p xs ≡ Some x → q x ≡ true → list_any q xs ≡ true
find_any p q [] x e h = absurd (none-some x e)
find_any {X} p q (first ∷ xs) x e h = cases (p first) e (find_any p q xs x)
  where
    cases : (t : Bool) → cond t (Some first) (find p xs) ≡ Some x → (find p xs ≡ Some x → q x ≡ true → list_any q xs ≡ true) → (q first || list_any q xs) ≡ true
    cases true k rest = or_left (q first) (list_any q xs) (subst (λ (y : X). q y ≡ true) (sym (same_Some first x k)) h)
    cases false k rest = or_right (q first) (list_any q xs) (rest k h)

-- what passes a test among some of all, passes it among all
any_filter : {X : Type 0} (p q : X → Bool) (xs : List X) → list_any q (filter p xs) ≡ true → list_any q xs ≡ true
any_filter p q [] h = h
any_filter p q (x ∷ xs) h = cases (p x) h (any_filter p q xs)
  where
    cases : (t : Bool) → list_any q (cond t (x ∷ filter p xs) (filter p xs)) ≡ true → (list_any q (filter p xs) ≡ true → list_any q xs ≡ true) → (q x || list_any q xs) ≡ true
    cases true k rest =
        elim (or_cases (q x) (list_any q (filter p xs)) k) as (λ _. (q x || list_any q xs) ≡ true) [
          | inl e ↦ or_left (q x) (list_any q xs) e
          | inr m ↦ or_right (q x) (list_any q xs) (rest m)
        ]
    cases false k rest = or_right (q x) (list_any q xs) (rest k)

pub found_begins : (circuit : Circuit) (p : Latch → Bool) (latch : Latch) (bit : Bool) → find p circuit.latches ≡ Some latch → starts_at latch.init bit ≡ true → may_begin circuit (latch.output, bit) ≡ true
found_begins circuit p latch bit found begins =
    find_any p (λ (l : Latch). bytes_eq latch.output l.output && starts_at l.init bit) circuit.latches latch found
    (and_from (bytes_eq latch.output latch.output) (starts_at latch.init bit) (name_itself latch.output) begins)

-- a latch that is left may have started where it may have before
pub begins_before : (first second : Circuit) (held : ConstantLatch) → second.latches ≡ latches_kept (has (latch_outputs second)) first.latches → may_begin second held ≡ true → may_begin first held ≡ true
unfolding latches_kept
begins_before first second held latches begins =
    any_filter (λ (latch : Latch). has (latch_outputs second) latch.output) (λ (latch : Latch). bytes_eq held.0 latch.output && starts_at latch.init held.1) first.latches
    (subst (λ (some : List Latch). list_any (λ (latch : Latch). bytes_eq held.0 latch.output && starts_at latch.init held.1) some ≡ true) latches begins)

abbrev names_held : List ConstantLatch → List (List ℕ)
names_held held = map (λ (latch : ConstantLatch). latch.0) held

held_has : (P : List ℕ → Type 0) (held : List ConstantLatch) → AllByRecursion (λ (latch : ConstantLatch). P latch.0) held → (name : List ℕ) → has (names_held held) name ≡ true → P name
held_has P held all = all_has P (names_held held) (names held all)
  where
    names : (some : List ConstantLatch) → AllByRecursion (λ (latch : ConstantLatch). P latch.0) some → AllByRecursion P (names_held some)
    names [] h = tt
    names (latch ∷ some) h = (h.0, names some h.1)

-- latches that are none any more differ from those that still are
pub held_different : (before after : List ConstantLatch) (circuit : Circuit) → all_different (names_held before) ≡ true → all_different (names_held after) ≡ true
    → AllByRecursion (λ (latch : ConstantLatch). has (latch_outputs circuit) latch.0 ≡ false) before → AllByRecursion (λ (latch : ConstantLatch). has (latch_outputs circuit) latch.0 ≡ true) after
    → all_different (names_held (before ++ after)) ≡ true
held_different before after circuit old new gone among =
    ap all_different (map-append (λ (latch : ConstantLatch). latch.0) before after)
    ∙ apart_different (names_held before) (names_held after) (record {
      front = old;
      back = new;
      between = λ name here there.
          false≢true (sym (held_has (λ n. has (latch_outputs circuit) n ≡ false) before gone name here) ∙ held_has (λ n. has (latch_outputs circuit) n ≡ true) after among name there);
    })
