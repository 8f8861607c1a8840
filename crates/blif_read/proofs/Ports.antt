-- A machine under the names of a head: as many ports as before, all different, and what holds of the names of both holds of its names.
use Rattle.std.proofs.Common.{◌≡◌, ℕ, Bool, true, false, not, ◌&&◌, ◌==◌, cond, Option, Some, None, List, [], ◌∷◌, ◌++◌, length, bytes_eq, find, unwrap_or, refl, sym, ◌∙◌, ap, arith}
use Rattle.std.specs.List.{AllByRecursion}
use Rattle.std.proofs.lemmas.Bool.Decides.{nat_tests}
use Rattle.std.proofs.lemmas.List.{append-nil}
use Rattle.std.proofs.lemmas.Bool.{or_from, or_parts}
use Rattle.circuit_model.specs.Names.{has, all_different}
use Rattle.circuit_checks.proofs.Naming.{has_append, same_bytes}
use Rattle.circuit_checks.proofs.Counting.{first_different, rest_different}
use Rattle.circuit_model.specs.MachineSoundness.{all_names}
use Rattle.circuit_model.specs.declared.machine.Machine.{Machine}
use Rattle.blif_lines.proofs.NameLists.{all_append, all_front, all_back}
use Rattle.blif_lines.specs.Heads.{listed_ports_of}
use Rattle.blif_lines.specs.declared.content.Head.{Head}
use Rattle.kiss_format.specs.declared.fault.KissFault.TheVariants.{BadHeader}
use Rattle.blif_lines.specs.declared.fault.BlifFault.TheVariants.{BadKiss}
use Rattle.blif_lines.specs.Lines.{when}
use Rattle.blif_read.specs.Reader.{count_fault, made_again, named}

-- names of ports that hold, listed or made

chosen : (P : List ℕ → Type 0) (listed : Option (List (List ℕ))) (made : List (List ℕ)) → AllByRecursion P (unwrap_or listed []) → AllByRecursion P made → AllByRecursion P (unwrap_or listed made)
chosen P None made h k = k
chosen P (Some listed) made h k = h

pub names_hold : (P : List ℕ → Type 0) (head : Head) (machine : Machine) → AllByRecursion P (head.name ∷ listed_ports_of head) → AllByRecursion P (all_names machine)
    → AllByRecursion P (all_names (named head machine))
names_hold P head machine h k =
    let inputs = unwrap_or head.inputs machine.inputs in
    let outputs = unwrap_or head.outputs machine.outputs in
    let made = all_back P machine.inputs (machine.outputs ++ machine.states) k.1 in
    let ins = chosen P head.inputs machine.inputs (all_front P (unwrap_or head.inputs []) (unwrap_or head.outputs []) h.1) (all_front P machine.inputs (machine.outputs ++ machine.states) k.1) in
    let outs = chosen P head.outputs machine.outputs (all_back P (unwrap_or head.inputs []) (unwrap_or head.outputs []) h.1) (all_front P machine.outputs machine.states made) in
    (h.0, all_append P inputs (outputs ++ machine.states) ins (all_append P outputs machine.states outs (all_back P machine.outputs machine.states made)))

-- as many as before

pub same_count : (listed : Option (List (List ℕ))) (made : List (List ℕ)) (line : Option ℕ) → count_fault listed made line ≡ None → length (unwrap_or listed made) ≡ length made
same_count None made line e = refl
same_count (Some listed) made line e = by (length listed == length made) refl e
  where
    by : (b : Bool) → (length listed == length made) ≡ b → when (not b) (BadKiss (BadHeader (unwrap_or line 0))) ≡ None → length listed ≡ length made
    by true same none = grind (arith, nat_tests)
    by false same none = absurd (let no : Some (BadKiss (BadHeader (unwrap_or line 0))) ≡ None = none in cc)

-- all different

none_found : (test : List ℕ → Bool) (name : List ℕ) (names : List (List ℕ)) → find test (name ∷ names) ≡ None → (test name ≡ false) × (find test names ≡ None)
none_found test name names e = by (test name) refl e
  where
    by : (b : Bool) → test name ≡ b → cond b (Some name) (find test names) ≡ None → (test name ≡ false) × (find test names ≡ None)
    by true t none = absurd (let no : Some name ≡ None = none in cc)
    by false t none = (t, none)

both : (a b : Bool) → a ≡ false → b ≡ true → (not a && b) ≡ true
both true b e f = absurd (let no : true ≡ false = e in cc)
both false b e f = f

front_different : (xs ys : List (List ℕ)) → all_different (xs ++ ys) ≡ true → all_different xs ≡ true
unfolding all_different
front_different [] ys d = refl
front_different (x ∷ xs) ys d =
    let lacks = or_parts (has xs x) (has ys x) (sym (has_append xs ys x) ∙ first_different x (xs ++ ys) d) in
    both (has xs x) (all_different xs) lacks.0 (front_different xs ys (rest_different x (xs ++ ys) d))

back_different : (xs ys : List (List ℕ)) → all_different (xs ++ ys) ≡ true → all_different ys ≡ true
back_different [] ys d = d
back_different (x ∷ xs) ys d = back_different xs ys (rest_different x (xs ++ ys) d)

apart_different : (xs ys : List (List ℕ)) → all_different xs ≡ true → all_different ys ≡ true → find (has ys) xs ≡ None → all_different (xs ++ ys) ≡ true
unfolding all_different
apart_different [] ys d k e = k
apart_different (x ∷ xs) ys d k e =
    let none = none_found (has ys) x xs e in
    both (has (xs ++ ys) x) (all_different (xs ++ ys)) (has_append xs ys x ∙ or_from (has xs x) (has ys x) (first_different x xs d) none.0)
    (apart_different xs ys (rest_different x xs d) k none.1)

one_less : (x : List ℕ) (xs ys : List (List ℕ)) → find (has (x ∷ xs)) ys ≡ None → (has ys x ≡ false) × (find (has xs) ys ≡ None)
one_less x xs [] e = (refl, refl)
one_less x xs (y ∷ ys) e =
    let none = none_found (has (x ∷ xs)) y ys e in
    let here = or_parts (bytes_eq y x) (has xs y) none.0 in
    let rest = one_less x xs ys none.1 in
    (or_from (bytes_eq x y) (has ys x) (same_bytes x y ∙ here.0) rest.0, rw here.1 rest.1)

none_other : (xs ys : List (List ℕ)) → find (has xs) ys ≡ None → find (has ys) xs ≡ None
none_other [] ys e = refl
none_other (x ∷ xs) ys e =
    let less = one_less x xs ys e in
    rw less.0 (none_other xs ys less.1)

pub ports_once : (ins outs : Option (List (List ℕ))) (inputs outputs : List (List ℕ)) → all_different (unwrap_or ins [] ++ unwrap_or outs []) ≡ true → all_different (inputs ++ outputs) ≡ true
    → made_again ins outs outputs ≡ None → made_again outs ins inputs ≡ None → all_different (unwrap_or ins inputs ++ unwrap_or outs outputs) ≡ true
ports_once None None inputs outputs h m a b = m
ports_once (Some ins) (Some outs) inputs outputs h m a b = h
ports_once (Some ins) None inputs outputs h m a b =
    apart_different ins outputs (sym (ap all_different (append-nil ins)) ∙ h) (back_different inputs outputs m) a
ports_once None (Some outs) inputs outputs h m a b =
    apart_different inputs outs (front_different inputs outputs m) h (none_other inputs outs b)
