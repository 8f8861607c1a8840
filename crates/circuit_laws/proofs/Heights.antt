-- Tables stay without cycles if they read one more signal and read all that the table of that
-- signal reads.
use Rattle.std.proofs.Common.{◌≡◌, ℕ, suc, ◌+◌, ◌<◌, ◌≤◌, Bool, true, false, cond, Option, Some, None, option_map, List, [], ◌∷◌, map, bytes_eq, refl, sym, ap, ◌∙◌, subst, inl, inr, ◌⊎◌, arith}
use Rattle.std.specs.List.{AllByRecursion}
use Rattle.std.proofs.lemmas.Option.{none-some, same_Some}
use Rattle.circuit_model.specs.Names.{has}
use Rattle.circuit_model.specs.Values.{driver}
use Rattle.circuit_model.specs.Soundness.{IsAcyclic}
use Rattle.circuit_model.specs.declared.circuit.Table.{Table}
use Rattle.circuit_laws.proofs.Names.{name_itself, all_has, all_from_has, has_head, has_tail}
use Rattle.circuit_laws.proofs.Drivers.{driver_mapped}
use Rattle.circuit_laws.proofs.Ranks.{greatest, above, height, height_is, height_falls, rank_acyclic}

-- some numbers are at most a bound, and so is the greatest of them
pub greatest_at_most : (f : List ℕ → ℕ) (names : List (List ℕ)) (bound : ℕ) → ((name : List ℕ) → has names name ≡ true → f name ≤ bound) → greatest f names ≤ bound
greatest_at_most f [] bound low = omega arith
greatest_at_most f (name ∷ names) bound low =
    let first : f name ≤ bound = low name (has_head name names) in
    let rest : greatest f names ≤ bound = greatest_at_most f names bound (λ other among. low other (has_tail name names other among)) in
    omega arith

-- a signal is at least as high as one whose table reads nothing that its own table does not read
pub height_over : (tables : List Table) → IsAcyclic tables → (low high : List ℕ) (lower upper : Table) → driver tables low ≡ Some lower → driver tables high ≡ Some upper
    → ((input : List ℕ) → has lower.inputs input ≡ true → has upper.inputs input ≡ true) → height tables low ≤ height tables high
height_over tables acyclic low high lower upper at over within =
    let is : height tables low ≡ suc (greatest (height tables) lower.inputs) = height_is tables acyclic low ∙ ap (λ (found : Option Table). above found (height tables)) at in
    let there : height tables high ≡ suc (greatest (height tables) upper.inputs) = height_is tables acyclic high ∙ ap (λ (found : Option Table). above found (height tables)) over in
    let most : greatest (height tables) lower.inputs ≤ greatest (height tables) upper.inputs =
    greatest_at_most (height tables) lower.inputs (greatest (height tables) upper.inputs) (λ input among.
    let below : height tables input < height tables high =
    all_has (λ x. height tables x < height tables high) upper.inputs (height_falls tables acyclic high upper over) input (within input among) in
    omega arith) in
    omega arith

-- heights with room for one signal below the others of its height: it has twice its height, and
-- each other one has one more than that
abbrev pub level : List Table → List ℕ → List ℕ → ℕ
level tables low signal = height tables signal + height tables signal + cond (bytes_eq signal low) 0 1

pub level_between : (b : Bool) (n : ℕ) → (n + n ≤ n + n + cond b 0 1) × (n + n + cond b 0 1 ≤ suc (n + n))
level_between true n = (omega arith, omega arith)
level_between false n = (omega arith, omega arith)

pub level_falls : (tables : List Table) (low upper lower : List ℕ) → height tables lower < height tables upper → level tables low lower < level tables low upper
level_falls tables low upper lower falls =
    let most : level tables low lower ≤ suc (height tables lower + height tables lower) = (level_between (bytes_eq lower low) (height tables lower)).1 in
    let least : height tables upper + height tables upper ≤ level tables low upper = (level_between (bytes_eq upper low) (height tables upper)).0 in
    omega arith

pub level_low : (tables : List Table) (low upper : List ℕ) → bytes_eq upper low ≡ false → height tables low ≤ height tables upper → level tables low low < level tables low upper
level_low tables low upper other under =
    let own : level tables low low ≡ height tables low + height tables low + 0 = ap (λ (b : Bool). height tables low + height tables low + cond {A = ℕ} b 0 1) (name_itself low) in
    let one : level tables low upper ≡ height tables upper + height tables upper + 1 = ap (λ (b : Bool). height tables upper + height tables upper + cond {A = ℕ} b 0 1) other in
    omega arith

-- what a table may read once it is rewritten: what it reads already, and the low signal, if the
-- table drives another one and reads all that the low one's table reads
abbrev pub MayRead : List ℕ → Table → List ℕ → Table → List ℕ → Type 0
MayRead low lower signal table input =
    (has table.inputs input ≡ true)
    ⊎ ((input ≡ low) × (bytes_eq signal low ≡ false) × ((name : List ℕ) → has lower.inputs name ≡ true → has table.inputs name ≡ true))

-- tables become others of the same signals that may read one signal more
pub reading_acyclic : (turn : Table → Table) → ((table : Table) → (turn table).output ≡ table.output) → (tables : List Table) (low : List ℕ) (lower : Table)
    → IsAcyclic tables → driver tables low ≡ Some lower
    → ((signal : List ℕ) (table : Table) (input : List ℕ) → driver tables signal ≡ Some table → has (turn table).inputs input ≡ true → MayRead low lower signal table input)
    → IsAcyclic (map turn tables)
reading_acyclic turn keeps tables low lower acyclic at reads =
    rank_acyclic (map turn tables) (record {
      rank = level tables low;
      falls = λ signal table driven. falls signal table (driver tables signal) refl (sym (driver_mapped turn keeps tables signal) ∙ driven);
    })
  where
    one : (signal input : List ℕ) (old : Table) → driver tables signal ≡ Some old → MayRead low lower signal old input → level tables low input < level tables low signal
    one signal input old found (inl own) = level_falls tables low signal input (all_has (λ x. height tables x < height tables signal) old.inputs (height_falls tables acyclic signal old found) input own)
    one signal input old found (inr (same, other, within)) =
        subst (λ (x : List ℕ). level tables low x < level tables low signal) (sym same) (level_low tables low signal other (height_over tables acyclic low signal lower old at found within))

    falls : (signal : List ℕ) (table : Table) (found : Option Table) → driver tables signal ≡ found → option_map turn found ≡ Some table
        → AllByRecursion (λ input. level tables low input < level tables low signal) table.inputs
    falls signal table None found e = absurd (none-some table e)
    falls signal table (Some old) found e =
        subst (λ (t : Table). AllByRecursion (λ input. level tables low input < level tables low signal) t.inputs) (same_Some (turn old) table e)
        (all_from_has (λ input. level tables low input < level tables low signal) (turn old).inputs (λ input among. one signal input old found (reads signal old input found among)))
