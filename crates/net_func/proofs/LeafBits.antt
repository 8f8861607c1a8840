-- The bits of leaves, and the functions of signals over leaves.
use Rattle.std.proofs.Common.{◌≡◌, ℕ, zero, suc, ◌+◌, ◌<◌, Bool, true, false, not, ◌&&◌, ◌||◌, if◌then◌else◌, Option, Some, None, is_some, List, [], ◌∷◌, ◌++◌, length, take, get_or, bytes_eq, refl, sym, ap, ap₂, ◌∙◌, subst, arith}
use Rattle.std.specs.Option.{option_or}
use Rattle.std.proofs.lemmas.Bool.{false≢true, or_parts, and_parts, not-true}
use Rattle.std.proofs.lemmas.Option.{same_Some, none-some}
use Rattle.std.proofs.Math.Path.{fun_ext}
use Rattle.std.proofs.lemmas.List.{length-map}
use Rattle.circuit_model.specs.Names.{has, all_different}
use Rattle.circuit_model.specs.Runs.{bit_of, leaves_of, latch_outputs}
use Rattle.circuit_model.specs.Soundness.{outputs_of, leaf_names}
use Rattle.circuit_model.specs.declared.circuit.Table.{Table}
use Rattle.circuit_model.specs.declared.circuit.Latch.{Latch}
use Rattle.circuit_model.specs.declared.circuit.Circuit.{Circuit}
use Rattle.circuit_laws.proofs.Names.{same_name, name_is, name_not, different_head, different_tail}
use Rattle.circuit_laws.proofs.Drivers.{driver_none}
use Rattle.circuit_order.specs.Places.{IsIndex}
use Rattle.func_core.specs.Trees.{BooleanFunction, Tree, constant, variable}
use Rattle.func_core.specs.Numbers.{Means, Stays}
use Rattle.func_core.specs.declared.functions.Func.{Func}
use Rattle.func_core.proofs.Meanings.{Means-same}
use Rattle.net_func.specs.Signals.{bits_from, leaves_at, IsBigAt}
use Rattle.net_func.specs.Numbering.{has_number, NumbersStand, SolvesRest, AreClosed, AreOver, Adds, IsBlamed, no_numbers, leaf_bits, is_free_leaf, FitsLeaves, FitsOver}
use Rattle.net_func.proofs.Lists.{has_more, among_at}
use Rattle.net_func.proofs.Finding.{placed_driven}
use Rattle.net_func.proofs.Adding.{none_before, adds_one, adds_none, adds_chain}

-- the bit at an index, and none if the name is no leaf
pub bits_at : (place k n : ℕ) (names : List (List ℕ)) (name : List ℕ) (point : ℕ → Bool)
    → all_different names ≡ true → k < length names → name ≡ get_or names k name → n ≡ place + k
    → leaf_bits place names point name ≡ Some (point n)
unfolding leaf_bits
bits_at place k n [] name point different low is e = absurd (omega arith)
bits_at place zero n (first ∷ names) name point different low is e =
    let here : place ≡ n = omega (arith, e) in
    ap (λ (b : Bool). if b then Some (point place) else leaf_bits (suc place) names point name)
    (name_is name first is)
    ∙ ap (λ (m : ℕ). Some (point m)) here
bits_at place (suc k) n (first ∷ names) name point different low is e =
    let among : has names name ≡ true = among_at names k name (omega arith) is in
    let apart : bytes_eq name first ≡ false =
    name_not name first (λ same.
    false≢true (sym (different_head first names different)
    ∙ subst (λ (m : List ℕ). has names m ≡ true) same among)) in
    ap (λ (b : Bool). if b then Some (point place) else leaf_bits (suc place) names point name)
    apart
    ∙ bits_at (suc place) k n names name point (different_tail first names different) (omega arith)
    is
    (omega (arith, e))

pub bits_none : (place : ℕ) (names : List (List ℕ)) (name : List ℕ) (point : ℕ → Bool)
    → has names name ≡ false → leaf_bits place names point name ≡ None
unfolding leaf_bits
bits_none place [] name point h = refl
bits_none place (first ∷ names) name point h =
    let parts = or_parts (bytes_eq name first) (has names name) h in
    ap (λ (b : Bool). if b then Some (point place) else leaf_bits (suc place) names point name)
    parts.0
    ∙ bits_none (suc place) names name point parts.1

pub bits_some : (place : ℕ) (names : List (List ℕ)) (name : List ℕ) (point : ℕ → Bool)
    → is_some (leaf_bits place names point name) ≡ has names name
unfolding leaf_bits
bits_some place [] name point = refl
bits_some place (first ∷ names) name point =
    cases (bytes_eq name first) (bits_some (suc place) names name point)
  where
    cases : (b : Bool) → is_some (leaf_bits (suc place) names point name) ≡ has names name
        → is_some (if b then Some (point place) else leaf_bits (suc place) names point name)
        ≡ (b || has names name)
    cases true rest = refl
    cases false rest = rest

-- these are the bits that a valuation gives the inputs and the latches
bits_written : (place : ℕ) (names : List (List ℕ)) (point : ℕ → Bool) (name : List ℕ)
    → bit_of names (bits_from place (length names) point) name ≡ leaf_bits place names point name
unfolding bit_of bits_from leaf_bits
bits_written place [] point name = refl
bits_written place (first ∷ names) point name =
    ap (λ (rest : Option Bool). if bytes_eq name first then Some (point place) else rest)
    (bits_written (suc place) names point name)

bits_append : (place later : ℕ) (xs ys : List (List ℕ)) (point : ℕ → Bool) (name : List ℕ)
    → later ≡ place + length xs
    → leaf_bits place (xs ++ ys) point name
    ≡ option_or (leaf_bits place xs point name) (leaf_bits later ys point name)
unfolding leaf_bits
bits_append place later [] ys point name e =
    let here : place ≡ later = omega (arith, e) in
    ap (λ (n : ℕ). leaf_bits n ys point name) here
bits_append place later (x ∷ xs) ys point name e =
    cases (bytes_eq name x) (bits_append (suc place) later xs ys point name (omega (arith, e)))
  where
    cases : (b : Bool)
        → leaf_bits (suc place) (xs ++ ys) point name
        ≡ option_or (leaf_bits (suc place) xs point name) (leaf_bits later ys point name)
        → (if b then Some (point place) else leaf_bits (suc place) (xs ++ ys) point name)
        ≡ option_or (if b then Some (point place) else leaf_bits (suc place) xs point name)
        (leaf_bits later ys point name)
    cases true rest = refl
    cases false rest = rest

pub leaves_same : (circuit : Circuit) (point : ℕ → Bool) (name : List ℕ)
    → leaves_at circuit point name ≡ leaf_bits 0 (leaf_names circuit) point name
unfolding leaves_at leaves_of
leaves_same circuit point name =
    ap₂ (λ (input latch : Option Bool). option_or input latch)
    (bits_written 0 circuit.inputs point name)
    (ap (λ (n : ℕ). bit_of (latch_outputs circuit) (bits_from (length circuit.inputs) n point) name)
    (sym (length-map circuit.latches (λ (latch : Latch). latch.output)))
    ∙ bits_written (length circuit.inputs) (latch_outputs circuit) point name)
    ∙ sym (bits_append 0 (length circuit.inputs) circuit.inputs (latch_outputs circuit) point name
    (omega arith))

-- no index, and no numbers
pub no_place : (found : Option ℕ) → is_some found ≡ false → found ≡ None
no_place None e = refl
no_place (Some i) e = absurd (false≢true (sym e))

-- a leaf that no table drives is added, and one that a table drives is not
module _ {S : Type 0} (holds : S → ℕ → Type 0) (tree : S → ℕ → Tree) (limit : S → ℕ) where
  pub leaf_driven : (state : S) (number : List ℕ → Option Func) (driven : List ℕ → Option ℕ) (name :
      List ℕ)
      (Fits : (List ℕ → BooleanFunction) → Type 0) → NumbersStand holds state number
      → is_some (driven name) ≡ true
      → Adds holds tree limit state state number number
      (λ other. bytes_eq other name && not (is_some (driven other))) Fits
  leaf_driven state number driven name Fits stand there =
      adds_none holds tree limit state number (λ other. bytes_eq other name && not
      (is_some (driven other)))
      Fits stand
      (λ other both.
      let parts = and_parts (bytes_eq other name) (not (is_some (driven other))) both in
      absurd (false≢true (sym (not-true (is_some (driven other)) parts.1)
      ∙ ap (λ (n : List ℕ). is_some (driven n)) (same_name other name parts.0) ∙ there)))

  -- nor is one that has a number
  pub leaf_there : (state : S) (number : List ℕ → Option Func) (driven : List ℕ → Option ℕ) (name :
      List ℕ)
      (Fits : (List ℕ → BooleanFunction) → Type 0) → NumbersStand holds state number
      → is_some (number name) ≡ true
      → Adds holds tree limit state state number number
      (λ other. bytes_eq other name && not (is_some (driven other))) Fits
  leaf_there state number driven name Fits stand there =
      adds_none holds tree limit state number (λ other. bytes_eq other name && not
      (is_some (driven other)))
      Fits stand
      (λ other both.
      ap (has_number number)
      (same_name other name (and_parts (bytes_eq other name) (not (is_some (driven other))) both).0)
      ∙ there)

  pub leaf_added : (before after : S) (old new : List ℕ → Option Func) (driven : List ℕ → Option ℕ)
      (name : List ℕ) (place : ℕ) (made : Func)
      → Stays holds tree limit before after → NumbersStand holds before old
      → ((other : List ℕ) → new other ≡ (if bytes_eq name other then Some made else old other))
      → Means holds tree limit after made.0 (variable place) → driven name ≡ None
      → Adds holds tree limit before after old new
      (λ other. bytes_eq other name && not (is_some (driven other)))
      (λ value. driven name ≡ None → (point : ℕ → Bool) → value name point ≡ point place)
  leaf_added before after old new driven name place made stays stand put means free =
      adds_one holds tree limit before after old new name made
      (λ other. bytes_eq other name && not (is_some (driven other)))
      (λ value. driven name ≡ None → (point : ℕ → Bool) → value name point ≡ point place)
      stays stand put (λ other. tested other (bytes_eq other name) refl) means.stands
      (λ value was fits.
      Means-same holds tree limit after made.0 (variable place) (value name) means
      (λ point. sym (fits free point)))
    where
      tested : (other : List ℕ) (b : Bool) → bytes_eq other name ≡ b
          → (b && not (is_some (driven other))) ≡ b
      tested other true same =
          ap (λ (found : Option ℕ). not (is_some found)) (ap driven (same_name other name same) ∙
          free)
      tested other false apart = refl

  pub empty_stands : (state : S) (number : List ℕ → Option Func) → ((name : List ℕ) → number name ≡
      None)
      → NumbersStand holds state number
  empty_stands state number none name f at = absurd (none-some f (sym (none name) ∙ at))

  pub from_none : (before after : S) (old new : List ℕ → Option Func) (test : List ℕ → Bool)
      (Fits : (List ℕ → BooleanFunction) → Type 0) → ((name : List ℕ) → old name ≡ None)
      → Adds holds tree limit before after old new test Fits
      → Adds holds tree limit before after no_numbers new test Fits
  from_none before after old new test Fits none adds =
      subst (λ (number : List ℕ → Option Func). Adds holds tree limit before after number new test
      Fits)
      (fun_ext none) adds

  pub constant_added : (before after : S) (old new : List ℕ → Option Func) (name : List ℕ) (bit :
      Bool)
      (made : Func) → Stays holds tree limit before after → NumbersStand holds before old
      → ((other : List ℕ) → new other ≡ (if bytes_eq name other then Some made else old other))
      → Means holds tree limit after made.0 (constant bit)
      → Adds holds tree limit before after old new (λ other. bytes_eq other name)
      (λ value. (point : ℕ → Bool) → value name point ≡ bit)
  constant_added before after old new name bit made stays stand put means =
      adds_one holds tree limit before after old new name made (λ other. bytes_eq other name)
      (λ value. (point : ℕ → Bool) → value name point ≡ bit) stays stand put (λ other. refl)
      means.stands
      (λ value was fits.
      Means-same holds tree limit after made.0 (constant bit) (value name) means
      (λ point. sym (fits point)))

  pub leaf_more : (first second third : S) (old now new : List ℕ → Option Func) (leaves : List
      (List ℕ))
      (driven : List ℕ → Option ℕ) (k : ℕ) (name : List ℕ)
      → all_different leaves ≡ true → k < length leaves → name ≡ get_or leaves k name
      → Adds holds tree limit first second old now (is_free_leaf (take k leaves) driven)
      (FitsLeaves leaves driven)
      → Adds holds tree limit second third now new
      (λ other. bytes_eq other name && not (is_some (driven other)))
      (λ value. driven name ≡ None → (point : ℕ → Bool) → value name point ≡ point k)
      → Adds holds tree limit first third old new (is_free_leaf (take (k + 1) leaves) driven)
      (FitsLeaves leaves driven)
  leaf_more first second third old now new leaves driven k name different low is a b =
      adds_chain holds tree limit first second third old now new (is_free_leaf (take k leaves)
      driven)
      (λ other. bytes_eq other name && not (is_some (driven other)))
      (is_free_leaf (take (k + 1) leaves) driven) (FitsLeaves leaves driven)
      (λ value. driven name ≡ None → (point : ℕ → Bool) → value name point ≡ point k)
      (FitsLeaves leaves driven) a b
      (λ other.
      ap (λ (h : Bool). h && not (is_some (driven other))) (has_more leaves k name other low is)
      ∙ spread (has (take k leaves) other) (bytes_eq other name) (not (is_some (driven other))))
      (λ value fits. (
        fits,
        λ free point.
            same_Some (value name point) (point k)
            (sym (fits name free (among_at leaves k name low is) point)
            ∙ bits_at 0 k k leaves name point different low is (omega arith)),
      ))
    where
      spread : (h b n : Bool) → ((h || b) && n) ≡ ((h && n) || (b && n))
      spread true true true = refl
      spread true true false = refl
      spread true false true = refl
      spread true false false = refl
      spread false b n = refl

  -- leaves, and then all tables
  pub closed_over : (first second : S) (tables : List Table) (leaves : List (List ℕ)) (place : List
      ℕ → Option ℕ)
      (old now : List ℕ → Option Func) → IsIndex tables place → AreOver leaves tables
      → Adds holds tree limit first second old now (is_free_leaf leaves place) (FitsLeaves leaves
      place)
      → AreClosed tables now
  closed_over first second tables leaves place old now index over adds input reads =
      cases (has (outputs_of tables) input) refl (over input reads)
    where
      ends : (b : Bool) → (b || true) ≡ true
      ends true = refl
      ends false = refl

      cases : (b : Bool) → has (outputs_of tables) input ≡ b → (b || has leaves input) ≡ true
          → (b || has_number now input) ≡ true
      cases true driven leaf = refl
      cases false free leaf =
          adds.known input
          ∙ ap (λ (d : Bool). has_number old input || (has leaves input && not d))
          (placed_driven tables place input index ∙ free)
          ∙ ap (λ (h : Bool). has_number old input || (h && true)) leaf ∙ ends (has_number old
          input)

  leaves_fit : (tables : List Table) (leaves : List (List ℕ)) (place : List ℕ → Option ℕ)
      (old : List ℕ → Option Func) (value : List ℕ → BooleanFunction) → IsIndex tables place
      → FitsOver leaves tables old value → FitsLeaves leaves place value
  leaves_fit tables leaves place old value index fits name none among =
      fits.leaf name
      (driver_none tables name
      (sym (placed_driven tables place name index) ∙ ap (λ (found : Option ℕ). is_some found) none))
      among

  rest_fits : (tables : List Table) (old now : List ℕ → Option Func) (test : List ℕ → Bool)
      (value : List ℕ → BooleanFunction)
      → ((name : List ℕ) → has_number now name ≡ (has_number old name || test name))
      → SolvesRest tables old value → SolvesRest tables now value
  rest_fits tables old now test value known rest name table at none =
      rest name table at (none_before old now test known name none)

  pub over_added : (first second third : S) (tables : List Table) (leaves : List (List ℕ))
      (place : List ℕ → Option ℕ) (old now new : List ℕ → Option Func) → IsIndex tables place
      → Adds holds tree limit first second old now (is_free_leaf leaves place) (FitsLeaves leaves
      place)
      → Adds holds tree limit second third now new (has (outputs_of tables)) (SolvesRest tables now)
      → Adds holds tree limit first third old new
      (λ name. has leaves name || has (outputs_of tables) name) (FitsOver leaves tables old)
  over_added first second third tables leaves place old now new index a b =
      adds_chain holds tree limit first second third old now new (is_free_leaf leaves place)
      (has (outputs_of tables)) (λ name. has leaves name || has (outputs_of tables) name)
      (FitsLeaves leaves place) (SolvesRest tables now) (FitsOver leaves tables old) a b
      (λ name.
      joined (has leaves name) (has (outputs_of tables) name)
      ∙ ap (λ (d : Bool). (has leaves name && not d) || has (outputs_of tables) name)
      (sym (placed_driven tables place name index)))
      (λ value fits. (
        leaves_fit tables leaves place old value index fits,
        rest_fits tables old now (is_free_leaf leaves place) value a.known fits.rest,
      ))
    where
      joined : (h o : Bool) → (h || o) ≡ ((h && not o) || o)
      joined true true = refl
      joined true false = refl
      joined false o = refl

  pub over_big : (first second : S) (tables : List Table) (leaves : List (List ℕ)) (place : List ℕ →
      Option ℕ)
      (old now : List ℕ → Option Func) (blamed : List ℕ) → IsIndex tables place
      → Stays holds tree limit first second
      → Adds holds tree limit first second old now (is_free_leaf leaves place) (FitsLeaves leaves
      place)
      → IsBlamed holds tree limit second tables now (SolvesRest tables now) blamed
      → IsBlamed holds tree limit first tables old (FitsOver leaves tables old) blamed
  over_big first second tables leaves place old now blamed index stays adds cause = record {
    unnumbered = none_before old now (is_free_leaf leaves place) adds.known blamed cause.unnumbered;
    big = λ value was fits.
        subst (λ (l : ℕ). IsBigAt l tables value blamed) stays.same
        (cause.big value (adds.right value was (leaves_fit tables leaves place old value index
        fits))
        (rest_fits tables old now (is_free_leaf leaves place) value adds.known fits.rest));
  }
