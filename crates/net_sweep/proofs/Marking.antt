-- Indices that are marked, and fanouts that are listed.
use Rattle.std.proofs.Common.{◌≡◌, ℕ, zero, suc, ◌+◌, ◌<◌, ◌≤◌, ◌==◌, Bool, true, false, not, ◌&&◌, ◌||◌, cond, if◌then◌else◌, Option, Some, None, List, [], ◌∷◌, ◌++◌, take, length, get_or, find, slice_get, bytes_eq, inl, inr, ◌⊎◌, refl, sym, ap, ◌∙◌, subst, arith}
use Rattle.std.specs.Option.{option_map_or}
use Rattle.std.specs.Prelude.{IfNone}
use Rattle.std.proofs.lemmas.Bool.{false≢true, eqb-true, eq-eqb}
use Rattle.std.proofs.lemmas.Option.{same_Some}
use Rattle.std.proofs.lemmas.List.Folds.{list_any-append, list_any_more}
use Rattle.circuit_model.specs.Names.{has}
use Rattle.circuit_model.specs.Soundness.{table_inputs}
use Rattle.circuit_model.specs.declared.circuit.Table.{Table}
use Rattle.circuit_laws.proofs.Names.{has_either, has_front, has_back, name_itself, same_name}
use Rattle.net_sweep.specs.Settled.{IsFirst}
use Rattle.net_sweep.specs.declared.queues.Rule.{Rule}
use Rattle.net_sweep.specs.Settled.{listed, may_apply_to_written, AreWaiting}
use Rattle.net_readers.specs.Fanouts.{is_in}
use Rattle.net_sweep.proofs.Finds.{within}

-- the search for the first item that passes a test
pub find_is : {X : Type 0} (test : X → Bool) (items : List X) (place : ℕ) (item : X) → slice_get items place ≡ Some item → test item ≡ true
    → ((i : ℕ) (x : X) → i < place → slice_get items i ≡ Some x → test x ≡ false) → find test items ≡ Some item
find_is test [] place item at passes before = let z : None ≡ Some item = at in absurd cc
find_is {X} test (x ∷ items) zero item at passes before =
    let same : x ≡ item = same_Some x item at in
    ap (λ (b : Bool). cond b (Some x) (find test items)) (ap test same ∙ passes) ∙ at
find_is {X} test (x ∷ items) (suc place) item at passes before =
    ap (λ (b : Bool). cond b (Some x) (find test items)) (before 0 x (omega arith) refl)
    ∙ find_is test items place item at passes (λ i y lt here. before (suc i) y (omega (arith, lt)) here)

pub find_nothing : {X : Type 0} (test : X → Bool) (items : List X) → ((i : ℕ) (x : X) → slice_get items i ≡ Some x → test x ≡ false) → find test items ≡ None
find_nothing test [] none = refl
find_nothing {X} test (x ∷ items) none =
    ap (λ (b : Bool). cond b (Some x) (find test items)) (none 0 x refl) ∙ find_nothing test items (λ i y here. none (suc i) y here)

not_true : (b : Bool) → (b ≡ true → ⊥) → b ≡ false
not_true true h = absurd (h refl)
not_true false h = refl

-- the item at an index passes
passing : {X : Type 0} (test : X → Bool) (o : Option X) → option_map_or test o false ≡ true → (x : X) × (o ≡ Some x) × (test x ≡ true)
passing test None h = absurd (false≢true h)
passing test (Some x) h = (x, refl, h)

-- the least marked index is the first at which the test passes
pub least_first : {X : Type 0} (test : X → Bool) (marked : ℕ → Bool) (items : List X) (place : ℕ) → AreWaiting test marked items → ((i : ℕ) → marked i ≡ true → place ≤ i)
    → option_map_or test (slice_get items place) false ≡ true → IsFirst test items (Some place)
least_first test marked items place all least passes =
    let (item, at, is) = passing test (slice_get items place) passes in (
      within items place item at,
      item,
      at,
      find_is test items place item at is (λ i t lt here. not_true (test t) (λ h.
          let le : place ≤ i = least i (all i t here h) in absurd (omega (arith, lt, le)))),
    )

pub none_first : {X : Type 0} (test : X → Bool) (marked : ℕ → Bool) (items : List X) → AreWaiting test marked items → ((i : ℕ) → marked i ≡ false) → find test items ≡ None
none_first test marked items all none = find_nothing test items (λ i t here. not_true (test t) (λ h. false≢true (sym (none i) ∙ all i t here h)))

pub none_first_from : {X : Type 0} (test : X → Bool) (marked : ℕ → Bool) (items : List X) (o : Option ℕ) → AreWaiting test marked items → o ≡ None → IfNone o ((i : ℕ) → marked i ≡ false) → find test items ≡ None
none_first_from test marked items o all is none = none_first test marked items all (subst (λ (p : Option ℕ). IfNone p ((i : ℕ) → marked i ≡ false)) is none)

pub none_marked_from : {X : Type 0} (test : X → Bool) (marked other : ℕ → Bool) (items : List X) (o : Option ℕ) → AreWaiting test marked items → o ≡ None → IfNone o ((i : ℕ) → marked i ≡ false) → AreWaiting test other items
none_marked_from test marked other items o all is none place item at passes =
    let nowhere : (i : ℕ) → marked i ≡ false = subst (λ (p : Option ℕ). IfNone p ((i : ℕ) → marked i ≡ false)) is none in
    absurd (false≢true (sym (nowhere place) ∙ all place item at passes))

-- an index at which the test fails need not be marked
pub marked_less : {X : Type 0} (test : X → Bool) (marked rest : ℕ → Bool) (items : List X) (place : ℕ) → AreWaiting test marked items
    → ((i : ℕ) → rest i ≡ (not (place == i) && marked i)) → option_map_or test (slice_get items place) false ≡ false → AreWaiting test rest items
marked_less {X} test marked rest items place all less fails i item at passes = cases (place == i) refl
  where
    cases : (b : Bool) → (place == i) ≡ b → rest i ≡ true
    cases true e =
        absurd (false≢true (sym fails ∙ (ap (λ (o : Option X). option_map_or test o false) (subst (λ (n : ℕ). slice_get items n ≡ Some item) (sym (eqb-true place i e)) at) ∙ passes)))
    cases false e = less i ∙ (ap (λ (b : Bool). not b && marked i) e ∙ all i item at passes)

-- an index that is added again is marked again
pub marked_back : {X : Type 0} (test : X → Bool) (marked rest new : ℕ → Bool) (items : List X) (place : ℕ) → AreWaiting test marked items
    → ((i : ℕ) → rest i ≡ (not (place == i) && marked i)) → ((i : ℕ) → new i ≡ (place == i || rest i)) → AreWaiting test new items
marked_back test marked rest new items place all less more i item at passes = cases (place == i) refl
  where
    cases : (b : Bool) → (place == i) ≡ b → new i ≡ true
    cases true e = more i ∙ ap (λ (b : Bool). b || rest i) e
    cases false e = more i ∙ (ap (λ (b : Bool). b || rest i) e ∙ (less i ∙ (ap (λ (b : Bool). not b && marked i) e ∙ all i item at passes)))

-- what tables read, by index
pub read_by : (tables : List Table) (name : List ℕ) → has (table_inputs tables) name ≡ true → (place : ℕ) × (table : Table) × (slice_get tables place ≡ Some table) × (has table.inputs name ≡ true)
read_by [] name h = absurd (false≢true h)
read_by (first ∷ tables) name h =
    elim (has_either first.inputs (table_inputs tables) name h) as (λ _. (place : ℕ) × (table : Table) × (slice_get (first ∷ tables) place ≡ Some table) × (has table.inputs name ≡ true)) [
      | inl here ↦ (0, first, refl, here)
      | inr there ↦ (let (place, table, at, reads) = read_by tables name there in (suc place, table, at, reads))
    ]

pub reads_at : (tables : List Table) (place : ℕ) (table : Table) (name : List ℕ) → slice_get tables place ≡ Some table → has table.inputs name ≡ true → has (table_inputs tables) name ≡ true
reads_at [] place table name at h = let z : None ≡ Some table = at in absurd cc
reads_at (first ∷ tables) zero table name at h =
    has_front first.inputs (table_inputs tables) name (subst (λ (t : Table). has t.inputs name ≡ true) (sym (same_Some first table at)) h)
reads_at (first ∷ tables) (suc place) table name at h = has_back first.inputs (table_inputs tables) name (reads_at tables place table name at h)

-- indices are marked one by one
pub record HasMarked (places : List ℕ) (before after : Rule → ℕ → Bool) : Type 0 where
  pub put : (rule : Rule) (place : ℕ) → may_apply_to_written rule ≡ true → is_in places place ≡ true → after rule place ≡ true
  pub kept : (rule : Rule) (place : ℕ) → before rule place ≡ true → after rule place ≡ true

pub marked_none : (before : Rule → ℕ → Bool) → HasMarked [] before before
marked_none before = record { put = λ rule place asks h. absurd (false≢true h); kept = λ rule place h. h }

pub marked_more : (places : List ℕ) (i put d : ℕ) (before now after : Rule → ℕ → Bool) → i < length places → put ≡ get_or places i d → HasMarked (take i places) before now
    → ((rule : Rule) (place : ℕ) → after rule place ≡ ((may_apply_to_written rule && put == place) || now rule place)) → HasMarked (take (i + 1) places) before after
marked_more places i put d before now after lt is h more = record {
  put = λ rule place asks within. by rule place asks (is_in (take i places) place) refl (put == place) refl
      (sym (list_any_more (λ other. other == place) places i d lt ∙ ap (λ (n : ℕ). is_in (take i places) place || (n == place)) (sym is)) ∙ within);
  kept = λ rule place held. kept rule place (h.kept rule place held);
}
  where
    kept : (rule : Rule) (place : ℕ) → now rule place ≡ true → after rule place ≡ true
    kept rule place held = more rule place ∙ (ap (λ (b : Bool). (may_apply_to_written rule && put == place) || b) held ∙ or_true (may_apply_to_written rule && put == place))
      where
        or_true : (b : Bool) → (b || true) ≡ true
        or_true true = refl
        or_true false = refl

    by : (rule : Rule) (place : ℕ) → may_apply_to_written rule ≡ true → (a : Bool) → is_in (take i places) place ≡ a → (b : Bool) → (put == place) ≡ b → (a || b) ≡ true → after rule place ≡ true
    by rule place asks true e b f k = kept rule place (h.put rule place asks e)
    by rule place asks false e true f k = more rule place ∙ (ap (λ (c : Bool). (c && put == place) || now rule place) asks ∙ ap (λ (c : Bool). c || now rule place) f)
    by rule place asks false e false f k = absurd (false≢true k)

-- an index is listed for one signal after the other
pub record HasListed (reader : ℕ) (inputs : List (List ℕ)) (before after : List ℕ → Option (List ℕ)) : Type 0 where
  pub put : (name : List ℕ) → has inputs name ≡ true → is_in (listed (after name)) reader ≡ true
  pub kept : (name : List ℕ) (place : ℕ) → is_in (listed (before name)) place ≡ true → is_in (listed (after name)) place ≡ true

pub listed_none : (reader : ℕ) (before : List ℕ → Option (List ℕ)) → HasListed reader [] before before
listed_none reader before = record { put = λ name h. absurd (false≢true h); kept = λ name place h. h }

pub has_more : (inputs : List (List ℕ)) (i : ℕ) (input name : List ℕ) → i < length inputs → input ≡ get_or inputs i input → has (take (i + 1) inputs) name ≡ (has (take i inputs) name || bytes_eq name input)
has_more inputs i input name lt is = list_any_more (λ other. bytes_eq name other) inputs i input lt ∙ ap (λ (n : List ℕ). has (take i inputs) name || bytes_eq name n) (sym is)

pub listed_kept : (input : List ℕ) (reader : ℕ) (now after : List ℕ → Option (List ℕ))
    → ((other : List ℕ) → listed (after other) ≡ (if bytes_eq input other then listed (now other) ++ reader ∷ [] else listed (now other)))
    → (name : List ℕ) (place : ℕ) → is_in (listed (now name)) place ≡ true → is_in (listed (after name)) place ≡ true
listed_kept input reader now after more name place h = ap (λ (ps : List ℕ). is_in ps place) (more name) ∙ by (bytes_eq input name)
  where
    by : (b : Bool) → is_in (if b then listed (now name) ++ reader ∷ [] else listed (now name)) place ≡ true
    by true = list_any-append (λ other. other == place) (listed (now name)) (reader ∷ []) ∙ ap (λ (b : Bool). b || is_in (reader ∷ []) place) h
    by false = h

pub listed_more : (reader : ℕ) (inputs : List (List ℕ)) (i : ℕ) (input : List ℕ) (before now after : List ℕ → Option (List ℕ)) → i < length inputs → input ≡ get_or inputs i input → HasListed reader (take i inputs) before now
    → ((other : List ℕ) → listed (after other) ≡ (if bytes_eq input other then listed (now other) ++ reader ∷ [] else listed (now other))) → HasListed reader (take (i + 1) inputs) before after
listed_more reader inputs i input before now after lt is h more = record {
  put = λ name within. by name (has (take i inputs) name) refl (bytes_eq name input) refl (sym (has_more inputs i input name lt is) ∙ within);
  kept = λ name place held. listed_kept input reader now after more name place (h.kept name place held);
}
  where
    here : (name : List ℕ) → name ≡ input → is_in (listed (after name)) reader ≡ true
    here name same =
        ap (λ (ps : List ℕ). is_in ps reader) (more name ∙ ap (λ (b : Bool). if b then listed (now name) ++ reader ∷ [] else listed (now name)) (ap (λ (n : List ℕ). bytes_eq input n) same ∙ name_itself input))
        ∙ (list_any-append (λ other. other == reader) (listed (now name)) (reader ∷ []) ∙ (ap (λ (b : Bool). is_in (listed (now name)) reader || (b || false)) (eq-eqb reader reader refl) ∙ or_true (is_in (listed (now name)) reader)))
      where
        or_true : (b : Bool) → (b || true) ≡ true
        or_true true = refl
        or_true false = refl

    by : (name : List ℕ) (a : Bool) → has (take i inputs) name ≡ a → (b : Bool) → bytes_eq name input ≡ b → (a || b) ≡ true → is_in (listed (after name)) reader ≡ true
    by name true e b f k = listed_kept input reader now after more name reader (h.put name e)
    by name false e true f k = here name (same_name name input f)
    by name false e false f k = absurd (false≢true k)

-- a table more
pub taken_cases : {X : Type 0} (items : List X) (i : ℕ) (item : X) (place : ℕ) (x : X) → i < length items → item ≡ get_or items i item → slice_get (take (suc i) items) place ≡ Some x
    → (slice_get (take i items) place ≡ Some x) ⊎ ((place ≡ i) × (x ≡ item))
taken_cases [] i item place x lt is at = absurd (omega (arith, lt))
taken_cases (first ∷ items) zero item zero x lt is at = inr (refl, sym (same_Some first x at) ∙ sym is)
taken_cases (first ∷ items) zero item (suc place) x lt is at = let z : None ≡ Some x = at in absurd cc
taken_cases (first ∷ items) (suc i) item zero x lt is at = inl at
taken_cases (first ∷ items) (suc i) item (suc place) x lt is at =
    elim (taken_cases items i item place x (omega (arith, lt)) is at) as (λ _. (slice_get (take (suc i) (first ∷ items)) (suc place) ≡ Some x) ⊎ ((suc place ≡ suc i) × (x ≡ item))) [
      | inl h ↦ inl h
      | inr h ↦ inr (ap suc h.0, h.1)
    ]
