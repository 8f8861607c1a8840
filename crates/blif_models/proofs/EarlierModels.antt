-- The models before an index, and their names.
use Rattle.std.specs.Prelude.{◌≡◌, ℕ, zero, suc, ◌+◌, ◌<◌, ◌≤◌, ◌==◌, nat_lt, Bool, true, false, ◌||◌, cond, Option, Some, None, List, [], ◌∷◌, ◌++◌, map, length, take, drop, slice_index_or, bytes_eq}
use Rattle.std.specs.List.{list_any, position_from}
use Rattle.std.specs.Option.{option_map, option_map_or, option_or}
use Rattle.std.proofs.Common.{refl, sym, ◌∙◌, ap, arith, ltb-true, ltb-false, eqb-true}
use Rattle.std.proofs.lemmas.Iterator.Adapters.{position_from-zero}
use Rattle.std.proofs.lemmas.List.{take_more, drop_more, drop_all, map-append}
use Rattle.circuit_model.specs.Names.{has}
use Rattle.sis_text.specs.Entries.{Entry}
use Rattle.genlib_format.specs.declared.gate.Gate.{Gate}
use Rattle.blif_lines.specs.declared.fault.BlifFault.{BlifFault}
use Rattle.blif_lines.specs.Lines.{is_none}
use Rattle.blif_lines.specs.Reader.{model_name}
use Rattle.blif_models.specs.Checking.{names_before}
use Rattle.blif_models.specs.Models.{index_of}
use Rattle.blif_models.specs.Reader.{lines_fault, file_fault}
use Rattle.blif_models.proofs.ByIndex.{later}

-- whether a place is found before another
abbrev pub is_before : ℕ → Option ℕ → Bool
is_before place found = option_map_or (λ one. nat_lt one place) found false

none_before : (found : Option ℕ) → false ≡ is_before 0 found
none_before None = refl
none_before (Some one) = by (nat_lt one 0) refl
  where
    by : (b : Bool) → nat_lt one 0 ≡ b → false ≡ b
    by true e = absurd (let lt = ltb-true one 0 e in omega (arith, lt))
    by false e = refl

first_before : (place : ℕ) → true ≡ is_before (suc place) (Some 0)
first_before place = by (nat_lt 0 (suc place)) refl
  where
    by : (b : Bool) → nat_lt 0 (suc place) ≡ b → true ≡ b
    by true e = refl
    by false e = absurd (let le = ltb-false 0 (suc place) e in omega (arith, le))

one_later : (place : ℕ) (found : Option ℕ) → is_before place found ≡ is_before (suc place) (option_map suc found)
one_later place None = refl
one_later place (Some one) = by (nat_lt one place) refl (nat_lt (suc one) (suc place)) refl
  where
    by : (a : Bool) → nat_lt one place ≡ a → (b : Bool) → nat_lt (suc one) (suc place) ≡ b → a ≡ b
    by true e true f = refl
    by true e false f = absurd (let lt = ltb-true one place e in let le = ltb-false (suc one) (suc place) f in omega (arith, lt, le))
    by false e true f = absurd (let le = ltb-false one place e in let lt = ltb-true (suc one) (suc place) f in omega (arith, lt, le))
    by false e false f = refl

any_before : {A : Type 0} (test : A → Bool) (place : ℕ) (items : List A) → list_any test (take place items) ≡ is_before place (position_from test 0 items)
any_before test zero [] = refl
any_before test (suc place) [] = refl
any_before test zero (item ∷ items) = none_before (position_from test 0 (item ∷ items))
any_before {A = A} test (suc place) (item ∷ items) = by (test item) (any_before test place items)
  where
    by : (b : Bool) → list_any test (take place items) ≡ is_before place (position_from test 0 items)
        → (b || list_any test (take place items)) ≡ is_before (suc place) (cond b (Some 0) (position_from test (0 + 1) items))
    by true rest = first_before place
    by false rest = rest ∙ one_later place (position_from test 0 items) ∙ ap (is_before (suc place)) (sym (later test 0 items))

named : (models : List (List Entry)) (name : List ℕ) → has (map model_name models) name ≡ list_any (λ model. bytes_eq name (model_name model)) models
named [] name = refl
named (model ∷ models) name = ap (λ (b : Bool). bytes_eq name (model_name model) || b) (named models name)

-- a model before an index has a name exactly if the first that has it is before
pub earlier_is : (models : List (List Entry)) (place : ℕ) (name : List ℕ) → has (names_before models place) name ≡ is_before place (index_of models name)
earlier_is models place name =
    named (take place models) name
    ∙ any_before (λ model. bytes_eq name (model_name model)) place models
    ∙ ap (is_before place) (sym (position_from-zero (λ model. bytes_eq name (model_name model)) models))

-- no model is before the first
pub none_earlier : (models : List (List Entry)) (place : ℕ) → place ≤ length models → is_none (names_before models place) ≡ (place == 0)
none_earlier models zero le = refl
none_earlier [] (suc place) le = absurd (omega (arith, le))
none_earlier (model ∷ models) (suc place) le = by (suc place == 0) refl
  where
    by : (b : Bool) → (suc place == 0) ≡ b → false ≡ b
    by true e = absurd (let none = eqb-true (suc place) 0 e in omega (arith, none))
    by false e = refl

pub names_more : (models : List (List Entry)) (place : ℕ) → place < length models → names_before models (place + 1) ≡ names_before models place ++ model_name (slice_index_or models place []) ∷ []
names_more models place lt = ap (map model_name) (take_more models place [] lt) ∙ map-append model_name (take place models) (slice_index_or models place [] ∷ [])

-- the faults of the models from an index on
abbrev pub fault_from : Option (List Gate) → List (List Entry) → ℕ → Option BlifFault
fault_from library models place = file_fault library (names_before models place) (drop place models)

abbrev pub fault_in : Option (List Gate) → List (List Entry) → ℕ → Option BlifFault
fault_in library models place = lines_fault library (names_before models place) [] (slice_index_or models place [])

pub fault_first : (library : Option (List Gate)) (models : List (List Entry)) → file_fault library [] models ≡ option_or (fault_in library models 0) (fault_from library models 1)
unfolding file_fault lines_fault
fault_first library [] = refl
fault_first library (model ∷ models) = refl

pub fault_next : (library : Option (List Gate)) (models : List (List Entry)) (place : ℕ) → place < length models → fault_from library models place ≡ option_or (fault_in library models place) (fault_from library models (place + 1))
unfolding file_fault
fault_next library models place lt =
    ap (file_fault library (names_before models place)) (drop_more models place [] lt)
    ∙ ap (λ (names : List (List ℕ)). option_or (fault_in library models place) (file_fault library names (drop (place + 1) models))) (sym (names_more models place lt))

pub fault_end : (library : Option (List Gate)) (models : List (List Entry)) (place : ℕ) → length models ≤ place → fault_from library models place ≡ None
unfolding file_fault
fault_end library models place le = ap (file_fault library (names_before models place)) (drop_all place models le)
