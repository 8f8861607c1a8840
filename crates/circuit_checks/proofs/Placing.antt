-- The loops that number tables by their indices.
use Rattle.std.proofs.Common.{◌≡◌, ℕ, zero, suc, ◌+◌, ◌-◌, ◌<◌, ◌≤◌, Bool, true, false, Option, Some, None, option_map, List, [], ◌∷◌, ◌++◌, length, get_or, take, refl, sym, ap, subst, ◌∙◌, arith, if◌then◌else◌, option_to_list}
use Rattle.std.specs.Prelude.{bytes_eq}
use Rattle.std.specs.Option.{option_or}
use Rattle.std.specs.List.{filter_map, cons_option}
use Rattle.std.proofs.Math.Path.{fun_ext}
use Rattle.std.proofs.Math.Seq.{take-length}
use Rattle.std.proofs.lemmas.List.{take_more, map-append, length-map, length-take-le}
use Rattle.std.proofs.lemmas.List.Elements.{filter_map-append}
use Rattle.circuit_model.specs.Soundness.{outputs_of}
use Rattle.circuit_model.specs.declared.circuit.Table.{Table}
use Rattle.circuit_checks.specs.Sets.{place_in}
use Rattle.circuit_checks.proofs.Naming.{same_bytes}

-- the index of a name with one more at the end
place_behind : (left : List (List ℕ)) (last name : List ℕ)
    → place_in (left ++ last ∷ []) name ≡ option_or (place_in left name) (if bytes_eq name last then Some (length left) else None)
unfolding place_in
place_behind [] last name = refl
place_behind (first ∷ left) last name = by (bytes_eq name first) (bytes_eq name last) (place_behind left last name)
  where
    later : (o : Option ℕ) (b : Bool) → option_map suc (option_or o (if b then Some (length left) else None)) ≡ option_or (option_map suc o) (if b then Some (suc (length left)) else None)
    later None true = refl
    later None false = refl
    later (Some k) b = refl

    by : (a b : Bool) → place_in (left ++ last ∷ []) name ≡ option_or (place_in left name) (if b then Some (length left) else None)
        → (if a then Some 0 else option_map suc (place_in (left ++ last ∷ []) name))
        ≡ option_or (if a then Some 0 else option_map suc (place_in left name)) (if b then Some (suc (length left)) else None)
    by true b rec = refl
    by false b rec = ap (option_map suc) rec ∙ later (place_in left name) b

-- an output is inserted in front of those that are there
pub place_more : (tables : List Table) (left : ℕ) (table : Table) (name : List ℕ) (old new : List ℕ → Option ℕ) → 0 < left → left ≤ length tables → table ≡ get_or tables (left - 1) table
    → name ≡ (get_or tables (left - 1) table).output
    → ((query : List ℕ) → option_or (place_in (outputs_of (take left tables)) query) (old query) ≡ place_in (outputs_of tables) query)
    → ((query : List ℕ) → new query ≡ (if bytes_eq name query then Some (left - 1) else old query))
    → (query : List ℕ) → option_or (place_in (outputs_of (take (left - 1) tables)) query) (new query) ≡ place_in (outputs_of tables) query
place_more tables zero table name old new some lt is named before put query = absurd (omega (arith, some))
place_more tables (suc left) table name old new some lt is named before put query =
    subst (λ (n : ℕ). option_or (place_in (outputs_of (take n tables)) query) (new query) ≡ place_in (outputs_of tables) query) (sym one_less)
    (ap (option_or (place_in (outputs_of (take left tables)) query))
    (put query ∙ ap (λ (n : ℕ). if bytes_eq name query then Some n else old query) one_less
    ∙ ap (λ (b : Bool). if b then Some left else old query) (same_bytes name query ∙ ap (bytes_eq query) (named ∙ ap (λ (one : Table). one.output) (sym is))))
    ∙ join (place_in (outputs_of (take left tables)) query) (bytes_eq query table.output)
    ∙ ap (λ (place : Option ℕ). option_or place (old query)) (sym split)
    ∙ before query)
  where
    one_less : suc left - 1 ≡ left
    one_less = omega arith

    here : table ≡ get_or tables left table
    here = subst (λ (n : ℕ). table ≡ get_or tables n table) one_less is

    below : left < length tables
    below = omega (arith, lt)

    next : suc left ≡ left + 1
    next = omega arith

    size : length (outputs_of (take left tables)) ≡ left
    size = length-map (take left tables) (λ (table : Table). table.output) ∙ length-take-le left tables (omega (arith, below))

    split : place_in (outputs_of (take (suc left) tables)) query ≡ option_or (place_in (outputs_of (take left tables)) query) (if bytes_eq query table.output then Some left else None)
    split =
        ap (λ (some : List Table). place_in (outputs_of some) query)
        (ap (λ (n : ℕ). take n tables) next ∙ take_more tables left table below ∙ ap (λ (one : Table). take left tables ++ one ∷ []) (sym here))
        ∙ ap (λ (names : List (List ℕ)). place_in names query) (map-append (λ (table : Table). table.output) (take left tables) (table ∷ []))
        ∙ place_behind (outputs_of (take left tables)) table.output query
        ∙ ap (λ (n : ℕ). option_or (place_in (outputs_of (take left tables)) query) (if bytes_eq query table.output then Some n else None)) size

    join : (place : Option ℕ) (b : Bool) → option_or place (if b then Some left else old query) ≡ option_or (option_or place (if b then Some left else None)) (old query)
    join None true = refl
    join None false = refl
    join (Some found) b = refl

-- before the loop all indices are still to come, and after it none
pub places_begin : (tables : List Table) (left : ℕ) (old : List ℕ → Option ℕ) (query : List ℕ) → left ≡ length tables → old query ≡ None
    → option_or (place_in (outputs_of (take left tables)) query) (old query) ≡ place_in (outputs_of tables) query
places_begin tables left old query size none = rw (size, none, take-length tables) (nothing (place_in (outputs_of tables) query))
  where
    nothing : (o : Option ℕ) → option_or o None ≡ o
    nothing None = refl
    nothing (Some k) = refl

pub places_end : (tables : List Table) (left : ℕ) (old : List ℕ → Option ℕ) → left ≡ 0
    → ((query : List ℕ) → option_or (place_in (outputs_of (take left tables)) query) (old query) ≡ place_in (outputs_of tables) query)
    → old ≡ place_in (outputs_of tables)
unfolding place_in
places_end tables left old none h = fun_ext (λ query. by left none (h query))
  where
    by : {query : List ℕ} (n : ℕ) → n ≡ 0 → option_or (place_in (outputs_of (take n tables)) query) (old query) ≡ place_in (outputs_of tables) query → old query ≡ place_in (outputs_of tables) query
    by zero e k = k
    by (suc n) e k = absurd (omega (arith, e))

-- the indices of one more item
pub places_more : {A : Type 0} (place : A → Option ℕ) (inputs : List A) (i : ℕ) (input : A) (places after : List ℕ) → i < length inputs → input ≡ get_or inputs i input
    → places ≡ filter_map place (take i inputs) → after ≡ places ++ option_to_list (place input) → after ≡ filter_map place (take (i + 1) inputs)
places_more {A = A} place inputs i input places after lt is so e =
    e ∙ ap (λ (some : List ℕ). some ++ option_to_list (place input)) so
    ∙ ap (λ (some : List ℕ). filter_map place (take i inputs) ++ some) (single (place input))
    ∙ sym (filter_map-append place (take i inputs) (input ∷ []))
    ∙ ap (λ (one : A). filter_map place (take i inputs ++ one ∷ [])) is
    ∙ ap (filter_map place) (sym (take_more inputs i input lt))
  where
    single : (o : Option ℕ) → option_to_list o ≡ cons_option o []
    single None = refl
    single (Some k) = refl
