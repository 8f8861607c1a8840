-- The index of a model by its name, as a map of names keeps it.
use Rattle.std.specs.Prelude.{◌≡◌, ℕ, suc, ◌+◌, ◌<◌, Bool, true, false, cond, Option, Some, None, is_some, List, [], ◌∷◌, ◌++◌, length, take, bytes_eq, position, if◌then◌else◌}
use Rattle.std.specs.Borrow.{Bor}
use Rattle.std.specs.Option.{option_or}
use Rattle.std.specs.List.{position_from}
use Rattle.std.proofs.Common.{refl, sym, ◌∙◌, ap, subst, arith, get_or}
use Rattle.std.proofs.lemmas.Bool.{true≢false}
use Rattle.std.proofs.lemmas.Iterator.Adapters.{position_from-zero}
use Rattle.std.proofs.lemmas.List.{take_more, map-append, length-map, length-take-le}
use Rattle.sis_text.specs.declared.places.Line.{Line}
use Rattle.sis_text.specs.Entries.{Entry}
use Rattle.blif_lines.specs.Reader.{model_name}
use Rattle.circuit_checks.proofs.Naming.{same_name, same_bytes}
use Rattle.blif_models.specs.Files.{lines_at, models_at}
use Rattle.blif_models.specs.Models.{index_of}

pub not_there : {A : Type 0} (found : Option A) → is_some found ≡ false → found ≡ None
not_there None e = refl
not_there (Some one) e = absurd (true≢false e)

-- a name that has an index keeps it, another gets the new one
pub noted : (old new : List ℕ → Option ℕ) (name : List ℕ) (place : ℕ) → old name ≡ None → ((query : List ℕ) → new query ≡ (if bytes_eq name query then Some place else old query))
    → (query : List ℕ) → new query ≡ option_or (old query) (if bytes_eq name query then Some place else None)
noted old new name place none put query = put query ∙ by (bytes_eq name query) refl
  where
    here : (o : Option ℕ) → o ≡ None → Some place ≡ option_or o (Some place)
    here None e = refl
    here (Some one) e = absurd (cc)

    other : (o : Option ℕ) → o ≡ option_or o None
    other None = refl
    other (Some one) = refl

    by : (b : Bool) → bytes_eq name query ≡ b → (if b then Some place else old query) ≡ option_or (old query) (if b then Some place else None)
    by true e = here (old query) (subst (λ (one : List ℕ). old one ≡ None) (same_name name query e) none)
    by false e = other (old query)

pub kept : (old : List ℕ → Option ℕ) (name : List ℕ) (place : ℕ) → is_some (old name) ≡ true → (query : List ℕ) → old query ≡ option_or (old query) (if bytes_eq name query then Some place else None)
kept old name place some query = by (bytes_eq name query) refl
  where
    here : (o : Option ℕ) → is_some o ≡ true → o ≡ option_or o (Some place)
    here None e = absurd (cc)
    here (Some one) e = refl

    other : (o : Option ℕ) → o ≡ option_or o None
    other None = refl
    other (Some one) = refl

    by : (b : Bool) → bytes_eq name query ≡ b → old query ≡ option_or (old query) (if b then Some place else None)
    by true e = here (old query) (subst (λ (one : List ℕ). is_some (old one) ≡ true) (same_name name query e) some)
    by false e = other (old query)

from_behind : {A : Type 0} (test : A → Bool) (start : ℕ) (items : List A) (last : A)
    → position_from test start (items ++ last ∷ []) ≡ option_or (position_from test start items) (if test last then Some (start + length items) else None)
from_behind test start [] last = let e : start ≡ start + 0 = omega arith in ap (λ (n : ℕ). if test last then Some n else None) e
from_behind test start (item ∷ items) last = by (test item) (from_behind test (start + 1) items last)
  where
    e : start + 1 + length items ≡ start + suc (length items)
    e = omega arith

    by : (b : Bool) → position_from test (start + 1) (items ++ last ∷ []) ≡ option_or (position_from test (start + 1) items) (if test last then Some (start + 1 + length items) else None)
        → cond b (Some start) (position_from test (start + 1) (items ++ last ∷ []))
        ≡ option_or (cond b (Some start) (position_from test (start + 1) items)) (if test last then Some (start + suc (length items)) else None)
    by true rec = refl
    by false rec = rec ∙ ap (λ (n : ℕ). option_or (position_from test (start + 1) items) (if test last then Some n else None)) e

-- the first place that passes a test, with one item more
position_behind : {A : Type 0} (test : A → Bool) (items : List A) (last : A) → position test (items ++ last ∷ []) ≡ option_or (position test items) (if test last then Some (length items) else None)
position_behind test items last =
    position_from-zero test (items ++ last ∷ [])
    ∙ from_behind test 0 items last
    ∙ ap (λ (n : ℕ). option_or (position_from test 0 items) (if test last then Some n else None)) size
    ∙ ap (λ (found : Option ℕ). option_or found (if test last then Some (length items) else None)) (sym (position_from-zero test items))
  where
    size : 0 + length items ≡ length items
    size = omega arith

-- the map of names after one model more
pub names_more : (text : List ℕ) (models : List (Bor (List Line))) (place : ℕ) (model : Bor (List Line)) (name : List ℕ) (old new : List ℕ → Option ℕ) → place < length models
    → model ≡ get_or models place model → name ≡ model_name (lines_at text model.now) → ((query : List ℕ) → old query ≡ index_of (models_at text (take place models)) query)
    → ((query : List ℕ) → new query ≡ option_or (old query) (if bytes_eq name query then Some place else None))
    → (query : List ℕ) → new query ≡ index_of (models_at text (take (place + 1) models)) query
names_more text models place model name old new below is named before put query =
    put query
    ∙ ap (λ (found : Option ℕ). option_or found (if bytes_eq name query then Some place else None)) (before query)
    ∙ ap (λ (b : Bool). option_or (index_of front query) (if b then Some place else None)) (same_bytes name query ∙ ap (bytes_eq query) named)
    ∙ ap (λ (n : ℕ). option_or (index_of front query) (if bytes_eq query (model_name (lines_at text model.now)) then Some n else None)) (sym size)
    ∙ sym (position_behind (λ (one : List Entry). bytes_eq query (model_name one)) front (lines_at text model.now))
    ∙ ap (λ (all : List (List Entry)). index_of all query) (sym split)
  where
    front : List (List Entry)
    front = models_at text (take place models)

    size : length front ≡ place
    size = length-map (take place models) (λ (one : Bor (List Line)). lines_at text one.now) ∙ length-take-le place models (omega (arith, below))

    split : models_at text (take (place + 1) models) ≡ front ++ lines_at text model.now ∷ []
    split =
        ap (models_at text) (take_more models place model below ∙ ap (λ (one : Bor (List Line)). take place models ++ one ∷ []) (sym is))
        ∙ map-append (λ (one : Bor (List Line)). lines_at text one.now) (take place models) (model ∷ [])
