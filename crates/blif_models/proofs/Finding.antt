-- The model of a name, by its index.
use Rattle.std.proofs.Common.{◌≡◌, ℕ, ◌+◌, ◌<◌, ◌==◌, nat_lt, ltb-false, eqb-true, Bool, true, false, cond, Option, Some, None, unwrap_or, List, [], length, get_or, slice_index_or, bytes_eq, map, refl, sym, ap, ◌∙◌, arith}
use Rattle.std.specs.List.{position_or_len}
use Rattle.std.proofs.lemmas.List.{get_or-map, length-map}
use Rattle.std.proofs.lemmas.List.Folds.{find_at}
use Rattle.std.proofs.lemmas.List.Quantifiers.{position-Some}
use Rattle.std.proofs.lemmas.Option.{unwrap_or-slice_get, slice_get_past}
use Rattle.sis_text.specs.Entries.{Entry}
use Rattle.genlib_format.specs.declared.gate.Gate.{Gate as TheGate}
use Rattle.blif_lines.specs.Reader.{model_lines, model_name}
use Rattle.blif_models.specs.Models.{body_of, index_of, nodes_at, size_of}
use Rattle.circuit_model.specs.Names.{has}
use Rattle.circuit_checks.specs.Sets.{Alike}
use Rattle.blif_models.specs.Ports.{ports_at, ports_of}
use Rattle.blif_models.specs.Tables.{AreTables, IsFilled}
use Rattle.blif_models.specs.declared.limits.TheConstants.{MAX_DEPTH}
use Rattle.blif_models.specs.declared.ports.Ports.{Ports}

module _ (models : List (List Entry)) (name : List ℕ) where
  abbrev place : ℕ
  place = position_or_len (λ (model : List Entry). bytes_eq name (model_name model)) models

  body_at : body_of models name ≡ model_lines (get_or models place [])
  unfolding body_of
  body_at =
      ap (λ (found : Option (List Entry)). model_lines (unwrap_or found [])) (find_at (λ (model : List Entry). bytes_eq name (model_name model)) models)
      ∙ ap model_lines (unwrap_or-slice_get models place [])

  size_none : body_of models name ≡ [] → (size_of models name == 0) ≡ true
  unfolding nodes_at
  size_none e = ap (λ (body : List Entry). nodes_at models (MAX_DEPTH + 1) body == 0) e

  no_lines : model_lines [] ≡ []
  unfolding model_lines
  no_lines = refl

  -- a name of no model has no size
  pub unknown_size : None ≡ index_of models name → (size_of models name == 0) ≡ true
  unknown_size e = by (nat_lt place (length models)) refl e
    where
      by : (b : Bool) → nat_lt place (length models) ≡ b → None ≡ cond b (Some place) None → (size_of models name == 0) ≡ true
      by true is none = absurd (let off = none in cc)
      by false is none =
          let past : get_or models place [] ≡ [] = sym (unwrap_or-slice_get models place []) ∙ ap (λ (found : Option (List Entry)). unwrap_or found []) (slice_get_past models place (ltb-false place (length models) is)) in
          size_none (body_at ∙ ap model_lines past ∙ no_lines)

  -- the model at the index of a name
  pub found_within : (found : ℕ) → Some found ≡ index_of models name → found < length models
  found_within found e = (position-Some (λ (model : List Entry). bytes_eq name (model_name model)) models found [] (sym e)).0

  pub found_body : (found : ℕ) → Some found ≡ index_of models name → model_lines (slice_index_or models found []) ≡ body_of models name
  found_body found e = ap (λ (n : ℕ). model_lines (get_or models n [])) (by (nat_lt place (length models)) e) ∙ sym body_at
    where
      by : (b : Bool) → Some found ≡ cond b (Some place) None → found ≡ place
      by true is = (let off = is in cc)
      by false is = absurd (let off = is in cc)

  pub empty_size : (found size : ℕ) → (size == 0) ≡ (nodes_at models (MAX_DEPTH + 1) (model_lines (slice_index_or models found [])) == 0) → Some found ≡ index_of models name → size ≡ 0
      → (size_of models name == 0) ≡ true
  empty_size found size right e zero =
      ap (λ (body : List Entry). nodes_at models (MAX_DEPTH + 1) body == 0) (sym (found_body found e)) ∙ sym right ∙ ap (λ (n : ℕ). n == 0) zero

  pub filled_at : (found size : ℕ) → (size == 0) ≡ (nodes_at models (MAX_DEPTH + 1) (model_lines (slice_index_or models found [])) == 0) → Some found ≡ index_of models name → (size ≡ 0 → ⊥)
      → IsFilled models name found
  filled_at found size right e some = record {
    within = found_within found e;
    filled = ap (λ (body : List Entry). nodes_at models (MAX_DEPTH + 1) body == 0) (sym (found_body found e)) ∙ sym right ∙ by (size == 0) refl;
    body = found_body found e;
  }
    where
      by : (b : Bool) → (size == 0) ≡ b → (size == 0) ≡ false
      by true is = absurd (some (eqb-true size 0 is))
      by false is = is

-- the inputs of the model of an instance
pub inputs_at : (library : Option (List TheGate)) (models : List (List Entry)) (name : List ℕ) (ports : List Ports) (sizes : List ℕ) (found : ℕ) (d : Ports)
    → AreTables library models (map (λ (p : Ports). p.inputs) ports) sizes → IsFilled models name found → Alike (get_or ports found d).inputs (ports_of library models name).inputs
inputs_at library models name ports sizes found d right filled query =
    let many : length (map (λ (p : Ports). p.inputs) ports) ≡ length models = right.as_many_inputs in
    let within : found < length models = filled.within in
    let lt : found < length ports = omega (arith, length-map ports (λ (p : Ports). p.inputs)) in
    ap (λ (names : List (List ℕ)). has names query) (sym (get_or-map (λ (p : Ports). p.inputs) ports found d [] lt))
    ∙ right.right_inputs found within query
    ∙ ap (λ (body : List Entry). has (ports_at library models (MAX_DEPTH + 1) body).inputs query) filled.body
