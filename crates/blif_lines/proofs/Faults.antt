-- What a line without a fault is not: causes that do not hold.

use Rattle.std.specs.Prelude.{◌≡◌, ℕ, Bool, true, false, not, nat_lt, length, Option, Some, None, List, [], ◌∷◌}
use Rattle.std.specs.Option.{option_map}
use Rattle.std.proofs.Common.{refl}
use Rattle.sis_text.specs.Entries.{Entry}
use Rattle.line_words.specs.LineWords.{other_words}
use Rattle.genlib_format.specs.declared.gate.Gate.{Gate}
use Rattle.blif_gates.specs.GateLines.{signals_of}
use Rattle.blif_lines.specs.Lines.{when, first_of, is_none, long_fault, one_too_many, has_part, place_at, is_in_model, is_latch, latch_names, subckt_names, model_fault, latch_fault, library_fault, gate_fault, subckt_fault, place_fault}
use Rattle.blif_lines.specs.declared.part.Part.{Part}
use Rattle.blif_lines.specs.declared.fault.BlifFault.{BlifFault}
use Rattle.blif_lines.specs.declared.fault.BlifFault.TheVariants.{UnknownWord, BadArity, BadLatch}

-- no cause holds where the first of some is none
pub none_first : (cause : Option BlifFault) (causes : List (Option BlifFault)) → first_of (cause ∷ causes) ≡ None → cause ≡ None
unfolding first_of
none_first None causes e = refl
none_first (Some fault) causes e = e

pub none_later : (cause : Option BlifFault) (causes : List (Option BlifFault)) → first_of (cause ∷ causes) ≡ None → first_of causes ≡ None
unfolding first_of
none_later None causes e = e
none_later (Some fault) causes e = absurd (cc)

-- a cause that does not hold
pub not_mapped : {A B : Type 0} (f : A → B) (found : Option A) → option_map f found ≡ None → found ≡ None
not_mapped f None e = refl
not_mapped f (Some one) e = absurd (cc)

pub not_when : (b : Bool) (fault : BlifFault) → when b fault ≡ None → b ≡ false
not_when true fault e = absurd (cc)
not_when false fault e = refl

pub not_not_when : (b : Bool) (fault : BlifFault) → when (not b) fault ≡ None → b ≡ true
not_not_when true fault e = refl
not_not_when false fault e = absurd (cc)

-- a `.model` line is the first one
pub begins : (begun : Bool) (number : ℕ) (words : List (List ℕ)) → model_fault begun number words ≡ None → begun ≡ false
unfolding model_fault
begins begun number words f =
    not_when begun (UnknownWord number)
    (none_first (when begun (UnknownWord number)) (when (nat_lt 1 (length words)) (BadArity number) ∷ long_fault words ∷ []) f)

-- what may be wrong with a line of a gate in the model
abbrev pub gate_causes : Option (List Gate) → ℕ → ℕ → List (List ℕ) → List (Option BlifFault)
gate_causes library nodes number words =
    when (is_none words) (BadArity number) ∷ library_fault library number words ∷ long_fault (signals_of (other_words words)) ∷ one_too_many nodes ∷ []

-- a line of the model alone does not come after the line that begins the part
pub not_model : (ended had : Bool) → had ≡ true → is_in_model (place_at ended had) ≡ false
unfolding place_at
not_model true had h = refl
not_model false true h = refl
not_model false false h = absurd (cc)

pub in_model : (place : Part) (number : ℕ) (causes : List (Option BlifFault)) → first_of (when (not (is_in_model place)) (UnknownWord number) ∷ causes) ≡ None → is_in_model place ≡ true
in_model place number causes f = not_not_when (is_in_model place) (UnknownWord number) (none_first (when (not (is_in_model place)) (UnknownWord number)) causes f)

pub true_false : (b : Bool) → b ≡ true → b ≡ false → ⊥
true_false true e f = cc
true_false false e f = cc

pub own_latch : (ended had : Bool) (nodes number : ℕ) (words : List (List ℕ)) → had ≡ true → latch_fault (place_at ended had) nodes number words ≡ None → ⊥
unfolding latch_fault
own_latch ended had nodes number words h f =
    true_false (is_in_model (place_at ended had)) (in_model (place_at ended had) number (when (not (is_latch words)) (BadLatch number) ∷ long_fault (latch_names words) ∷ one_too_many nodes ∷ []) f) (not_model ended had h)

pub own_gate : (library : Option (List Gate)) (ended had : Bool) (nodes number : ℕ) (words : List (List ℕ)) → had ≡ true → gate_fault library (place_at ended had) nodes number words ≡ None → ⊥
unfolding gate_fault
own_gate library ended had nodes number words h f =
    true_false (is_in_model (place_at ended had)) (in_model (place_at ended had) number (gate_causes library nodes number words) f) (not_model ended had h)

pub own_subckt : (ended had : Bool) (number : ℕ) (words : List (List ℕ)) → had ≡ true → subckt_fault (place_at ended had) number words ≡ None → ⊥
unfolding subckt_fault
own_subckt ended had number words h f =
    true_false (is_in_model (place_at ended had)) (in_model (place_at ended had) number (when (is_none words) (BadArity number) ∷ long_fault (subckt_names words) ∷ []) f) (not_model ended had h)

pub own_place : (ended had : Bool) (number : ℕ) → had ≡ true → place_fault (place_at ended had) number ≡ None → ⊥
own_place ended had number h f =
    true_false (is_in_model (place_at ended had)) (not_not_when (is_in_model (place_at ended had)) (UnknownWord number) f) (not_model ended had h)

-- if the don't-care part has begun, a line came before
pub unbegun : (back : List Entry) (had : Bool) → had ≡ true → had ≡ has_part back → {begun : Bool} → begun ≡ false → begun ≡ not (is_none back) → ⊥
unfolding has_part
unbegun [] had h p b e = cc
unbegun (line ∷ back) had h p b e = cc

-- the words of a latch are right
pub right_latch : (place : Part) (nodes number : ℕ) (words : List (List ℕ)) → latch_fault place nodes number words ≡ None → is_latch words ≡ true
unfolding latch_fault
right_latch place nodes number words f =
    not_not_when (is_latch words) (BadLatch number)
    (none_first (when (not (is_latch words)) (BadLatch number)) (long_fault (latch_names words) ∷ one_too_many nodes ∷ [])
    (none_later (when (not (is_in_model place)) (UnknownWord number)) (when (not (is_latch words)) (BadLatch number) ∷ long_fault (latch_names words) ∷ one_too_many nodes ∷ []) f))

-- the part begins once
pub part_begins : (ended had : Bool) (number : ℕ) → place_fault (place_at ended had) number ≡ None → had ≡ false
part_begins ended true number f = absurd (own_place ended true number refl f)
part_begins ended false number f = refl

pub latch_begins : (ended had : Bool) (nodes number : ℕ) (words : List (List ℕ)) → latch_fault (place_at ended had) nodes number words ≡ None → had ≡ false
latch_begins ended true nodes number words f = absurd (own_latch ended true nodes number words refl f)
latch_begins ended false nodes number words f = refl

pub gate_begins : (library : Option (List Gate)) (ended had : Bool) (nodes number : ℕ) (words : List (List ℕ)) → gate_fault library (place_at ended had) nodes number words ≡ None → had ≡ false
gate_begins library ended true nodes number words f = absurd (own_gate library ended true nodes number words refl f)
gate_begins library ended false nodes number words f = refl

-- a `.gate` line is right: its cell and its pairs are, its signals are short, and few tables and
-- latches come before it
pub record IsRightGate (library : Option (List Gate)) (nodes number : ℕ) (words : List (List ℕ)) : Type 0 where
  pub cell : library_fault library number words ≡ None
  pub short : long_fault (signals_of (other_words words)) ≡ None
  pub few : one_too_many nodes ≡ None

pub right_gate : (library : Option (List Gate)) (place : Part) (nodes number : ℕ) (words : List (List ℕ)) → gate_fault library place nodes number words ≡ None → IsRightGate library nodes number words
unfolding gate_fault
right_gate library place nodes number words f =
    let signals : List (List ℕ) = signals_of (other_words words) in
    let behind : first_of (library_fault library number words ∷ long_fault signals ∷ one_too_many nodes ∷ []) ≡ None =
    none_later (when (is_none words) (BadArity number)) (library_fault library number words ∷ long_fault signals ∷ one_too_many nodes ∷ [])
    (none_later (when (not (is_in_model place)) (UnknownWord number)) (gate_causes library nodes number words) f) in
    let last : first_of (long_fault signals ∷ one_too_many nodes ∷ []) ≡ None = none_later (library_fault library number words) (long_fault signals ∷ one_too_many nodes ∷ []) behind in
    record {
      cell = none_first (library_fault library number words) (long_fault signals ∷ one_too_many nodes ∷ []) behind;
      short = none_first (long_fault signals) (one_too_many nodes ∷ []) last;
      few = none_first (one_too_many nodes) [] (none_later (long_fault signals) (one_too_many nodes ∷ []) last);
    }
