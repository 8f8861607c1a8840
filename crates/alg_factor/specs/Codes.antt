-- How contracts encode a form: as the list of its parts from the outside to the inside. Source: the
-- prefix (Polish) notation of Lukasiewicz; Knuth, "The Art of Computer Programming", volume 1,
-- section 2.3.
use Rattle.std.specs.Prelude.{◌≡◌, ℕ, Bool, Option, List, [], ◌∷◌, ◌⊎◌, refl}
use Rattle.std.proofs.Common.{inl, inr, ap, ◌∙◌}
use Rattle.std.specs.Coded.{Coded, code_by, coded×, coded⊎, coded_list, coded_option, coded_bool, coded_ℕ}
use Rattle.alg_factor.specs.Forms.{Form, Sum, Split, Factors}

-- a literal followed by two forms, or a sum
abbrev pub Part : Type 0
Part = (ℕ × Bool) ⊎ List (List (Option Bool))

-- a form's parts, before others
abbrev pub parts_before : Form → List Part → List Part
parts_before (Sum rows) parts = inr rows ∷ parts
parts_before (Split place bit quotient rest) parts = inl (place, bit) ∷ parts_before quotient (parts_before rest parts)

-- the first two forms joined as the quotient and the rest of one form
abbrev pub split_first : ℕ → Bool → List Form → List Form
split_first place bit [] = []
split_first place bit (quotient ∷ []) = []
split_first place bit (quotient ∷ rest ∷ forms) = Split place bit quotient rest ∷ forms

-- the forms that a list of parts encodes, in order
abbrev pub forms_of : List Part → List Form
forms_of [] = []
forms_of (inr rows ∷ parts) = Sum rows ∷ forms_of parts
forms_of (inl literal ∷ parts) = split_first literal.0 literal.1 (forms_of parts)

-- the first of some forms
abbrev pub first_form : List Form → Form
first_form [] = Sum []
first_form (form ∷ forms) = form

-- the parts of a form decode to it
pub forms_of-parts_before : (form : Form) (parts : List Part) → forms_of (parts_before form parts) ≡ form ∷ forms_of parts
forms_of-parts_before (Sum rows) parts = refl
forms_of-parts_before (Split place bit quotient rest) parts =
    ap (split_first place bit) (forms_of-parts_before quotient (parts_before rest parts) ∙ ap (λ forms. quotient ∷ forms) (forms_of-parts_before rest parts))

-- forms, encoded as lists of parts
abbrev pub form_code : Coded Form
form_code =
    code_by (List Part) (coded_list (coded⊎ (coded× coded_ℕ coded_bool) (coded_list (coded_list (coded_option coded_bool)))))
    (λ form. parts_before form []) (λ parts. first_form (forms_of parts)) (λ form. ap first_form (forms_of-parts_before form []))

-- factors, encoded as a width and a form
abbrev pub factors_code : Coded Factors
factors_code =
    code_by (ℕ × Form) (coded× coded_ℕ form_code) (λ f. (f.width, f.form)) (λ p. record { width = p.0; form = p.1 }) (λ _. refl)
