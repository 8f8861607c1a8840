-- The rows of a form multiplied out are of the form's width.
use Rattle.std.proofs.Common.{◌≡◌, ℕ, ◌<◌, Bool, Option, Some, List, [], ◌∷◌, ◌++◌, ◌∙◌, ◌+◌, ap, subst}
use Rattle.std.proofs.lemmas.List.{length-set}
use Rattle.sis_base.specs.Rows.{HasWidth}
use Rattle.cube_cover.proofs.Points.{HasWidth-append}
use Rattle.alg_factor.specs.Forms.{Form, Sum, Split, IsOver, put_literal, expansion_of, form_literals}

pub HasWidth-put : (w i : ℕ) (b : Bool) (rows : List (List (Option Bool))) → HasWidth w rows → HasWidth w (put_literal i b rows)
unfolding HasWidth
HasWidth-put w i b [] h = tt
HasWidth-put w i b (row ∷ rows) h = (length-set row i (Some b) ∙ h.0, HasWidth-put w i b rows h.1)

pub HasWidth-expansion_of : (w : ℕ) (form : Form) → IsOver w form → HasWidth w (expansion_of form)
unfolding IsOver expansion_of
HasWidth-expansion_of w (Sum rows) h = h
HasWidth-expansion_of w (Split i b q r) h =
    HasWidth-append w (put_literal i b (expansion_of q)) (expansion_of r) (HasWidth-put w i b (expansion_of q) (HasWidth-expansion_of w q h.1)) (HasWidth-expansion_of w r h.2)

-- what is known of the parts of a form that is a literal times another, and one that is added
pub split-over : (w : ℕ) (form : Form) (i : ℕ) (b : Bool) (q r : Form) → form ≡ Split i b q r → IsOver w form → (i < w) × IsOver w q × IsOver w r
unfolding IsOver
split-over w form i b q r e h = subst (λ (f : Form). IsOver w f) e h

pub split-literals : (form : Form) (i : ℕ) (b : Bool) (q r : Form) → form ≡ Split i b q r → form_literals form ≡ 1 + form_literals q + form_literals r
unfolding form_literals
split-literals form i b q r e = ap form_literals e

pub split-expansion_of : (form : Form) (i : ℕ) (b : Bool) (q r : Form) → form ≡ Split i b q r → expansion_of form ≡ put_literal i b (expansion_of q) ++ expansion_of r
unfolding expansion_of
split-expansion_of form i b q r e = ap expansion_of e

pub sum-over : (w : ℕ) (form : Form) (rows : List (List (Option Bool))) → form ≡ Sum rows → IsOver w form → HasWidth w rows
unfolding IsOver
sum-over w form rows e h = subst (λ (f : Form). IsOver w f) e h
