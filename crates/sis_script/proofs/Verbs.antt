-- The code's table of commands is the definition's list: a command is found in one as in the other.
use Rattle.std.proofs.Common.{◌≡◌, Bool, true, false, Option, Some, List, [], ◌∷◌, map, option_map, refl, ◌∙◌, ap}
use Rattle.std.specs.Prelude.{ℕ, find, bytes_eq, if◌then◌else◌}
use Rattle.sis_script.specs.Script.{Form, forms, form_named}
use Rattle.sis_script.specs.Verbs.{form_among, meaning}
use Rattle.sis_script.specs.declared.forms.CommandForm.{CommandForm}

module _ {A B : Type 0} (f : A → B) (test : B → Bool) where
  first_mapped : (here : Bool) (item : A) (rest : Option A) (others : Option B) →
      option_map f rest ≡ others →
      option_map f (if here then Some item else rest) ≡ (if here then Some (f item) else others)
  first_mapped true item rest others same = refl
  first_mapped false item rest others same = same

  find_mapped : (items : List A) →
      option_map f (find (λ item. test (f item)) items) ≡ find test (map f items)
  find_mapped [] = refl
  find_mapped (item ∷ items) =
      first_mapped (test (f item)) item (find (λ item. test (f item)) items)
      (find test (map f items)) (find_mapped items)

-- what is found in a table that means the definition's list is what the list has
pub named_alike : (word : List ℕ) (table : List CommandForm) → map meaning table ≡ forms →
    option_map meaning (form_among word table) ≡ form_named word
unfolding form_among form_named
named_alike word table same =
    find_mapped meaning (λ (form : Form). bytes_eq word form.word) table
    ∙ ap (find (λ (form : Form). bytes_eq word form.word)) same
