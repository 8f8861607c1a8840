-- Names that are added to a set, and which names no new table may take.
use Rattle.std.proofs.Common.{◌≡◌, ℕ, Bool, true, false, ◌||◌, if◌then◌else◌, List, [], ◌∷◌, ◌++◌, bytes_eq, refl, sym, ap, ap₂, ◌∙◌}
use Rattle.std.proofs.Math.Bool.{or-false, or_assoc}
use Rattle.circuit_model.specs.Names.{has}
use Rattle.circuit_model.specs.Runs.{latch_outputs}
use Rattle.circuit_model.specs.Soundness.{outputs_of, control_of, names_of}
use Rattle.circuit_model.specs.declared.circuit.Table.{Table}
use Rattle.circuit_model.specs.declared.circuit.Circuit.{Circuit}
use Rattle.circuit_laws.specs.Edits.{with_tables}
use Rattle.circuit_laws.proofs.Names.{same_name, has_append}
use Rattle.net_core.specs.Fresh.{used_names, reserved_by}
use Rattle.net_core.proofs.Counting.{used_by_table, used_else}

-- a name is added if it is not there
pub has_put : (known new : List (List ℕ)) (name seen : List ℕ) → seen ≡ name → new ≡ (if has known seen then known else known ++ seen ∷ []) → (other : List ℕ) → has new other ≡ (has known other || bytes_eq other name)
has_put known new name seen s n other = ap (λ (names : List (List ℕ)). has names other) n ∙ (cases (has known seen) refl ∙ ap (λ (x : List ℕ). has known other || bytes_eq other x) s)
  where
    there : has known seen ≡ true → (b : Bool) → bytes_eq other seen ≡ b → has known other ≡ (has known other || b)
    there h true e = here (ap (has known) (same_name other seen e) ∙ h)
      where
        here : has known other ≡ true → has known other ≡ (has known other || true)
        here k = rw k refl
    there h false e = sym (or-false (has known other))

    cases : (b : Bool) → has known seen ≡ b → has (if b then known else known ++ seen ∷ []) other ≡ (has known other || bytes_eq other seen)
    cases true h = there h (bytes_eq other seen) refl
    cases false h = has_append known (seen ∷ []) other ∙ ap (λ (b : Bool). has known other || b) (or-false (bytes_eq other seen))

-- the output and inputs of a table are added
pub table_noted : (before mid after : Bool) (output : List ℕ) (inputs slice : List (List ℕ)) (other : List ℕ) → slice ≡ inputs → mid ≡ (before || bytes_eq other output) → after ≡ (mid || has slice other)
    → after ≡ (before || (bytes_eq other output || has (inputs ++ []) other))
table_noted before mid after output inputs slice other same first rest =
    rest ∙ (ap₂ (λ (m : Bool) (ns : List (List ℕ)). m || has ns other) first same
    ∙ (or_assoc before (bytes_eq other output) (has inputs other)
    ∙ ap (λ (b : Bool). before || (bytes_eq other output || b)) (sym (has_append inputs [] other ∙ or-false (has inputs other)))))

-- names of six kinds
six_has : (a b c d e f : List (List ℕ)) (name : List ℕ) → has (a ++ (b ++ (c ++ (d ++ (e ++ f))))) name ≡ (((((has a name || has b name) || has c name) || has d name) || has e name) || has f name)
six_has a b c d e f name =
    rw (has_append a (b ++ (c ++ (d ++ (e ++ f)))) name, has_append b (c ++ (d ++ (e ++ f))) name, has_append c (d ++ (e ++ f)) name, has_append d (e ++ f) name, has_append e f name)
    (turned (has a name) (has b name) (has c name) (has d name) (has e name) (has f name))
  where
    turned : (a b c d e f : Bool) → (a || (b || (c || (d || (e || f))))) ≡ (((((a || b) || c) || d) || e) || f)
    turned true b c d e f = refl
    turned false true c d e f = refl
    turned false false true d e f = refl
    turned false false false true e f = refl
    turned false false false false true f = refl
    turned false false false false false f = refl

pub six_noted : (a b c d e f : List (List ℕ)) (none one two three four five six : List ℕ → Bool) → ((name : List ℕ) → none name ≡ false)
    → ((name : List ℕ) → one name ≡ (none name || has a name)) → ((name : List ℕ) → two name ≡ (one name || has b name)) → ((name : List ℕ) → three name ≡ (two name || has c name))
    → ((name : List ℕ) → four name ≡ (three name || has d name)) → ((name : List ℕ) → five name ≡ (four name || has e name)) → ((name : List ℕ) → six name ≡ (five name || has f name))
    → (name : List ℕ) → six name ≡ has (a ++ (b ++ (c ++ (d ++ (e ++ f))))) name
six_noted a b c d e f none one two three four five six z h1 h2 h3 h4 h5 h6 name =
    rw (h6 name, h5 name, h4 name, h3 name, h2 name, h1 name, z name) (sym (six_has a b c d e f name))

-- a name is used where a table has it or it is reserved
pub used_split : (frame : Circuit) (tables : List Table) (name : List ℕ) → has (used_names (with_tables frame tables)) name ≡ (has (outputs_of tables) name || has (reserved_by frame) name)
unfolding reserved_by
used_split frame tables name = cases (has (outputs_of tables) name) refl
  where
    cases : (b : Bool) → has (outputs_of tables) name ≡ b → has (used_names (with_tables frame tables)) name ≡ (b || has (frame.inputs ++ (latch_outputs frame ++ (frame.outputs ++ (frame.clocks ++ (control_of frame.timing ++ names_of frame.dont_care))))) name)
    cases true h = used_by_table (with_tables frame tables) name h
    cases false h =
        used_else (with_tables frame tables) name h
        ∙ sym (six_has frame.inputs (latch_outputs frame) frame.outputs frame.clocks (control_of frame.timing) (names_of frame.dont_care) name)
