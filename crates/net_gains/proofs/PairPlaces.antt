-- What two cubes share, and what one has besides the other, column by column over names: the
-- product of both is the cube.
use Rattle.std.proofs.Common.{◌≡◌, ℕ, zero, suc, Bool, true, false, not, ◌&&◌, ◌||◌, cond, Option, Some, None, List, [], ◌∷◌, map, filter, bytes_eq, refl, sym, ap, ap₂, ◌∙◌, subst}
use Rattle.std.specs.Bool.{beq}
use Rattle.std.specs.List.{list_any}
use Rattle.std.proofs.Math.Bool.{or-false}
use Rattle.circuit_model.specs.Names.{has, all_different}
use Rattle.circuit_laws.proofs.Names.{same_name, name_is, name_turned, different_head, different_tail}
use Rattle.cube_cover.specs.Literals.{literal_product}
use Rattle.alg_div.specs.Cubes.{times}
use Rattle.net_candidates.specs.Candidates.{same_literal, shared, own}
use Rattle.cover_names.specs.Literals.{Cube}
use Rattle.cover_names.specs.Cubes.{literal_of, row_over}
use Rattle.cover_names.specs.declared.literal.Literal.{Literal}
use Rattle.cover_names.proofs.Back.{literal_of_none}
use Rattle.cover_names.proofs.Worth.{names_of, literal_of_cons}
use Rattle.alg_tables.proofs.Divisions.{AreApart}

-- ---- columns

-- a literal that passes a test, else a dash
abbrev pub kept_place : (Bool → Bool) → Option Bool → Option Bool
kept_place test None = None
kept_place test (Some bit) = cond (test bit) (Some bit) None

-- whether a column has the literal of a bit
abbrev pub stands : Option Bool → Bool → Bool
stands None bit = false
stands (Some other) bit = beq bit other

-- what two columns have in common, and what the first has besides the second
abbrev pub common : Option Bool → Option Bool → Option Bool
common place other = kept_place (stands other) place

abbrev pub beside : Option Bool → Option Bool → Option Bool
beside place other = kept_place (λ bit. not (stands other bit)) place

kept_alike : (test other : Bool → Bool) (place : Option Bool) → ((bit : Bool) → test bit ≡ other bit) → kept_place test place ≡ kept_place other place
kept_alike test other None h = refl
kept_alike test other (Some bit) h = ap (λ (b : Bool). cond b (Some bit) None) (h bit)

none_some : {P : Type 0} (bit : Bool) → ◌≡◌ {A = Option Bool} None (Some bit) → P
none_some bit e = absurd cc

pub first_product : (place other : Option Bool) → literal_product (common place other) (beside place other) ≡ place
first_product None other = refl
first_product (Some bit) other = cases (stands other bit)
  where
    cases : (b : Bool) → literal_product (cond b (Some bit) None) (cond (not b) (Some bit) None) ≡ Some bit
    cases true = refl
    cases false = refl

pub second_product : (place other : Option Bool) → literal_product (common place other) (beside other place) ≡ other
second_product None None = refl
second_product None (Some bit) = refl
second_product (Some bit) None = refl
second_product (Some true) (Some true) = refl
second_product (Some true) (Some false) = refl
second_product (Some false) (Some true) = refl
second_product (Some false) (Some false) = refl

pub first_apart : (place other : Option Bool) (bit : Bool) → beside place other ≡ Some bit → common place other ≡ None
first_apart None other bit e = refl
first_apart (Some b) other bit e = cases (stands other b) e
  where
    cases : (t : Bool) → cond (not t) (Some b) None ≡ Some bit → cond t (Some b) None ≡ None
    cases true k = none_some bit k
    cases false k = refl

pub second_apart : (place other : Option Bool) (bit : Bool) → beside other place ≡ Some bit → common place other ≡ None
second_apart None other bit e = refl
second_apart (Some b) None bit e = refl
second_apart (Some true) (Some true) bit e = none_some bit e
second_apart (Some true) (Some false) bit e = refl
second_apart (Some false) (Some true) bit e = refl
second_apart (Some false) (Some false) bit e = none_some bit e

-- a column that has the other's literal, if that has one
pub inner_product : (place other : Option Bool) → ((bit : Bool) → other ≡ Some bit → place ≡ Some bit) → literal_product (beside place other) other ≡ place
inner_product None None h = refl
inner_product (Some b) None h = refl
inner_product place (Some b) h = subst (λ (x : Option Bool). literal_product (beside x (Some b)) (Some b) ≡ x) (sym (h b refl)) (itself b)
  where
    itself : (b : Bool) → literal_product (beside (Some b) (Some b)) (Some b) ≡ Some b
    itself true = refl
    itself false = refl

pub inner_apart : (place other : Option Bool) → ((bit : Bool) → other ≡ Some bit → place ≡ Some bit) → (bit : Bool) → other ≡ Some bit → beside place other ≡ None
inner_apart place other h bit e = ap₂ beside (h bit e) e ∙ itself bit
  where
    itself : (b : Bool) → beside (Some b) (Some b) ≡ None
    itself true = refl
    itself false = refl

pub stands_is : (place : Option Bool) (bit : Bool) → stands place bit ≡ true → place ≡ Some bit
stands_is None bit h = absurd cc
stands_is (Some true) true h = refl
stands_is (Some false) false h = refl
stands_is (Some true) false h = absurd cc
stands_is (Some false) true h = absurd cc

pub is_standing : (place : Option Bool) (bit : Bool) → place ≡ Some bit → stands place bit ≡ true
is_standing place bit e = ap (λ (p : Option Bool). stands p bit) e ∙ itself bit
  where
    itself : (b : Bool) → stands (Some b) b ≡ true
    itself true = refl
    itself false = refl

-- ---- the literals of a cube that pass a test

-- the literal of a name and a bit
literal_from : List ℕ → Bool → Literal
literal_from name bit = record { name = name; bit = bit }

kept_literal : (test : Literal → Bool) (cube : Cube) (name : List ℕ) → all_different (names_of cube) ≡ true
    → literal_of (filter test cube) name ≡ kept_place (λ bit. test (literal_from name bit)) (literal_of cube name)
unfolding literal_from
kept_literal test [] name apart = refl
kept_literal test (literal ∷ cube) name apart =
    cases (bytes_eq literal.name name) (test literal) refl refl (kept_literal test cube name (different_tail literal.name (names_of cube) apart))
    ∙ ap (kept_place (λ bit. test (literal_from name bit))) (sym (literal_of_cons literal cube name))
  where
    none : bytes_eq literal.name name ≡ true → literal_of cube name ≡ None
    none e = literal_of_none cube name (subst (λ (x : List ℕ). has (names_of cube) x ≡ false) (same_name literal.name name e) (different_head literal.name (names_of cube) apart))

    here : bytes_eq literal.name name ≡ true → test literal ≡ test (literal_from name literal.bit)
    here e = ap (λ (x : List ℕ). test (literal_from x literal.bit)) (same_name literal.name name e)

    first : (t : Bool) → test literal ≡ t → bytes_eq literal.name name ≡ true
        → cond t (Some literal.bit) None ≡ kept_place (λ bit. test (literal_from name bit)) (cond (bytes_eq literal.name name) (Some literal.bit) (literal_of cube name))
    first t k e =
        sym (ap (λ (b : Bool). kept_place (λ bit. test (literal_from name bit)) (cond b (Some literal.bit) (literal_of cube name))) e
        ∙ ap (λ (b : Bool). cond b (Some literal.bit) None) (sym (here e) ∙ k))

    later : bytes_eq literal.name name ≡ false → literal_of (filter test cube) name ≡ kept_place (λ bit. test (literal_from name bit)) (literal_of cube name)
        → literal_of (filter test cube) name ≡ kept_place (λ bit. test (literal_from name bit)) (cond (bytes_eq literal.name name) (Some literal.bit) (literal_of cube name))
    later e rest = rest ∙ sym (ap (λ (b : Bool). kept_place (λ bit. test (literal_from name bit)) (cond b (Some literal.bit) (literal_of cube name))) e)

    cases : (b t : Bool) → bytes_eq literal.name name ≡ b → test literal ≡ t → literal_of (filter test cube) name ≡ kept_place (λ bit. test (literal_from name bit)) (literal_of cube name)
        → literal_of (cond t (literal ∷ filter test cube) (filter test cube)) name ≡ kept_place (λ bit. test (literal_from name bit)) (cond (bytes_eq literal.name name) (Some literal.bit) (literal_of cube name))
    cases true true e k rest =
        (literal_of_cons literal (filter test cube) name ∙ ap (λ (b : Bool). cond b (Some literal.bit) (literal_of (filter test cube) name)) e) ∙ first true k e
    cases true false e k rest = (rest ∙ ap (kept_place (λ bit. test (literal_from name bit))) (none e)) ∙ first false k e
    cases false true e k rest =
        (literal_of_cons literal (filter test cube) name ∙ ap (λ (b : Bool). cond b (Some literal.bit) (literal_of (filter test cube) name)) e) ∙ later e rest
    cases false false e k rest = later e rest

any_at : (cube : Cube) (name : List ℕ) (bit : Bool) → all_different (names_of cube) ≡ true → list_any (same_literal (literal_from name bit)) cube ≡ stands (literal_of cube name) bit
unfolding literal_from
any_at [] name bit apart = refl
any_at (literal ∷ cube) name bit apart =
    cases (bytes_eq name literal.name) refl (any_at cube name bit (different_tail literal.name (names_of cube) apart)) ∙ ap (λ (p : Option Bool). stands p bit) (sym (literal_of_cons literal cube name))
  where
    cases : (b : Bool) → bytes_eq name literal.name ≡ b → list_any (same_literal (literal_from name bit)) cube ≡ stands (literal_of cube name) bit
        → ((b && beq bit literal.bit) || list_any (same_literal (literal_from name bit)) cube) ≡ stands (cond (bytes_eq literal.name name) (Some literal.bit) (literal_of cube name)) bit
    cases true e rest =
        let same : name ≡ literal.name = same_name name literal.name e in
        let none : literal_of cube name ≡ None =
        literal_of_none cube name (subst (λ (x : List ℕ). has (names_of cube) x ≡ false) (sym same) (different_head literal.name (names_of cube) apart)) in
        ap (λ (b : Bool). beq bit literal.bit || b) (rest ∙ ap (λ (p : Option Bool). stands p bit) none)
        ∙ (or-false (beq bit literal.bit) ∙ sym (ap (λ (b : Bool). stands (cond b (Some literal.bit) (literal_of cube name)) bit) (name_is literal.name name (sym same))))
    cases false e rest = rest ∙ sym (ap (λ (b : Bool). stands (cond b (Some literal.bit) (literal_of cube name)) bit) (name_turned name literal.name e))

-- ---- rows over names, column by column

times_made : (f g h : List ℕ → Option Bool) (names : List (List ℕ)) → ((name : List ℕ) → literal_product (f name) (g name) ≡ h name) → times (map f names) (map g names) ≡ map h names
unfolding times
times_made f g h [] e = refl
times_made f g h (name ∷ names) e = ap₂ (λ (place : Option Bool) (row : List (Option Bool)). place ∷ row) (e name) (times_made f g h names e)

rows_apart : (f g : List ℕ → Option Bool) (names : List (List ℕ)) → ((name : List ℕ) (bit : Bool) → g name ≡ Some bit → f name ≡ None) → AreApart (map f names) (map g names)
rows_apart f g [] h i bit e = refl
rows_apart f g (name ∷ names) h zero bit e = h name bit e
rows_apart f g (name ∷ names) h (suc i) bit e = rows_apart f g names h i bit e

module _ (names : List (List ℕ)) (one other : Cube) (first : all_different (names_of one) ≡ true) (second : all_different (names_of other) ≡ true) where
  shared_at : (name : List ℕ) → literal_of (shared one other) name ≡ common (literal_of one name) (literal_of other name)
  unfolding literal_from
  shared_at name =
      kept_literal (λ (literal : Literal). list_any (same_literal literal) other) one name first
      ∙ kept_alike (λ bit. list_any (same_literal (literal_from name bit)) other) (stands (literal_of other name)) (literal_of one name) (λ bit. any_at other name bit second)

  own_at : (name : List ℕ) → literal_of (own one other) name ≡ beside (literal_of one name) (literal_of other name)
  unfolding literal_from
  own_at name =
      kept_literal (λ (literal : Literal). not (list_any (same_literal literal) other)) one name first
      ∙ kept_alike (λ bit. not (list_any (same_literal (literal_from name bit)) other)) (λ bit. not (stands (literal_of other name) bit)) (literal_of one name) (λ bit. ap not (any_at other name bit second))

  -- what both share, times what the first has besides the second, is the first
  pub times_own : times (row_over names (shared one other)) (row_over names (own one other)) ≡ row_over names one
  times_own =
      times_made (literal_of (shared one other)) (literal_of (own one other)) (literal_of one) names
      (λ name. ap₂ literal_product (shared_at name) (own_at name) ∙ first_product (literal_of one name) (literal_of other name))

  pub own_apart : AreApart (row_over names (shared one other)) (row_over names (own one other))
  own_apart =
      rows_apart (literal_of (shared one other)) (literal_of (own one other)) names
      (λ name bit e. shared_at name ∙ first_apart (literal_of one name) (literal_of other name) bit (sym (own_at name) ∙ e))

  -- if the first has the literals of the second, what it has besides them, times the second, is the
  -- first
  pub times_inner : ((name : List ℕ) (bit : Bool) → literal_of other name ≡ Some bit → literal_of one name ≡ Some bit)
      → times (row_over names (own one other)) (row_over names other) ≡ row_over names one
  times_inner h =
      times_made (literal_of (own one other)) (literal_of other) (literal_of one) names
      (λ name. ap (λ (p : Option Bool). literal_product p (literal_of other name)) (own_at name) ∙ inner_product (literal_of one name) (literal_of other name) (h name))

  pub inner_is_apart : ((name : List ℕ) (bit : Bool) → literal_of other name ≡ Some bit → literal_of one name ≡ Some bit) → AreApart (row_over names (own one other)) (row_over names other)
  inner_is_apart h =
      rows_apart (literal_of (own one other)) (literal_of other) names
      (λ name bit e. own_at name ∙ inner_apart (literal_of one name) (literal_of other name) (h name) bit e)

module _ (names : List (List ℕ)) (one other : Cube) (first : all_different (names_of one) ≡ true) (second : all_different (names_of other) ≡ true) where
  -- what both share, times what the second has besides the first, is the second
  pub times_others_own : times (row_over names (shared one other)) (row_over names (own other one)) ≡ row_over names other
  times_others_own =
      times_made (literal_of (shared one other)) (literal_of (own other one)) (literal_of other) names
      (λ name. ap₂ literal_product (shared_at names one other first second name) (own_at names other one second first name) ∙ second_product (literal_of one name) (literal_of other name))

  pub others_own_apart : AreApart (row_over names (shared one other)) (row_over names (own other one))
  others_own_apart =
      rows_apart (literal_of (shared one other)) (literal_of (own other one)) names
      (λ name bit e. shared_at names one other first second name ∙ second_apart (literal_of one name) (literal_of other name) bit (sym (own_at names other one second first name) ∙ e))
