-- A table that is divided reads the signal of the cover, and at most that one name in addition.
use Rattle.std.proofs.Common.{◌≡◌, ℕ, ◌+◌, ◌≤◌, Bool, true, false, ◌||◌, Option, Some, List, [], ◌∷◌, ◌++◌, length, refl, sym, ap, ◌∙◌, subst, arith}
use Rattle.std.specs.List.{list_any}
use Rattle.std.proofs.lemmas.Bool.{false≢true}
use Rattle.std.proofs.lemmas.List.{map_push, length-append}
use Rattle.circuit_model.specs.Counts.{is_literal}
use Rattle.circuit_model.specs.Names.{has, all_different}
use Rattle.circuit_model.specs.declared.circuit.Table.{Table}
use Rattle.circuit_model.specs.declared.circuit.Tri.{Tri}
use Rattle.circuit_laws.proofs.Names.{has_head, has_tail}
use Rattle.circuit_laws.proofs.Sound.{one_more}
use Rattle.net_candidates.proofs.Gains.{IsDivided, divided_where, some_joined}
use Rattle.cover_names.specs.Literals.{NamedCover}
use Rattle.net_core.specs.Tables.{character_of, characters_of}
use Rattle.alg_tables.specs.Dividing.{rejoined, has_no_cube, divided}
use Rattle.alg_tables.proofs.Divisions.{rows_of, divisor, found, rejoined_wide}
use Rattle.circuit_tables.specs.Tidy.{IsWide, front_place, used_places, chosen, rows_once, narrowed, with_rows_once}
use Rattle.circuit_tables.proofs.Tidied.{tidied_is, chosen_small}

-- an input whose column is marked
first_chosen : (mark : Bool) (marks : List Bool) (name : List ℕ) (names : List (List ℕ)) → mark ≡ true → has (chosen (mark ∷ marks) (name ∷ names)) name ≡ true
unfolding chosen
first_chosen true marks name names e = has_head name (chosen marks names)
first_chosen false marks name names e = absurd (false≢true e)

later_chosen : (mark : Bool) (marks : List Bool) (first : List ℕ) (names : List (List ℕ)) (name : List ℕ) → has (chosen marks names) name ≡ true → has (chosen (mark ∷ marks) (first ∷ names)) name ≡ true
unfolding chosen
later_chosen true marks first names name h = has_tail first (chosen marks names) name h
later_chosen false marks first names name h = h

-- the last input stays where the first row has a literal of it
last_chosen : (inputs : List (List ℕ)) (name : List ℕ) (row : List Tri) (mark : Tri) (rows : List (List Tri)) → length row ≡ length inputs → is_literal mark ≡ true
    → has (chosen (used_places (inputs ++ name ∷ []) ((row ++ mark ∷ []) ∷ rows)) (inputs ++ name ∷ [])) name ≡ true
unfolding used_places
last_chosen [] name [] mark rows long some =
    first_chosen (list_any (λ row. is_literal (front_place row)) ((mark ∷ []) ∷ rows)) _ name [] (ap (λ (b : Bool). b || list_any (λ row. is_literal (front_place row)) rows) some)
last_chosen [] name (place ∷ row) mark rows long some = absurd (omega (arith, long))
last_chosen (input ∷ inputs) name [] mark rows long some = absurd (omega (arith, long))
last_chosen (input ∷ inputs) name (place ∷ row) mark rows long some =
    later_chosen (list_any (λ other. is_literal (front_place other)) ((place ∷ (row ++ mark ∷ [])) ∷ rows)) _ input (inputs ++ name ∷ []) name
    (last_chosen inputs name row mark _ (omega (arith, long)) some)

-- the same for a row that ends with the literal
ended_chosen : (inputs : List (List ℕ)) (name : List ℕ) (row whole : List Tri) (mark : Tri) (rows : List (List Tri)) → whole ≡ row ++ mark ∷ [] → length whole ≡ length (inputs ++ name ∷ [])
    → is_literal mark ≡ true → has (chosen (used_places (inputs ++ name ∷ []) (whole ∷ rows)) (inputs ++ name ∷ [])) name ≡ true
ended_chosen inputs name row whole mark rows split long some =
    let sizes : length (row ++ mark ∷ []) ≡ length (inputs ++ name ∷ []) = sym (ap length split) ∙ long in
    subst (λ (r : List Tri). has (chosen (used_places (inputs ++ name ∷ []) (r ∷ rows)) (inputs ++ name ∷ [])) name ≡ true) (sym split)
    (last_chosen inputs name row mark rows (omega (arith, sizes, length-append row (mark ∷ []), length-append inputs (name ∷ []))) some)

bit_literal : (bit : Bool) → is_literal (character_of (Some bit)) ≡ true
bit_literal true = refl
bit_literal false = refl

narrowed_reads : (name : List ℕ) (bit : Bool) (table : Table) (d q : List (List (Option Bool))) → has_no_cube q ≡ false → IsWide (rejoined name bit table d q)
    → has (narrowed (with_rows_once (rejoined name bit table d q))).inputs name ≡ true
unfolding rejoined narrowed rows_once
narrowed_reads name bit table d [] some wide = absurd (false≢true (sym some))
narrowed_reads name bit table d (cube ∷ q) some wide =
    ended_chosen table.inputs name (characters_of cube) (characters_of (cube ++ Some bit ∷ [])) (character_of (Some bit)) _ (map_push character_of cube (Some bit)) wide.0 (bit_literal bit)

narrowed_few : (name : List ℕ) (bit : Bool) (table : Table) (d q : List (List (Option Bool))) → length (narrowed (with_rows_once (rejoined name bit table d q))).inputs ≤ length table.inputs + 1
unfolding rejoined narrowed
narrowed_few name bit table d q =
    let few : length (narrowed (with_rows_once (rejoined name bit table d q))).inputs ≤ length (table.inputs ++ name ∷ []) = chosen_small _ (table.inputs ++ name ∷ []) in
    omega (arith, few, length-append table.inputs (name ∷ []))

module _ (name : List ℕ) (bit : Bool) (cover : NamedCover) (table : Table) (once : all_different table.inputs ≡ true) (free : has table.inputs name ≡ false) (is : IsDivided name bit cover table) where
  -- what it becomes has a row, and so is no constant
  pub divided_narrowed : divided name bit cover table ≡ narrowed (with_rows_once (rejoined name bit table (divisor name bit cover table) (found name bit cover table)))
  unfolding rejoined
  divided_narrowed =
      divided_where name bit cover table is
      ∙ tidied_is (rejoined name bit table (divisor name bit cover table) (found name bit cover table)) (one_more table.inputs name once free)
      (some_joined bit (rows_of name bit cover table) (divisor name bit cover table) (found name bit cover table) table.phase is.some)

  pub divided_reads_name : IsWide table → has (divided name bit cover table).inputs name ≡ true
  divided_reads_name wide =
      ap (λ (t : Table). has t.inputs name) divided_narrowed
      ∙ narrowed_reads name bit table (divisor name bit cover table) (found name bit cover table) is.some (rejoined_wide name bit cover table wide)

  pub divided_few : length (divided name bit cover table).inputs ≤ length table.inputs + 1
  divided_few =
      let same : length (divided name bit cover table).inputs ≡ length (narrowed (with_rows_once (rejoined name bit table (divisor name bit cover table) (found name bit cover table)))).inputs =
      ap (λ (t : Table). length t.inputs) divided_narrowed in
      omega (arith, same, narrowed_few name bit table (divisor name bit cover table) (found name bit cover table))
