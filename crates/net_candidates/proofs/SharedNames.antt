-- Two tables with rows that share two literals or more: both read a name other than any given one.
use Rattle.std.proofs.Common.{◌≡◌, ◌≤◌, ℕ, Bool, true, false, cond, List, [], ◌∷◌, length, bytes_eq, refl, sym, ◌∙◌, subst, inl, inr, arith}
use Rattle.std.specs.List.{list_all, list_any}
use Rattle.std.proofs.lemmas.Bool.{and_parts, or_parts, or_cases, false≢true}
use Rattle.circuit_model.specs.Names.{has, all_different}
use Rattle.circuit_model.specs.declared.circuit.Table.{Table}
use Rattle.circuit_laws.proofs.Names.{same_name, name_itself, name_cases, different_head}
use Rattle.alg_div.specs.Cubes.{Has}
use Rattle.net_candidates.specs.Candidates.{same_literal, shared, cubes_of}
use Rattle.net_candidates.proofs.Usable.{IsAmong, all_member, among_filtered, cubes_among}
use Rattle.cover_names.specs.Literals.{Cube, sorted_cube}
use Rattle.cover_names.specs.Cubes.{cube_over}
use Rattle.cover_names.specs.declared.literal.Literal.{Literal}
use Rattle.cover_names.proofs.Names.{over_is_over}
use Rattle.cover_names.proofs.Orders.{literal_order}
use Rattle.cover_names.proofs.Worth.{names_of, all_sorted}
use Rattle.net_core.specs.Tables.{places_of}
use Rattle.alg_tables.proofs.Quotients.{image_has}

-- the names of a table's cubes are among its inputs
pub names_read : (table : Table) (cube : Cube) → Has cube (cubes_of table) → list_all (λ (literal : Literal). has table.inputs literal.name) cube ≡ true
names_read table cube m =
    let p = image_has (λ row. sorted_cube (cube_over table.inputs (places_of row))) table.rows cube m in
    subst (λ (x : Cube). list_all (λ (literal : Literal). has table.inputs literal.name) x ≡ true) (sym p.2)
    (all_sorted literal_order (λ (literal : Literal). has table.inputs literal.name) (cube_over table.inputs (places_of p.0)) ∙ over_is_over table.inputs (places_of p.0))

same_read : (names : List (List ℕ)) (cube : Cube) (literal : Literal) → list_all (λ (other : Literal). has names other.name) cube ≡ true → list_any (same_literal literal) cube ≡ true
    → has names literal.name ≡ true
same_read names [] literal over h = absurd (false≢true h)
same_read names (first ∷ cube) literal over h =
    let parts = and_parts (has names first.name) (list_all (λ (other : Literal). has names other.name) cube) over in
    elim (or_cases (same_literal literal first) (list_any (same_literal literal) cube) h) as (λ _. has names literal.name ≡ true) [
      | inl e ↦ subst (λ (name : List ℕ). has names name ≡ true) (sym (same_name literal.name first.name (and_parts (bytes_eq literal.name first.name) _ e).0)) parts.0
      | inr n ↦ same_read names cube literal parts.1 n
    ]

-- so are the names of what another cube shares with one of them
shared_read : (names : List (List ℕ)) (one other : Cube) → list_all (λ (literal : Literal). has names literal.name) other ≡ true
    → list_all (λ (literal : Literal). has names literal.name) (shared one other) ≡ true
shared_read names [] other over = refl
shared_read names (literal ∷ one) other over = cases (list_any (same_literal literal) other) refl (shared_read names one other over)
  where
    cases : (b : Bool) → list_any (same_literal literal) other ≡ b → list_all (λ (l : Literal). has names l.name) (shared one other) ≡ true
        → list_all (λ (l : Literal). has names l.name) (cond b (literal ∷ shared one other) (shared one other)) ≡ true
    cases true h rest = rw (same_read names other literal over h) rest
    cases false h rest = rest

-- two tables read a name other than a given one
pub record IsReadBesides (one other : Table) (name another : List ℕ) : Type 0 where
  pub apart : another ≡ name → ⊥
  pub by_one : has one.inputs another ≡ true
  pub by_other : has other.inputs another ≡ true

-- of two literals of different names one has a name other than a given one
besides : (t u : Table) (cube : Cube) (name : List ℕ) → 2 ≤ length cube → all_different (names_of cube) ≡ true → list_all (λ (literal : Literal). has t.inputs literal.name) cube ≡ true
    → list_all (λ (literal : Literal). has u.inputs literal.name) cube ≡ true → (another : List ℕ) × IsReadBesides t u name another
besides t u [] name two apart over over' = absurd (omega (arith, two))
besides t u (one ∷ []) name two apart over over' = absurd (omega (arith, two))
besides t u (one ∷ (other ∷ cube)) name two apart over over' =
    let first = and_parts (has t.inputs one.name) _ over in
    let second = and_parts (has t.inputs other.name) _ first.1 in
    let first' = and_parts (has u.inputs one.name) _ over' in
    let second' = and_parts (has u.inputs other.name) _ first'.1 in
    let away = or_parts (bytes_eq one.name other.name) (has (names_of cube) one.name) (different_head one.name (names_of (other ∷ cube)) apart) in
    elim (name_cases one.name name) as (λ _. (another : List ℕ) × IsReadBesides t u name another) [
      | inl e ↦ (
        other.name,
        record {
          apart = λ k. false≢true (sym away.0 ∙ subst (λ (x : List ℕ). bytes_eq one.name x ≡ true) (e ∙ sym k) (name_itself one.name));
          by_one = second.0;
          by_other = second'.0;
        },
      )
      | inr h ↦ (
        one.name,
        record {
          apart = λ k. false≢true (sym h ∙ subst (λ (x : List ℕ). bytes_eq one.name x ≡ true) k (name_itself one.name));
          by_one = first.0;
          by_other = first'.0;
        },
      )
    ]

-- if a row of one table and a row of another share two literals or more, both tables read a name
-- other than any given one
pub shared_besides : (t u : Table) (one other : Cube) (name : List ℕ) → all_different t.inputs ≡ true → Has one (cubes_of t) → Has other (cubes_of u) → 2 ≤ length (shared one other)
    → (another : List ℕ) × IsReadBesides t u name another
shared_besides t u one other name once m n two =
    let among : IsAmong t.inputs one =
    all_member (IsAmong t.inputs) (cubes_of t) (cubes_among t.inputs t (record { once = once; live = λ _ h. h })) one m in
    let both : IsAmong t.inputs (shared one other) = among_filtered t.inputs (λ (literal : Literal). list_any (same_literal literal) other) one among in
    besides t u (shared one other) name two both.apart both.over (shared_read u.inputs one other (names_read u other n))
