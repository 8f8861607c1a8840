-- A decomposition without parts: several rows are replaced by one row of dashes.
use Rattle.std.proofs.Common.{◌≡◌, ℕ, ◌<◌, suc, Bool, true, false, ◌&&◌, ◌||◌, if◌then◌else◌, ltb, leb, Option, None, List, [], ◌∷◌, map, filter, replicate, length, refl, sym, ap, ◌∙◌, subst, arith}
use Rattle.std.specs.List.{list_any}
use Rattle.std.proofs.lemmas.Bool.{false≢true, eqb-true, le-leb}
use Rattle.circuit_model.specs.declared.circuit.Table.{Table}
use Rattle.cube_cover.specs.Literals.{row_literals, all_dashes, some_dashes}
use Rattle.net_decomp.specs.Partings.{Parting, rows_of}
use Rattle.net_decomp.specs.Rules.{is_long, is_gate, literal_parting, rows_parting, sum_parting, product_parting, gate_parting, IsDecomposable}
use Rattle.net_decomp.specs.declared.rule.Rule.{Rule}
use Rattle.net_decomp.specs.declared.rule.Rule.TheVariants.{Shared, Gates}
use Rattle.net_decomp.proofs.Counted.{none_dashes}

-- several rows are replaced by one
pub record IsFalling (rows : List (List (Option Bool))) (parting : Parting) : Type 0 where
  pub several : 1 < length rows
  pub one : length parting.rows ≡ 1

some_not_none : {A : Type 0} (x : A) (xs : List A) → x ∷ xs ≡ [] → ⊥
some_not_none x xs h = let z : suc (length xs) ≡ 0 = ap length h in omega (arith, z)

-- a row without literals is a gate, if it is the only one
dashes_gate : (products sums : ℕ) (row : List (Option Bool)) → all_dashes row ≡ true → is_gate products sums (row ∷ []) ≡ true
unfolding is_gate
dashes_gate products sums row dashes =
    let none : row_literals row ≡ 0 = eqb-true (row_literals row) 0 (sym (none_dashes row) ∙ dashes) in
    let few : leb (row_literals row) products ≡ true = le-leb (row_literals row) products (omega (arith, none)) in
    rw few refl

several_rows : (products sums : ℕ) (rows : List (List (Option Bool))) → some_dashes rows ≡ true → is_gate products sums rows ≡ false → 1 < length rows
unfolding some_dashes
several_rows products sums [] some no_gate = absurd (false≢true some)
several_rows products sums (row ∷ []) some no_gate = cases (all_dashes row) refl some
  where
    cases : (b : Bool) → all_dashes row ≡ b → (b || false) ≡ true → 1 < length (row ∷ [])
    cases true dashes h = absurd (false≢true (sym no_gate ∙ dashes_gate products sums row dashes))
    cases false dashes h = absurd (false≢true h)
several_rows products sums (row ∷ second ∷ rows) some no_gate = omega arith

-- a long row among rows is kept
long_kept : (rows : List (List (Option Bool))) → list_any is_long rows ≡ true → filter is_long rows ≡ [] → ⊥
long_kept [] some none = absurd (false≢true some)
long_kept (row ∷ rows) some none = cases (is_long row) (λ h k. long_kept rows h k) some none
  where
    cases : (b : Bool) → (list_any is_long rows ≡ true → filter is_long rows ≡ [] → ⊥) → (b || list_any is_long rows) ≡ true → (if b then row ∷ filter is_long rows else filter is_long rows) ≡ [] → ⊥
    cases true others h k = some_not_none row (filter is_long rows) k
    cases false others h k = others h k

and_right : (a b : Bool) → (a && b) ≡ true → b ≡ true
and_right true b h = h
and_right false b h = absurd (false≢true h)

gate_falls : (products sums width : ℕ) (rows : List (List (Option Bool))) → is_gate products sums rows ≡ false → (gate_parting products sums width rows).parts ≡ [] → IsFalling rows (gate_parting products sums width rows)
unfolding gate_parting rows_parting sum_parting product_parting
gate_falls products sums width rows no_gate none = dashes (some_dashes rows) refl none
  where
    long : Parting
    long = rows_parting width rows

    others : Parting
    others = if ltb 1 (length rows) then sum_parting width sums rows else product_parting products rows

    several : (b : Bool) → (if b then sum_parting width sums rows else product_parting products rows).parts ≡ [] → IsFalling rows (if b then sum_parting width sums rows else product_parting products rows)
    several true h = absurd (some_not_none _ [] h)
    several false h = absurd (some_not_none _ [] h)

    longs : (b : Bool) → (ltb 1 (length rows) && list_any is_long rows) ≡ b → (if b then long else others).parts ≡ [] → IsFalling rows (if b then long else others)
    longs true e h = absurd (long_kept rows (and_right (ltb 1 (length rows)) (list_any is_long rows) e) (unmapped (filter is_long rows) h))
      where
        unmapped : (list : List (List (Option Bool))) → map (λ row. row ∷ []) list ≡ [] → list ≡ []
        unmapped [] k = refl
        unmapped (row ∷ list) k = absurd (some_not_none _ _ k)
    longs false e h = several (ltb 1 (length rows)) h

    constant : Parting
    constant = record { parts = []; rows = replicate width None ∷ [] }

    rest : Parting
    rest = if ltb 1 (length rows) && list_any is_long rows then long else others

    dashes : (b : Bool) → some_dashes rows ≡ b → (if b then constant else rest).parts ≡ [] → IsFalling rows (if b then constant else rest)
    dashes true e h = record { several = several_rows products sums rows e no_gate; one = refl }
    dashes false e h = longs (ltb 1 (length rows) && list_any is_long rows) refl h

pub due_falls : (rule : Rule) (table : Table) (parting : Parting) → IsDecomposable rule table parting → parting.parts ≡ [] → IsFalling (rows_of table) parting
unfolding literal_parting
due_falls Shared table parting (place, bit, chosen, is) none =
    absurd (some_not_none _ [] (sym (ap (λ (p : Parting). p.parts) is) ∙ none))
due_falls (Gates products sums) table parting (no_gate, is) none =
    subst (IsFalling (rows_of table)) (sym is) (gate_falls products sums (length table.inputs) (rows_of table) no_gate (sym (ap (λ (p : Parting). p.parts) is) ∙ none))
