-- What a table of distinct rows loses if it is divided by a cover, as the quotient tells.
use Rattle.std.proofs.Common.{◌≡◌, ℕ, ◌+◌, ◌*◌, ◌-◌, ◌<◌, true, false, not, Bool, Option, Some, List, [], ◌∷◌, length, map, take, get_or, refl, sym, ap, ap₂, ◌∙◌, subst, arith}
use Rattle.std.proofs.lemmas.List.Sums.{sum_by-append, sum_by-cons}
use Rattle.std.proofs.lemmas.Bool.{or_parts, false≢true}
use Rattle.sis_base.specs.Rows.{HasWidth}
use Rattle.circuit_model.specs.Counts.{literals_of_table}
use Rattle.circuit_model.specs.Names.{has, all_different}
use Rattle.cube_cover.specs.Literals.{row_literals}
use Rattle.alg_div.proofs.Lists.{map-take}
use Rattle.cover_names.specs.Literals.{NamedCover}
use Rattle.cover_names.specs.Cubes.{is_over}
use Rattle.net_core.specs.Tables.{named, IsOverInputs}
use Rattle.net_core.specs.declared.table.CoverTable.{CoverTable}
use Rattle.net_candidates.proofs.Gains.{IsDivided, divided_closed}
use Rattle.net_candidates.proofs.Products.{literals_in_all}
use Rattle.net_candidates.proofs.Sums.{AreOnce}
use Rattle.net_candidates.proofs.TidyLiterals.{table_literals}
use Rattle.alg_tables.specs.Dividing.{firsts, has_no_cube, is_undivided, divided, IsDivision}
use Rattle.alg_tables.specs.declared.dividing.Division.{Division}
use Rattle.alg_tables.proofs.Divided.{quotient_named, stays_whole}
use Rattle.alg_tables.proofs.Divisions.{rows_of, divisor, found}
use Rattle.alg_tables.proofs.Taken.{characters_wide}
use Rattle.net_savings.specs.Saving.{IsLoss}
use Rattle.net_savings.proofs.ByRows.{firsts_same, rows_back, stays_loss}
use Rattle.net_savings.proofs.Narrowing.{few_narrow}
use Rattle.sis_base.specs.declared.limits.TheConstants.{MAX_INPUTS}

less_same : (made gone whole left : ℕ) → made + gone ≡ whole + left → gone - left ≡ whole - made
less_same made gone whole left e = omega (arith, e)

not_true : (b : Bool) → not b ≡ false → b ≡ true
not_true true h = refl
not_true false h = absurd (false≢true (sym h))

-- the literals of one more row
pub literals_next : {X : Type 0} (f : X → List (Option Bool)) (xs : List X) (i : ℕ) (x : X)
    (count sum : ℕ) → i < length xs → x ≡ get_or xs i x
    → count ≡ literals_in_all (map f (take i xs)) → sum ≡ count + row_literals (f x)
    → sum ≡ literals_in_all (map f (take (i + 1) xs))
literals_next f xs i x count sum below is before sum_is =
    let more : literals_in_all (map f (take (i + 1) xs))
    ≡ literals_in_all (map f (take i xs)) + literals_in_all (f x ∷ []) =
    ap literals_in_all (map-take f xs i x below is)
    ∙ sum_by-append row_literals (map f (take i xs)) (f x ∷ []) in
    let last : literals_in_all (f x ∷ []) ≡ row_literals (f x) + 0 =
    sum_by-cons row_literals (f x) [] in
    omega (arith, before, sum_is, more, last)

module _ {R : Type 0} (table : CoverTable R) (cover : NamedCover) where
  pub undivided_loss : (name output : List ℕ) → true ≡ is_undivided cover (named output table)
      → IsLoss name cover (Some (named output table)) (Some 0)
  undivided_loss name output none =
      stays_loss name cover (named output table) (stays_whole table name true cover output none)

  pub division_loss : (parts : Division R) (lost : ℕ) → IsOverInputs table
      → HasWidth table.cover.width table.cover.rows → all_different table.inputs ≡ true
      → AreOnce table.cover.rows → AreOnce parts.divisor.rows → length table.inputs < MAX_INPUTS
      → IsDivision cover table parts
      → ((output : List ℕ) → is_undivided cover (named output table) ≡ false)
      → lost ≡ (length parts.divisor.rows * literals_in_all parts.quotient.rows
      + length parts.quotient.rows * literals_in_all parts.divisor.rows)
      - (literals_in_all parts.quotient.rows + length parts.quotient.rows)
      → (name output : List ℕ) → has table.inputs name ≡ false
      → IsLoss name cover (Some (named output table)) (Some lost)
  unfolding named
  division_loss parts lost over widths once differ apart few is divides lost_is name output free =
      let t = named output table in
      let q : parts.quotient.rows ≡ found name true cover t =
      quotient_named table name true cover parts.quotient.rows output is.quotient in
      let ways = or_parts (not (is_over table.inputs cover)) (has_no_cube (found name true cover t))
      (divides output) in
      let way : IsDivided name true cover t =
      record { over = not_true (is_over table.inputs cover) ways.0; some = ways.1 } in
      let whole : literals_in_all (firsts (rows_of name true cover t)) ≡ literals_of_table t =
      ap literals_in_all (firsts_same (rows_of name true cover t)
      (subst AreOnce (sym (rows_back table name cover output)) differ))
      ∙ sym (table_literals t) in
      let closed = divided_closed name true cover t (record {
        wide = characters_wide (length table.inputs) table.cover.rows
            (subst (λ (w : ℕ). HasWidth w table.cover.rows) over widths);
        once = once;
        free = free;
        rows = λ _. subst AreOnce is.divisor apart;
      }) way in (
        lost_is
            ∙ ap₂ (λ (d x : List (List (Option Bool))).
            (length d * literals_in_all x + length x * literals_in_all d)
            - (literals_in_all x + length x)) is.divisor q
            ∙ less_same (literals_of_table (divided name true cover t))
            (length (divisor name true cover t) * literals_in_all (found name true cover t)
            + length (found name true cover t) * literals_in_all (divisor name true cover t))
            (literals_of_table t)
            (literals_in_all (found name true cover t) + length (found name true cover t))
            (closed ∙ ap (λ (n : ℕ). n
            + (literals_in_all (found name true cover t) + length (found name true cover t))) whole),
        few_narrow name cover t once free few,
      )
