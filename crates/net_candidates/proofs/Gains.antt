-- The number of literals after a cover is extracted: the sum over the tables that are divided, and
-- over the new one; for a table that is divided it does not depend on the new name.
use Rattle.std.proofs.Common.{◌≡◌, ◌⊎◌, ℕ, ◌+◌, ◌*◌, ◌≤◌, zero, suc, Bool, true, false, not, ◌||◌, cond, if◌then◌else◌, Option, List, [], ◌∷◌, map, filter, length, refl, sym, ap, ap₂, ◌∙◌, subst, inl, inr, arith}
use Rattle.std.specs.List.{sum_by}
use Rattle.std.proofs.lemmas.Bool.{false≢true}
use Rattle.std.proofs.lemmas.List.Sums.{sum_by-cons, sum_by_push}
use Rattle.std.proofs.Math.Nat.{suc-mul, mul-suc}
use Rattle.circuit_model.specs.Counts.{literals_of, literals_of_table}
use Rattle.circuit_model.specs.Names.{has, all_different}
use Rattle.circuit_model.specs.declared.circuit.Table.{Table}
use Rattle.circuit_model.specs.declared.circuit.Circuit.{Circuit}
use Rattle.circuit_laws.proofs.Sound.{one_more}
use Rattle.cube_cover.specs.Literals.{row_literals}
use Rattle.alg_div.specs.Cubes.{row_eq}
use Rattle.net_candidates.specs.Extracting.{literals_after}
use Rattle.net_candidates.proofs.Sums.{sum_mapped, AreOnce}
use Rattle.net_candidates.proofs.Products.{literals_in_all, gain_closed}
use Rattle.net_candidates.proofs.TidyLiterals.{table_literals, tidied_literals}
use Rattle.cover_names.specs.Literals.{NamedCover}
use Rattle.cover_names.specs.Cubes.{is_over}
use Rattle.net_core.specs.Tables.{characters_of}
use Rattle.net_core.proofs.Rows.{all_places_back, width_of_characters}
use Rattle.alg_tables.specs.Dividing.{firsts, rejoined, has_no_cube, divided, cover_table}
use Rattle.alg_tables.proofs.Divided.{rows_wide}
use Rattle.alg_tables.proofs.Divisions.{joined_rows, rows_of, divisor, found, rejoined_wide}
use Rattle.alg_tables.proofs.Quotients.{quotient_is}
use Rattle.circuit_tables.specs.Tidy.{IsWide, some_row_or_phase_one, tidied}

-- the tables that are divided, and the new one
pub literals_extracted : (circuit : Circuit) (name : List ℕ) (cover : NamedCover)
    → literals_after circuit name cover ≡ sum_by (λ (table : Table). literals_of_table (divided name true cover table)) circuit.tables + literals_of_table (cover_table name cover)
unfolding literals_of
literals_extracted circuit name cover =
    sum_by_push literals_of_table (map (divided name true cover) circuit.tables) (cover_table name cover)
    ∙ ap (λ (n : ℕ). n + literals_of_table (cover_table name cover)) (sum_mapped literals_of_table (divided name true cover) circuit.tables)

-- ---- rows, each once

kept_small : (test : List (Option Bool) → Bool) (rows : List (List (Option Bool))) → literals_in_all (filter test rows) ≤ literals_in_all rows
kept_small test [] = omega arith
kept_small test (row ∷ rows) = cases (test row) (kept_small test rows)
  where
    cases : (b : Bool) → literals_in_all (filter test rows) ≤ literals_in_all rows → literals_in_all (cond b (row ∷ filter test rows) (filter test rows)) ≤ literals_in_all (row ∷ rows)
    cases true rest = omega (arith, rest, sum_by-cons row_literals row (filter test rows), sum_by-cons row_literals row rows)
    cases false rest = omega (arith, rest, sum_by-cons row_literals row rows)

pub firsts_small : (rows : List (List (Option Bool))) → literals_in_all (firsts rows) ≤ literals_in_all rows
unfolding firsts
firsts_small [] = omega arith
firsts_small (row ∷ rows) =
    let test : List (Option Bool) → Bool = λ other. not (row_eq row other) in
    omega (arith, firsts_small rows, kept_small test (firsts rows), sum_by-cons row_literals row (filter test (firsts rows)), sum_by-cons row_literals row rows)

-- ---- a table that is divided

pub some_joined : (bit : Bool) (f d q : List (List (Option Bool))) (phase : Bool) → has_no_cube q ≡ false → some_row_or_phase_one (map characters_of (joined_rows bit f d q)) phase ≡ true
some_joined bit f d [] phase h = absurd (false≢true (sym h))
some_joined bit f d (cube ∷ q) phase h = refl

module _ (name : List ℕ) (bit : Bool) (cover : NamedCover) (table : Table) where
  -- the table reads what the cover reads, and has a quotient
  pub record IsDivided : Type 0 where
    pub over : is_over table.inputs cover ≡ true
    pub some : has_no_cube (found name bit cover table) ≡ false

  -- the table is well formed, reads each input once, and not the new signal; if it is over what the
  -- cover reads no row of the divisor occurs twice
  pub record IsDivisible : Type 0 where
    pub wide : IsWide table
    pub once : all_different table.inputs ≡ true
    pub free : has table.inputs name ≡ false
    pub rows : is_over table.inputs cover ≡ true → AreOnce (divisor name bit cover table)

  pub divided_where : IsDivided → divided name bit cover table ≡ tidied (rejoined name bit table (divisor name bit cover table) (found name bit cover table))
  unfolding divided
  divided_where is =
      ap₂ (λ (a b : Bool). if not a || b then table else tidied (rejoined name bit table (divisor name bit cover table) (found name bit cover table))) is.over is.some

  -- it is divided, or stays as it is
  pub divided_or_not : IsDivided ⊎ (divided name bit cover table ≡ table)
  unfolding divided
  divided_or_not = cases (is_over table.inputs cover) (has_no_cube (found name bit cover table)) refl refl
    where
      cases : (a b : Bool) → is_over table.inputs cover ≡ a → has_no_cube (found name bit cover table) ≡ b
          → IsDivided ⊎ ((if not a || b then table else tidied (rejoined name bit table (divisor name bit cover table) (found name bit cover table))) ≡ table)
      cases true true h k = inr refl
      cases true false h k = inl (record { over = h; some = k })
      cases false b h k = inr refl

  pub divided_literals : IsDivisible → IsDivided
      → literals_of_table (divided name bit cover table) ≡ literals_in_all (firsts (joined_rows bit (rows_of name bit cover table) (divisor name bit cover table) (found name bit cover table)))
  unfolding rejoined
  divided_literals may is =
      ap literals_of_table (divided_where is)
      ∙ (tidied_literals (rejoined name bit table (divisor name bit cover table) (found name bit cover table)) (rejoined_wide name bit cover table may.wide)
      (one_more table.inputs name may.once may.free)
      (some_joined bit (rows_of name bit cover table) (divisor name bit cover table) (found name bit cover table) table.phase is.some)
      ∙ ap (λ (rows : List (List (Option Bool))). literals_in_all (firsts rows)) (all_places_back (joined_rows bit (rows_of name bit cover table) (divisor name bit cover table) (found name bit cover table))))

  -- what is lost and what is gained; the right side does not depend on the name
  pub divided_closed : IsDivisible → IsDivided
      → literals_of_table (divided name bit cover table)
      + (length (divisor name bit cover table) * literals_in_all (found name bit cover table) + length (found name bit cover table) * literals_in_all (divisor name bit cover table))
      ≡ literals_in_all (firsts (rows_of name bit cover table)) + (literals_in_all (found name bit cover table) + length (found name bit cover table))
  divided_closed may is =
      ap (λ (n : ℕ). n + (length (divisor name bit cover table) * literals_in_all (found name bit cover table) + length (found name bit cover table) * literals_in_all (divisor name bit cover table)))
      (divided_literals may is)
      ∙ gain_closed (length table.inputs) bit (rows_of name bit cover table) (divisor name bit cover table) (found name bit cover table)
      (quotient_is (length table.inputs) (rows_of name bit cover table) (divisor name bit cover table) (width_of_characters (length table.inputs) table.rows may.wide))
      (rows_wide table.inputs cover) (may.rows is.over)

-- ---- never more literals

times_more : (m n : ℕ) → 1 ≤ m → n ≤ m * n
times_more zero n h = absurd (omega (arith, h))
times_more (suc m) n h = omega (arith, suc-mul m n)

more_times : (m n : ℕ) → 1 ≤ n → m ≤ m * n
more_times m zero h = absurd (omega (arith, h))
more_times m (suc n) h = omega (arith, mul-suc m n)

no_more : (made firsts whole count literals rows all : ℕ) → made + (count * literals + rows * all) ≡ firsts + (literals + rows) → 1 ≤ count → 1 ≤ all → firsts ≤ whole → made ≤ whole
no_more made firsts whole count literals rows all e some any small = omega (arith, e, small, times_more count literals some, more_times rows all any)

some_rows : (rows : List (List (Option Bool))) → 1 ≤ literals_in_all rows → 1 ≤ length rows
some_rows [] h = h
some_rows (row ∷ rows) h = omega arith

-- if the divisor has a literal, the divided table has no more literals than the table
pub divided_small : (name : List ℕ) (bit : Bool) (cover : NamedCover) (table : Table) → IsDivisible name bit cover table → (is_over table.inputs cover ≡ true → 1 ≤ literals_in_all (divisor name bit cover table))
    → literals_of_table (divided name bit cover table) ≤ literals_of_table table
divided_small name bit cover table may some =
    elim (divided_or_not name bit cover table) as (λ _. literals_of_table (divided name bit cover table) ≤ literals_of_table table) [
      | inl is ↦ no_more (literals_of_table (divided name bit cover table)) (literals_in_all (firsts (rows_of name bit cover table))) (literals_of_table table)
          (length (divisor name bit cover table)) (literals_in_all (found name bit cover table)) (length (found name bit cover table)) (literals_in_all (divisor name bit cover table))
          (divided_closed name bit cover table may is) (some_rows (divisor name bit cover table) (some is.over)) (some is.over)
          (subst (λ (n : ℕ). literals_in_all (firsts (rows_of name bit cover table)) ≤ n) (sym (table_literals table)) (firsts_small (rows_of name bit cover table)))
      | inr e ↦ (let same : literals_of_table (divided name bit cover table) ≡ literals_of_table table = ap literals_of_table e in omega (arith, same))
    ]

-- ---- the name does not matter

same_left : (made other lost whole : ℕ) → made + lost ≡ whole → other + lost ≡ whole → made ≡ other
same_left made other lost whole e k = omega (arith, e, k)

pub divided_nameless : (name other : List ℕ) (bit : Bool) (cover : NamedCover) (table : Table) → IsDivisible name bit cover table → IsDivisible other bit cover table
    → literals_of_table (divided name bit cover table) ≡ literals_of_table (divided other bit cover table)
divided_nameless name other bit cover table may might =
    elim (divided_or_not name bit cover table) as (λ _. literals_of_table (divided name bit cover table) ≡ literals_of_table (divided other bit cover table)) [
      | inl is ↦ both is
      | inr e ↦ elim (divided_or_not other bit cover table) as (λ _. literals_of_table (divided name bit cover table) ≡ literals_of_table (divided other bit cover table)) [
        | inl is ↦ both (record { over = is.over; some = is.some })
        | inr k ↦ ap literals_of_table (e ∙ sym k)
      ]
    ]
  where
    both : IsDivided name bit cover table → literals_of_table (divided name bit cover table) ≡ literals_of_table (divided other bit cover table)
    both is =
        same_left (literals_of_table (divided name bit cover table)) (literals_of_table (divided other bit cover table))
        (length (divisor name bit cover table) * literals_in_all (found name bit cover table) + length (found name bit cover table) * literals_in_all (divisor name bit cover table))
        (literals_in_all (firsts (rows_of name bit cover table)) + (literals_in_all (found name bit cover table) + length (found name bit cover table)))
        (divided_closed name bit cover table may is) (divided_closed other bit cover table might (record { over = is.over; some = is.some }))
