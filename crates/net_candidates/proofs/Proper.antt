-- Candidates as divisors: their cubes rise, each once, and have a literal; so what they save is
-- known, table by table.
use Rattle.std.proofs.Common.{◌≡◌, ◌≢◌, ℕ, ◌+◌, ◌*◌, ◌≤◌, Bool, true, Option, List, [], ◌∷◌, ◌++◌, map, length, Less, refl, sym, ap, ◌∙◌, subst, inl, inr, arith}
use Rattle.std.specs.List.{AllByRecursion}
use Rattle.std.specs.List.Sorted.{IsStrictlySortedBy}
use Rattle.std.proofs.lemmas.Bool.{false≢true}
use Rattle.std.proofs.lemmas.List.{length-map}
use Rattle.std.proofs.lemmas.List.Kept.{IsStrictlySortedBy-filter}
use Rattle.std.proofs.lemmas.List.Sums.{sum_by-cons}
use Rattle.circuit_model.specs.Counts.{literals_of_table}
use Rattle.circuit_model.specs.Names.{all_different}
use Rattle.circuit_model.specs.Soundness.{given, IsShaped, IsSound}
use Rattle.circuit_model.specs.declared.circuit.Table.{Table}
use Rattle.circuit_model.specs.declared.circuit.Circuit.{Circuit}
use Rattle.circuit_laws.proofs.Names.{has_not}
use Rattle.circuit_laws.proofs.Sound.{all_append}
use Rattle.alg_div.specs.Cubes.{Has}
use Rattle.alg_div.proofs.Lists.{Has-map, Has-right}
use Rattle.alg_kernel.specs.Kernels.{row_cmp, Ascends}
use Rattle.alg_kernel.proofs.Orders.{row_total}
use Rattle.net_candidates.specs.Candidates.{ArePair, shared, own, cubes_of, all_cubes, IsDivisorOfTwoCubes, IsCubeOfTwoLiterals, IsKernelOf, IsSharedCube, IsCandidate, literals_in}
use Rattle.net_candidates.specs.declared.rule.Rule.{Rule}
use Rattle.net_candidates.specs.declared.rule.Rule.TheVariants.{Fx, Gkx, Gcx}
use Rattle.net_candidates.proofs.Sums.{AreOnce}
use Rattle.net_candidates.proofs.Products.{literals_in_all}
use Rattle.net_candidates.proofs.Gains.{IsDivided, IsDivisible, divided_closed, divided_small}
use Rattle.net_candidates.proofs.Divisors.{has_in, in_has, rising_once, IsProper, divisor_once, rows_over_literals}
use Rattle.net_candidates.proofs.Usable.{all_member, all_pair, IsReader, tables_read, candidate_usable}
use Rattle.cover_names.specs.Literals.{Cube, NamedCover, literal_cmp, cube_cmp, sorted, sorted_cube}
use Rattle.cover_names.specs.Cubes.{cube_over, row_over, is_over}
use Rattle.cover_names.specs.declared.literal.Literal.{Literal}
use Rattle.cover_names.proofs.Back.{sorted_row_back}
use Rattle.cover_names.proofs.Orders.{not_below_itself, literal_order, cube_order}
use Rattle.cover_names.proofs.Sorting.{sorted_has, sorted_keeps, sorted_rises, rises_head, rises_tail, rises_cons, rises_none}
use Rattle.net_core.specs.Fresh.{IsNewName}
use Rattle.net_core.proofs.NewNames.{new_is_free}
use Rattle.net_core.specs.Tables.{places_of}
use Rattle.alg_tables.specs.Dividing.{divided, firsts}
use Rattle.alg_tables.proofs.Divisions.{rows_of, divisor, found}
use Rattle.alg_tables.proofs.Quotients.{image_has}

-- ---- cubes that rise

-- a cube that rises
abbrev pub Rising : Cube → Type 0
Rising cube = IsStrictlySortedBy literal_cmp cube

pub cubes_rise : (table : Table) → AllByRecursion Rising (cubes_of table)
cubes_rise table = each table.rows
  where
    each : (rows : _) → AllByRecursion Rising (map (λ row. sorted_cube (cube_over table.inputs (places_of row))) rows)
    each [] = tt
    each (row ∷ rows) = (sorted_rises literal_order (cube_over table.inputs (places_of row)), each rows)

pub all_cubes_rise : (tables : List Table) → AllByRecursion Rising (all_cubes tables)
all_cubes_rise [] = tt
all_cubes_rise (table ∷ tables) = all_append Rising (cubes_of table) (all_cubes tables) (cubes_rise table) (all_cubes_rise tables)

rises_end : (before cube : Cube) → Rising (before ++ cube) → Rising cube
rises_end [] cube h = h
rises_end (literal ∷ before) cube h = rises_end before cube (rises_tail literal_order literal (before ++ cube) h)

pub pair_rises : (cube : Cube) (one other : Literal) → Rising cube → ArePair cube one other → Rising (one ∷ other ∷ [])
pair_rises cube one other h pair =
    let later : Rising (one ∷ (pair.between ++ other ∷ pair.after)) =
    rises_end pair.before (one ∷ (pair.between ++ other ∷ pair.after)) (subst Rising pair.among h) in
    let below : literal_cmp one other ≡ Less =
    rises_head literal_order one (pair.between ++ other ∷ pair.after) later other
    (has_in other (pair.between ++ other ∷ pair.after) (Has-right other pair.between (other ∷ pair.after) (inl refl))) in
    rises_cons literal_order one (other ∷ [])
    (λ y m. elim m as (λ _. literal_cmp one y ≡ Less) [ inl e ↦ subst (λ (x : Literal). literal_cmp one x ≡ Less) (sym e) below | inr n ↦ absurd n ])
    (rises_cons literal_order other [] (λ y m. absurd m) (rises_none literal_order))

-- ---- covers whose cubes rise, each once

-- each cube of a cover rises and occurs once, and some cube has a literal
pub record IsLiteral (cover : NamedCover) : Type 0 where
  pub rise : (cube : Cube) → Has cube cover → Rising cube
  pub once : AreOnce cover
  pub some : 1 ≤ literals_in cover

member_literals : (cover : NamedCover) (cube : Cube) → Has cube cover → length cube ≤ literals_in cover
member_literals [] cube m = absurd m
member_literals (first ∷ cover) cube m =
    elim m as (λ _. length cube ≤ literals_in (first ∷ cover)) [
      | inl e ↦ (let same : length cube ≡ length first = ap length e in omega (arith, same, sum_by-cons length first cover))
      | inr n ↦ (let rest : length cube ≤ literals_in cover = member_literals cover cube n in omega (arith, rest, sum_by-cons length first cover))
    ]

some_literal : (cube : Cube) → cube ≢ [] → 1 ≤ length cube
some_literal [] h = absurd (h refl)
some_literal (literal ∷ cube) h = omega arith

one_literal : (cube : Cube) → Rising cube → 1 ≤ length cube → IsLiteral (cube ∷ [])
one_literal cube h some = record {
  rise = λ x m. elim m as (λ _. Rising x) [ inl e ↦ subst Rising (sym e) h | inr n ↦ absurd n ];
  once = (λ m. m, tt);
  some = let e : length cube ≤ literals_in (cube ∷ []) = member_literals (cube ∷ []) cube (inl refl) in omega (arith, e, some);
}

sorted_literal : (cubes : NamedCover) → ((cube : Cube) → Has cube cubes → Rising cube) → (cube : Cube) → Has cube cubes → 1 ≤ length cube → IsLiteral (sorted cube_cmp cubes)
sorted_literal cubes rise cube m some = record {
  rise = λ x n. rise x (in_has x cubes (sorted_has cube_order cubes x (has_in x (sorted cube_cmp cubes) n)));
  once = rising_once cube_order (sorted cube_cmp cubes) (sorted_rises cube_order cubes);
  some = let e : length cube ≤ literals_in (sorted cube_cmp cubes) = member_literals (sorted cube_cmp cubes) cube (in_has cube (sorted cube_cmp cubes) (sorted_keeps cube_order cubes cube (has_in cube cubes m))) in
      omega (arith, e, some);
}

pub two_cubes_literal : (table : Table) (cover : NamedCover) → IsDivisorOfTwoCubes table cover → IsLiteral cover
two_cubes_literal table cover is =
    let both = all_pair Rising (cubes_of table) is.one is.other (cubes_rise table) is.rows in
    let first : Rising (own is.one is.other) = IsStrictlySortedBy-filter literal_cmp _ is.one both.0 in
    let second : Rising (own is.other is.one) = IsStrictlySortedBy-filter literal_cmp _ is.other both.1 in
    subst IsLiteral (sym is.is)
    (sorted_literal (own is.one is.other ∷ own is.other is.one ∷ [])
    (λ x m. elim m as (λ _. Rising x) [
      | inl e ↦ subst Rising (sym e) first
      | inr n ↦ elim n as (λ _. Rising x) [ inl e ↦ subst Rising (sym e) second | inr k ↦ absurd k ]
    ])
    (own is.one is.other) (inl refl) (some_literal (own is.one is.other) is.left))

pub two_literals_literal : (table : Table) (cover : NamedCover) → IsCubeOfTwoLiterals table cover → IsLiteral cover
two_literals_literal table cover is =
    subst IsLiteral (sym is.is)
    (one_literal (is.one ∷ is.other ∷ []) (pair_rises is.cube is.one is.other (all_member Rising (cubes_of table) (cubes_rise table) is.cube is.among) is.literals) (omega arith))

pub shared_literal : (tables : List Table) (cover : NamedCover) → IsSharedCube tables cover → IsLiteral cover
shared_literal tables cover is =
    let both = all_pair Rising (all_cubes tables) is.one is.other (all_cubes_rise tables) is.rows in
    subst IsLiteral (sym is.is) (one_literal (shared is.one is.other) (IsStrictlySortedBy-filter literal_cmp _ is.one both.0) (omega (arith, is.two)))

-- ---- kernels

-- of two rows that differ one has a literal
kernel_some : (names : List (List ℕ)) (rows : List (List (Option Bool))) → all_different names ≡ true → Ascends row_cmp rows → 2 ≤ length rows → ((row : List (Option Bool)) → Has row rows → length row ≡ length names)
    → (row : List (Option Bool)) × Has row rows × (1 ≤ length (sorted_cube (cube_over names row)))
unfolding Ascends
kernel_some names [] once order two wide = absurd (omega (arith, two))
kernel_some names (one ∷ []) once order two wide = absurd (omega (arith, two))
kernel_some names (one ∷ other ∷ rows) once order two wide = pick (sorted_cube (cube_over names one)) (sorted_cube (cube_over names other)) refl refl
  where
    pick : (first second : Cube) → first ≡ sorted_cube (cube_over names one) → second ≡ sorted_cube (cube_over names other)
        → (row : List (Option Bool)) × Has row (one ∷ other ∷ rows) × (1 ≤ length (sorted_cube (cube_over names row)))
    pick (literal ∷ first) second e f = (one, inl refl, subst (λ (cube : Cube). 1 ≤ length cube) e (omega arith))
    pick [] (literal ∷ second) e f = (other, inr (inl refl), subst (λ (cube : Cube). 1 ≤ length cube) f (omega arith))
    pick [] [] e f =
        let same : one ≡ other =
        sym (sorted_row_back names one once (wide one (inl refl))) ∙ (ap (row_over names) (sym e ∙ f) ∙ sorted_row_back names other once (wide other (inr (inl refl)))) in
        absurd (not_below_itself row_total one (subst (λ (row : List (Option Bool)). row_cmp one row ≡ Less) (sym same) (order.0 other (inl refl))))

pub kernel_literal : (table : Table) (cover : NamedCover) → all_different table.inputs ≡ true → IsKernelOf table cover → IsLiteral cover
kernel_literal table cover once is =
    let cube_of : List (Option Bool) → Cube = λ row. sorted_cube (cube_over table.inputs row) in
    let (row, here, some) = kernel_some table.inputs is.rows once is.kernel.order is.kernel.two (λ r m. ((is.kernel.quotient.2 r).0 m).wide) in
    subst IsLiteral (sym is.is)
    (sorted_literal (map cube_of is.rows)
    (λ cube m. (let (r, among, e) = image_has cube_of is.rows cube m in subst Rising (sym e) (sorted_rises literal_order (cube_over table.inputs r))))
    (cube_of row) (Has-map cube_of row is.rows here) some)

-- ---- candidates

pub candidate_literal : (rule : Rule) (signals : List (List ℕ)) (tables : List Table) (cover : NamedCover) → AllByRecursion (IsReader signals) tables → IsCandidate rule tables cover → IsLiteral cover
candidate_literal Fx signals tables cover readers (table, among, inl is) = two_cubes_literal table cover is
candidate_literal Fx signals tables cover readers (table, among, inr is) = two_literals_literal table cover is
candidate_literal Gkx signals tables cover readers (table, among, is) = kernel_literal table cover (all_member (IsReader signals) tables readers table among).once is
candidate_literal Gcx signals tables cover readers is = shared_literal tables cover is

pub candidate_proper : (rule : Rule) (signals : List (List ℕ)) (tables : List Table) (cover : NamedCover) → AllByRecursion (IsReader signals) tables → IsCandidate rule tables cover → IsProper cover
candidate_proper rule signals tables cover readers is =
    let own = candidate_literal rule signals tables cover readers is in
    record { rise = own.rise; apart = (candidate_usable rule signals tables cover readers is).apart; once = own.once }

-- a table of a sound circuit may be divided by a candidate
pub table_divisible : (circuit : Circuit) (name : List ℕ) (cover : NamedCover) → IsSound circuit → IsNewName circuit name → IsProper cover → (table : Table) → Has table circuit.tables → IsDivisible name true cover table
table_divisible circuit name cover sound new proper table among =
    let reader = all_member (IsReader (given circuit)) circuit.tables (tables_read circuit sound) table among in record {
      wide = (all_member IsShaped circuit.tables sound.shaped table among).0;
      once = reader.once;
      free = has_not table.inputs name (λ m. false≢true (sym (new_is_free circuit name new).0 ∙ reader.live name m));
      rows = λ over. divisor_once table.inputs cover proper over;
    }

module _ (rule : Rule) (circuit : Circuit) (name : List ℕ) (cover : NamedCover) (sound : IsSound circuit) (new : IsNewName circuit name) (is : IsCandidate rule circuit.tables cover)
    (table : Table) (among : Has table circuit.tables) where
  divisible : IsDivisible name true cover table
  divisible = table_divisible circuit name cover sound new (candidate_proper rule (given circuit) circuit.tables cover (tables_read circuit sound) is) table among

  divisor_literals : is_over table.inputs cover ≡ true → literals_in_all (divisor name true cover table) ≡ literals_in cover
  divisor_literals over = rows_over_literals table.inputs cover divisible.once (candidate_usable rule (given circuit) circuit.tables cover (tables_read circuit sound) is).apart over

  -- the literals of a table that is divided by a candidate; the right side does not depend on the
  -- name
  pub candidate_closed : IsDivided name true cover table
      → literals_of_table (divided name true cover table) + (length cover * literals_in_all (found name true cover table) + length (found name true cover table) * literals_in cover)
      ≡ literals_in_all (firsts (rows_of name true cover table)) + (literals_in_all (found name true cover table) + length (found name true cover table))
  candidate_closed way =
      subst (λ (n : ℕ). literals_of_table (divided name true cover table) + (length cover * literals_in_all (found name true cover table) + length (found name true cover table) * n)
      ≡ literals_in_all (firsts (rows_of name true cover table)) + (literals_in_all (found name true cover table) + length (found name true cover table))) (divisor_literals way.over)
      (subst (λ (n : ℕ). literals_of_table (divided name true cover table) + (n * literals_in_all (found name true cover table) + length (found name true cover table) * literals_in_all (divisor name true cover table))
      ≡ literals_in_all (firsts (rows_of name true cover table)) + (literals_in_all (found name true cover table) + length (found name true cover table))) (length-map cover (row_over table.inputs))
      (divided_closed name true cover table divisible way))

  -- and it never has more than the table
  pub candidate_small : literals_of_table (divided name true cover table) ≤ literals_of_table table
  candidate_small =
      divided_small name true cover table divisible
      (λ over. let some = (candidate_literal rule (given circuit) circuit.tables cover (tables_read circuit sound) is).some in subst (λ (n : ℕ). 1 ≤ n) (sym (divisor_literals over)) some)
