-- Candidates are covers of signals, in no cube of which a name occurs twice.
use Rattle.std.proofs.Common.{◌≡◌, ℕ, Bool, true, false, cond, Option, List, [], ◌∷◌, ◌++◌, map, filter, bytes_eq, refl, sym, ◌∙◌, subst, inl, inr}
use Rattle.std.specs.List.{list_all, AllByRecursion}
use Rattle.std.proofs.lemmas.Bool.{and_parts, and_from, or_parts}
use Rattle.circuit_model.specs.Names.{has, all_different}
use Rattle.circuit_model.specs.Soundness.{table_inputs, given, IsSound}
use Rattle.circuit_model.specs.declared.circuit.Table.{Table}
use Rattle.circuit_model.specs.declared.circuit.Circuit.{Circuit}
use Rattle.circuit_laws.proofs.Names.{has_front, has_back, has_apart, different_head, different_tail, different_cons, different_none}
use Rattle.circuit_laws.proofs.Sound.{all_append, all_parts}
use Rattle.circuit_laws.proofs.Mapped.{live_reads}
use Rattle.alg_div.specs.Cubes.{Has}
use Rattle.net_candidates.specs.Candidates.{ArePair, shared, own, cubes_of, all_cubes, IsDivisorOfTwoCubes, IsCubeOfTwoLiterals, IsKernelOf, IsSharedCube, IsCandidate}
use Rattle.net_candidates.specs.declared.rule.Rule.{Rule}
use Rattle.net_candidates.specs.declared.rule.Rule.TheVariants.{Fx, Gkx, Gcx}
use Rattle.cover_names.specs.Literals.{Cube, NamedCover, cube_cmp, sorted, sorted_cube}
use Rattle.cover_names.specs.Cubes.{cube_over, cover_over, is_over}
use Rattle.cover_names.specs.declared.literal.Literal.{Literal}
use Rattle.cover_names.proofs.Back.{all_apart, cover_over_apart, cover_over_is_over}
use Rattle.cover_names.proofs.Names.{over_different, over_is_over, sorted_different}
use Rattle.cover_names.proofs.Orders.{literal_order, cube_order}
use Rattle.cover_names.proofs.Worth.{names_of, all_sorted}
use Rattle.net_core.specs.Tables.{places_of}
use Rattle.alg_tables.proofs.CoverTables.{over_names, names_over}

-- what holds of all holds of one of them, and of a pair
pub all_member : {X : Type 0} (P : X → Type 0) (xs : List X) → AllByRecursion P xs → (x : X) → Has x xs → P x
all_member P [] all x m = absurd m
all_member P (first ∷ xs) all x m = elim m as (λ _. P x) [ inl e ↦ subst P (sym e) all.0 | inr n ↦ all_member P xs all.1 x n ]

pub all_pair : {X : Type 0} (P : X → Type 0) (xs : List X) (first second : X) → AllByRecursion P xs → ArePair xs first second → P first × P second
all_pair P xs first second all pair =
    let parts = (all_parts P pair.before (first ∷ (pair.between ++ second ∷ pair.after)) (subst (AllByRecursion P) pair.among all)).1 in
    (parts.0, (all_parts P pair.between (second ∷ pair.after) parts.1).1.0)

-- ---- cubes of signals

-- the names of a cube are different, and among some
pub record IsAmong (signals : List (List ℕ)) (cube : Cube) : Type 0 where
  pub apart : all_different (names_of cube) ≡ true
  pub over : list_all (λ (literal : Literal). has signals literal.name) cube ≡ true

among_none : (signals : List (List ℕ)) → IsAmong signals []
among_none signals = record { apart = different_none; over = refl }

among_cons : (signals : List (List ℕ)) (literal : Literal) (cube : Cube) → has (names_of cube) literal.name ≡ false → has signals literal.name ≡ true
    → IsAmong signals cube → IsAmong signals (literal ∷ cube)
among_cons signals literal cube apart there among = record {
  apart = different_cons literal.name (names_of cube) apart among.apart;
  over = and_from _ _ there among.over;
}

among_head : (signals : List (List ℕ)) (literal : Literal) (cube : Cube) → IsAmong signals (literal ∷ cube) → has signals literal.name ≡ true
among_head signals literal cube among = (and_parts (has signals literal.name) (list_all (λ (other : Literal). has signals other.name) cube) among.over).0

among_tail : (signals : List (List ℕ)) (literal : Literal) (cube : Cube) → IsAmong signals (literal ∷ cube) → IsAmong signals cube
among_tail signals literal cube among = record {
  apart = different_tail literal.name (names_of cube) among.apart;
  over = (and_parts (has signals literal.name) (list_all (λ (other : Literal). has signals other.name) cube) among.over).1;
}

among_end : (signals : List (List ℕ)) (before cube : Cube) → IsAmong signals (before ++ cube) → IsAmong signals cube
among_end signals [] cube among = among
among_end signals (literal ∷ before) cube among = among_end signals before cube (among_tail signals literal (before ++ cube) among)

-- if no literal of a cube has a name, none that passes a test has it
lacks_filtered : (test : Literal → Bool) (cube : Cube) (name : List ℕ) → has (names_of cube) name ≡ false → has (names_of (filter test cube)) name ≡ false
lacks_filtered test [] name h = refl
lacks_filtered test (literal ∷ cube) name h =
    let parts = or_parts (bytes_eq name literal.name) (has (names_of cube) name) h in
    cases (test literal) parts.0 (lacks_filtered test cube name parts.1)
  where
    cases : (b : Bool) → bytes_eq name literal.name ≡ false → has (names_of (filter test cube)) name ≡ false → has (names_of (cond b (literal ∷ filter test cube) (filter test cube))) name ≡ false
    cases true away rest = has_apart literal.name (names_of (filter test cube)) name away rest
    cases false away rest = rest

pub among_filtered : (signals : List (List ℕ)) (test : Literal → Bool) (cube : Cube) → IsAmong signals cube → IsAmong signals (filter test cube)
among_filtered signals test [] among = among
among_filtered signals test (literal ∷ cube) among =
    cases (test literal) (lacks_filtered test cube literal.name (different_head literal.name (names_of cube) among.apart))
    (among_filtered signals test cube (among_tail signals literal cube among))
  where
    cases : (b : Bool) → has (names_of (filter test cube)) literal.name ≡ false → IsAmong signals (filter test cube) → IsAmong signals (cond b (literal ∷ filter test cube) (filter test cube))
    cases true away rest = among_cons signals literal (filter test cube) away (among_head signals literal cube among) rest
    cases false away rest = rest

later_apart : (between : Cube) (second : Literal) (after : Cube) (name : List ℕ) → has (names_of (between ++ second ∷ after)) name ≡ false → bytes_eq name second.name ≡ false
later_apart [] second after name h = (or_parts (bytes_eq name second.name) (has (names_of after) name) h).0
later_apart (literal ∷ between) second after name h =
    later_apart between second after name (or_parts (bytes_eq name literal.name) (has (names_of (between ++ second ∷ after)) name) h).1

pub among_pair : (signals : List (List ℕ)) (cube : Cube) (one other : Literal) → IsAmong signals cube → ArePair cube one other → IsAmong signals (one ∷ other ∷ [])
among_pair signals cube one other among pair =
    let first : IsAmong signals (one ∷ (pair.between ++ other ∷ pair.after)) =
    among_end signals pair.before (one ∷ (pair.between ++ other ∷ pair.after)) (subst (IsAmong signals) pair.among among) in
    let later : IsAmong signals (other ∷ pair.after) =
    among_end signals pair.between (other ∷ pair.after) (among_tail signals one (pair.between ++ other ∷ pair.after) first) in
    among_cons signals one (other ∷ [])
    (has_apart other.name [] one.name
    (later_apart pair.between other pair.after one.name (different_head one.name (names_of (pair.between ++ other ∷ pair.after)) first.apart))
    refl)
    (among_head signals one (pair.between ++ other ∷ pair.after) first)
    (among_cons signals other [] refl (among_head signals other pair.after later) (among_none signals))

-- ---- the cubes of tables

-- a table lists each input once, and reads signals
pub record IsReader (signals : List (List ℕ)) (table : Table) : Type 0 where
  pub once : all_different table.inputs ≡ true
  pub live : (name : List ℕ) → has table.inputs name ≡ true → has signals name ≡ true

over_more : (names signals : List (List ℕ)) (cube : Cube) → ((name : List ℕ) → has names name ≡ true → has signals name ≡ true)
    → list_all (λ (literal : Literal). has names literal.name) cube ≡ true → list_all (λ (literal : Literal). has signals literal.name) cube ≡ true
over_more names signals [] more h = refl
over_more names signals (literal ∷ cube) more h =
    let parts = and_parts (has names literal.name) (list_all (λ (other : Literal). has names other.name) cube) h in
    and_from _ _ (more literal.name parts.0) (over_more names signals cube more parts.1)

row_among : (signals : List (List ℕ)) (table : Table) (row : List (Option Bool)) → IsReader signals table → IsAmong signals (sorted_cube (cube_over table.inputs row))
row_among signals table row reader = record {
  apart = sorted_different (cube_over table.inputs row) (over_different table.inputs row reader.once);
  over = all_sorted literal_order (λ (literal : Literal). has signals literal.name) (cube_over table.inputs row)
      ∙ over_more table.inputs signals (cube_over table.inputs row) reader.live (over_is_over table.inputs row);
}

pub cubes_among : (signals : List (List ℕ)) (table : Table) → IsReader signals table → AllByRecursion (IsAmong signals) (cubes_of table)
cubes_among signals table reader = each table.rows
  where
    each : (rows : _) → AllByRecursion (IsAmong signals) (map (λ row. sorted_cube (cube_over table.inputs (places_of row))) rows)
    each [] = tt
    each (row ∷ rows) = (row_among signals table (places_of row) reader, each rows)

pub all_cubes_among : (signals : List (List ℕ)) (tables : List Table) → AllByRecursion (IsReader signals) tables → AllByRecursion (IsAmong signals) (all_cubes tables)
all_cubes_among signals [] readers = tt
all_cubes_among signals (table ∷ tables) readers =
    all_append (IsAmong signals) (cubes_of table) (all_cubes tables) (cubes_among signals table readers.0) (all_cubes_among signals tables readers.1)

are_readers : (signals : List (List ℕ)) (tables : List Table) → AllByRecursion (λ (table : Table). all_different table.inputs ≡ true) tables
    → ((name : List ℕ) → has (table_inputs tables) name ≡ true → has signals name ≡ true) → AllByRecursion (IsReader signals) tables
are_readers signals [] once live = tt
are_readers signals (table ∷ tables) once live = (
  record { once = once.0; live = λ name m. live name (has_front table.inputs (table_inputs tables) name m) },
  are_readers signals tables once.1 (λ name m. live name (has_back table.inputs (table_inputs tables) name m)),
)

pub tables_read : (circuit : Circuit) → IsSound circuit → AllByRecursion (IsReader (given circuit)) circuit.tables
tables_read circuit sound = are_readers (given circuit) circuit.tables sound.table_inputs_once (live_reads circuit sound)

-- ---- candidates

-- a cover of signals, in no cube of which a name occurs twice
pub record IsUsable (signals : List (List ℕ)) (cover : NamedCover) : Type 0 where
  pub apart : all_apart cover ≡ true
  pub over : is_over signals cover ≡ true

one_usable : (signals : List (List ℕ)) (cube : Cube) → IsAmong signals cube → IsUsable signals (cube ∷ [])
one_usable signals cube among = record { apart = and_from _ _ among.apart refl; over = and_from _ _ among.over refl }

two_usable : (signals : List (List ℕ)) (one other : Cube) → IsAmong signals one → IsAmong signals other → IsUsable signals (sorted cube_cmp (one ∷ other ∷ []))
two_usable signals one other first second = record {
  apart = all_sorted cube_order (λ (cube : Cube). all_different (names_of cube)) (one ∷ other ∷ []) ∙ and_from _ _ first.apart (and_from _ _ second.apart refl);
  over = all_sorted cube_order (λ (cube : Cube). list_all (λ (literal : Literal). has signals literal.name) cube) (one ∷ other ∷ []) ∙ and_from _ _ first.over (and_from _ _ second.over refl);
}

pub two_cubes_usable : (signals : List (List ℕ)) (table : Table) (cover : NamedCover) → IsReader signals table → IsDivisorOfTwoCubes table cover → IsUsable signals cover
two_cubes_usable signals table cover reader is =
    let both = all_pair (IsAmong signals) (cubes_of table) is.one is.other (cubes_among signals table reader) is.rows in
    subst (IsUsable signals) (sym is.is) (two_usable signals (own is.one is.other) (own is.other is.one) (among_filtered signals _ is.one both.0) (among_filtered signals _ is.other both.1))

pub two_literals_usable : (signals : List (List ℕ)) (table : Table) (cover : NamedCover) → IsReader signals table → IsCubeOfTwoLiterals table cover → IsUsable signals cover
two_literals_usable signals table cover reader is =
    subst (IsUsable signals) (sym is.is)
    (one_usable signals (is.one ∷ is.other ∷ [])
    (among_pair signals is.cube is.one is.other (all_member (IsAmong signals) (cubes_of table) (cubes_among signals table reader) is.cube is.among) is.literals))

pub kernel_usable : (signals : List (List ℕ)) (table : Table) (cover : NamedCover) → IsReader signals table → IsKernelOf table cover → IsUsable signals cover
kernel_usable signals table cover reader is = subst (IsUsable signals) (sym is.is) (record {
  apart = cover_over_apart table.inputs is.rows reader.once;
  over = names_over signals (cover_over table.inputs is.rows)
      (λ name m. reader.live name (over_names table.inputs (cover_over table.inputs is.rows) name (cover_over_is_over table.inputs is.rows) m));
})

pub shared_usable : (signals : List (List ℕ)) (tables : List Table) (cover : NamedCover) → AllByRecursion (IsReader signals) tables → IsSharedCube tables cover → IsUsable signals cover
shared_usable signals tables cover readers is =
    let both = all_pair (IsAmong signals) (all_cubes tables) is.one is.other (all_cubes_among signals tables readers) is.rows in
    subst (IsUsable signals) (sym is.is) (one_usable signals (shared is.one is.other) (among_filtered signals _ is.one both.0))

pub candidate_usable : (rule : Rule) (signals : List (List ℕ)) (tables : List Table) (cover : NamedCover) → AllByRecursion (IsReader signals) tables → IsCandidate rule tables cover → IsUsable signals cover
candidate_usable Fx signals tables cover readers (table, among, inl is) = two_cubes_usable signals table cover (all_member (IsReader signals) tables readers table among) is
candidate_usable Fx signals tables cover readers (table, among, inr is) = two_literals_usable signals table cover (all_member (IsReader signals) tables readers table among) is
candidate_usable Gkx signals tables cover readers (table, among, is) = kernel_usable signals table cover (all_member (IsReader signals) tables readers table among) is
candidate_usable Gcx signals tables cover readers is = shared_usable signals tables cover readers is
