-- What two rows of tables at indices share: whichever index comes first, and as rows of all tables.
use Rattle.std.proofs.Common.{◌≡◌, ◌⊎◌, ℕ, ◌<◌, ◌≤◌, zero, suc, Option, Some, None, List, [], ◌∷◌, ◌++◌, length, refl, sym, ap, ap₂, ◌∙◌, subst, inl, inr, arith}
use Rattle.std.proofs.lemmas.Bool.{cases_order}
use Rattle.std.proofs.lemmas.List.{append_assoc}
use Rattle.circuit_model.specs.declared.circuit.Table.{Table}
use Rattle.alg_div.specs.Cubes.{Has}
use Rattle.alg_div.proofs.Lists.{Has-left, Has-right, Has-append}
use Rattle.net_candidates.proofs.Turned.{rows_turned}
use Rattle.net_candidates.proofs.Sums.{has_split, pair_later}
use Rattle.net_candidates.specs.Candidates.{ArePair, shared, cubes_of, all_cubes, IsSharedCube}
use Rattle.net_candidates.specs.declared.rule.Rule.{Rule}
use Rattle.net_candidates.specs.declared.rule.Rule.TheVariants.{Fx, Gkx, Gcx}
use Rattle.cover_names.specs.Literals.{Cube, NamedCover}
use Rattle.net_work.specs.Placed.{standing, table_at}
use Rattle.net_savings.specs.Sharing.{cubes_in, AreSharers, IsSharedBy}

-- ---- two items of a list, the earlier one first

pub pair_none : {X : Type 0} (x y : X) → ArePair [] x y → ⊥
pair_none {X} x y k = cases k.before k.among
  where
    cases : (before : List X) → [] ≡ before ++ x ∷ (k.between ++ y ∷ k.after) → ⊥
    cases [] e = cc
    cases (first ∷ before) e = cc

pub pair_first : {X : Type 0} (xs : List X) (x y : X) → ArePair xs x y → Has x xs
pair_first xs x y k = subst (Has x) (sym k.among) (Has-right x k.before (x ∷ (k.between ++ y ∷ k.after)) (inl refl))

pair_left : {X : Type 0} (xs ys : List X) (x y : X) → ArePair xs x y → ArePair (xs ++ ys) x y
pair_left {X} xs ys x y k = record {
  before = k.before;
  between = k.between;
  after = k.after ++ ys;
  among = ap (λ (zs : List X). zs ++ ys) k.among
      ∙ (append_assoc k.before (x ∷ (k.between ++ y ∷ k.after)) ys ∙ ap (λ (zs : List X). k.before ++ x ∷ zs) (append_assoc k.between (y ∷ k.after) ys));
}

pair_right : {X : Type 0} (xs ys : List X) (x y : X) → ArePair ys x y → ArePair (xs ++ ys) x y
pair_right {X} xs ys x y k = record {
  before = xs ++ k.before;
  between = k.between;
  after = k.after;
  among = ap (λ (zs : List X). xs ++ zs) k.among ∙ sym (append_assoc xs k.before (x ∷ (k.between ++ y ∷ k.after)));
}

pair_across : {X : Type 0} (xs ys : List X) (x y : X) → Has x xs → Has y ys → ArePair (xs ++ ys) x y
pair_across {X} xs ys x y m n =
    let (before, between, e) = has_split x xs m in
    let (more, after, e') = has_split y ys n in
    record {
      before = before;
      between = between ++ more;
      after = after;
      among = ap₂ (λ (zs ws : List X). zs ++ ws) e e'
          ∙ (append_assoc before (x ∷ between) (more ++ y ∷ after) ∙ ap (λ (zs : List X). before ++ x ∷ zs) (sym (append_assoc between more (y ∷ after))));
    }

pair_head : {X : Type 0} (xs : List X) (x y : X) → Has y xs → ArePair (x ∷ xs) x y
pair_head {X} xs x y m = let (between, after, e) = has_split y xs m in record { before = []; between = between; after = after; among = ap (λ (zs : List X). x ∷ zs) e }

pair_cases : {X : Type 0} (first : X) (xs : List X) (x y : X) → ArePair (first ∷ xs) x y → ((x ≡ first) × Has y xs) ⊎ ArePair xs x y
pair_cases {X} first xs x y k = cases k.before k.among
  where
    cases : (before : List X) → (first ∷ xs) ≡ before ++ x ∷ (k.between ++ y ∷ k.after) → ((x ≡ first) × Has y xs) ⊎ ArePair xs x y
    cases [] e =
        let same : x ≡ first = cc in
        let rest : k.between ++ y ∷ k.after ≡ xs = cc in
        inl (same, subst (Has y) rest (Has-right y k.between (y ∷ k.after) (inl refl)))
    cases (one ∷ before) e = inr (record { before = before; between = k.between; after = k.after; among = cc })

pair_append : {X : Type 0} (xs ys : List X) (x y : X) → ArePair (xs ++ ys) x y → ArePair xs x y ⊎ (ArePair ys x y ⊎ (Has x xs × Has y ys))
pair_append [] ys x y k = inr (inl k)
pair_append {X} (first ∷ xs) ys x y k =
    elim (pair_cases first (xs ++ ys) x y k) as (λ _. ArePair (first ∷ xs) x y ⊎ (ArePair ys x y ⊎ (Has x (first ∷ xs) × Has y ys))) [
      | inl p ↦ (elim (Has-append y xs ys p.1) as (λ _. ArePair (first ∷ xs) x y ⊎ (ArePair ys x y ⊎ (Has x (first ∷ xs) × Has y ys))) [
        | inl m ↦ inl (subst (λ (z : X). ArePair (z ∷ xs) x y) p.0 (pair_head xs x y m))
        | inr m ↦ inr (inr (inl p.0, m))
      ])
      | inr n ↦ (elim (pair_append xs ys x y n) as (λ _. ArePair (first ∷ xs) x y ⊎ (ArePair ys x y ⊎ (Has x (first ∷ xs) × Has y ys))) [
        | inl m ↦ inl (pair_later first xs x y m)
        | inr m ↦ (elim m as (λ _. ArePair (first ∷ xs) x y ⊎ (ArePair ys x y ⊎ (Has x (first ∷ xs) × Has y ys))) [ inl h ↦ inr (inl h) | inr h ↦ inr (inr (inr h.0, h.1)) ])
      ])
    ]

-- ---- rows of tables at indices

-- an index with a row has a table
pub row_table : (slot : Option Table) (row : Cube) → Has row (cubes_in slot) → (table : Table) × (slot ≡ Some table)
row_table None row m = absurd m
row_table (Some table) row m = (table, refl)

-- the indices of two rows: the first before the second, or both the same
record ArePlaced (slots : List (Option Table)) (row another : Cube) : Type 0 where
  one : ℕ
  other : ℕ
  rows : ((one < other) × Has row (cubes_in (table_at slots one)) × Has another (cubes_in (table_at slots other))) ⊎ ((one ≡ other) × ArePair (cubes_in (table_at slots one)) row another)

placed_later : (slot : Option Table) (slots : List (Option Table)) (row another : Cube) → ArePlaced slots row another → ArePlaced (slot ∷ slots) row another
placed_later slot slots row another k = record {
  one = suc k.one;
  other = suc k.other;
  rows = elim k.rows as (λ _. ((suc k.one < suc k.other) × Has row (cubes_in (table_at slots k.one)) × Has another (cubes_in (table_at slots k.other)))
      ⊎ ((suc k.one ≡ suc k.other) × ArePair (cubes_in (table_at slots k.one)) row another)) [
        | inl p ↦ inl ((let below = p.0 in omega arith), p.1, p.2)
        | inr p ↦ inr (ap (λ (n : ℕ). suc n) p.0, p.1)
      ];
}

row_placed : (slots : List (Option Table)) (row : Cube) → Has row (all_cubes (standing slots)) → (at : ℕ) × Has row (cubes_in (table_at slots at))
unfolding standing
row_placed [] row m = absurd m
row_placed (None ∷ slots) row m = let p = row_placed slots row m in (suc p.0, p.1)
row_placed (Some table ∷ slots) row m =
    elim (Has-append row (cubes_of table) (all_cubes (standing slots)) m) as (λ _. (at : ℕ) × Has row (cubes_in (table_at (Some table ∷ slots) at))) [
      | inl k ↦ (0, k)
      | inr k ↦ (let p = row_placed slots row k in (suc p.0, p.1))
    ]

rows_placed : (slots : List (Option Table)) (row another : Cube) → ArePair (all_cubes (standing slots)) row another → ArePlaced slots row another
unfolding standing
rows_placed [] row another k = absurd (pair_none row another k)
rows_placed (None ∷ slots) row another k = placed_later None slots row another (rows_placed slots row another k)
rows_placed (Some table ∷ slots) row another k =
    elim (pair_append (cubes_of table) (all_cubes (standing slots)) row another k) as (λ _. ArePlaced (Some table ∷ slots) row another) [
      | inl p ↦ record { one = 0; other = 0; rows = inr (refl, p) }
      | inr m ↦ (elim m as (λ _. ArePlaced (Some table ∷ slots) row another) [
        | inl p ↦ placed_later (Some table) slots row another (rows_placed slots row another p)
        | inr p ↦ (let q = row_placed slots another p.1 in record { one = 0; other = suc q.0; rows = inl (omega arith, p.0, q.1) })
      ])
    ]

-- a row at an index is one of all tables
placed_row : (slots : List (Option Table)) (at : ℕ) (row : Cube) → Has row (cubes_in (table_at slots at)) → Has row (all_cubes (standing slots))
unfolding standing
placed_row [] at row m = absurd m
placed_row (None ∷ slots) zero row m = absurd m
placed_row (None ∷ slots) (suc at) row m = placed_row slots at row m
placed_row (Some table ∷ slots) zero row m = Has-left row (cubes_of table) (all_cubes (standing slots)) m
placed_row (Some table ∷ slots) (suc at) row m = Has-right row (cubes_of table) (all_cubes (standing slots)) (placed_row slots at row m)

placed_before : (slots : List (Option Table)) (one other : ℕ) (row another : Cube) → one < other → Has row (cubes_in (table_at slots one)) → Has another (cubes_in (table_at slots other))
    → ArePair (all_cubes (standing slots)) row another
unfolding standing
placed_before [] one other row another below m n = absurd m
placed_before (slot ∷ slots) one zero row another below m n = absurd (omega (arith, below))
placed_before (None ∷ slots) zero (suc other) row another below m n = absurd m
placed_before (None ∷ slots) (suc one) (suc other) row another below m n = placed_before slots one other row another (omega (arith, below)) m n
placed_before (Some table ∷ slots) zero (suc other) row another below m n = pair_across (cubes_of table) (all_cubes (standing slots)) row another m (placed_row slots other another n)
placed_before (Some table ∷ slots) (suc one) (suc other) row another below m n =
    pair_right (cubes_of table) (all_cubes (standing slots)) row another (placed_before slots one other row another (omega (arith, below)) m n)

placed_within : (slots : List (Option Table)) (at : ℕ) (row another : Cube) → ArePair (cubes_in (table_at slots at)) row another → ArePair (all_cubes (standing slots)) row another
unfolding standing
placed_within [] at row another k = k
placed_within (None ∷ slots) zero row another k = absurd (pair_none row another k)
placed_within (None ∷ slots) (suc at) row another k = placed_within slots at row another k
placed_within (Some table ∷ slots) zero row another k = pair_left (cubes_of table) (all_cubes (standing slots)) row another k
placed_within (Some table ∷ slots) (suc at) row another k = pair_right (cubes_of table) (all_cubes (standing slots)) row another (placed_within slots at row another k)

-- ---- what rows share, whichever comes first

pub slots_turned : (first second : Option Table) (row another : Cube) → Has row (cubes_in first) → Has another (cubes_in second) → shared row another ≡ shared another row
slots_turned None second row another m n = absurd m
slots_turned (Some table) None row another m n = absurd n
slots_turned (Some table) (Some other) row another m n = rows_turned table other row another m n

pub sharers_turned : (one other : ℕ) (first second : Option Table) (cover : NamedCover) → (one ≡ other → ⊥) → AreSharers one other first second cover → AreSharers other one second first cover
sharers_turned one other first second cover apart k =
    elim k.rows as (λ _. AreSharers other one second first cover) [
      | inl p ↦ (let same : shared k.row k.another ≡ shared k.another k.row = slots_turned first second k.row k.another p.1 p.2 in record {
        row = k.another;
        another = k.row;
        rows = inl (λ e. apart (sym e), p.2, p.1);
        two = subst (λ (cube : Cube). 2 ≤ length cube) same k.two;
        is = k.is ∙ ap (λ (cube : Cube). cube ∷ []) same;
      })
      | inr p ↦ absurd (apart p.0)
    ]

pub shared_by_turned : (rule : Rule) (slots : List (Option Table)) (one other : ℕ) (cover : NamedCover) → (one ≡ other → ⊥) → IsSharedBy rule slots one other cover → IsSharedBy rule slots other one cover
shared_by_turned Fx slots one other cover apart k = absurd k
shared_by_turned Gkx slots one other cover apart k = absurd k
shared_by_turned Gcx slots one other cover apart k = sharers_turned one other (table_at slots one) (table_at slots other) cover apart k

-- if the tables are the same
pub shared_by_same : (rule : Rule) (slots new : List (Option Table)) (one other : ℕ) (cover : NamedCover) → table_at slots one ≡ table_at new one → table_at slots other ≡ table_at new other
    → IsSharedBy rule slots one other cover → IsSharedBy rule new one other cover
shared_by_same Fx slots new one other cover same same' k = absurd k
shared_by_same Gkx slots new one other cover same same' k = absurd k
shared_by_same Gcx slots new one other cover same same' k =
    subst (λ (slot : Option Table). AreSharers one other (table_at new one) slot cover) same' (subst (λ (slot : Option Table). AreSharers one other slot (table_at slots other) cover) same k)

-- ---- two rows of all tables share what two rows of tables at indices share, and conversely

pub shared_at_places : (slots : List (Option Table)) (cover : NamedCover) → IsSharedCube (standing slots) cover
    → (one : ℕ) × (other : ℕ) × ((table : Table) × (table_at slots one ≡ Some table)) × ((table : Table) × (table_at slots other ≡ Some table)) × IsSharedBy Gcx slots one other cover
shared_at_places slots cover k =
    let p = rows_placed slots k.one k.other k.rows in
    elim p.rows as (λ _. (one : ℕ) × (other : ℕ) × ((table : Table) × (table_at slots one ≡ Some table)) × ((table : Table) × (table_at slots other ≡ Some table)) × IsSharedBy Gcx slots one other cover) [
      | inl q ↦ (
        p.one,
        p.other,
        row_table (table_at slots p.one) k.one q.1,
        row_table (table_at slots p.other) k.other q.2,
        record { row = k.one; another = k.other; rows = inl ((λ e. (let below = q.0 in omega (arith, e, below))), q.1, q.2); two = k.two; is = k.is },
      )
      | inr q ↦ (
        p.one,
        p.one,
        row_table (table_at slots p.one) k.one (pair_first (cubes_in (table_at slots p.one)) k.one k.other q.1),
        row_table (table_at slots p.one) k.one (pair_first (cubes_in (table_at slots p.one)) k.one k.other q.1),
        record { row = k.one; another = k.other; rows = inr (refl, q.1); two = k.two; is = k.is },
      )
    ]

before_share : (slots : List (Option Table)) (one other : ℕ) (cover : NamedCover) → one < other → AreSharers one other (table_at slots one) (table_at slots other) cover → IsSharedCube (standing slots) cover
before_share slots one other cover below k =
    elim k.rows as (λ _. IsSharedCube (standing slots) cover) [
      | inl p ↦ record { one = k.row; other = k.another; rows = placed_before slots one other k.row k.another below p.1 p.2; two = k.two; is = k.is }
      | inr p ↦ record { one = k.row; other = k.another; rows = placed_within slots one k.row k.another p.1; two = k.two; is = k.is }
    ]

within_share : (slots : List (Option Table)) (one other : ℕ) (cover : NamedCover) → one ≡ other → AreSharers one other (table_at slots one) (table_at slots other) cover → IsSharedCube (standing slots) cover
within_share slots one other cover e k =
    elim k.rows as (λ _. IsSharedCube (standing slots) cover) [
      | inl p ↦ absurd (p.0 e)
      | inr p ↦ record { one = k.row; other = k.another; rows = placed_within slots one k.row k.another p.1; two = k.two; is = k.is }
    ]

pub places_share : (slots : List (Option Table)) (one other : ℕ) (cover : NamedCover) → IsSharedBy Gcx slots one other cover → IsSharedCube (standing slots) cover
places_share slots one other cover k =
    elim (cases_order one other) as (λ _. IsSharedCube (standing slots) cover) [
      | inl e ↦ within_share slots one other cover e k
      | inr n ↦ (elim n as (λ _. IsSharedCube (standing slots) cover) [
        | inl below ↦ before_share slots one other cover below k
        | inr above ↦ before_share slots other one cover above (sharers_turned one other (table_at slots one) (table_at slots other) cover (λ e. omega (arith, e, above)) k)
      ])
    ]
