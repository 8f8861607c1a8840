-- The tables whose rows may share two literals with rows of a given one, and what is listed of what
-- they share.
use Rattle.std.proofs.Common.{◌≡◌, ◌⊎◌, ℕ, ◌+◌, ◌<◌, ◌≤◌, eqb, eqb-true, true, false, Option, Some, None, List, [], ◌∷◌, ◌++◌, flat_map, length, take, get_or, refl, sym, ap, ◌∙◌, subst, inl, inr, arith}
use Rattle.std.proofs.lemmas.Bool.{or_cases, or_left, or_right, false≢true}
use Rattle.std.proofs.lemmas.List.{take_more}
use Rattle.std.proofs.lemmas.Bool.{eq-eqb}
use Rattle.circuit_model.specs.Names.{has, all_different}
use Rattle.circuit_model.specs.declared.circuit.Table.{Table}
use Rattle.alg_div.specs.Cubes.{Has}
use Rattle.net_candidates.proofs.Made.{has_flat}
use Rattle.net_candidates.proofs.SharedNames.{shared_besides}
use Rattle.net_candidates.specs.Listed.{IsSharedWith}
use Rattle.net_candidates.specs.Candidates.{cubes_of, literals_in}
use Rattle.net_candidates.specs.declared.rule.Rule.{Rule}
use Rattle.net_candidates.specs.declared.rule.Rule.TheVariants.{Fx, Gkx, Gcx}
use Rattle.net_readers.specs.Fanouts.{is_in}
use Rattle.cover_names.specs.Literals.{Cube, NamedCover}
use Rattle.net_work.specs.Placed.{table_at}
use Rattle.net_savings.specs.Listing.{IsListed}
use Rattle.net_savings.specs.Sharing.{cubes_in, AreSharers, IsSharedBy, AreSharedHere}
use Rattle.net_savings.proofs.Sharers.{row_table, pair_none}
use Rattle.net_savings.proofs.Refreshed.{has_name_next, in_last, in_next}

-- ---- fanouts of all names but one

-- indices include those of all tables that read one of some names other than a given one
abbrev pub HaveReaders : List (Option Table) → List ℕ → List (List ℕ) → List ℕ → Type 0
HaveReaders slots left names places = (at : ℕ) (table : Table) (name : List ℕ) → table_at slots at ≡ Some table → has table.inputs name ≡ true → has names name ≡ true → (name ≡ left → ⊥) → is_in places at ≡ true

-- the next name is the one left out
pub readers_left : (slots : List (Option Table)) (left : List ℕ) (names : List (List ℕ)) (i : ℕ) (last d : List ℕ) (places : List ℕ) → i < length names → last ≡ get_or names i d → last ≡ left
    → HaveReaders slots left (take i names) places → HaveReaders slots left (take (i + 1) names) places
readers_left slots left names i last d places below is same before at table name there reads h apart =
    elim (has_name_next names i last d name below is h) as (λ _. is_in places at ≡ true) [
      | inl k ↦ before at table name there reads k apart
      | inr e ↦ absurd (apart (e ∙ same))
    ]

-- the fanouts of the next name are appended
pub readers_more : (slots : List (Option Table)) (left : List ℕ) (names : List (List ℕ)) (i : ℕ) (last d : List ℕ) (places new : List ℕ) → i < length names → last ≡ get_or names i d
    → HaveReaders slots left (take i names) places → ((at : ℕ) → is_in places at ≡ true → is_in new at ≡ true)
    → ((at : ℕ) (table : Table) → table_at slots at ≡ Some table → has table.inputs last ≡ true → is_in new at ≡ true) → HaveReaders slots left (take (i + 1) names) new
readers_more slots left names i last d places new below is before still more at table name there reads h apart =
    elim (has_name_next names i last d name below is h) as (λ _. is_in new at ≡ true) [
      | inl k ↦ still at (before at table name there reads k apart)
      | inr e ↦ more at table there (subst (λ (n : List ℕ). has table.inputs n ≡ true) e reads)
    ]

pub in_left : (places more : List ℕ) (at : ℕ) → is_in places at ≡ true → is_in (places ++ more) at ≡ true
in_left [] more at h = absurd (false≢true h)
in_left (first ∷ places) more at h =
    elim (or_cases (eqb first at) (is_in places at) h) as (λ _. is_in ((first ∷ places) ++ more) at ≡ true) [
      | inl e ↦ or_left (eqb first at) (is_in (places ++ more) at) e
      | inr n ↦ or_right (eqb first at) (is_in (places ++ more) at) (in_left places more at n)
    ]

pub in_right : (places more : List ℕ) (at : ℕ) → is_in more at ≡ true → is_in (places ++ more) at ≡ true
in_right [] more at h = h
in_right (first ∷ places) more at h = or_right (eqb first at) (is_in (places ++ more) at) (in_right places more at h)

-- ---- those of some indices that are listed

abbrev pub HaveListed : List (Option (List NamedCover)) → List ℕ → List ℕ → Type 0
HaveListed own places listed = (at : ℕ) → is_in places at ≡ true → IsListed own at → is_in listed at ≡ true

pub listed_left : (own : List (Option (List NamedCover))) (places : List ℕ) (i last d : ℕ) (listed : List ℕ) → i < length places → last ≡ get_or places i d → (IsListed own last → ⊥)
    → HaveListed own (take i places) listed → HaveListed own (take (i + 1) places) listed
listed_left own places i last d listed below is apart before at h k =
    elim (in_next places i last d at below is h) as (λ _. is_in listed at ≡ true) [
      | inl n ↦ before at n k
      | inr e ↦ absurd (apart (subst (λ (n : ℕ). IsListed own n) (sym e) k))
    ]

pub listed_more : (own : List (Option (List NamedCover))) (places : List ℕ) (i last d : ℕ) (listed new : List ℕ) → i < length places → last ≡ get_or places i d → new ≡ listed ++ last ∷ []
    → HaveListed own (take i places) listed → HaveListed own (take (i + 1) places) new
listed_more own places i last d listed new below is put before at h k =
    ap (λ (ps : List ℕ). is_in ps at) put
    ∙ (elim (in_next places i last d at below is h) as (λ _. is_in (listed ++ last ∷ []) at ≡ true) [
      | inl n ↦ in_left listed (last ∷ []) at (before at n k)
      | inr e ↦ in_right listed (last ∷ []) at (or_left (eqb last at) false (eq-eqb last at e))
    ])

-- nothing else

abbrev pub AreListedOf : List (Option (List NamedCover)) → List ℕ → List ℕ → Type 0
AreListedOf own places listed = (at : ℕ) → is_in listed at ≡ true → (is_in places at ≡ true) × IsListed own at

next_in : (places : List ℕ) (i last d at : ℕ) → i < length places → last ≡ get_or places i d → (is_in (take i places) at ≡ true) ⊎ (last ≡ at) → is_in (take (i + 1) places) at ≡ true
next_in places i last d at below is k =
    ap (λ (ps : List ℕ). is_in ps at) (take_more places i d below ∙ ap (λ (n : ℕ). take i places ++ n ∷ []) (sym is))
    ∙ (elim k as (λ _. is_in (take i places ++ last ∷ []) at ≡ true) [
      | inl n ↦ in_left (take i places) (last ∷ []) at n
      | inr e ↦ in_right (take i places) (last ∷ []) at (or_left (eqb last at) false (eq-eqb last at e))
    ])

pub only_left : (own : List (Option (List NamedCover))) (places : List ℕ) (i last d : ℕ) (listed : List ℕ) → i < length places → last ≡ get_or places i d
    → AreListedOf own (take i places) listed → AreListedOf own (take (i + 1) places) listed
only_left own places i last d listed below is before at h = let p = before at h in (next_in places i last d at below is (inl p.0), p.1)

pub only_more : (own : List (Option (List NamedCover))) (places : List ℕ) (i last d : ℕ) (listed new : List ℕ) → i < length places → last ≡ get_or places i d → IsListed own last → new ≡ listed ++ last ∷ []
    → AreListedOf own (take i places) listed → AreListedOf own (take (i + 1) places) new
only_more own places i last d listed new below is there put before at h =
    elim (in_last listed last at (sym (ap (λ (ps : List ℕ). is_in ps at) put) ∙ h)) as (λ _. (is_in (take (i + 1) places) at ≡ true) × IsListed own at) [
      | inl n ↦ (let p = before at n in (next_in places i last d at below is (inl p.0), p.1))
      | inr e ↦ (next_in places i last d at below is (inr e), subst (λ (n : ℕ). IsListed own n) e there)
    ]

-- ---- partners

-- a table whose rows share with rows of another one is a fanout of one of the other's inputs other
-- than any given one
pub partner_read : (slots : List (Option Table)) (table : Table) (left : List ℕ) (one other : ℕ) (cover : NamedCover) (places : List ℕ) → all_different table.inputs ≡ true → (one ≡ other → ⊥)
    → AreSharers one other (Some table) (table_at slots other) cover → HaveReaders slots left table.inputs places → is_in places other ≡ true
partner_read slots table left one other cover places once apart k have =
    elim k.rows as (λ _. is_in places other ≡ true) [
      | inl p ↦ (
          let (there, e) = row_table (table_at slots other) k.another p.2 in
          let (name, reads) = shared_besides table there k.row k.another left once p.1 (subst (λ (slot : Option Table). Has k.another (cubes_in slot)) e p.2) k.two in
          have other there name e reads.by_other reads.by_one reads.apart
          )
      | inr p ↦ absurd (apart p.0)
    ]

-- a table without inputs has no partner
pub partner_none : (slots : List (Option Table)) (table : Table) (one other : ℕ) (cover : NamedCover) → all_different table.inputs ≡ true → length table.inputs ≡ 0 → (one ≡ other → ⊥)
    → AreSharers one other (Some table) (table_at slots other) cover → ⊥
partner_none slots table one other cover once none apart k =
    false≢true (partner_read slots table [] one other cover [] once apart k (λ at reader name there reads h _. absurd (false≢true (sym (no_name table.inputs name none) ∙ h))))
  where
    no_name : (names : List (List ℕ)) (name : List ℕ) → length names ≡ 0 → has names name ≡ false
    no_name [] name e = refl
    no_name (first ∷ names) name e = absurd (omega (arith, e))

-- ---- what is listed of a table

pub shared_some : (cubes others : List Cube) (cover : NamedCover) → IsSharedWith cubes others cover → 1 ≤ literals_in cover
shared_some cubes others cover k =
    subst (λ (c : NamedCover). 1 ≤ literals_in c) (sym k.is) (let two = k.two in omega arith)

pub shared_within : (table : Table) (others : List Cube) (one : ℕ) (cover : NamedCover) → AreSharers one one (Some table) (Some table) cover → IsSharedWith (cubes_of table) others cover
shared_within table others one cover k =
    elim k.rows as (λ _. IsSharedWith (cubes_of table) others cover) [
      | inl p ↦ absurd (p.0 refl)
      | inr p ↦ record { one = k.row; other = k.another; pair = inr p.1; two = k.two; is = k.is }
    ]

pub shared_across : (slots : List (Option Table)) (table : Table) (partners : List ℕ) (one other : ℕ) (cover : NamedCover) → ((one ≡ other → ⊥) → is_in partners other ≡ true)
    → AreSharers one other (Some table) (table_at slots other) cover → IsSharedWith (cubes_of table) (flat_map (λ at. cubes_in (table_at slots at)) partners) cover
shared_across slots table partners one other cover among k =
    elim k.rows as (λ _. IsSharedWith (cubes_of table) (flat_map (λ at. cubes_in (table_at slots at)) partners) cover) [
      | inl p ↦ record {
        one = k.row;
        other = k.another;
        pair = inl (p.1, has_flat (λ at. cubes_in (table_at slots at)) partners other k.another (in_has partners other (among p.0)) p.2);
        two = k.two;
        is = k.is;
      }
      | inr p ↦ record { one = k.row; other = k.another; pair = inr p.1; two = k.two; is = k.is }
    ]
  where
    in_has : (places : List ℕ) (at : ℕ) → is_in places at ≡ true → Has at places
    in_has [] at h = absurd (false≢true h)
    in_has (first ∷ places) at h =
        elim (or_cases (eqb first at) (is_in places at) h) as (λ _. Has at (first ∷ places)) [ inl e ↦ inl (sym (eqb-true first at e)) | inr n ↦ inr (in_has places at n) ]

-- where there is no table nothing is shared
none_share : (one other : ℕ) (second : Option Table) (cover : NamedCover) → AreSharers one other None second cover → ⊥
none_share one other second cover k = elim k.rows as (λ _. ⊥) [ inl p ↦ p.1 | inr p ↦ pair_none k.row k.another p.1 ]

shared_none : (rule : Rule) (slots : List (Option Table)) (one other : ℕ) (cover : NamedCover) → (rule ≡ Gcx → table_at slots one ≡ None) → IsSharedBy rule slots one other cover → ⊥
shared_none Fx slots one other cover none k = k
shared_none Gkx slots one other cover none k = k
shared_none Gcx slots one other cover none k =
    none_share one other (table_at slots other) cover (subst (λ (slot : Option Table). AreSharers one other slot (table_at slots other) cover) (none refl) k)

pub none_here : (rule : Rule) (slots : List (Option Table)) (own : List (Option (List NamedCover))) (place : ℕ) (covers : List NamedCover) → covers ≡ [] → (rule ≡ Gcx → table_at slots place ≡ None)
    → AreSharedHere rule slots own place covers
none_here rule slots own place covers e none = record {
  some = λ cover m. absurd (subst (λ (cs : List NamedCover). Has cover cs) e m);
  here = λ cover k. absurd (shared_none rule slots place place cover none k);
  there = λ other cover _ k. absurd (shared_none rule slots place other cover none k);
}
