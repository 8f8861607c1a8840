-- Tables that stand for the trees of roots, tree by tree.
use Rattle.std.proofs.Common.{◌≡◌, ◌⊎◌, ℕ, Bool, true, false, Option}
use Rattle.std.proofs.Common.{Some, None, List, [], ◌∷◌, ◌++◌, bytes_eq, slice_get}
use Rattle.std.proofs.Common.{refl, sym, ap, ◌∙◌, subst, inl, inr}
use Rattle.std.specs.List.{AllByRecursion}
use Rattle.std.proofs.lemmas.Bool.{false≢true, or_cases}
use Rattle.std.proofs.lemmas.List.{map-append}
use Rattle.circuit_model.specs.Names.{has, all_different}
use Rattle.circuit_model.specs.Values.{driven_value}
use Rattle.circuit_model.specs.Soundness.{outputs_of, IsShaped}
use Rattle.circuit_model.specs.declared.circuit.Table.{Table}
use Rattle.circuit_laws.proofs.Names.{AreApart, different_apart, apart_different, different_none}
use Rattle.circuit_laws.proofs.Names.{different_head, different_tail, different_cons, has_head}
use Rattle.circuit_laws.proofs.Names.{has_tail, has_front, has_back, has_either, same_name}
use Rattle.subject_tree.specs.Trees.{Tree, Leaf, Inv, Nand, value_at}
use Rattle.subject_tree.specs.Roots.{tree_over}
use Rattle.map_net.specs.Standing.{IsLeafOf}
use Rattle.pattern_set.proofs.Exact.{In, in_left, in_right, in_either}
use Rattle.map_net.proofs.Inside.{all_in, in_output}
use Rattle.map_net.proofs.Realizing.{IsEarlier}

-- a group of tables stands for a tree at a signal: they drive inner signals and then that one, each
-- reads leaves of the tree and what tables before it drive, and where each has its value the signal
-- has that of the tree
pub record IsTreeGroup (signal : List ℕ) (t : Tree (List ℕ)) (inner : List (List ℕ))
    (group : List Table) : Type 0 where
  pub outputs : outputs_of group ≡ inner ++ signal ∷ []
  pub reads : (k : ℕ) (table : Table) (input : List ℕ) → slice_get group k ≡ Some table
      → has table.inputs input ≡ true → IsLeafOf input t ⊎ IsEarlier group k input
  pub value : (new : List ℕ → Bool)
      → ((table : Table) → In table group → new table.output ≡ driven_value (Some table) new)
      → new signal ≡ value_at new t
  pub shaped : AllByRecursion IsShaped group
  pub once : AllByRecursion (λ (table : Table). all_different table.inputs ≡ true) group

-- a tree that is no leaf
abbrev pub IsGated : Option (Tree (List ℕ)) → Type 0
IsGated None = ⊥
IsGated (Some (Leaf x)) = ⊥
IsGated (Some (Inv t)) = Unit {0}
IsGated (Some (Nand t u)) = Unit {0}

-- a group stands for a tree that is no leaf; there is none for a leaf
abbrev pub IsMadeOf : Option (Tree (List ℕ)) → List ℕ → List (List ℕ) → List Table → Type 0
IsMadeOf None signal inner group = (inner ≡ []) × (group ≡ [])
IsMadeOf (Some (Leaf x)) signal inner group = (inner ≡ []) × (group ≡ [])
IsMadeOf (Some (Inv t)) signal inner group = IsTreeGroup signal (Inv t) inner group
IsMadeOf (Some (Nand t u)) signal inner group = IsTreeGroup signal (Nand t u) inner group

-- tables stand for the trees of roots, in order, over new signals, in order
abbrev pub AreMadeOf : (List ℕ → Tree (List ℕ)) → List Table → List (List ℕ) → List Table → Type 0
AreMadeOf tree [] fresh tables = (fresh ≡ []) × (tables ≡ [])
AreMadeOf tree (root ∷ roots) fresh tables =
    (inner : List (List ℕ)) × (others : List (List ℕ)) × (group : List Table) × (rest : List Table)
    × (fresh ≡ inner ++ others) × (tables ≡ group ++ rest)
    × IsMadeOf (tree_over tree root) root.output inner group × AreMadeOf tree roots others rest

-- a root with its tree and its group among tables
pub record HasGroup (tree : List ℕ → Tree (List ℕ)) (root : Table) (tables : List Table) : Type 0
  where
    pub t : Tree (List ℕ)
    pub is : tree_over tree root ≡ Some t
    pub gated : IsGated (Some t)
    pub inner : List (List ℕ)
    pub group : List Table
    pub made : IsTreeGroup root.output t inner group
    pub inside : (x : Table) → In x group → In x tables

gated_group : (tree : List ℕ → Tree (List ℕ)) (root : Table) (inner : List (List ℕ))
    (group rest : List Table) → IsMadeOf (tree_over tree root) root.output inner group
    → IsGated (tree_over tree root)
    → (one : HasGroup tree root (group ++ rest)) × ((x : Table) → In x group → In x one.group)
gated_group tree root inner group rest made gated = by (tree_over tree root) refl made gated
  where
    whole : (t : Tree (List ℕ)) → tree_over tree root ≡ Some t → IsGated (Some t)
        → IsTreeGroup root.output t inner group
        → (one : HasGroup tree root (group ++ rest)) × ((x : Table) → In x group → In x one.group)
    whole t is yes_gated one = (
      record {
        t = t;
        is = is;
        gated = yes_gated;
        inner = inner;
        group = group;
        made = one;
        inside = λ x h. in_left x group rest h;
      },
      λ x h. h,
    )

    by : (found : Option (Tree (List ℕ))) → tree_over tree root ≡ found
        → IsMadeOf found root.output inner group → IsGated found
        → (one : HasGroup tree root (group ++ rest)) × ((x : Table) → In x group → In x one.group)
    by None is one off = absurd off
    by (Some (Leaf x)) is one off = absurd off
    by (Some (Inv t)) is one yes_gated = whole (Inv t) is tt one
    by (Some (Nand t u)) is one yes_gated = whole (Nand t u) is tt one

-- what stands in a group belongs to a tree that is no leaf
member_gated : (found : Option (Tree (List ℕ))) (signal : List ℕ) (inner : List (List ℕ))
    (group : List Table) (x : Table) → IsMadeOf found signal inner group → In x group
    → IsGated found
member_gated None signal inner group x made h = absurd (subst (In x) made.1 h)
member_gated (Some (Leaf y)) signal inner group x made h = absurd (subst (In x) made.1 h)
member_gated (Some (Inv t)) signal inner group x made h = tt
member_gated (Some (Nand t u)) signal inner group x made h = tt

abbrev widened : (tree : List ℕ → Tree (List ℕ)) (root : Table) (group rest : List Table)
    → HasGroup tree root rest → HasGroup tree root (group ++ rest)
widened tree root group rest one = record {
  t = one.t;
  is = one.is;
  gated = one.gated;
  inner = one.inner;
  group = one.group;
  made = one.made;
  inside = λ x h. in_right x group rest (one.inside x h);
}

-- a root whose tree is no leaf has a group
pub root_group : (tree : List ℕ → Tree (List ℕ)) (roots : List Table) (fresh : List (List ℕ))
    (tables : List Table) → AreMadeOf tree roots fresh tables → (root : Table) → In root roots
    → IsGated (tree_over tree root) → HasGroup tree root tables
root_group tree [] fresh tables made root h gated = absurd h
root_group tree (first ∷ roots) fresh tables (inner, others, group, rest, names, parts, one, more)
    root h gated =
    subst (HasGroup tree root) (sym parts) (by h (λ k. root_group tree roots others rest more root k
    gated))
  where
    by : (first ≡ root) ⊎ In root roots → (In root roots → HasGroup tree root rest)
        → HasGroup tree root (group ++ rest)
    by (inl same) behind =
        subst (λ (r : Table). HasGroup tree r (group ++ rest)) same
        (gated_group tree first inner group rest one
        (subst (λ (r : Table). IsGated (tree_over tree r)) (sym same) gated)).0
    by (inr k) behind = widened tree root group rest (behind k)

-- a table among them is one of a root's group
pub record OfGroup (tree : List ℕ → Tree (List ℕ)) (roots tables : List Table) (x : Table) : Type 0
  where
    pub root : Table
    pub there : In root roots
    pub one : HasGroup tree root tables
    pub member : In x one.group

pub table_group : (tree : List ℕ → Tree (List ℕ)) (roots : List Table) (fresh : List (List ℕ))
    (tables : List Table) → AreMadeOf tree roots fresh tables → (x : Table) → In x tables
    → OfGroup tree roots tables x
table_group tree [] fresh tables made x h = absurd (subst (In x) made.1 h)
table_group tree (first ∷ roots) fresh tables (inner, others, group, rest, names, parts, one, more)
    x h =
    subst (λ (ts : List Table). OfGroup tree (first ∷ roots) ts x) (sym parts)
    (by (in_either x group rest (subst (In x) parts h))
    (λ k. table_group tree roots others rest more x k))
  where
    by : In x group ⊎ In x rest → (In x rest → OfGroup tree roots rest x)
        → OfGroup tree (first ∷ roots) (group ++ rest) x
    by (inl k) behind =
        let (own, member) = gated_group tree first inner group rest one
        (member_gated (tree_over tree first) first.output inner group x one k) in
        record { root = first; there = inl refl; one = own; member = member x k }
    by (inr k) behind = later (behind k)
      where
        later : OfGroup tree roots rest x → OfGroup tree (first ∷ roots) (group ++ rest) x
        later it = record {
          root = it.root;
          there = inr it.there;
          one = widened tree it.root group rest it.one;
          member = it.member;
        }

-- what the tables drive: new signals, and roots whose trees are no leaves
group_names : (found : Option (Tree (List ℕ))) (signal : List ℕ) (inner : List (List ℕ))
    (group : List Table) (name : List ℕ) → IsMadeOf found signal inner group
    → has (outputs_of group) name ≡ true
    → (has inner name ≡ true) ⊎ ((name ≡ signal) × IsGated found)
group_names found signal inner group name made h = by found made
  where
    none : (it : Option (Tree (List ℕ))) → group ≡ []
        → (has inner name ≡ true) ⊎ ((name ≡ signal) × IsGated it)
    none it e = absurd (false≢true (ap (λ (ts : List Table). has (outputs_of ts) name) (sym e) ∙ h))

    some : (it : Option (Tree (List ℕ))) → IsGated it → outputs_of group ≡ inner ++ signal ∷ []
        → (has inner name ≡ true) ⊎ ((name ≡ signal) × IsGated it)
    some it gated e =
        elim (has_either inner (signal ∷ []) name (ap (λ (ns : List (List ℕ)). has ns name) (sym e)
        ∙ h)) as (λ _. (has inner name ≡ true) ⊎ ((name ≡ signal) × IsGated it)) [
          | inl k ↦ inl k
          | inr k ↦ inr (last k, gated)
        ]
      where
        last : has (signal ∷ []) name ≡ true → name ≡ signal
        last k =
            elim (or_cases (bytes_eq name signal) false k) as (λ _. name ≡ signal) [
              | inl same ↦ same_name name signal same
              | inr off ↦ absurd (false≢true off)
            ]

    by : (it : Option (Tree (List ℕ))) → IsMadeOf it signal inner group
        → (has inner name ≡ true) ⊎ ((name ≡ signal) × IsGated it)
    by None it = none None it.1
    by (Some (Leaf y)) it = none (Some (Leaf y)) it.1
    by (Some (Inv t)) it = some (Some (Inv t)) tt it.outputs
    by (Some (Nand t u)) it = some (Some (Nand t u)) tt it.outputs

pub outputs_append : (xs ys : List Table) → outputs_of (xs ++ ys) ≡ outputs_of xs ++ outputs_of ys
outputs_append xs ys = map-append (λ (table : Table). table.output) xs ys

-- a root whose tree is no leaf, by its name
pub record GatedRoot (tree : List ℕ → Tree (List ℕ)) (roots : List Table) (name : List ℕ) : Type 0
  where
    pub root : Table
    pub there : In root roots
    pub gated : IsGated (tree_over tree root)
    pub own : root.output ≡ name

pub root_named : (tree : List ℕ → Tree (List ℕ)) (roots : List Table) (name : List ℕ)
    → GatedRoot tree roots name → has (outputs_of roots) name ≡ true
root_named tree roots name one = subst (λ (n : List ℕ). has (outputs_of roots) n ≡ true) one.own
    (in_output roots one.root one.there)

pub made_names : (tree : List ℕ → Tree (List ℕ)) (roots : List Table) (fresh : List (List ℕ))
    (tables : List Table) → AreMadeOf tree roots fresh tables → (name : List ℕ)
    → has (outputs_of tables) name ≡ true
    → (has fresh name ≡ true) ⊎ GatedRoot tree roots name
made_names tree [] fresh tables made name h =
    absurd (false≢true (ap (λ (ts : List Table). has (outputs_of ts) name) (sym made.1) ∙ h))
made_names tree (root ∷ roots) fresh tables (inner, others, group, rest, names, parts, one, more)
    name h =
    by (has_either (outputs_of group) (outputs_of rest) name
    (ap (λ (ns : List (List ℕ)). has ns name) (sym (outputs_append group rest))
    ∙ ap (λ (ts : List Table). has (outputs_of ts) name) (sym parts) ∙ h))
    (λ k. made_names tree roots others rest more name k)
  where
    is_fresh : has (inner ++ others) name ≡ true → has fresh name ≡ true
    is_fresh k = ap (λ (ns : List (List ℕ)). has ns name) names ∙ k

    own : (has inner name ≡ true) ⊎ ((name ≡ root.output) × IsGated (tree_over tree root))
        → (has fresh name ≡ true) ⊎ GatedRoot tree (root ∷ roots) name
    own (inl k) = inl (is_fresh (has_front inner others name k))
    own (inr e) =
        inr (record { root = root; there = inl refl; gated = e.1; own = sym e.0 })

    later : (has others name ≡ true) ⊎ GatedRoot tree roots name
        → (has fresh name ≡ true) ⊎ GatedRoot tree (root ∷ roots) name
    later (inl k) = inl (is_fresh (has_back inner others name k))
    later (inr k) =
        inr (record { root = k.root; there = inr k.there; gated = k.gated; own = k.own })

    by : (has (outputs_of group) name ≡ true) ⊎ (has (outputs_of rest) name ≡ true)
        → (has (outputs_of rest) name ≡ true
        → (has others name ≡ true) ⊎ GatedRoot tree roots name)
        → (has fresh name ≡ true) ⊎ GatedRoot tree (root ∷ roots) name
    by (inl k) behind = own (group_names (tree_over tree root) root.output inner group name one k)
    by (inr k) behind = later (behind k)

-- no signal twice, where none is among the new ones and the roots
group_different : (found : Option (Tree (List ℕ))) (signal : List ℕ) (inner : List (List ℕ))
    (group : List Table) → IsMadeOf found signal inner group → all_different inner ≡ true
    → (has inner signal ≡ true → ⊥) → all_different (outputs_of group) ≡ true
group_different found signal inner group made different apart = by found made
  where
    none : group ≡ [] → all_different (outputs_of group) ≡ true
    none e = ap (λ (ts : List Table). all_different (outputs_of ts)) e ∙ different_none

    last : all_different (signal ∷ []) ≡ true
    last = different_cons signal [] refl different_none

    some : outputs_of group ≡ inner ++ signal ∷ [] → all_different (outputs_of group) ≡ true
    some e = ap all_different e ∙ apart_different inner (signal ∷ []) (record {
      front = different;
      back = last;
      between = λ name here there. elim (or_cases (bytes_eq name signal) false there) as (λ _. ⊥) [
        | inl same ↦ apart (subst (λ (n : List ℕ). has inner n ≡ true) (same_name name signal same)
            here)
        | inr off ↦ false≢true off
      ];
    })

    by : (it : Option (Tree (List ℕ))) → IsMadeOf it signal inner group
        → all_different (outputs_of group) ≡ true
    by None it = none it.1
    by (Some (Leaf y)) it = none it.1
    by (Some (Inv t)) it = some it.outputs
    by (Some (Nand t u)) it = some it.outputs

pub made_different : (tree : List ℕ → Tree (List ℕ)) (roots : List Table) (fresh : List (List ℕ))
    (tables : List Table) → AreMadeOf tree roots fresh tables → all_different fresh ≡ true
    → all_different (outputs_of roots) ≡ true
    → ((name : List ℕ) → has fresh name ≡ true → has (outputs_of roots) name ≡ true → ⊥)
    → all_different (outputs_of tables) ≡ true
made_different tree [] fresh tables made new old apart =
    ap (λ (ts : List Table). all_different (outputs_of ts)) made.1 ∙ different_none
made_different tree (root ∷ roots) fresh tables (
  inner,
  others,
  group,
  rest,
  names,
  parts,
  one,
  more,
) new old apart =
    ap (λ (ts : List Table). all_different (outputs_of ts)) parts
    ∙ ap all_different (outputs_append group rest)
    ∙ apart_different (outputs_of group) (outputs_of rest) (record {
      front = group_different (tree_over tree root) root.output inner group one split.front
          (λ k. apart root.output (is_fresh root.output (has_front inner others root.output k))
          (has_head root.output (outputs_of roots)));
      back = made_different tree roots others rest more split.back
          (different_tail root.output (outputs_of roots) old)
          (λ name here there. apart name (is_fresh name (has_back inner others name here))
          (has_tail root.output (outputs_of roots) name there));
      between = λ name here there. between name (group_names (tree_over tree root) root.output inner
          group name one here) (made_names tree roots others rest more name there);
    })
  where
    split : AreApart inner others
    split = different_apart inner others (ap all_different (sym names) ∙ new)

    is_fresh : (name : List ℕ) → has (inner ++ others) name ≡ true → has fresh name ≡ true
    is_fresh name k = ap (λ (ns : List (List ℕ)). has ns name) names ∙ k

    between : (name : List ℕ)
        → (has inner name ≡ true) ⊎ ((name ≡ root.output) × IsGated (tree_over tree root))
        → (has others name ≡ true) ⊎ GatedRoot tree roots name → ⊥
    between name (inl k) (inl l) = split.between name k l
    between name (inl k) (inr l) = apart name (is_fresh name (has_front inner others name k))
        (has_tail root.output (outputs_of roots) name (root_named tree roots name l))
    between name (inr e) (inl l) =
        apart root.output (is_fresh root.output (has_back inner others root.output
        (subst (λ (n : List ℕ). has others n ≡ true) e.0 l))) (has_head root.output (outputs_of
        roots))
    between name (inr e) (inr l) =
        false≢true (sym (different_head root.output (outputs_of roots) old)
        ∙ subst (λ (n : List ℕ). has (outputs_of roots) n ≡ true) e.0 (root_named tree roots name
        l))

-- what holds of the tables of each group holds of all
pub made_all : (P : Table → Type 0) (tree : List ℕ → Tree (List ℕ)) (roots : List Table)
    (fresh : List (List ℕ)) (tables : List Table) → AreMadeOf tree roots fresh tables
    → ((signal : List ℕ) (t : Tree (List ℕ)) (inner : List (List ℕ)) (group : List Table)
    → IsTreeGroup signal t inner group → AllByRecursion P group) → (x : Table) → In x tables → P x
made_all P tree roots fresh tables made each x h = by (table_group tree roots fresh tables made x h)
  where
    by : OfGroup tree roots tables x → P x
    by it = all_in P it.one.group (each it.root.output it.one.t it.one.inner it.one.group
        it.one.made) x it.member
