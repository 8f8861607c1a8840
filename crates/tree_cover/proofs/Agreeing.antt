-- The bindings that grow where a pattern is matched are just those with which it matches.
use Rattle.std.proofs.Common.{◌≡◌, ℕ, zero, suc, ◌<◌, ◌==◌, Bool, true, false, if◌then◌else◌, Option, Some, None, List, [], ◌∷◌, ◌++◌, length, set, slice_get, refl, sym, ap, ◌∙◌, subst, inl, inr, ◌⊎◌, ◌↔◌, arith, replicate, length-set}
use Rattle.std.proofs.lemmas.Bool.{cases_eq, false≢true}
use Rattle.std.proofs.lemmas.Option.{same_Some, none-some}
use borrow.Author.Tests.{eqb-true, eq-eqb}
use Rattle.subject_tree.specs.Trees.{Tree, Leaf, Inv, Nand}
use Rattle.subject_tree.specs.Arenas.{trees, tree_at, built, vertex_at, IsOver, IsArena}
use Rattle.subject_tree.specs.declared.arena.Vertex.{Vertex}
use Rattle.subject_tree.specs.declared.arena.Vertex.TheVariants.{Leaf as AtLeaf, Inv as AtInv, Nand as AtNand}
use Rattle.subject_tree.proofs.Arenas.{reads_all, over_all}
use Rattle.pattern_set.proofs.Exact.{In, in_left, in_right, in_either, in_flat, from_flat}
use Rattle.pattern_set.proofs.Members.{in_contains, contains_in}
use Rattle.tree_cover.specs.declared.binding.Binding.{Binding}
use Rattle.tree_cover.specs.Covers.{Matches}
use Rattle.tree_cover.specs.Bindings.{PinsBelow, Agrees, SomeAgrees, bound_as, bind, under_inverter, under_nand, grown}

-- a binding that binds what another one binds, to the same
abbrev pub Extends : Binding → Binding → Type 0
Extends b c = (pin n : ℕ) → slice_get b.pins pin ≡ Some (Some n) → slice_get c.pins pin ≡ Some (Some n)

agrees_before : (vs : List Vertex) (b c : Binding) (ts : List (Tree ℕ)) → Extends b c → Agrees vs c ts → Agrees vs b ts
agrees_before vs b c ts extends agrees pin n at = agrees pin n (extends pin n at)

pub get_set_same : {X : Type 0} (xs : List X) (i : ℕ) (x y : X) → slice_get xs i ≡ Some x → slice_get (set xs i y) i ≡ Some y
get_set_same [] i x y at = absurd (none-some x at)
get_set_same (z ∷ zs) zero x y at = refl
get_set_same (z ∷ zs) (suc i) x y at = get_set_same zs i x y at

pub get_set_other : {X : Type 0} (xs : List X) (i j : ℕ) (y : X) → (j ≡ i → ⊥) → slice_get (set xs i y) j ≡ slice_get xs j
get_set_other [] i j y apart = refl
get_set_other (z ∷ zs) zero zero y apart = absurd (apart refl)
get_set_other (z ∷ zs) zero (suc j) y apart = refl
get_set_other (z ∷ zs) (suc i) zero y apart = refl
get_set_other (z ∷ zs) (suc i) (suc j) y apart = get_set_other zs i j y (λ e. apart (ap (λ (k : ℕ). suc k) e))

get_below : {X : Type 0} (xs : List X) (i : ℕ) → i < length xs → slice_get xs i ≡ None → ⊥
get_below [] i lt e = omega (arith, lt)
get_below (z ∷ zs) zero lt e = none-some z (sym e)
get_below (z ∷ zs) (suc i) lt e = get_below zs i (omega (arith, lt)) e

-- a binding in a list that agrees with trees
abbrev pub Found : List Vertex → List Binding → List (Tree ℕ) → Type 0
Found vs bs ts = (b : Binding) × In b bs × Agrees vs b ts

-- a binding that a binding of a list has grown to, and what holds with it
abbrev pub Grew : List Vertex → Tree ℕ → Tree ℕ → List Binding → Binding → Type 0
Grew vs p t bs c = (b : Binding) × In b bs × Extends b c × ((ts : List (Tree ℕ)) → Agrees vs c ts → Matches p t ts)

abbrev pub AreWide : ℕ → List Binding → Type 0
AreWide width bs = (b : Binding) → In b bs → length b.pins ≡ width

module _ (vs : List Vertex) (arena : IsArena vs) where
  -- one pin
  bind_complete : (pin n : ℕ) (b : Binding) (ts : List (Tree ℕ)) → n < length vs → pin < length b.pins → slice_get ts pin ≡ Some (tree_at vs n) → Agrees vs b ts → Found vs (bind pin n b) ts
  bind_complete pin n b ts lt wide at agrees = by_pin (slice_get b.pins pin) refl
    where
      here : (b c : Binding) → Agrees vs b ts → c ≡ record { pins = set b.pins pin (Some n) } → (x : Option ℕ) → slice_get b.pins pin ≡ Some x → Agrees vs c ts
      here b c agrees is x there other m get = elim (cases_eq other pin) as (λ _. (m < length vs) × (slice_get ts other ≡ Some (tree_at vs m))) [
        | inl e ↦
            let now : slice_get c.pins pin ≡ Some (Some n) = ap (λ (d : Binding). slice_get d.pins pin) is ∙ get_set_same b.pins pin x (Some n) there in
            let same : n ≡ m = cc (now, get, e) in
            (subst (λ (k : ℕ). k < length vs) same lt, ap (slice_get ts) e ∙ (at ∙ ap (λ (k : ℕ). Some (tree_at vs k)) same))
        | inr ne ↦ agrees other m (sym (get_set_other b.pins pin other (Some n) ne) ∙ (sym (ap (λ (d : Binding). slice_get d.pins other) is) ∙ get))
      ]

      by_pin : (o : Option (Option ℕ)) → slice_get b.pins pin ≡ o → Found vs (bound_as pin n b o) ts
      by_pin None e = absurd (get_below b.pins pin wide e)
      by_pin (Some None) e = (record { pins = set b.pins pin (Some n) }, inl refl, here b (record { pins = set b.pins pin (Some n) }) agrees refl None e)
      by_pin (Some (Some m)) e = by_test (m == n) refl
        where
          equal : m ≡ n
          equal =
              let (lm, am) = agrees pin m e in
              arena.one m n lm lt (same_Some (tree_at vs m) (tree_at vs n) (sym am ∙ at))

          by_test : (t : Bool) → (m == n) ≡ t → Found vs (if t then b ∷ [] else []) ts
          by_test true is = (b, inl refl, agrees)
          by_test false is = absurd (false≢true (sym is ∙ eq-eqb m n equal))

  pub bind_sound : (pin n : ℕ) (b c : Binding) → n < length vs → In c (bind pin n b) → Extends b c × (slice_get c.pins pin ≡ Some (Some n)) × (length c.pins ≡ length b.pins)
  bind_sound pin n b c lt h = by_pin (slice_get b.pins pin) refl h
    where
      by_pin : (o : Option (Option ℕ)) → slice_get b.pins pin ≡ o → In c (bound_as pin n b o) → Extends b c × (slice_get c.pins pin ≡ Some (Some n)) × (length c.pins ≡ length b.pins)
      by_pin None e h = elim h [ ]
      by_pin (Some None) e (inr h) = elim h [ ]
      by_pin (Some None) e (inl is) =
          subst (λ (d : Binding). Extends b d × (slice_get d.pins pin ≡ Some (Some n)) × (length d.pins ≡ length b.pins)) is
          (keeps, get_set_same b.pins pin None (Some n) e, length-set b.pins pin (Some n))
        where
          keeps : (other m : ℕ) → slice_get b.pins other ≡ Some (Some m) → slice_get (set b.pins pin (Some n)) other ≡ Some (Some m)
          keeps other m at = elim (cases_eq other pin) as (λ _. slice_get (set b.pins pin (Some n)) other ≡ Some (Some m)) [
            | inl same ↦ absurd (none-some m (same_Some None (Some m) (sym e ∙ (ap (slice_get b.pins) (sym same) ∙ at))))
            | inr ne ↦ get_set_other b.pins pin other (Some n) ne ∙ at
          ]
      by_pin (Some (Some m)) e h = by_test (m == n) refl h
        where
          by_test : (t : Bool) → (m == n) ≡ t → In c (if t then b ∷ [] else []) → Extends b c × (slice_get c.pins pin ≡ Some (Some n)) × (length c.pins ≡ length b.pins)
          by_test true is (inl same) =
              subst (λ (d : Binding). Extends b d × (slice_get d.pins pin ≡ Some (Some n)) × (length d.pins ≡ length b.pins)) same
              (λ other k at. at, e ∙ ap (λ (k : ℕ). Some (Some k)) (eqb-true m n is), refl)
          by_test true is (inr no_more) = elim no_more [ ]
          by_test false is h = elim h [ ]

  -- what grows stays as wide
  inverter_wide : (width : ℕ) (v : Vertex) (f : ℕ → List Binding) → IsOver (length vs) v → ((m : ℕ) → m < length vs → AreWide width (f m)) → AreWide width (under_inverter v f)
  inverter_wide width (AtLeaf place) f over wide c h = elim h [ ]
  inverter_wide width (AtInv m) f over wide c h = wide m over c h
  inverter_wide width (AtNand m k) f over wide c h = elim h [ ]

  nand_wide : (width : ℕ) (v : Vertex) (f : ℕ → ℕ → List Binding) → IsOver (length vs) v → ((m k : ℕ) → m < length vs → k < length vs → AreWide width (f m k)) → AreWide width (under_nand v f)
  nand_wide width (AtLeaf place) f over wide c h = elim h [ ]
  nand_wide width (AtInv m) f over wide c h = elim h [ ]
  nand_wide width (AtNand m k) f over wide c h = wide m k over.0 over.1 c h

  both_wide : (width : ℕ) (xs ys : List Binding) → AreWide width xs → AreWide width ys → AreWide width (xs ++ ys)
  both_wide width xs ys p q c h = elim (in_either c xs ys h) as (λ _. length c.pins ≡ width) [ inl a ↦ p c a | inr b ↦ q c b ]

  grown_wide : (p : Tree ℕ) (n width : ℕ) (bs : List Binding) → n < length vs → AreWide width bs → AreWide width (grown vs p n bs)
  unfolding grown
  grown_wide (Leaf pin) n width bs lt wide = λ c h.
      let (b, at, k) = from_flat (bind pin n) c bs h in
      (bind_sound pin n b c lt k).2 ∙ wide b at
  grown_wide (Inv p) n width bs lt wide = inverter_wide width (vertex_at vs n) (λ m. grown vs p m bs) (over_all vs arena n).1 (λ m over. grown_wide p m width bs over wide)
  grown_wide (Nand p q) n width bs lt wide =
      nand_wide width (vertex_at vs n) (λ m k. grown vs q k (grown vs p m bs) ++ grown vs q m (grown vs p k bs)) (over_all vs arena n).1
      (λ m k first second.
      both_wide width (grown vs q k (grown vs p m bs)) (grown vs q m (grown vs p k bs)) (grown_wide q k width (grown vs p m bs) second (grown_wide p m width bs first wide))
      (grown_wide q m width (grown vs p k bs) first (grown_wide p k width bs second wide)))

  inverter_complete : (p : Tree ℕ) (ts : List (Tree ℕ)) (v : Vertex) (f : ℕ → List Binding) → IsOver (length vs) v → Matches (Inv p) (built (trees vs) v) ts
      → ((m : ℕ) → m < length vs → Matches p (tree_at vs m) ts → Found vs (f m) ts) → Found vs (under_inverter v f) ts
  unfolding Matches
  inverter_complete p ts (AtLeaf place) f over h make = absurd h
  inverter_complete p ts (AtInv m) f over h make = make m over h
  inverter_complete p ts (AtNand m k) f over h make = absurd h

  nand_complete : (p q : Tree ℕ) (ts : List (Tree ℕ)) (v : Vertex) (f : ℕ → ℕ → List Binding) → IsOver (length vs) v → Matches (Nand p q) (built (trees vs) v) ts
      → ((m k : ℕ) → m < length vs → k < length vs → (Matches p (tree_at vs m) ts × Matches q (tree_at vs k) ts) ⊎ (Matches p (tree_at vs k) ts × Matches q (tree_at vs m) ts) → Found vs (f m k) ts) → Found vs (under_nand v f) ts
  unfolding Matches
  nand_complete p q ts (AtLeaf place) f over h make = absurd h
  nand_complete p q ts (AtInv m) f over h make = absurd h
  nand_complete p q ts (AtNand m k) f over h make = make m k over.0 over.1 h

  found_left : (xs ys : List Binding) (ts : List (Tree ℕ)) → Found vs xs ts → Found vs (xs ++ ys) ts
  found_left xs ys ts (c, at, fits) = (c, in_left c xs ys at, fits)

  found_right : (xs ys : List Binding) (ts : List (Tree ℕ)) → Found vs ys ts → Found vs (xs ++ ys) ts
  found_right xs ys ts (c, at, fits) = (c, in_right c xs ys at, fits)

  pub grown_complete : (p : Tree ℕ) (n width : ℕ) (bs : List Binding) (ts : List (Tree ℕ)) → n < length vs → PinsBelow width p → AreWide width bs → Matches p (tree_at vs n) ts → Found vs bs ts → Found vs (grown vs p n bs) ts
  unfolding grown Matches PinsBelow
  grown_complete (Leaf pin) n width bs ts lt below wide matches (b, at, agrees) =
      let (c, there, fits) = bind_complete pin n b ts lt (omega (arith, below, wide b at)) matches agrees in
      (c, in_flat (bind pin n) c b bs at there, fits)
  grown_complete (Inv p) n width bs ts lt below wide matches found =
      inverter_complete p ts (vertex_at vs n) (λ m. grown vs p m bs) (over_all vs arena n).1 (subst (λ (t : Tree ℕ). Matches (Inv p) t ts) (reads_all vs arena n) matches)
      (λ m over h. grown_complete p m width bs ts over below wide h found)
  grown_complete (Nand p q) n width bs ts lt below wide matches found =
      nand_complete p q ts (vertex_at vs n) (λ m k. grown vs q k (grown vs p m bs) ++ grown vs q m (grown vs p k bs)) (over_all vs arena n).1
      (subst (λ (t : Tree ℕ). Matches (Nand p q) t ts) (reads_all vs arena n) matches)
      (λ m k first second h. elim h as (λ _. Found vs (grown vs q k (grown vs p m bs) ++ grown vs q m (grown vs p k bs)) ts) [
        | inl s ↦ found_left (grown vs q k (grown vs p m bs)) (grown vs q m (grown vs p k bs)) ts
            (grown_complete q k width (grown vs p m bs) ts second below.1 (grown_wide p m width bs first wide) s.1 (grown_complete p m width bs ts first below.0 wide s.0 found))
        | inr s ↦ found_right (grown vs q k (grown vs p m bs)) (grown vs q m (grown vs p k bs)) ts
            (grown_complete q m width (grown vs p k bs) ts first below.1 (grown_wide p k width bs second wide) s.1 (grown_complete p k width bs ts second below.0 wide s.0 found))
      ])

  inverter_sound : (p t : Tree ℕ) (bs : List Binding) (c : Binding) (v : Vertex) (f : ℕ → List Binding) → IsOver (length vs) v → t ≡ built (trees vs) v → In c (under_inverter v f)
      → ((m : ℕ) → m < length vs → In c (f m) → Grew vs p (tree_at vs m) bs c) → Grew vs (Inv p) t bs c
  unfolding Matches
  inverter_sound p t bs c (AtLeaf place) f over e h make = elim h [ ]
  inverter_sound p t bs c (AtInv m) f over e h make =
      let (b, at, extends, holds) = make m over h in
      (b, at, extends, λ ts agrees. subst (λ (u : Tree ℕ). Matches (Inv p) u ts) (sym e) (holds ts agrees))
  inverter_sound p t bs c (AtNand m k) f over e h make = elim h [ ]

  nand_sound : (p q t : Tree ℕ) (bs : List Binding) (c : Binding) (v : Vertex) (f : ℕ → ℕ → List Binding) → IsOver (length vs) v → t ≡ built (trees vs) v → In c (under_nand v f)
      → ((m k : ℕ) → m < length vs → k < length vs → In c (f m k) → Grew vs (Nand p q) (Nand (tree_at vs m) (tree_at vs k)) bs c) → Grew vs (Nand p q) t bs c
  nand_sound p q t bs c (AtLeaf place) f over e h make = elim h [ ]
  nand_sound p q t bs c (AtInv m) f over e h make = elim h [ ]
  nand_sound p q t bs c (AtNand m k) f over e h make = subst (λ (u : Tree ℕ). Grew vs (Nand p q) u bs c) (sym e) (make m k over.0 over.1 h)

  pub grown_sound : (p : Tree ℕ) (n : ℕ) (bs : List Binding) (c : Binding) → n < length vs → In c (grown vs p n bs) → Grew vs p (tree_at vs n) bs c
  unfolding grown Matches
  grown_sound (Leaf pin) n bs c lt h =
      let (b, at, k) = from_flat (bind pin n) c bs h in
      let s = bind_sound pin n b c lt k in
      (b, at, s.0, λ ts agrees. (agrees pin n s.1).1)
  grown_sound (Inv p) n bs c lt h =
      inverter_sound p (tree_at vs n) bs c (vertex_at vs n) (λ m. grown vs p m bs) (over_all vs arena n).1 (reads_all vs arena n) h (λ m over i. grown_sound p m bs c over i)
  grown_sound (Nand p q) n bs c lt h =
      nand_sound p q (tree_at vs n) bs c (vertex_at vs n) (λ m k. grown vs q k (grown vs p m bs) ++ grown vs q m (grown vs p k bs)) (over_all vs arena n).1 (reads_all vs arena n) h
      (λ m k first second i. elim (in_either c (grown vs q k (grown vs p m bs)) (grown vs q m (grown vs p k bs)) i) as (λ _. Grew vs (Nand p q) (Nand (tree_at vs m) (tree_at vs k)) bs c) [
        | inl a ↦
            let (d, at, extends, holds) = grown_sound q k (grown vs p m bs) c second a in
            let (b, start, before, held) = grown_sound p m bs d first at in
            (b, start, λ pin j get. extends pin j (before pin j get), λ ts agrees. inl (held ts (agrees_before vs d c ts extends agrees), holds ts agrees))
        | inr a ↦
            let (d, at, extends, holds) = grown_sound q m (grown vs p k bs) c first a in
            let (b, start, before, held) = grown_sound p k bs d second at in
            (b, start, λ pin j get. extends pin j (before pin j get), λ ts agrees. inr (held ts (agrees_before vs d c ts extends agrees), holds ts agrees))
      ])

-- no pin is bound
abbrev pub no_number : Option ℕ
no_number = None

pub nothing_bound : (n pin m : ℕ) → slice_get (replicate n no_number) pin ≡ Some (Some m) → ⊥
nothing_bound zero pin m at = none-some (Some m) at
nothing_bound (suc n) zero m at = none-some m (same_Some None (Some m) at)
nothing_bound (suc n) (suc pin) m at = nothing_bound n pin m at

pub length_replicate : {X : Type 0} (n : ℕ) (x : X) → length (replicate n x) ≡ n
length_replicate zero x = refl
length_replicate (suc n) x = ap (λ (k : ℕ). suc k) (length_replicate n x)

pub matches_exact : (vs : List Vertex) (p : Tree ℕ) (n width : ℕ) (made : List Binding) → IsArena vs → n < length vs → PinsBelow width p → made ≡ grown vs p n ((record { pins = replicate width None }) ∷ [])
    → (ts : List (Tree ℕ)) → Matches p (tree_at vs n) ts ↔ SomeAgrees vs made ts
matches_exact vs p n width made arena lt below is ts = (
  λ h.
      let (b, at, agrees) = grown_complete vs arena p n width (start ∷ []) ts lt below wide h (start, inl refl, none) in
      (b, in_contains b made (subst (λ (bs : List Binding). In b bs) (sym is) at), agrees),
  λ h.
      let (b, at, agrees) = h in
      let (c, there, extends, holds) = grown_sound vs arena p n (start ∷ []) b lt (subst (λ (bs : List Binding). In b bs) is (contains_in b made at)) in
      holds ts agrees,
)
  where
    start : Binding
    start = record { pins = replicate width None }

    none : Agrees vs start ts
    none pin m at = absurd (nothing_bound width pin m at)

    wide : AreWide width (start ∷ [])
    wide b (inl e) = ap (λ (c : Binding). length c.pins) (sym e) ∙ length_replicate width None
    wide b (inr h) = elim h [ ]

pub matches_from : (vs : List Vertex) (p : Tree ℕ) (n width : ℕ) (made slice pushed : List Binding) (start : Binding) → IsArena vs → n < length vs → PinsBelow width p → slice ≡ pushed → start ≡ record { pins = replicate width None } → pushed ≡ start ∷ []
    → made ≡ grown vs p n slice → (ts : List (Tree ℕ)) → Matches p (tree_at vs n) ts ↔ SomeAgrees vs made ts
matches_from vs p n width made slice pushed start arena lt below same begins is grows =
    matches_exact vs p n width made arena lt below (grows ∙ ap (grown vs p n) (same ∙ (is ∙ ap (λ (b : Binding). b ∷ []) begins)))
