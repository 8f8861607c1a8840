-- Trees with other leaves: what matches and covers a tree does so with its leaves renamed.
use Rattle.std.proofs.Common.{◌≡◌, ℕ, zero, suc, ◌+◌, ◌<◌, Bool, true, false, Some, if◌then◌else◌}
use Rattle.std.proofs.Common.{List, [], ◌∷◌, length, map, slice_get, bytes_eq, sym, ap, ◌∙◌, subst}
use Rattle.std.proofs.Common.{inl, inr, arith}
use Rattle.std.specs.List.{AllByRecursion, Contains}
use Rattle.std.proofs.lemmas.Bool.{false≢true}
use Rattle.std.proofs.lemmas.List.{length-map}
use Rattle.std.proofs.lemmas.Option.{same_Some, slice_get_within}
use Rattle.circuit_model.specs.Names.{has, all_different}
use Rattle.circuit_laws.proofs.Names.{name_itself, name_cases, has_head, has_tail, different_head}
use Rattle.circuit_laws.proofs.Names.{different_tail}
use Rattle.subject_tree.specs.Trees.{Tree, Leaf, Inv, Nand, renamed}
use Rattle.subject_tree.specs.Order.{name_at, LeavesBelow}
use Rattle.pattern_set.specs.Values.{HasLeaf}
use Rattle.tree_cover.specs.Covers.{Tile, Matches, Fits, Cover, Covers, leaf_cover, gate_cover}
use Rattle.tree_cover.specs.Covers.{no_pins, more_pins, Least, LeastOfAll, Stands}
use Rattle.tree_cover.specs.Written.{UsesPins}
use Rattle.tree_cover.proofs.Choosing.{contains_get, get_contains}
use Rattle.tree_cover.proofs.Open.{get_map, all_gets}

-- a gate has the area, the pins and all patterns of another one
pub record GoesInto (tile other : Tile) : Type 0 where
  pub area : tile.area ≡ other.area
  pub pins : tile.pins ≡ other.pins
  pub patterns : (pattern : Tree ℕ) → Contains tile.patterns pattern
      → Contains other.patterns pattern

-- each gate of a library stands at its place in another one
abbrev pub IsWithin : List Tile → List Tile → Type 0
IsWithin library other = (place : ℕ) (tile : Tile) → slice_get library place ≡ Some tile
    → (into : Tile) × (slice_get other place ≡ Some into) × GoesInto tile into

matches_renamed : (f : ℕ → ℕ) (p t : Tree ℕ) (bound : List (Tree ℕ)) → Matches p t bound
    → Matches p (renamed f t) (map (renamed f) bound)
unfolding Matches renamed
matches_renamed f (Leaf pin) t bound h = get_map (renamed f) bound pin t h
matches_renamed f (Inv p) (Leaf place) bound h = elim h [ ]
matches_renamed f (Inv p) (Inv t) bound h = matches_renamed f p t bound h
matches_renamed f (Inv p) (Nand t u) bound h = elim h [ ]
matches_renamed f (Nand p q) (Leaf place) bound h = elim h [ ]
matches_renamed f (Nand p q) (Inv t) bound h = elim h [ ]
matches_renamed f (Nand p q) (Nand t u) bound (inl h) = inl
    (matches_renamed f p t bound h.0, matches_renamed f q u bound h.1)
matches_renamed f (Nand p q) (Nand t u) bound (inr h) = inr
    (matches_renamed f p u bound h.0, matches_renamed f q t bound h.1)

fits_renamed : (f : ℕ → ℕ) (tile other : Tile) (t : Tree ℕ) (bound : List (Tree ℕ))
    → GoesInto tile other → Fits tile t bound → Fits other (renamed f t) (map (renamed f) bound)
fits_renamed f tile other t bound into fits = record {
  pins = length-map bound (renamed f) ∙ (fits.pins ∙ into.pins);
  pattern = fits.pattern;
  listed = into.patterns fits.pattern fits.listed;
  proper = fits.proper;
  matches = matches_renamed f fits.pattern t bound fits.matches;
}

module _ (f : ℕ → ℕ) (library other : List Tile) (within : IsWithin library other) where
  gate_renamed : (t : Tree ℕ) (tile : Tile) (bound : List (Tree ℕ)) (rest : ℕ)
      → Contains library tile → Fits tile t bound → Covers other (map (renamed f) bound) rest
      → Cover other (renamed f t) (tile.area + rest)
  gate_renamed t tile bound rest there fits covers =
      let (place, at) = contains_get tile library there in
      let (into, here, goes) = within place tile at in
      subst (λ (area : ℕ). Cover other (renamed f t) (area + rest)) (sym goes.area)
      (gate_cover (renamed f t) into (map (renamed f) bound) rest
      (get_contains into other place here) (fits_renamed f tile into t bound goes fits) covers)

  mutual
    unfolding renamed

    pub cover_renamed : (t : Tree ℕ) (cost : ℕ) → Cover library t cost
        → Cover other (renamed f t) cost
    cover_renamed u c (leaf_cover place) = leaf_cover (f place)
    cover_renamed u c (gate_cover t tile bound cost there fits covers) =
        gate_renamed t tile bound cost there fits (covers_renamed bound cost covers)

    covers_renamed : (ts : List (Tree ℕ)) (cost : ℕ) → Covers library ts cost
        → Covers other (map (renamed f) ts) cost
    covers_renamed us c no_pins = no_pins
    covers_renamed us c (more_pins t ts cost rest first others) =
        more_pins (renamed f t) (map (renamed f) ts) cost rest (cover_renamed t cost first)
        (covers_renamed ts rest others)

-- a renaming of a tree's leaves is undone by another one
abbrev pub IsBack : (ℕ → ℕ) → (ℕ → ℕ) → Tree ℕ → Type 0
IsBack f g t = renamed g (renamed f t) ≡ t

module _ (f g : ℕ → ℕ) (library other : List Tile) (forth : IsWithin library other)
    (back : IsWithin other library) where
  pub least_renamed : (t : Tree ℕ) (cost : ℕ) → IsBack f g t → Least library t cost
      → Least other (renamed f t) cost
  least_renamed t cost undone least = record {
    cover = cover_renamed f library other forth t cost least.cover;
    least = λ c cover. least.least c (subst (λ (u : Tree ℕ). Cover library u c) undone
        (cover_renamed g other library back (renamed f t) c cover));
  }

  leasts_renamed : (ts : List (Tree ℕ)) (cost : ℕ) → AllByRecursion (IsBack f g) ts
      → LeastOfAll library ts cost → LeastOfAll other (map (renamed f) ts) cost
  unfolding LeastOfAll
  leasts_renamed [] cost undone least = least
  leasts_renamed (t ∷ ts) cost undone (first, rest, one, others, sum) = (
    first,
    rest,
    least_renamed t first undone.0 one,
    leasts_renamed ts rest undone.1 others,
    sum,
  )

  pub stands_renamed : (t : Tree ℕ) (cost place : ℕ) (bound : List (Tree ℕ))
      → AllByRecursion (IsBack f g) bound → Stands library t cost place bound
      → Stands other (renamed f t) cost place (map (renamed f) bound)
  stands_renamed t cost place bound undone stands =
      let (into, here, goes) = forth place stands.tile stands.there in
      record {
        tile = into;
        there = here;
        fits = fits_renamed f stands.tile into t bound goes stands.fits;
        rest = stands.rest;
        cheapest = leasts_renamed bound stands.rest undone stands.cheapest;
        sum = stands.sum ∙ ap (λ (area : ℕ). area + stands.rest) goes.area;
      }

-- what holds of a tree holds of the trees right below it
pub record GoesDown (P : Tree ℕ → Type 0) : Type 0 where
  pub inner : (t : Tree ℕ) → P (Inv t) → P t
  pub left : (t u : Tree ℕ) → P (Nand t u) → P t
  pub right : (t u : Tree ℕ) → P (Nand t u) → P u

-- what holds of a tree, and of those below it, holds of what a match binds
bound_holds : (P : Tree ℕ → Type 0) → GoesDown P → (p t : Tree ℕ) (bound : List (Tree ℕ)) (pin : ℕ)
    (u : Tree ℕ) → Matches p t bound → HasLeaf pin p → slice_get bound pin ≡ Some u → P t → P u
unfolding Matches HasLeaf
bound_holds P down (Leaf other) t bound pin u h is at holds =
    subst P (same_Some t u (sym h ∙ (ap (slice_get bound) is ∙ at))) holds
bound_holds P down (Inv p) (Leaf place) bound pin u h is at holds = elim h [ ]
bound_holds P down (Inv p) (Inv t) bound pin u h is at holds =
    bound_holds P down p t bound pin u h is at (down.inner t holds)
bound_holds P down (Inv p) (Nand t v) bound pin u h is at holds = elim h [ ]
bound_holds P down (Nand p q) (Leaf place) bound pin u h is at holds = elim h [ ]
bound_holds P down (Nand p q) (Inv t) bound pin u h is at holds = elim h [ ]
bound_holds P down (Nand p q) (Nand t v) bound pin u (inl h) (inl is) at holds =
    bound_holds P down p t bound pin u h.0 is at (down.left t v holds)
bound_holds P down (Nand p q) (Nand t v) bound pin u (inl h) (inr is) at holds =
    bound_holds P down q v bound pin u h.1 is at (down.right t v holds)
bound_holds P down (Nand p q) (Nand t v) bound pin u (inr h) (inl is) at holds =
    bound_holds P down p v bound pin u h.0 is at (down.right t v holds)
bound_holds P down (Nand p q) (Nand t v) bound pin u (inr h) (inr is) at holds =
    bound_holds P down q t bound pin u h.1 is at (down.left t v holds)

-- it holds of all trees at the pins of a gate that can be taken
pub all_bound : (P : Tree ℕ → Type 0) → GoesDown P → (library : List Tile) → UsesPins library
    → (t : Tree ℕ) (cost place : ℕ) (bound : List (Tree ℕ)) → Stands library t cost place bound
    → P t → AllByRecursion P bound
all_bound P down library uses t cost place bound stands holds = all_gets P bound
    (λ pin u at. bound_holds P down stands.fits.pattern t bound pin u stands.fits.matches
    (uses place stands.tile stands.fits.pattern pin stands.there stands.fits.listed
    (subst (λ (n : ℕ). pin < n) stands.fits.pins (slice_get_within bound pin u at))) at holds)

-- the place of a name among names
unfoldable pub place_of : List (List ℕ) → List ℕ → ℕ
place_of [] name = 0
place_of (first ∷ names) name = if bytes_eq name first then 0 else suc (place_of names name)

name_there : (names : List (List ℕ)) (place : ℕ) → place < length names
    → has names (name_at names place) ≡ true
name_there [] place lt = absurd (omega (arith, lt))
name_there (name ∷ names) zero lt = has_head name names
name_there (name ∷ names) (suc place) lt = has_tail name names (name_at names place)
    (name_there names place (omega (arith, lt)))

-- where names are all different, the place of the name at a place is that place
place_of_at : (names : List (List ℕ)) (place : ℕ) → all_different names ≡ true
    → place < length names → place_of names (name_at names place) ≡ place
unfolding place_of
place_of_at [] place different lt = absurd (omega (arith, lt))
place_of_at (name ∷ names) zero different lt = ap
    (λ (b : Bool). if b then 0 else suc (place_of names name)) (name_itself name)
place_of_at (name ∷ names) (suc place) different lt =
    let here : name_at names place ≡ name → ⊥ = λ is. false≢true
    (sym (different_head name names different) ∙ ap (has names) (sym is)
    ∙ name_there names place (omega (arith, lt))) in
    elim (name_cases (name_at names place) name)
    as (λ _. place_of (name ∷ names) (name_at names place) ≡ suc place) [
      | inl is ↦ absurd (here is)
      | inr apart ↦
          ap (λ (b : Bool). if b then 0 else suc (place_of names (name_at names place))) apart
          ∙ ap (λ (n : ℕ). suc n) (place_of_at names place (different_tail name names different)
          (omega (arith, lt)))
    ]

-- the place in other names of the name at a place
abbrev pub moved : List (List ℕ) → List (List ℕ) → ℕ → ℕ
moved names other place = place_of other (name_at names place)

-- two trees over places in two lists of names are one tree of names
pub record AreOne (names other : List (List ℕ)) (t u : Tree ℕ) : Type 0 where
  pub below : LeavesBelow (length names) t
  pub beside : LeavesBelow (length other) u
  pub named : renamed (name_at names) t ≡ renamed (name_at other) u

pub one_turned : (names other : List (List ℕ)) (t u : Tree ℕ) → AreOne names other t u
    → AreOne other names u t
one_turned names other t u one = record {
  below = one.beside;
  beside = one.below;
  named = sym one.named;
}

pub leaf_is : {A : Type 0} (x y : A) → Leaf x ≡ Leaf y → x ≡ y
leaf_is x y e = cc

inverted_is : {A : Type 0} (t u : Tree A) → Inv t ≡ Inv u → t ≡ u
inverted_is t u e = cc

left_is : {A : Type 0} (t u v w : Tree A) → Nand t u ≡ Nand v w → t ≡ v
left_is t u v w e = cc

right_is : {A : Type 0} (t u v w : Tree A) → Nand t u ≡ Nand v w → u ≡ w
right_is t u v w e = cc

-- the first tree with its leaves moved is the other one
pub moves_to : (names other : List (List ℕ)) (t u : Tree ℕ) → all_different other ≡ true
    → LeavesBelow (length other) u → renamed (name_at names) t ≡ renamed (name_at other) u
    → renamed (moved names other) t ≡ u
unfolding renamed LeavesBelow
moves_to names other (Leaf p) (Leaf q) different below e = ap (λ (k : ℕ). Leaf k)
    (ap (place_of other) (leaf_is (name_at names p) (name_at other q) e)
    ∙ place_of_at other q different below)
moves_to names other (Leaf p) (Inv u) different below e = absurd (let x : ⊥ = cc in x)
moves_to names other (Leaf p) (Nand u w) different below e = absurd (let x : ⊥ = cc in x)
moves_to names other (Inv t) (Leaf q) different below e = absurd (let x : ⊥ = cc in x)
moves_to names other (Inv t) (Inv u) different below e = ap (λ (k : Tree ℕ). Inv k)
    (moves_to names other t u different below (inverted_is _ _ e))
moves_to names other (Inv t) (Nand u w) different below e = absurd (let x : ⊥ = cc in x)
moves_to names other (Nand t v) (Leaf q) different below e = absurd (let x : ⊥ = cc in x)
moves_to names other (Nand t v) (Inv u) different below e = absurd (let x : ⊥ = cc in x)
moves_to names other (Nand t v) (Nand u w) different below e =
    ap (λ (k : Tree ℕ). Nand k (renamed (moved names other) v))
    (moves_to names other t u different below.0 (left_is _ _ _ _ e))
    ∙ ap (λ (k : Tree ℕ). Nand u k)
    (moves_to names other v w different below.1 (right_is _ _ _ _ e))

-- the leaves of a tree can be moved to other names and back
pub record IsMoved (names other : List (List ℕ)) (t : Tree ℕ) : Type 0 where
  pub below : LeavesBelow (length names) t
  pub beside : LeavesBelow (length other) (renamed (moved names other) t)
  pub named : renamed (name_at other) (renamed (moved names other) t) ≡ renamed (name_at names) t
  pub back : IsBack (moved names other) (moved other names) t

pub one_moved : (names other : List (List ℕ)) (t u : Tree ℕ) → all_different names ≡ true
    → all_different other ≡ true → AreOne names other t u → IsMoved names other t
one_moved names other t u different same one =
    let to : renamed (moved names other) t ≡ u = moves_to names other t u same one.beside
    one.named in
    record {
      below = one.below;
      beside = subst (LeavesBelow (length other)) (sym to) one.beside;
      named = ap (renamed (name_at other)) to ∙ sym one.named;
      back = ap (renamed (moved other names)) to ∙ moves_to other names u t different one.below
          (sym one.named);
    }

pub moves_down : (names other : List (List ℕ)) → GoesDown (IsMoved names other)
unfolding renamed LeavesBelow
moves_down names other = record {
  inner = λ t m. record {
    below = m.below;
    beside = m.beside;
    named = inverted_is _ _ m.named;
    back = inverted_is _ _ m.back;
  };
  left = λ t u m. record {
    below = m.below.0;
    beside = m.beside.0;
    named = left_is _ _ _ _ m.named;
    back = left_is _ _ _ _ m.back;
  };
  right = λ t u m. record {
    below = m.below.1;
    beside = m.beside.1;
    named = right_is _ _ _ _ m.named;
    back = right_is _ _ _ _ m.back;
  };
}
