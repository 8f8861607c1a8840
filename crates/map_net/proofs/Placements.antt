-- Gates that are placed one after the other, and the covers whose gates they are.
use Rattle.std.proofs.Common.{◌≡◌, ◌⊎◌, ℕ, suc, ◌+◌, ◌<◌, List, [], ◌∷◌, ◌++◌, map}
use Rattle.std.proofs.Common.{length, refl, sym, ap, subst, ◌∙◌, append_assoc, append-nil, inl, inr}
use Rattle.std.proofs.Common.{arith}
use Rattle.std.specs.List.{AllByRecursion}
use Rattle.genlib_format.specs.declared.gate.Gate.{Gate}
use Rattle.subject_tree.specs.declared.forest.Root.{Root}
use Rattle.tree_cover.specs.declared.writing.Signal.{Signal}
use Rattle.tree_cover.specs.declared.writing.CoverGate.{CoverGate}
use Rattle.netlist.specs.declared.mapped.Connection.{Connection}
use Rattle.netlist.specs.declared.mapped.Placed.{Placed}
use Rattle.map_net.specs.declared.covers.TreeCover.{TreeCover}
use Rattle.map_net.specs.Naming.{AreNewTo, AreNew}
use Rattle.map_net.specs.Mapping.{name_of, driven_in, connected, IsPlacedAs, ArePlacedAs}
use Rattle.map_net.specs.Mapping.{IsPlacedCover, ArePlaced}
use Rattle.map_net.specs.Working.{IsReady}
use Rattle.map_net.proofs.New.{new_more}
use Rattle.map_net.proofs.Zipped.{IsZipped}

-- pins with the signals that they stand at, place by place
abbrev pub pin_step : (Signal → List ℕ) → List ℕ → Signal → List Connection
pin_step named pin signal = record { pin = pin; signal = named signal } ∷ []

abbrev pub pins_over : (Signal → List ℕ) → List (List ℕ) → List Signal → List Connection
pins_over named pins signals = connected pins (map named signals)

pub pins_zipped : (named : Signal → List ℕ) → IsZipped (pin_step named) (pins_over named)
unfolding connected
pins_zipped named = record {
  more = λ pin pins signal signals. refl;
  none_left = λ signals. refl;
  none_right = none;
}
  where
    none : (pins : List (List ℕ)) → connected pins [] ≡ []
    none [] = refl
    none (pin ∷ pins) = refl

-- the first gates of a cover are placed; what is missing is what the others give
pub record GatesPlaced (library : List Gate) (named : Signal
    → List ℕ) (gates : List CoverGate) (driven : List (List ℕ)) (gates_left : List CoverGate)
    (driven_left : List (List ℕ)) (old new : List Placed) : Type 0 where
  pub own : List Placed
  pub is : new ≡ old ++ own
  pub rest : (more : List Placed) → ArePlacedAs library named gates_left driven_left more
      → ArePlacedAs library named gates driven (own ++ more)
  pub count : length driven_left ≡ length gates_left
  pub places : AllByRecursion (λ (gate : CoverGate). gate.place < length library) gates_left

pub gates_begun : (library : List Gate) (named : Signal → List ℕ) (gates : List CoverGate)
    (driven : List (List ℕ)) (gates_left : List CoverGate) (driven_left : List (List ℕ))
    (old : List Placed) → gates_left ≡ gates → driven_left ≡ driven
    → length driven ≡ length gates
    → AllByRecursion (λ (gate : CoverGate). gate.place < length library) gates
    → GatesPlaced library named gates driven gates_left driven_left old old
gates_begun library named gates driven gates_left driven_left old first second count places =
    subst (λ (xs : List CoverGate). GatesPlaced library named gates driven xs driven_left old old)
    (sym first)
    (subst (λ (xs : List (List ℕ)). GatesPlaced library named gates driven gates xs old old)
    (sym second) begun)
  where
    begun : GatesPlaced library named gates driven gates driven old old
    begun = record {
      own = [];
      is = sym (append-nil old);
      rest = λ more h. h;
      count = count;
      places = places;
    }

-- the next gate is of the library
pub next_place : (library : List Gate) (named : Signal
    → List ℕ) (gates : List CoverGate) (driven : List (List ℕ)) (gates_left rest : List CoverGate)
    (driven_left : List (List ℕ)) (old new : List Placed) (gate : CoverGate)
    → gates_left ≡ gate ∷ rest
    → GatesPlaced library named gates driven gates_left driven_left old new
    → gate.place < length library
next_place library named gates driven gates_left rest driven_left old new gate first so_far =
    (subst (AllByRecursion (λ (gate : CoverGate). gate.place < length library)) first
    so_far.places).0

pub gates_more : (library : List Gate) (named : Signal
    → List ℕ) (gates : List CoverGate) (driven : List (List ℕ)) (gates_left rest : List CoverGate)
    (driven_left outputs : List (List ℕ)) (old new after : List Placed)
    (gate : CoverGate) (output : List ℕ) (placed : Placed) → gates_left ≡ gate ∷ rest
    → driven_left ≡ output ∷ outputs → IsPlacedAs library named gate output placed
    → after ≡ new ++ placed ∷ []
    → GatesPlaced library named gates driven gates_left driven_left old new
    → GatesPlaced library named gates driven rest outputs old after
unfolding ArePlacedAs
gates_more library named gates driven gates_left rest driven_left outputs old new after gate output
    placed first second is put so_far = record {
      own = so_far.own ++ placed ∷ [];
      is = put ∙ ap (λ (xs : List Placed). xs ++ placed ∷ []) so_far.is
          ∙ append_assoc old so_far.own (placed ∷ []);
      rest = λ more h. subst (ArePlacedAs library named gates driven)
          (sym (append_assoc so_far.own (placed ∷ []) more))
          (so_far.rest (placed ∷ more) (front more h));
      count =
          let counts : suc (length outputs) ≡ suc (length rest) = sym
          (ap (λ (xs : List (List ℕ)). length xs) second)
          ∙ (so_far.count ∙ ap (λ (xs : List CoverGate). length xs) first) in
          omega (arith, counts);
      places = (subst (AllByRecursion (λ (gate : CoverGate). gate.place < length library)) first
          so_far.places).1;
    }
  where
    made : (more : List Placed) → ArePlacedAs library named rest outputs more
        → ArePlacedAs library named (gate ∷ rest) (output ∷ outputs) (placed ∷ more)
    made more h = (output, outputs, placed, more, refl, refl, is, h)

    front : (more : List Placed) → ArePlacedAs library named rest outputs more
        → ArePlacedAs library named gates_left driven_left (placed ∷ more)
    front more h =
        subst (λ (xs : List CoverGate). ArePlacedAs library named xs driven_left (placed ∷ more))
        (sym first)
        (subst (λ (xs : List (List ℕ)). ArePlacedAs library named (gate ∷ rest) xs (placed ∷ more))
        (sym second) (made more h))

pub gates_all : (library : List Gate) (named : Signal
    → List ℕ) (gates : List CoverGate) (driven : List (List ℕ)) (gates_left : List CoverGate)
    (driven_left : List (List ℕ)) (old new : List Placed)
    → (gates_left ≡ []) ⊎ (driven_left ≡ [])
    → GatesPlaced library named gates driven gates_left driven_left old new
    → (own : List Placed) × (new ≡ old ++ own) × ArePlacedAs library named gates driven own
unfolding ArePlacedAs
gates_all library named gates driven gates_left driven_left old new either so_far = (
  so_far.own,
  so_far.is,
  subst (ArePlacedAs library named gates driven) (append-nil so_far.own)
      (so_far.rest [] (done gates_left driven_left so_far.count either)),
)
  where
    done : (xs : List CoverGate) (ys : List (List ℕ)) → length ys ≡ length xs
        → (xs ≡ []) ⊎ (ys ≡ []) → ArePlacedAs library named xs ys []
    done [] [] count e = (refl, refl)
    done [] (y ∷ ys) count e = absurd (omega (arith, count))
    done (x ∷ xs) [] count e = absurd (omega (arith, count))
    done (x ∷ xs) (y ∷ ys) count (inl e) = absurd (let off = e in cc)
    done (x ∷ xs) (y ∷ ys) count (inr e) = absurd (let off = e in cc)

-- the gates of the first covers are placed; what is missing is what the others give
pub record CoversPlaced (library : List Gate) (names used : List (List ℕ)) (roots : List Root)
    (covers : List TreeCover) (roots_left : List Root) (covers_left : List TreeCover) (start : ℕ)
    (gates : List Placed) : Type 0 where
  pub fresh : List (List ℕ)
  pub new : AreNewTo used 0 fresh start
  pub rest : (later : List (List ℕ)) (more : List Placed)
      → ArePlaced library names roots_left covers_left later more
      → ArePlaced library names roots covers (fresh ++ later) (gates ++ more)
  pub count : length roots_left ≡ length covers_left
  pub ready : AllByRecursion (IsReady (length library)) covers_left

pub covers_begun : (library : List Gate) (names used : List (List ℕ)) (roots : List Root)
    (covers : List TreeCover) (roots_left : List Root) (covers_left : List TreeCover)
    (gates : List Placed) → gates ≡ [] → roots_left ≡ roots → covers_left ≡ covers
    → length roots ≡ length covers → AllByRecursion (IsReady (length library)) covers
    → CoversPlaced library names used roots covers roots_left covers_left 0 gates
unfolding AreNewTo
covers_begun library names used roots covers roots_left covers_left gates none first second count
    ready =
    subst (λ (xs : List Placed). CoversPlaced library names used roots covers roots_left
    covers_left 0 xs) (sym none)
    (subst (λ (xs : List Root). CoversPlaced library names used roots covers xs covers_left 0 [])
    (sym first)
    (subst (λ (xs : List TreeCover). CoversPlaced library names used roots covers roots xs 0 [])
    (sym second) begun))
  where
    begun : CoversPlaced library names used roots covers roots covers 0 []
    begun = record {
      fresh = [];
      new = refl;
      rest = λ later more h. h;
      count = count;
      ready = ready;
    }

-- the next cover can be placed
pub next_ready : (library : List Gate) (names used : List (List ℕ)) (roots : List Root)
    (covers : List TreeCover) (roots_left : List Root) (covers_left rest : List TreeCover)
    (start : ℕ) (gates : List Placed) (cover : TreeCover)
    → covers_left ≡ cover ∷ rest
    → CoversPlaced library names used roots covers roots_left covers_left start gates
    → IsReady (length library) cover
next_ready library names used roots covers roots_left covers_left rest start gates cover second
    so_far =
    (subst (AllByRecursion (IsReady (length library))) second so_far.ready).0

pub covers_more : (library : List Gate) (names used : List (List ℕ)) (roots : List Root)
    (covers : List TreeCover) (roots_left roots_rest : List Root)
    (covers_left covers_rest : List TreeCover) (start next : ℕ) (gates after : List Placed)
    (root : Root) (cover : TreeCover) → roots_left ≡ root ∷ roots_rest
    → covers_left ≡ cover ∷ covers_rest
    → (inner : List (List ℕ)) × (own : List Placed) × AreNewTo used start inner next
    × (after ≡ gates ++ own) × IsPlacedCover library names root.name cover inner own
    → CoversPlaced library names used roots covers roots_left covers_left start gates
    → CoversPlaced library names used roots covers roots_rest covers_rest next after
unfolding ArePlaced
covers_more library names used roots covers roots_left roots_rest covers_left covers_rest start next
    gates after root cover first second (inner, own, new, put, is) so_far = record {
      fresh = so_far.fresh ++ inner;
      new = new_more used 0 start next so_far.fresh inner so_far.new new;
      rest = λ later more h.
          both later more (so_far.rest (inner ++ later) (own ++ more) (front later
          more h));
      count =
          let counts : suc (length roots_rest) ≡ suc (length covers_rest) = sym
          (ap (λ (xs : List Root). length xs) first)
          ∙ (so_far.count ∙ ap (λ (xs : List TreeCover). length xs) second) in
          omega (arith, counts);
      ready = (subst (AllByRecursion (IsReady (length library))) second so_far.ready).1;
    }
  where
    made : (later : List (List ℕ)) (more : List Placed)
        → ArePlaced library names roots_rest covers_rest later more
        → ArePlaced library names (root ∷ roots_rest) (cover ∷ covers_rest) (inner ++ later)
        (own ++ more)
    made later more h = (inner, later, own, more, refl, refl, is, h)

    front : (later : List (List ℕ)) (more : List Placed)
        → ArePlaced library names roots_rest covers_rest later more
        → ArePlaced library names roots_left covers_left (inner ++ later) (own ++ more)
    front later more h =
        subst (λ (xs : List Root). ArePlaced library names xs covers_left (inner ++ later)
        (own ++ more)) (sym first)
        (subst (λ (xs : List TreeCover). ArePlaced library names (root ∷ roots_rest) xs
        (inner ++ later) (own ++ more)) (sym second) (made later more h))

    both : (later : List (List ℕ)) (more : List Placed)
        → ArePlaced library names roots covers (so_far.fresh ++ (inner ++ later))
        (gates ++ (own ++ more))
        → ArePlaced library names roots covers ((so_far.fresh ++ inner) ++ later) (after ++ more)
    both later more h =
        let regrouped : gates ++ (own ++ more) ≡ after ++ more = sym (append_assoc gates own more)
        ∙ ap (λ (xs : List Placed). xs ++ more) (sym put) in
        subst (λ (xs : List (List ℕ)). ArePlaced library names roots covers xs (after ++ more))
        (sym (append_assoc so_far.fresh inner later))
        (subst (ArePlaced library names roots covers (so_far.fresh ++ (inner ++ later))) regrouped
        h)

pub covers_all : (library : List Gate) (names used : List (List ℕ)) (roots : List Root)
    (covers : List TreeCover) (roots_left : List Root) (covers_left : List TreeCover) (start : ℕ)
    (gates : List Placed)
    → (roots_left ≡ []) ⊎ (covers_left ≡ [])
    → CoversPlaced library names used roots covers roots_left covers_left start gates
    → (fresh : List (List ℕ)) × AreNew used fresh × ArePlaced library names roots covers fresh gates
unfolding ArePlaced
covers_all library names used roots covers roots_left covers_left start gates either so_far = (
  so_far.fresh,
  (start, so_far.new),
  ended (so_far.rest [] [] (done roots_left covers_left so_far.count either)),
)
  where
    done : (xs : List Root) (ys : List TreeCover) → length xs ≡ length ys → (xs ≡ []) ⊎ (ys ≡ [])
        → ArePlaced library names xs ys [] []
    done [] [] count e = (refl, refl, refl)
    done [] (y ∷ ys) count e = absurd (omega (arith, count))
    done (x ∷ xs) [] count e = absurd (omega (arith, count))
    done (x ∷ xs) (y ∷ ys) count (inl e) = absurd (let off = e in cc)
    done (x ∷ xs) (y ∷ ys) count (inr e) = absurd (let off = e in cc)

    ended : ArePlaced library names roots covers (so_far.fresh ++ []) (gates ++ [])
        → ArePlaced library names roots covers so_far.fresh gates
    ended h =
        subst (λ (xs : List (List ℕ)). ArePlaced library names roots covers xs gates)
        (append-nil so_far.fresh)
        (subst (ArePlaced library names roots covers (so_far.fresh ++ [])) (append-nil gates) h)

-- the gates of a cover are placed over what they drive
pub cover_placed : (library : List Gate) (names used : List (List ℕ)) (root : List ℕ)
    (cover : TreeCover) (start next : ℕ) (driven slice : List (List ℕ)) (gates : List CoverGate)
    (old new : List Placed) → slice ≡ driven → gates ≡ cover.gates
    → (inner : List (List ℕ)) × AreNewTo used start inner next
    × (driven ≡ driven_in cover.root inner root)
    → (own : List Placed) × (new ≡ old ++ own)
    × ArePlacedAs library (name_of names slice) gates slice own
    → (inner : List (List ℕ)) × (own : List Placed) × AreNewTo used start inner next
    × (new ≡ old ++ own) × IsPlacedCover library names root cover inner own
cover_placed library names used root cover start next driven slice gates old new same are
    (inner, fresh, is) (own, put, placed) = (
      inner,
      own,
      fresh,
      put,
      subst (λ (ds : List (List ℕ)). ArePlacedAs library (name_of names ds) cover.gates ds own)
          (same ∙ is)
          (subst (λ (gs : List CoverGate). ArePlacedAs library (name_of names slice) gs slice own)
          are placed),
    )
