-- What a library lacks, by the patterns that are listed for its gates.
use Rattle.std.proofs.Common.{◌≡◌, ℕ, zero, suc, ◌||◌, Bool, true, false, Some, List, [], ◌∷◌, map}
use Rattle.std.proofs.Common.{refl, sym, ◌∙◌, ap, subst}
use Rattle.std.specs.Prelude.{slice_get, Result, Ok, Err}
use Rattle.std.specs.List.{list_any}
use Rattle.std.proofs.lemmas.Bool.{false≢true}
use Rattle.subject_tree.specs.Trees.{Tree}
use Rattle.subject_tree.specs.Arenas.{tree_at}
use Rattle.subject_tree.specs.Tables.{trees_of}
use Rattle.subject_tree.specs.declared.arena.Vertex.{Vertex}
use Rattle.genlib_expr.specs.Formula.{formula_of}
use Rattle.genlib_format.specs.declared.gate.Gate.{Gate}
use Rattle.pattern_set.specs.Cells.{IsUsedPattern, lists_some, has_some}
use Rattle.pattern_set.specs.Cells.{lack_of}
use Rattle.pattern_set.specs.declared.cells.PatternGate.{PatternGate}
use Rattle.pattern_set.specs.declared.cells.PatternFault.{PatternFault}
use Rattle.pattern_set.specs.declared.cells.PatternFault.TheVariants.{NoInverter, NoNand}
use Rattle.tree_cover.specs.Listed.{HasPatterns, HavePatterns}
use Rattle.tree_cover.proofs.Choosing.{contains_get, get_contains}
use Rattle.tree_cover.proofs.Open.{get_all}
use Rattle.tree_cover.proofs.Reaching.{some_lists}
use Rattle.map_net.specs.Covering.{HasPattern}

any_from_get : {A : Type 0} (test : A → Bool) (xs : List A) (i : ℕ) (x : A)
    → slice_get xs i ≡ Some x → test x ≡ true → list_any test xs ≡ true
any_from_get test [] i x at is = absurd (let off = at in cc)
any_from_get {A} test (y ∷ ys) zero x at is = front (test y) (ap test same ∙ is)
  where
    same : y ≡ x
    same = let off = at in cc

    front : (b : Bool) → b ≡ true → (b || list_any test ys) ≡ true
    front true e = refl
    front false e = absurd (false≢true e)
any_from_get test (y ∷ ys) (suc i) x at is = behind (test y) (any_from_get test ys i x at is)
  where
    behind : (b : Bool) → list_any test ys ≡ true → (b || list_any test ys) ≡ true
    behind true e = refl
    behind false e = e

any_map : {A B : Type 0} (f : A → B) (test : B → Bool) (xs : List A)
    → list_any test (map f xs) ≡ list_any (λ x. test (f x)) xs
any_map f test [] = refl
any_map f test (x ∷ xs) = ap (λ b. test (f x) || b) (any_map f test xs)

-- a pattern of a used gate is listed
pub pattern_found : (test : Tree ℕ
    → Bool) (shapes : List Vertex) (library : List Gate) (gates : List PatternGate)
    → HavePatterns shapes library gates → HasPattern test library
    → has_some test shapes gates ≡ true
pattern_found test shapes library gates have (gate, among, t, used, passes) = let (i, at) =
    contains_get gate library among in go library gates have i at
  where
    listed : (made : PatternGate) → HasPatterns shapes gate made
        → lists_some test shapes made ≡ true
    listed made by =
        let (k, there) = contains_get t (trees_of shapes made.patterns) (by.patterns.all t used) in
        sym (any_map (tree_at shapes) test made.patterns)
        ∙ any_from_get test (trees_of shapes made.patterns) k t there passes

    front : (b c : Bool) → b ≡ true → (b || c) ≡ true
    front true c e = refl
    front false c e = absurd (false≢true e)

    behind : (b c : Bool) → c ≡ true → (b || c) ≡ true
    behind true c e = refl
    behind false c e = e

    go : (gs : List Gate) (ms : List PatternGate) → HavePatterns shapes gs ms → (i : ℕ)
        → slice_get gs i ≡ Some gate → has_some test shapes ms ≡ true
    go [] ms have i at = absurd (let off = at in cc)
    go (g ∷ gs) [] have i at = absurd have
    go (g ∷ gs) (m ∷ ms) have zero at =
        let same : g ≡ gate = let off = at in cc in
        front (lists_some test shapes m) _ (listed m (subst (λ (x : Gate). HasPatterns shapes x m)
        same have.0))
    go (g ∷ gs) (m ∷ ms) have (suc i) at = behind (lists_some test shapes m) _
        (go gs ms have.1 i at)

-- what is listed is a pattern of a used gate
pub found_pattern : (test : Tree ℕ
    → Bool) (shapes : List Vertex) (library : List Gate) (gates : List PatternGate)
    → HavePatterns shapes library gates → has_some test shapes gates ≡ true
    → HasPattern test library
found_pattern test shapes library gates have some =
    let found = some_lists test shapes gates some in
    let (gate, at, by) = zipped library gates have found.place found.gate found.there in
    let (k, there) = contains_get found.pattern (trees_of shapes found.gate.patterns) found.listed
    in (
      gate,
      get_contains gate library found.place at,
      found.pattern,
      get_all (IsUsedPattern (formula_of gate.expr)) (trees_of shapes found.gate.patterns) k
          found.pattern by.patterns.listed there,
      found.passes,
    )
  where
    zipped : (gs : List Gate) (ms : List PatternGate) → HavePatterns shapes gs ms
        → (i : ℕ) (made : PatternGate) → slice_get ms i ≡ Some made
        → (gate : Gate) × (slice_get gs i ≡ Some gate) × HasPatterns shapes gate made
    zipped [] [] have i made at = absurd (let off = at in cc)
    zipped [] (m ∷ ms) have i made at = absurd have
    zipped (g ∷ gs) [] have i made at = absurd have
    zipped (g ∷ gs) (m ∷ ms) have zero made at = let same : m ≡ made = let off = at in cc in
        (g, refl, subst (HasPatterns shapes g) same have.0)
    zipped (g ∷ gs) (m ∷ ms) have (suc i) made at = zipped gs ms have.1 i made at

abbrev lack : Result (Unit {0}) PatternFault → Type 0
lack (Ok done) = ⊥
lack (Err fault) = Unit {0}

abbrev first_lack : Result (Unit {0}) PatternFault → Type 0
first_lack (Ok done) = ⊥
first_lack (Err NoInverter) = Unit {0}
first_lack (Err NoNand) = ⊥

-- nothing is lacking
pub lacks_nothing : (inverter nand : Bool) → lack_of inverter nand ≡ Ok tt
    → (inverter ≡ true) × (nand ≡ true)
lacks_nothing true true e = (refl, refl)
lacks_nothing true false e = absurd (subst lack e tt)
lacks_nothing false nand e = absurd (subst lack e tt)

pub lacks_inverter : (inverter nand : Bool) → lack_of inverter nand ≡ Err NoInverter
    → inverter ≡ false
lacks_inverter false nand e = refl
lacks_inverter true true e = absurd (subst lack (sym e) tt)
lacks_inverter true false e = absurd (subst first_lack (sym e) tt)

pub lacks_nand : (inverter nand : Bool) → lack_of inverter nand ≡ Err NoNand
    → (inverter ≡ true) × (nand ≡ false)
lacks_nand true false e = (refl, refl)
lacks_nand true true e = absurd (subst lack (sym e) tt)
lacks_nand false nand e = absurd (subst first_lack e tt)
