-- A set of packed vertices, as the list of the vertices that they are.
use Rattle.std.proofs.Common.{◌≡◌, ℕ, zero, suc, ◌<◌, Bool, true, false, if◌then◌else◌, Some, List, [], ◌∷◌, ◌++◌, map, length, slice_get, refl, sym, ap, ◌∙◌, inl, inr, arith}
use Rattle.std.specs.Prelude.{◌==◌}
use Rattle.std.specs.List.{list_any}
use Rattle.std.specs.Option.{option_map}
use Rattle.std.proofs.lemmas.Bool.{false≢true, and_from, and_parts, or_parts}
use Rattle.std.proofs.lemmas.List.{map-append}
use Rattle.std.proofs.lemmas.Option.{slice_get-map, get_or_from_slice_get}
use borrow.Author.Tests.{eqb-true, eq-eqb}
use Rattle.subject_tree.specs.declared.arena.Vertex.{Vertex}
use Rattle.subject_tree.specs.declared.arena.Vertex.TheVariants.{Leaf}
use Rattle.subject_tree.specs.declared.packing.Packed.{Packed}
use Rattle.subject_tree.specs.contracts.packing.PackedPartialEq.TheImpl.{eq-value}
use Rattle.subject_tree.specs.Arenas.{vertex_at}
use Rattle.subject_tree.specs.Packing.{vertex_by, unpacked}
use Rattle.subject_tree.proofs.Arenas.{IsPut}

-- the test that a set of packed vertices makes
abbrev pub same_test : Packed → Packed → Bool
same_test p q = eq-value.it p q

packed_of : (m n i j : ℕ) → m ≡ i → n ≡ j → unpacked (record { first = m; second = n }) ≡ unpacked (record { first = i; second = j })
packed_of m n i j p q = ap (λ (k : ℕ). unpacked (record { first = k; second = n })) p ∙ ap (λ (k : ℕ). unpacked (record { first = i; second = k })) q

-- packed vertices that pass the test are one vertex, and each passes it with itself
pub same_vertex : (p q : Packed) → same_test p q ≡ true → unpacked p ≡ unpacked q
same_vertex p q e =
    let (one, other) = and_parts _ _ e in
    packed_of p.first p.second q.first q.second (eqb-true p.first q.first one) (eqb-true p.second q.second other)

-- where two packed vertices are one vertex, their numbers are the same
same_numbers : (a b c d : Bool) (m n i j : ℕ) → (m == 4294967295) ≡ a → (n == 4294967295) ≡ b → (i == 4294967295) ≡ c → (j == 4294967295) ≡ d
    → vertex_by a b m n ≡ vertex_by c d i j → (m ≡ i) × (n ≡ j)
same_numbers true b true d m n i j p q r s e = (eqb-true m 4294967295 p ∙ sym (eqb-true i 4294967295 r), cc)
same_numbers true b false true m n i j p q r s e = cc
same_numbers true b false false m n i j p q r s e = cc
same_numbers false true true d m n i j p q r s e = cc
same_numbers false false true d m n i j p q r s e = cc
same_numbers false true false true m n i j p q r s e = (cc, eqb-true n 4294967295 q ∙ sym (eqb-true j 4294967295 s))
same_numbers false true false false m n i j p q r s e = cc
same_numbers false false false true m n i j p q r s e = cc
same_numbers false false false false m n i j p q r s e = (cc, cc)

one_passes : (p q : Packed) → unpacked p ≡ unpacked q → same_test p q ≡ true
one_passes p q e =
    let (one, other) = same_numbers _ _ _ _ p.first p.second q.first q.second refl refl refl refl e in
    and_from _ _ (eq-eqb p.first q.first one) (eq-eqb p.second q.second other)

-- where none of a set passes, none is the vertex
none_there : (p : Packed) (v : Vertex) (ps : List Packed) (n : ℕ) → unpacked p ≡ v → list_any (same_test p) ps ≡ false → n < length (map unpacked ps) → vertex_at (map unpacked ps) n ≡ v → ⊥
none_there p v [] n is none lt here = absurd (omega (arith, lt))
none_there p v (q ∷ ps) zero is none lt here =
    false≢true (sym (or_parts (same_test p q) (list_any (same_test p) ps) none).0 ∙ one_passes p q (is ∙ sym here))
none_there p v (q ∷ ps) (suc n) is none lt here =
    none_there p v ps n is (or_parts (same_test p q) (list_any (same_test p) ps) none).1 (omega (arith, lt)) here

pub packed-put : (old new : List Packed) (p : Packed) (v : Vertex) → unpacked p ≡ v → new ≡ (if list_any (same_test p) old then old else old ++ p ∷ []) → IsPut (map unpacked old) (map unpacked new) v
packed-put old new p v is keys = cases (list_any (same_test p) old) refl keys
  where
    cases : (b : Bool) → list_any (same_test p) old ≡ b → new ≡ (if b then old else old ++ p ∷ []) → IsPut (map unpacked old) (map unpacked new) v
    cases true e put = inl (ap (map unpacked) put)
    cases false e put = inr (
      ap (map unpacked) put ∙ (map-append unpacked old (p ∷ []) ∙ ap (λ (u : Vertex). map unpacked old ++ u ∷ []) is),
      λ n lt here. none_there p v old n is e lt here,
    )

-- what stands at a number of a set
pub packed-at : (ps : List Packed) (q : Packed) (number : ℕ) → slice_get ps number ≡ Some q → slice_get (map unpacked ps) number ≡ Some (unpacked q)
packed-at ps q number at = slice_get-map unpacked ps number ∙ ap (option_map unpacked) at

pub packed-same : (ps : List Packed) (p q : Packed) (v : Vertex) (number : ℕ) → unpacked p ≡ v → slice_get ps number ≡ Some q → same_test p q ≡ true → slice_get (map unpacked ps) number ≡ Some v
packed-same ps p q v number is at same = packed-at ps q number at ∙ ap (λ (u : Vertex). Some u) (sym (same_vertex p q same) ∙ is)

pub packed-vertex : (ps : List Packed) (q : Packed) (number : ℕ) → slice_get ps number ≡ Some q → unpacked q ≡ vertex_at (map unpacked ps) number
packed-vertex ps q number at = sym (get_or_from_slice_get (map unpacked ps) number (unpacked q) (Leaf 0) (packed-at ps q number at))
