-- Refinement of behaviors is reflexive and transitive, and so is that of circuits.
use Rattle.std.proofs.Common.{◌≡◌, ℕ, Bool, List, [], ◌∷◌, refl, ◌∙◌, sym, subst, length}
use Rattle.std.specs.List.{AllZip, AllByRecursion}
use Rattle.circuit_model.specs.Behaviors.{Behavior, Meets, MeetsAll, RefinesAs}
use Rattle.circuit_model.specs.Runs.{of_circuit, Refines}
use Rattle.circuit_model.specs.declared.circuit.Tri.{Tri}
use Rattle.circuit_model.specs.declared.circuit.Tri.TheVariants.{Zero, One, Free}
use Rattle.circuit_model.specs.declared.circuit.Circuit.{Circuit}

meets-same : (t : Tri) → Meets t t
meets-same Zero = refl
meets-same One = refl
meets-same Free = tt

meets-then : (a b c : Tri) → Meets a b → Meets b c → Meets a c
meets-then Zero b c ab bc = subst (λ x. Meets x c) ab bc
meets-then One b c ab bc = subst (λ x. Meets x c) ab bc
meets-then Free b c ab bc = tt

zip-same : {A : Type 0} (R : A → A → Type 0) → ((a : A) → R a a) → (xs : List A) → AllZip R xs xs
zip-same R h [] = tt
zip-same R h (a ∷ xs) = (h a, zip-same R h xs)

zip-then : {A : Type 0} (R : A → A → Type 0) → ((a b c : A) → R a b → R b c → R a c)
    → (xs ys zs : List A) → AllZip R xs ys → AllZip R ys zs → AllZip R xs zs
zip-then R h [] [] [] p q = tt
zip-then R h [] [] (c ∷ zs) p q = absurd q
zip-then R h [] (b ∷ ys) zs p q = absurd p
zip-then R h (a ∷ xs) [] zs p q = absurd p
zip-then R h (a ∷ xs) (b ∷ ys) [] p q = absurd q
zip-then R h (a ∷ xs) (b ∷ ys) (c ∷ zs) p q = (h a b c p.0 q.0, zip-then R h xs ys zs p.1 q.1)

pub all-meet-same : (rows : List (List Tri)) → MeetsAll rows rows
unfolding MeetsAll
all-meet-same rows = zip-same (AllZip Meets) (zip-same Meets meets-same) rows

all-meet-then : (xs ys zs : List (List Tri)) → MeetsAll xs ys → MeetsAll ys zs → MeetsAll xs zs
unfolding MeetsAll
all-meet-then xs ys zs p q = zip-then (AllZip Meets) (zip-then Meets meets-then) xs ys zs p q

pub behaves-as-itself : (one : Behavior) → RefinesAs one one
behaves-as-itself one = record {
  inputs = refl;
  outputs = refl;
  runs = λ state starts. (state, starts, λ rows wide. all-meet-same _);
}

pub behaves-through : (first second third : Behavior) → RefinesAs first second → RefinesAs second third → RefinesAs first third
behaves-through first second third p q = record {
  inputs = p.inputs ∙ q.inputs;
  outputs = p.outputs ∙ q.outputs;
  runs = λ state starts.
      let (middle, middle_starts, middle_meets) = q.runs state starts in
      let (start, start_starts, start_meets) = p.runs middle middle_starts in (
        start,
        start_starts,
        λ rows wide.
            all-meet-then _ _ _
            (start_meets rows (subst (λ (n : List (List ℕ)). AllByRecursion (λ (row : List Bool). length row ≡ length n) rows) (sym q.inputs) wide))
            (middle_meets rows wide),
      );
}

pub refines-itself : (circuit : Circuit) → Refines circuit circuit
refines-itself circuit = behaves-as-itself (of_circuit circuit)

pub refines-through : (first second third : Circuit) → Refines first second → Refines second third → Refines first third
refines-through first second third = behaves-through (of_circuit first) (of_circuit second) (of_circuit third)
