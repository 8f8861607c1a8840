-- The fault of a list that is too long has the name of the first table that has one, and there is
-- none if all steps pass.
use Rattle.std.proofs.Common.{◌≡◌, ℕ, true, false, List, [], ◌∷◌, inl, inr, sym, ◌∙◌}
use Rattle.circuit_model.specs.declared.circuit.Circuit.{Circuit}
use Rattle.sdc_simplify.specs.Simplified.{with_minimum, is_refused}
use Rattle.odc_simplify.specs.Full.{is_dont_care}
use Rattle.odc_simplify.specs.Turns.{IsFaultAlong, PassAlong}
use Rattle.odc_simplify.specs.declared.fault.FullFault.TheVariants.{CubeLimit}

not_both : (circuit : Circuit) (name : List ℕ) → is_refused circuit name ≡ true
    → is_refused circuit name ≡ false → ⊥
not_both circuit name is not = let both : true ≡ false = sym is ∙ not in cc

pub first_long : (limit : ℕ) (circuit : Circuit) (names : List (List ℕ)) (one other : List ℕ)
    → IsFaultAlong limit circuit names (CubeLimit one)
    → IsFaultAlong limit circuit names (CubeLimit other) → one ≡ other
unfolding IsFaultAlong
first_long limit circuit [] one other h k = absurd h
first_long limit circuit (name ∷ names) one other (inl (is, long)) (inl (same, too)) = is ∙ sym same
first_long limit circuit (name ∷ names) one other (inl (is, long)) (inr (passes, later)) =
    absurd (not_both circuit name long passes.short)
first_long limit circuit (name ∷ names) one other (inr (passes, later)) (inl (is, long)) =
    absurd (not_both circuit name long passes.short)
first_long limit circuit (name ∷ names) one other (inr (passes, later)) (inr (also, more)) =
    first_long limit (with_minimum is_dont_care circuit name) names one other later more

pub none_long : (limit : ℕ) (circuit : Circuit) (names : List (List ℕ)) (blamed : List ℕ)
    → PassAlong limit circuit names → IsFaultAlong limit circuit names (CubeLimit blamed) → ⊥
unfolding IsFaultAlong PassAlong
none_long limit circuit [] blamed pass fault = absurd fault
none_long limit circuit (name ∷ names) blamed (passes, later) (inl (is, long)) =
    not_both circuit name long passes.short
none_long limit circuit (name ∷ names) blamed (passes, later) (inr (also, more)) =
    none_long limit (with_minimum is_dont_care circuit name) names blamed later more
