-- What holds of the exact result holds of what a call returns.
use Rattle.std.proofs.Common.{◌≡◌, Result, Ok, Err, IfOk, sym, subst}

pub exact_law : {A E : Type 0} (P : A → Type 0) (exact : A) (r : Result A E) → P exact → IfOk r (λ v. v ≡ exact) → IfOk r P
exact_law P exact (Ok v) p e = subst P (sym e) p
exact_law P exact (Err x) p e = tt
