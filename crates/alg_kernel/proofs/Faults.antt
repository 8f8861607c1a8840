-- Which fault a result can be.
use Rattle.std.proofs.Common.{◌≡◌, ◌∙◌, sym, ap, Ok, Err}
use Rattle.std.specs.Prelude.{Result}
use Rattle.alg_kernel.specs.declared.search.KernelFault.{KernelFault}
use Rattle.alg_kernel.specs.declared.search.KernelFault.TheVariants.{KernelLimit, Memory}

pub ok-no-fault : {T E : Type 0} {x : T} {e : E} → ◌≡◌ {A = Result T E} (Ok x) (Err e) → ⊥
ok-no-fault h = cc

pub memory-no-limit : {T : Type 0} → ◌≡◌ {A = Result T KernelFault} (Err Memory) (Err KernelLimit) → ⊥
memory-no-limit h = cc

pub fault-as : {T S : Type 0} (x y : KernelFault) → x ≡ y → ◌≡◌ {A = Result T KernelFault} (Err x) (Err KernelLimit) → ◌≡◌ {A = Result S KernelFault} (Err y) (Err KernelLimit)
fault-as x y e h = let q : x ≡ KernelLimit = cc in ap (λ (f : KernelFault). Err f) (sym e ∙ q)
