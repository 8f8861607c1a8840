use Rattle.std.proofs.Common.{◌≡◌, List, Vec, Option, Bool, Global, subst, sym}
use Rattle.std.specs.List.{dedup}
use Rattle.std.proofs.lemmas.List.Filters.{dedup_is}
use Rattle.alg_div.specs.Cubes.{row_eq}
use Rattle.alg_div.specs.Steps.{literals_in}
use Rattle.alg_kernel.specs.Kernels.{row_cmp, Ascends}
use Rattle.alg_kernel.specs.Search.{AreSame}
use Rattle.alg_kernel.proofs.Sorted.{sorted-ascends, sorted-same}
use Rattle.alg_kernel.proofs.rows.sort_rows.Goals as goal

pub returns : goal.returns
returns c =
    let left : c.dedup.new.self.items ≡ dedup (λ x y. row_eq x.items y.items) c.sort_unstable.new.self.items = dedup_is (λ x y. row_eq x.items y.items) _ _ c.dedup.ensures.filtered in
    record {
      order = subst (λ (l : List (Vec (Option Bool) Global)). Ascends row_cmp (literals_in l)) (sym left) (sorted-ascends (λ v. v.items) c.sort_unstable.new.self.items c.sort_unstable.ensures.sorted);
      same = subst (λ (l : List (Vec (Option Bool) Global)). AreSame (literals_in c.args.rows.items) (literals_in l)) (sym left) (sorted-same (λ v. v.items) c.args.rows.items c.sort_unstable.new.self.items c.sort_unstable.ensures.permutation);
    }
