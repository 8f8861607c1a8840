-- Cubes and kernels of a table whose rows are a cover, and of the table of a circuit that it is.
use Rattle.std.proofs.Common.{◌≡◌, ◌↔◌, ℕ, Bool, Option, List, [], ◌∷◌, map, length, refl, sym, ap, ap₂, ◌∙◌, subst}
use Rattle.cube_cover.specs.Covers.{Shape}
use Rattle.alg_div.specs.Cubes.{Has}
use Rattle.alg_div.proofs.Lists.{Has-map}
use Rattle.alg_kernel.specs.Kernels.{IsKernel, AreKernels, MoreKernels, rows_in}
use Rattle.alg_kernel.specs.declared.search.KernelFault.{KernelFault}
use Rattle.alg_kernel.specs.declared.search.KernelFault.TheVariants.{KernelLimit, Memory}
use Rattle.net_candidates.specs.Candidates.{cubes_of, IsKernelOf}
use Rattle.net_candidates.specs.Extracting.{HasManyCandidates}
use Rattle.net_candidates.specs.declared.rule.Rule.{Rule}
use Rattle.net_candidates.specs.declared.rule.Rule.TheVariants.{Gkx}
use Rattle.cover_names.specs.Literals.{Cube, NamedCover, sorted_cube}
use Rattle.cover_names.specs.Cubes.{cube_over, cover_over}
use Rattle.net_core.specs.Tables.{places_of, characters_of, named, IsOverInputs}
use Rattle.net_core.specs.declared.table.CoverTable.{CoverTable}
use Rattle.net_core.proofs.Rows.{places_back, all_places_back}
use Rattle.alg_tables.proofs.Quotients.{image_has}
use Rattle.net_candidates.specs.Faults.{fault_of}
use Rattle.net_candidates.specs.Listed.{IsOwn}
use Rattle.net_candidates.specs.declared.fault.ListFault.TheVariants.{ManyKernels}
use Rattle.sis_base.specs.declared.limits.TheConstants.{MAX_KERNELS}

cubes_back : (names : List (List ℕ)) (rows : List (List (Option Bool)))
    → map (λ row. sorted_cube (cube_over names (places_of row))) (map characters_of rows) ≡ map (λ row. sorted_cube (cube_over names row)) rows
cubes_back names [] = refl
cubes_back names (row ∷ rows) =
    ap₂ (λ (cube : Cube) (cubes : List Cube). cube ∷ cubes) (ap (λ (r : List (Option Bool)). sorted_cube (cube_over names r)) (places_back row)) (cubes_back names rows)

pub cubes_named : {R : Type 0} (output : List ℕ) (table : CoverTable R) → map (λ row. sorted_cube (cube_over table.inputs row)) table.cover.rows ≡ cubes_of (named output table)
unfolding named
cubes_named output table = sym (cubes_back table.inputs table.cover.rows)

pub cubes_told : {R : Type 0} (output : List ℕ) (table : CoverTable R) (names : List (List ℕ)) (rows : List (List (Option Bool))) (cubes : List Cube) → names ≡ table.inputs → rows ≡ table.cover.rows
    → cubes ≡ map (λ row. sorted_cube (cube_over names row)) rows → cubes ≡ cubes_of (named output table)
cubes_told output table names rows cubes over among e =
    e ∙ (ap₂ (λ (ns : List (List ℕ)) (rs : List (List (Option Bool))). map (λ row. sorted_cube (cube_over ns row)) rs) over among ∙ cubes_named output table)

-- what holds of the cover's rows over the inputs holds of the columns of their characters, and
-- conversely
moved : {R : Type 0} (table : CoverTable R) → IsOverInputs table → (P : ℕ → List (List (Option Bool)) → Type 0) → P table.cover.width table.cover.rows
    → P (length table.inputs) (map places_of (map characters_of table.cover.rows))
moved table over P k =
    subst (λ (width : ℕ). P width (map places_of (map characters_of table.cover.rows))) over
    (subst (λ (rows : List (List (Option Bool))). P table.cover.width rows) (sym (all_places_back table.cover.rows)) k)

moved_back : {R : Type 0} (table : CoverTable R) → IsOverInputs table → (P : ℕ → List (List (Option Bool)) → Type 0) → P (length table.inputs) (map places_of (map characters_of table.cover.rows))
    → P table.cover.width table.cover.rows
moved_back table over P k =
    subst (λ (width : ℕ). P width table.cover.rows) (sym over)
    (subst (λ (rows : List (List (Option Bool))). P (length table.inputs) rows) (all_places_back table.cover.rows) k)

pub kernels_own : {R : Type 0} (output : List ℕ) (table : CoverTable R) (kernels : List (List (List (Option Bool)))) → IsOverInputs table
    → AreKernels table.cover.width table.cover.rows kernels → (cover : NamedCover) → Has cover (map (cover_over table.inputs) kernels) ↔ IsKernelOf (named output table) cover
unfolding named
kernels_own output table kernels over are cover = (
  λ m.
      let p = image_has (cover_over table.inputs) kernels cover m in
      record {
        rows = p.0;
        kernel = moved table over (λ (width : ℕ) (f : List (List (Option Bool))). IsKernel width f p.0) (are.only p.0 p.1);
        is = p.2;
      },
  λ k.
      subst (λ (other : NamedCover). Has other (map (cover_over table.inputs) kernels)) (sym k.is)
      (Has-map (cover_over table.inputs) k.rows kernels (are.every k.rows (moved_back table over (λ (width : ℕ) (f : List (List (Option Bool))). IsKernel width f k.rows) k.kernel))),
)

pub many_kernels : {R : Type 0} (output : List ℕ) (table : CoverTable R) → IsOverInputs table → MoreKernels MAX_KERNELS table.cover.width table.cover.rows ↔ HasManyCandidates Gkx (named output table)
unfolding named
many_kernels output table over = (moved table over (MoreKernels MAX_KERNELS), moved_back table over (MoreKernels MAX_KERNELS))

-- ---- the result if kernels are asked for

pub gkx_own : {R : Type 0} (rule : Rule) (output : List ℕ) (table : CoverTable R) (names : List (List ℕ)) (covers kernels : List Shape) (made : List NamedCover) → rule ≡ Gkx → IsOverInputs table
    → names ≡ table.inputs → covers ≡ kernels → made ≡ map (cover_over names) (rows_in covers) → AreKernels table.cover.width table.cover.rows (rows_in kernels)
    → (cover : NamedCover) → Has cover made ↔ IsOwn rule (named output table) cover
gkx_own rule output table names covers kernels made asked over same those e are cover =
    subst (λ (r : Rule). Has cover made ↔ IsOwn r (named output table) cover) (sym asked)
    (subst (λ (list : List NamedCover). Has cover list ↔ IsKernelOf (named output table) cover)
    (sym (e ∙ ap₂ (λ (ns : List (List ℕ)) (ks : List Shape). map (cover_over ns) (rows_in ks)) same those))
    (kernels_own output table (rows_in kernels) over are cover))

pub gkx_listable : {R : Type 0} (rule : Rule) (output : List ℕ) (table : CoverTable R) → rule ≡ Gkx → IsOverInputs table → (MoreKernels MAX_KERNELS table.cover.width table.cover.rows → ⊥)
    → HasManyCandidates rule (named output table) → ⊥
gkx_listable rule output table asked over few many =
    few ((many_kernels output table over).1 (subst (λ (r : Rule). HasManyCandidates r (named output table)) asked many))

limit_of : (fault : KernelFault) → fault_of fault ≡ ManyKernels → fault ≡ KernelLimit
limit_of KernelLimit e = refl
limit_of Memory e = absurd cc

pub gkx_many : {R : Type 0} (rule : Rule) (output : List ℕ) (table : CoverTable R) (fault : KernelFault) → rule ≡ Gkx → IsOverInputs table → fault_of fault ≡ ManyKernels
    → (fault ≡ KernelLimit → MoreKernels MAX_KERNELS table.cover.width table.cover.rows) → HasManyCandidates rule (named output table)
gkx_many rule output table fault asked over e many =
    subst (λ (r : Rule). HasManyCandidates r (named output table)) (sym asked) ((many_kernels output table over).0 (many (limit_of fault e)))
