use Rattle.std.proofs.Common.{◌≡◌, List, [], ◌∷◌, ◌++◌, Option, Bool, take, inl, inr, subst, sym, ap, ◌∙◌}
use Rattle.std.proofs.lemmas.List.{map_push}
use Rattle.sis_base.specs.Rows.{HasWidth}
use Rattle.cube_cover.specs.Covers.{Shape}
use Rattle.alg_div.specs.Cubes.{Has}
use Rattle.alg_div.specs.Steps.{literals_in}
use Rattle.alg_div.proofs.Lists.{has-read, map-take, Has-append}
use Rattle.alg_kernel.specs.Kernels.{rows_in}
use Rattle.alg_kernel.specs.Search.{kernels_in}
use Rattle.alg_kernel.proofs.list.covers_of.Goals as goal

pub cover_of-requires : goal.cover_of-requires
cover_of-requires g c =
    subst (λ (l : List _). HasWidth c.args.width (literals_in l)) (sym c.as_slice.ensures.value)
    (c.requires (literals_in c.kernel-item.result.items) (has-read (λ k. literals_in k.items) c.args.kernels.now c.loop-kernel.kernel-index c.kernel-item.result c.loop-kernel-test.true c.kernel-item.is))

pub loop-kernel-preserved : goal.loop-kernel-preserved
loop-kernel-preserved g c =
    let made : Shape = c.in_ok-cover_of.field-0 in
    let rows : made.rows ≡ literals_in c.kernel-item.result.items = ap (λ (s : Shape). s.rows) c.in_ok-cover_of.ensures ∙ ap literals_in c.as_slice.ensures.value in
    record {
      rows = ap rows_in c.in_ok-push.ensures.items ∙ map_push (λ (s : Shape). s.rows) c.loop-kernel.made.items made ∙ ap (λ (l : List (List (List (Option Bool)))). l ++ made.rows ∷ []) c.loop-kernel.invariant.rows
          ∙ ap (λ (k : List (List (Option Bool))). kernels_in (take c.loop-kernel.kernel-index c.args.kernels.now) ++ k ∷ []) rows
          ∙ sym (map-take (λ k. literals_in k.items) c.args.kernels.now c.loop-kernel.kernel-index c.kernel-item.result c.loop-kernel-test.true c.kernel-item.is);
      widths = λ cover m. elim (Has-append cover c.loop-kernel.made.items (made ∷ []) (subst (λ (l : List Shape). Has cover l) c.in_ok-push.ensures.items m)) as (λ _. cover.width ≡ c.args.width) [
        | inl a ↦ c.loop-kernel.invariant.widths cover a
        | inr b ↦ elim b as (λ _. cover.width ≡ c.args.width) [ inl e ↦ ap (λ (s : Shape). s.width) (e ∙ c.in_ok-cover_of.ensures) | inr n ↦ absurd n ]
      ];
    }
