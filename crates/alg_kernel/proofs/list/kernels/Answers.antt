use Rattle.std.proofs.Common.{◌≡◌, ℕ, ◌<◌, ◌≤◌, List, [], Option, Bool, length, subst, sym, ap, ◌∙◌, arith}
use Rattle.std.proofs.lemmas.List.{length-map}
use Rattle.std.proofs.lemmas.Result.{err_from_is_err_and}
use Rattle.sis_base.specs.Rows.{HasWidth}
use Rattle.cube_cover.specs.Covers.{Shape}
use Rattle.alg_div.specs.Cubes.{Has}
use Rattle.alg_div.specs.Steps.{literals_in}
use Rattle.alg_kernel.specs.Kernels.{AreKernels, rows_in}
use Rattle.alg_kernel.specs.Search.{kernels_in, AreSame, AreFound}
use Rattle.alg_kernel.proofs.Bridge.{all-kernels, more-kernels, not-more, same-wide, found-wide, no-kernels, found-moved, more-moved}
use Rattle.alg_kernel.proofs.Faults.{ok-no-fault, fault-as}
use Rattle.alg_kernel.proofs.list.kernels.Goals as goal
use Rattle.sis_base.specs.declared.limits.TheConstants.{MAX_KERNELS}

pub search-requires : goal.search-requires
search-requires g c =
    let w : ℕ = c.args.f.now.width in
    let f : List (List (Option Bool)) = c.args.f.now.rows in
    let r : List (List (Option Bool)) = literals_in c.sort_rows-rows.result.items in
    let width : c.width-width.result ≡ w = c.width-width.ensures in
    let same : AreSame f r = subst (λ (x : List (List (Option Bool))). AreSame x r) (c.in_ok-all_literals_of.ensures ∙ c.rows.ensures.items) c.sort_rows-rows.ensures.same in
    let wide : HasWidth w r = same-wide w f r same c.rows.ensures.widths in
    record {
      width = subst (λ (n : ℕ). HasWidth n (literals_in c.as_slice.result.now)) (sym width) (subst (HasWidth w) (ap literals_in (sym c.as_slice.ensures.value)) wide);
      two = omega (arith, c.len.ensures, c.if-len-lt2.false, c.as_slice.ensures.len);
    }

pub covers_of-requires : goal.covers_of-requires
covers_of-requires g c =
    let w : ℕ = c.args.f.now.width in
    let f : List (List (Option Bool)) = c.args.f.now.rows in
    let r : List (List (Option Bool)) = literals_in c.sort_rows-rows.result.items in
    let width : c.width-width.result ≡ w = c.width-width.ensures in
    let same : AreSame f r = subst (λ (x : List (List (Option Bool))). AreSame x r) (c.in_ok-all_literals_of.ensures ∙ c.rows.ensures.items) c.sort_rows-rows.ensures.same in
    let wide : HasWidth w r = same-wide w f r same c.rows.ensures.widths in
    let found : AreFound w r (kernels_in c.in_ok-found.found.items) = found-moved _ w _ r _ width (ap literals_in c.as_slice.ensures.value) c.in_ok-found.ensures.found in
    λ kernel m. subst (λ (n : ℕ). HasWidth n kernel) (sym width) (found-wide w r kernel wide (found.only kernel (subst (λ (l : List _). Has kernel (kernels_in l)) c.as_slice-2.ensures.value m)))

pub returns-then-len-lt2 : goal.returns-then-len-lt2
returns-then-len-lt2 g c =
    let w : ℕ = c.args.f.now.width in
    let f : List (List (Option Bool)) = c.args.f.now.rows in
    let r : List (List (Option Bool)) = literals_in c.sort_rows-rows.result.items in
    let width : c.width-width.result ≡ w = c.width-width.ensures in
    let same : AreSame f r = subst (λ (x : List (List (Option Bool))). AreSame x r) (c.in_ok-all_literals_of.ensures ∙ c.rows.ensures.items) c.sort_rows-rows.ensures.same in
    let wide : HasWidth w r = same-wide w f r same c.rows.ensures.widths in
    let few : length r < 2 = omega (arith, c.len.ensures, c.if-len-lt2.true, length-map c.sort_rows-rows.result.items (λ v. v.items)) in
    let none : AreKernels w f (rows_in c.new.result.items) = subst (λ (l : List Shape). AreKernels w f (rows_in l)) (sym c.new.ensures.items) (all-kernels w f r [] same wide c.sort_rows-rows.ensures.order (no-kernels w r few)) in
    let room : length c.new.result.items ≤ MAX_KERNELS = omega (arith, ap (λ (l : List Shape). length l) c.new.ensures.items) in
    record {
      kernels = none;
      widths = λ kernel m. absurd (subst (λ (l : List Shape). Has kernel l) c.new.ensures.items m);
      room = room;
      refused = not-more MAX_KERNELS w f (rows_in c.new.result.items) none (omega (arith, room, length-map c.new.result.items (λ (s : Shape). s.rows)));
      over = λ e. absurd (ok-no-fault e);
    }

pub returns : goal.returns
returns g c =
    let w : ℕ = c.args.f.now.width in
    let f : List (List (Option Bool)) = c.args.f.now.rows in
    let r : List (List (Option Bool)) = literals_in c.sort_rows-rows.result.items in
    let width : c.width-width.result ≡ w = c.width-width.ensures in
    let same : AreSame f r = subst (λ (x : List (List (Option Bool))). AreSame x r) (c.in_ok-all_literals_of.ensures ∙ c.rows.ensures.items) c.sort_rows-rows.ensures.same in
    let wide : HasWidth w r = same-wide w f r same c.rows.ensures.widths in
    let found : AreFound w r (kernels_in c.in_ok-found.found.items) = found-moved _ w _ r _ width (ap literals_in c.as_slice.ensures.value) c.in_ok-found.ensures.found in
    let rows : kernels_in c.in_ok-found.found.items ≡ rows_in c.in_ok-made.made.items = ap kernels_in (sym c.as_slice-2.ensures.value) ∙ sym c.in_ok-made.ensures.rows in
    let all : AreKernels w f (rows_in c.in_ok-made.made.items) = subst (AreKernels w f) rows (all-kernels w f r (kernels_in c.in_ok-found.found.items) same wide c.sort_rows-rows.ensures.order found) in
    let count : length (rows_in c.in_ok-made.made.items) ≤ MAX_KERNELS = subst (λ (l : List (List (List (Option Bool)))). length l ≤ MAX_KERNELS) rows c.in_ok-found.ensures.room in
    record {
      kernels = all;
      widths = λ kernel m. c.in_ok-made.ensures.widths kernel m ∙ width;
      room = omega (arith, count, length-map c.in_ok-made.made.items (λ (s : Shape). s.rows));
      refused = not-more MAX_KERNELS w f (rows_in c.in_ok-made.made.items) all count;
      over = λ e. absurd (ok-no-fault e);
    }

pub returns-in_err-found-clause-over : goal.returns-in_err-found-clause-over
returns-in_err-found-clause-over g c =
    let w : ℕ = c.args.f.now.width in
    let f : List (List (Option Bool)) = c.args.f.now.rows in
    let r : List (List (Option Bool)) = literals_in c.sort_rows-rows.result.items in
    let width : c.width-width.result ≡ w = c.width-width.ensures in
    let same : AreSame f r = subst (λ (x : List (List (Option Bool))). AreSame x r) (c.in_ok-all_literals_of.ensures ∙ c.rows.ensures.items) c.sort_rows-rows.ensures.same in
    let wide : HasWidth w r = same-wide w f r same c.rows.ensures.widths in
    let p = err_from_is_err_and c.from_residual-in_err-found.result c.from_residual-in_err-found.ensures.1 in
    λ e. more-kernels w f r same wide c.sort_rows-rows.ensures.order (more-moved _ w _ r width (ap literals_in c.as_slice.ensures.value) (c.in_err-found.ensures.over (fault-as p.0 c.in_err-found.field-0.0 p.2 (sym p.1 ∙ e))))
