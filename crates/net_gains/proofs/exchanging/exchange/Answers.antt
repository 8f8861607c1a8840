use Rattle.std.proofs.Common.{not, map, sym, ap, ◌∙◌, subst}
use Rattle.std.proofs.lemmas.Result.{on_ok_weaker}
use Rattle.circuit_model.specs.Names.{has}
use Rattle.net_gains.specs.Totals.{total_of, AreCubes}
use Rattle.net_gains.proofs.Exchanged.{gone_allowed, exchanged}
use Rattle.net_gains.proofs.Parted.{cubes_kept}
use Rattle.net_gains.proofs.exchanging.exchange.Goals as goal

pub note_with-requires-clause-cubes : goal.note_with-requires-clause-cubes
note_with-requires-clause-cubes c =
    subst AreCubes (sym (ap (map (λ cube. cube.items)) c.as_slice-gone.ensures.value ∙ c.in_ok-parts.ensures.gone)) (cubes_kept (λ cube. not (has (map (λ cube. cube.items) c.args.new.now) cube)) (map (λ cube. cube.items) c.args.old.now) c.requires.old)

pub note_with-requires-clause-others : goal.note_with-requires-clause-others
note_with-requires-clause-others c =
    subst AreCubes (sym (ap (map (λ cube. cube.items)) c.as_slice-kept.ensures.value ∙ c.in_ok-parts.ensures.kept)) (cubes_kept (has (map (λ cube. cube.items) c.args.new.now)) (map (λ cube. cube.items) c.args.old.now) c.requires.old)

pub note_with-requires-clause-partners : goal.note_with-requires-clause-partners
note_with-requires-clause-partners c =
    subst AreCubes (sym (ap (map (λ cube. cube.items)) c.as_slice-come.ensures.value ∙ c.in_ok-parts.ensures.come)) (cubes_kept (λ cube. not (has (map (λ cube. cube.items) c.args.old.now) cube)) (map (λ cube. cube.items) c.args.new.now) c.requires.new)

pub note_with-requires-clause-allowed : goal.note_with-requires-clause-allowed
note_with-requires-clause-allowed c =
    gone_allowed (map (λ cube. cube.items) c.args.old.now) (map (λ cube. cube.items) c.args.new.now) (map (λ cube. cube.items) c.as_slice-gone.result.now) (map (λ cube. cube.items) c.as_slice-come.result.now) (map (λ cube. cube.items) c.as_slice-kept.result.now) c.requires.old c.requires.old_once
    (subst AreCubes (sym (ap (map (λ cube. cube.items)) c.as_slice-gone.ensures.value ∙ c.in_ok-parts.ensures.gone)) (cubes_kept (λ cube. not (has (map (λ cube. cube.items) c.args.new.now) cube)) (map (λ cube. cube.items) c.args.old.now) c.requires.old))
    (ap (map (λ cube. cube.items)) c.as_slice-gone.ensures.value ∙ c.in_ok-parts.ensures.gone) (ap (map (λ cube. cube.items)) c.as_slice-kept.ensures.value ∙ c.in_ok-parts.ensures.kept) (total_of c.args.totals.now) c.requires.enough

pub note_with-requires-2-clause-cubes : goal.note_with-requires-2-clause-cubes
note_with-requires-2-clause-cubes c =
    subst AreCubes (sym (ap (map (λ cube. cube.items)) c.as_slice-come.ensures.value ∙ c.in_ok-parts.ensures.come)) (cubes_kept (λ cube. not (has (map (λ cube. cube.items) c.args.old.now) cube)) (map (λ cube. cube.items) c.args.new.now) c.requires.new)

pub note_with-requires-2-clause-others : goal.note_with-requires-2-clause-others
note_with-requires-2-clause-others c =
    subst AreCubes (sym (ap (map (λ cube. cube.items)) c.as_slice-kept.ensures.value ∙ c.in_ok-parts.ensures.kept)) (cubes_kept (has (map (λ cube. cube.items) c.args.new.now)) (map (λ cube. cube.items) c.args.old.now) c.requires.old)

pub note_with-requires-2-clause-partners : goal.note_with-requires-2-clause-partners
note_with-requires-2-clause-partners c =
    subst AreCubes (sym (ap (map (λ cube. cube.items)) c.as_slice-gone.ensures.value ∙ c.in_ok-parts.ensures.gone)) (cubes_kept (λ cube. not (has (map (λ cube. cube.items) c.args.new.now) cube)) (map (λ cube. cube.items) c.args.old.now) c.requires.old)

pub returns : goal.returns
returns c =
    on_ok_weaker c.note_with-2.result
    (λ turned cover.
    exchanged (map (λ cube. cube.items) c.args.old.now) (map (λ cube. cube.items) c.args.new.now) (map (λ cube. cube.items) c.as_slice-gone.result.now) (map (λ cube. cube.items) c.as_slice-come.result.now) (map (λ cube. cube.items) c.as_slice-kept.result.now) c.requires.old c.requires.old_once
    (subst AreCubes (sym (ap (map (λ cube. cube.items)) c.as_slice-gone.ensures.value ∙ c.in_ok-parts.ensures.gone)) (cubes_kept (λ cube. not (has (map (λ cube. cube.items) c.args.new.now) cube)) (map (λ cube. cube.items) c.args.old.now) c.requires.old))
    (ap (map (λ cube. cube.items)) c.as_slice-gone.ensures.value ∙ c.in_ok-parts.ensures.gone) (ap (map (λ cube. cube.items)) c.as_slice-kept.ensures.value ∙ c.in_ok-parts.ensures.kept) c.requires.new c.requires.new_once
    (subst AreCubes (sym (ap (map (λ cube. cube.items)) c.as_slice-come.ensures.value ∙ c.in_ok-parts.ensures.come)) (cubes_kept (λ cube. not (has (map (λ cube. cube.items) c.args.old.now) cube)) (map (λ cube. cube.items) c.args.new.now) c.requires.new))
    (ap (map (λ cube. cube.items)) c.as_slice-come.ensures.value ∙ c.in_ok-parts.ensures.come) (total_of c.args.totals.now) (total_of c.note_with.new.totals) (total_of c.note_with-2.new.totals) c.in_ok-note_with.ensures turned cover)
    c.note_with-2.ensures
