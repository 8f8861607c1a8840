use Rattle.std.proofs.Common.{◌≡◌, ℕ, ◌++◌, [], ◌∷◌, List, Err, sym, ap, subst, ◌∙◌}
use Rattle.std.proofs.lemmas.List.{map-append}
use Rattle.std.proofs.lemmas.Result.{err_from_is_err_and}
use Rattle.sis_text.specs.Entries.{entry_at}
use Rattle.blif_models.specs.Files.{lines_at}
use Rattle.blif_models.specs.Models.{model_of, pairs_of}
use Rattle.blif_models.specs.Flat.{Instance, path_word}
use Rattle.blif_models.specs.Made.{signals_in}
use Rattle.blif_models.specs.Instances.{instance_in, frames_in}
use Rattle.blif_models.specs.Makings.{make_all, Makes, own_names, bare_instance}
use Rattle.blif_models.specs.declared.instance.Instance.{Instance as Kept}
use Rattle.blif_models.proofs.made.enter.Goals as goal

pub returns-clause-frames : goal.returns-clause-frames
returns-clause-frames c =
    let line = entry_at c.args.file.now.text c.args.line.now in
    let bare : instance_in c.in_ok-instance.instance ≡ bare_instance c.args.place line =
    c.in_ok-instance.ensures ∙ ap (λ (keys : List (List ℕ)). record { path = path_word (model_of line) c.args.place; pairs = pairs_of line; controls = keys }) c.new-controls.ensures.empty in
    ap frames_in c.in_ok-push.ensures.items
    ∙ map-append instance_in c.args.frames.now.items (c.in_ok-instance.instance ∷ [])
    ∙ ap (λ (one : Instance). frames_in c.args.frames.now.items ++ one ∷ []) bare

pub returns-clause-made : goal.returns-clause-made
returns-clause-made c =
    let line = entry_at c.args.file.now.text c.args.line.now in
    let bare : instance_in c.in_ok-instance.instance ≡ bare_instance c.args.place line =
    c.in_ok-instance.ensures ∙ ap (λ (keys : List (List ℕ)). record { path = path_word (model_of line) c.args.place; pairs = pairs_of line; controls = keys }) c.new-controls.ensures.empty in
    sym (
    ap (λ (frames : List Kept). make_all c.args.made.now (own_names (frames_in frames) (instance_in c.in_ok-instance.instance) c.as_slice-own.result.now)) c.as_slice-around.ensures.value
    ∙ ap (λ (one : Instance). make_all c.args.made.now (own_names (frames_in c.args.frames.now.items) one c.as_slice-own.result.now)) bare
    ∙ ap (λ (signals : List (List ℕ)). make_all c.args.made.now (own_names (frames_in c.args.frames.now.items) (bare_instance c.args.place line) signals))
    (c.as_slice-own.ensures ∙ c.in_ok-signals.ensures ∙ ap (λ (text : List ℕ). signals_in (lines_at text c.args.body.now)) c.text.ensures)
    )
    ∙ c.in_ok-make_own.ensures

pub returns-in_err-make_own-clause-made : goal.returns-in_err-make_own-clause-made
returns-in_err-make_own-clause-made c =
    let p = err_from_is_err_and c.from_residual-in_err-make_own.result c.from_residual-in_err-make_own.ensures.1 in
    let line = entry_at c.args.file.now.text c.args.line.now in
    let bare : instance_in c.in_ok-instance.instance ≡ bare_instance c.args.place line =
    c.in_ok-instance.ensures ∙ ap (λ (keys : List (List ℕ)). record { path = path_word (model_of line) c.args.place; pairs = pairs_of line; controls = keys }) c.new-controls.ensures.empty in
    rw (p.1, p.2)
    (subst (Makes (Err c.in_err-make_own.field-0.0) c.make_own.new.made)
    (ap (λ (frames : List Kept). make_all c.args.made.now (own_names (frames_in frames) (instance_in c.in_ok-instance.instance) c.as_slice-own.result.now)) c.as_slice-around.ensures.value
    ∙ ap (λ (one : Instance). make_all c.args.made.now (own_names (frames_in c.args.frames.now.items) one c.as_slice-own.result.now)) bare
    ∙ ap (λ (signals : List (List ℕ)). make_all c.args.made.now (own_names (frames_in c.args.frames.now.items) (bare_instance c.args.place line) signals))
    (c.as_slice-own.ensures ∙ c.in_ok-signals.ensures ∙ ap (λ (text : List ℕ). signals_in (lines_at text c.args.body.now)) c.text.ensures))
    c.in_err-make_own.ensures)
