use Rattle.std.proofs.Common.{◌++◌, ℕ, List, sym, ap, ◌∙◌}
use Rattle.std.proofs.lemmas.List.{append-nil}
use Rattle.std.proofs.lemmas.Result.{IfOk-equal}
use Rattle.blif_lines.specs.Reader.{clocks_in}
use Rattle.blif_models.specs.Files.{lines_at}
use Rattle.blif_models.proofs.FirstLines.{within_marks, marked, clocks_true, clocks_false}
use Rattle.blif_models.proofs.first_model.add_used.Goals as goal

pub bounds-used-place : goal.bounds-used-place
bounds-used-place c = within_marks c.args.file.now.models c.args.used.now c.args.place c.requires.used c.requires.within

pub returns-then-is_used : goal.returns-then-is_used
returns-then-is_used c =
    let models = c.args.file.now.models in
    IfOk-equal c.add_clocks.result c.add_clocks.new.names _ _ c.add_clocks.ensures
    (ap (λ (rest : List (List ℕ)). c.args.names.now ++ rest)
    (ap (λ (text : List ℕ). clocks_in (lines_at text c.body.result.now)) c.text.ensures
    ∙ ap clocks_in c.body.ensures
    ∙ sym (clocks_true models c.args.place (sym (marked models c.args.used.now c.args.place _ c.requires.used c.requires.within) ∙ c.if-is_used.true))))

pub returns : goal.returns
returns c =
    let models = c.args.file.now.models in
    sym (append-nil c.args.names.now)
    ∙ ap (λ (rest : List (List ℕ)). c.args.names.now ++ rest)
    (sym (clocks_false models c.args.place (sym (marked models c.args.used.now c.args.place _ c.requires.used c.requires.within) ∙ c.if-is_used.false)))
