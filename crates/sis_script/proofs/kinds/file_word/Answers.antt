use Rattle.std.proofs.Common.{sym, ◌∙◌}
use Rattle.sis_script.proofs.ScriptWords.{file_text, no_file_text}
use Rattle.sis_script.proofs.kinds.file_word.Goals as goal

pub returns-in_ok-new-in-Ok : goal.returns-in_ok-new-in-Ok
returns-in_ok-new-in-Ok c =
    file_text _ _ (sym c.if-begins_with_dash.ensures) c.in-Ok.ensures.cases.1 (c.in_ok-new-in-Ok.ensures ∙ c.in-Ok.ensures.cases.0)

pub returns-in-Err : goal.returns-in-Err
returns-in-Err c = no_file_text _ c.in-Err.ensures.cases.0
