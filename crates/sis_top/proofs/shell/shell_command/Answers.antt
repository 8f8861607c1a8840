use Rattle.std.proofs.Common.{rules, ◌≡◌, ◌∙◌, ap₂}
use Rattle.clap.specs.Words.{app_of, rule_of, with_rule}
use Rattle.sis_top.specs.Shell.{bare, keep_rule, file_rule, text_rule}
use Rattle.sis_top.proofs.shell.shell_command.Goals as goal

pub returns : goal.returns
returns c =
    let keep_is : rule_of c.action-keep.result ≡ keep_rule = search rules in
    let file_is : rule_of c.action-file.result ≡ file_rule = search rules in
    let text_is : rule_of c.action-text.result ≡ text_rule = search rules in
    let bare_is : app_of c.disable_help_flag.result ≡ bare = search rules in
    let with_keep = c.in_ok-arg.ensures.shape (search rules) ∙ ap₂ with_rule bare_is keep_is in
    let with_file = c.in_ok-arg-2.ensures.shape (search rules) ∙ ap₂ with_rule with_keep file_is in
    c.in_ok-command.ensures.shape (search rules) ∙ ap₂ with_rule with_file text_is
