-- A script's commands are pushed on top of what is due, the last one first.
use Rattle.std.proofs.Common.{◌≡◌, ℕ, false, List, [], ◌∷◌, ◌++◌, length, reverse, sym, ap, ◌∙◌, arith}
use Rattle.std.specs.Prelude.{Result, Ok, Err, is_ok, is_err, if◌then◌else◌}
use Rattle.std.proofs.lemmas.List.{append_assoc, map-append, reverse-append}
use Rattle.sis_script.specs.declared.command.Command.{Command}
use Rattle.sis_top.specs.Machine.{Due, Run, dues}

pub pushed : {T F X : Type 0} (result : Result T F) (old more new : List X) → is_err result ≡ false → new ≡ (if is_ok result then old ++ more else old) → new ≡ old ++ more
pushed (Ok value) old more new e h = h
pushed (Err fault) old more new e h = cc

pub one_pushed : (depth : ℕ) (commands front : List Command) (command : Command) (todo todo' all : List Due) → commands ≡ front ++ command ∷ []
    → todo' ≡ todo ++ record { line = command.line; work = Run depth command.op } ∷ [] → dues depth commands ++ reverse todo ≡ all → dues depth front ++ reverse todo' ≡ all
one_pushed depth commands front command todo todo' all e d h =
    let due : Due = record { line = command.line; work = Run depth command.op } in
    let on_top : reverse todo' ≡ due ∷ reverse todo = ap reverse d ∙ reverse-append todo (due ∷ []) in
    let last : dues depth commands ≡ dues depth front ++ due ∷ [] = ap (dues depth) e ∙ map-append _ front (command ∷ []) in
    ap (λ (rest : List Due). dues depth front ++ rest) on_top ∙ sym (append_assoc (dues depth front) (due ∷ []) (reverse todo))
    ∙ sym (ap (λ (all : List Due). all ++ reverse todo) last) ∙ h

pub all_pushed : (depth : ℕ) (commands : List Command) (todo all : List Due) → length commands ≡ 0 → dues depth commands ++ todo ≡ all → todo ≡ all
all_pushed depth [] todo all none h = h
all_pushed depth (command ∷ commands) todo all none h = absurd (omega (arith, none))
