use Rattle.std.proofs.Common.{◌≡◌, List, ℕ, OnOk, subst, option_copied}
use Rattle.circuit_tables.specs.Listing.{names_with}
use Rattle.line_words.specs.LineWords.{texts}
use Rattle.blif_models.proofs.GateSignals.{no_gate, gate_drives}
use Rattle.blif_models.proofs.port_lines.add_gate.Goals as goal

pub returns-in_default : goal.returns-in_default
returns-in_default c =
    no_gate c.args.set.now c.args.side (option_copied c.args.library) (texts c.args.words.now) c.in_ok-table.field-0 c.in_ok-table.ensures c.in_default.is

pub returns : goal.returns
returns c =
    subst (λ (names : List (List ℕ)). OnOk c.add_signal.result (c.add_signal.new.set ≡ names_with c.args.set.now names))
    (gate_drives c.args.side (option_copied c.args.library) (texts c.args.words.now) (texts c.other_words-pairs.result.now) c.in-Some.table c.as_slice-in-Outputs.result.now c.in_ok-table.field-0
    c.in_ok-table.ensures c.in-Some.is c.other_words-pairs.ensures c.as_slice-in-Outputs.ensures c.in-Outputs.is) c.add_signal.ensures
