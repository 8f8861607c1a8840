use Rattle.std.proofs.Common.{◌≡◌, List, ℕ, OnOk, subst}
use Rattle.circuit_tables.specs.Listing.{names_with}
use Rattle.blif_models.proofs.GateSignals.{no_signal, some_signal}
use Rattle.blif_models.proofs.port_lines.add_signal.Goals as goal

pub returns-in-None : goal.returns-in-None
returns-in-None c = no_signal c.args.set.now c.args.signal.now c.args.words.now c.in-None.ensures

pub returns-in-Some : goal.returns-in-Some
returns-in-Some c =
    subst (λ (names : List (List ℕ)). OnOk c.add.result (c.add.new.self ≡ names_with c.args.set.now names))
    (some_signal c.args.signal.now c.args.words.now c.in-Some.word.now c.signal_in.result.now c.in-Some.ensures c.signal_in.ensures) c.add.ensures
