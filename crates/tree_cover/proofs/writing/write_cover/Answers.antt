use Rattle.std.proofs.Common.{List, length, sym, ap, ◌∙◌, arith}
use Rattle.std.proofs.lemmas.List.{nil_from_length}
use Rattle.tree_cover.specs.declared.writing.Signal.{Signal}
use Rattle.tree_cover.proofs.Sequencing.{progress, from_root, some_signal, cover_writes}
use Rattle.tree_cover.proofs.writing.write_cover.Goals as goal

pub unreachable-requires : goal.unreachable-requires
unreachable-requires c =
    some_signal c.args.nodes.now c.args.choices.now (length c.args.choices.now) c.args.root c.write_all.new.signals.items c.write_all.new.gates.items (omega (arith, c.requires.root, c.requires.count))
    (nil_from_length _ (sym c.write_all.new.signals.ok.0 ∙ c.in-None.ensures.cases.0))
    (from_root c.args.nodes.now c.args.choices.now (length c.args.choices.now) c.args.root c.new-waiting.result.items c.push.new.self.items c.new-signals.result.items c.write_all.new.signals.items c.new-gates.result.items
    c.write_all.new.gates.items c.new-waiting.ensures.items c.in_ok-push.ensures.items c.new-signals.ensures.items c.new-gates.ensures.items c.in_ok-write_all.ensures)

pub returns-clause-gates : goal.returns-clause-gates
returns-clause-gates c cmp library made =
    (cover_writes cmp library c.args.nodes.now c.args.choices.now c.sound.ensures made (length c.args.choices.now) c.args.root (omega (arith, c.requires.root, c.requires.count)) c.requires.root c.in-Some.root
    c.pop.new.self.items c.write_all.new.gates.items
    (ap (λ (xs : List Signal). progress xs c.write_all.new.gates.items) (sym c.in-Some.ensures.items)
    ∙ from_root c.args.nodes.now c.args.choices.now (length c.args.choices.now) c.args.root c.new-waiting.result.items c.push.new.self.items c.new-signals.result.items c.write_all.new.signals.items c.new-gates.result.items
    c.write_all.new.gates.items c.new-waiting.ensures.items c.in_ok-push.ensures.items c.new-signals.ensures.items c.new-gates.ensures.items c.in_ok-write_all.ensures)).0

pub returns-clause-areas : goal.returns-clause-areas
returns-clause-areas c cmp library made =
    (cover_writes cmp library c.args.nodes.now c.args.choices.now c.sound.ensures made (length c.args.choices.now) c.args.root (omega (arith, c.requires.root, c.requires.count)) c.requires.root c.in-Some.root
    c.pop.new.self.items c.write_all.new.gates.items
    (ap (λ (xs : List Signal). progress xs c.write_all.new.gates.items) (sym c.in-Some.ensures.items)
    ∙ from_root c.args.nodes.now c.args.choices.now (length c.args.choices.now) c.args.root c.new-waiting.result.items c.push.new.self.items c.new-signals.result.items c.write_all.new.signals.items c.new-gates.result.items
    c.write_all.new.gates.items c.new-waiting.ensures.items c.in_ok-push.ensures.items c.new-signals.ensures.items c.new-gates.ensures.items c.in_ok-write_all.ensures)).1
