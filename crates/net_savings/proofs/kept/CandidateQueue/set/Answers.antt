use Rattle.std.proofs.Common.{◌≡◌, ◌++◌, refl, ap, ◌∙◌, subst}
use Rattle.std.proofs.lemmas.Option.{none-some, same_Some}
use Rattle.circuit_model.specs.declared.circuit.Table.{Table}
use Rattle.net_candidates.specs.Candidates.{cubes_of}
use Rattle.net_core.specs.Places.{written_of}
use Rattle.net_core.specs.Tables.{named}
use Rattle.net_savings.specs.Meeting.{is_met}
use Rattle.net_savings.proofs.Contained.{set_aside}
use Rattle.net_savings.proofs.kept.CandidateQueue.set.Goals as goal

pub returns-in-None : goal.returns-in-None
returns-in-None g c = λ rule old there notes. absurd (none-some old (c.in-None.ensures.table ∙ there))

pub returns-in_ok-touch-in-Some : goal.returns-in_ok-touch-in-Some
unfolding named
returns-in_ok-touch-in-Some g c = λ rule old there savings.
    (let same = same_Some (written_of c.in-Some.entry.now) old (c.in-Some.ensures.table ∙ there) in
    c.in_ok-touch-in-Some.ensures.savings rule c.args.work.now old (named old.output c.args.table.now) (is_met c.args.self.now.changed.items) (is_met c.touch.new.self.changed.items) there refl
    (c.as_slice-before.ensures ∙ ap (λ (t : Table). t.inputs) same) c.as_slice.ensures
    (set_aside c.args.self.now.changed.items c.push_rows.new.rows.items c.push_rows-in-Some.new.rows.items c.touch.new.self.changed.items old (named old.output c.args.table.now)
    (subst (λ (t : Table). c.push_rows.new.rows.items ≡ c.args.self.now.changed.items ++ cubes_of t) same (c.in_ok-push_rows-in-Some.ensures c.in-Some.entry.now.output)) (c.in_ok-push_rows-in-Some-2.ensures old.output)
    c.in_ok-touch-in-Some.ensures.rows)
    savings)
