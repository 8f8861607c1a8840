use Rattle.std.proofs.Common.{List, ◌<◌, sym, ◌∙◌, subst}
use Rattle.net_savings.specs.Ranking.{saving_in, covers_under}
use Rattle.net_savings.specs.Meeting.{is_met}
use Rattle.net_savings.specs.Savings.{AreNotes}
use Rattle.net_savings.proofs.NotesKept.{notes_begin}
use Rattle.net_savings.proofs.kept.CandidateQueue.begin.Goals as goal

pub returns : goal.returns
returns g c = λ rule.
    subst (λ (touched : List (List _)). AreNotes rule c.args.work.now (saving_in c.new.result) (covers_under c.new.result) c.in_ok-own.own.items touched (is_met c.new-3.result.items) c.in_ok-own.fresh.items) (sym c.new-2.ensures.empty)
    (notes_begin rule c.args.work.now (saving_in c.new.result) (covers_under c.new.result) c.in_ok-own.own.items (is_met c.new-3.result.items) c.in_ok-own.fresh.items c.new.ensures.savings c.new.ensures.lists
    (c.in_ok-own.ensures.long ∙ c.len.ensures) c.in_ok-own.ensures.none (λ at below. c.in_ok-own.ensures.all at (subst (λ n. at < n) (sym c.len.ensures) below)))
