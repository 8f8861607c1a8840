use Rattle.net_core.specs.Tables.{named}
use Rattle.net_savings.specs.Meeting.{is_met}
use Rattle.net_savings.specs.Ranking.{saving_in, covers_under}
use Rattle.net_savings.proofs.Contained.{add_aside}
use Rattle.net_savings.proofs.NotesKept.{notes_pushed}
use Rattle.net_savings.proofs.kept.CandidateQueue.push.Goals as goal

pub returns : goal.returns
unfolding named
returns g c = λ rule output notes.
    notes_pushed rule c.args.work.now (saving_in c.args.self.now.ranked) (covers_under c.args.self.now.ranked) c.args.self.now.own.items c.args.self.now.touched.keys (is_met c.args.self.now.changed.items) c.args.self.now.fresh.items
    notes c.push.new.self.items c.push_names.new.names.keys c.as_slice.result.now (is_met c.push_rows.new.rows.items) c.push-2.new.self.items c.len.result (named output c.args.table.now)
    c.in_ok-push.ensures.items c.in_ok-push_names.ensures c.as_slice.ensures c.in_ok-push-2.ensures.items c.len.ensures
    (add_aside c.args.self.now.changed.items c.push_rows.new.rows.items (named output c.args.table.now) (c.in_ok-push_rows.ensures output))
