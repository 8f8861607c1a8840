use Rattle.std.proofs.Common.{◌≡◌, ℕ, List, false, bytes_eq, subst}
use Rattle.net_savings.proofs.NotesKept.{put_away, names_away}
use Rattle.net_savings.proofs.kept.push_names.Goals as goal

pub loop-name-preserved : goal.loop-name-preserved
loop-name-preserved c = λ query away.
    (let put = put_away c.loop-name.names.keys c.insert.new.self.keys c.in_ok-copy.field-0 query c.in_ok-_new.ensures.keys away in
    let before = c.loop-name.invariant query put.0 in (
      before.0,
      names_away c.args.more.now c.loop-name.name-index c.name-item.result c.name-item.result query c.loop-name-test.true c.name-item.is before.1
          (subst (λ (name : List ℕ). bytes_eq query name ≡ false) c.in_ok-copy.ensures put.1),
    ))
