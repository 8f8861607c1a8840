use Rattle.sis_outside.proofs.Following.{store_went}
use Rattle.sis_outside.proofs.calls.stores_went.Goals as goal

pub returns : goal.returns
returns g c = store_went g.S.Store.tells g.S.Store.files g.S.Store.faults g.S.Store.misses g.S.Store.calls g.met.S.Store.keeps
