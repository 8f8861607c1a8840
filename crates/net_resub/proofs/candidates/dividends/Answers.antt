use Rattle.std.proofs.Common.{◌≡◌, ◌<◌, ℕ, true, List, sym, ap, ◌∙◌, arith}
use Rattle.std.proofs.lemmas.Result.{IfOk-weaker}
use Rattle.net_readers.specs.Fanouts.{is_in}
use Rattle.net_core.specs.Places.{written_of}
use Rattle.net_resub.specs.Candidates.{AreDividends}
use Rattle.net_resub.proofs.Visiting.{dividends_none, dividends_all, dividends_readers}
use Rattle.net_resub.proofs.candidates.dividends.Goals as goal

pub returns-in-None : goal.returns-in-None
returns-in-None g c = dividends_none c.args.work.now.slots c.args.by c.new.result.items
    (sym c.in-None.ensures.table)

pub returns-in-None-rarest_name : goal.returns-in-None-rarest_name
returns-in-None-rarest_name g c =
    IfOk-weaker c.first_places.result (λ places. (at : ℕ) → at < c.len.result
    → is_in places.items at ≡ true) (λ places. AreDividends c.args.work.now.slots c.args.by
    places.items)
    (λ places all. dividends_all c.args.work.now.slots c.args.by places.items
    (λ at below. all at (let long = c.len.ensures in omega (arith, below, long))))
    c.first_places.ensures

pub returns-in_ok-readers-in-Some-rarest_name : goal.returns-in_ok-readers-in-Some-rarest_name
returns-in_ok-readers-in-Some-rarest_name g c =
    dividends_readers c.args.work.now.slots c.args.by
    (written_of c.in-Some.entry.now) c.in-Some-rarest_name.name.now c.into_vec.result.items
    (sym c.in-Some.ensures.table) c.in-Some-rarest_name.ensures.some
    (λ at. ap (λ (places : List ℕ). is_in places at) c.into_vec.ensures
    ∙ c.in_ok-readers-in-Some-rarest_name.ensures.exact at)
