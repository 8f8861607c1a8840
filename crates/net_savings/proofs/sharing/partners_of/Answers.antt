use Rattle.std.proofs.Common.{◌≡◌, ◌≤◌, ℕ, List, length, sym, ap, subst, arith}
use Rattle.std.proofs.lemmas.Bool.{ltb-false}
use Rattle.std.proofs.lemmas.Result.{IfOk-weaker}
use Rattle.net_core.specs.Places.{written_of}
use Rattle.net_core.specs.Tables.{named}
use Rattle.net_savings.proofs.Partners.{HaveReaders, partner_read, partner_none}
use Rattle.net_savings.proofs.sharing.partners_of.Goals as goal

pub returns-in-None : goal.returns-in-None
unfolding named
returns-in-None g c = λ one other cover apart _ k.
    let few : length c.as_slice-names.result.now ≤ 0 = ltb-false 0 (length c.as_slice-names.result.now) (sym c.in-None.ensures.item.0) in
    let none : length c.args.entry.now.table.inputs ≡ 0 = omega (arith, few, ap (λ (names : List (List ℕ)). length names) c.as_slice-names.ensures) in
    absurd (partner_none c.args.work.now.slots (written_of c.args.entry.now) one other cover c.requires none apart k)

pub returns-in_ok-places-in-Some : goal.returns-in_ok-places-in-Some
unfolding named
returns-in_ok-places-in-Some g c =
    let have : HaveReaders c.args.work.now.slots c.most_read-left.result.now c.args.entry.now.table.inputs c.in_ok-places-in-Some.places.items =
    subst (λ (names : List (List ℕ)). HaveReaders c.args.work.now.slots c.most_read-left.result.now names c.in_ok-places-in-Some.places.items) c.as_slice-names.ensures c.in_ok-places-in-Some.ensures in
    IfOk-weaker c.listed_of.result _ _
    (λ listed among one other cover apart k shares.
    among other (partner_read c.args.work.now.slots (written_of c.args.entry.now) c.most_read-left.result.now one other cover c.in_ok-places-in-Some.places.items c.requires apart shares have) k)
    c.listed_of.ensures.all
