use Rattle.std.proofs.Common.{take}
use Rattle.net_savings.proofs.Partners.{HaveListed, AreListedOf}
use Rattle.net_savings.proofs.sharing.listed_of.Given as goal

abbrev pub invariant-loop-place : goal.invariant-loop-place
invariant-loop-place l = record {
  all : HaveListed l.own.items (take l.place-index l.place-items) l.listed.items;
  only : AreListedOf l.own.items (take l.place-index l.place-items) l.listed.items;
}
