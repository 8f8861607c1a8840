-- Covers that equal one another are the same, and a cover equals itself.
use Rattle.std.proofs.Common.{◌≡◌, true, sym, ap, ◌∙◌}
use Rattle.std.specs.Ordering.{is_eq}
use Rattle.std.proofs.lemmas.Cmp.{tied_itself}
use Rattle.std.proofs.lemmas.Map.Views.{tells_apart}
use Rattle.cover_names.proofs.Orders.{cover_order}
use Rattle.cover_names.specs.Literals.{NamedCover}
use Rattle.net_savings.specs.Orders.{cover_eq, cover_ties}

pub cover_same : (one other : NamedCover) → cover_eq one other ≡ true → one ≡ other
cover_same one other h = tells_apart cover_order.same one other (sym (cover_ties one other) ∙ h)

pub cover_itself : (cover : NamedCover) → cover_eq cover cover ≡ true
cover_itself cover = cover_ties cover cover ∙ ap is_eq (tied_itself cover_order.total cover)
