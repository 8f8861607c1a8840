use Rattle.std.proofs.Common.{◌≡◌, sym, ◌∙◌, subst, true}
use Rattle.circuit_model.specs.Names.{has}
use Rattle.net_core.proofs.NewNames.{new_is_free}
use Rattle.cover_names.specs.Literals.{NamedCover}
use Rattle.cover_names.specs.Cubes.{names_in}
use Rattle.net_work.specs.Placed.{standing, circuit_of}
use Rattle.net_savings.specs.Ranking.{saving_in, covers_under}
use Rattle.net_savings.specs.Orders.{cover_eq}
use Rattle.net_savings.proofs.SameCovers.{cover_same, cover_itself}
use Rattle.net_savings.specs.Saving.{IsSaved}
use Rattle.net_savings.specs.Savings.{IsExact}
use Rattle.net_savings.proofs.Notes.{exact_from, set_grows, set_right_here, set_noted_here}
use Rattle.net_savings.proofs.renewing.renew.Goals as goal
use Rattle.net_savings.proofs.renewing.renew.Goals.{In_ok-set-in-Some}

exact : (g : _) (c : In_ok-set-in-Some g) → IsExact c.args.work.now c.args.cover.now c.unwrap_or.result
exact g c =
    subst (IsExact c.args.work.now c.args.cover.now) (sym c.unwrap_or.ensures)
    (exact_from c.args.work.now c.args.name.now c.requires.sound (new_is_free (circuit_of c.args.work.now) c.args.name.now c.requires.free).0 c.args.cover.now c.in_ok-saving.saving
    (subst (λ (cover : NamedCover). IsSaved (standing c.args.work.now.slots) c.args.name.now cover c.in_ok-saving.saving) (c.as_slice-cubes.ensures ∙ c.get.ensures) c.in_ok-saving.ensures))

is_named : (g : _) (c : In_ok-set-in-Some g) → has (names_in c.args.cover.now) c.in-Some.found.now ≡ true
is_named g c =
    let named = rw c.in-Some.is at c.rarest_name.ensures in
    subst (λ (cover : NamedCover). has (names_in cover) c.in-Some.found.now ≡ true) (c.as_slice-cubes.ensures ∙ c.get.ensures) named

pub returns-clause-grown : goal.returns-clause-grown
returns-clause-grown g c =
    set_grows cover_eq cover_same cover_itself c.args.work.now (saving_in c.args.ranked.now) (saving_in c.set.new.self) (covers_under c.args.ranked.now) (covers_under c.set.new.self) c.args.cover.now c.in-Some.found.now
    c.unwrap_or.result c.in_ok-set-in-Some.ensures.savings c.in_ok-set-in-Some.ensures.lists (is_named g c) (exact g c)

pub returns-clause-right : goal.returns-clause-right
returns-clause-right g c =
    set_right_here cover_eq cover_same cover_itself c.args.work.now (saving_in c.args.ranked.now) (saving_in c.set.new.self) (covers_under c.args.ranked.now) (covers_under c.set.new.self) c.args.cover.now c.in-Some.found.now
    c.unwrap_or.result c.in_ok-set-in-Some.ensures.savings c.in_ok-set-in-Some.ensures.lists (is_named g c) (exact g c)

pub returns-clause-noted : goal.returns-clause-noted
returns-clause-noted g c =
    set_noted_here cover_eq cover_same cover_itself c.args.work.now (saving_in c.args.ranked.now) (saving_in c.set.new.self) (covers_under c.args.ranked.now) (covers_under c.set.new.self) c.args.cover.now c.in-Some.found.now
    c.unwrap_or.result c.in_ok-set-in-Some.ensures.savings c.in_ok-set-in-Some.ensures.lists (is_named g c) (exact g c)
