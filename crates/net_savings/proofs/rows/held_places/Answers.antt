use Rattle.std.proofs.Common.{◌≡◌, ℕ, true, Bool, List, get_or, sym, ap, ◌∙◌}
use Rattle.std.specs.Global.{Vec}
use Rattle.std.specs.List.{list_all}
use Rattle.std.proofs.lemmas.Bool.{false≢true}
use Rattle.net_readers.specs.Fanouts.{is_in}
use Rattle.net_savings.specs.Indexed.{marks_in}
use Rattle.net_savings.specs.declared.rows.RowSpan.{RowSpan}
use Rattle.net_savings.proofs.Told.{in_front, in_last, span_next}
use Rattle.net_savings.proofs.rows.held_places.Goals as goal
use Rattle.net_savings.proofs.rows.held_places.Goals.{then-holds_each+in_ok-push, else-holds_each}

no_span : RowSpan
no_span = record { place = 0; start = 0; end = 0 }

pub loop-span-preserved : goal.loop-span-preserved
unfolding no_span
loop-span-preserved c =
    elim c.if-holds_each.branch [
      | then-holds_each+in_ok-push w ↦
          rw w.places-is
          (span_next (λ (span : RowSpan). list_all (λ (marks : Vec Bool). marks_in span marks.items) c.args.lists.now ≡ true → is_in w.push.new.self.items span.place ≡ true) c.args.spans.now c.loop-span.span-index no_span
          c.loop-span-test.true
          (λ span m h. ap (λ (ps : List ℕ). is_in ps span.place) w.in_ok-push.ensures.items ∙ in_front c.loop-span.places.items _ span.place (c.loop-span.invariant span m h))
          (λ h. ap (λ (ps : List ℕ). is_in ps (get_or c.args.spans.now c.loop-span.span-index no_span).place) w.in_ok-push.ensures.items ∙ in_last c.loop-span.places.items (get_or c.args.spans.now c.loop-span.span-index no_span).place))
      | else-holds_each w ↦
          rw w.places-is
          (span_next (λ (span : RowSpan). list_all (λ (marks : Vec Bool). marks_in span marks.items) c.args.lists.now ≡ true → is_in c.loop-span.places.items span.place ≡ true) c.args.spans.now c.loop-span.span-index no_span
          c.loop-span-test.true c.loop-span.invariant (λ h. absurd (false≢true (sym w.if-holds_each.false ∙ c.holds_each.ensures h))))
    ]
