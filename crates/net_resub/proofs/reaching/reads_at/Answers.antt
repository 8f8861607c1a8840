use Rattle.std.proofs.Common.{◌≡◌, sym, ap, ◌∙◌}
use Rattle.std.proofs.lemmas.Result.{IfOk-weaker}
use Rattle.circuit_checks.specs.Graphs.{reads_of}
use Rattle.net_core.specs.Tables.{named}
use Rattle.net_core.specs.Places.{written_of}
use Rattle.net_resub.specs.Reaching.{places_named, graph_of}
use Rattle.net_resub.proofs.Graph.{none_reads, table_reads}
use Rattle.net_resub.proofs.reaching.reads_at.Goals as goal

pub returns-in-None : goal.returns-in-None
returns-in-None g c = c.new.ensures.items ∙ sym (none_reads c.args.work.now.slots c.args.place (sym c.in-None.ensures.table))

pub returns-in-Some : goal.returns-in-Some
unfolding named
returns-in-Some g c =
    IfOk-weaker c.places_named.result (λ places. places.items ≡ places_named c.args.work.now.slots c.as_slice.result.now)
    (λ places. places.items ≡ reads_of (graph_of c.args.work.now.slots) c.args.place)
    (λ places is.
    is
    ∙ (ap (places_named c.args.work.now.slots) c.as_slice.ensures ∙ sym (table_reads c.args.work.now.slots c.args.place (written_of c.in-Some.entry.now) (sym c.in-Some.ensures.table))))
    c.places_named.ensures
