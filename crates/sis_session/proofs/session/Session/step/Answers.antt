use Rattle.std.proofs.Common.{refl, inl}
use Rattle.sis_script.specs.declared.command.Op.TheVariants as command
use Rattle.sis_session.specs.Commands.{Plans}
use Rattle.sis_session.specs.Plan.{Does, Refuses, Done, Refused}
use Rattle.sis_session.specs.declared.refusal.Next.TheVariants as next
use Rattle.sis_session.specs.declared.refusal.Refusal.TheVariants as refusal
use Rattle.sis_session.proofs.Going.{both_alone, out_alone, store_alone, told_did, quiet_did}
use Rattle.sis_session.proofs.session.Session.step.Goals as goal

pub returns-in-Echo-clause-did : goal.returns-in-Echo-clause-did
returns-in-Echo-clause-did g c =
    rw c.in-Echo.is (out_alone g.S.Store.calls _ _ c.args.store.now _ (told_did g.O.Sink.calls c.args.self.now _ _ _ _ _ c.echo.ensures c.print_reply.ensures.put))

pub returns-in-Quit-clause-did : goal.returns-in-Quit-clause-did
returns-in-Quit-clause-did g c =
    rw c.in-Quit.is
    (both_alone g.S.Store.calls g.O.Sink.calls (Plans c.args.depth c.args.self.now command.Quit) c.args.store.now c.args.out.now _
    (quiet_did (Plans c.args.depth c.args.self.now command.Quit) (Does c.args.self.now next.Quit) (Done c.args.self.now next.Quit) refl (inl refl)))

pub returns-in-ReadBlif-clause-did : goal.returns-in-ReadBlif-clause-did
returns-in-ReadBlif-clause-did g c =
    rw c.in-ReadBlif.is (store_alone g.O.Sink.calls _ _ c.args.out.now _ c.read_blif.ensures.did)

pub returns-in-ReadKiss-clause-did : goal.returns-in-ReadKiss-clause-did
returns-in-ReadKiss-clause-did g c =
    rw c.in-ReadKiss.is (store_alone g.O.Sink.calls _ _ c.args.out.now _ c.read_kiss.ensures.did)

pub returns-in-ReadLibrary-clause-did : goal.returns-in-ReadLibrary-clause-did
returns-in-ReadLibrary-clause-did g c =
    rw c.in-ReadLibrary.is (store_alone g.O.Sink.calls _ _ c.args.out.now _ c.read_library.ensures.did)

pub returns-in-Generate-clause-did : goal.returns-in-Generate-clause-did
returns-in-Generate-clause-did g c =
    rw c.in-Generate.is
    (both_alone g.S.Store.calls g.O.Sink.calls _ c.args.store.now c.args.out.now _
    c.generate.ensures.did)

pub returns-in-WriteBlif-clause-did : goal.returns-in-WriteBlif-clause-did
returns-in-WriteBlif-clause-did g c =
    rw (c.in-WriteBlif.is, ← c.self.view_is) (c.write_reply.ensures.did _ _ c.network_text.ensures)

pub returns-in-WriteKiss-clause-did : goal.returns-in-WriteKiss-clause-did
returns-in-WriteKiss-clause-did g c =
    rw (c.in-WriteKiss.is, ← c.self-in-WriteKiss.view_is) (c.write_reply-in-WriteKiss.ensures.did _ _ c.machine_told.ensures)

pub returns-in-WriteNetlist-clause-did : goal.returns-in-WriteNetlist-clause-did
returns-in-WriteNetlist-clause-did g c =
    rw (c.in-WriteNetlist.is, ← c.self-in-WriteNetlist.view_is)
    (c.write_reply-in-WriteNetlist.ensures.did _ _ c.netlist_told.ensures)

pub returns-in-PrintStats-clause-did : goal.returns-in-PrintStats-clause-did
returns-in-PrintStats-clause-did g c =
    rw (c.in-PrintStats.is, ← c.self-in-PrintStats.view_is) (out_alone g.S.Store.calls _ _ c.args.store.now _ (told_did g.O.Sink.calls _ _ _ _ _ _ c.print_stats.ensures c.print_reply-in-PrintStats.ensures.put))

pub returns-in-Print-clause-did : goal.returns-in-Print-clause-did
returns-in-Print-clause-did g c =
    rw (c.in-Print.is, ← c.self-in-Print.view_is) (out_alone g.S.Store.calls _ _ c.args.store.now _ (told_did g.O.Sink.calls _ _ _ _ _ _ c.print.ensures c.print_reply-in-Print.ensures.put))

pub returns-in-PrintLatch-clause-did : goal.returns-in-PrintLatch-clause-did
returns-in-PrintLatch-clause-did g c =
    rw (c.in-PrintLatch.is, ← c.self-in-PrintLatch.view_is) (out_alone g.S.Store.calls _ _ c.args.store.now _ (told_did g.O.Sink.calls _ _ _ _ _ _ c.print_latch.ensures c.print_reply-in-PrintLatch.ensures.put))

pub returns-in-PrintFactor-clause-did : goal.returns-in-PrintFactor-clause-did
returns-in-PrintFactor-clause-did g c =
    rw (c.in-PrintFactor.is, ← c.self-in-PrintFactor.view_is) (out_alone g.S.Store.calls _ _ c.args.store.now _ (told_did g.O.Sink.calls _ _ _ _ _ _ c.print_factor.ensures c.print_reply-in-PrintFactor.ensures.put))

pub returns-in-PrintKernel-clause-did : goal.returns-in-PrintKernel-clause-did
returns-in-PrintKernel-clause-did g c =
    rw (c.in-PrintKernel.is, ← c.self-in-PrintKernel.view_is) (out_alone g.S.Store.calls _ _ c.args.store.now _ (told_did g.O.Sink.calls _ _ _ _ _ _ c.print_kernel.ensures c.print_reply-in-PrintKernel.ensures.put))

pub returns-in-Change-clause-did : goal.returns-in-Change-clause-did
returns-in-Change-clause-did g c =
    rw c.in-Change.is (both_alone g.S.Store.calls g.O.Sink.calls _ c.args.store.now c.args.out.now _ c.change.ensures.did)

pub returns-in-StateAssign-clause-did : goal.returns-in-StateAssign-clause-did
returns-in-StateAssign-clause-did g c =
    rw c.in-StateAssign.is
    (out_alone g.S.Store.calls _ _ c.args.store.now _ c.state_assign.ensures.did)

pub returns-in-Map-clause-did : goal.returns-in-Map-clause-did
returns-in-Map-clause-did g c =
    rw c.in-Map.is (out_alone g.S.Store.calls _ _ c.args.store.now _ c.map.ensures.did)

pub returns-in-Undo-clause-did : goal.returns-in-Undo-clause-did
returns-in-Undo-clause-did g c =
    rw c.in-Undo.is (both_alone g.S.Store.calls g.O.Sink.calls _ c.args.store.now c.args.out.now _ c.undo_or_refuse.ensures.did)

pub returns-in-Source-clause-did : goal.returns-in-Source-clause-did
returns-in-Source-clause-did g c =
    rw c.in-Source.is (store_alone g.O.Sink.calls _ _ c.args.out.now _ (c.source.ensures.did c.args.self.now))

pub returns-in-Bad-clause-did : goal.returns-in-Bad-clause-did
returns-in-Bad-clause-did g c =
    rw c.in-Bad.is
    (both_alone g.S.Store.calls g.O.Sink.calls (Plans c.args.depth c.args.self.now (command.Bad c.in-Bad.fault)) c.args.store.now c.args.out.now _
    (quiet_did (Plans c.args.depth c.args.self.now (command.Bad c.in-Bad.fault)) (Refuses (refusal.Script c.in-Bad.fault)) (Refused (refusal.Script c.in-Bad.fault)) refl (inl refl)))

pub returns-in-Echo-clause-nests : goal.returns-in-Echo-clause-nests
returns-in-Echo-clause-nests g c = c.print_reply.ensures.nests c.args.depth

pub returns-in-Generate-clause-nests : goal.returns-in-Generate-clause-nests
returns-in-Generate-clause-nests g c = c.generate.ensures.nests c.args.depth

pub returns-in-StateAssign-clause-nests : goal.returns-in-StateAssign-clause-nests
returns-in-StateAssign-clause-nests g c = c.state_assign.ensures.nests c.args.depth

pub returns-in-WriteBlif-clause-nests : goal.returns-in-WriteBlif-clause-nests
returns-in-WriteBlif-clause-nests g c = c.write_reply.ensures.nests c.args.depth

pub returns-in-WriteKiss-clause-nests : goal.returns-in-WriteKiss-clause-nests
returns-in-WriteKiss-clause-nests g c = c.write_reply-in-WriteKiss.ensures.nests c.args.depth

pub returns-in-WriteNetlist-clause-nests : goal.returns-in-WriteNetlist-clause-nests
returns-in-WriteNetlist-clause-nests g c = c.write_reply-in-WriteNetlist.ensures.nests c.args.depth

pub returns-in-Map-clause-nests : goal.returns-in-Map-clause-nests
returns-in-Map-clause-nests g c = c.map.ensures.nests c.args.depth

pub returns-in-PrintStats-clause-nests : goal.returns-in-PrintStats-clause-nests
returns-in-PrintStats-clause-nests g c = c.print_reply-in-PrintStats.ensures.nests c.args.depth

pub returns-in-Print-clause-nests : goal.returns-in-Print-clause-nests
returns-in-Print-clause-nests g c = c.print_reply-in-Print.ensures.nests c.args.depth

pub returns-in-PrintLatch-clause-nests : goal.returns-in-PrintLatch-clause-nests
returns-in-PrintLatch-clause-nests g c = c.print_reply-in-PrintLatch.ensures.nests c.args.depth

pub returns-in-PrintFactor-clause-nests : goal.returns-in-PrintFactor-clause-nests
returns-in-PrintFactor-clause-nests g c = c.print_reply-in-PrintFactor.ensures.nests c.args.depth

pub returns-in-PrintKernel-clause-nests : goal.returns-in-PrintKernel-clause-nests
returns-in-PrintKernel-clause-nests g c = c.print_reply-in-PrintKernel.ensures.nests c.args.depth
