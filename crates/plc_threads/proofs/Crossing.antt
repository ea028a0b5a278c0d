-- The state that the threads of a run share may cross threads, and so may their closures.
use Rattle.std.proofs.Common.{[], ◌∷◌}
use mir.Syntax.{Sym}
use denote.RattleType.{RattleType}
use denote.Param.Send.{IsSend, IsSync, sendable}
use denote.Param.SendFields.{as_row_send, declared_send, declared_sync, variants_send}
use denote.Struct.Field.{row_field}
use denote.Struct.Tuple.{type_at, TupleAt}
use Rattle.std.proofs.Crossing.{Deque-send, Vec-send}
use Rattle.st_types.specs.contracts.entry.Row.TheInside as RowInside
use Rattle.st_types.specs.contracts.entry.Row as Row
use Rattle.st_types.specs.contracts.entry.Entry as Entry
use Rattle.st_meaning.specs.contracts.outcome.Outcome as Outcome
use Rattle.ready_list.specs.contracts.list.ReadyList as ReadyList
use Rattle.core_values.specs.contracts.held.HeldRow.TheInside as HeldInside
use Rattle.core_values.specs.contracts.held.HeldRow as HeldRow
use Rattle.core_engine.specs.contracts.engine.Engine.TheInside as EngineInside
use Rattle.core_engine.specs.contracts.engine.Engine as Engine
use Rattle.serial_core.specs.contracts.history.History.TheInside as HistoryInside
use Rattle.serial_core.specs.contracts.history.History as History
use Rattle.retain_records.specs.contracts.record.Record.TheInside as RecordInside
use Rattle.retain_records.specs.contracts.record.Record as Record
use Rattle.disk.specs.declared.disk.Disk as Disk
use Rattle.retain_store.specs.contracts.store.Store as Store
use Rattle.retain_store.specs.contracts.store.Store.TheInside as StoreInside
use Rattle.durable_core.specs.contracts.endless.EndlessCore as EndlessCore
use Rattle.durable_core.specs.contracts.endless.EndlessCore.TheInside as EndlessInside
use Rattle.durable_core.specs.contracts.core_state.Core as Core
use Rattle.durable_core.specs.contracts.core_state.Core.TheInside as CoreInside
use Rattle.std.specs.declared.sync.ledger.Ledger as Ledger
use Rattle.std.below.core.proofs.ledger.Book.TheSendSync as BookSend
use Rattle.atomic_table.proofs.shared.Seat.TheSendSync as SeatSend
use Rattle.run_lock.specs.contracts.mark.Mark as Mark
use Rattle.run_lock.specs.contracts.mark.Mark.TheInside as MarkInside
use Rattle.atomic_table.proofs.shared.Shared.TheSendSync as SharedSync
use Rattle.atomic_table.proofs.send_lease.SendLease.TheSendSync as LeaseSync
use Rattle.run_lock.specs.contracts.mark.RaisePass as RaisePass
use Rattle.run_lock.specs.contracts.mark.RaisePass.TheInside as RaiseInside
use Rattle.run_lock.specs.declared.locked.Run as Run
use Rattle.run_lock.specs.contracts.locked.Locked as Locked
use Rattle.plc_threads.specs.contracts.driver.Pace as Pace
use Rattle.plc_threads.specs.contracts.shared.Shared as Shared
use Rattle.plc_threads.proofs.TextCrossing.{plain, option-send, value-send}
use Rattle.plc_threads.proofs.PlanCrossing.{plan-send, plan-sync}

-- ---- the core

row_inside-send : IsSend RowInside.the_row
row_inside-send = declared_send RowInside.the_type (search (plain, value-send) depth 40)

row-send : IsSend Row.the_row
row-send = search (plain, row_inside-send) depth 20

entry-send : IsSend Entry.the_row
entry-send = variants_send Entry.enum (search (plain, row-send) depth 40)

outcome-send : IsSend Outcome.the_row
outcome-send = search plain depth 20

ready-send : IsSend ReadyList.the_row
ready-send = search plain depth 20

held_inside-send : IsSend HeldInside.the_row
held_inside-send = declared_send HeldInside.the_type (search (plain, value-send) depth 40)

held-send : IsSend HeldRow.the_row
held-send = search (plain, held_inside-send) depth 20

engine_inside-send : IsSend EngineInside.the_row
engine_inside-send = declared_send EngineInside.the_type (search (
  plain,
  plan-send,
  plan-sync,
  value-send,
  ready-send,
  held-send,
) depth 100 fits 20000)

engine-send : IsSend Engine.the_row
engine-send = search (plain, engine_inside-send) depth 20

history_inside-send : IsSend HistoryInside.the_row
history_inside-send = declared_send HistoryInside.the_type (search (
  plain,
  value-send,
  entry-send,
  option-send,
  outcome-send,
) depth 100 fits 20000)

history-send : IsSend History.the_row
history-send = search (plain, history_inside-send) depth 20

record_inside-send : IsSend RecordInside.the_row
record_inside-send = declared_send RecordInside.the_type (search (plain, value-send) depth 40)

record-send : IsSend Record.the_row
record-send = search (plain, record_inside-send) depth 20

-- a store and a core over a disk that may cross
module _ (D : RattleType) (disk : Disk.Ghosts D.Denot) where
  store_inside-send : IsSend D → IsSend (StoreInside.the_row D disk)
  store_inside-send s = declared_send (StoreInside.the_type D disk) (
    search plain depth 20,
    (
      search plain depth 20,
      (record-send, (record-send, (search plain depth 20, (search plain depth 20, tt)))),
    ),
  )

  store-send : IsSend D → IsSend (Store.the_row D disk)
  store-send s = let inside : IsSend (StoreInside.the_row D disk) = store_inside-send s in search (sendable, inside)
      depth 20

  endless_inside-send : IsSend D → IsSend (EndlessInside.the_row D disk)
  endless_inside-send s = declared_send (EndlessInside.the_type D disk) (
    search plain depth 20,
    (
      engine-send,
      (
        store-send s,
        (Vec-send _ value-send, (search plain depth 20, (search plain depth 20, tt))),
      ),
    ),
  )

  endless-send : IsSend D → IsSend (EndlessCore.the_row D disk)
  endless-send s = let inside : IsSend (EndlessInside.the_row D disk) = endless_inside-send s in search (sendable, inside)
      depth 20

  core_inside-send : IsSend D → IsSend (CoreInside.the_row D disk)
  core_inside-send s = declared_send (CoreInside.the_type D disk) (endless-send s, (history-send, tt))

  pub core-send : IsSend D → IsSend (Core.the_row D disk)
  core-send s = let inside : IsSend (CoreInside.the_row D disk) = core_inside-send s in search (sendable, inside)
      depth 20

mark_inside-sync : IsSync MarkInside.the_row
mark_inside-sync = declared_sync MarkInside.the_type (
  search (plain, SharedSync.the_sync, LeaseSync.the_sync) depth
      20,
  tt,
)

pub mark-sync : IsSync Mark.the_row
mark-sync = search (sendable, mark_inside-sync) depth 20

raise_inside-send : IsSend RaiseInside.the_row
raise_inside-send = declared_send RaiseInside.the_type (SeatSend.the_send _ _ (search sendable depth 20), tt)

raise_pass-send : IsSend RaisePass.the_row
raise_pass-send = search (sendable, raise_inside-send) depth 20

-- the state under the lock, and the state that all threads of a run share
module _ (J D : RattleType) (run : Run.Ghosts J.Denot) (disk : Disk.Ghosts D.Denot) (ledger : Ledger.Ghosts J.Denot)
  where
    locked-send : IsSend J → IsSend D → IsSend (Locked.the_row J D run disk ledger)
    locked-send j s = declared_send (Locked.the_type J D run disk ledger) (
      core-send D disk s,
      (
        BookSend.the_send J
            ledger,
        (raise_pass-send, (Deque-send _ row-send, (search plain depth 20, tt))),
      ),
    )

    pub shared-sync : IsSend J → IsSend D → IsSync (Shared.the_row J D run disk ledger)
    shared-sync j s = let under : IsSend (Locked.the_row J D run disk ledger) = locked-send j s in declared_sync
        (Shared.the_type J D run disk ledger) (
          search (plain, under) depth 20,
          (search plain depth 20, (search plain depth 20, (search plain depth 20, tt))),
        )

pub pace-send : IsSend Pace.the_row
pace-send = search plain depth 20

-- a closure may cross if the five or six values that it captures may
pub five-send : (name : Sym) (A B C D E : RattleType) → IsSend A → IsSend B → IsSend C → IsSend D → IsSend E
    → IsSend (TupleAt name (A ∷ B ∷ C ∷ D ∷ E ∷ []))
five-send name A B C D E a b c d e = declared_send (type_at name (A ∷ B ∷ C ∷ D ∷ E ∷ [])) (
  as_row_send (row_field A) a,
  (
    as_row_send (row_field B) b,
    (as_row_send (row_field C) c, (as_row_send (row_field D) d, (as_row_send (row_field E) e, tt))),
  ),
)

pub six-send : (name : Sym) (A B C D E F : RattleType) → IsSend A → IsSend B → IsSend C → IsSend D → IsSend E
    → IsSend F → IsSend (TupleAt name (A ∷ B ∷ C ∷ D ∷ E ∷ F ∷ []))
six-send name A B C D E F a b c d e f = declared_send (type_at name (A ∷ B ∷ C ∷ D ∷ E ∷ F ∷ [])) (
  as_row_send (row_field A) a,
  (
    as_row_send (row_field B) b,
    (
      as_row_send (row_field C) c,
      (as_row_send (row_field D) d, (as_row_send (row_field E) e, (as_row_send (row_field F) f, tt))),
    ),
  ),
)
