-- What the thread that reads lines takes with it.
use denote.RattleType.{RattleType}
use denote.Param.Send.{IsSend, sendable, struct_send}
use denote.Struct.Declared.{shape}
use denote.Builtin.{u8, usize}
use denote.Hole.{as_row}
use denote.Param.SendFields.{as_row_send, declared_send}
use Rattle.std.proofs.Crossing.{Arc-send, Vec-send}
use Rattle.std.specs.contracts.vec.Vec as Vec
use Rattle.std.specs.contracts.io.buffered.BufReader as BufReader
use Rattle.std.specs.contracts.io.buffered.read_ahead.ReadAhead as ReadAhead
use Rattle.std.specs.declared.io.traits.Read as Read
use Rattle.std.specs.contracts.sync.Arc as Arc
use Rattle.std.specs.contracts.sync.Mutex as Mutex
use Rattle.std.specs.contracts.alloc.Global as Heap
use Rattle.std.specs.contracts.impls.GlobalAllocator.TheImpl.{ghosts}
use Rattle.st_types.specs.contracts.entry.Row.TheInside as RowInside
use Rattle.st_types.specs.contracts.entry.Row as Row
use Rattle.plan.specs.contracts.plan.Plan as Plan
use Rattle.live_rows.specs.contracts.line_reader.LineReader as LineReader
use Rattle.live_rows.specs.contracts.line_reader.LineReader.TheInside as LineReaderInside
use Rattle.live_drive.specs.contracts.newest.Newest as Newest
use Rattle.plc_threads.proofs.PlanCrossing.{plan-send, plan-sync}
use Rattle.plc_threads.proofs.TextCrossing.{plain, value-send}

row_inside-send : IsSend RowInside.the_row
row_inside-send = declared_send RowInside.the_type (search (plain, value-send) depth 40)

row-send : IsSend Row.the_row
row-send = search (plain, row_inside-send) depth 20

newest-send : IsSend Newest.the_row
newest-send = search (plain, row-send) depth 60

-- the newest row behind its lock
pub shared_newest-send : IsSend (Arc.the_row (Mutex.the_row Newest.the_row) Heap.the_row ghosts)
shared_newest-send =
    Arc-send (Mutex.the_row Newest.the_row) (search (plain, newest-send) depth 20) (search (plain, newest-send) depth 20)

pub shared_plan-send : IsSend (Arc.the_row Plan.the_row Heap.the_row ghosts)
shared_plan-send = Arc-send Plan.the_row plan-send plan-sync

byte-send : IsSend u8
byte-send = search sendable depth 20

size-send : IsSend usize
size-send = search sendable depth 20

bytes-send : IsSend (as_row (Vec.the_field u8 Heap.the_row ghosts))
bytes-send = as_row_send (Vec.the_field u8 Heap.the_row ghosts) (Vec-send u8 byte-send)

ahead-send : IsSend (ReadAhead.the_field Heap.the_row ghosts).row
ahead-send = struct_send (shape (ReadAhead.the_type Heap.the_row ghosts)) (Vec-send u8 byte-send, (size-send, (size-send, tt)))

-- the lines of an input that may cross
module _ (I : RattleType) (read : Read.Ghosts I.Denot) where
  buffered-send : IsSend I → IsSend (as_row (BufReader.the_field I Heap.the_row ghosts))
  buffered-send s = as_row_send (BufReader.the_field I Heap.the_row ghosts)
      (struct_send (shape (BufReader.the_type I Heap.the_row ghosts)) (s, (ahead-send, tt)))

  lines_inside-send : IsSend I → IsSend (LineReaderInside.the_row I read)
  lines_inside-send s = declared_send (LineReaderInside.the_type I read) (buffered-send s, (bytes-send, tt))

  pub lines-send : IsSend I → IsSend (LineReader.the_row I read)
  lines-send s = let inside : IsSend (LineReaderInside.the_row I read) = lines_inside-send s in search (sendable, inside)
      depth 20
