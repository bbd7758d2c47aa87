-- Sides, lines and what is kept of where a line stood may cross threads. What holds a handle asks both laws of what it holds.
use denote.Param.Send.{IsSend, IsSync, sendable}
use Rattle.std.proofs.Crossing.{crosses}
use Rattle.std.specs.contracts.alloc.Global as Global
use Rattle.std.specs.contracts.impls.GlobalAllocator.TheImpl.{ghosts}
use Rattle.std.specs.contracts.sync.Arc as Arc
use Rattle.tt_board.specs.contracts.counted.CountedBoard as CountedBoard
use Rattle.tt_board.proofs.Sent.{board_send, board_sync, counted_send, counted_sync}
use Rattle.tt_game.specs.contracts.frame.Side as Side
use Rattle.tt_game.specs.contracts.history.History as History
use Rattle.tt_game.specs.contracts.line.Line as Line
use Rattle.tt_game.specs.contracts.history.snapshot.Snapshot as Snapshot
use Rattle.tt_game.specs.contracts.history.board_stack.BoardStack as BoardStack
use Rattle.tt_game.specs.contracts.history.root.Root as Root

pub side_send : IsSend Side.the_row
side_send = search (sendable, crosses) depth 40

pub side_sync : IsSync Side.the_row
side_sync = search (sendable, crosses) depth 40

-- what lines begin with holds a board through a handle
root_send : IsSend Root.the_row
root_send = search (sendable, crosses, board_send, board_sync) depth 40

root_sync : IsSync Root.the_row
root_sync = search (sendable, crosses, board_send, board_sync) depth 40

-- and is itself held through one
rooted_send : IsSend (Arc.the_row Root.the_row Global.the_row ghosts)
rooted_send = search (sendable, crosses, root_send, root_sync) depth 40

history_send : IsSend History.the_row
history_send = search (sendable, crosses) depth 40

-- the board that a line begins with is held through a handle
first_send : IsSend (Arc.the_row CountedBoard.the_row Global.the_row ghosts)
first_send = search (sendable, crosses, counted_send, counted_sync) depth 40

stack_send : IsSend BoardStack.the_row
stack_send = search (sendable, crosses, first_send) depth 40

pub line_send : IsSend Line.the_row
line_send = search (sendable, crosses, history_send, rooted_send, stack_send) depth 40 fits 10000

pub snapshot_send : IsSend Snapshot.the_row
snapshot_send = search (sendable, crosses, root_send, root_sync, board_send, board_sync) depth 40

pub snapshot_sync : IsSync Snapshot.the_row
snapshot_sync = search (sendable, crosses, root_send, root_sync, board_send, board_sync) depth 40
