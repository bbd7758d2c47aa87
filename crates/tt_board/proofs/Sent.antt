-- Boards may cross threads and be shared.
use denote.Param.Send.{IsSend, IsSync, sendable}
use Rattle.std.proofs.Crossing.{crosses}
use Rattle.tt_board.specs.contracts.board.Board as Board
use Rattle.tt_board.specs.contracts.counted.CountedBoard as CountedBoard

pub board_send : IsSend Board.the_row
board_send = search (sendable, crosses) depth 40

pub board_sync : IsSync Board.the_row
board_sync = search (sendable, crosses) depth 40

pub counted_send : IsSend CountedBoard.the_row
counted_send = search (sendable, crosses) depth 40

pub counted_sync : IsSync CountedBoard.the_row
counted_sync = search (sendable, crosses) depth 40
