use Rattle.tt_game.proofs.FaultPlaces.{fault_points_are_on_board}
use Rattle.tt_game.proofs.laws.fault_points_are_on_board.Goals as goal

pub returns : goal.returns
returns c = fault_points_are_on_board
