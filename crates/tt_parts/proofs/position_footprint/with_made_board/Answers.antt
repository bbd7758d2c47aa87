use Rattle.tt_parts.proofs.position_footprint.with_made_board.Goals as goal

pub returns-in-Play : goal.returns-in-Play
returns-in-Play c = rw c.in-Play.is c.with.ensures
