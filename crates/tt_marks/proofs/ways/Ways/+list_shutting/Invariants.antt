use Rattle.tt_marks.proofs.ways.Ways.+list_shutting.Given as goal

abbrev pub decreases-list_shutting : goal.decreases-list_shutting
decreases-list_shutting l = l.left
