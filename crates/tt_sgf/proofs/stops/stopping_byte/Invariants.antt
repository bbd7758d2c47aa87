use Rattle.std.proofs.Common.{◌≡◌, ◌≢◌, ◌≤◌, take}
use Rattle.tt_sgf.specs.declared.stops.Place.TheVariants.{Outside, Stuck}
use Rattle.tt_sgf.specs.inside.Places.{enclosing, run}
use Rattle.tt_sgf.proofs.stops.stopping_byte.Given as goal

abbrev pub invariant-loop-i : goal.invariant-loop-i
invariant-loop-i l = (run Outside (take l.i l.bytes) ≡ l.place) × (l.place ≢ Stuck) × (enclosing l.place ≤ l.i)
