use Rattle.std.proofs.Common.{None, sym}
use Rattle.tt_game.specs.declared.faults.GameFault.TheVariants.{NotGo, BadSize, BadValue, PointTwice, MixedNode, StoneWithoutLiberty, OccupiedPoint, RepeatedBoard, AfterEnd}
use Rattle.tt_game.specs.declared.faults.GameFault.TheVariants.{TooManyTurns, NoTarget, EmptyTarget, MixedTargets, NoMemory}
use Rattle.tt_game.proofs.faults.reason_of_code.Goals as goal

pub returns-in-10-clause-numbers : goal.returns-in-10-clause-numbers
returns-in-10-clause-numbers c = λ _. (NotGo, sym c.in-10.is)

pub returns-in-11-clause-numbers : goal.returns-in-11-clause-numbers
returns-in-11-clause-numbers c = λ _. (BadSize, sym c.in-11.is)

pub returns-in-12-clause-numbers : goal.returns-in-12-clause-numbers
returns-in-12-clause-numbers c = λ _. (BadValue 0 0 0, sym c.in-12.is)

pub returns-in-13-clause-numbers : goal.returns-in-13-clause-numbers
returns-in-13-clause-numbers c = λ _. (PointTwice 0 0, sym c.in-13.is)

pub returns-in-14-clause-numbers : goal.returns-in-14-clause-numbers
returns-in-14-clause-numbers c = λ _. (MixedNode 0, sym c.in-14.is)

pub returns-in-15-clause-numbers : goal.returns-in-15-clause-numbers
returns-in-15-clause-numbers c = λ _. (StoneWithoutLiberty 0 0, sym c.in-15.is)

pub returns-in-16-clause-numbers : goal.returns-in-16-clause-numbers
returns-in-16-clause-numbers c = λ _. (OccupiedPoint 0 0, sym c.in-16.is)

pub returns-in-17-clause-numbers : goal.returns-in-17-clause-numbers
returns-in-17-clause-numbers c = λ _. (RepeatedBoard 0 0, sym c.in-17.is)

pub returns-in-18-clause-numbers : goal.returns-in-18-clause-numbers
returns-in-18-clause-numbers c = λ _. (AfterEnd 0 None, sym c.in-18.is)

pub returns-in-19-clause-numbers : goal.returns-in-19-clause-numbers
returns-in-19-clause-numbers c = λ _. (TooManyTurns 0, sym c.in-19.is)

pub returns-in-20-clause-numbers : goal.returns-in-20-clause-numbers
returns-in-20-clause-numbers c = λ _. (NoTarget, sym c.in-20.is)

pub returns-in-22-clause-numbers : goal.returns-in-22-clause-numbers
returns-in-22-clause-numbers c = λ _. (EmptyTarget 0 0, sym c.in-22.is)

pub returns-in-23-clause-numbers : goal.returns-in-23-clause-numbers
returns-in-23-clause-numbers c = λ _. (MixedTargets 0 0, sym c.in-23.is)

pub returns-in-40-clause-numbers : goal.returns-in-40-clause-numbers
returns-in-40-clause-numbers c = λ _. (NoMemory, sym c.in-40.is)
