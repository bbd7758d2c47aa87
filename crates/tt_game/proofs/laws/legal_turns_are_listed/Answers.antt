use Rattle.tt_game.specs.laws.TurnLaws.{contains-legal_turns, rising-legal_turns, length-legal_turns}
use Rattle.tt_game.proofs.laws.legal_turns_are_listed.Goals as goal

pub returns : goal.returns
returns c = λ f s. (contains-legal_turns f s, rising-legal_turns f s, length-legal_turns f s)
