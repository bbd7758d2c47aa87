use Rattle.std.proofs.Common.{sym, ◌∙◌}
use Rattle.std.proofs.lemmas.Bool.{false≢true}
use Rattle.tt_proof.proofs.life_proof.is_outside_or_in_snapshot.Goals as goal

pub returns-then-is_board_within : goal.returns-then-is_board_within
returns-then-is_board_within c = λ y _. c.has_later_board.ensures y

pub returns : goal.returns
returns c = λ _ m. absurd (false≢true (sym c.if-is_board_within.false ∙ c.is_board_within.ensures.1 m))
