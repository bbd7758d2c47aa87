use Rattle.std.proofs.Common.{◌≡◌, ℕ, List, sym, subst, rules}
use Rattle.std.proofs.lemmas.Nat.{mul-add-lt}
use Rattle.tt_sgf.specs.declared.size.Size.{Size}
use Rattle.tt_sgf.specs.declared.size.PointOrPass.{PointOrPass}
use Rattle.tt_sgf.specs.declared.size.PointOrPass.TheVariants.{On, Pass}
use Rattle.tt_sgf.specs.Values.{IsPointOrPass}
use Rattle.tt_game.specs.declared.turns.Turn.{Turn}
use Rattle.tt_game.specs.Turns.{IsTurnOnBoardOfSize}
use Rattle.tt_game.specs.Records.{as_turn}
use Rattle.tt_game.proofs.records.GameSoFar.play_named_turn.Goals as goal

-- a point that a value names is on the board
on_board : (size : Size) (bytes : List ℕ) (t : PointOrPass) → IsPointOrPass size bytes t → IsTurnOnBoardOfSize size (as_turn t)
on_board size bytes Pass h = tt
on_board size bytes (On p) h = rw h.number (mul-add-lt h.row size.columns h.column size.rows h.row_in h.column_in)

pub play_turn_by-requires : goal.play_turn_by-requires
play_turn_by-requires c =
    let size : c.size.result ≡ c.args.self.now.game.size = search rules in
    subst (λ (t : Turn). IsTurnOnBoardOfSize c.args.self.now.game.size t) (sym c.as_turn.ensures)
    (subst (λ (s : Size). IsTurnOnBoardOfSize s (as_turn c.in-Some.t)) size (on_board c.size.result c.args.value.now c.in-Some.t ((c.point.ensures.value c.in-Some.t).0 c.in-Some.is)))
