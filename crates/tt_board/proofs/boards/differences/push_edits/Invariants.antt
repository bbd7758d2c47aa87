use Rattle.std.proofs.Common.{◌≡◌, ◌*◌, length, take}
use Rattle.tt_board.specs.Position.{Colouring}
use Rattle.tt_board.specs.inside.Differences.{colourings_from}
use Rattle.tt_board.specs.inside.Boards.{IsHalf, led}
use Rattle.tt_board.proofs.boards.differences.push_edits.Given as goal

abbrev pub invariant-loop-k : goal.invariant-loop-k
invariant-loop-k l = record {
  half : (c : Colouring) → led c l.initial.edits.items ≡ l.here → IsHalf l.here l.there (64 * l.k) (led c l.edits.items);
  colourings : (c : Colouring) → colourings_from c l.edits.items ≡ colourings_from c l.initial.edits.items;
  kept : take (length l.initial.edits.items) l.edits.items ≡ l.initial.edits.items;
}
