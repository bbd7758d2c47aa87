use Rattle.std.proofs.Common.{◌≡◌, ◌+◌, ◌-◌, ◌/◌, ◌^◌, ◌≤◌, length, take}
use Rattle.tt_board.specs.Position.{Colouring}
use Rattle.tt_board.specs.inside.Differences.{colourings_from}
use Rattle.tt_board.specs.inside.Boards.{led, IsHalf, AreAlikeBy}
use Rattle.tt_board.proofs.boards.differences.push_word_edits.Given as goal

abbrev pub invariant-loop-rest : goal.invariant-loop-rest
invariant-loop-rest l = record {
  after : l.from ≤ l.p;
  within : l.p ≤ l.from + 64;
  rest : l.rest ≡ l.word / 2 ^ (l.p - l.from);
  half : (here c : Colouring) → length here ≡ length l.there → AreAlikeBy l.word l.from here l.there
      → IsHalf here l.there l.from (led c l.initial.edits.items) → IsHalf here l.there l.p (led c l.edits.items);
  colourings : (c : Colouring) → colourings_from c l.edits.items ≡ colourings_from c l.initial.edits.items;
  kept : take (length l.initial.edits.items) l.edits.items ≡ l.initial.edits.items;
}

abbrev pub decreases-loop-rest : goal.decreases-loop-rest
decreases-loop-rest l = l.from + 64 - l.p
