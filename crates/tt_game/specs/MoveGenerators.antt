-- What is known of plays without making them, and what is the same for all plays from where a line stands.
use Rattle.std.specs.Prelude.{◌≡◌, ℕ, ◌<◌, ◌↔◌, List, slice_set, Some, IfSome, true}
use Rattle.tt_sgf.specs.declared.size.Size.{Size}
use Rattle.tt_sgf.specs.Sizes.{point_count}
use Rattle.tt_sgf.specs.MachineWords.{bit_in}
use Rattle.tt_board.specs.declared.Colour.{Colour}
use Rattle.tt_board.specs.declared.counted.play_kind.PlayKind.{PlayKind}
use Rattle.tt_board.specs.declared.counted.play_kind.PlayKind.TheVariants.{NoCapture, SingleStoneSuicide, NeedsBoard}
use Rattle.tt_board.specs.PlayKind.{IsPlayOfKind}
use Rattle.tt_board.specs.Position.{Colouring}
use Rattle.tt_board.specs.Reach.{entry_at}
use Rattle.tt_board.specs.Stones.{IsEmptyPointOfSet}
use Rattle.tt_game.specs.declared.frame.Frame.{Frame}
use Rattle.tt_game.specs.declared.plays.move_generator.MoveGenerator.{MoveGenerator}
use Rattle.tt_game.specs.GameHistory.{IsInHistory}
use Rattle.tt_game.specs.Mixing.{mix_board}
use Rattle.tt_game.specs.Game.{State, history, side_colour, colouring_after_play}

-- what is foretold of a play: one that captures nothing makes a new colouring by its stone alone, a suicide of one stone the present colouring again
abbrev pub IsForetoldKind : PlayKind → Frame → State → ℕ → Type 0
IsForetoldKind NoCapture f s p = (IsInHistory (history s) (colouring_after_play f s p) → ⊥) × (colouring_after_play f s p ≡ slice_set s.present p (Some (side_colour f s.to_move)))
IsForetoldKind SingleStoneSuicide f s p = colouring_after_play f s p ≡ s.present
IsForetoldKind NeedsBoard f s p = Unit {0}

-- the bits are 1 of all points of the board where a stone of this colour has stood in one of these colourings; of others they may be 1 too
abbrev pub IncludesStoodPoints : Colour → Size → List Colouring → List ℕ → Type 0
IncludesStoodPoints k size h words = (c : Colouring) (p : ℕ) → IsInHistory h c → p < point_count size → entry_at c p ≡ Some k → bit_in words p ≡ true

-- the move generator was made of this state: it has the colour that moves, exactly the empty points of the region, and where that colour has stood;
-- the points that it tells at once are some of those where a play takes nothing off, and of those where it makes a new colouring too; and if it has a sum, that is what
-- the words of the present board make
pub record IsMoveGenerator (v : MoveGenerator) (f : Frame) (s : State) : Type 0 where
  pub colour : v.colour ≡ side_colour f s.to_move
  pub empty : (p : ℕ) → p < point_count f.size → (bit_in v.empty.words p ≡ true) ↔ IsEmptyPointOfSet f.size f.region s.present p
  pub stood : IncludesStoodPoints v.colour f.size (history s) v.stood.words
  pub no_capture : (p : ℕ) → p < point_count f.size → bit_in v.no_capture.words p ≡ true → IsPlayOfKind NoCapture f.size s.present (side_colour f s.to_move) p
  pub new_colouring : (p : ℕ) → p < point_count f.size → bit_in v.new_colouring.words p ≡ true → IsForetoldKind NoCapture f s p
  pub sum : IfSome v.sum (λ n. n ≡ mix_board f.size s.present)
