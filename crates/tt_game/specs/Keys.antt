-- Keys: what two positions share that are looked up as one. The history is no part of it.
use Rattle.std.specs.Prelude.{◌≡◌, ℕ, zero, suc, ◌+◌, ◌*◌, ◌-◌, ◌<◌, ◌↔◌, List, [], ◌∷◌, ◌++◌, map, take, drop, replicate, cond, Bool, false}
use Rattle.std.specs.List.{range_with_len}
use Rattle.std.specs.FinSet as set
use Rattle.tt_board.specs.declared.Colour.TheVariants.{Black, White}
use Rattle.tt_board.specs.Reach.{entry_at}
use Rattle.tt_board.specs.Play.{is_stone_of}
use Rattle.tt_sgf.specs.declared.bits.TheConstants.{BITS}
use Rattle.tt_sgf.specs.declared.size.Size.{Size}
use Rattle.tt_sgf.specs.Sizes.{point_count}
use Rattle.tt_game.specs.declared.frame.Frame.{Frame}
use Rattle.tt_game.specs.declared.keys.Key.{Key}
use Rattle.tt_game.specs.Game.{State}

-- a bit for each point of the board, and none behind them up to six words of 64
unfoldable pub bits_of : Size → (ℕ → Bool) → List Bool
bits_of size test = map test (range_with_len 0 (point_count size)) ++ replicate (BITS - point_count size) false

-- the number whose binary digits these bits are, the first bit the least digit
abbrev pub value_of_bits : List Bool → ℕ
value_of_bits [] = 0
value_of_bits (b ∷ bs) = cond b 1 0 + 2 * value_of_bits bs

-- so many words of 64 bits each
unfoldable pub words_of : ℕ → List Bool → List ℕ
words_of zero bits = []
words_of (suc k) bits = value_of_bits (take 64 bits) ∷ words_of k (drop 64 bits)

-- six words of 64 bits, on the points of the board that pass the test
abbrev pub bit_words : Size → (ℕ → Bool) → List ℕ
bit_words size test = words_of 6 (bits_of size test)

-- a position's key
unfoldable pub key_of : Frame → State → Key
key_of f s = record {
  size = f.size;
  region = bit_words f.size (λ p. set.contains f.region p);
  targets = bit_words f.size (λ p. set.contains f.targets p);
  defender = f.defender;
  black = bit_words f.size (λ p. is_stone_of (entry_at s.present p) Black);
  white = bit_words f.size (λ p. is_stone_of (entry_at s.present p) White);
  to_move = s.to_move;
  passes = s.passes;
}

-- two positions ask the same of the same colouring, with the same side to move after as many passes
pub record LookAlike (f g : Frame) (s t : State) : Type 0 where
  pub size : f.size ≡ g.size
  pub region : (p : ℕ) → p < point_count f.size → set.contains f.region p ≡ set.contains g.region p
  pub targets : (p : ℕ) → p < point_count f.size → set.contains f.targets p ≡ set.contains g.targets p
  pub defender : f.defender ≡ g.defender
  pub colouring : (p : ℕ) → p < point_count f.size → entry_at s.present p ≡ entry_at t.present p
  pub to_move : s.to_move ≡ t.to_move
  pub passes : s.passes ≡ t.passes

-- positions have one key exactly where they look alike
abbrev pub SameKeyIffAlike : Type 0
SameKeyIffAlike = (f g : Frame) (s t : State) → (key_of f s ≡ key_of g t) ↔ LookAlike f g s t
