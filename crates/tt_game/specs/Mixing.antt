-- What words make of a number: hashes are made by it, of keys and of colourings.
use Rattle.std.specs.Prelude.{ℕ, ◌+◌, ◌*◌, ◌%◌, ◌^◌, List, [], ◌∷◌}
use Rattle.tt_sgf.specs.declared.size.Size.{Size}
use Rattle.tt_board.specs.declared.Colour.TheVariants.{Black, White}
use Rattle.tt_board.specs.Position.{Colouring}
use Rattle.tt_board.specs.Reach.{entry_at}
use Rattle.tt_board.specs.Play.{is_stone_of}
use Rattle.tt_game.specs.declared.history.bloom_filter.TheConstants.{MIXER}
use Rattle.tt_game.specs.Keys.{bit_words}

-- what words, one after the other, make of a number
unfoldable pub mix : ℕ → List ℕ → ℕ
mix sum [] = sum
mix sum (w ∷ ws) = mix ((sum * MIXER % 2 ^ 64 + w) % 2 ^ 64) ws

-- what both colours' words make, Black's first
abbrev pub mix_board : Size → Colouring → ℕ
mix_board size c = mix (mix 0 (bit_words size (λ p. is_stone_of (entry_at c p) Black))) (bit_words size (λ p. is_stone_of (entry_at c p) White))

-- that number, multiplied once more, since the last word was only added
unfoldable pub board_hash : Size → Colouring → ℕ
board_hash size c = mix_board size c * MIXER % 2 ^ 64
