-- What the rules do to a colouring (the Tromp-Taylor rules of Go, https://tromp.github.io/go.html): clearing, and a move.
use Rattle.std.specs.Prelude.{◌≡◌, ℕ, ◌&&◌, length, Option, Some, None, Bool, true, false, not, if◌then◌else◌, map, slice_set}
use Rattle.std.specs.List.{range_with_len}
use Rattle.std.proofs.lemmas.List.FromFn.{length-map-range_with_len}
use Rattle.tt_board.specs.declared.Colour.{Colour}
use Rattle.tt_board.specs.declared.Colour.TheVariants.{Black, White}
use Rattle.tt_sgf.specs.declared.size.Size.{Size}
use Rattle.tt_sgf.specs.Sizes.{point_count}
use Rattle.tt_board.specs.Position.{Colouring}
use Rattle.tt_board.specs.Reach.{entry_at}
use Rattle.tt_board.specs.Decided.{reaches}

-- the opponent's colour
abbrev pub other : Colour → Colour
other Black = White
other White = Black

-- whether two colours are equal
abbrev pub same_colour : Colour → Colour → Bool
same_colour Black Black = true
same_colour Black White = false
same_colour White Black = false
same_colour White White = true

-- whether the entry is a stone of colour k
abbrev pub is_stone_of : Option Colour → Colour → Bool
is_stone_of None k = false
is_stone_of (Some j) k = same_colour j k

-- point p once the colour k is cleared: a stone of k that doesn't reach empty is gone
abbrev pub cleared_entry : Size → Colouring → Colour → ℕ → Option Colour
cleared_entry s c k p = if is_stone_of (entry_at c p) k && not (reaches s c p None) then None else entry_at c p

-- the colouring in which each point of colour k that doesn't reach empty is empty
unfoldable pub clear : Size → Colouring → Colour → Colouring
clear s c k = map (cleared_entry s c k) (range_with_len 0 (point_count s))

-- colour the point p, clear the other colour, then one's own
unfoldable pub play_of : Size → Colouring → Colour → ℕ → Colouring
play_of s c k p = clear s (clear s (slice_set c p (Some k)) (other k)) k

-- what a move makes has an entry for each point of the board
pub length-play_of : (s : Size) (c : Colouring) (k : Colour) (p : ℕ) → length (play_of s c k p) ≡ point_count s
unfolding play_of clear
length-play_of s c k p = length-map-range_with_len _ 0 (point_count s)

-- whether no stone is there
abbrev pub is_empty : Option Colour → Bool
is_empty None = true
is_empty (Some _) = false
