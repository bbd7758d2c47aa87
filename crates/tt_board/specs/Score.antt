-- The score of a board by area (the Tromp-Taylor rules of Go, https://tromp.github.io/go.html).
use Rattle.std.specs.Prelude.{ℕ, ◌&&◌, ◌||◌, List, length, Some, Bool, not}
use Rattle.std.specs.List.{range_with_len, filter}
use Rattle.tt_board.specs.declared.Colour.{Colour}
use Rattle.tt_sgf.specs.declared.size.Size.{Size}
use Rattle.tt_sgf.specs.Sizes.{point_count}
use Rattle.tt_board.specs.Position.{Colouring}
use Rattle.tt_board.specs.Reach.{entry_at}
use Rattle.tt_board.specs.Decided.{reaches}
use Rattle.tt_board.specs.Play.{other, is_empty, is_stone_of}

-- p is a stone of colour k, or empty and reaches k and not the other colour
abbrev pub counts_for : Size → Colouring → Colour → ℕ → Bool
counts_for s c k p =
    is_stone_of (entry_at c p) k || (is_empty (entry_at c p) && reaches s c p (Some k) && not (reaches s c p (Some (other k))))

-- the points of colour k, and the empty ones that reach k alone, rising
unfoldable pub area_of : Size → Colouring → Colour → List ℕ
area_of s c k = filter (counts_for s c k) (range_with_len 0 (point_count s))

-- how many these are
unfoldable pub score_of : Size → Colouring → Colour → ℕ
score_of s c k = length (area_of s c k)
