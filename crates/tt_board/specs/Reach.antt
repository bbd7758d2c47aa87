-- Reaching (the Tromp-Taylor rules of Go): the paths of adjacent points of one colour.
use Rattle.std.specs.Prelude.{◌≡◌, ◌≢◌, ℕ, List, [], ◌∷◌, Option, None, All, slice_index_or}
use Rattle.tt_board.specs.declared.Colour.{Colour}
use Rattle.tt_sgf.specs.declared.size.Size.{Size}
use Rattle.tt_board.specs.Near.{IsNeighbour}
use Rattle.tt_board.specs.Position.{Colouring}

-- what stands on point p: the colour of its stone, or none
abbrev pub entry_at : Colouring → ℕ → Option Colour
entry_at c p = slice_index_or c p None

-- each point of the list is adjacent to the one before it, and the first to p
abbrev pub IsPath : Size → ℕ → List ℕ → Type 0
IsPath s p [] = Unit {0}
IsPath s p (q ∷ rest) = IsNeighbour s p q × IsPath s q rest

-- where a path from p ends
abbrev pub path_end : ℕ → List ℕ → ℕ
path_end p [] = p
path_end p (q ∷ rest) = path_end q rest

-- A path of adjacent points begins with p, all its points have p's entry, which is not e, and its last
-- point has a neighbour with entry e
pub record Reaches (s : Size) (c : Colouring) (p : ℕ) (e : Option Colour) : Type 0 where
  pub path : List ℕ
  pub adjacent : IsPath s p path
  pub alike : All (λ q. entry_at c q ≡ entry_at c p) path
  pub other : entry_at c p ≢ e
  pub found : ℕ
  pub beside : IsNeighbour s (path_end p path) found
  pub has_entry : entry_at c found ≡ e
