-- How colourings are kept by edits, and boards one after another by a base and edits that lead on from it. The view of `BoardDeltas` and
-- private contracts cite these.
use Rattle.std.specs.Int.{bit_at}
use Rattle.std.specs.Prelude.{◌≡◌, ◌≢◌, ◌==◌, if◌then◌else◌, ℕ, ◌+◌, ◌<◌, ◌≤◌, List, [], ◌∷◌, ◌++◌, length, map, drop, Option, Some, None}
use Rattle.tt_sgf.specs.declared.size.Size.{Size}
use Rattle.tt_board.specs.declared.Colour.{Colour}
use Rattle.tt_board.specs.declared.boards.differences.Edit.{Edit}
use Rattle.tt_board.specs.declared.boards.differences.Edit.TheVariants.{Black, White, Empty, Whole}
use Rattle.tt_board.specs.Position.{Position, Colouring}
use Rattle.tt_board.specs.Reach.{entry_at}
use Rattle.tt_board.specs.Setup.{AllHaveLiberties}
use Rattle.tt_board.specs.inside.Differences.{edited, colourings_from}

-- the edit of a kind, at a point
abbrev pub edit_at : ℕ → ℕ → Edit
edit_at kind p = if kind == 0 then Black p else (if kind == 1 then White p else (if kind == 2 then Empty p else Whole))

-- the edit that puts an entry on a point
abbrev pub edit_of : ℕ → Option Colour → Edit
edit_of p (Some Colour.Black) = Black p
edit_of p (Some Colour.White) = White p
edit_of p None = Empty p

-- a colouring after edits
abbrev pub led : Colouring → List Edit → Colouring
led c [] = c
led c (e ∷ es) = led (edited c e) es

-- the board of a size with a colouring
abbrev pub board_of : Size → Colouring → Position
board_of g c = record { size = g; points = c }

-- the boards to which edits lead from a base of their size, oldest first
abbrev pub trail_of : Position → List Edit → List Position
trail_of b es = map (board_of b.size) (colourings_from b.points es)

-- where edits finish colourings, they end with the last of them; where they end, each stone reaches empty
pub record IsTrail (b : Position) (es : List Edit) : Type 0 where
  pub alive : AllHaveLiberties b.size (led b.points es)
  pub ends : es ≢ [] → (before : List Colouring) × (colourings_from b.points es ≡ before ++ led b.points es ∷ [])

-- edits were added that lead from here to there, and finish the colouring there
pub record IsLed (old new : List Edit) (here there : Colouring) : Type 0 where
  pub points : (c : Colouring) → led c old ≡ here → led c new ≡ there
  pub colourings : (c : Colouring) → led c old ≡ here → colourings_from c new ≡ colourings_from c old ++ there ∷ []

-- the first points have their entries there, the others those here
pub record IsHalf (here there : Colouring) (n : ℕ) (c : Colouring) : Type 0 where
  pub same_length : length c ≡ length here
  pub first : (q : ℕ) → q < n → entry_at c q ≡ entry_at there q
  pub others : (q : ℕ) → n ≤ q → entry_at c q ≡ entry_at here q

-- the entries of 64 points, from one on, are alike wherever the bit of a word is 0
abbrev pub AreAlikeBy : ℕ → ℕ → Colouring → Colouring → Type 0
AreAlikeBy word from here there = (i : ℕ) → i < 64 → bit_at word i ≡ 0 → entry_at here (from + i) ≡ entry_at there (from + i)

-- the edits from one index on finish a colouring next, and lead on from it behind another index
pub record FinishesNext (es : List Edit) (from to : ℕ) (c next : Colouring) : Type 0 where
  pub on : from < to
  pub inside : to ≤ length es
  pub colourings : colourings_from c (drop from es) ≡ next ∷ colourings_from next (drop to es)
  pub end : led c (drop from es) ≡ led next (drop to es)

-- the edits from one index on finish no colouring, and lead to the end
pub record IsLast (es : List Edit) (from : ℕ) (c end : Colouring) : Type 0 where
  pub none : colourings_from c (drop from es) ≡ []
  pub led_on : led c (drop from es) ≡ end
