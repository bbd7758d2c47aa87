-- What the points beside an empty point tell of a play there.
use Rattle.std.specs.Prelude.{◌≡◌, ℕ, Some, slice_set}
use Rattle.tt_sgf.specs.declared.size.Size.{Size}
use Rattle.tt_board.specs.declared.Colour.{Colour}
use Rattle.tt_board.specs.declared.counted.play_kind.PlayKind.{PlayKind}
use Rattle.tt_board.specs.declared.counted.play_kind.PlayKind.TheVariants.{NoCapture, SingleStoneSuicide, NeedsBoard}
use Rattle.tt_board.specs.Position.{Colouring}
use Rattle.tt_board.specs.Play.{play_of}

-- a play that captures nothing puts its stone and takes none off, a suicide of one stone leaves all as it was, and of others nothing is said
abbrev pub IsPlayOfKind : PlayKind → Size → Colouring → Colour → ℕ → Type 0
IsPlayOfKind NoCapture s c k p = play_of s c k p ≡ slice_set c p (Some k)
IsPlayOfKind SingleStoneSuicide s c k p = play_of s c k p ≡ c
IsPlayOfKind NeedsBoard s c k p = Unit {0}
