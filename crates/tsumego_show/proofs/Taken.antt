-- What is taken for the stone that is meant.
use Rattle.std.proofs.Common.{◌≡◌, ◌≢◌, ◌<◌, ℕ, Option, None, Some, sym, ◌∙◌, subst}
use Rattle.std.specs.Prelude.{IfSome, MatchOption}
use Rattle.tt_sgf.specs.declared.size.Size.{Size}
use Rattle.tt_sgf.specs.Sizes.{point_count}
use Rattle.tt_board.specs.Position.{Colouring}
use Rattle.tt_board.specs.Reach.{entry_at}
use Rattle.tt_game.specs.Games.{GameState}
use Rattle.tt_marks.specs.Walls.{IsOfInnerGroup}
use Rattle.tsumego_show.specs.declared.mode.PointName.{PointName}
use Rattle.tsumego_show.specs.declared.mode.PointName.TheVariants.{FromAbove, FromBelow}
use Rattle.tsumego_show.specs.Written.{HasName, IsTaken, MarksNoGroup}

-- a name has one point
one_point : (s : Size) (name : PointName) (p q : ℕ) → HasName s name p → HasName s name q → p ≡ q
one_point s (FromAbove column row) p q a b = a.2 ∙ sym b.2
one_point s (FromBelow column row) p q a b = a.3 ∙ sym b.3

pub named_taken : (s : Size) (c : Colouring) (name : PointName) (found : Option ℕ) → IfSome found (λ p. p < point_count s)
    → MatchOption found ((q : ℕ) → HasName s name q → ⊥) (HasName s name) → IsTaken (Some name) s c found
named_taken s c name None on none = λ q h k squares e inner. none q h
named_taken s c name (Some p) on has = (on, has, λ no q h. subst (λ (x : ℕ). MarksNoGroup (Some name) s c x) (one_point s name p q has h) no)

pub proposed_taken : (s : Size) (c : Colouring) (found : Option ℕ) → MatchOption found ((q : ℕ) → IsOfInnerGroup s c q → ⊥)
    (λ p. (p < point_count s) × (entry_at c p ≢ None) × ((q : ℕ) → IsOfInnerGroup s c q → IsOfInnerGroup s c p)) → IsTaken None s c found
proposed_taken s c None none = λ q _ k squares e inner. none q (k, squares, e, inner)
proposed_taken s c (Some p) h = (h.0, tt, λ no q _ k squares e inner. let its = h.2 q (k, squares, e, inner) in no its.0 its.1 its.2 its.3)

-- it is on the board
pub taken_on_board : (name : Option PointName) (s : Size) (c : Colouring) (found : Option ℕ) → IsTaken name s c found → IfSome found (λ p. p < point_count s)
taken_on_board name s c None taken = tt
taken_on_board name s c (Some p) taken = taken.0

-- which is that of a game
pub taken_in_game : (name : Option PointName) (g : GameState) (s : Size) (c : Colouring) (found : Option ℕ) → s ≡ g.size → c ≡ g.present
    → IsTaken name s c found → IsTaken name g.size g.present found
taken_in_game name g s c found size points taken =
    subst (λ (x : Colouring). IsTaken name g.size x found) points (subst (λ (x : Size). IsTaken name x c found) size taken)
