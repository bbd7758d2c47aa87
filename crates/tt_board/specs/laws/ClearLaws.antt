-- What clearing a colour does to a point, and what a stone that is of one colour is of the other.
use Rattle.std.proofs.Common.{◌≡◌, ◌≢◌, ℕ, ◌<◌, ◌⊎◌, ◌&&◌, List, Option, Some, None, true, false, not, inl, inr, refl, arith}
use Rattle.std.proofs.lemmas.Bool.{cases_Bool, cond-true, cond-false, and_left, and_right}
use Rattle.std.proofs.lemmas.List.FromFn.{get_or-map-range_with_len}
use Rattle.tt_board.specs.declared.Colour.{Colour}
use Rattle.tt_board.specs.declared.Colour.TheVariants.{Black, White}
use Rattle.tt_sgf.specs.declared.size.Size.{Size}
use Rattle.tt_sgf.specs.Sizes.{point_count}
use Rattle.tt_board.specs.Reach.{entry_at}
use Rattle.tt_board.specs.Decided.{reaches}
use Rattle.tt_board.specs.Play.{other, same_colour, is_stone_of, cleared_entry, clear}

same_colour_self : (k : Colour) → same_colour k k ≡ true
same_colour_self Black = refl
same_colour_self White = refl

-- whether an entry is a stone of a colour, as a test
pub stone_of : (x : Option Colour) (k : Colour) → x ≡ Some k → is_stone_of x k ≡ true
stone_of x k e = rw e (same_colour_self k)

pub not_stone_of : (x : Option Colour) (k : Colour) → x ≢ Some k → is_stone_of x k ≡ false
not_stone_of None k h = refl
not_stone_of (Some Black) Black h = absurd (h refl)
not_stone_of (Some Black) White h = refl
not_stone_of (Some White) Black h = refl
not_stone_of (Some White) White h = absurd (h refl)

-- a cleared point: a stone of the colour that doesn't reach empty is gone, and all else stays
pub cleared_gone : (s : Size) (c : List (Option Colour)) (k : Colour) (p : ℕ) → entry_at c p ≡ Some k → reaches s c p None ≡ false → cleared_entry s c k p ≡ None
cleared_gone s c k p stone dead = cond-true (is_stone_of (entry_at c p) k && not (reaches s c p None)) None (entry_at c p) (rw (stone_of (entry_at c p) k stone, dead) refl)

pub cleared_kept_other : (s : Size) (c : List (Option Colour)) (k : Colour) (p : ℕ) → entry_at c p ≢ Some k → cleared_entry s c k p ≡ entry_at c p
cleared_kept_other s c k p stone = cond-false _ None _ (and_left _ _ (not_stone_of (entry_at c p) k stone))

pub cleared_kept_alive : (s : Size) (c : List (Option Colour)) (k : Colour) (p : ℕ) → reaches s c p None ≡ true → cleared_entry s c k p ≡ entry_at c p
cleared_kept_alive s c k p alive = cond-false (is_stone_of (entry_at c p) k && not (reaches s c p None)) None (entry_at c p)
    (and_right (is_stone_of (entry_at c p) k) (not (reaches s c p None)) (rw alive refl))

-- the cleared colouring has the cleared points
pub entry_at_clear : (s : Size) (c : List (Option Colour)) (k : Colour) (p : ℕ) → p < point_count s → entry_at (clear s c k) p ≡ cleared_entry s c k p
unfolding clear
entry_at_clear s c k p in_p = get_or-map-range_with_len (cleared_entry s c k) 0 (point_count s) p p None in_p (omega arith)

-- a cleared point is empty, or as it was
pub cleared_either : (s : Size) (c : List (Option Colour)) (k : Colour) (p : ℕ) → (cleared_entry s c k p ≡ None) ⊎ (cleared_entry s c k p ≡ entry_at c p)
cleared_either s c k p = elim (cases_Bool (is_stone_of (entry_at c p) k && not (reaches s c p None))) [
  | inl on ↦ inl (cond-true _ None (entry_at c p) on)
  | inr off ↦ inr (cond-false _ None (entry_at c p) off)
]

-- a stone is not one of the other colour
pub other_differs : (k : Colour) → Some k ≢ Some (other k)
other_differs Black e = cc
other_differs White e = cc

-- a stone that isn't of the other colour is of this one
pub not_other : (k : Colour) (x : Option Colour) → x ≢ None → x ≢ Some (other k) → x ≡ Some k
not_other k None some differs = absurd (some refl)
not_other Black (Some Black) some differs = refl
not_other Black (Some White) some differs = absurd (differs refl)
not_other White (Some Black) some differs = absurd (differs refl)
not_other White (Some White) some differs = refl
