-- Stones that boards have, as bits.
use Rattle.std.proofs.Common.{◌≡◌, ◌<◌, ◌&&◌, ◌||◌, ℕ, Bool, true, false, inl, inr, List, sym, ◌∙◌, refl, arith}
use Rattle.std.proofs.lemmas.Bool.{cases_lt, false≢true}
use Rattle.tt_sgf.specs.Sizes.{point_count}
use Rattle.tt_sgf.specs.MachineWords.{bit_in, AreBitsOf, IsWithinUnion}
use Rattle.tt_sgf.specs.declared.bits.Bits.{Bits}
use Rattle.tt_sgf.specs.declared.bits.TheConstants.{BITS}
use Rattle.tt_board.specs.declared.Colour.{Colour}
use Rattle.tt_board.specs.Position.{Position}
use Rattle.tt_board.specs.Play.{is_stone_of}
use Rattle.tt_board.specs.Reach.{entry_at}
use Rattle.tt_proof.specs.BoardSetBounds.{HasAllStones, hash_bit}

-- of two truths both hold, and of one that holds one of two does
and_left : (x y : Bool) → (x && y) ≡ true → x ≡ true
and_left true y e = refl
and_left false y e = absurd (false≢true e)

and_right : (x y : Bool) → (x && y) ≡ true → y ≡ true
and_right true y e = e
and_right false y e = absurd (false≢true e)

pub or_left : (x y : Bool) → x ≡ true → (x || y) ≡ true
or_left true y e = refl
or_left false y e = absurd (false≢true e)

pub or_right : (x y : Bool) → y ≡ true → (x || y) ≡ true
or_right true y e = refl
or_right false y e = e

or_same : (x : Bool) → (x || x) ≡ true → x ≡ true
or_same true e = refl
or_same false e = e

module _ (words : List ℕ) (k : Colour) (b : Position) (are : AreBitsOf words (point_count b.size) (λ p. is_stone_of (entry_at b.points p) k)) where
  -- the bits of a board's stones are 1 where they stand
  pub bit_stands : (p : ℕ) → p < BITS → bit_in words p ≡ true → (p < point_count b.size) × (is_stone_of (entry_at b.points p) k ≡ true)
  bit_stands p small e = elim (cases_lt p (point_count b.size)) [
    | inl inside ↦ (inside, sym (are.below p inside small) ∙ e)
    | inr outside ↦ absurd (false≢true (sym (are.behind p outside small) ∙ e))
  ]

  -- stones that they cover are the board's
  pub covered_has : (x : Bits) → IsWithinUnion x.words words words → HasAllStones x k b
  covered_has x low p small e = bit_stands p small (or_same (bit_in words p) (low p small e))

  pub has_covered : (x : Bits) → HasAllStones x k b → IsWithinUnion x.words words words
  has_covered x h p small e = or_left (bit_in words p) (bit_in words p) (are.below p (h p small e).0 small ∙ (h p small e).1)

-- a board that has the stones of one of two has those of both together
module _ (x y r : Bits) (both : (p : ℕ) → p < BITS → bit_in r.words p ≡ (bit_in x.words p && bit_in y.words p)) where
  pub has_left : (k : Colour) (b : Position) → HasAllStones x k b → HasAllStones r k b
  has_left k b h p small e = h p small (and_left (bit_in x.words p) (bit_in y.words p) (sym (both p small) ∙ e))

  pub has_right : (k : Colour) (b : Position) → HasAllStones y k b → HasAllStones r k b
  has_right k b h p small e = h p small (and_right (bit_in x.words p) (bit_in y.words p) (sym (both p small) ∙ e))

-- the number of a board's bit is that of a bit
pub hash_small : (b : Position) → hash_bit b < BITS
hash_small b = omega arith
