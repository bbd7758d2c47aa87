-- A play within a wall takes none of its stones.
use Rattle.std.proofs.Common.{◌≡◌, ◌≢◌, ℕ, ◌<◌, Option, Some, None, true, set, refl, sym, ap, ◌∙◌}
use Rattle.std.proofs.lemmas.Bool.{false≢true}
use Rattle.std.proofs.lemmas.List.{get_or-set_other}
use Rattle.tt_sgf.specs.declared.size.Size.{Size}
use Rattle.tt_sgf.specs.Sizes.{point_count}
use Rattle.tt_board.specs.declared.Colour.{Colour}
use Rattle.tt_board.specs.declared.Colour.TheVariants.{Black, White}
use Rattle.tt_board.specs.Decided.{reaches_is_exact}
use Rattle.tt_board.specs.Play.{clear, is_stone_of, other, play_of}
use Rattle.tt_board.specs.Position.{Colouring}
use Rattle.tt_board.specs.Reach.{Reaches, entry_at}
use Rattle.tt_board.specs.ReachLaws.{reaches_beside, reaches_on}
use Rattle.tt_board.specs.laws.ClearLaws.{cleared_kept_alive, cleared_kept_other, entry_at_clear}
use Rattle.tt_marks.specs.Reached.{PointTest, first, next}
use Rattle.tt_marks.specs.Walls.{HasOuterLiberty, IsWall, IsWithin}
use Rattle.tt_marks.proofs.WallLemmas.{stone_of_liberty}

stone_is : (x : Option Colour) (k : Colour) → is_stone_of x k ≡ true → x ≡ Some k
stone_is None k h = absurd (false≢true h)
stone_is (Some Black) Black h = refl
stone_is (Some Black) White h = absurd (false≢true h)
stone_is (Some White) Black h = absurd (false≢true h)
stone_is (Some White) White h = refl

pub is_stone : (k : Colour) → is_stone_of (Some k) k ≡ true
is_stone Black = refl
is_stone White = refl

stone_not_empty : (k : Colour) (x : Option Colour) → x ≡ Some k → x ≢ None
stone_not_empty k x h = λ e. let n : ◌≡◌ {A = Option Colour} (Some k) None = sym h ∙ e in cc

empty_not_stone : (k : Colour) (x : Option Colour) → x ≡ None → x ≢ Some k
empty_not_stone k x h = λ e. let n : ◌≡◌ {A = Option Colour} (Some k) None = sym e ∙ h in cc

module _ (s : Size) (c : Colouring) (m : Colour) (IsInside : ℕ → Type 0) where
  -- what has a liberty outside stands on another colouring too, and the empty points outside are empty there
  pub record IsKept (d : Colouring) : Type 0 where
    pub stands : (r : ℕ) → r < point_count s → HasOuterLiberty s c m IsInside r → entry_at d r ≡ Some m
    pub bare : (e : ℕ) → e < point_count s → entry_at c e ≡ None → (IsInside e → ⊥) → entry_at d e ≡ None

  kept_reaches : (d : Colouring) → IsKept d → (r : ℕ) → HasOuterLiberty s c m IsInside r → Reaches s d r None
  kept_reaches d kept r (first _ in_r h) =
      reaches_beside s d None r h.1.0 (stone_not_empty m _ (kept.stands r in_r (first r in_r h))) h.1.1 (kept.bare h.1.0 h.1.1.0 h.1.2 h.1.3)
  kept_reaches d kept r (next _ q in_r h near l) =
      reaches_on s d None r q near (kept.stands q near.0 l ∙ sym (kept.stands r in_r (next r q in_r h near l))) (kept_reaches d kept q l)

  -- also once a colour is cleared
  kept_cleared : (d : Colouring) (j : Colour) → IsKept d → IsKept (clear s d j)
  kept_cleared d j kept = record {
    stands = λ r in_r l. entry_at_clear s d j r in_r ∙ cleared_kept_alive s d j r ((reaches_is_exact s d r None in_r).1 (kept_reaches d kept r l)) ∙ kept.stands r in_r l;
    bare = λ e in_e none out. entry_at_clear s d j e in_e ∙ cleared_kept_other s d j e (empty_not_stone j _ (kept.bare e in_e none out)) ∙ kept.bare e in_e none out;
  }

  -- and once a stone is put inside
  kept_put : (p : ℕ) (j : Colour) → entry_at c p ≡ None → IsInside p → IsKept (set c p (Some j))
  kept_put p j free inside = record {
    stands = λ r in_r l.
        let here = stone_is (entry_at c r) m (stone_of_liberty s c m IsInside r l) in
        get_or-set_other c p r (Some j) None (λ same. stone_not_empty m (entry_at c r) here (ap (entry_at c) same ∙ free)) ∙ here;
    bare = λ e in_e none out. get_or-set_other c p e (Some j) None (λ same. out (rw (sym same) at inside)) ∙ none;
  }

  kept_played : (p : ℕ) (j : Colour) → entry_at c p ≡ None → IsInside p → IsKept (play_of s c j p)
  unfolding play_of
  kept_played p j free inside = kept_cleared (clear s (set c p (Some j)) (other j)) j (kept_cleared (set c p (Some j)) (other j) (kept_put p j free inside))

  -- so it has a liberty outside there
  kept_liberty : (d : Colouring) → IsKept d → (r : ℕ) → HasOuterLiberty s c m IsInside r → HasOuterLiberty s d m IsInside r
  kept_liberty d kept r (first _ in_r h) =
      first r in_r (ap (λ x. is_stone_of x m) (kept.stands r in_r (first r in_r h)) ∙ is_stone m, (h.1.0, h.1.1, kept.bare h.1.0 h.1.1.0 h.1.2 h.1.3, h.1.3))
  kept_liberty d kept r (next _ q in_r h near l) =
      next r q in_r (ap (λ x. is_stone_of x m) (kept.stands r in_r (next r q in_r h near l)) ∙ is_stone m) near (kept_liberty d kept q l)

-- a play within leaves the wall a wall
pub wall_stands : (s : Size) (c : Colouring) (k : Colour) (q : ℕ) (wall : PointTest) → IsWall s c k q wall → (j : Colour) (p : ℕ) → entry_at c p ≡ None → IsWithin s q wall p
    → IsWall s (play_of s c j p) k q wall
wall_stands s c k q wall is j p free inside w in_w on =
    kept_liberty s c (other k) (IsWithin s q wall) (play_of s c j p) (kept_played s c (other k) (IsWithin s q wall) p j free inside) w (is w in_w on)
