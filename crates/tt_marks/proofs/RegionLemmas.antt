-- What holds of the region of an enclosed group.
use Rattle.std.proofs.Common.{◌≡◌, ℕ, ◌<◌, ◌⊎◌, List, [], ◌∷◌, Option, Some, None, All, true, false, inl, inr, sym, ap, ◌∙◌}
use Rattle.std.proofs.lemmas.Bool.{cases_Bool, false≢true}
use Rattle.std.proofs.lemmas.List.Elements.{All-head, All-tail}
use Rattle.std.specs.FinSet as set
use Rattle.tt_sgf.specs.declared.size.Size.{Size}
use Rattle.tt_sgf.specs.Sizes.{point_count}
use Rattle.tt_board.specs.declared.Colour.{Colour}
use Rattle.tt_board.specs.declared.Colour.TheVariants.{Black, White}
use Rattle.tt_board.specs.Near.{IsNeighbour}
use Rattle.tt_board.specs.Play.{is_stone_of, other}
use Rattle.tt_board.specs.Position.{Colouring}
use Rattle.tt_board.specs.Reach.{IsPath, entry_at, path_end}
use Rattle.tt_board.specs.Setup.{AllHaveLiberties}
use Rattle.tt_board.specs.Stones.{PointNumberSet}
use Rattle.tt_board.specs.laws.NearLaws.{near_back}
use Rattle.tt_marks.specs.Reached.{Has, first, next}
use Rattle.tt_marks.specs.Walls.{HasOuterLiberty, HasStone, IsEnclosedGroup, IsOfGroup, IsWithin}
use Rattle.tt_marks.proofs.ReachedLemmas.{reached_wider}
use Rattle.tt_marks.proofs.StandLemmas.{is_stone}
use Rattle.tt_marks.proofs.WallLemmas.{off_of, outside_more, stone_of_liberty}

one_colour : (x : Option Colour) (k : Colour) → is_stone_of x k ≡ true → is_stone_of x (other k) ≡ true → ⊥
one_colour None k own foe = false≢true own
one_colour (Some Black) Black own foe = false≢true foe
one_colour (Some Black) White own foe = false≢true own
one_colour (Some White) Black own foe = false≢true own
one_colour (Some White) White own foe = false≢true foe

module _ (s : Size) (c : Colouring) (k : Colour) (q : ℕ) (region : PointNumberSet) (group : IsEnclosedGroup s c k q region) where
  abbrev IsInside : ℕ → Type 0
  IsInside = IsWithin s q (set.contains group.wall)

  bare : (j : Colour) (e : ℕ) → entry_at c e ≡ None → HasStone s c j e → ⊥
  bare j e none h = false≢true (sym (ap (λ x. is_stone_of x j) none) ∙ h)

  -- only the other colour's stones are of the wall
  not_wall : (p : ℕ) → p < point_count s → (HasStone s c (other k) p → ⊥) → set.contains group.wall p ≡ false
  not_wall p in_p never = off_of (set.contains group.wall p) (λ h. never (stone_of_liberty s c (other k) IsInside p (group.whole.is_wall p in_p h)))

  of_group : (p : ℕ) → IsOfGroup s c k q p → HasStone s c k p
  of_group p (first _ in_p same) = ap (λ r. is_stone_of (entry_at c r) k) same ∙ ap (λ x. is_stone_of x k) group.stands ∙ is_stone k
  of_group p (next _ r in_p own near g) = own

  group_inside : (p : ℕ) → IsOfGroup s c k q p → IsInside p
  group_inside = reached_wider s (HasStone s c k) (λ r. r ≡ q) (λ r. set.contains group.wall r ≡ false) (λ r. r ≡ q)
      (λ r in_r own. not_wall r in_r (λ foe. one_colour (entry_at c r) k own foe)) (λ r in_r same. same)

  -- an empty point beside the group or the region is in the region
  pub liberty_inside : (p e : ℕ) → p < point_count s → IsOfGroup s c k q p ⊎ Has (set.contains region) p → IsNeighbour s p e → entry_at c e ≡ None
      → Has (set.contains region) e
  liberty_inside p e in_p its near none =
      let inside : IsInside p = elim its [
        | inl g ↦ group_inside p g
        | inr h ↦ ((group.within p in_p).0 h).0
      ] in
      (group.within e near.0).1 (next e p near.0 (not_wall e near.0 (bare (other k) e none)) (near_back s p e in_p near) inside, λ g. bare k e none (of_group e g))

  -- a chain that isn't inside has a liberty that isn't
  chain_outside : (path : List ℕ) (p found : ℕ) → p < point_count s → HasStone s c (other k) p → (IsInside p → ⊥) → IsPath s p path
      → All (HasStone s c (other k)) path → IsNeighbour s (path_end p path) found → entry_at c found ≡ None → HasOuterLiberty s c (other k) IsInside p
  chain_outside [] p found in_p stone out linked alike near none = elim (cases_Bool (set.contains group.wall p)) [
    | inl on ↦ group.whole.is_wall p in_p on
    | inr off ↦ first p in_p (stone, (found, near, none, λ w. out (next p found in_p off near w)))
  ]
  chain_outside (r ∷ rest) p found in_p stone out linked alike near none = elim (cases_Bool (set.contains group.wall p)) [
    | inl on ↦ group.whole.is_wall p in_p on
    | inr off ↦
        next p r in_p stone linked.0 (chain_outside rest r found linked.0.0 (All-head (HasStone s c (other k)) r rest alike) (λ w. out (next p r in_p off linked.0 w))
        linked.1 (All-tail (HasStone s c (other k)) r rest alike) near none)
  ]

  -- so the other colour's stones that aren't in the region have a liberty that isn't
  pub outside_stands : AllHaveLiberties s c → (p : ℕ) → p < point_count s → HasStone s c (other k) p → (Has (set.contains region) p → ⊥)
      → HasOuterLiberty s c (other k) (Has (set.contains region)) p
  outside_stands alive p in_p stone out =
      let reach = alive p in_p (λ none. bare (other k) p none stone) in
      outside_more s c (other k) IsInside (Has (set.contains region)) (λ e in_e h. ((group.within e in_e).0 h).0) p
      (chain_outside reach.path p reach.found in_p stone (λ w. out ((group.within p in_p).1 (w, λ g. one_colour (entry_at c p) k (of_group p g) stone)))
      reach.adjacent (λ i d lt. ap (λ x. is_stone_of x (other k)) (reach.alike i d lt) ∙ stone) reach.beside reach.has_entry)
