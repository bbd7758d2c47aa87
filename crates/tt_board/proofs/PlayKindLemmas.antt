-- The names on the four neighbours of a point.
use Rattle.std.proofs.Common.{◌≡◌, ◌≢◌, ℕ, ◌/◌, ◌<◌, ◌≤◌, ◌↔◌, ◌==◌, List, Option, Some, None, length, inl, inr, refl, sym, ap, subst, ◌∙◌, arith}
use Rattle.std.specs.Prelude.{MatchOption}
use Rattle.std.proofs.lemmas.Bool.{cases_eq, cases_lt}
use Rattle.std.proofs.lemmas.List.{get_or_past}
use Rattle.tt_sgf.specs.declared.size.Size.{Size}
use Rattle.tt_board.specs.declared.Colour.{Colour}
use Rattle.tt_board.specs.declared.Colour.TheVariants.{Black, White}
use Rattle.tt_board.specs.declared.counted.play_kind.TheConstants.{OFF_BOARD_NAME}
use Rattle.tt_board.specs.Near.{IsNeighbour}
use Rattle.tt_board.specs.inside.Neighbours.{IsOneOf}
use Rattle.tt_board.specs.inside.Chains.{name_at, root_of, colour_number, IsNamed, Touches, IsOneName, bare_one, count_there}

module _ (s : Size) (ns : List ℕ) (p m : ℕ) where
  -- what is on a point that is there touches p
  side : (index : Option ℕ) (r : ℕ) → MatchOption index (r ≡ OFF_BOARD_NAME) (λ q. r ≡ name_at ns q) → ((q : ℕ) → index ≡ Some q → IsNeighbour s p q) → m ≢ OFF_BOARD_NAME → r ≡ m → Touches s ns m p
  side None r h inside apart e = absurd (apart (sym e ∙ h))
  side (Some q) r h inside apart e = let n = inside q refl in (q, n.0, (n, sym h ∙ e))

  -- and the name of such a point is its own
  given : (index : Option ℕ) (r q : ℕ) → MatchOption index (r ≡ OFF_BOARD_NAME) (λ x. r ≡ name_at ns x) → index ≡ Some q → r ≡ name_at ns q
  given index r q h is = subst (λ o. MatchOption o (r ≡ OFF_BOARD_NAME) (λ x. r ≡ name_at ns x)) is h

  -- so the four names are those of the chains that touch p, and 0 where a point beside it is empty
  pub one_touches : (a b c d : Option ℕ) (w x y z : ℕ) → ((q : ℕ) → IsOneOf a b c d q ↔ IsNeighbour s p q)
      → MatchOption a (w ≡ OFF_BOARD_NAME) (λ q. w ≡ name_at ns q) → MatchOption b (x ≡ OFF_BOARD_NAME) (λ q. x ≡ name_at ns q)
      → MatchOption c (y ≡ OFF_BOARD_NAME) (λ q. y ≡ name_at ns q) → MatchOption d (z ≡ OFF_BOARD_NAME) (λ q. z ≡ name_at ns q)
      → m ≢ OFF_BOARD_NAME → IsOneName w x y z m ↔ Touches s ns m p
  one_touches a b c d w x y z near on_a on_b on_c on_d apart = (
    λ one. elim one [
      | inl e ↦ side a w on_a (λ q is. (near q).0 (inl is)) apart e
      | inr (inl e) ↦ side b x on_b (λ q is. (near q).0 (inr (inl is))) apart e
      | inr (inr (inl e)) ↦ side c y on_c (λ q is. (near q).0 (inr (inr (inl is)))) apart e
      | inr (inr (inr e)) ↦ side d z on_d (λ q is. (near q).0 (inr (inr (inr is)))) apart e
    ],
    λ t. elim ((near t.0).1 t.2.0) [
      | inl is ↦ inl (given a w t.0 on_a is ∙ t.2.1)
      | inr (inl is) ↦ inr (inl (given b x t.0 on_b is ∙ t.2.1))
      | inr (inr (inl is)) ↦ inr (inr (inl (given c y t.0 on_c is ∙ t.2.1)))
      | inr (inr (inr is)) ↦ inr (inr (inr (given d z t.0 on_d is ∙ t.2.1)))
    ],
  )

-- the name of a point is 0 exactly where the point is there and empty
pub bare_index : (ns : List ℕ) (index : Option ℕ) (r : ℕ) → MatchOption index (r ≡ OFF_BOARD_NAME) (λ q. r ≡ name_at ns q) → bare_one r ≡ count_there (λ q. name_at ns q == 0) index
bare_index ns None r h = ap bare_one h
bare_index ns (Some q) r h = ap bare_one h

-- a name of a colour's code is of a chain
pub coded : (m : ℕ) (k : Colour) → m / 512 ≡ colour_number k → m ≢ OFF_BOARD_NAME
coded m Black code is = omega (arith, code, is)
coded m White code is = omega (arith, code, is)

-- the counts of each name beside a point have their point
pub roots_below : (s : Size) (ns : List ℕ) (p m : ℕ) → length ns ≡ 361 → ((q : ℕ) → name_at ns q ≢ 0 → name_at ns (root_of (name_at ns q)) ≡ name_at ns q)
    → (m ≢ OFF_BOARD_NAME → Touches s ns m p) → root_of m < 361
roots_below s ns p m wide rooted touch = elim (cases_eq m OFF_BOARD_NAME) [
  | inl is ↦ omega (arith, is)
  | inr apart ↦ elim (cases_eq m 0) [
    | inl zero ↦ omega (arith, zero)
    | inr some ↦
        let t = touch apart in
        let own : name_at ns (root_of m) ≡ m = subst (λ x. name_at ns (root_of x) ≡ x) t.2.1 (rooted t.0 (λ z. some (sym t.2.1 ∙ z))) in
        elim (cases_lt (root_of m) 361) [
          | inl below ↦ below
          | inr past ↦ absurd (some (sym own ∙ get_or_past ns (root_of m) 0 (subst (λ n. n ≤ root_of m) (sym wide) past)))
        ]
  ]
]

-- no name on a board is that of no point
pub never_nowhere : (e : Option Colour) (m : ℕ) → IsNamed e m → m ≢ OFF_BOARD_NAME
never_nowhere None m named = omega (arith, named)
never_nowhere (Some k) m named = coded m k named
