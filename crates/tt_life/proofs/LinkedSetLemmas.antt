-- What is linked to a point, by the set of what reaches that point.
use Rattle.std.proofs.Common.{◌≡◌, ◌≢◌, ℕ, ◌<◌, List, Option, Some, true, false, IsTrue, inl, inr, sym, ap, subst, ◌∙◌, arith}
use Rattle.std.proofs.lemmas.Bool.{cases_eq, true≢false}
use Rattle.tt_sgf.specs.declared.size.Size.{Size}
use Rattle.tt_sgf.specs.declared.bits.TheConstants.{BITS}
use Rattle.tt_sgf.specs.Sizes.{point_count}
use Rattle.tt_sgf.specs.laws.SizeLaws.{point_count_is_bounded}
use Rattle.tt_sgf.specs.MachineWords.{bit_in}
use Rattle.tt_board.specs.declared.Colour.{Colour}
use Rattle.tt_board.specs.declared.Colour.TheVariants.{Black, White}
use Rattle.tt_board.specs.Position.{Colouring}
use Rattle.tt_board.specs.Reach.{entry_at}
use Rattle.tt_board.specs.Around.{AreOn, AreThose, AreReaching}
use Rattle.tt_life.specs.inside.Linked.{points_in, IsLinkedSet}
use Rattle.tt_life.proofs.LinkedLemmas.{in_points, points_on_board, bit_of_point, linked_in, marked, entry_first, entry_own, is_first, is_own, linked_of, reaches_of}

-- a point of the board has its bit
pub small : (s : Size) (p : ℕ) → p < point_count s → p < BITS
small s p in_p = omega (arith, point_count_is_bounded s)

-- a point's bit alone is of the board
pub alone_on : (s : Size) (p : ℕ) (empty alone : List ℕ) → p < point_count s → ((q : ℕ) → q < BITS → bit_in empty q ≡ false)
    → ((q : ℕ) → q < BITS → (q ≡ p → ⊥) → bit_in alone q ≡ bit_in empty q) → AreOn s alone
alone_on s p empty alone in_p none rest q past lt = rest q lt (λ same. omega arith) ∙ none q lt

-- one bit more of the board
pub more_on : (s : Size) (p : ℕ) (found made : List ℕ) → p < point_count s → AreOn s found
    → ((q : ℕ) → q < BITS → (q ≡ p → ⊥) → bit_in made q ≡ bit_in found q) → AreOn s made
more_on s p found made in_p on rest q past lt = rest q lt (λ same. omega arith) ∙ on q past lt

-- one bit fewer
pub fewer_on : (s : Size) (p : ℕ) (own others : List ℕ) → p < point_count s → AreOn s own
    → ((q : ℕ) → q < BITS → (q ≡ p → ⊥) → bit_in others q ≡ bit_in own q) → AreOn s others
fewer_on s p own others in_p on rest q past lt = rest q lt (λ same. omega arith) ∙ on q past lt

module _ (s : Size) (own others empty alone found made : List ℕ) (p : ℕ) (mine : IsTrue (points_in s own p))
    (off : bit_in others p ≡ false) (others_rest : (q : ℕ) → q < BITS → (q ≡ p → ⊥) → bit_in others q ≡ bit_in own q)
    (none : (q : ℕ) → q < BITS → bit_in empty q ≡ false) (alone_has : bit_in alone p ≡ true)
    (alone_rest : (q : ℕ) → q < BITS → (q ≡ p → ⊥) → bit_in alone q ≡ bit_in empty q)
    (reach : (c : Colouring) (a e : Option Colour) → a ≢ e → AreThose s others c a → AreThose s alone c e → AreReaching s found c a e)
    (made_has : bit_in made p ≡ true) (made_rest : (q : ℕ) → q < BITS → (q ≡ p → ⊥) → bit_in made q ≡ bit_in found q) where
  in_p : p < point_count s
  in_p = points_on_board s own p mine

  those_others : AreThose s others (marked s (points_in s own) p) (Some Black)
  those_others q in_q = (
    λ on. elim (cases_eq q p) [
      | inl same ↦ absurd (true≢false (sym on ∙ ap (bit_in others) same ∙ off))
      | inr apart ↦ entry_own s (points_in s own) p q in_q apart (in_points s own q in_q (sym (others_rest q (small s q in_q) apart) ∙ on))
    ],
    λ black. let h = is_own s (points_in s own) p q in_q black in others_rest q (small s q in_q) h.0 ∙ bit_of_point s own q h.1,
  )

  those_alone : AreThose s alone (marked s (points_in s own) p) (Some White)
  those_alone q in_q = (
    λ on. elim (cases_eq q p) [
      | inl same ↦ subst (λ x. entry_at (marked s (points_in s own) p) x ≡ Some White) (sym same) (entry_first s (points_in s own) p in_p)
      | inr apart ↦ absurd (true≢false (sym on ∙ alone_rest q (small s q in_q) apart ∙ none q (small s q in_q)))
    ],
    λ white. ap (bit_in alone) (is_first s (points_in s own) p q in_q white) ∙ alone_has,
  )

  reaching_is : AreReaching s found (marked s (points_in s own) p) (Some Black) (Some White)
  reaching_is = reach (marked s (points_in s own) p) (Some Black) (Some White) (λ e. cc) those_others those_alone

  pub linked_set : IsLinkedSet s (points_in s own) p (points_in s made)
  linked_set q = (
    λ h.
        let in_q = points_on_board s made q h in
        elim (cases_eq q p) [
          | inl same ↦ linked_of s (points_in s own) p (points_on_board s own) mine q in_q (inl same)
          | inr apart ↦ linked_of s (points_in s own) p (points_on_board s own) mine q in_q
              (inr ((reaching_is q in_q).0 (sym (made_rest q (small s q in_q) apart) ∙ bit_of_point s made q h)))
        ],
    λ l.
        let in_q = points_on_board s own q (linked_in s (points_in s own) p q mine l) in
        in_points s made q in_q (elim (cases_eq q p) [
          | inl same ↦ ap (bit_in made) same ∙ made_has
          | inr apart ↦ elim (reaches_of s (points_in s own) p (points_on_board s own) mine q l) [
            | inl same ↦ absurd (apart same)
            | inr r ↦ made_rest q (small s q in_q) apart ∙ (reaching_is q in_q).1 r
          ]
        ]),
  )
