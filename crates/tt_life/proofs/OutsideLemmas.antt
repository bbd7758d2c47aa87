-- Stones that reach a liberty outside the region, found for all of them at once.
use Rattle.std.proofs.Common.{◌≡◌, ◌≢◌, ℕ, ◌<◌, ◌&&◌, not, List, [], ◌∷◌, map, All, Option, Some, None, Bool, true, false, IsTrue, inl, refl, sym, ap, ◌∙◌, arith}
use Rattle.std.specs.List.{range_with_len}
use Rattle.std.proofs.lemmas.Bool.{and_parts, and_left, not-true}
use Rattle.std.proofs.lemmas.List.Elements.{All-nil, All-cons, All-head, All-tail}
use Rattle.std.proofs.lemmas.List.FromFn.{get_or-map-range_with_len}
use Rattle.tt_sgf.specs.declared.size.Size.{Size}
use Rattle.tt_sgf.specs.declared.bits.TheConstants.{BITS}
use Rattle.tt_sgf.specs.Sizes.{point_count}
use Rattle.tt_sgf.specs.MachineWords.{bit_in}
use Rattle.tt_board.specs.declared.Colour.{Colour}
use Rattle.tt_board.specs.declared.Colour.TheVariants.{Black, White}
use Rattle.tt_board.specs.Position.{Colouring}
use Rattle.tt_board.specs.Reach.{entry_at, Reaches, IsPath}
use Rattle.tt_board.specs.Around.{AreOn, AreThose, AreReaching}
use Rattle.tt_game.specs.declared.frame.Frame.{Frame}
use Rattle.tt_life.specs.declared.elimination.Ground.{Ground}
use Rattle.tt_life.specs.Life.{Points, StoneTouches}
use Rattle.tt_life.specs.inside.Linked.{points_in}
use Rattle.tt_life.proofs.LinkedLemmas.{in_points}
use Rattle.tt_life.proofs.LinkedSetLemmas.{small}
use Rattle.tt_life.proofs.SiftLemmas.{IsSifted}

-- ---- a colouring of its own: White stands on the goals, and Black on the points of the set

abbrev mark : Bool → Bool → Option Colour
mark true own = Some White
mark false true = Some Black
mark false false = None

unfoldable with_goals : Size → Points → Points → Colouring
with_goals s goal own = map (λ q. mark (goal q) (own q)) (range_with_len 0 (point_count s))

module _ (s : Size) (stones goal own found : List ℕ) (own_is : (q : ℕ) → q < BITS → bit_in own q ≡ (bit_in stones q && not (bit_in goal q)))
    (reach : (c : Colouring) (a e : Option Colour) → a ≢ e → AreThose s own c a → AreThose s goal c e → AreReaching s found c a e) where
  seen : Colouring
  seen = with_goals s (bit_in goal) (bit_in own)

  entry : (q : ℕ) → q < point_count s → entry_at seen q ≡ mark (bit_in goal q) (bit_in own q)
  unfolding with_goals seen
  entry q in_q = get_or-map-range_with_len (λ x. mark (bit_in goal x) (bit_in own x)) 0 (point_count s) q q None in_q (omega arith)

  no_goal : (q : ℕ) → q < point_count s → bit_in own q ≡ true → bit_in goal q ≡ false
  no_goal q in_q on = not-true _ (and_parts (bit_in stones q) (not (bit_in goal q)) (sym (own_is q (small s q in_q)) ∙ on)).1

  stone : (q : ℕ) → q < point_count s → bit_in own q ≡ true → IsTrue (points_in s stones q)
  stone q in_q on = in_points s stones q in_q (and_parts (bit_in stones q) (not (bit_in goal q)) (sym (own_is q (small s q in_q)) ∙ on)).0

  white : (a b : Bool) → mark a b ≡ Some White → a ≡ true
  white true b e = refl
  white false true e = absurd (let h : Some Black ≡ Some White = e in cc)
  white false false e = absurd (let h : None ≡ Some White = e in cc)

  black : (a b : Bool) → mark a b ≡ Some Black → b ≡ true
  black true b e = absurd (let h : Some White ≡ Some Black = e in cc)
  black false true e = refl
  black false false e = absurd (let h : None ≡ Some Black = e in cc)

  those_own : AreThose s own seen (Some Black)
  those_own q in_q = (
    λ on. entry q in_q ∙ ap (λ b. mark b (bit_in own q)) (no_goal q in_q on) ∙ ap (mark false) on,
    λ e. black (bit_in goal q) (bit_in own q) (sym (entry q in_q) ∙ e),
  )

  those_goal : AreThose s goal seen (Some White)
  those_goal q in_q = (
    λ on. entry q in_q ∙ ap (λ b. mark b (bit_in own q)) on,
    λ e. white (bit_in goal q) (bit_in own q) (sym (entry q in_q) ∙ e),
  )

  reaching_is : AreReaching s found seen (Some Black) (Some White)
  reaching_is = reach seen (Some Black) (Some White) (λ e. cc) those_own those_goal

  pub found_stone : (q : ℕ) → q < point_count s → bit_in found q ≡ true → IsTrue (points_in s stones q)
  found_stone q in_q on = stone q in_q ((those_own q in_q).1 ((reaching_is q in_q).0 on).0)

  way : (path : List ℕ) (x : ℕ) → IsPath s x path → All (λ y. entry_at seen y ≡ Some Black) path → All (λ y. IsTrue (points_in s stones y)) path
  way [] x adjacent alike = All-nil (λ y. IsTrue (points_in s stones y))
  way (y ∷ rest) x adjacent alike =
      All-cons (λ z. IsTrue (points_in s stones z)) y rest (stone y adjacent.0.0 ((those_own y adjacent.0.0).1 (All-head (λ z. entry_at seen z ≡ Some Black) y rest alike)))
      (way rest y adjacent.1 (All-tail (λ z. entry_at seen z ≡ Some Black) y rest alike))

  pub found_touches : (q : ℕ) → q < point_count s → bit_in found q ≡ true → (g : ℕ) × StoneTouches s (points_in s stones) q g × IsTrue (points_in s goal g)
  found_touches q in_q on =
      let h = (reaching_is q in_q).0 on in
      let r : Reaches s seen q (Some White) = h.1 in (
        r.found,
        record { path = r.path; adjacent = r.adjacent; within = way r.path q r.adjacent (rw (sym h.0) r.alike); beside = r.beside },
        in_points s goal r.found r.beside.0 ((those_goal r.found r.beside.0).1 r.has_entry),
      )

-- the pass begins with them: they are alive
pub sift_outside : (f : Frame) (g : Ground) (stones own found : List ℕ) → AreOn f.size found
    → ((q : ℕ) → q < BITS → bit_in own q ≡ (bit_in stones q && not (bit_in g.outside.words q)))
    → ((c : Colouring) (a e : Option Colour) → a ≢ e → AreThose f.size own c a → AreThose f.size g.outside.words c e → AreReaching f.size found c a e)
    → IsSifted f g stones found found 0
sift_outside f g stones own found on own_is reach = record {
  kept_on = on;
  covers = λ q before in_q h. absurd (omega arith);
  within = λ q in_q h. found_stone f.size stones g.outside.words own found own_is reach q in_q h;
  sound = λ c is are q in_q h.
      let way = found_touches f.size stones g.outside.words own found own_is reach q in_q h in
      let out = (is.outside_is way.0).0 way.2 in
      inl (way.0, way.1, out.1, out.2);
  full = λ c is are q in_q h a. h;
}

-- stones without some of them are on the board
pub inner_on : (s : Size) (stones goal own : List ℕ) → AreOn s stones → ((q : ℕ) → q < BITS → bit_in own q ≡ (bit_in stones q && not (bit_in goal q))) → AreOn s own
inner_on s stones goal own on own_is q past lt = own_is q lt ∙ and_left _ _ (on q past lt)
