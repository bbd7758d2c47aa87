-- Points that are linked over points of a set.
use Rattle.std.proofs.Common.{◌≡◌, ◌≢◌, ℕ, ◌<◌, ◌⊎◌, ◌↔◌, List, [], ◌∷◌, map, All, Option, Some, None, Bool, true, false, IsTrue, eqb, ltb, inl, inr, refl, sym, ap, subst, ◌∙◌, arith}
use Rattle.std.specs.List.{range_with_len}
use Rattle.std.proofs.lemmas.Bool.{cases_eq, cases_Bool, eq-eqb, ne_eqb, true≢false, false≢true, lt-ltb, ltb-true, and_parts, and_from}
use Rattle.std.proofs.lemmas.List.Elements.{All-nil, All-cons, All-head, All-tail, All-weaker}
use Rattle.std.proofs.lemmas.List.FromFn.{get_or-map-range_with_len}
use Rattle.tt_sgf.specs.declared.size.Size.{Size}
use Rattle.tt_sgf.specs.Sizes.{point_count}
use Rattle.tt_sgf.specs.MachineWords.{bit_in}
use Rattle.tt_board.specs.declared.Colour.{Colour}
use Rattle.tt_board.specs.declared.Colour.TheVariants.{Black, White}
use Rattle.tt_board.specs.Near.{IsNeighbour}
use Rattle.tt_board.specs.Position.{Colouring}
use Rattle.tt_board.specs.laws.NearLaws.{near_back}
use Rattle.tt_board.specs.Reach.{entry_at, Reaches, IsPath, path_end}
use Rattle.tt_board.specs.ReachLaws.{reaches_beside, reaches_on, reaches_all}
use Rattle.tt_board.specs.Decided.{Decision, decision_test, decision_test_is_exact, reaches, reaches_is_exact}
use Rattle.tt_life.specs.Life.{Points, AreOnBoard, StoneTouches}
use Rattle.tt_life.specs.inside.Linked.{points_in, IsLinked, IsLinkedSet}

-- ---- the board's points

-- a point of the board whose bit is 1
pub in_points : (s : Size) (words : List ℕ) (p : ℕ) → p < point_count s → bit_in words p ≡ true → IsTrue (points_in s words p)
unfolding points_in
in_points s words p in_p on = and_from (ltb p (point_count s)) (bit_in words p) (lt-ltb p (point_count s) in_p) on

pub points_on_board : (s : Size) (words : List ℕ) → AreOnBoard s (points_in s words)
unfolding points_in
points_on_board s words p h = ltb-true p (point_count s) (and_parts (ltb p (point_count s)) (bit_in words p) h).0

pub bit_of_point : (s : Size) (words : List ℕ) (p : ℕ) → IsTrue (points_in s words p) → bit_in words p ≡ true
unfolding points_in
bit_of_point s words p h = (and_parts (ltb p (point_count s)) (bit_in words p) h).1

-- ---- links

module _ (s : Size) (own : Points) where
  pub linked_itself : (p : ℕ) → IsLinked s own p p
  linked_itself p = record { path = []; adjacent = tt; within = All-nil (λ x. IsTrue (own x)); ends = refl }

  -- a step first
  pub linked_step : (p q r : ℕ) → IsNeighbour s p q → IsTrue (own q) → IsLinked s own q r → IsLinked s own p r
  linked_step p q r near mine l = record { path = q ∷ l.path; adjacent = (near, l.adjacent); within = All-cons (λ x. IsTrue (own x)) q l.path mine l.within; ends = l.ends }

  -- what holds of a point and spreads holds of all that is linked to it
  pub linked_all : (S : ℕ → Type 0) → ((x y : ℕ) → S x → IsNeighbour s x y → IsTrue (own y) → S y) → (p q : ℕ) → S p → IsLinked s own p q → S q
  linked_all S spread p q start l = go l.path p start l.adjacent l.within l.ends
    where
      go : (path : List ℕ) (x : ℕ) → S x → IsPath s x path → All (λ y. IsTrue (own y)) path → path_end x path ≡ q → S q
      go [] x h adjacent within ends = subst S ends h
      go (y ∷ rest) x h adjacent within ends =
          go rest y (spread x y h adjacent.0 (All-head (λ z. IsTrue (own z)) y rest within)) adjacent.1 (All-tail (λ z. IsTrue (own z)) y rest within) ends

  -- links join
  pub linked_join : (p q r : ℕ) → IsLinked s own p q → IsLinked s own q r → IsLinked s own p r
  linked_join p q r l m = go l.path p l.adjacent l.within l.ends
    where
      go : (path : List ℕ) (x : ℕ) → IsPath s x path → All (λ y. IsTrue (own y)) path → path_end x path ≡ q → IsLinked s own x r
      go [] x adjacent within ends = subst (λ y. IsLinked s own y r) (sym ends) m
      go (y ∷ rest) x adjacent within ends =
          linked_step x y r adjacent.0 (All-head (λ z. IsTrue (own z)) y rest within) (go rest y adjacent.1 (All-tail (λ z. IsTrue (own z)) y rest within) ends)

  -- a step last
  pub linked_more : (p q r : ℕ) → IsLinked s own p q → IsNeighbour s q r → IsTrue (own r) → IsLinked s own p r
  linked_more p q r l near mine = linked_join p q r l (linked_step q r r near mine (linked_itself r))

  pub linked_in : (p q : ℕ) → IsTrue (own p) → IsLinked s own p q → IsTrue (own q)
  linked_in p q mine l = linked_all (λ x. IsTrue (own x)) (λ x y _ _ h. h) p q mine l

  -- and lead back
  pub linked_back : AreOnBoard s own → (p q : ℕ) → IsTrue (own p) → IsLinked s own p q → IsLinked s own q p
  linked_back on p q mine l =
      (linked_all (λ x. IsLinked s own x p × IsTrue (own x)) (λ x y h near h'. (linked_step y x p (near_back s x y (on x h.1) near) h.1 h.0, h')) p q (linked_itself p, mine) l).0

-- over a larger set
pub linked_wider : (s : Size) (a b : Points) → ((q : ℕ) → IsTrue (a q) → IsTrue (b q)) → (p q : ℕ) → IsLinked s a p q → IsLinked s b p q
linked_wider s a b wider p q l = record { path = l.path; adjacent = l.adjacent; within = All-weaker (λ x. IsTrue (a x)) (λ x. IsTrue (b x)) wider l.path l.within; ends = l.ends }

-- touching is being linked to a neighbour
pub touch : (s : Size) (stones : Points) (p x q : ℕ) → IsLinked s stones p x → IsNeighbour s x q → StoneTouches s stones p q
touch s stones p x q l near = record { path = l.path; adjacent = l.adjacent; within = l.within; beside = subst (λ y. IsNeighbour s y q) (sym l.ends) near }

pub touched : (s : Size) (stones : Points) (p q : ℕ) → StoneTouches s stones p q → (x : ℕ) × IsLinked s stones p x × IsNeighbour s x q
touched s stones p q t = (path_end p t.path, record { path = t.path; adjacent = t.adjacent; within = t.within; ends = refl }, t.beside)

-- ---- links are reaching on a colouring of their own: White stands on the first point, and Black on the others of the set

abbrev mark : Bool → Bool → Option Colour
mark true own = Some White
mark false true = Some Black
mark false false = None

unfoldable pub marked : Size → Points → ℕ → Colouring
marked s own p = map (λ q. mark (eqb q p) (own q)) (range_with_len 0 (point_count s))

module _ (s : Size) (own : Points) (p : ℕ) where
  entry : (q : ℕ) → q < point_count s → entry_at (marked s own p) q ≡ mark (eqb q p) (own q)
  unfolding marked
  entry q in_q = get_or-map-range_with_len (λ x. mark (eqb x p) (own x)) 0 (point_count s) q q None in_q (omega arith)

  pub entry_first : p < point_count s → entry_at (marked s own p) p ≡ Some White
  entry_first in_p = entry p in_p ∙ ap (λ b. mark b (own p)) (eq-eqb p p refl)

  pub entry_own : (q : ℕ) → q < point_count s → q ≢ p → IsTrue (own q) → entry_at (marked s own p) q ≡ Some Black
  entry_own q in_q apart mine = entry q in_q ∙ ap (λ b. mark b (own q)) (ne_eqb q p apart) ∙ ap (mark false) mine

  pub is_first : (q : ℕ) → q < point_count s → entry_at (marked s own p) q ≡ Some White → q ≡ p
  is_first q in_q e = elim (cases_eq q p) [
    | inl same ↦ same
    | inr apart ↦ absurd (by (own q) (sym (entry q in_q ∙ ap (λ b. mark b (own q)) (ne_eqb q p apart)) ∙ e))
  ]
    where
      by : (b : Bool) → mark false b ≡ Some White → ⊥
      by true e = cc
      by false e = cc

  pub is_own : (q : ℕ) → q < point_count s → entry_at (marked s own p) q ≡ Some Black → (q ≢ p) × IsTrue (own q)
  is_own q in_q e = by (eqb q p) (own q) refl refl (sym (entry q in_q) ∙ e)
    where
      by : (a b : Bool) → eqb q p ≡ a → own q ≡ b → mark a b ≡ Some Black → (q ≢ p) × IsTrue (own q)
      by true b _ _ e = absurd (let h : Some White ≡ Some Black = e in cc)
      by false true ne h _ = (λ same. true≢false (sym (eq-eqb q p same) ∙ ne), h)
      by false false _ _ e = absurd (let h : None ≡ Some Black = e in cc)

  -- the first point, or one that reaches it
  abbrev pub IsFirstOrReaches : ℕ → Type 0
  IsFirstOrReaches q = (q ≡ p) ⊎ ((entry_at (marked s own p) q ≡ Some Black) × Reaches s (marked s own p) q (Some White))

  module _ (on : AreOnBoard s own) (mine : IsTrue (own p)) where
    pub linked_of : (q : ℕ) → q < point_count s → IsFirstOrReaches q → IsLinked s own p q
    linked_of q in_q (inl same) = subst (λ x. IsLinked s own p x) (sym same) (linked_itself s own p)
    linked_of q in_q (inr (black, r)) =
        reaches_all s (marked s own p) (Some White) (λ x. entry_at (marked s own p) x ≡ Some Black → IsLinked s own p x)
        (λ x y in_x _ near white own_x.
        let back = near_back s x y in_x near in
        let at = subst (λ z. IsNeighbour s z x) (is_first y near.0 white) back in
        linked_step s own p x x at (is_own x in_x own_x).1 (linked_itself s own x))
        (λ x y in_x _ near same h own_x. linked_more s own p y x (h (same ∙ own_x)) (near_back s x y in_x near) (is_own x in_x own_x).1)
        q r.path in_q r.adjacent r.alike r.other r.found r.beside r.has_entry black

    pub reaches_of : (q : ℕ) → IsLinked s own p q → IsFirstOrReaches q
    reaches_of q l =
        (linked_all s own (λ x. (x < point_count s) × IsFirstOrReaches x)
        (λ x y h near own_y. (near.0, step x y h.0 h.1 near own_y))
        p q (on p mine, inl refl) l).1
      where
        step : (x y : ℕ) → x < point_count s → IsFirstOrReaches x → IsNeighbour s x y → IsTrue (own y) → IsFirstOrReaches y
        step x y in_x h near own_y = elim (cases_eq y p) [
          | inl same ↦ inl same
          | inr apart ↦
              let black = entry_own y near.0 apart own_y in
              let back = near_back s x y in_x near in
              let other : entry_at (marked s own p) y ≢ Some White = λ e. (let h : Some Black ≡ Some White = sym black ∙ e in cc) in
              elim h [
                | inl first ↦ inr (black, reaches_beside s (marked s own p) (Some White) y x other back (ap (entry_at (marked s own p)) first ∙ entry_first (on p mine)))
                | inr (own_x, r) ↦ inr (black, reaches_on s (marked s own p) (Some White) y x back (own_x ∙ sym black) r)
              ]
        ]

    -- the two are one
    pub linked_is : (q : ℕ) → q < point_count s → IsFirstOrReaches q ↔ IsLinked s own p q
    linked_is q in_q = (linked_of q in_q, reaches_of q)

    -- so links are decided
    pub decide_linked : (q : ℕ) → Decision (IsLinked s own p q)
    decide_linked q = elim (cases_Bool (own q)) [
      | inr off ↦ inr (λ l. false≢true (sym off ∙ linked_in s own p q mine l))
      | inl there ↦ elim (cases_eq q p) [
        | inl same ↦ inl (linked_of q (on q there) (inl same))
        | inr apart ↦ elim (cases_Bool (reaches s (marked s own p) q (Some White))) [
          | inl reached ↦ inl (linked_of q (on q there) (inr (entry_own q (on q there) apart there, (reaches_is_exact s (marked s own p) q (Some White) (on q there)).0 reached)))
          | inr dead ↦ inr (λ l. elim (reaches_of q l) [
            | inl same ↦ apart same
            | inr r ↦ false≢true (sym dead ∙ (reaches_is_exact s (marked s own p) q (Some White) (on q there)).1 r.1)
          ])
        ]
      ]
    ]

    -- and what is linked to a point is a set
    pub linked_points : (linked : Points) × IsLinkedSet s own p linked
    linked_points = (λ q. decision_test (decide_linked q), λ q. decision_test_is_exact (decide_linked q))
