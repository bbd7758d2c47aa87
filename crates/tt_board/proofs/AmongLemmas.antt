-- Quiet plays among empty points, by the sets of points beside them.
use Rattle.std.proofs.Common.{◌≡◌, ◌≢◌, ℕ, ◌+◌, ◌/◌, ◌<◌, ◌≤◌, ◌↔◌, true, false, not, ◌&&◌, List, Option, Some, None, set, length, inl, inr, refl, sym, ap, ◌∙◌, arith}
use Rattle.std.proofs.lemmas.Bool.{cases_lt, cases_eq, true≢false, false≢true, not-true, and_parts, and_from}
use Rattle.std.proofs.lemmas.Option.{none-some}
use Rattle.tt_sgf.specs.declared.bits.TheConstants.{BITS}
use Rattle.tt_sgf.specs.Sizes.{point_count}
use Rattle.tt_sgf.specs.laws.SizeLaws.{point_count_is_bounded}
use Rattle.tt_sgf.specs.MachineWords.{bit_in, AreBitsOf}
use Rattle.tt_board.specs.declared.Colour.{Colour}
use Rattle.tt_board.specs.declared.Colour.TheVariants.{Black, White}
use Rattle.tt_board.specs.Reach.{entry_at}
use Rattle.tt_board.specs.Play.{other, is_stone_of, play_of}
use Rattle.tt_board.specs.Around.{AreOn, IsBesideSome}
use Rattle.tt_board.specs.inside.Chains.{ChainBoard, IsChainBoard, name_at, root_of, colour_number, Touches}
use Rattle.tt_board.proofs.AroundLemmas.{off_if}
use Rattle.tt_board.specs.laws.NearLaws.{near_back}
use Rattle.tt_board.proofs.LinkLemmas.{named_bare}
use Rattle.tt_board.proofs.LookLemmas.{code_colour, put_no_capture}

-- a stone of a colour is one
stone_there : (e : Option Colour) (k : Colour) → is_stone_of e k ≡ true → e ≢ None
stone_there None k on = λ _. false≢true on
stone_there (Some j) k on = λ none. none-some j (sym none)

-- and is one of that colour
own_stone : (e : Option Colour) (k : Colour) → e ≡ Some k → is_stone_of e k ≡ true
own_stone e Black is = rw is refl
own_stone e White is = rw is refl

-- empty points that were handed in, those of them on the board, the points beside these, and the opponent's stones there
module _ (b : ChainBoard) (k : Colour) (is : IsChainBoard b) (given points near theirs stones : List ℕ)
    (free : (q : ℕ) → q < point_count b.size → bit_in given q ≡ true → entry_at b.points q ≡ None)
    (kept : (q : ℕ) → q < BITS → q < point_count b.size → bit_in points q ≡ bit_in given q)
    (none : (q : ℕ) → q < BITS → point_count b.size ≤ q → bit_in points q ≡ false)
    (near_is : (p : ℕ) → p < point_count b.size → (bit_in near p ≡ true) ↔ IsBesideSome b.size points p)
    (their_stones : AreBitsOf theirs (length b.points) (λ p. is_stone_of (entry_at b.points p) (other k)))
    (stones_is : (q : ℕ) → q < BITS → bit_in stones q ≡ (bit_in near q && bit_in theirs q)) where
  -- a point of the board has its bit
  small : (q : ℕ) → q < point_count b.size → q < BITS
  small q in_q = omega (arith, point_count_is_bounded b.size)

  -- a point that is kept is an empty one on the board
  bare : (q : ℕ) → q < BITS → bit_in points q ≡ true → (q < point_count b.size) × (bit_in given q ≡ true) × (entry_at b.points q ≡ None)
  bare q lt on = elim (cases_lt q (point_count b.size)) [
    | inl under ↦ let was = sym (kept q lt under) ∙ on in (under, was, free q under was)
    | inr past ↦ absurd (true≢false (sym on ∙ none q lt past))
  ]

  -- the stones are stones on the board
  pub stones_on : (q : ℕ) → q < BITS → bit_in stones q ≡ true → (q < point_count b.size) × (entry_at b.points q ≢ None)
  stones_on q lt on =
      let h = (and_parts (bit_in near q) (bit_in theirs q) (sym (stones_is q lt) ∙ on)).1 in
      elim (cases_lt q (length b.points)) [
        | inl under ↦ (omega (arith, under, is.fits), stone_there _ (other k) (sym (their_stones.below q under lt) ∙ h))
        | inr past ↦ absurd (true≢false (sym h ∙ their_stones.behind q past lt))
      ]

  -- those whose chain has one liberty
  module _ (last : List ℕ) (last_is : (q : ℕ) → q < BITS → (bit_in last q ≡ true) ↔ ((bit_in stones q ≡ true) × (name_at b.counts.liberties (root_of (name_at b.counts.names q)) ≡ 1))) where
    pub last_on : AreOn b.size last
    last_on q past lt = off_if (bit_in last q) (λ on. let at = (stones_on q lt ((last_is q lt).0 on).0).0 in omega (arith, at, past))

    -- a point beside one that is kept, and beside none of these stones: the play is quiet
    pub no_capture_here : (around both made : List ℕ) → ((p : ℕ) → p < point_count b.size → (bit_in around p ≡ true) ↔ IsBesideSome b.size last p)
        → ((q : ℕ) → q < BITS → bit_in both q ≡ (bit_in points q && bit_in near q)) → ((q : ℕ) → q < BITS → bit_in made q ≡ (bit_in both q && not (bit_in around q)))
        → (p : ℕ) → p < BITS → bit_in made p ≡ true → (bit_in given p ≡ true) × (play_of b.size b.points k p ≡ set b.points p (Some k))
    no_capture_here around both made around_is both_is made_is p lt on =
        let h = and_parts (bit_in both p) (not (bit_in around p)) (sym (made_is p lt) ∙ on) in
        let g = and_parts (bit_in points p) (bit_in near p) (sym (both_is p lt) ∙ h.0) in
        let at = bare p lt g.0 in
        let way = (near_is p at.0).0 g.1 in
        let free_way = bare way.0 (small way.0 way.1.0) way.2 in
        let touch : Touches b.size b.counts.names 0 p = (way.0, way.1.0, (way.1, named_bare _ _ (is.named.named way.0) free_way.2)) in
        let strong : (m : ℕ) → Touches b.size b.counts.names m p → m / 512 ≡ colour_number (other k) → name_at b.counts.liberties (root_of m) ≢ 1 = λ m t code one.
        let back = near_back b.size p t.0 at.0 t.2.0 in
        let mine : entry_at b.points t.0 ≡ Some (other k) = code_colour _ _ (other k) (is.named.named t.0) (ap (λ x. x / 512) t.2.1 ∙ code) in
        let beside = (near_is t.0 t.1).1 (p, back, g.0) in
        let stone : bit_in theirs t.0 ≡ true = their_stones.below t.0 (omega (arith, t.1, is.fits)) (small t.0 t.1) ∙ own_stone _ (other k) mine in
        let among = stones_is t.0 (small t.0 t.1) ∙ and_from _ _ beside stone in
        let weak = (last_is t.0 (small t.0 t.1)).1 (among, ap (λ x. name_at b.counts.liberties (root_of x)) t.2.1 ∙ one) in
        true≢false (sym ((around_is p at.0).1 (t.0, t.2.0, weak)) ∙ not-true _ h.1) in
        (at.1, put_no_capture b k p is at.0 at.2 strong 0 touch (inl refl))

-- one of the stones looked at and put where it passes, and the way to the next one
module _ (stones found made : List ℕ) (Passes : ℕ → Type 0) (q next : ℕ) (after : q + 1 ≤ next) (stone : bit_in stones q ≡ true)
    (none : (r : ℕ) → q + 1 ≤ r → r < next → r < BITS → bit_in stones r ≡ false) (rest : (r : ℕ) → q ≤ r → r < BITS → bit_in found r ≡ false)
    (here : (bit_in made q ≡ true) ↔ Passes q) (others : (r : ℕ) → r < BITS → (r ≡ q → ⊥) → bit_in made r ≡ bit_in found r) where
  -- all before the next one are done
  pub sift_done : ((r : ℕ) → r < q → r < BITS → (bit_in found r ≡ true) ↔ ((bit_in stones r ≡ true) × Passes r))
      → (r : ℕ) → r < next → r < BITS → (bit_in made r ≡ true) ↔ ((bit_in stones r ≡ true) × Passes r)
  sift_done done r before lt = elim (cases_lt r q) [
    | inl old ↦
        let stays = others r lt (λ e. omega (arith, e, old)) in
        (λ on. (done r old lt).0 (sym stays ∙ on), λ h. stays ∙ (done r old lt).1 h)
    | inr since ↦ elim (cases_eq r q) [
      | inl e ↦ rw e (λ on. (stone, here.0 on), λ h. here.1 h.1)
      | inr d ↦ (
        λ on. absurd (true≢false (sym on ∙ others r lt d ∙ rest r since lt)),
        λ h. absurd (true≢false (sym h.0 ∙ none r (omega (arith, since, d)) before lt)),
      )
    ]
  ]

  -- and from there on nothing is put
  pub sift_rest : (r : ℕ) → next ≤ r → r < BITS → bit_in made r ≡ false
  sift_rest r past lt = others r lt (λ e. omega (arith, e, after, past)) ∙ rest r (omega (arith, after, past)) lt
