-- What follows from the definition of reaching; `reaches` is decided by it.
use Rattle.std.proofs.Common.{◌≡◌, ◌≢◌, ℕ, ◌+◌, ◌<◌, List, [], ◌∷◌, length, Option, Bool, true, false, IsTrue, All, inl, inr, sym, subst, ◌∙◌, cond, not, get_or, set, arith}
use Rattle.std.proofs.lemmas.List.Elements.{All-nil, All-cons, All-head, All-tail, All-weaker}
use Rattle.std.proofs.lemmas.List.{get_or-set_other}
use Rattle.std.proofs.lemmas.List.Sums.{sum_by-set}
use Rattle.std.proofs.lemmas.Bool.{cases_eq}
use Rattle.tt_board.specs.declared.Colour.{Colour}
use Rattle.tt_sgf.specs.declared.size.Size.{Size}
use Rattle.tt_sgf.specs.Sizes.{point_count}
use Rattle.tt_board.specs.Near.{IsNeighbour}
use Rattle.tt_board.specs.Position.{Colouring}
use Rattle.tt_board.specs.Reach.{entry_at, IsPath, path_end, Reaches}
use Rattle.tt_board.specs.Fill.{is_flagged, IsFillableNext, IsSoundFill, IsClosedFill, IsReachingFill, unfilled_count}

module _ (s : Size) (c : Colouring) (e : Option Colour) where
  -- a point beside one with entry e reaches it
  pub reaches_beside : (p q : ℕ) → entry_at c p ≢ e → IsNeighbour s p q → entry_at c q ≡ e → Reaches s c p e
  reaches_beside p q other near has = record {
    path = [];
    adjacent = tt;
    alike = All-nil (λ r. entry_at c r ≡ entry_at c p);
    other = other;
    found = q;
    beside = near;
    has_entry = has;
  }

  -- a point reaches what an adjacent point like it reaches
  pub reaches_on : (p q : ℕ) → IsNeighbour s p q → entry_at c q ≡ entry_at c p → Reaches s c q e → Reaches s c p e
  reaches_on p q near same r = record {
    path = q ∷ r.path;
    adjacent = (near, r.adjacent);
    alike = All-cons (λ x. entry_at c x ≡ entry_at c p) q r.path same
        (All-weaker (λ x. entry_at c x ≡ entry_at c q) (λ x. entry_at c x ≡ entry_at c p) (λ x h. h ∙ same) r.path r.alike);
    other = λ h. r.other (same ∙ h);
    found = r.found;
    beside = r.beside;
    has_entry = r.has_entry;
  }

  -- what holds beside e, and spreads to adjacent points of one colour, holds wherever e is reached
  pub reaches_all : (S : ℕ → Type 0)
      → ((p q : ℕ) → p < point_count s → entry_at c p ≢ e → IsNeighbour s p q → entry_at c q ≡ e → S p)
      → ((p q : ℕ) → p < point_count s → entry_at c p ≢ e → IsNeighbour s p q → entry_at c q ≡ entry_at c p → S q → S p)
      → (p : ℕ) (path : List ℕ) → p < point_count s → IsPath s p path → All (λ q. entry_at c q ≡ entry_at c p) path
      → entry_at c p ≢ e → (found : ℕ) → IsNeighbour s (path_end p path) found → entry_at c found ≡ e → S p
  reaches_all S at_edge spread p [] in_p linked alike other found near has = at_edge p found in_p other near has
  reaches_all S at_edge spread p (q ∷ rest) in_p linked alike other found near has =
      let same = All-head (λ x. entry_at c x ≡ entry_at c p) q rest alike in
      let tail = All-tail (λ x. entry_at c x ≡ entry_at c p) q rest alike in
      spread p q in_p other linked.0 same
      (reaches_all S at_edge spread q rest linked.0.0 linked.1
      (All-weaker (λ x. entry_at c x ≡ entry_at c p) (λ x. entry_at c x ≡ entry_at c q) (λ x h. h ∙ sym same) rest tail)
      (λ h. other (sym same ∙ h)) found near has)

  -- a step of the fill takes only what reaches e
  pub next_reaches : (m : List Bool) (p : ℕ) → IsSoundFill s c e m → IsFillableNext s c e m p → Reaches s c p e
  next_reaches m p sound (other, (q, near, inl has)) = reaches_beside p q other near has
  next_reaches m p sound (other, (q, near, inr like)) = reaches_on p q near like.0 (sound q near.0 like.1)

  -- a fill that can't go on has all that reaches e
  pub filled : (m : List Bool) → IsSoundFill s c e m → IsClosedFill s c e m → IsReachingFill s c e m
  filled m sound closed p in_p = (
    sound p in_p,
    λ r.
        reaches_all (λ x. IsTrue (is_flagged m x))
        (λ x q in_x other near has. closed x in_x (other, (q, near, inl has)))
        (λ x q in_x other near same in_fill. closed x in_x (other, (q, near, inr (same, in_fill))))
        p r.path in_p r.adjacent r.alike r.other r.found r.beside r.has_entry,
  )

  -- a point that is next may be filled
  pub sound_more : (m : List Bool) (p : ℕ) → p < length m → IsSoundFill s c e m → IsFillableNext s c e m p → IsSoundFill s c e (set m p true)
  sound_more m p in_m sound next q in_q in_fill =
      elim (cases_eq q p) [
        | inl same ↦ subst (λ x. Reaches s c x e) (sym same) (next_reaches m p sound next)
        | inr apart ↦ sound q in_q (subst (λ b. b ≡ true) (get_or-set_other m p q true false apart) in_fill)
      ]

-- a point more in the fill is one fewer outside
pub unfilled_fewer : (m : List Bool) (p : ℕ) → p < length m → is_flagged m p ≡ false → unfilled_count (set m p true) + 1 ≡ unfilled_count m
unfilled_fewer m p in_m bare =
    let h = sum_by-set (λ b. cond (not b) 1 0) m p true false in_m in
    let was : ◌≡◌ {A = ℕ} (cond (not (get_or m p false)) 1 0) 1 = rw bare in
    omega (arith, h, was)
