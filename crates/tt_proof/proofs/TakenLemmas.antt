-- Where a proof's own footprint may be taken: behind a beginning that both histories have, a bound tells that nothing is met.
use Rattle.std.proofs.Common.{◌≡◌, ◌↔◌, ◌⊎◌, ℕ, zero, suc, ◌-◌, ◌∙◌, inl, inr, List, [], ◌∷◌, ◌++◌, length, take, drop, All, Contains, arith, sym, ap, subst}
use Rattle.std.proofs.Math.Seq.{take-append_seam}
use Rattle.std.proofs.lemmas.List.{take-map, drop-map, length-map, length-append}
use Rattle.std.proofs.lemmas.List.Elements.{All-take, All-drop, All-contains, Contains-append_right}
use Rattle.tt_board.specs.Position.{Position, Colouring, colourings}
use Rattle.tt_game.specs.Game.{State, history}
use Rattle.tt_game.specs.laws.Members.{IsIn, in_of_contains, contains_of_in}
use Rattle.tt_game.specs.declared.frame.Frame.{Frame}
use Rattle.tt_proof.specs.declared.footprints.Footprint.{Footprint}
use Rattle.tt_proof.specs.BoardSetBounds.{MayContainBoard}
use Rattle.tt_proof.specs.EndRules.{EndRule}
use Rattle.tt_proof.specs.ProofClaim.{ProofClaim, IsWinningTreeUnder}
use Rattle.tt_proof.specs.Footprints.{IsMet, FitsAt}
use Rattle.tt_proof.specs.KeptFootprints.{IsFootprint, board_of_colouring}
use Rattle.tt_proof.proofs.CarryLemmas.{footprint_carried}
use Rattle.tt_proof.proofs.FittingLemmas.{board_in}

-- all but the last one
abbrev front : List Colouring → List Colouring
front cs = take (length cs - 1) cs

all_but_last : (ys : List Colouring) (y : Colouring) → front (ys ++ y ∷ []) ≡ ys
all_but_last ys y =
    let n : length (ys ++ y ∷ []) - 1 ≡ length ys = omega (arith, length-append ys (y ∷ [])) in
    ap (λ k. take k (ys ++ y ∷ [])) n ∙ take-append_seam ys (y ∷ [])

both : {A B C : Type 0} → (A ↔ B) → (B ↔ C) → A ↔ C
both h k = (λ a. k.0 (h.0 a), λ c. h.1 (k.1 c))

-- a colouring of one list is in it or is the last one
before_last : (ys : List Colouring) (y c : Colouring) → IsIn (ys ++ y ∷ []) c → IsIn (front (ys ++ y ∷ [])) c ⊎ (y ≡ c)
before_last [] y c (inl e) = inr e
before_last [] y c (inr w) = absurd w
before_last (x ∷ ys) y c (inl e) = inl (subst (λ cs. IsIn cs c) (sym (all_but_last (x ∷ ys) y)) (inl e))
before_last (x ∷ ys) y c (inr m) = elim (before_last ys y c m) [
  | inl w ↦ inl (subst (λ cs. IsIn cs c) (sym (all_but_last (x ∷ ys) y)) (inr (subst (λ cs. IsIn cs c) (all_but_last ys y) w)))
  | inr e ↦ inr e
]

-- it is among the first so many, or among those behind them but the last, or is the last one
three_parts : (n : ℕ) (ys : List Colouring) (y c : Colouring) → IsIn (ys ++ y ∷ []) c →
    IsIn (take n (ys ++ y ∷ [])) c ⊎ (IsIn (front (drop n (ys ++ y ∷ []))) c ⊎ (y ≡ c))
three_parts zero ys y c m = inr (before_last ys y c m)
three_parts (suc n) [] y c (inl e) = inl (inl e)
three_parts (suc n) [] y c (inr w) = absurd w
three_parts (suc n) (x ∷ ys) y c (inl e) = inl (inl e)
three_parts (suc n) (x ∷ ys) y c (inr m) = elim (three_parts n ys y c m) [ inl w ↦ inl (inr w) | inr w ↦ inr w ]

-- the first so many are in the list
taken_in : (n : ℕ) (xs : List Colouring) (c : Colouring) → IsIn (take n xs) c → IsIn xs c
taken_in zero xs c w = absurd w
taken_in (suc n) [] c w = absurd w
taken_in (suc n) (x ∷ xs) c (inl e) = inl e
taken_in (suc n) (x ∷ xs) c (inr m) = inr (taken_in n xs c m)

module _ (p : ProofClaim) (f : Frame) (s : State) (x : Footprint) (bs : List Position) (shows : colourings bs ≡ history s)
    (sizes : All (λ (b : Position). b.size ≡ f.size) bs) (n : ℕ) (alike : take n (history s) ≡ take n (history p.state))
    (low : All (λ (b : Position). MayContainBoard x.met b → Contains (history p.state) b.points) (take (length (drop n bs) - 1) (drop n bs))) where
  -- the boards behind the first ones, but the last one, are those of the colourings there
  low_behind : (c : Colouring) → IsIn (front (drop n (history s))) c → MayContainBoard x.met (board_of_colouring f c) → Contains (history p.state) c
  low_behind c m =
      let k = length (drop n bs) - 1 in
      let same : colourings (take k (drop n bs)) ≡ front (drop n (history s)) =
      sym (take-map (λ b. b.points) k (drop n bs)) ∙ ap (λ n'. take (n' - 1) (colourings (drop n bs))) (sym (length-map (drop n bs) (λ b. b.points)))
      ∙ ap front (sym (drop-map (λ b. b.points) n bs)) ∙ ap (λ cs. front (drop n cs)) shows in
      let sized = All-take (λ (b : Position). b.size ≡ f.size) k (drop n bs) (All-drop (λ (b : Position). b.size ≡ f.size) n bs sizes) in
      let there = board_in f (take k (drop n bs)) c sized (subst (λ cs. IsIn cs c) (sym same) m) in
      All-contains (λ (b : Position). MayContainBoard x.met b → Contains (history p.state) b.points) (take k (drop n bs)) (board_of_colouring f c) low
      (contains_of_in (take k (drop n bs)) (board_of_colouring f c) there)

  -- so what the tree meets is in the line's history only where it is in the proof's
  unmet : p.frame ≡ f → IsFootprint p.frame p.state p.tree x → s.present ≡ p.state.present → (c : Colouring) → IsMet p.frame p.tree p.state c →
      Contains (history s) c → Contains (history p.state) c
  unmet frame foot same c m k = elim (three_parts n s.earlier s.present c (in_of_contains (history s) c k)) [
    | inl begun ↦ contains_of_in (history p.state) c (taken_in n (history p.state) c (subst (λ cs. IsIn cs c) alike begun))
    | inr (inl behind) ↦ low_behind c behind (subst (λ g. MayContainBoard x.met (board_of_colouring g c)) frame (foot.met c m))
    | inr (inr e) ↦ Contains-append_right p.state.earlier (p.state.present ∷ []) c (contains_of_in (p.state.present ∷ []) c (inl (sym same ∙ e)))
  ]

  -- where the tree fits, its footprint there is its own
  pub footprint_taken : (rule : EndRule) → IsWinningTreeUnder rule p.side p.frame p.state p.tree → FitsAt p f s → IsFootprint p.frame p.state p.tree x → IsFootprint f s p.tree x
  footprint_taken rule won fits foot =
      let same = footprint_carried rule p.side p.frame p.tree p.state s won.wins won.in_order fits.1 (unmet fits.0 foot fits.1.present) in
      subst (λ g. IsFootprint g s p.tree x) fits.0
      (record {
        needs_sized = foot.needs_sized;
        avoids_sized = foot.avoids_sized;
        needed = λ c. both (foot.needed c) (same c).0;
        avoided = λ c. both (foot.avoided c) (same c).1;
        met = λ c m. foot.met c ((same c).2.1 m);
      })
