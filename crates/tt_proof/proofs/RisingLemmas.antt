-- Lists of boards whose hashes rise, and the boards of a history.
use Rattle.std.proofs.Common.{◌≡◌, ℕ, ◌<◌, ◌≤◌, inl, inr, arith, List, [], ◌∷◌, All, length, get_or, Contains, refl, sym, subst, ap}
use Rattle.std.proofs.lemmas.Bool.{cases_lt}
use Rattle.std.proofs.lemmas.List.Elements.{All-get_or}
use Rattle.tt_board.specs.Position.{Position, colourings}
use Rattle.tt_game.specs.Game.{State, history}
use Rattle.tt_game.specs.Line.{HasBoardInHistory}
use Rattle.tt_game.specs.laws.Members.{IsIn, in_of_contains, contains_of_in}
use Rattle.tt_game.specs.declared.frame.Frame.{Frame}
use Rattle.tt_proof.specs.inside.RisingHashes.{hash_of_board, DoHashesRise, IsPlaceOfHash}
use Rattle.tt_proof.specs.KeptFootprints.{board_of_colouring}
use Rattle.tt_proof.proofs.FootprintLemmas.{board_is}
use Rattle.tt_proof.proofs.FittingLemmas.{board_in}

module _ (vs : List Position) where
  -- a board that is none of those looked at from where its hash belongs isn't held, where the next one's hash is another or there is no next one
  pub not_held : (from k : ℕ) (board : Position) → DoHashesRise vs → IsPlaceOfHash vs (hash_of_board board) from → from ≤ k
      → ((i : ℕ) (d : Position) → from ≤ i → i < k → get_or vs i d ≡ board → ⊥)
      → (k < length vs → (d : Position) → hash_of_board (get_or vs k d) ≡ hash_of_board board → ⊥) → Contains vs board → ⊥
  not_held from k board rise place behind none next m = elim (cases_lt m.0 from) [
    | inl before ↦
        let a : hash_of_board (get_or vs m.0 board) < hash_of_board board = place.1.0 m.0 board (omega arith) before in
        let b : hash_of_board (get_or vs m.0 board) ≡ hash_of_board board = ap hash_of_board m.2 in
        absurd (omega (arith, a, b))
    | inr on ↦ elim (cases_lt m.0 k) [
      | inl looked ↦ none m.0 board on looked m.2
      | inr later ↦
          let lt = m.1 in
          let within : k < length vs = omega (arith, later, lt) in
          let a : hash_of_board (get_or vs k board) ≤ hash_of_board (get_or vs m.0 board) = rise k m.0 board later lt in
          let b : hash_of_board (get_or vs m.0 board) ≡ hash_of_board board = ap hash_of_board m.2 in
          let c : hash_of_board board ≤ hash_of_board (get_or vs k board) = place.1.1 k board behind within in
          next within board (omega (arith, a, b, c))
    ]
  ]

-- the boards of a history
module _ (f : Frame) (s : State) (bs : List Position) (shows : colourings bs ≡ history s) (sized : All (λ (b : Position). b.size ≡ f.size) bs) where
  pub in_history : (b : Position) → HasBoardInHistory f s b → Contains bs b
  in_history b h =
      subst (λ x. Contains bs x) (sym (board_is b f.size b.points h.0 refl))
      (contains_of_in bs (board_of_colouring f b.points) (board_in f bs b.points sized (in_of_contains (colourings bs) b.points (subst (λ cs. Contains cs b.points) (sym shows) h.1))))

  in_colourings : (vs : List Position) (b : Position) → IsIn vs b → IsIn (colourings vs) b.points
  in_colourings [] b m = absurd m
  in_colourings (x ∷ vs) b (inl e) = inl (ap (λ (z : Position). z.points) e)
  in_colourings (x ∷ vs) b (inr m) = inr (in_colourings vs b m)

  pub of_history : (b : Position) → Contains bs b → HasBoardInHistory f s b
  of_history b m =
      let lt = m.1 in (
        subst (λ (z : Position). z.size ≡ f.size) m.2 (All-get_or (λ (z : Position). z.size ≡ f.size) bs m.0 b lt sized),
        subst (λ cs. Contains cs b.points) shows (contains_of_in (colourings bs) b.points (in_colourings bs b (in_of_contains bs b m))),
      )
