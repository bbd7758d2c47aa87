-- What is known of a play where no stone of its colour has stood.
use Rattle.std.proofs.Common.{◌≡◌, ◌||◌, ℕ, ◌<◌, List, [], ◌∷◌, Bool, true, false, length, set, Some, None, inl, inr, sym, ap, ◌∙◌, arith}
use Rattle.std.specs.List.{list_any}
use Rattle.std.proofs.lemmas.Bool.{cases_eq, cases_Bool, false≢true, cond-true, cond-false, or_cases}
use Rattle.std.proofs.lemmas.Option.{none-some}
use Rattle.std.proofs.lemmas.List.{get_or-set_same, get_or-set_other}
use Rattle.tt_sgf.specs.Sizes.{point_count}
use Rattle.tt_board.specs.declared.Colour.{Colour}
use Rattle.tt_board.specs.declared.counted.play_kind.PlayKind.TheVariants.{NoCapture}
use Rattle.tt_board.specs.Position.{Colouring}
use Rattle.tt_board.specs.Reach.{entry_at}
use Rattle.tt_board.specs.Play.{play_of, is_empty}
use Rattle.tt_board.specs.Stones.{PointNumberSet, any_empty}
use Rattle.tt_game.specs.declared.frame.Frame.{Frame}
use Rattle.tt_game.specs.declared.frame.Side.TheVariants.{Attacker}
use Rattle.tt_game.specs.GameHistory.{IsInHistory}
use Rattle.tt_game.specs.Game.{State, history, side_colour, colouring_after_play, winner_of, winner_on}
use Rattle.tt_game.specs.MoveGenerators.{IsForetoldKind}

-- a stone that comes alone, on a point where its colour never stood, makes a colouring that hasn't been
pub no_capture_where_new : (f : Frame) (s : State) (k : Colour) (p : ℕ) → k ≡ side_colour f s.to_move → length s.present ≡ point_count f.size → p < point_count f.size
    → play_of f.size s.present k p ≡ set s.present p (Some k) → ((c : Colouring) → IsInHistory (history s) c → entry_at c p ≡ Some k → ⊥) → IsForetoldKind NoCapture f s p
no_capture_where_new f s k p colour fits on no_capture never =
    let here : entry_at (set s.present p (Some k)) p ≡ Some k = get_or-set_same s.present p (Some k) None (omega (arith, fits, on)) in
    rw (sym colour) (λ has. never _ has (ap (λ xs. entry_at xs p) no_capture ∙ here), no_capture)

-- what passes a test passes a weaker one
any_up : (f g : ℕ → Bool) (xs : List ℕ) → ((x : ℕ) → g x ≡ true → f x ≡ true) → list_any g xs ≡ true → list_any f xs ≡ true
any_up f g [] weaker h = h
any_up f g (x ∷ xs) weaker h = elim (or_cases (g x) (list_any g xs) h) [
  | inl here ↦ ap (λ b. b || list_any f xs) (weaker x here)
  | inr later ↦ elim (cases_Bool (f x)) [
    | inl on ↦ ap (λ b. b || list_any f xs) on
    | inr off ↦ ap (λ b. b || list_any f xs) off ∙ any_up f g xs weaker later
  ]
]

-- a stone that comes empties no point
still_filled : (ts : PointNumberSet) (c : Colouring) (p : ℕ) (k : Colour) → entry_at c p ≡ None → any_empty ts c ≡ false → any_empty ts (set c p (Some k)) ≡ false
unfolding any_empty
still_filled ts c p k free filled = elim (cases_Bool (any_empty ts (set c p (Some k)))) [
  | inl some ↦ absurd (false≢true (sym filled ∙ any_up (λ q. is_empty (entry_at c q)) (λ q. is_empty (entry_at (set c p (Some k)) q)) _ (λ q bare. elim (cases_eq q p) [
    | inl same ↦ ap (λ j. is_empty (entry_at c j)) same ∙ ap is_empty free
    | inr apart ↦ ap is_empty (sym (get_or-set_other c p q (Some k) None apart)) ∙ bare
  ]) some))
  | inr none ↦ none
]

-- nobody has won after a play that puts its stone and takes none off, where nobody had before it
pub nobody_put : (f : Frame) (s : State) (p : ℕ) → winner_of f s ≡ None → entry_at s.present p ≡ None
    → colouring_after_play f s p ≡ set s.present p (Some (side_colour f s.to_move)) → winner_on f (colouring_after_play f s p) 0 ≡ None
nobody_put f s p open_ free no_capture =
    let filled : any_empty f.targets s.present ≡ false = elim (cases_Bool (any_empty f.targets s.present)) [
      | inl dead ↦ absurd (none-some Attacker (sym open_ ∙ cond-true _ _ _ dead))
      | inr alive ↦ alive
    ] in
    cond-false _ _ _ (ap (any_empty f.targets) no_capture ∙ still_filled f.targets s.present p (side_colour f s.to_move) free filled)
