-- A strategy is carried to another history: one path and two histories.
use Rattle.std.proofs.Common.{◌≡◌, ℕ, ◌+◌, ◌⊎◌, inl, inr, List, [], ◌∷◌, ◌++◌, ◌∙◌, None, refl, sym, ap, subst, Contains}
use Rattle.std.proofs.lemmas.List.Elements.{Contains-append_left, Contains-append_right, Contains-append_cases}
use Rattle.tt_board.specs.Position.{Colouring}
use Rattle.tt_board.specs.Play.{play_of}
use Rattle.tt_board.specs.Reach.{entry_at}
use Rattle.tt_game.specs.Game.{State, IsLegal, after, winner_of, winner_on, opponent, side_colour, history, colouring_after_play}
use Rattle.tt_game.specs.declared.frame.Side.{Side}
use Rattle.tt_game.specs.declared.frame.Frame.{Frame}
use Rattle.tt_game.specs.declared.turns.Turn.{Turn}
use Rattle.tt_game.specs.declared.turns.Turn.TheVariants.{Play, Pass}
use Rattle.tt_proof.specs.Strategy.{Strategy, Entries, done, pick, reply, none, entry}
use Rattle.tt_life.specs.Life.{IsUnconditionallyAlive}
use Rattle.tt_proof.specs.EndRules.{EndRule, at_win, at_win_or_life, MayEnd}
use Rattle.tt_proof.specs.Wins.{WinsUnder, WinsBehindUnder}
use Rattle.tt_proof.specs.Footprints.{IsNeeded, IsNeededBehind, IsAvoided, IsAvoidedBehind, IsRepeatedByPlay, Fits, path_after_turn, MakesColouring}
use Rattle.tt_game.specs.laws.Members.{in_of_contains}

-- the history is h and the path, as sets
pub record Splits (h path all : List Colouring) : Type 0 where
  pub cases : (c : Colouring) → Contains all c → Contains h c ⊎ Contains path c
  pub old : (c : Colouring) → Contains h c → Contains all c
  pub new : (c : Colouring) → Contains path c → Contains all c

splits_push : (h path all : List Colouring) (c : Colouring) → Splits h path all → Splits h (path ++ c ∷ []) (all ++ c ∷ [])
splits_push h path all c r = record {
  cases = λ d m. pass d (Contains-append_cases all (c ∷ []) d m);
  old = λ d m. Contains-append_left all (c ∷ []) d (r.old d m);
  new = λ d m. fresh d (Contains-append_cases path (c ∷ []) d m);
}
  where
    split : (d : Colouring) → Contains h d ⊎ Contains path d → Contains h d ⊎ Contains (path ++ c ∷ []) d
    split d (inl x) = inl x
    split d (inr x) = inr (Contains-append_left path (c ∷ []) d x)

    pass : (d : Colouring) → Contains all d ⊎ Contains (c ∷ []) d → Contains h d ⊎ Contains (path ++ c ∷ []) d
    pass d (inl m) = split d (r.cases d m)
    pass d (inr m) = inr (Contains-append_right path (c ∷ []) d m)

    fresh : (d : Colouring) → Contains path d ⊎ Contains (c ∷ []) d → Contains (all ++ c ∷ []) d
    fresh d (inl m) = Contains-append_left all (c ∷ []) d (r.new d m)
    fresh d (inr m) = Contains-append_right all (c ∷ []) d m

pub splits_none : (h : List Colouring) → Splits h [] h
splits_none h = record { cases = λ c m. inl m; old = λ c m. m; new = λ c m. absurd (in_of_contains [] c m) }

-- the states have one position; their histories are one path behind two
pub record Carried (h k path : List Colouring) (a b : State) : Type 0 where
  pub present : b.present ≡ a.present
  pub to_move : b.to_move ≡ a.to_move
  pub passes : b.passes ≡ a.passes
  pub before : Splits h path (history a)
  pub now : Splits k path (history b)

module _ (side : Side) (f : Frame) (h k : List Colouring) where
  pub same_made : (path : List Colouring) (a b : State) (p : ℕ) → Carried h k path a b → colouring_after_play f b p ≡ colouring_after_play f a p
  same_made path a b p r =
      ap (λ x. play_of f.size x (side_colour f b.to_move) p) r.present ∙ ap (λ x. play_of f.size a.present (side_colour f x) p) r.to_move

  pub same_winner : (path : List Colouring) (a b : State) → Carried h k path a b → winner_of f b ≡ winner_of f a
  same_winner path a b r = ap (λ x. winner_on f x b.passes) r.present ∙ ap (λ n. winner_on f a.present n) r.passes

  pub carried_after : (path : List Colouring) (a b : State) (t : Turn) → Carried h k path a b →
      Carried h k (path_after_turn f a t path) (after f a t) (after f b t)
  carried_after path a b Pass r =
      record { present = r.present; to_move = ap opponent r.to_move; passes = ap (λ n. n + 1) r.passes; before = r.before; now = r.now }
  carried_after path a b (Play p) r =
      record {
        present = same_made path a b p r;
        to_move = ap opponent r.to_move;
        passes = refl;
        before = splits_push h path (history a) (colouring_after_play f a p) r.before;
        now = rw (same_made path a b p r) (splits_push k path (history b) (colouring_after_play f a p) r.now);
      }

  -- a turn of the side stays legal where the other history has not the colouring that it makes
  pub legal_now : (path : List Colouring) (a b : State) (t : Turn) → Carried h k path a b → IsLegal f a t →
      ((c : Colouring) → MakesColouring f a t c → Contains k c → ⊥) → IsLegal f b t
  legal_now path a b Pass r l n = same_winner path a b r ∙ l
  legal_now path a b (Play p) r l n = (
    same_winner path a b r ∙ l.0,
    l.1,
    ap (λ x. entry_at x p) r.present ∙ l.2,
    l.3,
    λ m. pass (r.now.cases _ (subst (λ x. Contains (history b) x) (same_made path a b p r) m)),
  )
    where
      pass : Contains k (colouring_after_play f a p) ⊎ Contains path (colouring_after_play f a p) → ⊥
      pass (inl m) = n _ refl m
      pass (inr m) = l.4 (r.before.new _ m)

  -- a turn of the other side that is legal now was legal before, or repeats a colouring of h that k has not
  pub legal_before : (path : List Colouring) (a b : State) (t : Turn) → Carried h k path a b → IsLegal f b t →
      ((c : Colouring) → IsRepeatedByPlay f h path a c → Contains k c) → IsLegal f a t
  legal_before path a b Pass r l n = sym (same_winner path a b r) ∙ l
  legal_before path a b (Play p) r l n =
      (sym (same_winner path a b r) ∙ l.0, l.1, free, l.3, λ m. pass (r.before.cases _ m))
    where
      free : entry_at a.present p ≡ None
      free = sym (ap (λ x. entry_at x p) r.present) ∙ l.2

      now_not : Contains (history b) (colouring_after_play f a p) → ⊥
      now_not m = l.4 (subst (λ x. Contains (history b) x) (sym (same_made path a b p r)) m)

      pass : Contains h (colouring_after_play f a p) ⊎ Contains path (colouring_after_play f a p) → ⊥
      pass (inr m) = now_not (r.now.new _ m)
      pass (inl m) = now_not (r.now.old _ (n _ ((p, l.1, free, l.3, refl), m, λ w. now_not (r.now.new _ w))))

module _ (rule : EndRule) (side : Side) (f : Frame) (h k : List Colouring) where
  -- a strategy may end at both or at neither
  pub same_end : (path : List Colouring) (a b : State) → Carried h k path a b → MayEnd rule side f a → MayEnd rule side f b
  same_end path a b r w = by rule w
    where
      by : (x : EndRule) → MayEnd x side f a → MayEnd x side f b
      by at_win won = same_winner side f h k path a b r ∙ won
      by at_win_or_life (inl won) = inl (same_winner side f h k path a b r ∙ won)
      by at_win_or_life (inr lives) = inr (lives.0, r.to_move ∙ lives.1, subst (λ c. IsUnconditionallyAlive f c) (sym r.present) lives.2)

  mutual
    moved : (u : Strategy) (path : List Colouring) (a b : State) → Carried h k path a b → WinsUnder rule side f u a →
        ((c : Colouring) → IsNeeded f h u path a c → Contains k c) → ((c : Colouring) → IsAvoided f u a c → Contains k c → ⊥) →
        WinsUnder rule side f u b
    moved done path a b r w n v = same_end path a b r w
    moved (pick t u) path a b r w n v = (
      same_winner side f h k path a b r ∙ w.0,
      r.to_move ∙ w.1,
      legal_now side f h k path a b t r w.2 (λ c m. v c (w.2, inl m)),
      moved u (path_after_turn f a t path) (after f a t) (after f b t) (carried_after side f h k path a b t r) w.3 (λ c m. n c (w.2, m)) (λ c m. v c (w.2, inr m)),
    )
    moved (reply es) path a b r w n v = (
      same_winner side f h k path a b r ∙ w.0,
      r.to_move ∙ w.1,
      λ t l. let l' = legal_before side f h k path a b t r l (λ c m. n c (inl m)) in
          moved_behind es t path a b r l' (w.2 t l') (λ c m. n c (inr m)) v,
    )

    moved_behind : (es : Entries) (t : Turn) (path : List Colouring) (a b : State) → Carried h k path a b → IsLegal f a t →
        WinsBehindUnder rule side f es t a → ((c : Colouring) → IsNeededBehind f h es path a c → Contains k c) →
        ((c : Colouring) → IsAvoidedBehind f es a c → Contains k c → ⊥) → WinsBehindUnder rule side f es t b
    moved_behind none t path a b r l w n v = w
    moved_behind (entry t' u es) t path a b r l (inl w) n v =
        let l' = subst (λ x. IsLegal f a x) (sym w.0) l in
        inl (
          w.0,
          subst (λ x. WinsUnder rule side f u (after f b x)) w.0
              (moved u (path_after_turn f a t' path) (after f a t') (after f b t') (carried_after side f h k path a b t' r)
              (subst (λ x. WinsUnder rule side f u (after f a x)) (sym w.0) w.1) (λ c m. n c (inl (l', m))) (λ c m. v c (inl (l', m)))),
        )
    moved_behind (entry t' u es) t path a b r l (inr w) n v =
        inr (moved_behind es t path a b r l w (λ c m. n c (inr m)) (λ c m. v c (inr m)))

pub fitting_wins : (rule : EndRule) (side : Side) (f : Frame) (u : Strategy) (s s' : State) → WinsUnder rule side f u s → Fits f u s s' → WinsUnder rule side f u s'
fitting_wins rule side f u s s' w fits =
    moved rule side f (history s) (history s') u [] s s'
    (record {
      present = fits.present;
      to_move = fits.to_move;
      passes = fits.passes;
      before = splits_none (history s);
      now = splits_none (history s');
    })
    w fits.needs fits.avoids
