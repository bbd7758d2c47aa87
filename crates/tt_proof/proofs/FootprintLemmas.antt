-- The footprints of a strategy's parts make up its own.
use Rattle.std.proofs.Common.{◌≡◌, ◌↔◌, ◌⊎◌, inl, inr, List, [], ◌∷◌, ◌++◌, sym, ap, subst, ◌∙◌, Contains, Option}
use Rattle.tt_sgf.specs.declared.size.Size.{Size}
use Rattle.tt_board.specs.Position.{Position, Colouring}
use Rattle.tt_game.specs.Game.{State, IsLegal, after, history, colouring_after_play}
use Rattle.tt_game.specs.Line.{IsRefusalOfTurn}
use Rattle.tt_game.specs.declared.faults.Why.{Why}
use Rattle.tt_game.specs.declared.faults.Why.TheVariants.{Over, Occupied, Outside, Repeats}
use Rattle.tt_game.specs.declared.frame.Frame.{Frame}
use Rattle.tt_game.specs.declared.turns.Turn.{Turn}
use Rattle.tt_game.specs.declared.turns.Turn.TheVariants.{Play, Pass}
use Rattle.tt_proof.specs.declared.footprints.Footprint.{Footprint}
use Rattle.tt_proof.specs.Strategy.{Strategy, done, pick, reply, none, entries_of}
use Rattle.tt_proof.specs.Footprints.{IsNeeded, IsNeededBehind, IsAvoided, IsAvoidedBehind, IsMet, IsMetBehind, MakesColouring, IsRepeatedByPlay, path_after_turn}
use Rattle.tt_proof.specs.KeptFootprints.{IsFootprint, IsEntryJoined, HaveFrameSize, board_of_colouring}
use Rattle.tt_proof.specs.inside.Collecting.{IsPicked, IsMadeWithin}
use Rattle.tt_proof.specs.laws.PlayedBoards.{IsPassedUp, IsPlayed}
use Rattle.tt_proof.specs.declared.board_set_bounds.BoardSetBound.{BoardSetBound}
use Rattle.tt_proof.specs.BoardSetBounds.{MayContainBoard, IsWiderOrSame}
use Rattle.tt_proof.proofs.NeedLemmas.{needed_less, needed_more}
use Rattle.tt_game.specs.laws.Members.{in_of_contains}

-- a board of this size and colouring
pub board_is : (b : Position) (g : Size) (c : Colouring) → b.size ≡ g → b.points ≡ c → b ≡ record { size = g; points = c }
board_is b g c e h =
    ap (λ (z : Size). let w : Position = record { size = z; points = b.points } in w) e
    ∙ ap (λ (z : Colouring). let w : Position = record { size = g; points = z } in w) h

-- nothing is in an empty list
pub none_held : (bs : List Position) (b : Position) → bs ≡ [] → Contains bs b → ⊥
none_held bs b e m = in_of_contains [] b (subst (λ xs. Contains xs b) e m)

-- ---- what a child gives

-- what a child needs in its parent's history is what it needs in its own, less the board that a play made
pub given : (f : Frame) (s : State) (t : Turn) (u : Strategy) (x : Footprint) → IsFootprint f (after f s t) u x → (c : Colouring) →
    IsPassedUp t (board_of_colouring f (after f s t).present) x.needs (board_of_colouring f c) ↔ IsNeeded f (history s) u (path_after_turn f s t []) (after f s t) c
given f s Pass u x foot c = foot.needed c
given f s (Play p) u x foot c = (
  λ g. needed_more f (history s) (colouring_after_play f s p) u [] (after f s (Play p)) c ((foot.needed c).0 g.0) (λ e. g.1 (ap (board_of_colouring f) e)),
  λ w. let r = needed_less f (history s) (colouring_after_play f s p) u [] (after f s (Play p)) c w in
      ((foot.needed c).1 r.0, λ e. r.1 (ap (λ (b : Position). b.points) e)),
)

-- it stands in the child's list
given_held : (t : Turn) (board : Position) (needs : List Position) (b : Position) → IsPassedUp t board needs b → Contains needs b
given_held Pass board needs b g = g
given_held (Play p) board needs b g = g.0

-- ---- a pick

-- the board that a play made is of the frame's size
played_sized : (f : Frame) (c : Colouring) (t : Turn) (b : Position) → IsPlayed t (board_of_colouring f c) b → b.size ≡ f.size
played_sized f c Pass b w = absurd w
played_sized f c (Play p) b e = ap (λ (w : Position). w.size) e

-- it is the one with the colouring that the turn makes
played_made : (f : Frame) (s : State) (t : Turn) (c : Colouring) → IsPlayed t (board_of_colouring f (after f s t).present) (board_of_colouring f c) ↔ MakesColouring f s t c
played_made f s Pass c = (λ w. w, λ w. w)
played_made f s (Play p) c = (λ e. sym (ap (λ (w : Position). w.points) e), λ e. ap (board_of_colouring f) (sym e))

-- the footprint of a pick, from that of the strategy behind its turn
pub foot_pick : (f : Frame) (s : State) (t : Turn) (u : Strategy) (x y : Footprint) → IsLegal f s t → IsFootprint f (after f s t) u x →
    IsPicked t (board_of_colouring f (after f s t).present) x y → IsFootprint f s (pick t u) y
foot_pick f s t u x y l foot h = record {
  needs_sized = λ b m. foot.needs_sized b (given_held t _ _ b ((h.needed b).0 m));
  avoids_sized = λ b m. sized b ((h.avoided b).0 m);
  needed = λ c. (
    λ m. (l, (given f s t u x foot c).0 ((h.needed (board_of_colouring f c)).0 m)),
    λ w. (h.needed (board_of_colouring f c)).1 ((given f s t u x foot c).1 w.1),
  );
  avoided = λ c. (λ m. (l, up c ((h.avoided (board_of_colouring f c)).0 m)), λ w. (h.avoided (board_of_colouring f c)).1 (down c w.1));
  met = λ c m. subst (λ x'. MayContainBoard x' (board_of_colouring f c)) (sym h.met) (foot.met c m.1);
}
  where
    sized : (b : Position) → IsPlayed t (board_of_colouring f (after f s t).present) b ⊎ Contains x.avoids b → b.size ≡ f.size
    sized b (inl e) = played_sized f (after f s t).present t b e
    sized b (inr m) = foot.avoids_sized b m

    up : (c : Colouring) → IsPlayed t (board_of_colouring f (after f s t).present) (board_of_colouring f c) ⊎ Contains x.avoids (board_of_colouring f c) →
        MakesColouring f s t c ⊎ IsAvoided f u (after f s t) c
    up c (inl e) = inl ((played_made f s t c).0 e)
    up c (inr m) = inr ((foot.avoided c).0 m)

    down : (c : Colouring) → MakesColouring f s t c ⊎ IsAvoided f u (after f s t) c →
        IsPlayed t (board_of_colouring f (after f s t).present) (board_of_colouring f c) ⊎ Contains x.avoids (board_of_colouring f c)
    down c (inl e) = inl ((played_made f s t c).1 e)
    down c (inr w) = inr ((foot.avoided c).1 w)

-- a pick of a turn that is not legal needs, avoids and meets nothing
pub foot_no_pick : (f : Frame) (s : State) (t : Turn) (u : Strategy) (x : Footprint) → (IsLegal f s t → ⊥) → IsFootprint f s done x →
    IsFootprint f s (pick t u) x
foot_no_pick f s t u x bars foot = record {
  needs_sized = foot.needs_sized;
  avoids_sized = foot.avoids_sized;
  needed = λ c. (λ m. absurd ((foot.needed c).0 m), λ w. absurd (bars w.0));
  avoided = λ c. (λ m. absurd ((foot.avoided c).0 m), λ w. absurd (bars w.0));
  met = λ c m. absurd (bars m.0);
}

-- ---- a reply

-- a choice of three, in its two orders
regroup : (A R X T : Type 0) → (T ↔ (R ⊎ X)) → (A ⊎ T) ↔ ((A ⊎ R) ⊎ X)
regroup A R X T h = (to, from)
  where
    split : R ⊎ X → (A ⊎ R) ⊎ X
    split (inl r) = inl (inr r)
    split (inr x) = inr x

    to : A ⊎ T → (A ⊎ R) ⊎ X
    to (inl a) = inl (inl a)
    to (inr t) = split (h.0 t)

    from : (A ⊎ R) ⊎ X → A ⊎ T
    from (inl (inl a)) = inl a
    from (inl (inr r)) = inr (h.1 (inl r))
    from (inr x) = inr (h.1 (inr x))

-- nothing, and one thing
last_one : (X : Type 0) → (X ⊎ ⊥) ↔ (⊥ ⊎ X)
last_one X = (to, from)
  where
    to : X ⊎ ⊥ → ⊥ ⊎ X
    to (inl x) = inr x
    to (inr w) = absurd w

    from : ⊥ ⊎ X → X ⊎ ⊥
    from (inl w) = absurd w
    from (inr x) = inl x

module _ (f : Frame) (s : State) (t : Turn) (u : Strategy) (c : Colouring) where
  -- what entries need with one more behind them
  needed_push : (h : List Colouring) (es : List (Turn × Strategy)) →
      IsNeededBehind f h (entries_of (es ++ (t, u) ∷ [])) [] s c
      ↔ (IsNeededBehind f h (entries_of es) [] s c ⊎ (IsLegal f s t × IsNeeded f h u (path_after_turn f s t []) (after f s t) c))
  needed_push h [] = last_one (IsLegal f s t × IsNeeded f h u (path_after_turn f s t []) (after f s t) c)
  needed_push h (e ∷ es) =
      regroup (IsLegal f s e.0 × IsNeeded f h e.1 (path_after_turn f s e.0 []) (after f s e.0) c) (IsNeededBehind f h (entries_of es) [] s c)
      (IsLegal f s t × IsNeeded f h u (path_after_turn f s t []) (after f s t) c) (IsNeededBehind f h (entries_of (es ++ (t, u) ∷ [])) [] s c)
      (needed_push h es)

  -- what they avoid
  avoided_push : (es : List (Turn × Strategy)) →
      IsAvoidedBehind f (entries_of (es ++ (t, u) ∷ [])) s c
      ↔ (IsAvoidedBehind f (entries_of es) s c ⊎ (IsLegal f s t × IsAvoided f u (after f s t) c))
  avoided_push [] = last_one (IsLegal f s t × IsAvoided f u (after f s t) c)
  avoided_push (e ∷ es) =
      regroup (IsLegal f s e.0 × IsAvoided f e.1 (after f s e.0) c) (IsAvoidedBehind f (entries_of es) s c)
      (IsLegal f s t × IsAvoided f u (after f s t) c) (IsAvoidedBehind f (entries_of (es ++ (t, u) ∷ [])) s c)
      (avoided_push es)

  -- what they meet
  met_push : (es : List (Turn × Strategy)) →
      IsMetBehind f (entries_of (es ++ (t, u) ∷ [])) s c
      ↔ (IsMetBehind f (entries_of es) s c ⊎ (IsLegal f s t × (MakesColouring f s t c ⊎ IsMet f u (after f s t) c)))
  met_push [] = last_one (IsLegal f s t × (MakesColouring f s t c ⊎ IsMet f u (after f s t) c))
  met_push (e ∷ es) =
      regroup (IsLegal f s e.0 × (MakesColouring f s e.0 c ⊎ IsMet f e.1 (after f s e.0) c)) (IsMetBehind f (entries_of es) s c)
      (IsLegal f s t × (MakesColouring f s t c ⊎ IsMet f u (after f s t) c)) (IsMetBehind f (entries_of (es ++ (t, u) ∷ [])) s c)
      (met_push es)

-- one list holds what another does and what more there is
joined : (A B X N N' : Type 0) → (B ↔ (A ⊎ X)) → (A ↔ N) → (N' ↔ (N ⊎ X)) → B ↔ N'
joined A B X N N' more old new = (λ b. new.1 (to (more.0 b)), λ n. more.1 (from (new.0 n)))
  where
    to : A ⊎ X → N ⊎ X
    to (inl a) = inl (old.0 a)
    to (inr x) = inr x

    from : N ⊎ X → A ⊎ X
    from (inl n) = inl (old.1 n)
    from (inr x) = inr x

-- a sum's right part may be said otherwise
pub otherwise : (A B X Y : Type 0) → (B ↔ (A ⊎ X)) → (X ↔ Y) → B ↔ (A ⊎ Y)
otherwise A B X Y h e = (λ b. to (h.0 b), λ w. h.1 (from w))
  where
    to : A ⊎ X → A ⊎ Y
    to (inl a) = inl a
    to (inr x) = inr (e.0 x)

    from : A ⊎ Y → A ⊎ X
    from (inl a) = inl a
    from (inr y) = inr (e.1 y)

-- what the turn makes lies within a bound of it
made_within : (f : Frame) (s : State) (t : Turn) (x : Option BoardSetBound) (c : Colouring) → IsMadeWithin t (board_of_colouring f (after f s t).present) x → MakesColouring f s t c →
    MayContainBoard x (board_of_colouring f c)
made_within f s Pass x c r m = absurd m
made_within f s (Play p) x c r m = subst (λ d. MayContainBoard x (board_of_colouring f d)) m r

-- a bound of a reply with one more entry
pub record IsWidened (f : Frame) (s : State) (t : Turn) (behind old new : Option BoardSetBound) : Type 0 where
  pub before : IsWiderOrSame new old
  pub below : IsWiderOrSame new behind
  pub made : IsMadeWithin t (board_of_colouring f (after f s t).present) new

-- the footprint of a reply with one more entry, whose turn is legal
pub foot_entry : (f : Frame) (s : State) (t : Turn) (u : Strategy) (x old new : Footprint) → IsLegal f s t → IsFootprint f (after f s t) u x →
    ((b : Position) → Contains new.needs b ↔ (Contains old.needs b ⊎ IsPassedUp t (board_of_colouring f (after f s t).present) x.needs b)) →
    ((b : Position) → Contains new.avoids b ↔ (Contains old.avoids b ⊎ Contains x.avoids b)) →
    IsWidened f s t x.met old.met new.met → IsEntryJoined f s t u old new
foot_entry f s t u x old new l foot n a wide es before = record {
  needs_sized = λ b m. elim ((n b).0 m) [ inl w ↦ before.needs_sized b w | inr g ↦ foot.needs_sized b (given_held t _ _ b g) ];
  avoids_sized = λ b m. elim ((a b).0 m) [ inl w ↦ before.avoids_sized b w | inr g ↦ foot.avoids_sized b g ];
  needed = λ c. all c (needed_push f s t u c (history s) es);
  avoided = λ c.
      joined (Contains old.avoids (board_of_colouring f c)) (Contains new.avoids (board_of_colouring f c))
      (IsLegal f s t × IsAvoided f u (after f s t) c) (IsAvoidedBehind f (entries_of es) s c)
      (IsAvoidedBehind f (entries_of (es ++ (t, u) ∷ [])) s c)
      (otherwise _ _ _ _ (a (board_of_colouring f c)) (λ m. (l, (foot.avoided c).0 m), λ w. (foot.avoided c).1 w.1)) (before.avoided c) (avoided_push f s t u c es);
  met = λ c m. met c ((met_push f s t u c es).0 m);
}
  where
    all : (c : Colouring)
        → (IsNeededBehind f (history s) (entries_of (es ++ (t, u) ∷ [])) [] s c
        ↔ (IsNeededBehind f (history s) (entries_of es) [] s c ⊎ (IsLegal f s t × IsNeeded f (history s) u (path_after_turn f s t []) (after f s t) c)))
        → Contains new.needs (board_of_colouring f c) ↔ IsNeeded f (history s) (reply (entries_of (es ++ (t, u) ∷ []))) [] s c
    all c push =
        joined (Contains old.needs (board_of_colouring f c)) (Contains new.needs (board_of_colouring f c))
        (IsLegal f s t × IsNeeded f (history s) u (path_after_turn f s t []) (after f s t) c)
        (IsNeeded f (history s) (reply (entries_of es)) [] s c) (IsNeeded f (history s) (reply (entries_of (es ++ (t, u) ∷ []))) [] s c)
        (otherwise _ _ _ _ (n (board_of_colouring f c)) (λ g. (l, (given f s t u x foot c).0 g), λ w. (given f s t u x foot c).1 w.1))
        (before.needed c) (regroup (IsRepeatedByPlay f (history s) [] s c) _ _ _ push)

    met : (c : Colouring) → IsMetBehind f (entries_of es) s c ⊎ (IsLegal f s t × (MakesColouring f s t c ⊎ IsMet f u (after f s t) c)) →
        MayContainBoard new.met (board_of_colouring f c)
    met c (inl m) = wide.before (board_of_colouring f c) (before.met c m)
    met c (inr (w, inl m)) = made_within f s t new.met c wide.made m
    met c (inr (w, inr m)) = wide.below (board_of_colouring f c) (foot.met c m)

-- an entry of a turn that is not legal adds nothing
pub foot_no_entry : (f : Frame) (s : State) (t : Turn) (u : Strategy) (x : Footprint) → (IsLegal f s t → ⊥) → IsEntryJoined f s t u x x
foot_no_entry f s t u x bars es before = record {
  needs_sized = before.needs_sized;
  avoids_sized = before.avoids_sized;
  needed = λ c.
      joined _ _ (IsLegal f s t × IsNeeded f (history s) u (path_after_turn f s t []) (after f s t) c) _ _
      (same (Contains x.needs (board_of_colouring f c)) _ (λ w. bars w.0)) (before.needed c)
      (regroup (IsRepeatedByPlay f (history s) [] s c) _ _ _ (needed_push f s t u c (history s) es));
  avoided = λ c.
      joined _ _ (IsLegal f s t × IsAvoided f u (after f s t) c) _ _
      (same (Contains x.avoids (board_of_colouring f c)) _ (λ w. bars w.0)) (before.avoided c) (avoided_push f s t u c es);
  met = λ c m. elim ((met_push f s t u c es).0 m) [ inl w ↦ before.met c w | inr w ↦ absurd (bars w.0) ];
}
  where
    same : (A X : Type 0) → (X → ⊥) → A ↔ (A ⊎ X)
    same A X n = (λ a. inl a, from)
      where
        from : A ⊎ X → A
        from (inl a) = a
        from (inr w) = absurd (n w)

-- the footprint of a reply without entries
pub foot_plays : (f : Frame) (s : State) (x : Footprint) → HaveFrameSize f x.needs →
    ((c : Colouring) → Contains x.needs (board_of_colouring f c) ↔ IsRepeatedByPlay f (history s) [] s c) → x.avoids ≡ [] → IsFootprint f s (reply none) x
foot_plays f s x sized n e = record {
  needs_sized = sized;
  avoids_sized = λ b m. absurd (none_held x.avoids b e m);
  needed = λ c. (λ m. inl ((n c).0 m), λ w. (n c).1 (first c w));
  avoided = λ c. (λ m. none_held x.avoids (board_of_colouring f c) e m, λ w. absurd w);
  met = λ c m. absurd m;
}
  where
    first : (c : Colouring) → IsRepeatedByPlay f (history s) [] s c ⊎ ⊥ → IsRepeatedByPlay f (history s) [] s c
    first c (inl r) = r
    first c (inr w) = absurd w

-- that of a strategy that plays nothing more
pub foot_done : (f : Frame) (s : State) (x : Footprint) → x.needs ≡ [] → x.avoids ≡ [] → IsFootprint f s done x
foot_done f s x n a = record {
  needs_sized = λ b m. absurd (none_held x.needs b n m);
  avoids_sized = λ b m. absurd (none_held x.avoids b a m);
  needed = λ c. (λ m. none_held x.needs (board_of_colouring f c) n m, λ w. absurd w);
  avoided = λ c. (λ m. none_held x.avoids (board_of_colouring f c) a m, λ w. absurd w);
  met = λ c m. absurd m;
}

-- ---- turns that are refused

-- a turn that is refused is not legal
pub refused_bars : (f : Frame) (s : State) (t : Turn) (why : Why) → IsRefusalOfTurn f s t why → IsLegal f s t → ⊥
refused_bars f s Pass Over r l = r l
refused_bars f s (Play p) Over r l = r l.0
refused_bars f s Pass Occupied r l = r
refused_bars f s (Play p) Occupied r l = r.1 l.2
refused_bars f s Pass Outside r l = r
refused_bars f s (Play p) Outside r l = r.2 l.3
refused_bars f s Pass Repeats r l = r
refused_bars f s (Play p) Repeats r l = l.4 r.1.3
