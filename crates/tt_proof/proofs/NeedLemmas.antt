-- What a child needs in its own history, and in its parent's.
use Rattle.std.proofs.Common.{◌≡◌, ◌≢◌, ◌⊎◌, inl, inr, List, [], ◌∷◌, ◌++◌, refl, sym, subst, Contains}
use Rattle.std.proofs.lemmas.List.Elements.{Contains-append_left, Contains-append_cases}
use Rattle.tt_board.specs.Position.{Colouring}
use Rattle.tt_game.specs.Game.{State, after}
use Rattle.tt_game.specs.declared.frame.Frame.{Frame}
use Rattle.tt_game.specs.declared.turns.Turn.{Turn}
use Rattle.tt_game.specs.declared.turns.Turn.TheVariants.{Play, Pass}
use Rattle.tt_proof.specs.Strategy.{Strategy, Entries, done, pick, reply, none, entry}
use Rattle.tt_proof.specs.Footprints.{IsNeeded, IsNeededBehind, IsRepeatedByPlay, path_after_turn}
use Rattle.tt_game.specs.laws.Members.{IsIn, in_of_contains, contains_of_in}

not_last : (xs : List Colouring) (c x : Colouring) → x ≢ c → Contains (xs ++ c ∷ []) x → Contains xs x
not_last xs c x n m = pass (Contains-append_cases xs (c ∷ []) x m)
  where
    bad : IsIn (c ∷ []) x → ⊥
    bad (inl e) = n (sym e)
    bad (inr w) = w

    pass : Contains xs x ⊎ Contains (c ∷ []) x → Contains xs x
    pass (inl w) = w
    pass (inr w) = absurd (bad (in_of_contains (c ∷ []) x w))

not_first : (xs : List Colouring) (c x : Colouring) → x ≢ c → Contains (c ∷ xs) x → Contains xs x
not_first xs c x n m = pass (in_of_contains (c ∷ xs) x m)
  where
    pass : IsIn (c ∷ xs) x → Contains xs x
    pass (inl e) = absurd (n (sym e))
    pass (inr w) = contains_of_in xs x w

module _ (f : Frame) (h : List Colouring) (c : Colouring) where
  longer_first : (a : State) (t : Turn) (path : List Colouring) → path_after_turn f a t (c ∷ path) ≡ c ∷ path_after_turn f a t path
  longer_first a (Play p) path = refl
  longer_first a Pass path = refl

  later : (path : List Colouring) (x : Colouring) → Contains path x → Contains (c ∷ path) x
  later path x m = contains_of_in (c ∷ path) x (inr (in_of_contains path x m))

  repeated_less : (path : List Colouring) (a : State) (x : Colouring) → IsRepeatedByPlay f h (c ∷ path) a x →
      IsRepeatedByPlay f (h ++ c ∷ []) path a x × (x ≢ c)
  repeated_less path a x r = (
    (r.0, Contains-append_left h (c ∷ []) x r.1, λ m. r.2 (later path x m)),
    λ e. r.2 (contains_of_in (c ∷ path) x (inl (sym e))),
  )

  repeated_more : (path : List Colouring) (a : State) (x : Colouring) → IsRepeatedByPlay f (h ++ c ∷ []) path a x → x ≢ c →
      IsRepeatedByPlay f h (c ∷ path) a x
  repeated_more path a x r n = (r.0, not_last h c x n r.1, λ m. r.2 (not_first path c x n m))

  -- what is needed behind a path that begins with the colouring is needed in the history that ends with it, and is another
  mutual
    pub needed_less : (u : Strategy) (path : List Colouring) (a : State) (x : Colouring) → IsNeeded f h u (c ∷ path) a x →
        IsNeeded f (h ++ c ∷ []) u path a x × (x ≢ c)
    needed_less done path a x m = absurd m
    needed_less (pick t u) path a x m =
        let w = needed_less u (path_after_turn f a t path) (after f a t) x (subst (λ p. IsNeeded f h u p (after f a t) x) (longer_first a t path) m.1) in
        ((m.0, w.0), w.1)
    needed_less (reply es) path a x (inl r) = let w = repeated_less path a x r in (inl w.0, w.1)
    needed_less (reply es) path a x (inr m) = let w = needed_behind_less es path a x m in (inr w.0, w.1)

    needed_behind_less : (es : Entries) (path : List Colouring) (a : State) (x : Colouring) → IsNeededBehind f h es (c ∷ path) a x →
        IsNeededBehind f (h ++ c ∷ []) es path a x × (x ≢ c)
    needed_behind_less none path a x m = absurd m
    needed_behind_less (entry t u es) path a x (inl m) =
        let w = needed_less u (path_after_turn f a t path) (after f a t) x (subst (λ p. IsNeeded f h u p (after f a t) x) (longer_first a t path) m.1) in
        (inl (m.0, w.0), w.1)
    needed_behind_less (entry t u es) path a x (inr m) = let w = needed_behind_less es path a x m in (inr w.0, w.1)

  -- and the other way round
  mutual
    pub needed_more : (u : Strategy) (path : List Colouring) (a : State) (x : Colouring) → IsNeeded f (h ++ c ∷ []) u path a x →
        x ≢ c → IsNeeded f h u (c ∷ path) a x
    needed_more done path a x m n = absurd m
    needed_more (pick t u) path a x m n = (
      m.0,
      subst (λ p. IsNeeded f h u p (after f a t) x) (sym (longer_first a t path)) (needed_more u (path_after_turn f a t path) (after f a t) x m.1 n),
    )
    needed_more (reply es) path a x (inl r) n = inl (repeated_more path a x r n)
    needed_more (reply es) path a x (inr m) n = inr (needed_behind_more es path a x m n)

    needed_behind_more : (es : Entries) (path : List Colouring) (a : State) (x : Colouring) → IsNeededBehind f (h ++ c ∷ []) es path a x →
        x ≢ c → IsNeededBehind f h es (c ∷ path) a x
    needed_behind_more none path a x m n = absurd m
    needed_behind_more (entry t u es) path a x (inl m) n =
        inl (m.0, subst (λ p. IsNeeded f h u p (after f a t) x) (sym (longer_first a t path)) (needed_more u (path_after_turn f a t path) (after f a t) x m.1 n))
    needed_behind_more (entry t u es) path a x (inr m) n = inr (needed_behind_more es path a x m n)
