-- What is found on an outline says whether its tree wins.
use Rattle.std.proofs.Common.{◌≡◌, ◌≤◌, zero, suc, ◌+◌, ◌⊎◌, ℕ, Bool, true, false, inl, inr, arith, Some, None, List, [], ◌∷◌, ◌++◌, ◌∙◌, ◌↔◌, refl, sym, ap, subst}
use Rattle.std.proofs.Common.{Contains, Option, get_or, IsTrue, IfSome, true≢false}
use Rattle.std.proofs.lemmas.List.Elements.{Contains-append_left, Contains-append_right, Contains-append_cases}
use Rattle.tt_board.specs.Position.{Position, Colouring}
use Rattle.tt_game.specs.Game.{State, IsLegal, after, history, colouring_after_play, winner_of, opponent}
use Rattle.tt_game.specs.Line.{HasBoardInHistory}
use Rattle.tt_game.specs.declared.frame.Frame.{Frame}
use Rattle.tt_game.specs.declared.frame.Side.{Side}
use Rattle.tt_game.specs.declared.turns.Turn.{Turn}
use Rattle.tt_game.specs.declared.turns.Turn.TheVariants.{Play, Pass}
use Rattle.tt_parts.specs.declared.position_footprint.PositionFootprint.{PositionFootprint}
use Rattle.tt_parts.specs.declared.outline_replay.ReplayResult.{ReplayResult}
use Rattle.tt_parts.specs.declared.outline_replay.ReplayResult.TheVariants.{Won, Lost, Unfit}
use Rattle.tt_proof.specs.Strategy.{Strategy, Entries, done, pick, reply, none, entry, turn_number_on_size}
use Rattle.tt_parts.specs.Outlines.{Outline, Branches, ended, picked, replied, part, no_branch, branch, unfolded, unfolded_entries, with_named_tree}
use Rattle.tt_parts.specs.Outlines.{named_trees_after, named_trees_after_branches, IsOutlineInOrder, AreBranchesInOrder}
use Rattle.tt_proof.specs.Footprints.{IsRepeatedByPlay}
use Rattle.tt_proof.specs.KeptFootprints.{board_of_colouring}
use Rattle.tt_proof.specs.EndRules.{at_win_or_life}
use Rattle.tt_proof.specs.Wins.{WinsOrLives, WinsBehindUnder}
use Rattle.tt_parts.specs.SharedParts.{FootprintFits, RestsOnPositionAlone, RestsOnRepeats, MakesBoard, RestsBeforePick, RestsBeforeOpposingTurn, RestsOnBoth, CombinesTo, IsResultBeforeTurn}
use Rattle.tt_parts.specs.SharedParts.{NamedFootprints, kept_footprint, wins_if_fit, with_named_footprint, with_unreached_names, with_unreached_branch_names}
use Rattle.tt_parts.specs.SharedParts.{HasBranch, IsResultOfDone, IsResultOfPart, IsResultOfReply, IsReplayOfOutline, IsReplayOfBranches}
use Rattle.tt_parts.specs.inside.OutlineReplaying.{FindsPick, FindsReply, FindsBranch}
use Rattle.tt_proof.proofs.FitsLemmas.{Carried, same_made, same_winner, same_end, legal_now, legal_before}
use Rattle.tt_proof.proofs.FootprintLemmas.{none_held}
use Rattle.tt_parts.proofs.OutlineReplayLemmas.{legal_nobody, met_empty, met_carried, only, some_none}

-- the turn has an entry with this tree
abbrev pub HasTree : Entries → Turn → Strategy → Type 0
HasTree none t u = ⊥
HasTree (entry t' u' es) t u = ((t' ≡ t) × (u' ≡ u)) ⊎ HasTree es t u

module _ (side : Side) (f : Frame) where
  -- the tree wins wherever the basis is met
  abbrev pub WinsOn : Strategy → PositionFootprint → Type 0
  WinsOn u x = (s : State) → FootprintFits f x s → WinsOrLives side f u s

  -- the tree wins on a basis that is met here, or doesn't win; of one with a part that doesn't fit nothing is said
  abbrev pub IsSound : State → Strategy → ReplayResult → Type 0
  IsSound s u (Won x) = FootprintFits f x s × WinsOn u x
  IsSound s u Lost = WinsOrLives side f u s → ⊥
  IsSound s u Unfit = Unit {0}

  -- the same of the tree behind a turn, in front of it
  abbrev pub IsSoundBehind : State → Turn → Strategy → ReplayResult → Type 0
  IsSoundBehind s t u (Won x) = FootprintFits f x s × ((s' : State) → FootprintFits f x s' → IsLegal f s t → WinsOrLives side f u (after f s' t))
  IsSoundBehind s t u Lost = IsLegal f s t × (WinsOrLives side f u (after f s t) → ⊥)
  IsSoundBehind s t u Unfit = Unit {0}

  -- the same of all entries together
  abbrev pub AreSound : State → Entries → ReplayResult → Type 0
  AreSound s es (Won x) =
      FootprintFits f x s × ((s' : State) → FootprintFits f x s' → (t : Turn) (u : Strategy) → HasTree es t u → IsLegal f s t → WinsOrLives side f u (after f s' t))
  AreSound s es Lost = (t : Turn) × ((u : Strategy) × (HasTree es t u × IsLegal f s t × (WinsOrLives side f u (after f s t) → ⊥)))
  AreSound s es Unfit = Unit {0}

  -- and of what plays would repeat
  abbrev pub KnowRepeats : State → ReplayResult → Type 0
  KnowRepeats s (Won x) = (c : Colouring) → IsRepeatedByPlay f (history s) [] s c → Contains x.needs (board_of_colouring f c)
  KnowRepeats s Lost = Unit {0}
  KnowRepeats s Unfit = Unit {0}

  -- a name's tree wins on what is kept of it, where something is
  abbrev pub WinsAsKept : Strategy → Option PositionFootprint → Type 0
  WinsAsKept u None = Unit {0}
  WinsAsKept u (Some x) = WinsOn u x

  abbrev pub WinAsKept : List Strategy → NamedFootprints → Type 0
  WinAsKept [] [] = Unit {0}
  WinAsKept [] (n ∷ ns) = ⊥
  WinAsKept (u ∷ us) [] = ⊥
  WinAsKept (u ∷ us) (n ∷ ns) = WinsAsKept u n × WinAsKept us ns

-- ---- behind a legal turn

module _ (f : Frame) (s : State) (x : PositionFootprint) where
  -- what is needed in front of the turn is in the history there
  needs_before : (t : Turn) → FootprintFits f x (after f s t) → (b : Position) → Contains x.needs b × (MakesBoard f s t b → ⊥) → HasBoardInHistory f s b
  needs_before Pass m b n = m.needs b n.0
  needs_before (Play p) m b n = let h = m.needs b n.0 in (h.0, pass h.0 (Contains-append_cases (history s) (colouring_after_play f s p ∷ []) b.points h.1))
    where
      pass : b.size ≡ f.size → Contains (history s) b.points ⊎ Contains (colouring_after_play f s p ∷ []) b.points → Contains (history s) b.points
      pass size (inl h) = h
      pass size (inr h) = absurd (n.1 (size, sym (only (colouring_after_play f s p) b.points h)))

  -- and what is avoided behind it is not
  avoids_before : (t : Turn) → FootprintFits f x (after f s t) → (b : Position) → Contains x.avoids b → HasBoardInHistory f s b → ⊥
  avoids_before Pass m b a h = m.avoids b a h
  avoids_before (Play p) m b a h = m.avoids b a (h.0, Contains-append_left (history s) (colouring_after_play f s p ∷ []) b.points h.1)

  -- the basis is met behind the turn at another state, where in front of it all is met
  met_behind : (t : Turn) → IsLegal f s t → FootprintFits f x (after f s t) → (s' : State) → Carried (history s) (history s') [] s s'
      → ((b : Position) → Contains x.needs b × (MakesBoard f s t b → ⊥) → HasBoardInHistory f s' b)
      → ((b : Position) → Contains x.avoids b → HasBoardInHistory f s' b → ⊥) → FootprintFits f x (after f s' t)
  met_behind Pass l m s' r n a = record {
    position = record {
      present = m.position.present ∙ ap (board_of_colouring f) (sym r.present);
      to_move = m.position.to_move ∙ ap opponent (sym r.to_move);
      passes = m.position.passes ∙ ap (λ k. k + 1) (sym r.passes);
    };
    needs = λ b w. n b (w, λ e. e.1);
    avoids = a;
  }
  met_behind (Play p) l m s' r n a = record {
    position = record {
      present = m.position.present ∙ ap (board_of_colouring f) (sym same);
      to_move = m.position.to_move ∙ ap opponent (sym r.to_move);
      passes = m.position.passes;
    };
    needs = λ b w. let h = m.needs b w in (h.0, need b w (Contains-append_cases (history s) (colouring_after_play f s p ∷ []) b.points h.1));
    avoids = λ b w h. avoid b w h.0 (Contains-append_cases (history s') (colouring_after_play f s' p ∷ []) b.points h.1);
  }
    where
      same : colouring_after_play f s' p ≡ colouring_after_play f s p
      same = same_made s.to_move f (history s) (history s') [] s s' p r

      need : (b : Position) → Contains x.needs b → Contains (history s) b.points ⊎ Contains (colouring_after_play f s p ∷ []) b.points
          → Contains (history s' ++ colouring_after_play f s' p ∷ []) b.points
      need b w (inl h) = Contains-append_left (history s') (colouring_after_play f s' p ∷ []) b.points
          (n b (w, λ e. l.4 (subst (λ d. Contains (history s) d) (sym e.1) h))).1
      need b w (inr h) = Contains-append_right (history s') (colouring_after_play f s' p ∷ []) b.points (subst (λ d. Contains (d ∷ []) b.points) (sym same) h)

      avoid : (b : Position) → Contains x.avoids b → b.size ≡ f.size → Contains (history s') b.points ⊎ Contains (colouring_after_play f s' p ∷ []) b.points → ⊥
      avoid b w size (inl h) = a b w (size, h)
      avoid b w size (inr h) =
          m.avoids b w (size, Contains-append_right (history s) (colouring_after_play f s p ∷ []) b.points (subst (λ d. Contains (d ∷ []) b.points) same h))

-- a board that the turn makes is not in the history, where the turn is legal
not_made : (f : Frame) (s : State) (t : Turn) (b : Position) → IsLegal f s t → MakesBoard f s t b → HasBoardInHistory f s b → ⊥
not_made f s Pass b l e h = e.1
not_made f s (Play p) b l e h = l.4 (subst (λ d. Contains (history s) d) (sym e.1) h.1)

-- ---- a pick

sound_pick : (side : Side) (f : Frame) (s : State) (t : Turn) (u : Strategy) (x y : PositionFootprint) → s.to_move ≡ side → IsLegal f s t
    → IsSound side f (after f s t) u (Won x) → RestsBeforePick f s t x y → IsSound side f s (pick t u) (Won y)
sound_pick side f s t u x y mine l h more = (here, there)
  where
    here : FootprintFits f y s
    here = record {
      position = more.position;
      needs = λ b n. needs_before f s x t h.0 b ((more.needs b).0 n);
      avoids = λ b a. avoid b ((more.avoids b).0 a);
    }
      where
        avoid : (b : Position) → Contains x.avoids b ⊎ MakesBoard f s t b → HasBoardInHistory f s b → ⊥
        avoid b (inl a) = avoids_before f s x t h.0 b a
        avoid b (inr e) = not_made f s t b l e

    there : (s' : State) → FootprintFits f y s' → WinsOrLives side f (pick t u) s'
    there s' m =
        let r = met_carried f y s s' here m in
        let w = same_winner side f (history s) (history s') [] s s' r in (
          w ∙ legal_nobody f s t l,
          r.to_move ∙ mine,
          legal_now side f (history s) (history s') [] s s' t r l
              (λ c k z. m.avoids (board_of_colouring f c) ((more.avoids (board_of_colouring f c)).1 (inr (refl, k))) (refl, z)),
          h.1 (after f s' t)
              (met_behind f s x t l h.0 s' r (λ b n. m.needs b ((more.needs b).1 n)) (λ b a. m.avoids b ((more.avoids b).1 (inl a)))),
        )

-- ---- a branch

sound_branch : (side : Side) (f : Frame) (s : State) (t : Turn) (u : Strategy) (x y : PositionFootprint) → IsLegal f s t
    → IsSound side f (after f s t) u (Won x) → RestsBeforeOpposingTurn f s t x y → IsSoundBehind side f s t u (Won y)
sound_branch side f s t u x y l h more = (here, there)
  where
    back : (b : Position) → Contains y.avoids b → Contains x.avoids b
    back b a = subst (λ bs. Contains bs b) more.avoids a

    here : FootprintFits f y s
    here = record {
      position = more.position;
      needs = λ b n. needs_before f s x t h.0 b ((more.needs b).0 n);
      avoids = λ b a. avoids_before f s x t h.0 b (back b a);
    }

    there : (s' : State) → FootprintFits f y s' → IsLegal f s t → WinsOrLives side f u (after f s' t)
    there s' m k =
        h.1 (after f s' t)
        (met_behind f s x t l h.0 s' (met_carried f y s s' here m) (λ b n. m.needs b ((more.needs b).1 n))
        (λ b a. m.avoids b (subst (λ bs. Contains bs b) (sym more.avoids) a)))

-- ---- branches together

-- what is met by both is met by each
module _ (f : Frame) (s s' : State) (x y z : PositionFootprint) (j : RestsOnBoth x y z) (m : FootprintFits f x s) (n : FootprintFits f y s) where
  joined_here : FootprintFits f z s
  joined_here = record {
    position = record {
      present = j.board ∙ m.position.present;
      to_move = j.to_move ∙ m.position.to_move;
      passes = j.passes ∙ m.position.passes;
    };
    needs = λ b w. need b ((j.needs b).0 w);
    avoids = λ b w. avoid b ((j.avoids b).0 w);
  }
    where
      need : (b : Position) → Contains x.needs b ⊎ Contains y.needs b → HasBoardInHistory f s b
      need b (inl w) = m.needs b w
      need b (inr w) = n.needs b w

      avoid : (b : Position) → Contains x.avoids b ⊎ Contains y.avoids b → HasBoardInHistory f s b → ⊥
      avoid b (inl w) = m.avoids b w
      avoid b (inr w) = n.avoids b w

  module _ (k : FootprintFits f z s') where
    joined_first : FootprintFits f x s'
    joined_first = record {
      position = record {
        present = sym j.board ∙ k.position.present;
        to_move = sym j.to_move ∙ k.position.to_move;
        passes = sym j.passes ∙ k.position.passes;
      };
      needs = λ b w. k.needs b ((j.needs b).1 (inl w));
      avoids = λ b w. k.avoids b ((j.avoids b).1 (inl w));
    }

    joined_second : FootprintFits f y s'
    joined_second = record {
      position = record {
        present = n.position.present ∙ sym m.position.present ∙ sym j.board ∙ k.position.present;
        to_move = n.position.to_move ∙ sym m.position.to_move ∙ sym j.to_move ∙ k.position.to_move;
        passes = n.position.passes ∙ sym m.position.passes ∙ sym j.passes ∙ k.position.passes;
      };
      needs = λ b w. k.needs b ((j.needs b).1 (inr w));
      avoids = λ b w. k.avoids b ((j.avoids b).1 (inr w));
    }

module _ (side : Side) (f : Frame) (s : State) (t : Turn) (u : Strategy) (es : Entries) where
  -- one more branch in front of others
  sound_more : (q p r : ReplayResult) → IsSoundBehind side f s t u q → AreSound side f s es p → CombinesTo q p r → AreSound side f s (entry t u es) r
  sound_more Unfit p r g h e = subst (AreSound side f s (entry t u es)) (sym e) tt
  sound_more Lost Unfit r g h e = subst (AreSound side f s (entry t u es)) (sym e) tt
  sound_more Lost Lost r g h e = subst (AreSound side f s (entry t u es)) (sym e) (t, (u, (inl (refl, refl), g.0, g.1)))
  sound_more Lost (Won y) r g h e = subst (AreSound side f s (entry t u es)) (sym e) (t, (u, (inl (refl, refl), g.0, g.1)))
  sound_more (Won x) Unfit r g h e = subst (AreSound side f s (entry t u es)) (sym e) tt
  sound_more (Won x) Lost r g h e = subst (AreSound side f s (entry t u es)) (sym e) (h.0, (h.1.0, (inr h.1.1.0, h.1.1.1, h.1.1.2)))
  sound_more (Won x) (Won y) r g h e = subst (AreSound side f s (entry t u es)) (sym e.1.0) (
    joined_here f s s x y e.0 e.1.1 g.0 h.0,
    λ s' m v w k. pass s' m v w k,
  )
    where
      pass : (s' : State) → FootprintFits f e.0 s' → (v : Turn) (w : Strategy) → HasTree (entry t u es) v w → IsLegal f s v → WinsOrLives side f w (after f s' v)
      pass s' m v w (inr k) l = h.1 s' (joined_second f s s' x y e.0 e.1.1 g.0 h.0 m) v w k l
      pass s' m v w (inl k) l =
          subst (λ z. WinsOrLives side f z (after f s' v)) k.1
          (subst (λ z. WinsOrLives side f u (after f s' z)) k.0
          (g.1 s' (joined_first f s s' x y e.0 e.1.1 g.0 h.0 m) (subst (λ z. IsLegal f s z) (sym k.0) l)))

-- what a reply rests on by itself
met_repeats : (f : Frame) (s : State) (x : PositionFootprint) → RestsOnRepeats f s x → FootprintFits f x s
met_repeats f s x h = record {
  position = h.position;
  needs = λ b m. let k = (h.needs b).0 m in (k.0, k.1.1);
  avoids = λ b m. absurd (none_held x.avoids b h.avoids m);
}

sound_together : (side : Side) (f : Frame) (s : State) (es : Entries) (x : PositionFootprint) (q r : ReplayResult) → RestsOnRepeats f s x → AreSound side f s es q → CombinesTo (Won x) q r
    → AreSound side f s es r × KnowRepeats side f s r
sound_together side f s es x Unfit r a h e = rw e (tt, tt)
sound_together side f s es x Lost r a h e = rw e (h, tt)
sound_together side f s es x (Won y) r a h e = rw e.1.0 (
  (joined_here f s s x y e.0 e.1.1 (met_repeats f s x a) h.0, λ s' m. h.1 s' (joined_second f s s' x y e.0 e.1.1 (met_repeats f s x a) h.0 m)),
  λ c k. (e.1.1.needs (board_of_colouring f c)).1 (inl ((a.needs (board_of_colouring f c)).1 (refl, k))),
)

-- ---- a reply

module _ (side : Side) (f : Frame) where
  -- where each tree of the turn wins, a turn that has a branch has one that wins, whatever the names stand for
  branch_wins : (us : List Strategy) (bs : Branches) (t : Turn) (s : State) → ((u : Strategy) → HasTree (unfolded_entries us bs) t u → WinsOrLives side f u (after f s t))
      → HasBranch bs t → WinsBehindUnder at_win_or_life side f (unfolded_entries us bs) t s
  branch_wins us no_branch t s w h = h
  branch_wins us (branch t' o bs) t s w (inl e) = inl (e, w (unfolded us o) (inl (e, refl)))
  branch_wins us (branch t' o bs) t s w (inr h) = inr (branch_wins (named_trees_after us o) bs t s (λ v k. w v (inr k)) h)

  -- a turn of which some branch wins has a branch
  branch_of_win : (us : List Strategy) (bs : Branches) (t : Turn) (s : State) → WinsBehindUnder at_win_or_life side f (unfolded_entries us bs) t s → HasBranch bs t
  branch_of_win us no_branch t s h = h
  branch_of_win us (branch t' o bs) t s (inl h) = inl h.0
  branch_of_win us (branch t' o bs) t s (inr h) = inr (branch_of_win (named_trees_after us o) bs t s h)

  -- branches in order have one of a turn at the most
  least_tree : (us : List Strategy) (least : ℕ) (bs : Branches) (t : Turn) (u : Strategy) → AreBranchesInOrder f.size least bs → HasTree (unfolded_entries us bs) t u
      → least ≤ turn_number_on_size f.size t
  least_tree us least no_branch t u o h = absurd h
  least_tree us least (branch t' c bs) t u o (inl e) = let same = ap (turn_number_on_size f.size) e.0 in omega (arith, o.0, same)
  least_tree us least (branch t' c bs) t u o (inr h) =
      let past = least_tree (named_trees_after us c) (turn_number_on_size f.size t' + 1) bs t u o.3 h in omega (arith, o.0, past)

  least_entry : (us : List Strategy) (least : ℕ) (bs : Branches) (t : Turn) (s : State) → AreBranchesInOrder f.size least bs → WinsBehindUnder at_win_or_life side f (unfolded_entries us bs) t s
      → least ≤ turn_number_on_size f.size t
  least_entry us least no_branch t s o h = absurd h
  least_entry us least (branch t' c bs) t s o (inl e) = let same = ap (turn_number_on_size f.size) e.0 in omega (arith, o.0, same)
  least_entry us least (branch t' c bs) t s o (inr h) =
      let past = least_entry (named_trees_after us c) (turn_number_on_size f.size t' + 1) bs t s o.3 h in omega (arith, o.0, past)

  only_one : (us : List Strategy) (least : ℕ) (bs : Branches) (t : Turn) (u : Strategy) (s : State) → AreBranchesInOrder f.size least bs
      → HasTree (unfolded_entries us bs) t u → WinsBehindUnder at_win_or_life side f (unfolded_entries us bs) t s → WinsOrLives side f u (after f s t)
  only_one us least no_branch t u s o h w = absurd h
  only_one us least (branch t' c bs) t u s o (inl e) (inl w) = subst (λ z. WinsOrLives side f z (after f s t)) e.1 w.1
  only_one us least (branch t' c bs) t u s o (inl e) (inr w) =
      let past = least_entry (named_trees_after us c) (turn_number_on_size f.size t' + 1) bs t s o.3 w in
      let same = ap (turn_number_on_size f.size) e.0 in absurd (omega (arith, past, same))
  only_one us least (branch t' c bs) t u s o (inr h) (inl w) =
      let past = least_tree (named_trees_after us c) (turn_number_on_size f.size t' + 1) bs t u o.3 h in
      let same = ap (turn_number_on_size f.size) w.0 in absurd (omega (arith, past, same))
  only_one us least (branch t' c bs) t u s o (inr h) (inr w) = only_one (named_trees_after us c) (turn_number_on_size f.size t' + 1) bs t u s o.3 h w

  sound_reply : (s : State) (us : List Strategy) (bs : Branches) (q r : ReplayResult) → winner_of f s ≡ None → s.to_move ≡ opponent side → AreBranchesInOrder f.size 0 bs
      → AreSound side f s (unfolded_entries us bs) q × KnowRepeats side f s q → IsResultOfReply f s bs q r → IsSound side f s (reply (unfolded_entries us bs)) r
  sound_reply s us bs Unfit r nobody turn o h e = subst (IsSound side f s (reply (unfolded_entries us bs))) (sym e) tt
  sound_reply s us bs Lost r nobody turn o h e =
      subst (IsSound side f s (reply (unfolded_entries us bs))) (sym e)
      (λ w. h.0.1.1.2 (only_one us 0 bs h.0.0 h.0.1.0 s o h.0.1.1.0 (w.2 h.0.0 h.0.1.1.1)))
  sound_reply s us bs (Won x) Unfit nobody turn o h e = tt
  sound_reply s us bs (Won x) Lost nobody turn o h not = λ w. not (λ t l. branch_of_win us bs t s (w.2 t l))
  sound_reply s us bs (Won x) (Won y) nobody turn o h e = rw (← e.0) (h.0.0, there)
    where
      there : (s' : State) → FootprintFits f x s' → WinsOrLives side f (reply (unfolded_entries us bs)) s'
      there s' m =
          let r = met_carried f x s s' h.0.0 m in (
            same_winner side f (history s) (history s') [] s s' r ∙ nobody,
            r.to_move ∙ turn,
            λ t l. let l' = legal_before side f (history s) (history s') [] s s' t r l (λ c w. (m.needs (board_of_colouring f c) (h.1 c w)).1) in
                branch_wins us bs t s' (λ u k. h.0.1 s' m t u k l') (e.1 t l'),
          )

-- ---- names

module _ (side : Side) (f : Frame) where
  -- one more name
  named_more : (us : List Strategy) (ns : NamedFootprints) (u : Strategy) (n : Option PositionFootprint) → WinAsKept side f us ns → WinsAsKept side f u n
      → WinAsKept side f (us ++ u ∷ []) (ns ++ n ∷ [])
  named_more [] [] u n h w = (w, tt)
  named_more [] (m ∷ ns) u n h w = absurd h
  named_more (v ∷ us) [] u n h w = absurd h
  named_more (v ∷ us) (m ∷ ns) u n h w = (h.0, named_more us ns u n h.1 w)

  named_with : (b : Bool) (us : List Strategy) (ns : NamedFootprints) (u : Strategy) (n : Option PositionFootprint) → WinAsKept side f us ns → WinsAsKept side f u n
      → WinAsKept side f (with_named_tree b u us) (with_named_footprint b n ns)
  named_with true us ns u n h w = named_more us ns u n h w
  named_with false us ns u n h w = h

  kept_sound : (s : State) (u : Strategy) (r : ReplayResult) → IsSound side f s u r → WinsAsKept side f u (kept_footprint r)
  kept_sound s u (Won x) h = h.1
  kept_sound s u Lost h = tt
  kept_sound s u Unfit h = tt

  -- what is kept of a name
  named_at : (us : List Strategy) (ns : NamedFootprints) (k : ℕ) (x : PositionFootprint) → WinAsKept side f us ns → get_or ns k None ≡ Some x → WinsOn side f (get_or us k done) x
  named_at [] [] k x h e = absurd (some_none x e)
  named_at [] (m ∷ ns) k x h e = absurd h
  named_at (u ∷ us) [] k x h e = absurd h
  named_at (u ∷ us) (m ∷ ns) zero x h e = subst (WinsAsKept side f u) e h.0
  named_at (u ∷ us) (m ∷ ns) (suc k) x h e = named_at us ns k x h.1 e

  mutual
    unreached_kept : (us : List Strategy) (ns : NamedFootprints) (o : Outline) → WinAsKept side f us ns → WinAsKept side f (named_trees_after us o) (with_unreached_names ns o)
    unreached_kept us ns ended h = h
    unreached_kept us ns (picked n t o) h =
        named_with n (named_trees_after us o) (with_unreached_names ns o) (pick t (unfolded us o)) None (unreached_kept us ns o h) tt
    unreached_kept us ns (replied n bs) h =
        named_with n (named_trees_after_branches us bs) (with_unreached_branch_names ns bs) (reply (unfolded_entries us bs)) None (unreached_all_kept us ns bs h) tt
    unreached_kept us ns (part k) h = h

    unreached_all_kept : (us : List Strategy) (ns : NamedFootprints) (bs : Branches) → WinAsKept side f us ns → WinAsKept side f (named_trees_after_branches us bs) (with_unreached_branch_names ns bs)
    unreached_all_kept us ns no_branch h = h
    unreached_all_kept us ns (branch t o bs) h = unreached_all_kept (named_trees_after us o) (with_unreached_names ns o) bs (unreached_kept us ns o h)

  -- ---- the whole

  before_pick : (s : State) (t : Turn) (u : Strategy) (q r : ReplayResult) → s.to_move ≡ side → IsLegal f s t → IsSound side f (after f s t) u q
      → IsResultBeforeTurn (RestsBeforePick f s t) q r → IsSound side f s (pick t u) r
  before_pick s t u (Won x) r mine l h e = subst (IsSound side f s (pick t u)) (sym e.1.0) (sound_pick side f s t u x e.0 mine l h e.1.1)
  before_pick s t u Lost r mine l h e = subst (IsSound side f s (pick t u)) (sym e) (λ w. h w.3)
  before_pick s t u Unfit r mine l h e = subst (IsSound side f s (pick t u)) (sym e) tt

  before_reply : (s : State) (t : Turn) (u : Strategy) (q r : ReplayResult) → IsLegal f s t → IsSound side f (after f s t) u q
      → IsResultBeforeTurn (RestsBeforeOpposingTurn f s t) q r → IsSoundBehind side f s t u r
  before_reply s t u (Won x) r l h e = subst (IsSoundBehind side f s t u) (sym e.1.0) (sound_branch side f s t u x e.0 l h e.1.1)
  before_reply s t u Lost r l h e = subst (IsSoundBehind side f s t u) (sym e) (l, h)
  before_reply s t u Unfit r l h e = subst (IsSoundBehind side f s t u) (sym e) tt

  at_end : (s : State) (r : ReplayResult) → IsResultOfDone side f s r → IsSound side f s done r
  at_end s (Won x) h =
      let here = met_empty f s x h.1 in (here, λ s' m. same_end at_win_or_life side f (history s) (history s') [] s s' (met_carried f x s s' here m) h.0)
  at_end s Lost h = h
  at_end s Unfit h = tt

  of_name : (us : List Strategy) (ns : NamedFootprints) (k : ℕ) (s : State) (r : ReplayResult) → WinAsKept side f us ns → IsResultOfPart f (get_or ns k None) s r
      → IsSound side f s (get_or us k done) r
  of_name us ns k s (Won x) h e = (e.1, named_at us ns k x h e.0)
  of_name us ns k s Lost h e = absurd e
  of_name us ns k s Unfit h e = tt

  alone_behind : (s : State) (t : Turn) (u : Strategy) (x : PositionFootprint) → (IsLegal f s t → ⊥) → RestsOnPositionAlone f s x → IsSoundBehind side f s t u (Won x)
  alone_behind s t u x bars h = (met_empty f s x h, λ s' m l. absurd (bars l))

  -- by what is found behind a turn
  abbrev Behind : List Strategy → NamedFootprints → Outline → State → NamedFootprints → Type 0
  Behind us ns o s ms = (q : ReplayResult) → IsReplayOfOutline side f ns o s q ms → IsSound side f s (unfolded us o) q × WinAsKept side f (named_trees_after us o) ms

  of_pick : (us : List Strategy) (ns : NamedFootprints) (t : Turn) (o : Outline) (s : State) (r : ReplayResult) (ms : NamedFootprints) → WinAsKept side f us ns → Behind us ns o (after f s t) ms
      → FindsPick side f ns t o s r ms → IsSound side f s (pick t (unfolded us o)) r × WinAsKept side f (named_trees_after us o) ms
  of_pick us ns t o s r ms h g (inl w) = let k = g w.2.0 w.2.1.0 in (before_pick s t (unfolded us o) w.2.0 r w.0 w.1 k.0 w.2.1.1, k.1)
  of_pick us ns t o s r ms h g (inr w) = (
    subst (IsSound side f s (pick t (unfolded us o))) (sym w.1) (λ v. w.0 v.1 v.2),
    subst (WinAsKept side f (named_trees_after us o)) (sym w.2) (unreached_kept us ns o h),
  )

  of_branch : (us : List Strategy) (ns : NamedFootprints) (t : Turn) (o : Outline) (s : State) (r : ReplayResult) (ms : NamedFootprints) → WinAsKept side f us ns → Behind us ns o (after f s t) ms
      → FindsBranch side f ns t o s r ms → IsSoundBehind side f s t (unfolded us o) r × WinAsKept side f (named_trees_after us o) ms
  of_branch us ns t o s r ms h g (inl w) = let k = g w.1.0 w.1.1.0 in (before_reply s t (unfolded us o) w.1.0 r w.0 k.0 w.1.1.1, k.1)
  of_branch us ns t o s r ms h g (inr w) = (
    subst (IsSoundBehind side f s t (unfolded us o)) (sym w.1.1.0) (alone_behind s t (unfolded us o) w.1.0 w.0 w.1.1.1),
    subst (WinAsKept side f (named_trees_after us o)) (sym w.2) (unreached_kept us ns o h),
  )

  of_reply : (us : List Strategy) (ns : NamedFootprints) (bs : Branches) (s : State) (r : ReplayResult) (ms : NamedFootprints) → AreBranchesInOrder f.size 0 bs → WinAsKept side f us ns
      → ((q : ReplayResult) → IsReplayOfBranches side f ns bs s q ms → AreSound side f s (unfolded_entries us bs) q × WinAsKept side f (named_trees_after_branches us bs) ms)
      → FindsReply side f ns bs s r ms → IsSound side f s (reply (unfolded_entries us bs)) r × WinAsKept side f (named_trees_after_branches us bs) ms
  of_reply us ns bs s r ms o h g (inl w) =
      let e = w.2.1.0 in
      let k = g e.1.1.0 e.1.1.1.0 in (
        sound_reply side f s us bs w.2.0 r w.0 w.1 o (sound_together side f s (unfolded_entries us bs) e.0 e.1.1.0 w.2.0 e.1.0 k.0 e.1.1.1.1) w.2.1.1,
        k.1,
      )
  of_reply us ns bs s r ms o h g (inr w) = (
    subst (IsSound side f s (reply (unfolded_entries us bs))) (sym w.1) (λ v. w.0 v.0 v.1),
    subst (WinAsKept side f (named_trees_after_branches us bs)) (sym w.2) (unreached_all_kept us ns bs h),
  )

  with_name_kept : (n : Bool) (us : List Strategy) (ls ms : NamedFootprints) (s : State) (u : Strategy) (r : ReplayResult) → IsSound side f s u r × WinAsKept side f us ls
      → ms ≡ with_named_footprint n (kept_footprint r) ls → IsSound side f s u r × WinAsKept side f (with_named_tree n u us) ms
  with_name_kept n us ls ms s u r k e = (k.0, rw e (named_with n us ls u (kept_footprint r) k.1 (kept_sound s u r k.0)))

  mutual
    pub sound : (us : List Strategy) (ns : NamedFootprints) (o : Outline) (s : State) (r : ReplayResult) (ms : NamedFootprints) → IsOutlineInOrder f.size o → WinAsKept side f us ns
        → IsReplayOfOutline side f ns o s r ms → IsSound side f s (unfolded us o) r × WinAsKept side f (named_trees_after us o) ms
    sound us ns ended s r ms o h e = (at_end s r e.0, subst (WinAsKept side f us) (sym e.1) h)
    sound us ns (part k) s r ms o h e = (of_name us ns k s r h e.0, subst (WinAsKept side f us) (sym e.1) h)
    sound us ns (picked n t c) s r ms o h e =
        with_name_kept n (named_trees_after us c) e.0 ms s (pick t (unfolded us c)) r
        (of_pick us ns t c s r e.0 h (λ q g. sound us ns c (after f s t) q e.0 o.1 h g) e.1.1) e.1.0
    sound us ns (replied n bs) s r ms o h e =
        with_name_kept n (named_trees_after_branches us bs) e.0 ms s (reply (unfolded_entries us bs)) r
        (of_reply us ns bs s r e.0 o h (λ q g. sound_all us ns 0 bs s q e.0 o h g) e.1.1) e.1.0

    sound_all : (us : List Strategy) (ns : NamedFootprints) (least : ℕ) (bs : Branches) (s : State) (r : ReplayResult) (ms : NamedFootprints) → AreBranchesInOrder f.size least bs
        → WinAsKept side f us ns → IsReplayOfBranches side f ns bs s r ms → AreSound side f s (unfolded_entries us bs) r × WinAsKept side f (named_trees_after_branches us bs) ms
    sound_all us ns least no_branch s r ms o h e = (
      subst (AreSound side f s none) (sym e.0.1.0) (met_empty f s e.0.0 e.0.1.1, λ s' m t u k. absurd k),
      subst (WinAsKept side f us) (sym e.1) h,
    )
    sound_all us ns least (branch t c bs) s r ms o h e =
        let here = of_branch us ns t c s e.0 e.1.1.0 h (λ q g. sound us ns c (after f s t) q e.1.1.0 o.2 h g) e.1.1.1.0 in
        let rest = sound_all (named_trees_after us c) e.1.1.0 (turn_number_on_size f.size t + 1) bs s e.1.0 ms o.3 here.1 e.1.1.1.1 in
        (sound_more side f s t (unfolded us c) (unfolded_entries (named_trees_after us c) bs) e.0 e.1.0 r here.0 rest.0 e.1.1.1.2, rest.1)

-- the answer says whether the tree wins
pub answer_sound : (side : Side) (f : Frame) (o : Outline) (s : State) (r : ReplayResult) (ms : NamedFootprints) → IsOutlineInOrder f.size o → IsReplayOfOutline side f [] o s r ms
    → IfSome (wins_if_fit r) (λ wins. IsTrue wins ↔ WinsOrLives side f (unfolded [] o) s)
answer_sound side f o s r ms ordered h = pass r (sound side f [] [] o s r ms ordered tt h).0
  where
    pass : (q : ReplayResult) → IsSound side f s (unfolded [] o) q
        → IfSome (wins_if_fit q) (λ wins. IsTrue wins ↔ WinsOrLives side f (unfolded [] o) s)
    pass (Won x) k = (λ e. k.1 s k.0, λ w. refl)
    pass Lost k = (λ e. absurd (true≢false (sym e)), λ w. absurd (k w))
    pass Unfit k = tt
