-- The trees that the constructors make win.
use Rattle.std.proofs.Common.{◌≡◌, ◌∙◌, ◌≤◌, ◌↔◌, ◌+◌, ◌++◌, ℕ, inl, inr, arith, None, List, [], ◌∷◌, Contains, length, refl, sym, ap, subst}
use Rattle.std.proofs.lemmas.List.{append-nil}
use Rattle.tt_game.specs.Turns.{legal_turns}
use Rattle.tt_game.specs.laws.TurnLaws.{RisesFrom, contains-legal_turns, legal_turn_is_on_board, legal_turns_rise_from_0}
use Rattle.tt_game.specs.Game.{State, IsLegal, after, winner_of, opponent}
use Rattle.tt_game.specs.declared.frame.Side.{Side}
use Rattle.tt_game.specs.declared.frame.Side.TheVariants.{Attacker, Defender}
use Rattle.tt_game.specs.declared.frame.Frame.{Frame}
use Rattle.tt_game.specs.declared.turns.Turn.{Turn}
use Rattle.tt_game.specs.declared.turns.Turn.TheVariants.{Play, Pass}
use Rattle.tt_proof.specs.declared.tree.TheConstants.{MOST_DEPTH}
use Rattle.tt_proof.specs.EndRules.{EndRule, MayEnd}
use Rattle.tt_proof.specs.ProofClaim.{ProofClaim, IsWinningTreeUnder, IsChild, AreReplyChildren, turns_of, trees_by_turn}
use Rattle.tt_proof.specs.inside.Replaying.{HasEntry, LegalWin}
use Rattle.tt_proof.specs.inside.WonChildren.{AllWon}
use Rattle.tt_proof.specs.Strategy.{done, pick, reply, entries_of, depth_of_entries, AreInOrder, turn_number_on_size}
use Rattle.tt_proof.proofs.WinsLemmas.{reply_wins}
use Rattle.tt_game.specs.laws.Members.{IsIn, in_of_contains}

-- where the side has won, playing nothing more wins
pub won_done : (rule : EndRule) (side : Side) (f f' : Frame) (s s' : State) → f' ≡ f → s' ≡ s → MayEnd rule side f s → IsWinningTreeUnder rule side f' s' done
won_done rule side f f' s s' same_f same_s e =
    rw (same_f, same_s) record { wins = e; shallow = omega arith; in_order = tt }

-- where a turn is legal, nobody has won
legal_nobody : (f : Frame) (s : State) (t : Turn) → IsLegal f s t → winner_of f s ≡ None
legal_nobody f s (Play p) l = l.0
legal_nobody f s Pass l = l

-- a child's tree that is won wins for the side after the turn
child_won : (rule : EndRule) (f : Frame) (s : State) (side : Side) (t : Turn) (p : ProofClaim) → IsChild f s side t p →
    IsWinningTreeUnder rule p.side p.frame p.state p.tree → IsWinningTreeUnder rule side f (after f s t) p.tree
child_won rule f s side t p h w =
    subst (λ x. IsWinningTreeUnder rule side f x p.tree) h.stands.1
    (subst (λ x. IsWinningTreeUnder rule side x p.state p.tree) h.stands.0 (subst (λ x. IsWinningTreeUnder rule x p.frame p.state p.tree) h.same_side w))

-- a legal turn and then its child's tree win for the side to move
pub won_pick : (rule : EndRule) (f f' : Frame) (s s' : State) (t : Turn) (p : ProofClaim) → f' ≡ f → s' ≡ s →
    IsLegal f s t → IsChild f s s.to_move t p → IsWinningTreeUnder rule p.side p.frame p.state p.tree → IsWinningTreeUnder rule p.side f' s' (pick t p.tree)
won_pick rule f f' s s' t p same_f same_s l h w =
    let c = child_won rule f s s.to_move t p h w in
    let low = h.shallow in
    rw (same_f, same_s, h.same_side)
    record {
      wins = (legal_nobody f s t l, refl, l, c.wins);
      shallow = omega (arith, low);
      in_order = (legal_turn_is_on_board f s t l, c.in_order);
    }

-- a side is its opponent's opponent
opponent_twice : (a : Side) → a ≡ opponent (opponent a)
opponent_twice Attacker = refl
opponent_twice Defender = refl

module _ (rule : EndRule) (f : Frame) (s : State) where
  -- each child's tree that is won wins after its turn
  children_win : (es : List (Turn × ProofClaim)) → AreReplyChildren f s es → AllWon rule es →
      LegalWin rule (opponent s.to_move) f s (entries_of (trees_by_turn es))
  children_win [] h w = tt
  children_win (e ∷ es) h w = (λ l. (child_won rule f s (opponent s.to_move) e.0 e.1 h.0 w.0).wins, children_win es h.1 w.1)

  -- replies with children's trees are at most `MOST_DEPTH` deep
  children_low : (es : List (Turn × ProofClaim)) → AreReplyChildren f s es → depth_of_entries (entries_of (trees_by_turn es)) ≤ MOST_DEPTH
  children_low [] h = omega arith
  children_low (e ∷ es) h = let low = h.0.shallow in omega (arith, low, children_low es h.1)

  -- they are in order where the turns lie on the board and rise
  children_in_order : (least : ℕ) (es : List (Turn × ProofClaim)) → AreReplyChildren f s es → AllWon rule es →
      RisesFrom f.size least (turns_of es) → AreInOrder f.size least (entries_of (trees_by_turn es))
  children_in_order least [] h w r = tt
  children_in_order least (e ∷ es) h w r = (
    r.0,
    r.1,
    (child_won rule f s (opponent s.to_move) e.0 e.1 h.0 w.0).in_order,
    children_in_order (turn_number_on_size f.size e.0 + 1) es h.1 w.1 r.2,
  )

  -- each child's turn has an entry
  has_entry : (es : List (Turn × ProofClaim)) (t : Turn) → IsIn (turns_of es) t → HasEntry (entries_of (trees_by_turn es)) t
  has_entry [] t h = h
  has_entry (e ∷ es) t (inl h) = inl h
  has_entry (e ∷ es) t (inr h) = inr (has_entry es t h)

  -- a reply with a won child for each legal turn wins for the side that is not to move
  pub won_reply : (f' : Frame) (s' : State) (side : Side) (es : List (Turn × ProofClaim)) → f' ≡ f → s' ≡ s →
      side ≡ opponent s.to_move → winner_of f s ≡ None → turns_of es ≡ legal_turns f s → AreReplyChildren f s es → AllWon rule es →
      IsWinningTreeUnder rule side f' s' (reply (entries_of (trees_by_turn es)))
  won_reply f' s' side es same_f same_s theirs nobody same h w =
      let ts = turns_of es in
      let legal : (t : Turn) → Contains ts t ↔ IsLegal f s t = subst (λ xs. (t : Turn) → Contains xs t ↔ IsLegal f s t) (sym same) (contains-legal_turns f s) in
      let order = children_in_order 0 es h w (subst (RisesFrom f.size 0) (sym same) (legal_turns_rise_from_0 f s)) in
      rw (same_f, same_s, theirs)
      record {
        wins =
            ((reply_wins rule (opponent s.to_move) f s (entries_of (trees_by_turn es)) order
            ((nobody, opponent_twice s.to_move), λ t l. has_entry es t (in_of_contains ts t ((legal t).1 l)))).0
            (children_win es h w));
        shallow = children_low es h;
        in_order = order;
      }

-- one more won child leaves all of them won
pub all_won_push : (rule : EndRule) (es : List (Turn × ProofClaim)) (e : Turn × ProofClaim) → AllWon rule es →
    IsWinningTreeUnder rule e.1.side e.1.frame e.1.state e.1.tree → AllWon rule (es ++ e ∷ [])
all_won_push rule [] e h w = (w, tt)
all_won_push rule (x ∷ es) e h w = (h.0, all_won_push rule es e h.1 w)

-- one more child has one more tree
pub trees_of_push : (es : List (Turn × ProofClaim)) (e : Turn × ProofClaim) → trees_by_turn (es ++ e ∷ []) ≡ trees_by_turn es ++ ((e.0, e.1.tree) ∷ [])
trees_of_push [] e = refl
trees_of_push (x ∷ es) e = ap (λ r. (x.0, x.1.tree) ∷ r) (trees_of_push es e)

-- what was taken is all where nothing is left
pub at_end : {X : Type 0} (xs ys zs : List X) → xs ++ ys ≡ zs → length ys ≡ 0 → xs ≡ zs
at_end xs [] zs e h = sym (append-nil xs) ∙ e
at_end xs (y ∷ ys) zs e h = absurd (omega (arith, h))
