use Rattle.std.proofs.Common.{◌∙◌, ◌++◌, [], ◌∷◌, ◌↔◌, inl, inr, arith, refl, sym, ap, subst, Contains}
use Rattle.std.proofs.Math.Seq.{append_snoc}
use Rattle.tt_game.specs.Game.{IsLegal, after, opponent}
use Rattle.tt_game.specs.Line.{SnapshotState}
use Rattle.tt_game.specs.laws.TurnLaws.{contains-legal_turns}
use Rattle.tt_game.specs.declared.turns.Turn.{Turn}
use Rattle.tt_proof.specs.ProofClaim.{AreReplyChildren, trees_by_turn, turns_of}
use Rattle.tt_proof.specs.KeptFootprints.{IsFootprint}
use Rattle.tt_proof.specs.Strategy.{reply, entries_of}
use Rattle.tt_game.specs.laws.Members.{IsIn, contains_of_in}
use Rattle.tt_proof.proofs.FittingLemmas.{foot_moved, board_there}
use Rattle.tt_proof.specs.EndRules.{at_win, at_win_or_life}
use Rattle.tt_proof.proofs.ProvenLemmas.{at_end, won_reply, all_won_push, trees_of_push}
use Rattle.tt_proof.specs.inside.WonChildren.{AllWon}
use Rattle.tt_proof.proofs.life_proof.LifeProof.reply.Goals as goal

pub join_reply_turn-requires-clause-legal : goal.join_reply_turn-requires-clause-legal
join_reply_turn-requires-clause-legal c =
    subst (λ xs. (t : Turn) → IsIn (turns_of xs) t → IsLegal c.args.line.now.frame c.args.line.now.state t) c.in-Some.ensures.steps.0
    c.loop-turn.invariant.legal c.in-Some.turn (inl refl)

pub join_reply_turn-requires-clause-board : goal.join_reply_turn-requires-clause-board
join_reply_turn-requires-clause-board c =
    let left = subst (λ xs. AreReplyChildren c.args.line.now.frame c.args.line.now.state xs) c.in-Some.ensures.steps.0 c.loop-turn.invariant.left in
    board_there c.in-Some.child _ _ _ c.present-board.ensures left.0.stands

pub loop-turn-preserved : goal.loop-turn-preserved
loop-turn-preserved c =
    let f = c.args.line.now.frame in
    let s = c.args.line.now.state in
    let turn = c.in-Some.turn in
    let child = c.in-Some.child in
    let left = subst (λ xs. AreReplyChildren f s xs) c.in-Some.ensures.steps.0 c.loop-turn.invariant.left in
    let legal = subst (λ xs. (t : Turn) → IsIn (turns_of xs) t → IsLegal f s t) c.in-Some.ensures.steps.0 c.loop-turn.invariant.legal in
    let behind = foot_moved _ f _ (after f s turn) _ _ left.0.stands.0 left.0.stands.1 c.into_tree_and_footprint-measured_tree.ensures.footprint in
    record {
      order =
          append_snoc c.loop-turn.yielded (turn, child) _
          ∙ ap (λ r. c.loop-turn.yielded ++ r) (sym c.in-Some.ensures.steps.0) ∙ c.loop-turn.invariant.order;
      same =
          c.in_ok-push.ensures.ok
          ∙ ap (λ xs. xs ++ ((turn, c.into_tree_and_footprint-measured_tree.result.0) ∷ [])) c.loop-turn.invariant.same
          ∙ ap (λ y. trees_by_turn c.loop-turn.yielded ++ ((turn, y) ∷ [])) c.into_tree_and_footprint-measured_tree.ensures.measured_tree
          ∙ sym (trees_of_push c.loop-turn.yielded (turn, child));
      won = all_won_push at_win_or_life c.loop-turn.yielded (turn, child) c.loop-turn.invariant.won c.into_tree_and_footprint-measured_tree.ensures.wins;
      at_wins = λ e.
          let both = c.are_both-all_end_at_wins.ensures e in
          all_won_push at_win c.loop-turn.yielded (turn, child) (c.loop-turn.invariant.at_wins both.0) (c.into_tree_and_footprint-measured_tree.ensures.at_wins both.1);
      left = left.1;
      legal = λ t i. legal t (inr i);
      joined =
          subst (λ es. IsFootprint f s (reply (entries_of es)) c.join_reply_turn.new.self) (sym (trees_of_push c.loop-turn.yielded (turn, child)))
          (c.in_ok-join_reply_turn.ensures child.tree behind (trees_by_turn c.loop-turn.yielded) c.loop-turn.invariant.joined);
    }

pub invariant_of-result : goal.invariant_of-result
invariant_of-result c =
    let own = c.in_ok-snapshot.ensures in
    let f = c.args.line.now.frame in
    let s = c.args.line.now.state in
    let rest = c.loop-turn.turn-iterator.rest in
    let all = at_end c.loop-turn.yielded rest.items _ c.loop-turn.invariant.order (omega (arith, rest.ok.0, c.in-None.ensures.steps.0)) in
    let same = c.in_ok-measured_tree.ensures ∙ ap (λ es. reply (entries_of es)) (c.loop-turn.invariant.same ∙ ap trees_by_turn all) in
    let frame = ap (λ (l : SnapshotState). l.frame) own in
    let state = ap (λ (l : SnapshotState). l.state) own in
    let mover = c.opponent.ensures ∙ ap opponent c.to_move.ensures in
    rw same (
      record {
        won =
            won_reply at_win_or_life f s _ _ _ c.args.children.items frame state mover c.requires.nobody
            c.requires.turns c.requires.children (subst (AllWon at_win_or_life) all c.loop-turn.invariant.won);
        footprint =
            foot_moved f _ s _ _ _ (sym frame) (sym state)
            (subst (λ es. IsFootprint f s (reply (entries_of (trees_by_turn es))) c.loop-turn.footprint) all c.loop-turn.invariant.joined);
      },
      λ e. won_reply at_win f s _ _ _ c.args.children.items frame state mover c.requires.nobody
          c.requires.turns c.requires.children (subst (AllWon at_win) all (c.loop-turn.invariant.at_wins e)),
    )

pub returns : goal.returns
returns c =
    let own = c.in_ok-snapshot.ensures in
    let left = c.loop-turn.turn-iterator.rest in
    let all = at_end c.loop-turn.yielded left.items _ c.loop-turn.invariant.order (omega (arith, left.ok.0, c.in-None.ensures.steps.0)) in (
      (ap (λ (l : SnapshotState). l.frame) own, ap (λ (l : SnapshotState). l.state) own),
      c.opponent.ensures ∙ ap opponent c.to_move.ensures,
      c.in_ok-measured_tree.ensures ∙ ap (λ es. reply (entries_of es)) (c.loop-turn.invariant.same ∙ ap trees_by_turn all),
    )

pub loop-turn-init : goal.loop-turn-init
loop-turn-init c =
    let f = c.args.line.now.frame in
    let s = c.args.line.now.state in
    let ts = turns_of c.args.children.items in
    let each : (t : Turn) → Contains ts t ↔ IsLegal f s t =
    subst (λ xs. (t : Turn) → Contains xs t ↔ IsLegal f s t) (sym c.requires.turns) (contains-legal_turns f s) in
    record {
      order = c.into_iter-turn-iterator.ensures.into_iter_gives.0;
      same = c.in_ok-replies.ensures;
      won = tt;
      at_wins = λ _. tt;
      left = rw c.into_iter-turn-iterator.ensures.into_iter_gives.0 c.requires.children;
      legal = rw c.into_iter-turn-iterator.ensures.into_iter_gives.0 (λ t i. (each t).0 (contains_of_in ts t i));
      joined = c.in_ok-footprint.ensures;
    }
