use Rattle.std.proofs.Common.{rules, ◌≡◌, ◌≤◌, ◌∷◌, ◌++◌, [], reverse}
use Rattle.std.specs.Arc.{arc_value}
use Rattle.tt_game.specs.declared.line.Undo.TheVariants.{UndoPlay}
use Rattle.tt_game.specs.GameHistory.{with_next_colouring}
use Rattle.tt_game.specs.Game.{opponent}
use Rattle.tt_game.specs.inside.Undoing.{state_at}
use Rattle.tt_game.specs.inside.Roots.{AreRooted}
use Rattle.tt_game.proofs.RootLemmas.{rooted_play, undoable_play}
use Rattle.tt_game.proofs.line.Line.push_play_on_empty.Goals as goal

pub invariant_of-self-2 : goal.invariant_of-self-2
invariant_of-self-2 c =
    let i = c.self.inside in
    let bs = (arc_value i.root).begun in
    let most : i.history.passes ≤ 2 = search rules in
    let pushed : c.push.new.self.items ≡ i.pushes.items ++ UndoPlay i.history.passes ∷ [] = search rules in
    let stack : c.push_counted.new.self ≡ with_next_colouring i.history c.present.result.now.points = search rules in
    let below : c.push-2.new.self.below ≡ i.stack.present ∷ i.stack.below = search rules in
    let game_after_turn : c.opponent-self-inside.result ≡ opponent i.to_move = search rules in
    let rooted : AreRooted bs (state_at c.push_counted.new.self c.opponent-self-inside.result) (reverse c.push.new.self.items) =
    rw (pushed, stack, game_after_turn) (rooted_play bs i.history i.to_move i.pushes.items c.present.result.now.points c.self.invariant.rooted) in
    record {
      size = search rules;
      targets = c.self.invariant.targets;
      board = search rules;
      undoable =
          rw (pushed, stack, game_after_turn, below)
          (undoable_play i.frame.size i.history i.to_move i.pushes.items c.present.result.now.points i.stack.present i.stack.below most c.self.invariant.board
          c.self.invariant.undoable);
      same_frame = c.self.invariant.same_frame;
      rooted = rooted;
    }
