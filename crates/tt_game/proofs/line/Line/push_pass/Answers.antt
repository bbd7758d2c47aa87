use Rattle.std.proofs.Common.{rules, ◌≡◌, ◌∷◌, ◌++◌, [], reverse}
use Rattle.std.specs.Arc.{arc_value}
use Rattle.tt_game.specs.declared.line.Undo.TheVariants.{UndoPass}
use Rattle.tt_game.specs.GameHistory.{with_pass}
use Rattle.tt_game.specs.Game.{opponent}
use Rattle.tt_game.specs.inside.Undoing.{state_at}
use Rattle.tt_game.specs.inside.Roots.{AreRooted}
use Rattle.tt_game.proofs.RootLemmas.{rooted_pass, undoable_pass}
use Rattle.tt_game.proofs.line.Line.push_pass.Goals as goal

pub invariant_of-self-2 : goal.invariant_of-self-2
invariant_of-self-2 c =
    let i = c.self.inside in
    let bs = (arc_value i.root).begun in
    let pushed : c.push.new.self.items ≡ i.pushes.items ++ UndoPass ∷ [] = search rules in
    let passed : c.add_pass.new.self ≡ with_pass i.history = search rules in
    let game_after_turn : c.opponent-self-inside.result ≡ opponent i.to_move = search rules in
    let rooted : AreRooted bs (state_at c.add_pass.new.self c.opponent-self-inside.result) (reverse c.push.new.self.items) =
    rw (pushed, passed, game_after_turn) (rooted_pass bs i.history i.to_move i.pushes.items c.self.invariant.rooted) in
    record {
      size = search rules;
      targets = c.self.invariant.targets;
      board = rw passed c.self.invariant.board;
      undoable = rw (pushed, passed, game_after_turn) (undoable_pass i.frame.size i.history i.to_move i.pushes.items i.stack.below c.self.invariant.undoable);
      same_frame = c.self.invariant.same_frame;
      rooted = rooted;
    }
