use Rattle.std.proofs.Common.{◌≡◌, ◌<◌, ℕ, List, rules, length, get_or}
use Rattle.tt_game.specs.declared.turns.Turn.{Turn}
use Rattle.tt_game.specs.Game.{IsLegal}
use Rattle.tt_solve.proofs.TurnValues.{all_values, legal_there, next_value}
use Rattle.tt_solve.proofs.solving.Solver.values_of_turns.Goals as goal

pub value_after_turn-value-requires-clause-legal : goal.value_after_turn-value-requires-clause-legal
value_after_turn-value-requires-clause-legal g c =
    let items : List Turn = c.as_slice-turn-items.result.now in
    let n : ℕ = c.loop-turn.turn-index in
    let turn : Turn = c.turn-item.result in
    let lt : n < length items = search rules in
    let is : turn ≡ get_or items n turn = search rules in
    let there : IsLegal c.args.line.now.frame c.args.line.now.state turn = legal_there c.args.line.now items n turn c.loop-turn.invariant.all lt is in
    search (rules, there)

pub loop-turn-preserved : goal.loop-turn-preserved
loop-turn-preserved g c =
    let items : List Turn = c.as_slice-turn-items.result.now in
    let n : ℕ = c.loop-turn.turn-index in
    let turn : Turn = c.turn-item.result in
    let lt : n < length items = search rules in
    let is : turn ≡ get_or items n turn = search rules in
    record {
      all = c.loop-turn.invariant.all;
      values = next_value c.args.line.now c.args.self.now.options.limits c.args.total c.loop-turn.left _ items n turn c.loop-turn.values.items _ c.value_after_turn-value.result.0 lt is
          c.loop-turn.invariant.values c.value_after_turn-value.ensures c.in_ok-push.ensures.items;
    }

pub returns : goal.returns
returns g c = (
  c.loop-turn.left,
  all_values c.args.line.now c.args.self.now.options.limits c.args.total c.loop-turn.left c.as_slice-turn-items.result.now c.loop-turn.turn-index c.loop-turn.values.items
      c.loop-turn-test.false c.loop-turn.invariant.all c.loop-turn.invariant.values,
)
