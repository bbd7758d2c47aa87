use Rattle.std.proofs.Common.{rules, ◌≡◌, ◌++◌, length, take, IsTrue, sym, ap, subst, ◌∙◌, arith}
use Rattle.std.specs.Arc.{arc_value}
use Rattle.tt_game.specs.GameHistory.{colourings}
use Rattle.tt_game.specs.Game.{history}
use Rattle.tt_game.specs.Line.{SnapshotState}
use Rattle.tt_game.specs.inside.Roots.{Rooted}
use Rattle.tt_game.proofs.GameHistoryLemmas.{history_is, length-colourings}
use Rattle.tt_game.proofs.RootLemmas.{begin_alike, begun_fewer}
use Rattle.tt_game.proofs.history.snapshot.Snapshot.known_common_history_length.Goals as goal

pub returns-clause-within : goal.returns-clause-within
returns-clause-within c =
    let root = arc_value c.self.inside.root in let there = c.history.result.now in
    let found : c.deref.result.now ≡ root = search rules in
    let again : c.deref-2.result.now ≡ root = search rules in
    let n : c.board_count.result ≡ length root.begun = c.board_count.ensures.value ∙ ap (λ (r : Rooted). length r.begun) again in
    let has : IsTrue c.begins_with_root.result = search rules in
    let begun : root.begun ≡ take (length root.begun) there = subst (λ (r : Rooted). r.begun ≡ take (length r.begun) there) found (c.begins_with_root.ensures.0 has) in
    let shown : length (history c.args.line.now.state) ≡ length there = ap length (sym c.history.ensures.colourings) ∙ length-colourings there in
    omega (arith, n, shown, begun_fewer root.begun there begun)

pub returns-clause-alike : goal.returns-clause-alike
returns-clause-alike c =
    let i = c.self.inside in let root = arc_value i.root in let there = c.history.result.now in
    let found : c.deref.result.now ≡ root = search rules in
    let again : c.deref-2.result.now ≡ root = search rules in
    let n : c.board_count.result ≡ length root.begun = c.board_count.ensures.value ∙ ap (λ (r : Rooted). length r.begun) again in
    let has : IsTrue c.begins_with_root.result = search rules in
    let begun : root.begun ≡ take (length root.begun) there = subst (λ (r : Rooted). r.begun ≡ take (length r.begun) there) found (c.begins_with_root.ensures.0 has) in
    let own : history c.args.self.now.state ≡ colourings (root.begun ++ i.later) =
    ap (λ (x : SnapshotState). history x.state) (sym c.self.view_is) ∙ history_is root.frame.size (root.begun ++ i.later) i.passes c.self.invariant.some_board in
    subst (λ k. take k (history c.args.line.now.state) ≡ take k (history c.args.self.now.state)) (sym n)
    (ap (take (length root.begun)) (sym c.history.ensures.colourings) ∙ begin_alike root.begun i.later there begun ∙ ap (take (length root.begun)) (sym own))
