use Rattle.std.proofs.Common.{rules, ◌≡◌, ◌++◌, length, take, drop, Contains, None, inl, inr, sym, ap, subst, ◌∙◌, arith}
use Rattle.std.proofs.lemmas.List.{take-append-drop}
use Rattle.std.proofs.lemmas.List.Elements.{Contains-append_cases, Contains-append_right}
use Rattle.std.specs.Arc.{arc_value}
use Rattle.tt_game.specs.GameHistory.{so_far, colourings}
use Rattle.tt_game.specs.Game.{history}
use Rattle.tt_game.specs.inside.Undoing.{state_at}
use Rattle.tt_game.specs.inside.Roots.{Rooted}
use Rattle.tt_game.proofs.RootLemmas.{begins_long, rooted_here}
use Rattle.tt_game.proofs.line.Line.has_colouring_in_history.Goals as goal

pub has_been_since-requires-clause-within : goal.has_been_since-requires-clause-within
has_been_since-requires-clause-within c =
    let i = c.self.inside in let begun = (arc_value i.root).begun in
    let found : c.deref-in-None.result.now ≡ arc_value i.root = search rules in
    let count : c.board_count.result ≡ length begun = c.board_count.ensures.value ∙ ap (λ (r : Rooted). length r.begun) found in
    omega (arith, count, begins_long begun (so_far i.history) (rooted_here begun (state_at i.history i.to_move) _ c.self.invariant.rooted))

pub returns-in-None : goal.returns-in-None
returns-in-None c =
    let i = c.self.inside in let h = so_far i.history in let n = c.board_count.result in let begun = (arc_value i.root).begun in let col = c.args.next.now.points in
    let one : c.deref.result.now ≡ arc_value i.root = search rules in
    let two : c.deref-in-None.result.now ≡ arc_value i.root = search rules in
    let count : n ≡ length begun = c.board_count.ensures.value ∙ ap (λ (r : Rooted). length r.begun) two in
    let all : h ≡ history c.args.self.now.state = search rules in
    let none : c.likely_board_index.result ≡ None = search rules in
    let begins : take n h ≡ colourings c.deref.result.now.begun =
    ap (λ k. take k h) count ∙ rooted_here begun (state_at i.history i.to_move) _ c.self.invariant.rooted ∙ ap (λ (r : Rooted). colourings r.begun) (sym one) in
    let whole : take n h ++ drop n h ≡ history c.args.self.now.state = take-append-drop n h ∙ all in (
      λ on. subst (λ x. Contains x col) whole (Contains-append_right (take n h) (drop n h) col (c.has_been_since.ensures.0 on)),
      λ has. elim (Contains-append_cases (take n h) (drop n h) col (subst (λ x. Contains x col) (sym whole) has)) [
        | inl early ↦ absurd (c.likely_board_index.ensures none (subst (λ x. Contains x col) begins early))
        | inr later ↦ c.has_been_since.ensures.1 later
      ],
    )
