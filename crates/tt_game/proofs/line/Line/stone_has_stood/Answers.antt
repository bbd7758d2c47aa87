use Rattle.std.proofs.Common.{rules, ◌≡◌, ◌++◌, length, take, drop, Contains, inl, inr, sym, ap, subst, ◌∙◌, arith}
use Rattle.std.proofs.lemmas.Bool.{false≢true}
use Rattle.std.proofs.lemmas.List.{take-append-drop}
use Rattle.std.proofs.lemmas.List.Elements.{Contains-append_cases}
use Rattle.std.specs.Arc.{arc_value}
use Rattle.tt_game.specs.GameHistory.{so_far, colourings}
use Rattle.tt_game.specs.Game.{history}
use Rattle.tt_game.specs.inside.Undoing.{state_at}
use Rattle.tt_game.specs.inside.Roots.{Rooted}
use Rattle.tt_game.proofs.RootLemmas.{begins_long, rooted_here}
use Rattle.tt_game.proofs.line.Line.stone_has_stood.Goals as goal

pub stone_has_stood-requires-2-clause-within : goal.stone_has_stood-requires-2-clause-within
stone_has_stood-requires-2-clause-within c =
    let i = c.self.inside in let begun = (arc_value i.root).begun in
    let found : c.deref-2.result.now ≡ arc_value i.root = search rules in
    let count : c.board_count.result ≡ length begun = c.board_count.ensures.value ∙ ap (λ (r : Rooted). length r.begun) found in
    omega (arith, count, begins_long begun (so_far i.history) (rooted_here begun (state_at i.history i.to_move) _ c.self.invariant.rooted))

pub returns : goal.returns
returns c = λ col has stone.
    let i = c.self.inside in let h = so_far i.history in let n = c.board_count.result in let begun = (arc_value i.root).begun in
    let one : c.deref.result.now ≡ arc_value i.root = search rules in
    let two : c.deref-2.result.now ≡ arc_value i.root = search rules in
    let count : n ≡ length begun = c.board_count.ensures.value ∙ ap (λ (r : Rooted). length r.begun) two in
    let all : h ≡ history c.args.self.now.state = search rules in
    let begins : take n h ≡ colourings c.deref.result.now.begun =
    ap (λ k. take k h) count ∙ rooted_here begun (state_at i.history i.to_move) _ c.self.invariant.rooted ∙ ap (λ (r : Rooted). colourings r.begun) (sym one) in
    let parts : Contains (take n h ++ drop n h) col = subst (λ x. Contains x col) (sym all ∙ sym (take-append-drop n h)) has in
    elim (Contains-append_cases (take n h) (drop n h) col parts) [
      | inl early ↦ absurd (false≢true (sym c.if-stone_has_stood.false ∙ c.stone_has_stood.ensures col (subst (λ x. Contains x col) begins early) stone))
      | inr later ↦ c.stone_has_stood-2.ensures col later stone
    ]
