use Rattle.std.proofs.Common.{rules, ◌≡◌, ◌++◌, length, take, drop, set, Some, None, not, Contains, inl, inr, sym, ap, subst, ◌∙◌, arith}
use Rattle.std.proofs.lemmas.Bool.{false≢true}
use Rattle.std.proofs.lemmas.List.{take-append-drop, get_or-set_same}
use Rattle.std.proofs.lemmas.List.Elements.{Contains-append_cases}
use Rattle.std.specs.Arc.{arc_value}
use Rattle.tt_board.specs.Position.{Colouring}
use Rattle.tt_board.specs.Reach.{entry_at}
use Rattle.tt_game.specs.GameHistory.{so_far, colourings}
use Rattle.tt_game.specs.Game.{history}
use Rattle.tt_game.specs.BloomFilter.{filter_index}
use Rattle.tt_game.specs.inside.Undoing.{state_at}
use Rattle.tt_game.specs.inside.Roots.{Rooted}
use Rattle.tt_game.proofs.RootLemmas.{begins_long, rooted_here}
use Rattle.tt_game.proofs.line.Line.is_new_by_hash.Goals as goal

pub stone_has_stood-requires-clause-within : goal.stone_has_stood-requires-clause-within
stone_has_stood-requires-clause-within c =
    let i = c.self.inside in let begun = (arc_value i.root).begun in
    let found : c.deref-2.result.now ≡ arc_value i.root = search rules in
    let count : c.board_count.result ≡ length begun = c.board_count.ensures.value ∙ ap (λ (r : Rooted). length r.begun) found in
    omega (arith, count, begins_long begun (so_far i.history) (rooted_here begun (state_at i.history i.to_move) _ c.self.invariant.rooted))

pub returns : goal.returns
returns c = λ new has.
    let i = c.self.inside in let h = so_far i.history in let n = c.board_count.result in let begun = (arc_value i.root).begun in
    let l = c.args.self.now in let p = c.args.p in let r = c.requires in
    let col : Colouring = set l.state.present p (Some c.args.colour) in
    let one : c.deref.result.now ≡ arc_value i.root = search rules in
    let two : c.deref-2.result.now ≡ arc_value i.root = search rules in
    let count : n ≡ length begun = c.board_count.ensures.value ∙ ap (λ (x : Rooted). length x.begun) two in
    let all : h ≡ history l.state = search rules in
    let size : c.deref.result.now.frame.size ≡ l.frame.size = search rules in
    let begins : take n h ≡ colourings c.deref.result.now.begun =
    ap (λ k. take k h) count ∙ rooted_here begun (state_at i.history i.to_move) _ c.self.invariant.rooted ∙ ap (λ (x : Rooted). colourings x.begun) (sym one) in
    let parts : Contains (take n h ++ drop n h) col = subst (λ x. Contains x col) (sym all ∙ sym (take-append-drop n h)) has in
    let stone : entry_at col p ≡ Some c.args.colour = get_or-set_same l.state.present p (Some c.args.colour) None (omega (arith, r.on_board, r.fits)) in
    let hash : filter_index c.deref.result.now.frame.size col ≡ c.filter_index_with_stone.result =
    ap (λ g. filter_index g col) size ∙ sym (c.filter_index_with_stone.ensures l.frame.size l.state.present r.fits r.on_board r.free r.sum) in
    elim (Contains-append_cases (take n h) (drop n h) col parts) [
      | inl early ↦ c.may_have_hash.ensures c.if-may_have_hash.false col hash (subst (λ x. Contains x col) begins early)
      | inr later ↦ false≢true (sym (ap not (c.stone_has_stood.ensures col later stone)) ∙ new)
    ]
