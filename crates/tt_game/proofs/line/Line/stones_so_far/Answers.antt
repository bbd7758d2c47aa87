use Rattle.std.proofs.Common.{rules, ◌≡◌, ◌<◌, ◌++◌, ◌||◌, Bool, true, false, refl, ◌≤◌, length, take, drop, All, Contains, inl, inr, sym, ap, subst, ◌∙◌, arith}
use Rattle.std.proofs.lemmas.List.{take-append-drop}
use Rattle.std.proofs.lemmas.List.Elements.{Contains-append_cases}
use Rattle.std.specs.Arc.{arc_value}
use Rattle.tt_sgf.specs.declared.size.Size.{Size}
use Rattle.tt_sgf.specs.Sizes.{point_count}
use Rattle.tt_sgf.specs.laws.SizeLaws.{point_count_is_bounded}
use Rattle.tt_sgf.specs.MachineWords.{bit_in}
use Rattle.tt_board.specs.Position.{Position}
use Rattle.tt_game.specs.GameHistory.{so_far, colourings}
use Rattle.tt_game.specs.Game.{history}
use Rattle.tt_game.specs.inside.Undoing.{state_at}
use Rattle.tt_game.specs.declared.frame.Frame.{Frame}
use Rattle.tt_game.specs.inside.Roots.{Rooted, AreStonesOf}
use Rattle.tt_game.proofs.RootLemmas.{begins_long, rooted_here}
use Rattle.tt_game.proofs.line.Line.stones_so_far.Goals as goal

or_true : (b : Bool) → (b || true) ≡ true
or_true true = refl
or_true false = refl

pub boards_since-requires : goal.boards_since-requires
boards_since-requires c =
    let i = c.self.inside in let begun = (arc_value i.root).begun in
    let found : c.deref.result.now ≡ arc_value i.root = search rules in
    let count : c.board_count.result ≡ length begun = c.board_count.ensures.value ∙ ap (λ (r : Rooted). length r.begun) found in
    omega (arith, count, begins_long begun (so_far i.history) (rooted_here begun (state_at i.history i.to_move) _ c.self.invariant.rooted))

pub returns : goal.returns
returns c = λ col p has on stone.
    let i = c.self.inside in let h = so_far i.history in let n = c.board_count.result in let root = arc_value i.root in let k = c.args.colour in let f = c.args.self.now.frame in
    let one : c.deref.result.now ≡ root = search rules in
    let two : c.deref-2.result.now ≡ root = search rules in
    let framed : f ≡ i.frame = search rules in
    let all : h ≡ history c.args.self.now.state = search rules in
    let count : n ≡ length root.begun = c.board_count.ensures.value ∙ ap (λ (r : Rooted). length r.begun) one in
    let begins : take n h ≡ colourings root.begun = ap (λ m. take m h) count ∙ rooted_here root.begun (state_at i.history i.to_move) _ c.self.invariant.rooted in
    let parts : Contains (take n h ++ drop n h) col = subst (λ x. Contains x col) (sym all ∙ sym (take-append-drop n h)) has in
    let few : point_count f.size ≤ 361 = point_count_is_bounded f.size in
    c.or.ensures p (omega (arith, on, few)) ∙ elim (Contains-append_cases (take n h) (drop n h) col parts) [
      | inl early ↦
          let stones : AreStonesOf k root.begun c.stones_on_any_board.result.now.words
          = subst (λ (r : Rooted). AreStonesOf k r.begun c.stones_on_any_board.result.now.words) two c.stones_on_any_board.ensures in
          let sizes : All (λ (b : Position). b.size ≡ root.frame.size) root.begun = subst (λ (r : Rooted). All (λ (b : Position). b.size ≡ r.frame.size) r.begun) one c.board_count.ensures.sizes in
          let same : root.frame ≡ f = c.self.invariant.same_frame ∙ sym framed in
          ap (λ b. b || bit_in c.union_of_stones-later.result.words p) (stones col p (subst (λ x. Contains x col) begins early)
          (λ j d lt. subst (λ (g : Size). p < point_count g) (sym (sizes j d lt ∙ ap (λ (g : Frame). g.size) same)) on) stone)
      | inr late ↦
          ap (λ b. bit_in c.stones_on_any_board.result.now.words p || b) (c.union_of_stones-later.ensures col p (subst (λ x. Contains x col) (sym c.boards_since.ensures.colourings) late)
          (λ j d lt. subst (λ (g : Size). p < point_count g) (sym (c.boards_since.ensures.sizes j d lt ∙ c.self.invariant.size ∙ ap (λ (g : Frame). g.size) (sym framed))) on) stone)
          ∙ or_true (bit_in c.stones_on_any_board.result.now.words p)
    ]
