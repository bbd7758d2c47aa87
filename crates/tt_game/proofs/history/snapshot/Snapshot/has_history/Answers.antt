use Rattle.std.proofs.Common.{rules, ◌≡◌, ◌++◌, length, take, drop, All, sym, ap, subst, ◌∙◌, IsTrue}
use Rattle.std.proofs.lemmas.List.{take_rest}
use Rattle.std.proofs.lemmas.Bool.{false≢true}
use Rattle.std.specs.Arc.{arc_value}
use Rattle.tt_sgf.specs.declared.size.Size.{Size}
use Rattle.tt_board.specs.Position.{Position}
use Rattle.tt_game.specs.Line.{SnapshotState}
use Rattle.tt_game.specs.inside.Roots.{Rooted}
use Rattle.tt_game.proofs.RootLemmas.{shows_boards, two_parts, of_two_parts}
use Rattle.tt_game.proofs.history.snapshot.Snapshot.has_history.Goals as goal

pub returns-then-not-equals_boards : goal.returns-then-not-equals_boards
returns-then-not-equals_boards c =
    let i = c.self.inside in let root = arc_value i.root in let there = c.history-boards.result.now in
    let found : c.deref.result.now ≡ root = search rules in
    let n : c.board_count-begun.result ≡ length root.begun = c.board_count-begun.ensures.value ∙ ap (λ (r : Rooted). length r.begun) found in
    let size : c.args.line.now.frame.size ≡ root.frame.size = c.requires ∙ sym (ap (λ (x : SnapshotState). x.frame.size) c.self.view_is) in
    let sizes : All (λ (b : Position). b.size ≡ root.frame.size) there =
    subst (λ (z : Size). All (λ (b : Position). b.size ≡ z) there) size c.history-boards.ensures.sizes in
    let same =
    shows_boards root.frame.size (root.begun ++ i.later) there i.passes i.to_move c.args.self.now.state
    c.self.invariant.some_board c.self.invariant.sizes sizes (ap (λ (x : SnapshotState). x.state) c.self.view_is) in (
      λ y. absurd (false≢true y),
      λ h. sym c.if-not-equals_boards.true ∙ c.equals_boards.ensures.1 ((two_parts root.begun i.later there (same.0 (h ∙ sym c.history-boards.ensures.colourings))).1
          ∙ ap (λ k. drop k there) (sym n) ∙ sym (take_rest there c.board_count-begun.result)),
    )

pub returns : goal.returns
returns c =
    let i = c.self.inside in let root = arc_value i.root in let there = c.history-boards.result.now in
    let found : c.deref.result.now ≡ root = search rules in
    let again : c.deref-2.result.now ≡ root = search rules in
    let n : c.board_count-begun.result ≡ length root.begun = c.board_count-begun.ensures.value ∙ ap (λ (r : Rooted). length r.begun) found in
    let kept : IsTrue c.equals_boards.result = search rules in
    let behind : i.later ≡ drop (length root.begun) there = c.equals_boards.ensures.0 kept ∙ take_rest there c.board_count-begun.result ∙ ap (λ k. drop k there) n in
    let size : c.args.line.now.frame.size ≡ root.frame.size = c.requires ∙ sym (ap (λ (x : SnapshotState). x.frame.size) c.self.view_is) in
    let sizes : All (λ (b : Position). b.size ≡ root.frame.size) there =
    subst (λ (z : Size). All (λ (b : Position). b.size ≡ z) there) size c.history-boards.ensures.sizes in
    let begins = subst (λ (r : Rooted). (IsTrue c.begins_with_root.result → r.begun ≡ take (length r.begun) there)
    × (r.begun ≡ take (length r.begun) there → IsTrue c.begins_with_root.result)) again c.begins_with_root.ensures in
    let same =
    shows_boards root.frame.size (root.begun ++ i.later) there i.passes i.to_move c.args.self.now.state
    c.self.invariant.some_board c.self.invariant.sizes sizes (ap (λ (x : SnapshotState). x.state) c.self.view_is) in (
      λ y. same.1 (of_two_parts root.begun i.later there (begins.0 y) behind) ∙ c.history-boards.ensures.colourings,
      λ h. begins.1 (two_parts root.begun i.later there (same.0 (h ∙ sym c.history-boards.ensures.colourings))).0,
    )
