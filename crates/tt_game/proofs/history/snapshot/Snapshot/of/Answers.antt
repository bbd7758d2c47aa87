use Rattle.std.proofs.Common.{rules, ◌≡◌, ◌<◌, ◌++◌, length, drop, All, sym, ap, subst, ◌∙◌, arith}
use Rattle.std.proofs.lemmas.List.{take_rest, length-append}
use Rattle.std.proofs.lemmas.List.Elements.{All-append, All-drop}
use Rattle.std.specs.Arc.{arc_value}
use Rattle.tt_sgf.specs.declared.size.Size.{Size}
use Rattle.tt_board.specs.Position.{Position}
use Rattle.tt_game.specs.Keys.{key_of}
use Rattle.tt_game.specs.KeyHash.{hash_of_key}
use Rattle.tt_game.specs.Line.{SnapshotState}
use Rattle.tt_game.specs.inside.Undoing.{game_history_of, state_at}
use Rattle.tt_game.specs.inside.Roots.{Rooted}
use Rattle.tt_game.proofs.RootLemmas.{kept_shows}
use Rattle.tt_game.proofs.history.snapshot.Snapshot.of.Goals as goal

pub of-requires : goal.of-requires
of-requires c =
    let root = arc_value c.args.root.now in
    let base = arc_value c.delta_base.result.now in
    let found : c.deref.result.now ≡ root = search rules in
    let same : c.args.history.now.size ≡ base.size = c.requires.size ∙ sym (c.delta_base.ensures ∙ ap (λ (r : Rooted). r.frame.size) found) in
    subst (λ bs. All (λ (b : Position). b.size ≡ base.size) bs) (sym (take_rest c.boards.result.now c.board_count.result))
    (All-drop (λ (b : Position). b.size ≡ base.size) c.board_count.result c.boards.result.now
    (subst (λ (z : Size). All (λ (b : Position). b.size ≡ z) c.boards.result.now) same c.boards.ensures.sizes))

pub invariant_of-result : goal.invariant_of-result
invariant_of-result c =
    let root = arc_value c.args.root.now in
    let there = c.boards.result.now in
    let g = root.frame.size in
    let same_root : arc_value c.in_ok-try_clone.field-0 ≡ root = search rules in
    let behind : c.in_ok-later.later ≡ drop c.board_count.result there = c.in_ok-later.ensures ∙ take_rest there c.board_count.result in
    let found : c.deref-2.result.now ≡ root = search rules in
    let sizes : All (λ (b : Position). b.size ≡ g) there = subst (λ (z : Size). All (λ (b : Position). b.size ≡ z) there) c.requires.size c.boards.ensures.sizes in
    let later : All (λ (b : Position). b.size ≡ g) c.in_ok-later.later =
    subst (λ bs. All (λ (b : Position). b.size ≡ g) bs) (sym behind) (All-drop (λ (b : Position). b.size ≡ g) c.board_count.result there sizes) in
    let some : 0 < length root.begun = subst (λ (r : Rooted). 0 < length r.begun) found c.board_count.ensures.some in
    let begun : All (λ (b : Position). b.size ≡ g) root.begun = subst (λ (r : Rooted). All (λ (b : Position). b.size ≡ r.frame.size) r.begun) found c.board_count.ensures.sizes in
    let h = c.args.history.now in
    let count : c.board_count.result ≡ length root.begun = c.board_count.ensures.value ∙ ap (λ (r : Rooted). length r.begun) found in
    let passes : c.passes.result ≡ h.passes = c.passes.ensures.value in
    let shown : state_at (game_history_of h.size (root.begun ++ drop (length root.begun) there) h.passes) c.args.to_move ≡ state_at h c.args.to_move =
    kept_shows h root.begun there c.args.to_move c.boards.ensures.colourings c.requires.begins in
    let kept : state_at (game_history_of root.frame.size (root.begun ++ c.in_ok-later.later) c.passes.result) c.args.to_move ≡ state_at h c.args.to_move =
    rw (behind, count, passes, sym c.requires.size) shown in
    rw same_root (record {
      some_board = omega (arith, some, length-append root.begun c.in_ok-later.later);
      sizes = All-append (λ (b : Position). b.size ≡ g) root.begun c.in_ok-later.later begun later;
      hash = c.requires.hash ∙ ap (λ s. hash_of_key (key_of root.frame s)) (sym kept);
    })

pub returns : goal.returns
returns c =
    let root = arc_value c.args.root.now in
    let there = c.boards.result.now in
    let h = c.args.history.now in
    let same_root : arc_value c.in_ok-try_clone.field-0 ≡ root = search rules in
    let behind : c.in_ok-later.later ≡ drop c.board_count.result there = c.in_ok-later.ensures ∙ take_rest there c.board_count.result in
    let found : c.deref-2.result.now ≡ root = search rules in
    let count : c.board_count.result ≡ length root.begun = c.board_count.ensures.value ∙ ap (λ (r : Rooted). length r.begun) found in
    let passes : c.passes.result ≡ h.passes = c.passes.ensures.value in
    let shown : state_at (game_history_of h.size (root.begun ++ drop (length root.begun) there) h.passes) c.args.to_move ≡ state_at h c.args.to_move =
    kept_shows h root.begun there c.args.to_move c.boards.ensures.colourings c.requires.begins in
    let kept : state_at (game_history_of root.frame.size (root.begun ++ c.in_ok-later.later) c.passes.result) c.args.to_move ≡ state_at h c.args.to_move =
    rw (behind, count, passes, sym c.requires.size) shown in
    rw same_root (ap (λ s. let p : SnapshotState = record { frame = root.frame; state = s } in p) kept)
