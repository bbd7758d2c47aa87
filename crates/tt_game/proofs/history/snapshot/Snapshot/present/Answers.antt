use Rattle.std.proofs.Common.{rules, ◌≡◌, ◌++◌, ◌∷◌, [], sym, ap, ◌∙◌, append_assoc}
use Rattle.std.proofs.lemmas.List.{append-nil}
use Rattle.std.specs.Arc.{arc_value}
use Rattle.tt_board.specs.Position.{Position}
use Rattle.tt_game.specs.Line.{SnapshotState}
use Rattle.tt_game.specs.inside.Roots.{Rooted}
use Rattle.tt_game.proofs.RootLemmas.{last_shown, last_sized}
use Rattle.tt_game.proofs.history.snapshot.Snapshot.present.Goals as goal

pub returns-in-Some-clause-size : goal.returns-in-Some-clause-size
returns-in-Some-clause-size c =
    let i = c.self.inside in let root = arc_value i.root in let h = c.in-Some.ensures in
    last_sized root.frame.size (root.begun ++ i.later) (root.begun ++ h.0) c.in-Some.board
    (ap (λ xs. root.begun ++ xs) h.1 ∙ sym (append_assoc root.begun h.0 (c.in-Some.board ∷ []))) c.self.invariant.sizes
    ∙ ap (λ (p : SnapshotState). p.frame.size) c.self.view_is

pub returns-in-Some-clause-points : goal.returns-in-Some-clause-points
returns-in-Some-clause-points c =
    let i = c.self.inside in let root = arc_value i.root in let h = c.in-Some.ensures in
    sym (last_shown (root.begun ++ i.later) (root.begun ++ h.0) c.in-Some.board
    (ap (λ xs. root.begun ++ xs) h.1 ∙ sym (append_assoc root.begun h.0 (c.in-Some.board ∷ []))))
    ∙ ap (λ (p : SnapshotState). p.state.present) c.self.view_is

pub returns-in-None-clause-size : goal.returns-in-None-clause-size
returns-in-None-clause-size c =
    let i = c.self.inside in let root = arc_value i.root in let h = c.last-in-None.ensures in
    let found : c.deref.result.now ≡ root = search rules in
    ap (λ (b : Position). b.size) c.copy.ensures
    ∙ last_sized root.frame.size (root.begun ++ i.later) h.0 c.last-in-None.result.now
    (ap (λ xs. root.begun ++ xs) c.in-None.ensures ∙ append-nil root.begun ∙ ap (λ (r : Rooted). r.begun) (sym found) ∙ h.1) c.self.invariant.sizes
    ∙ ap (λ (p : SnapshotState). p.frame.size) c.self.view_is
