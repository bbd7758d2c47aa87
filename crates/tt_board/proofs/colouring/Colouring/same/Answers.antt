use Rattle.std.proofs.Common.{◌∙◌, sym, ap, length}
use Rattle.std.proofs.lemmas.Bool.{false≢true, eqb-true, eq-eqb}
use Rattle.tt_board.proofs.PlaneLemmas.{count_is, shown_same, blacks_same, whites_same}
use Rattle.tt_board.proofs.colouring.Colouring.same.Goals as goal

pub returns-then-not-same : goal.returns-then-not-same
returns-then-not-same c =
    let i = c.self.inside in let j = c.other.inside in (
      λ no. absurd (false≢true no),
      λ same. let counts = sym (count_is i.count i.black.words i.white.words _ c.self.view_is) ∙ ap length same ∙ count_is j.count j.black.words j.white.words _ c.other.view_is in
          absurd (false≢true (sym c.if-not-same.true ∙ c.same.ensures.1
          (blacks_same i.count j.count i.black.words i.white.words j.black.words j.white.words _ _ counts c.self.view_is c.other.view_is c.self.invariant c.other.invariant same))),
    )

pub returns-then-not-same-2 : goal.returns-then-not-same-2
returns-then-not-same-2 c =
    let i = c.self.inside in let j = c.other.inside in (
      λ no. absurd (false≢true no),
      λ same. let counts = sym (count_is i.count i.black.words i.white.words _ c.self.view_is) ∙ ap length same ∙ count_is j.count j.black.words j.white.words _ c.other.view_is in
          absurd (false≢true (sym c.if-not-same-2.true ∙ c.same-2.ensures.1
          (whites_same i.count j.count i.black.words i.white.words j.black.words j.white.words _ _ counts c.self.view_is c.other.view_is c.self.invariant c.other.invariant same))),
    )

pub returns : goal.returns
returns c =
    let i = c.self.inside in let j = c.other.inside in (
      λ yes. shown_same i.count j.count i.black.words i.white.words j.black.words j.white.words _ _ (eqb-true i.count j.count yes) c.self.view_is c.other.view_is c.self.invariant
          (c.same.ensures.0 c.if-not-same.false) (c.same-2.ensures.0 c.if-not-same-2.false),
      λ same. eq-eqb i.count j.count (sym (count_is i.count i.black.words i.white.words _ c.self.view_is) ∙ ap length same ∙ count_is j.count j.black.words j.white.words _ c.other.view_is),
    )
