use Rattle.std.proofs.Common.{◌≡◌, true, ◌++◌, ◌∷◌, [], ◌∙◌, sym, ap, subst, length, arith}
use Rattle.std.proofs.lemmas.List.{length_push}
use Rattle.tt_sgf.specs.MachineWords.{bit_in}
use Rattle.tt_sgf.specs.declared.size.TheConstants.{MOST_POINTS}
use Rattle.tt_search.specs.inside.Untried.{fresh_edge, plays_in, AreBelow}
use Rattle.tt_search.proofs.Untried.{few_plays, play_more}
use Rattle.tt_search.proofs.tree.untried.UntriedPlays.push.Goals as goal

pub overflow_add-self : goal.overflow_add-self
overflow_add-self c = omega (arith, c.self.invariant, few_plays (bit_in c.self.inside.points.words) MOST_POINTS)

pub invariant_of-self : goal.invariant_of-self
invariant_of-self c =
    let a = bit_in c.self.inside.points.words in
    let b = bit_in c.set.new.self.words in
    let p = c.args.p in
    let n = c.from.ensures ∙ c.number.ensures.number in
    let below = subst (AreBelow p) (sym c.self.view_is) c.requires in
    let more = play_more a b p MOST_POINTS (omega (arith, c.number.ensures.number, c.number.ensures.bound)) (subst (λ k. b k ≡ true) n c.set.ensures.same)
    (λ q l other. c.set.ensures.others q (omega (arith, l)) (λ e. other (e ∙ n))) below in
    omega (arith, c.self.invariant, ap length more, length_push (plays_in a MOST_POINTS) (fresh_edge p))

pub returns : goal.returns
returns c =
    let a = bit_in c.self.inside.points.words in
    let b = bit_in c.set.new.self.words in
    let p = c.args.p in
    let n = c.from.ensures ∙ c.number.ensures.number in
    let below = subst (AreBelow p) (sym c.self.view_is) c.requires in
    let more = play_more a b p MOST_POINTS (omega (arith, c.number.ensures.number, c.number.ensures.bound)) (subst (λ k. b k ≡ true) n c.set.ensures.same)
    (λ q l other. c.set.ensures.others q (omega (arith, l)) (λ e. other (e ∙ n))) below in
    more ∙ ap (λ es. es ++ fresh_edge p ∷ []) c.self.view_is
