use Rattle.std.proofs.Common.{rules, ◌≡◌, ◌+◌, None, sym, ap, subst, ◌∙◌, arith}
use Rattle.tt_game.specs.Game.{winner_of}
use Rattle.tt_game.specs.Turns.{PlaysFrom, turns_with_winners_from}
use Rattle.tt_game.proofs.TurnsLemmas.{from_more, from_skip, from_gap, from_last}
use Rattle.tt_game.proofs.plays.LegalPlays.next.Goals as goal

pub returns-in-Some-winner_if_legal-clause-next : goal.returns-in-Some-winner_if_legal-clause-next
returns-in-Some-winner_if_legal-clause-next c =
    let f = c.args.self.now.frame in let s = c.args.self.now.state in let p = c.in-Some.p in let i = c.loop-p.invariant in
    let frame : c.loop-p.self-inside.line.now.frame ≡ f = search rules in
    let state : c.loop-p.self-inside.line.now.state ≡ s = search rules in
    let found = rw (frame, state) at c.in-Some.ensures in
    let won = rw (frame, state) at c.in-Some-winner_if_legal.ensures in
    let here : turns_with_winners_from f s c.args.self.now.from ≡ turns_with_winners_from f s p = i.same ∙ from_gap f s c.loop-p.self-inside.from p found.1 (omega (arith, found.0)) found.2 in
    (omega (arith, found.1, i.after), found.0, ap (λ n. n + 1) c.number.ensures.number, won.1, here ∙ from_more f s p won.0)

pub loop-p-preserved : goal.loop-p-preserved
loop-p-preserved c =
    let f = c.args.self.now.frame in let s = c.args.self.now.state in let p = c.in-Some.p in let i = c.loop-p.invariant in
    let frame : c.loop-p.self-inside.line.now.frame ≡ f = search rules in
    let state : c.loop-p.self-inside.line.now.state ≡ s = search rules in
    let found = rw (frame, state) at c.in-Some.ensures in
    let refused = rw (frame, state) at c.in_default-winner_if_legal.ensures in
    let is : c.number.result ≡ p = c.number.ensures.number in
    let step : p + 1 ≡ c.number.result + 1 = ap (λ n. n + 1) (sym is) in
    record {
      line = i.line;
      moves = i.moves;
      same = i.same ∙ from_gap f s c.loop-p.self-inside.from p found.1 (omega (arith, found.0)) found.2 ∙ from_skip f s p found.0 refused ∙ ap (turns_with_winners_from f s) step;
      after = omega (arith, found.1, is, i.after);
      inside = omega (arith, found.0, is);
    }

pub returns-clause-next : goal.returns-clause-next
returns-clause-next c =
    let f = c.args.self.now.frame in let s = c.args.self.now.state in let i = c.loop-p.invariant in
    let frame : c.loop-p.self-inside.line.now.frame ≡ f = search rules in
    let state : c.loop-p.self-inside.line.now.state ≡ s = search rules in
    let over = rw (frame, state) at c.in_default.ensures in
    let open_ : winner_of f s ≡ None = subst (λ (v : PlaysFrom). winner_of v.frame v.state ≡ None) c.self.view_is c.self.invariant.nobody in
    i.same ∙ from_last f s c.loop-p.self-inside.from i.inside open_ (λ q after. over q after)
