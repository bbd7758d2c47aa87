use Rattle.std.proofs.Common.{◌≡◌, ◌++◌, None, map, subst, sym, ap, ◌∙◌, arith, length, Contains, ◌↔◌, List, rules}
use Rattle.tt_game.specs.declared.turns.Turn.{Turn}
use Rattle.tt_game.specs.Turns.{TurnWithWinner, PlaysFrom, legal_turns, IsRising}
use Rattle.tt_game.specs.Game.{IsLegal, winner_of}
use Rattle.tt_game.specs.laws.TurnLaws.{contains-legal_turns, rising-legal_turns, length-legal_turns, turns_from_0_are_all}
use Rattle.tt_game.proofs.TurnsLemmas.{turns_of, none_over, one_more}
use Rattle.tt_game.proofs.line.Line.turns.Goals as goal

pub returns-then-is_some : goal.returns-then-is_some
returns-then-is_some c =
    let f = c.args.self.now.frame in let s = c.args.self.now.state in
    let won : winner_of f s ≡ None → ⊥ = search rules in
    let list : c.new-turns.result.items ≡ legal_turns f s = c.new-turns.ensures ∙ ap (map (λ (x : TurnWithWinner). x.turn)) (none_over f s won) ∙ turns_of f s in
    record {
      list = list;
      legal = λ t. subst (λ ts. Contains ts t ↔ IsLegal f s t) (sym list) (contains-legal_turns f s t);
      rising = subst (λ ts. IsRising f ts) (sym list) (rising-legal_turns f s);
      few = omega (arith, ap (λ (ts : List Turn). length ts) list, length-legal_turns f s);
    }

pub loop-p-init : goal.loop-p-init
loop-p-init c =
    let f = c.args.self.now.frame in let s = c.args.self.now.state in
    let from : c.legal_plays-plays.result.from ≡ 0 = ap (λ (x : PlaysFrom). x.from) c.legal_plays-plays.ensures in
    record {
      frame = ap (λ (x : PlaysFrom). x.frame) c.legal_plays-plays.ensures;
      state = ap (λ (x : PlaysFrom). x.state) c.legal_plays-plays.ensures;
      list = rw (from, c.new-turns.ensures) (ap (map (λ (x : TurnWithWinner). x.turn)) (turns_from_0_are_all f s) ∙ turns_of f s);
      few = omega (arith, ap (λ (ts : List Turn). length ts) c.new-turns.ensures);
      inside = omega (arith, from);
    }

pub loop-p-preserved : goal.loop-p-preserved
loop-p-preserved c =
    let f = c.args.self.now.frame in let s = c.args.self.now.state in let i = c.loop-p.invariant in
    let found = rw (i.frame, i.state) at c.in-Some.ensures.next in
    record {
      frame = c.next.ensures.same.0 ∙ i.frame;
      state = c.next.ensures.same.1 ∙ i.state;
      list = one_more f s c.loop-p.turns.items c.push.new.self.items c.loop-p.plays.from _ c.next.new.self.from c.push.ensures.items found.4 found.2 i.list;
      few = omega (arith, c.push.ensures.len, i.few, found.0, found.2);
      inside = rw i.frame at c.next.ensures.inside;
    }

pub returns : goal.returns
returns c =
    let f = c.args.self.now.frame in let s = c.args.self.now.state in let i = c.loop-p.invariant in
    let last = rw (i.frame, i.state) at c.in_default.ensures.next in
    let list : c.push-2.new.self.items ≡ legal_turns f s =
    c.push-2.ensures.items ∙ ap (λ xs. c.loop-p.turns.items ++ map (λ (x : TurnWithWinner). x.turn) xs) (sym last) ∙ i.list in
    record {
      list = list;
      legal = λ t. subst (λ ts. Contains ts t ↔ IsLegal f s t) (sym list) (contains-legal_turns f s t);
      rising = subst (λ ts. IsRising f ts) (sym list) (rising-legal_turns f s);
      few = omega (arith, ap (λ (ts : List Turn). length ts) list, length-legal_turns f s);
    }
