use Rattle.std.proofs.Common.{rules, ◌≡◌, ◌+◌, ◌<◌, ◌∷◌, ◌++◌, length, arith, take, drop, set, reverse, get_or, sym, ap, subst, ◌∙◌}
use Rattle.std.proofs.lemmas.List.{take_at, length_push, length-set}
use Rattle.std.specs.Arc.{arc_value}
use Rattle.tt_board.specs.Position.{Position}
use Rattle.tt_board.specs.Play.{play_of}
use Rattle.tt_game.specs.inside.Undoing.{Stack, stack_at, board_on, AreMade}
use Rattle.tt_game.proofs.BoardStackLemmas.{after, stack_room, written_below, written_present, made_more, made_room, made_fewer}
use Rattle.tt_game.proofs.history.board_stack.BoardStack.write_play.Goals as goal
use Rattle.tt_game.proofs.history.board_stack.BoardStack.write_play.Goals.{then-self-len+in_ok-push_with_play, else-self-len}

pub returns-clause-below : goal.returns-clause-below
returns-clause-below c =
    let i = c.if-self-len.self-inside in let n = i.count in let xs = i.later.items in let new = c.overwrite_with_play.new.later in
    let was : stack_at (arc_value i.first) xs n ≡ c.args.self.now = elim c.if-self-len.branch [
      | then-self-len+in_ok-push_with_play w ↦
          rw w.self-inside-is (ap (λ ys. stack_at (arc_value c.self.inside.first) ys c.self.inside.count) w.in_ok-push_with_play.ensures.later
          ∙ stack_room (arc_value c.self.inside.first) _ c.self.inside.later.items c.self.inside.count (omega (arith, c.self.invariant.count, c.self.invariant.valid)) ∙ c.self.view_is)
      | else-self-len w ↦ rw w.self-inside-is c.self.view_is
    ] in
    let within : n < length xs = elim c.if-self-len.branch [
      | then-self-len+in_ok-push_with_play w ↦
          rw w.self-inside-is (omega (arith, ap length w.in_ok-push_with_play.ensures.later, length_push c.self.inside.later.items w.copy-above.result, c.self.invariant.count, c.self.invariant.valid))
      | else-self-len w ↦ rw w.self-inside-is (omega (arith, w.if-self-len.false, c.self.invariant.count, c.self.invariant.valid))
    ] in
    let same : c.deref_mut.result.now ≡ xs = search rules in
    let q : Position = get_or ((arc_value i.first) ∷ xs) n (arc_value i.first) in
    let x : Position = board_on q.size (play_of q.size q.points c.args.colour c.args.p) in
    let made : new ≡ set xs n x = search rules in
    let long : length new ≡ i.later.len = search rules in
    let all : take i.later.len (new ++ drop (length new) xs) ≡ new = take_at new (drop (length new) xs) i.later.len long in
    ap (λ ys. reverse (take (n + 1) ((arc_value i.first) ∷ ys))) (all ∙ made) ∙ written_below (arc_value i.first) x xs n within ∙ ap (λ (s : Stack). s.present ∷ s.below) was

pub returns-clause-present : goal.returns-clause-present
returns-clause-present c =
    let i = c.if-self-len.self-inside in let n = i.count in let xs = i.later.items in let new = c.overwrite_with_play.new.later in
    let was : stack_at (arc_value i.first) xs n ≡ c.args.self.now = elim c.if-self-len.branch [
      | then-self-len+in_ok-push_with_play w ↦
          rw w.self-inside-is (ap (λ ys. stack_at (arc_value c.self.inside.first) ys c.self.inside.count) w.in_ok-push_with_play.ensures.later
          ∙ stack_room (arc_value c.self.inside.first) _ c.self.inside.later.items c.self.inside.count (omega (arith, c.self.invariant.count, c.self.invariant.valid)) ∙ c.self.view_is)
      | else-self-len w ↦ rw w.self-inside-is c.self.view_is
    ] in
    let within : n < length xs = elim c.if-self-len.branch [
      | then-self-len+in_ok-push_with_play w ↦
          rw w.self-inside-is (omega (arith, ap length w.in_ok-push_with_play.ensures.later, length_push c.self.inside.later.items w.copy-above.result, c.self.invariant.count, c.self.invariant.valid))
      | else-self-len w ↦ rw w.self-inside-is (omega (arith, w.if-self-len.false, c.self.invariant.count, c.self.invariant.valid))
    ] in
    let same : c.deref_mut.result.now ≡ xs = search rules in
    let q : Position = get_or ((arc_value i.first) ∷ xs) n (arc_value i.first) in
    let x : Position = board_on q.size (play_of q.size q.points c.args.colour c.args.p) in
    let made : new ≡ set xs n x = search rules in
    let long : length new ≡ i.later.len = search rules in
    let all : take i.later.len (new ++ drop (length new) xs) ≡ new = take_at new (drop (length new) xs) i.later.len long in
    ap (λ ys. get_or ((arc_value i.first) ∷ ys) (n + 1) (arc_value i.first)) (all ∙ made) ∙ written_present (arc_value i.first) x xs n within
    ∙ ap (λ (s : Stack). board_on s.present.size (play_of s.present.size s.present.points c.args.colour c.args.p)) was

pub invariant_of-self-2 : goal.invariant_of-self-2
invariant_of-self-2 c =
    let i = c.if-self-len.self-inside in let n = i.count in let xs = i.later.items in let ps = i.plays.items in let new = c.overwrite_with_play.new.later in
    let within : n < length xs = elim c.if-self-len.branch [
      | then-self-len+in_ok-push_with_play w ↦
          rw w.self-inside-is (omega (arith, ap length w.in_ok-push_with_play.ensures.later, length_push c.self.inside.later.items w.copy-above.result, c.self.invariant.count, c.self.invariant.valid))
      | else-self-len w ↦ rw w.self-inside-is (omega (arith, w.if-self-len.false, c.self.invariant.count, c.self.invariant.valid))
    ] in
    let even : length ps ≡ length xs = elim c.if-self-len.branch [
      | then-self-len+in_ok-push_with_play w ↦
          rw w.self-inside-is (omega (
            arith,
            ap length w.in_ok-push_with_play.ensures.later,
            length_push c.self.inside.later.items w.copy-above.result,
            ap length w.in_ok-push_with_play.ensures.plays,
            length_push c.self.inside.plays.items (c.args.colour, c.args.p),
            c.self.invariant.plays,
          ))
      | else-self-len w ↦ rw w.self-inside-is c.self.invariant.plays
    ] in
    let old : AreMade (arc_value i.first) xs ps n = elim c.if-self-len.branch [
      | then-self-len+in_ok-push_with_play w ↦
          rw (w.self-inside-is, w.in_ok-push_with_play.ensures.later, w.in_ok-push_with_play.ensures.plays) (made_room (arc_value c.self.inside.first) w.copy-above.result c.self.inside.later.items
          c.self.inside.plays.items (c.args.colour, c.args.p) c.self.inside.count (made_fewer (arc_value c.self.inside.first) c.self.inside.later.items c.self.inside.plays.items
          c.self.inside.valid c.self.inside.count c.self.invariant.made c.self.invariant.count)
          (omega (arith, c.self.invariant.count, c.self.invariant.valid)) (omega (arith, c.self.invariant.count, c.self.invariant.valid, c.self.invariant.plays)))
      | else-self-len w ↦ rw w.self-inside-is (made_fewer (arc_value c.self.inside.first) c.self.inside.later.items c.self.inside.plays.items c.self.inside.valid c.self.inside.count
          c.self.invariant.made c.self.invariant.count)
    ] in
    let same : c.deref_mut.result.now ≡ xs = search rules in
    let x : Position = after (arc_value i.first) xs n c.args.colour c.args.p in
    let made : new ≡ set xs n x = search rules in
    let long : length new ≡ i.later.len = search rules in
    let all : take i.later.len (new ++ drop (length new) xs) ≡ set xs n x = take_at new (drop (length new) xs) i.later.len long ∙ made in
    record {
      count = omega arith;
      valid = omega (arith, ap length all, length-set xs n x, within);
      plays = length-set ps n (c.args.colour, c.args.p) ∙ even ∙ sym (ap length all ∙ length-set xs n x);
      made = subst (λ ys. AreMade (arc_value i.first) ys (set ps n (c.args.colour, c.args.p)) (n + 1)) (sym all)
          (made_more (arc_value i.first) xs ps n c.args.colour c.args.p old within (omega (arith, within, even)));
    }
