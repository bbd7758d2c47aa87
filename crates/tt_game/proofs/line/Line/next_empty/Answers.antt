use Rattle.std.proofs.Common.{rules, ◌≡◌, ℕ, ◌<◌, ◌≤◌, ◌↔◌, min, List, Option, Some, None, MatchOption, IsTrue, true, false, sym, subst, ◌∙◌, arith}
use Rattle.std.proofs.lemmas.Bool.{false≢true}
use Rattle.std.specs.FinSet as set
use Rattle.tt_sgf.specs.Sizes.{point_count}
use Rattle.tt_sgf.specs.laws.SizeLaws.{point_count_is_bounded}
use Rattle.tt_sgf.specs.MachineWords.{bit_in}
use Rattle.tt_board.specs.Reach.{entry_at}
use Rattle.tt_board.specs.Stones.{IsEmptyPointOfSet}
use Rattle.tt_game.specs.declared.frame.Frame.{Frame}
use Rattle.tt_game.specs.declared.turns.Turn.TheVariants.{Play}
use Rattle.tt_game.specs.Game.{State, IsLegal}
use Rattle.tt_game.proofs.line.Line.next_empty.Goals as goal

-- the first bit of the empty points of the region is that of the first point on which somebody may play
next_is : (f : Frame) (s : State) (ws : List ℕ) → ((p : ℕ) → p < point_count f.size → (bit_in ws p ≡ true) ↔ IsEmptyPointOfSet f.size f.region s.present p)
    → (from start m : ℕ) → start ≡ min from 384 → start ≤ m → ((q : ℕ) → start ≤ q → q < m → q < 384 → bit_in ws q ≡ false) → (m < 384 → bit_in ws m ≡ true)
    → (found : Option ℕ) → MatchOption found (point_count f.size ≤ m) (λ p. (p ≡ m) × (m < point_count f.size))
    → MatchOption found ((q : ℕ) → from ≤ q → IsLegal f s (Play q) → ⊥)
    (λ p. (p < point_count f.size) × (from ≤ p) × ((q : ℕ) → from ≤ q → q < p → IsLegal f s (Play q) → ⊥)
    × IsTrue (set.contains f.region p) × (entry_at s.present p ≡ None))
next_is f s ws facts from start m begins after none some None past = λ q behind l.
    let few : point_count f.size ≤ 361 = point_count_is_bounded f.size in
    false≢true (sym (none q (omega (arith, begins, behind)) (omega (arith, past, l.1)) (omega (arith, l.1, few))) ∙ (facts q l.1).1 (l.1, l.2, l.3))
next_is f s ws facts from start m begins after none some (Some p) here =
    let few : point_count f.size ≤ 361 = point_count_is_bounded f.size in
    let small : m < 384 = omega (arith, here.1, few) in
    let free : IsEmptyPointOfSet f.size f.region s.present p = subst (IsEmptyPointOfSet f.size f.region s.present) (sym here.0) ((facts m here.1).0 (some small)) in (
      free.0,
      omega (arith, here.0, begins, after, small),
      λ q behind before l. false≢true (sym (none q (omega (arith, begins, behind)) (omega (arith, here.0, before)) (omega (arith, here.0, before, small))) ∙ (facts q l.1).1 (l.1, l.2, l.3)),
      free.2,
      free.1,
    )

pub returns : goal.returns
returns c =
    let f = c.args.self.now.frame in let n = c.first_from-n.result in let first = c.first_from-n.ensures in
    let begins : c.min.result ≡ min c.args.from 384 = search rules in
    let numbered : MatchOption c.point.result (point_count f.size ≤ n) (λ p. (p ≡ n) × (n < point_count f.size))
    = subst (λ (g : Frame). MatchOption c.point.result (point_count g.size ≤ n) (λ p. (p ≡ n) × (n < point_count g.size))) c.frame.ensures.value c.point.ensures in
    next_is f c.args.self.now.state c.args.moves.now.empty.words c.requires.empty c.args.from c.min.result n begins first.after first.none first.found c.point.result numbered
