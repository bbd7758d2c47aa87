use Rattle.std.proofs.Common.{◌≡◌, inl, inr, refl, sym, arith, ◌∙◌}
use Rattle.tt_board.specs.inside.Chains.{name_at, root_of, IsOneName}
use Rattle.tt_board.proofs.JoinLemmas.{gathered_none, gathered_more, touches_still, joined_still}
use Rattle.tt_board.proofs.LinkLemmas.{names_whole, named_stone, stone_named}
use Rattle.tt_board.proofs.PlayKindLemmas.{never_nowhere}
use Rattle.tt_board.proofs.StartLemmas.{touch_rooted}
use Rattle.tt_board.proofs.counted.chain_counts.ChainCounts.join_beside.Goals as goal

pub join_named-requires-clause-in_range : goal.join_named-requires-clause-in_range
join_named-requires-clause-in_range c = c.requires.near.roots c.args.near.now.above (inl refl)

pub join_named-requires-clause-near : goal.join_named-requires-clause-near
join_named-requires-clause-near c = λ living there is. (c.requires.near.touching c.args.near.now.above there).0 (inl refl)

pub join_named-requires-2-clause-in_range : goal.join_named-requires-2-clause-in_range
join_named-requires-2-clause-in_range c = c.requires.near.roots c.args.near.now.left (inr (inl refl))

pub join_named-requires-2-clause-near : goal.join_named-requires-2-clause-near
join_named-requires-2-clause-near c = λ living there is.
    let s = c.args.size in let ns = c.args.self.now.names in let p = c.args.p in let m = c.args.near.now.left in
    let t = (c.requires.near.touching m there).0 (inr (inl refl)) in
    touches_still s ns _ p m c.join_named.ensures.gathered (touch_rooted s ns p c.requires.counted.rooted m t (λ z. omega (arith, z, living))) is t

pub join_named-requires-3-clause-in_range : goal.join_named-requires-3-clause-in_range
join_named-requires-3-clause-in_range c = c.requires.near.roots c.args.near.now.right (inr (inr (inl refl)))

pub join_named-requires-3-clause-near : goal.join_named-requires-3-clause-near
join_named-requires-3-clause-near c = λ living there is.
    let s = c.args.size in let ns = c.args.self.now.names in let p = c.args.p in let m = c.args.near.now.right in
    let t = (c.requires.near.touching m there).0 (inr (inr (inl refl))) in
    touches_still s ns _ p m (gathered_more _ _ _ _ _ c.join_named.ensures.gathered c.join_named-2.ensures.gathered)
    (touch_rooted s ns p c.requires.counted.rooted m t (λ z. omega (arith, z, living))) is t

pub join_named-requires-4-clause-in_range : goal.join_named-requires-4-clause-in_range
join_named-requires-4-clause-in_range c = c.requires.near.roots c.args.near.now.below (inr (inr (inr refl)))

pub join_named-requires-4-clause-near : goal.join_named-requires-4-clause-near
join_named-requires-4-clause-near c = λ living there is.
    let s = c.args.size in let ns = c.args.self.now.names in let p = c.args.p in let m = c.args.near.now.below in
    let t = (c.requires.near.touching m there).0 (inr (inr (inr refl))) in
    let before = gathered_more _ _ _ _ _ (gathered_more _ _ _ _ _ c.join_named.ensures.gathered c.join_named-2.ensures.gathered) c.join_named-3.ensures.gathered in
    touches_still s ns _ p m before (touch_rooted s ns p c.requires.counted.rooted m t (λ z. omega (arith, z, living))) is t

pub returns-clause-joined : goal.returns-clause-joined
returns-clause-joined c d h0 =
    let s = c.args.size in let ns = c.args.self.now.names in let p = c.args.p in let near = c.args.near.now in
    let j1 = c.join_named.ensures in let j2 = c.join_named-2.ensures in let j3 = c.join_named-3.ensures in let j4 = c.join_named-4.ensures in
    let g0 = gathered_none s ns p c.requires.counted.ends c.requires.stone in
    let g2 = gathered_more _ _ _ _ _ j1.gathered j2.gathered in let g3 = gathered_more _ _ _ _ _ g2 j3.gathered in
    let h1 = j1.gathered.named d h0 in let h2 = j2.gathered.named d h1 in let h3 = j3.gathered.named d h2 in let h4 = j4.gathered.named d h3 in
    let stone = stone_named _ _ (h0.named p) (λ e. omega (arith, e, c.requires.stone)) in
    names_whole s d c.join_named-4.new.self.names p c.requires.on_board h4
    (λ q beside alike.
    let m = name_at ns q in
    let root : name_at ns (root_of m) ≡ m = c.requires.counted.rooted q (named_stone _ _ (h0.named q) (λ bare. stone (sym alike ∙ bare))) in
    let one : IsOneName near.above near.left near.right near.below m
    = (c.requires.near.touching m (never_nowhere _ _ (h0.named q))).1 (q, beside.0, (beside, refl)) in
    elim one [
      | inl is ↦ let e = joined_still s d ns ns c.join_named.new.self.names p q near.above g0 j1.gathered h0 h0 is (rw is root) alike j1.joined in
          j4.gathered.together q p (j3.gathered.together q p (j2.gathered.together q p e))
      | inr (inl is) ↦ let e = joined_still s d ns c.join_named.new.self.names c.join_named-2.new.self.names p q near.left j1.gathered j2.gathered h0 h1 is (rw is root) alike j2.joined in
          j4.gathered.together q p (j3.gathered.together q p e)
      | inr (inr (inl is)) ↦ let e = joined_still s d ns c.join_named-2.new.self.names c.join_named-3.new.self.names p q near.right g2 j3.gathered h0 h2 is (rw is root) alike j3.joined in
          j4.gathered.together q p e
      | inr (inr (inr is)) ↦ joined_still s d ns c.join_named-3.new.self.names c.join_named-4.new.self.names p q near.below g3 j4.gathered h0 h3 is (rw is root) alike j4.joined
    ])
    (stone_named _ _ (h4.named p) (λ e. omega (arith, e, j4.gathered.stone)))
