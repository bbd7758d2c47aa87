use Rattle.std.proofs.Common.{◌≡◌, ◌≢◌, ◌≤◌, inl, inr, refl, sym, ap, subst, arith, ◌∙◌}
use Rattle.tt_board.specs.declared.counted.play_kind.TheConstants.{OFF_BOARD_NAME}
use Rattle.tt_board.specs.inside.Chains.{name_at, root_of, AreGathered, Touches}
use Rattle.tt_board.proofs.JoinLemmas.{gathered_united, joined_united}
use Rattle.tt_board.proofs.counted.chain_counts.ChainCounts.join_named.Goals as goal

pub returns-then-self-root_of-clause-gathered : goal.returns-then-self-root_of-clause-gathered
returns-then-self-root_of-clause-gathered c =
    let s = c.args.size in let ns = c.args.self.now.names in let p = c.args.p in let m = c.args.name in let codes = c.if-name-own.true in
    let there : name_at ns (root_of m) ≡ m = ap (name_at ns) (sym c.root_of.ensures.value) ∙ c.if-self-root_of.true in
    let living : 512 ≤ m = omega (arith, codes, c.requires.stone) in
    let touch : m ≢ OFF_BOARD_NAME → Touches s ns m p = λ apart. c.requires.near living apart there in
    elim c.unite.ensures.renamed [
      | inl e ↦ subst (λ new. AreGathered s ns new p) (sym e)
          (gathered_united s ns p m _ _ c.requires.on_board c.requires.counted.ends c.requires.stone c.if-name-own-2.true codes (inl (refl, refl)) touch)
      | inr e ↦ subst (λ new. AreGathered s ns new p) (sym e)
          (gathered_united s ns p m _ _ c.requires.on_board c.requires.counted.ends c.requires.stone (λ h. c.if-name-own-2.true (sym h)) codes (inr (refl, refl)) touch)
    ]

pub returns-then-self-root_of-clause-joined : goal.returns-then-self-root_of-clause-joined
returns-then-self-root_of-clause-joined c = λ codes there.
    let s = c.args.size in let ns = c.args.self.now.names in let p = c.args.p in let m = c.args.name in
    elim c.unite.ensures.renamed [
      | inl e ↦ subst (λ new. name_at new (root_of m) ≡ name_at new p) (sym e)
          (joined_united s ns p m _ _ c.requires.on_board c.requires.counted.ends c.requires.stone c.if-name-own-2.true codes (inl (refl, refl)) there)
      | inr e ↦ subst (λ new. name_at new (root_of m) ≡ name_at new p) (sym e)
          (joined_united s ns p m _ _ c.requires.on_board c.requires.counted.ends c.requires.stone (λ h. c.if-name-own-2.true (sym h)) codes (inr (refl, refl)) there)
    ]
