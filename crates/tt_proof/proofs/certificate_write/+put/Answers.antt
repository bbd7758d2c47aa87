use Rattle.std.proofs.Common.{rules, ◌≡◌, ◌∙◌, ◌++◌, List, [], ◌∷◌, ℕ, ap, append_assoc}
use Rattle.tt_proof.specs.CertificateText.{pick_symbol, replies_symbol}
use Rattle.std.proofs.lemmas.Result.{on_ok_weaker}
use Rattle.tt_proof.specs.declared.tree.Tree.TheViews.{the_lemmas}
use Rattle.tt_proof.proofs.StrategyLemmas.{strategy_of_done, strategy_of_pick, strategy_of_reply}
use Rattle.tt_proof.proofs.certificate_write.+put.Goals as goal

pub put_tree-put_turn-requires : goal.put_tree-put_turn-requires
put_tree-put_turn-requires t c = let ordered = rw (c.in-Pick.is, strategy_of_pick) at c.requires.in_order in ordered.0

pub put_tree-put_tree-requires : goal.put_tree-put_tree-requires
put_tree-put_tree-requires t c =
    let ordered = rw (c.in-Pick.is, strategy_of_pick) at c.requires.in_order in
    (search (rules, the_lemmas), rw c.deref.ensures ordered.1)

pub put_tree-put_entries-requires : goal.put_tree-put_entries-requires
put_tree-put_entries-requires t c =
    let ordered = rw (c.in-Reply.is, strategy_of_reply) at c.requires.in_order in
    (search (rules, the_lemmas), rw (c.deref-in-Reply-2.ensures.value, c.deref-in-Reply.ensures) ordered)

pub put_tree-returns-in-Done : goal.put_tree-returns-in-Done
put_tree-returns-in-Done t c = rw (c.in-Done.is, strategy_of_done) c.put_byte.ensures

pub put_tree-returns-in_ok-put_turn-in-Pick : goal.put_tree-returns-in_ok-put_turn-in-Pick
put_tree-returns-in_ok-put_turn-in-Pick t c =
    rw (c.in-Pick.is, strategy_of_pick, ← c.deref.ensures)
    (on_ok_weaker c.put_tree.result (λ e. e ∙ joined _ _ _ _ _ c.in_ok-put_byte-in-Pick.ensures c.in_ok-put_turn-in-Pick.ensures.ok) c.put_tree.ensures)
  where
    -- what is written behind `!` and a turn
    joined : (a b d x y : List ℕ) → b ≡ a ++ (pick_symbol ∷ []) → d ≡ b ++ x → d ++ y ≡ a ++ (pick_symbol ∷ (x ++ y))
    joined a b d x y e f =
        ap (λ w. w ++ y) (f ∙ ap (λ w. w ++ x) e) ∙ append_assoc (a ++ (pick_symbol ∷ [])) x y ∙ append_assoc a (pick_symbol ∷ []) (x ++ y)

pub put_tree-returns-in_ok-put_byte-in-Reply : goal.put_tree-returns-in_ok-put_byte-in-Reply
put_tree-returns-in_ok-put_byte-in-Reply t c =
    rw (c.in-Reply.is, strategy_of_reply, ← c.deref-in-Reply.ensures, ← c.deref-in-Reply-2.ensures.value)
    (on_ok_weaker c.put_entries.result (λ e. e ∙ joined _ _ _ c.in_ok-put_byte-in-Reply.ensures) c.put_entries.ensures)
  where
    -- what is written behind `?`
    joined : (a b y : List ℕ) → b ≡ a ++ (replies_symbol ∷ []) → b ++ y ≡ a ++ (replies_symbol ∷ y)
    joined a b y e = ap (λ w. w ++ y) e ∙ append_assoc a (replies_symbol ∷ []) y
