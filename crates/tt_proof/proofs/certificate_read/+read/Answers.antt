use Rattle.tt_proof.specs.declared.certificate_read.CertFault.TheVariants.{Syntax, TooDeep}
use Rattle.std.proofs.Common.{length, rules, arith, ◌≡◌, ◌+◌, ◌-◌, ◌++◌, ◌⊎◌, ℕ, suc, [], ◌∷◌, ◌∙◌, sym, ap, subst, inl, inr}
use Rattle.tt_proof.specs.Strategy.{turn_number_on_size}
use Rattle.tt_proof.specs.CertificateText.{won_symbol, pick_symbol, replies_symbol}
use Rattle.tt_proof.specs.inside.CertificateReading.{DeepAt, EntriesDeepAt, FaultAt, EntriesFaultAt}
use Rattle.tt_proof.proofs.StrategyLemmas.{strategy_of_done, strategy_of_reply}
use Rattle.tt_proof.proofs.ReadLemmas.{not_tree, pick_no_turn, pick_deep, pick_fault, reply_read, reply_fault}
use Rattle.tt_proof.proofs.TextLemmas.{heads}
use Rattle.tt_proof.proofs.EntryLemmas.{Walked, walked_more, walked_end, walked_fault, no_entry, not_rising, entry_deep, entry_fault}
use Rattle.std.proofs.lemmas.Result.{err_from_is_err_and}
use Rattle.tt_proof.proofs.certificate_read.+read.Goals as goal

-- a number that isn't 0 is one more than the number before it
one_more : (n : ℕ) → (n ≡ 0 → ⊥) → n ≡ suc (n - 1)
one_more n h = omega (arith, h)

pub read_strategy-returns-in-None : goal.read_strategy-returns-in-None
read_strategy-returns-in-None t c = not_tree c.args.size c.args.bytes.now (λ b y e w. omega (arith, c.in-None.ensures.cases, ap length e)) c.args.left

pub read_reply-returns : goal.read_reply-returns
read_reply-returns t c = rw (strategy_of_reply, c.in_ok-new.ensures.ok) (reply_read c.args.size c.args.left _ _ _ c.in_ok-entries.ensures)

pub read_reply-returns-in_err-entries : goal.read_reply-returns-in_err-entries
read_reply-returns-in_err-entries t c =
    let p = err_from_is_err_and c.from_residual.result c.from_residual.ensures.1 in
    rw (p.1, p.2) (reply_fault c.args.size c.args.left _ c.in_err-entries.field-0.0 c.in_err-entries.ensures)

pub read_pick-returns-in_default : goal.read_pick-returns-in_default
read_pick-returns-in_default t c = pick_no_turn c.args.size c.args.left c.args.bytes.now c.in_default.ensures

pub read_pick-returns-then-left-eq0 : goal.read_pick-returns-then-left-eq0
read_pick-returns-then-left-eq0 t c =
    subst (λ k. DeepAt c.args.size k (pick_symbol ∷ c.args.bytes.now)) (sym c.if-left-eq0.true)
    (pick_deep c.args.size c.in-Some.turn c.args.bytes.now c.in-Some.after.now c.in-Some.ensures.0 c.in-Some.ensures.3)

pub read_pick-returns-in_err-child : goal.read_pick-returns-in_err-child
read_pick-returns-in_err-child t c =
    let p = err_from_is_err_and c.from_residual.result c.from_residual.ensures.1 in
    let fault = c.in_err-child.field-0.0 in
    rw (p.1, p.2) (subst (λ k. FaultAt c.args.size k (pick_symbol ∷ c.args.bytes.now) fault) (sym (one_more c.args.left c.if-left-eq0.false))
    (pick_fault c.args.size (c.args.left - 1) c.in-Some.turn c.args.bytes.now c.in-Some.after.now fault c.in-Some.ensures.0 c.in-Some.ensures.3 c.in_err-child.ensures))

pub read_entries-returns-in-Some : goal.read_entries-returns-in-Some
read_entries-returns-in-Some t c =
    walked_end c.args.size c.args.left c.loop-rest.least _ _ c.in-Some.rest.now _ c.loop-rest.invariant.walked c.in-Some.ensures

pub read_entries-returns-in_default-read_turn : goal.read_entries-returns-in_default-read_turn
read_entries-returns-in_default-read_turn t c =
    walked_fault c.args.size c.args.left c.loop-rest.least _ _ _ Syntax c.loop-rest.invariant.walked
    (no_entry c.args.size c.args.size.columns_in.0 c.args.left c.loop-rest.least c.loop-rest.now.now c.in_default.ensures c.in_default-read_turn.ensures)

pub read_entries-returns-then-number-least : goal.read_entries-returns-then-number-least
read_entries-returns-then-number-least t c =
    let e = c.in-Some-read_turn.ensures.1 in
    walked_fault c.args.size c.args.left c.loop-rest.least _ _ _ Syntax c.loop-rest.invariant.walked
    (not_rising c.args.size c.args.size.columns_in.0 c.args.left c.loop-rest.least c.loop-rest.now.now c.in-Some-read_turn.middle.now
    c.in-Some-read_turn.turn c.in-Some-read_turn.ensures.3 (omega (arith, e)))

pub read_entries-returns-then-left-eq0 : goal.read_entries-returns-then-left-eq0
read_entries-returns-then-left-eq0 t c =
    let e = c.in-Some-read_turn.ensures.1 in
    walked_fault c.args.size c.args.left c.loop-rest.least _ _ _ TooDeep c.loop-rest.invariant.walked
    (subst (λ k. EntriesDeepAt c.args.size k c.loop-rest.least c.loop-rest.now.now) (sym c.if-left-eq0.true)
    (entry_deep c.args.size c.args.size.columns_in.0 c.loop-rest.least c.loop-rest.now.now c.in-Some-read_turn.middle.now
    c.in-Some-read_turn.turn c.in-Some-read_turn.ensures.0 (omega (arith, e)) c.in-Some-read_turn.ensures.3))

pub read_entries-returns-in_err-tree : goal.read_entries-returns-in_err-tree
read_entries-returns-in_err-tree t c =
    let e = c.in-Some-read_turn.ensures.1 in
    let p = err_from_is_err_and c.from_residual.result c.from_residual.ensures.1 in
    let fault = c.in_err-tree.field-0.0 in
    rw (p.1, p.2) (walked_fault c.args.size c.args.left c.loop-rest.least _ _ _ fault c.loop-rest.invariant.walked
    (subst (λ k. EntriesFaultAt c.args.size k c.loop-rest.least c.loop-rest.now.now fault) (sym (one_more c.args.left c.if-left-eq0.false))
    (entry_fault c.args.size c.args.size.columns_in.0 (c.args.left - 1) c.loop-rest.least c.loop-rest.now.now c.in-Some-read_turn.middle.now
    c.in-Some-read_turn.turn fault c.in-Some-read_turn.ensures.0 (omega (arith, e)) c.in-Some-read_turn.ensures.3 c.in_err-tree.ensures)))

pub read_entries-loop-rest-preserved : goal.read_entries-loop-rest-preserved
read_entries-loop-rest-preserved t c =
    let e = c.in-Some-read_turn.ensures.1 in
    let one = one_more c.args.left c.if-left-eq0.false in
    let items : c.push.new.self.items ≡ c.loop-rest.list.items ++ ((c.in-Some-read_turn.turn, c.in_ok-tree.tree) ∷ []) = search rules in
    record {
      walked =
          rw (items, e)
          (subst (λ k. Walked c.args.size k c.args.bytes.now (turn_number_on_size c.args.size c.in-Some-read_turn.turn + 1) c.in_ok-tree.after.now
          (c.loop-rest.list.items ++ ((c.in-Some-read_turn.turn, c.in_ok-tree.tree) ∷ []))) (sym one)
          (walked_more c.args.size c.args.size.columns_in.0 (c.args.left - 1) c.loop-rest.least c.args.bytes.now c.loop-rest.now.now
          c.in-Some-read_turn.middle.now c.in_ok-tree.after.now c.loop-rest.list.items c.in-Some-read_turn.turn c.in_ok-tree.tree
          (subst (λ k. Walked c.args.size k c.args.bytes.now c.loop-rest.least c.loop-rest.now.now c.loop-rest.list.items) one
          c.loop-rest.invariant.walked)
          c.in-Some-read_turn.ensures.0 (omega (arith, e)) c.in-Some-read_turn.ensures.3 c.in_ok-tree.ensures));
      small = omega (arith, c.in-Some-read_turn.ensures.2);
    }

pub read_strategy-returns-then-first-eq46 : goal.read_strategy-returns-then-first-eq46
read_strategy-returns-then-first-eq46 t c =
    rw strategy_of_done
    (record {
      in_order = tt;
      shallow = omega arith;
      text = c.in-Some.ensures.cases.0 ∙ ap (λ b. b ∷ c.in-Some.rest.now) c.if-first-eq46.true;
    })

-- a byte that is none of the three symbols begins no tree
neither : (first b : ℕ) → first ≡ b → (first ≡ won_symbol → ⊥) → (first ≡ pick_symbol → ⊥) → (first ≡ replies_symbol → ⊥)
    → (b ≡ won_symbol) ⊎ ((b ≡ pick_symbol) ⊎ (b ≡ replies_symbol)) → ⊥
neither first b e x y z (inl h) = x (e ∙ h)
neither first b e x y z (inr (inl h)) = y (e ∙ h)
neither first b e x y z (inr (inr h)) = z (e ∙ h)

pub read_strategy-returns-else-first-eq63 : goal.read_strategy-returns-else-first-eq63
read_strategy-returns-else-first-eq63 t c =
    not_tree c.args.size c.args.bytes.now
    (λ b y e w. neither c.in-Some.first.now b (heads (sym c.in-Some.ensures.cases.0 ∙ e)) c.if-first-eq46.false c.if-first-eq33.false
    c.if-first-eq63.false w)
    c.args.left
