use Rattle.std.proofs.Common.{◌≡◌, ◌∷◌, ◌∙◌, ◌+◌, ◌-◌, ℕ, suc, sym, ap, subst, length, arith}
use Rattle.std.proofs.lemmas.Result.{err_from_is_err_and, MatchResult-weaker}
use Rattle.tt_proof.specs.CertificateText.{pick_symbol, replies_symbol}
use Rattle.tt_proof.specs.inside.CertificateWalking.{BeginsByText, StopsBefore, IsTextOfTree}
use Rattle.tt_proof.proofs.TextLemmas.{heads}
use Rattle.tt_proof.proofs.StopLemmas.{SkippedTo, tree_first, won_read, pick_turn_stops, pick_tree_stops, pick_tree_read, reply_begins, reply_ends, reply_full}
use Rattle.tt_proof.proofs.StopLemmas.{entry_turn_stops, entry_tree_stops, entry_skipped}
use Rattle.tt_proof.proofs.certificate_stops.+skip.Goals as goal
use Rattle.tt_proof.proofs.certificate_stops.+skip.Goals.{skip_tree-else-first-eq33-via-then-first-eq33+else-left-gt0, skip_tree-else-first-eq33-via-else-first-eq33}

-- a number that isn't 0 is one more than the number before it
one_more : (n : ℕ) → (n ≡ 0 → ⊥) → n ≡ suc (n - 1)
one_more n h = omega (arith, h)

pub skip_tree-returns-in-None : goal.skip_tree-returns-in-None
skip_tree-returns-in-None t c =
    tree_first c.args.size c.args.left c.args.bytes.now (λ b bs e. let n = ap length e in absurd (omega (arith, c.in-None.ensures.cases, n)))

pub skip_tree-returns-then-first-eq46 : goal.skip_tree-returns-then-first-eq46
skip_tree-returns-then-first-eq46 t c =
    won_read c.args.size c.args.left c.args.bytes.now c.in-Some.rest.now (c.in-Some.ensures.cases.0 ∙ ap (λ b. b ∷ c.in-Some.rest.now) c.if-first-eq46.true)

pub skip_tree-returns-else-first-eq33 : goal.skip_tree-returns-else-first-eq33
skip_tree-returns-else-first-eq33 t c =
    let last : c.in-Some.first.now ≡ pick_symbol → c.args.left ≡ 0 = elim c.else-first-eq33.branch [
      | skip_tree-else-first-eq33-via-then-first-eq33+else-left-gt0 w ↦ λ e. omega (arith, w.if-left-gt0.false)
      | skip_tree-else-first-eq33-via-else-first-eq33 w ↦ λ e. absurd (w.if-first-eq33.false e)
    ] in
    tree_first c.args.size c.args.left c.args.bytes.now
    (λ b bs e. let same = heads (sym c.in-Some.ensures.cases.0 ∙ e) in (λ k. c.if-first-eq46.false (same ∙ k), λ k. c.if-first-eq63.false (same ∙ k), λ k. last (same ∙ k)))

pub skip_pick-returns-in_err-after : goal.skip_pick-returns-in_err-after
skip_pick-returns-in_err-after t c =
    let p = err_from_is_err_and c.from_residual.result c.from_residual.ensures.1 in
    let one = one_more c.args.left (λ e. omega (arith, c.requires, e)) in
    let y = c.in_err-after.field-0.0 in
    rw (p.1, p.2) (subst (λ k. StopsBefore (IsTextOfTree c.args.size k) (pick_symbol ∷ c.args.bytes.now) y.now) (sym one)
    (pick_turn_stops c.args.size (c.args.left - 1) c.args.bytes.now y.now c.in_err-after.ensures))

pub skip_pick-returns : goal.skip_pick-returns
skip_pick-returns t c =
    let one = one_more c.args.left (λ e. omega (arith, c.requires, e)) in
    let f = c.in_ok-after.ensures in
    MatchResult-weaker c.skip_tree.result c.skip_tree.ensures
    (λ y h. subst (λ k. BeginsByText (IsTextOfTree c.args.size k) (pick_symbol ∷ c.args.bytes.now) y.now) (sym one)
    (pick_tree_read c.args.size (c.args.left - 1) f.turn f.from.on_board c.args.bytes.now c.in_ok-after.after.now y.now f.text h))
    (λ y h. subst (λ k. StopsBefore (IsTextOfTree c.args.size k) (pick_symbol ∷ c.args.bytes.now) y.now) (sym one)
    (pick_tree_stops c.args.size (c.args.left - 1) f.turn f.from.on_board c.args.bytes.now c.in_ok-after.after.now y.now f.text h))

pub skip_reply-loop-rest-init : goal.skip_reply-loop-rest-init
skip_reply-loop-rest-init t c = record { skipped = reply_begins c.args.size c.args.left c.args.bytes.now; small = omega arith }

pub skip_reply-returns-in-Some : goal.skip_reply-returns-in-Some
skip_reply-returns-in-Some t c =
    reply_ends c.args.size c.args.left c.args.bytes.now c.loop-rest.least c.loop-rest.now.now c.in-Some.rest.now c.loop-rest.invariant.skipped c.in-Some.ensures

pub skip_reply-returns-then-left-eq0 : goal.skip_reply-returns-then-left-eq0
skip_reply-returns-then-left-eq0 t c =
    reply_full c.args.size c.args.left c.args.bytes.now c.loop-rest.least c.loop-rest.now.now c.loop-rest.invariant.skipped c.in_default.ensures
    (λ some. absurd (omega (arith, some, c.if-left-eq0.true)))

pub skip_reply-returns-then-from-point_count : goal.skip_reply-returns-then-from-point_count
skip_reply-returns-then-from-point_count t c =
    reply_full c.args.size c.args.left c.args.bytes.now c.loop-rest.least c.loop-rest.now.now c.loop-rest.invariant.skipped c.in_default.ensures
    (λ some. omega (arith, c.if-from-point_count.true, c.from.ensures, c.point_count.ensures.value))

pub skip_reply-returns-in_err-number : goal.skip_reply-returns-in_err-number
skip_reply-returns-in_err-number t c =
    let p = err_from_is_err_and c.from_residual.result c.from_residual.ensures.1 in
    let one = one_more c.args.left c.if-left-eq0.false in
    let y = c.in_err-number.field-0.0 in
    let h = subst (λ k. SkippedTo c.args.size k c.args.bytes.now c.loop-rest.least c.loop-rest.now.now) one c.loop-rest.invariant.skipped in
    rw (p.1, p.2) (subst (λ k. StopsBefore (IsTextOfTree c.args.size k) (replies_symbol ∷ c.args.bytes.now) y.now) (sym one)
    (entry_turn_stops c.args.size c.args.size.columns_in.0 (c.args.left - 1) c.args.bytes.now c.loop-rest.least c.loop-rest.now.now h y.now c.in_default.ensures
    c.in_err-number.ensures))

pub skip_reply-returns-in_err-now : goal.skip_reply-returns-in_err-now
skip_reply-returns-in_err-now t c =
    let p = err_from_is_err_and c.from_residual-in_err-now.result c.from_residual-in_err-now.ensures.1 in
    let one = one_more c.args.left c.if-left-eq0.false in
    let y = c.in_err-now.field-0.0 in
    let f = c.in_ok-number.ensures in
    let h = subst (λ k. SkippedTo c.args.size k c.args.bytes.now c.loop-rest.least c.loop-rest.now.now) one c.loop-rest.invariant.skipped in
    rw (p.1, p.2) (subst (λ k. StopsBefore (IsTextOfTree c.args.size k) (replies_symbol ∷ c.args.bytes.now) y.now) (sym one)
    (entry_tree_stops c.args.size c.args.size.columns_in.0 (c.args.left - 1) c.args.bytes.now c.loop-rest.least c.loop-rest.now.now h f.turn f.from
    c.in_ok-number.middle.now f.text y.now c.in_err-now.ensures))

pub skip_reply-loop-rest-preserved : goal.skip_reply-loop-rest-preserved
skip_reply-loop-rest-preserved t c =
    let one = one_more c.args.left c.if-left-eq0.false in
    let f = c.in_ok-number.ensures in
    let h = subst (λ k. SkippedTo c.args.size k c.args.bytes.now c.loop-rest.least c.loop-rest.now.now) one c.loop-rest.invariant.skipped in
    record {
      skipped =
          subst (λ k. SkippedTo c.args.size k c.args.bytes.now (c.in_ok-number.number + 1) c.in_ok-now.now.now) (sym one)
          (subst (λ n. SkippedTo c.args.size (suc (c.args.left - 1)) c.args.bytes.now (n + 1) c.in_ok-now.now.now) (sym f.number_is)
          (entry_skipped c.args.size c.args.size.columns_in.0 (c.args.left - 1) c.args.bytes.now c.loop-rest.least c.loop-rest.now.now h f.turn f.from
          c.in_ok-number.middle.now f.text c.in_ok-now.now.now c.in_ok-now.ensures));
      small = omega (arith, f.small);
    }
