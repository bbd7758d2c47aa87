use Rattle.std.proofs.Common.{rules, arith, length, ◌≡◌, ◌+◌, ◌-◌, ◌≤◌, ◌++◌, ℕ, suc, max, [], ◌∷◌, ◌∙◌, sym, ap, subst}
use Rattle.tt_proof.specs.declared.certificate_read.CertFault.TheVariants.{Syntax, TooDeep}
use Rattle.tt_proof.specs.CertificateText.{pick_symbol}
use Rattle.tt_parts.specs.Outlines.{naming_text}
use Rattle.tt_parts.specs.inside.OutlineReading.{OutlineFaultAt, BranchesFaultAt}
use Rattle.tt_proof.proofs.TextLemmas.{heads}
use Rattle.tt_parts.proofs.OutlineLemmas.{outline_of_done}
use Rattle.tt_parts.proofs.OutlineReadLemmas.{reads_done, walked_more, walked_end}
use Rattle.tt_parts.proofs.OutlineFaultLemmas.{no_outline, no_named, no_turn, no_room, pick_fault, reply_fault, no_branches, not_rising, no_room_below, branch_fault, walked_fault}
use Rattle.std.proofs.lemmas.Result.{err_from_is_err_and}
use Rattle.tt_parts.proofs.outline_read.+outline.Goals as goal

pub read_outline-returns-then-first-eq46 : goal.read_outline-returns-then-first-eq46
read_outline-returns-then-first-eq46 t c =
    rw outline_of_done
    (reads_done c.args.size c.args.left c.args.depths.now.items c.args.bytes.now c.in-Some.rest.now
    (c.in-Some.ensures.cases.0 ∙ ap (λ b. b ∷ c.in-Some.rest.now) c.if-first-eq46.true))

pub read_outline-returns-then-first-eq42 : goal.read_outline-returns-then-first-eq42
read_outline-returns-then-first-eq42 t c =
    rw (c.in-Some.ensures.cases.0 ∙ ap (λ b. b ∷ c.in-Some.rest.now) c.if-first-eq42.true) (c.read_part_reference.ensures c.args.size)

pub read_branches-returns-in-Some : goal.read_branches-returns-in-Some
read_branches-returns-in-Some t c =
    walked_end c.args.size c.args.left c.loop-rest.least c.loop-rest.most c.args.depths.now.items c.loop-rest.depths.items c.args.bytes.now
    c.loop-rest.now.now c.in-Some.rest.now c.loop-rest.list.items c.loop-rest.invariant.shallow c.loop-rest.invariant.walked c.in-Some.ensures

pub read_branches-loop-rest-preserved : goal.read_branches-loop-rest-preserved
read_branches-loop-rest-preserved t c =
    let turn = c.in-Some-read_turn in
    let here = turn.ensures in
    let read = c.in_ok-outline.ensures in
    let low = read.shallow in
    let items : c.push.new.self.items ≡ c.loop-rest.list.items ++ ((turn.turn, c.in_ok-outline.outline) ∷ []) = search rules in
    let deeper : c.max-most.result ≡ max c.loop-rest.most (c.in_ok-outline.depth + 1) = search rules in
    record {
      walked = λ us h.
          walked_more c.args.size us c.loop-rest.least turn.number c.args.left (c.args.left - 1) c.args.bytes.now c.loop-rest.now.now turn.middle.now
          c.in_ok-outline.after.now c.loop-rest.list.items c.push.new.self.items turn.turn c.in_ok-outline.outline c.loop-rest.most c.max-most.result c.in_ok-outline.depth
          c.loop-rest.depths.items c.read_outline.new.depths.items (c.loop-rest.invariant.walked us h) c.if-number-least.false here.1 here.0 here.3 read items deeper;
      shallow = let some = c.if-left-eq0.false in omega (arith, low, deeper, some, c.loop-rest.invariant.shallow);
      small = omega (arith, here.2);
    }

-- ---- refusals

-- a number that isn't 0 is one more than the number before it
one_more : (n : ℕ) → (n ≡ 0 → ⊥) → n ≡ suc (n - 1)
one_more n h = omega (arith, h)

-- no other byte stands there than the first
not_first : (first b m : ℕ) → first ≡ b → (first ≡ m → ⊥) → b ≡ m → ⊥
not_first first b m e n h = n (e ∙ h)

pub read_outline-returns-in-None : goal.read_outline-returns-in-None
read_outline-returns-in-None t c =
    no_outline c.args.size c.args.left c.args.depths.now.items c.args.bytes.now (λ b y e. absurd (omega (arith, c.in-None.ensures.cases, ap length e)))

pub read_outline-returns-else-first-eq63 : goal.read_outline-returns-else-first-eq63
read_outline-returns-else-first-eq63 t c =
    no_outline c.args.size c.args.left c.args.depths.now.items c.args.bytes.now
    (λ b y e. let same = heads (sym c.in-Some.ensures.cases.0 ∙ e) in (
      not_first _ b _ same c.if-first-eq46.false,
      not_first _ b _ same c.if-first-eq42.false,
      not_first _ b _ same c.if-first-eq61.false,
      not_first _ b _ same c.if-first-eq33.false,
      not_first _ b _ same c.if-first-eq63.false,
    ))

pub read_named_outline-returns-in-None : goal.read_named_outline-returns-in-None
read_named_outline-returns-in-None t c =
    no_named c.args.size c.args.left c.args.depths.now.items c.args.bytes.now (λ b y e. absurd (omega (arith, c.in-None.ensures.cases, ap length e)))

pub read_named_outline-returns-else-first-eq63 : goal.read_named_outline-returns-else-first-eq63
read_named_outline-returns-else-first-eq63 t c =
    no_named c.args.size c.args.left c.args.depths.now.items c.args.bytes.now
    (λ b y e. let same = heads (sym c.in-Some.ensures.cases.0 ∙ e) in
    (not_first _ b _ same c.if-first-eq33.false, not_first _ b _ same c.if-first-eq63.false))

pub read_pick-returns-in_default : goal.read_pick-returns-in_default
read_pick-returns-in_default t c = no_turn c.args.size c.args.named c.args.left c.args.depths.now.items c.args.bytes.now c.in_default.ensures

pub read_pick-returns-then-left-eq0 : goal.read_pick-returns-then-left-eq0
read_pick-returns-then-left-eq0 t c =
    subst (λ k. OutlineFaultAt c.args.size k c.args.depths.now.items (naming_text c.args.named ++ (pick_symbol ∷ c.args.bytes.now)) TooDeep)
    (sym c.if-left-eq0.true)
    (no_room c.args.size c.args.named c.args.depths.now.items c.in-Some.turn c.args.bytes.now c.in-Some.after.now c.in-Some.ensures.0 c.in-Some.ensures.3)

pub read_pick-returns-in_err-child : goal.read_pick-returns-in_err-child
read_pick-returns-in_err-child t c =
    let p = err_from_is_err_and c.from_residual.result c.from_residual.ensures.1 in
    let fault = c.in_err-child.field-0.0 in
    rw (p.1, p.2) (subst (λ k. OutlineFaultAt c.args.size k c.args.depths.now.items (naming_text c.args.named ++ (pick_symbol ∷ c.args.bytes.now)) fault)
    (sym (one_more c.args.left c.if-left-eq0.false))
    (pick_fault c.args.size c.args.named (c.args.left - 1) c.args.depths.now.items c.in-Some.turn c.args.bytes.now c.in-Some.after.now fault
    c.in-Some.ensures.0 c.in-Some.ensures.3 c.in_err-child.ensures))

pub read_reply-returns-in_err-branches : goal.read_reply-returns-in_err-branches
read_reply-returns-in_err-branches t c =
    let p = err_from_is_err_and c.from_residual.result c.from_residual.ensures.1 in
    rw (p.1, p.2) (reply_fault c.args.size c.args.named c.args.left c.args.depths.now.items c.args.bytes.now c.in_err-branches.field-0.0 c.in_err-branches.ensures)

pub read_branches-returns-in_default-read_turn : goal.read_branches-returns-in_default-read_turn
read_branches-returns-in_default-read_turn t c =
    walked_fault c.args.size c.args.left c.loop-rest.least c.loop-rest.most c.args.depths.now.items c.loop-rest.depths.items c.args.bytes.now
    c.loop-rest.now.now c.loop-rest.list.items Syntax c.loop-rest.invariant.walked c.loop-rest.invariant.shallow
    (no_branches c.args.size c.args.left c.loop-rest.depths.items c.loop-rest.least c.loop-rest.now.now c.in_default.ensures c.in_default-read_turn.ensures)

pub read_branches-returns-then-number-least : goal.read_branches-returns-then-number-least
read_branches-returns-then-number-least t c =
    let turn = c.in-Some-read_turn in
    let e = turn.ensures.1 in
    walked_fault c.args.size c.args.left c.loop-rest.least c.loop-rest.most c.args.depths.now.items c.loop-rest.depths.items c.args.bytes.now
    c.loop-rest.now.now c.loop-rest.list.items Syntax c.loop-rest.invariant.walked c.loop-rest.invariant.shallow
    (not_rising c.args.size c.loop-rest.depths.items c.loop-rest.least c.loop-rest.now.now turn.middle.now turn.turn turn.ensures.3 c.args.left
    (omega (arith, e)))

pub read_branches-returns-then-left-eq0 : goal.read_branches-returns-then-left-eq0
read_branches-returns-then-left-eq0 t c =
    let turn = c.in-Some-read_turn in
    walked_fault c.args.size c.args.left c.loop-rest.least c.loop-rest.most c.args.depths.now.items c.loop-rest.depths.items c.args.bytes.now
    c.loop-rest.now.now c.loop-rest.list.items TooDeep c.loop-rest.invariant.walked c.loop-rest.invariant.shallow
    (subst (λ k. BranchesFaultAt c.args.size k c.loop-rest.depths.items c.loop-rest.least c.loop-rest.now.now TooDeep) (sym c.if-left-eq0.true)
    (no_room_below c.args.size c.loop-rest.depths.items c.loop-rest.least c.loop-rest.now.now turn.middle.now turn.turn turn.ensures.3 turn.ensures.0
    (subst (λ n. c.loop-rest.least ≤ n) turn.ensures.1 c.if-number-least.false)))

pub read_branches-returns-in_err-outline : goal.read_branches-returns-in_err-outline
read_branches-returns-in_err-outline t c =
    let turn = c.in-Some-read_turn in
    let p = err_from_is_err_and c.from_residual.result c.from_residual.ensures.1 in
    let fault = c.in_err-outline.field-0.0 in
    rw (p.1, p.2) (walked_fault c.args.size c.args.left c.loop-rest.least c.loop-rest.most c.args.depths.now.items c.loop-rest.depths.items c.args.bytes.now
    c.loop-rest.now.now c.loop-rest.list.items fault c.loop-rest.invariant.walked c.loop-rest.invariant.shallow
    (subst (λ k. BranchesFaultAt c.args.size k c.loop-rest.depths.items c.loop-rest.least c.loop-rest.now.now fault)
    (sym (one_more c.args.left c.if-left-eq0.false))
    (branch_fault c.args.size c.loop-rest.depths.items c.loop-rest.least c.loop-rest.now.now turn.middle.now turn.turn turn.ensures.3
    (c.args.left - 1) fault turn.ensures.0 (subst (λ n. c.loop-rest.least ≤ n) turn.ensures.1 c.if-number-least.false) c.in_err-outline.ensures)))
