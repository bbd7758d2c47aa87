use Rattle.std.proofs.Common.{rules, arith, ◌≡◌, ◌∷◌, ◌++◌, [], List, length, ap, ℕ, refl}
use Rattle.tt_proof.specs.CertificateText.{side_prefix}
use Rattle.tt_parts.specs.Outlines.{outline_of}
use Rattle.tt_parts.proofs.OutlineReadLemmas.{shared_read, low_read}
use Rattle.tt_parts.proofs.OutlineFaultLemmas.{shared_fault, shared_more}
use Rattle.std.proofs.lemmas.Result.{err_from_is_err_and}
use Rattle.tt_parts.proofs.outline_read.read_shared_cert_for_side.Goals as goal

-- a list of no length is empty
nil : (ys : List ℕ) → length ys ≡ 0 → ys ≡ []
nil [] e = refl
nil (y ∷ ys) e = absurd (omega (arith, e))

pub returns-then-is_empty-clause-certificate : goal.returns-then-is_empty-clause-certificate
returns-then-is_empty-clause-certificate c =
    let e : length c.in_ok-outline.more.now ≡ 0 = search rules in
    shared_read c.args.size (side_prefix c.args.s ++ c.args.rest.now) c.args.rest.now c.args.s _ c.args.most_depth _ (outline_of c.in_ok-outline.outline) _
    c.in_ok-outline.more.now refl c.requires
    c.new-depths.ensures.items c.in_ok-outline.ensures (nil c.in_ok-outline.more.now e)

pub returns-then-is_empty-clause-shallow : goal.returns-then-is_empty-clause-shallow
returns-then-is_empty-clause-shallow c =
    low_read c.args.size _ c.args.most_depth _ (outline_of c.in_ok-outline.outline) _ c.args.rest.now c.in_ok-outline.more.now c.new-depths.ensures.items c.in_ok-outline.ensures

pub returns-in_err-outline-clause-fault : goal.returns-in_err-outline-clause-fault
returns-in_err-outline-clause-fault c =
    let p = err_from_is_err_and c.from_residual.result c.from_residual.ensures.1 in
    rw (p.1, p.2) (shared_fault c.args.size (side_prefix c.args.s ++ c.args.rest.now) c.args.rest.now c.args.s c.args.most_depth refl _ c.in_err-outline.field-0.0
    c.new-depths.ensures.items c.in_err-outline.ensures)

pub returns-clause-fault : goal.returns-clause-fault
returns-clause-fault c =
    shared_more c.args.size (side_prefix c.args.s ++ c.args.rest.now) c.args.rest.now c.args.s c.args.most_depth refl _ _
    (outline_of c.in_ok-outline.outline) _ c.in_ok-outline.more.now c.new-depths.ensures.items c.in_ok-outline.ensures (λ e. let n = ap length e in search rules)
