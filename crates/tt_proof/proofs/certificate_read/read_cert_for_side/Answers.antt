use Rattle.std.proofs.Common.{rules, arith, ◌≡◌, ◌∷◌, ◌++◌, [], List, length, ap, ℕ, refl}
use Rattle.std.proofs.lemmas.Result.{err_from_is_err_and}
use Rattle.tt_proof.specs.CertificateText.{side_prefix}
use Rattle.tt_proof.proofs.CertificateLemmas.{cert_read, cert_more, cert_fault}
use Rattle.tt_proof.proofs.certificate_read.read_cert_for_side.Goals as goal

pub returns-in_err-tree : goal.returns-in_err-tree
returns-in_err-tree c =
    let p = err_from_is_err_and c.from_residual.result c.from_residual.ensures.1 in
    rw (p.1, p.2) (cert_fault c.args.size c.args.size.columns_in.0 (side_prefix c.args.s ++ c.args.rest.now) c.args.rest.now c.args.s refl c.in_err-tree.field-0.0 c.in_err-tree.ensures)

-- a list of no length is empty
nil : (ys : List ℕ) → length ys ≡ 0 → ys ≡ []
nil [] e = refl
nil (y ∷ ys) e = absurd (omega (arith, e))

pub returns-then-is_empty : goal.returns-then-is_empty
returns-then-is_empty c =
    let e : length c.in_ok-tree.more.now ≡ 0 = search rules in
    cert_read c.args.size c.args.size.columns_in.0 (side_prefix c.args.s ++ c.args.rest.now) c.args.rest.now c.args.s refl _ c.in_ok-tree.more.now c.in_ok-tree.ensures
    (nil c.in_ok-tree.more.now e)

pub returns-else-is_empty : goal.returns-else-is_empty
returns-else-is_empty c =
    cert_more c.args.size c.args.size.columns_in.0 (side_prefix c.args.s ++ c.args.rest.now) c.args.rest.now c.args.s refl _ c.in_ok-tree.more.now c.in_ok-tree.ensures
    (λ e. let n = ap length e in search rules)
