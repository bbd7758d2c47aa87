use Rattle.std.proofs.Common.{◌≡◌, sym, ap, arith}
use Rattle.tt_sgf.specs.declared.faults.SgfFault.TheVariants as sgf
use Rattle.tt_game.specs.Faults.{code_of}
use Rattle.tt_proof.specs.declared.certificate_read.CertFault.TheVariants as cert
use Rattle.tt_text.specs.Reasons.{of_input, of_main_line, of_certificate}
use Rattle.tt_text.proofs.reasons.reason_of_refusal.Goals as goal

pub returns-in-1-clause-numbers : goal.returns-in-1-clause-numbers
returns-in-1-clause-numbers c = λ _. of_input sgf.Syntax (λ same. (let apart : sgf.Syntax ≡ sgf.NoMemory = same in cc)) (sym c.in-1.is)

pub returns-in-2-clause-numbers : goal.returns-in-2-clause-numbers
returns-in-2-clause-numbers c = λ _. of_input sgf.TooLong (λ same. (let apart : sgf.TooLong ≡ sgf.NoMemory = same in cc)) (sym c.in-2.is)

pub returns-in-30-clause-numbers : goal.returns-in-30-clause-numbers
returns-in-30-clause-numbers c = λ _. of_certificate cert.Syntax (λ same. (let apart : cert.Syntax ≡ cert.NoMemory = same in cc)) (sym c.in-30.is)

pub returns-in-31-clause-numbers : goal.returns-in-31-clause-numbers
returns-in-31-clause-numbers c = λ _. of_certificate cert.TooDeep (λ same. (let apart : cert.TooDeep ≡ cert.NoMemory = same in cc)) (sym c.in-31.is)

pub returns-in-10-to-29-clause-numbers : goal.returns-in-10-to-29-clause-numbers
returns-in-10-to-29-clause-numbers c = λ some.
    let fault = c.reason_of_code.ensures.numbers some in
    of_main_line fault.0 (λ same. (let memory = ap code_of same in omega (arith, fault.1, memory, c.in-10-to-29))) fault.1
