-- An input has one text and one status that answer `check`.
use Rattle.std.proofs.Common.{◌≡◌, ℕ, Bool, true, false, Option, Some, None, List, Ok, Err, refl, sym, ap, ◌∙◌, drop, arith, subst}
use Rattle.std.specs.declared.result.Result.{Result}
use Rattle.tt_sgf.specs.Grammar.{GameTree, main_line, GrammarIsUnambiguous}
use Rattle.tt_sgf.specs.Values.{trimmed}
use Rattle.tt_game.specs.declared.faults.GameFault.{GameFault}
use Rattle.tt_game.specs.declared.frame.Side.{Side}
use Rattle.tt_game.specs.Line.{LineWithUndo}
use Rattle.tt_game.specs.Problems.{problem_of}
use Rattle.tt_proof.specs.CertificateText.{IsCertificate}
use Rattle.tt_parts.specs.SharedCertFaults.{IsSharedCertFault}
use Rattle.tt_proof.specs.declared.certificate_read.CertFault.TheVariants.{Syntax, TooDeep}
use Rattle.tt_proof.specs.declared.tree.TheConstants.{MOST_DEPTH}
use Rattle.tt_proof.specs.StrategyLaws.{OneStrategyPerCertificate}
use Rattle.tt_parts.specs.OutlineLaws.{OneOutlinePerCertificate, OneAnswerPerOutline}
use Rattle.tt_parts.specs.Outlines.{Outline, IsSharedCertificate}
use Rattle.tt_parts.specs.SharedParts.{IsOutlineAnswer}
use Rattle.tt_proof.specs.Strategy.{Strategy}
use Rattle.tt_proof.specs.Wins.{Wins}
use Rattle.tt_text.specs.declared.checking.CheckOutcome.{CheckOutcome}
use Rattle.tt_text.specs.Checking.{Finds, FindsPlain, FindsShared, FindsOnProblem, IsCheckText, check_line, check_status, first_tree, loses, no_certificate, no_tree}
use Rattle.tt_text.specs.Checking.{too_deep, too_long, wins, unread, goes_deep, unfit, shared_wins, shared_loses}

no_answer : (b : Bool) → None ≡ Some b → ⊥
no_answer b e = cc

two_answers : Some true ≡ Some false → ⊥
two_answers e = cc

module _ (one : OneOutlinePerCertificate) (answer : OneAnswerPerOutline) (p : LineWithUndo) (bytes : List ℕ) where
  -- the rule has one answer to the bytes
  says_same : (s t : Side) (o q : Outline) (a b : Option Bool) → IsSharedCertificate p.frame.size bytes s o → IsSharedCertificate p.frame.size bytes t q
      → IsOutlineAnswer s p.frame o p.state a → IsOutlineAnswer t p.frame q p.state b → a ≡ b
  says_same s t o q a b is are h k =
      let same = one p.frame.size bytes s t o q is are in
      answer t p.frame q p.state a b (subst (λ (x : Side). IsOutlineAnswer x p.frame q p.state a) same.0 (subst (λ (x : Outline). IsOutlineAnswer s p.frame x p.state a) same.1 h)) k

  not_deeper : (s : Side) (o : Outline) → IsSharedCertificate p.frame.size bytes s o → IsSharedCertFault p.frame.size MOST_DEPTH bytes TooDeep → ⊥
  not_deeper s o is h = let deep = h.1 s o is.closed is.orderly is.text in let low = is.shallow in omega (arith, deep, low)

  is_read : (s : Side) (o : Outline) → IsSharedCertificate p.frame.size bytes s o → IsSharedCertFault p.frame.size MOST_DEPTH bytes Syntax → ⊥
  is_read s o is h = h.0 s o is.closed is.orderly is.text

  -- one thing is found on bytes at a problem where parts may be shared
  found_shared : (o q : CheckOutcome) → FindsShared p bytes o → FindsShared p bytes q → o ≡ q
  found_shared o q (unread a) (unread b) = refl
  found_shared o q (unread a) (goes_deep b) = absurd (a.1 b.0)
  found_shared o q (unread a) (unfit t v are k) = absurd (is_read t v are a)
  found_shared o q (unread a) (shared_wins t v are k w) = absurd (is_read t v are a)
  found_shared o q (unread a) (shared_loses t v are k l) = absurd (is_read t v are a)
  found_shared o q (goes_deep a) (unread b) = absurd (b.1 a.0)
  found_shared o q (goes_deep a) (goes_deep b) = refl
  found_shared o q (goes_deep a) (unfit t v are k) = absurd (not_deeper t v are a)
  found_shared o q (goes_deep a) (shared_wins t v are k w) = absurd (not_deeper t v are a)
  found_shared o q (goes_deep a) (shared_loses t v are k l) = absurd (not_deeper t v are a)
  found_shared o q (unfit s u is h) (unread b) = absurd (is_read s u is b)
  found_shared o q (unfit s u is h) (goes_deep b) = absurd (not_deeper s u is b)
  found_shared o q (unfit s u is h) (unfit t v are k) = refl
  found_shared o q (unfit s u is h) (shared_wins t v are k w) = absurd (no_answer true (says_same s t u v None (Some true) is are h k))
  found_shared o q (unfit s u is h) (shared_loses t v are k l) = absurd (no_answer false (says_same s t u v None (Some false) is are h k))
  found_shared o q (shared_wins s u is h w) (unread b) = absurd (is_read s u is b)
  found_shared o q (shared_wins s u is h w) (goes_deep b) = absurd (not_deeper s u is b)
  found_shared o q (shared_wins s u is h w) (unfit t v are k) = absurd (no_answer true (says_same t s v u None (Some true) are is k h))
  found_shared o q (shared_wins s u is h w) (shared_wins t v are k x) = refl
  found_shared o q (shared_wins s u is h w) (shared_loses t v are k l) = absurd (two_answers (says_same s t u v (Some true) (Some false) is are h k))
  found_shared o q (shared_loses s u is h l) (unread b) = absurd (is_read s u is b)
  found_shared o q (shared_loses s u is h l) (goes_deep b) = absurd (not_deeper s u is b)
  found_shared o q (shared_loses s u is h l) (unfit t v are k) = absurd (no_answer false (says_same t s v u None (Some false) are is k h))
  found_shared o q (shared_loses s u is h l) (shared_wins t v are k w) = absurd (two_answers (says_same t s v u (Some true) (Some false) are is k h))
  found_shared o q (shared_loses s u is h l) (shared_loses t v are k m) = refl

module _ (one : OneStrategyPerCertificate) (one_shared : OneOutlinePerCertificate) (answer : OneAnswerPerOutline) where
  -- a tree doesn't win and lose
  not_both : (p : LineWithUndo) (bytes : List ℕ) (s t : Side) (u v : Strategy) → IsCertificate p.frame.size bytes s u → IsCertificate p.frame.size bytes t v
      → Wins s p.frame u p.state → (Wins t p.frame v p.state → ⊥) → ⊥
  not_both p bytes s t u v a b w l =
      let same = one p.frame.size bytes s t u v a b in
      l (subst (λ (x : Side). Wins x p.frame v p.state) same.0 (subst (λ (x : Strategy). Wins s p.frame x p.state) same.1 w))

  -- one thing is found on bytes at a problem
  found_at : (p : LineWithUndo) (bytes : List ℕ) (o q : CheckOutcome) → FindsPlain p bytes o → FindsPlain p bytes q → o ≡ q
  found_at p bytes o q (too_deep deep) (too_deep more) = refl
  found_at p bytes o q (too_deep deep) (no_certificate flat none) = absurd (flat deep)
  found_at p bytes o q (too_deep deep) (wins s u flat is w) = absurd (flat deep)
  found_at p bytes o q (too_deep deep) (loses s u flat is l) = absurd (flat deep)
  found_at p bytes o q (no_certificate flat none) (too_deep deep) = absurd (flat deep)
  found_at p bytes o q (no_certificate flat none) (no_certificate level more) = refl
  found_at p bytes o q (no_certificate flat none) (wins s u level is w) = absurd (none s u is)
  found_at p bytes o q (no_certificate flat none) (loses s u level is l) = absurd (none s u is)
  found_at p bytes o q (wins s u flat is w) (too_deep deep) = absurd (flat deep)
  found_at p bytes o q (wins s u flat is w) (no_certificate level none) = absurd (none s u is)
  found_at p bytes o q (wins s u flat is w) (wins t v level are x) = refl
  found_at p bytes o q (wins s u flat is w) (loses t v level are l) = absurd (not_both p bytes s t u v is are w l)
  found_at p bytes o q (loses s u flat is l) (too_deep deep) = absurd (flat deep)
  found_at p bytes o q (loses s u flat is l) (no_certificate level none) = absurd (none s u is)
  found_at p bytes o q (loses s u flat is l) (wins t v level are w) = absurd (not_both p bytes t s v u are is w l)
  found_at p bytes o q (loses s u flat is l) (loses t v level are m) = refl

  -- so it is where the problem may be refused before
  found_on : (parts : Bool) (r : Result LineWithUndo GameFault) (bytes : List ℕ) (o q : CheckOutcome) → FindsOnProblem parts r bytes o → FindsOnProblem parts r bytes q → o ≡ q
  found_on true (Ok p) bytes o q a b = found_shared one_shared answer p bytes o q a b
  found_on false (Ok p) bytes o q a b = found_at p bytes o q a b
  found_on parts (Err e) bytes o q a b = a ∙ sym b

  module _ (reading : GrammarIsUnambiguous) (parts : Bool) where
    -- one thing is found on an input
    found_same : (input : List ℕ) (o q : CheckOutcome) → Finds parts input o → Finds parts input q → o ≡ q
    found_same input o q (too_long long) (too_long more) = refl
    found_same input o q (too_long long) (no_tree small none) = absurd (omega arith)
    found_same input o q (too_long long) (first_tree n t q' small s b) = absurd (omega arith)
    found_same input o q (no_tree small none) (too_long long) = absurd (omega arith)
    found_same input o q (no_tree small none) (no_tree little never) = refl
    found_same input o q (no_tree small none) (first_tree n t q' little s b) = absurd (none t n s)
    found_same input o q (first_tree n t o' small s a) (too_long long) = absurd (omega arith)
    found_same input o q (first_tree n t o' small s a) (no_tree little none) = absurd (none t n s)
    found_same input o q (first_tree n t o' small s a) (first_tree m u q' little r b) =
        let same = reading input n m t u s r in
        found_on parts (problem_of (main_line u)) (trimmed (drop m input)) o' q'
        (subst (λ (x : GameTree). FindsOnProblem parts (problem_of (main_line x)) (trimmed (drop m input)) o') same.1
        (subst (λ x. FindsOnProblem parts (problem_of (main_line t)) (trimmed (drop x input)) o') same.0 a)) b

    -- an input has one text and one status
    pub checks_same : (input s t : List ℕ) (m n : ℕ) → IsCheckText parts input s m → IsCheckText parts input t n → (s ≡ t) × (m ≡ n)
    checks_same input s t m n a b =
        let same = found_same input a.finding b.finding a.finds b.finds in
        (a.line ∙ ap check_line same ∙ sym b.line, a.status_is ∙ ap check_status same ∙ sym b.status_is)
