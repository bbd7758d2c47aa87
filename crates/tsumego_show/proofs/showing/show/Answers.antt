use Rattle.std.proofs.Common.{◌≡◌, ◌⊎◌, ◌∙◌, ℕ, List, true, inl, inr, rules, arith, length, subst, sym, take, drop, ◌++◌, ◌-◌}
use Rattle.std.proofs.lemmas.List.{length-drop, length-take-le}
use Rattle.tt_sgf.specs.Grammar.{HasOpeningParenthesis}
use Rattle.tsumego_show.specs.Shown.{IsInputShown}
use Rattle.tsumego_show.proofs.GivenBytes.{given_text}
use Rattle.tsumego_show.proofs.TreeByTree.{progress_ended, progress_long, progress_step, progress_stopped}
use Rattle.tsumego_show.proofs.showing.show.Goals as goal
use Rattle.tsumego_show.proofs.showing.show.Goals.{then-number-eq1, else-number-eq1+then-has_tree}

pub loop-number-smaller : goal.loop-number-smaller
loop-number-smaller c =
    let rest = c.loop-number.rest.now in
    let used = c.in-Ok.used in
    let left : length (take (length rest - used) (drop used rest)) ≡ length rest - used = length-take-le (length rest - used) (drop used rest) (omega (arith, length-drop used rest)) in
    let within = c.in-Ok.ensures.within in
    omega (arith, left, within.0, within.1)

pub loop-number-preserved : goal.loop-number-preserved
loop-number-preserved c =
    let rest = c.loop-number.rest.now in
    let used = c.in-Ok.used in
    let found = c.in-Ok.ensures.found in
    let left : length (take (length rest - used) (drop used rest)) ≡ length rest - used = length-take-le (length rest - used) (drop used rest) (omega (arith, length-drop used rest)) in
    let within = c.in-Ok.ensures.within in
    let grown : c.extend_from_slice.new.self.items ≡ c.loop-number.all.text.items ++ c.in_ok-one-in-Ok.one.text.items = search rules in
    record {
      bound = omega (arith, left, within.0, within.1, c.loop-number.invariant.bound);
      progress = rw grown (progress_step c.loop-number.invariant.progress used found.0 c.in-Ok.main.nodes _ c.from_first_parenthesis-bytes.result.now
          c.in_ok-one-in-Ok.one.text.items found.1 (c.from_first_parenthesis-bytes.ensures.begun ∙ given_text rest used found.0 found.1) found.2
          c.in-Ok.ensures.within.2 (search rules) (search rules));
    }

pub returns-in-Err-Syntax : goal.returns-in-Err-Syntax
returns-in-Err-Syntax c =
    let goes : (c.loop-number.number ≡ 1) ⊎ HasOpeningParenthesis c.loop-number.rest.now =
    elim c.if-number-eq1.branch [ then-number-eq1 w ↦ inl w.if-number-eq1.true | else-number-eq1+then-has_tree w ↦ inr (search (rules, w.if-has_tree.true)) ] in
    let none = c.in-Err-Syntax.ensures.syntax (search rules) in
    let said = c.in_ok-add_words-in-Err-Syntax.ensures in
    subst (λ (text : List ℕ). IsInputShown c.args.mode c.args.input.now true text) (sym said.2)
    (progress_stopped c.loop-number.invariant.progress said.0 goes none.0 none.1 said.1)

pub returns-in-Err-TooLong : goal.returns-in-Err-TooLong
returns-in-Err-TooLong c =
    let said = c.in_ok-add_words-in-Err-TooLong.ensures in
    subst (λ (text : List ℕ). IsInputShown c.args.mode c.args.input.now true text) (sym said.2)
    (progress_long c.loop-number.invariant.progress said.0 (c.in-Err-TooLong.ensures.too_long.0 (search rules)) c.loop-number.invariant.bound said.1)

pub returns : goal.returns
returns c =
    progress_ended c.loop-number.invariant.progress c.if-number-eq1.false (search (rules, c.if-has_tree.false))
