use Rattle.std.proofs.Common.{rules, sym, ◌∙◌}
use Rattle.std.proofs.lemmas.Bool.{false≢true}
use Rattle.tsumego_show.proofs.ReadBack.{alone}
use Rattle.tsumego_show.proofs.reading_back.only_line.Goals as goal

pub returns-then-is_one_tree-clause-read : goal.returns-then-is_one_tree-clause-read
returns-then-is_one_tree-clause-read c =
    let found = c.in-Ok.ensures.found in
    let one = (c.is_one_tree.ensures found.0 found.1).0 c.if-is_one_tree.true in
    (c.in-Ok.ensures.within.2, (c.in-Ok.used, found.0, (found.1, one.0, one.1), found.2))

pub returns-else-is_one_tree-clause-other : goal.returns-else-is_one_tree-clause-other
returns-else-is_one_tree-clause-other c = λ _. (
  c.in-Ok.ensures.within.2,
  λ count t is.
      let found = c.in-Ok.ensures.found in
      let one = alone c.grammar_is_unambiguous.ensures c.args.text.now c.in-Ok.used found.0 found.1 count t is in
      absurd (false≢true (sym c.if-is_one_tree.false ∙ (c.is_one_tree.ensures found.0 one.0).1 (one.1, one.2))),
)

pub returns-in-Err-Syntax-clause-other : goal.returns-in-Err-Syntax-clause-other
returns-in-Err-Syntax-clause-other c = λ _.
    let none = c.in-Err-Syntax.ensures.syntax (search rules) in
    (none.0, λ count t is. none.1 t count is.0)
