use Rattle.std.proofs.Common.{arith, ap, sym, ◌≡◌, ◌∙◌, ◌<◌, ◌≤◌, ◌+◌, ◌*◌, ◌/◌, ◌%◌, ℕ, Option, Some, None, MatchOption}
use Rattle.std.proofs.lemmas.Grind.{common_steps}
use Rattle.tt_sgf.specs.Bytes.{lower_a}
use Rattle.tt_proof.proofs.certificate_read.read_point.Goals as goal

-- a point's row is one of the board's
row_below : (n c r : ℕ) → 1 ≤ c → n < c * r → n / c < r
row_below n c r some lt = grind (arith, common_steps)

-- a column and a row of the board are those of one of its points
inside : (c r x y : ℕ) → x < c → y < r → y * c + x < c * r
inside c r x y a b = grind (arith, common_steps)

-- the point of a column and a row has this column
column_of : (c x y n : ℕ) → x < c → n ≡ y * c + x → n % c ≡ x
column_of c x y n a e = grind (arith, common_steps)

-- and this row
row_of : (c x y n : ℕ) → x < c → n ≡ y * c + x → n / c ≡ y
row_of c x y n a e = grind (arith, common_steps)

-- what follows from what an option says of its value, or of there being none, it says too
each_option : {A : Type 0} (r : Option A) (N N' : Type 0) (P P' : A → Type 0) → (N → N') → ((x : A) → P x → P' x) → MatchOption r N P → MatchOption r N' P'
each_option None N N' P P' n p h = n h
each_option (Some x) N N' P P' n p h = p x h

pub returns-in_default : goal.returns-in_default
returns-in_default c = λ p lt a b. c.in_default.ensures (p % c.args.size.columns) (omega (arith, c.args.size.columns_in.0)) a

pub returns-in_default-letter_index : goal.returns-in_default-letter_index
returns-in_default-letter_index c =
    λ p lt a b. c.in_default-letter_index.ensures (p / c.args.size.columns)
    (rw c.rows.ensures (row_below p c.args.size.columns c.args.size.rows c.args.size.columns_in.0 lt)) b

pub returns : goal.returns
returns c =
    let columns = c.columns-2.ensures in
    let column : c.in-Some.column < c.args.size.columns = rw c.columns.ensures at c.in-Some.ensures.0 in
    let row : c.in-Some-letter_index.row < c.args.size.rows = rw c.rows.ensures at c.in-Some-letter_index.ensures.0 in
    let within = inside c.args.size.columns c.args.size.rows c.in-Some.column c.in-Some-letter_index.row column row in
    let point = rw columns at c.point.ensures in
    each_option c.point.result _ _ _ _ (λ out. absurd (omega (arith, within, out)))
    (λ p h. (
      omega (arith, h.0, within),
      c.in-Some.ensures.1 ∙ ap (λ n. lower_a + n) (sym (column_of c.args.size.columns c.in-Some.column c.in-Some-letter_index.row p column h.0)),
      c.in-Some-letter_index.ensures.1 ∙ ap (λ n. lower_a + n) (sym (row_of c.args.size.columns c.in-Some.column c.in-Some-letter_index.row p column h.0)),
    )) point
