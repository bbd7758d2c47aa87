-- Lemmas on what a verdict says of the problem's value.
use Rattle.std.proofs.Common.{◌≡◌, ◌+◌, ◌*◌, ◌/◌, ◌%◌, ℕ, zero, suc, List, [], ◌∷◌, ◌++◌, Option, None, Some, refl, sym, ap, ap₂, ◌∙◌, arith, append_assoc, subst}
use Rattle.std.proofs.lemmas.List.{append_cancel_left}
use Rattle.std.proofs.Math.Nat.{div-add-mod}
use Rattle.tt_sgf.specs.Bytes.{lower_a, newline, space}
use Rattle.tt_sgf.specs.declared.size.Size.{Size}
use Rattle.tt_game.specs.declared.frame.Side.{Side}
use Rattle.tt_game.specs.declared.frame.Side.TheVariants.{Attacker, Defender}
use Rattle.tt_game.specs.declared.turns.Turn.{Turn}
use Rattle.tt_game.specs.declared.turns.Turn.TheVariants.{Play, Pass}
use Rattle.tt_game.specs.Game.{HasValue, value_won_by}
use Rattle.tt_game.specs.Line.{LineWithUndo}
use Rattle.tt_game.specs.laws.SideLaws.{verdict_word_is_prefix_free}
use Rattle.tt_game.specs.Sides.{verdict_word}
use Rattle.tt_proof.specs.CertificateText.{readable_turn_text}
use Rattle.tt_search.specs.declared.limits.Limits.{Limits}
use Rattle.tt_solve.specs.declared.options.CertKind.{CertKind}
use Rattle.tt_text.specs.Laws.{VerdictsAreValues}
use Rattle.tt_solve.specs.declared.solution.Solution.{Solution}
use Rattle.tt_solve.specs.declared.solution.Solution.TheVariants.{Settled, Unsettled}
use Rattle.tt_solve.specs.Solutions.{IsFirstTurnOfWinner, IsSolution}
use Rattle.tt_text.specs.Solving.{certificate_line, decided_line, first_turn_text, verdict_text}

-- the byte at an index, or 0
abbrev byte : ℕ → List ℕ → ℕ
byte n [] = 0
byte zero (b ∷ bs) = b
byte (suc n) (b ∷ bs) = byte n bs

less : (x y : ℕ) → lower_a + x ≡ lower_a + y → x ≡ y
less x y e = omega (arith, e)

-- a point is read off its letters
points_same : (size : Size) (p q : ℕ) → lower_a + p % size.columns ≡ lower_a + q % size.columns → lower_a + p / size.columns ≡ lower_a + q / size.columns → p ≡ q
points_same size p q column row =
    let joined = ap₂ (λ x y. size.columns * x + y) (less _ _ row) (less _ _ column) in
    sym (div-add-mod p size.columns) ∙ joined ∙ div-add-mod q size.columns

-- a turn is read off its letters
turns_same : (size : Size) (t u : Turn) (x y : List ℕ) → readable_turn_text size t ++ newline ∷ x ≡ readable_turn_text size u ++ newline ∷ y → t ≡ u
turns_same size (Play p) (Play q) x y e = ap Play (points_same size p q (ap (byte 0) e) (ap (byte 1) e))
turns_same size (Play p) Pass x y e = let bad : newline ≡ 115 = ap (byte 2) e in absurd (omega (arith, bad))
turns_same size Pass (Play q) x y e = let bad : 115 ≡ newline = ap (byte 2) e in absurd (omega (arith, bad))
turns_same size Pass Pass x y e = refl

-- and so is a first turn, or that there is none
firsts_same : (size : Size) (first second : Option Turn) (x y : List ℕ) → first_turn_text size first ++ newline ∷ x ≡ first_turn_text size second ++ newline ∷ y → first ≡ second
firsts_same size None None x y e = refl
firsts_same size None (Some t) x y e = let bad : newline ≡ space = ap (byte 0) e in absurd (omega (arith, bad))
firsts_same size (Some t) None x y e = let bad : space ≡ newline = ap (byte 0) e in absurd (omega (arith, bad))
firsts_same size (Some t) (Some u) x y e = ap Some (turns_same size t u x y (append_cancel_left (space ∷ []) (readable_turn_text size t ++ newline ∷ x) (readable_turn_text size u ++ newline ∷ y) e))

-- what a verdict that begins with the side's word says
record Says (p : LineWithUndo) (side : Side) (rest : List ℕ) : Type 0 where
  first : Option Turn
  lines : List ℕ
  valued : HasValue p.frame p.state (value_won_by side)
  first_is : IsFirstTurnOfWinner p side first
  text : first_turn_text p.frame.size first ++ newline ∷ lines ≡ rest

-- a verdict that begins with a side's word says so
says : (p : LineWithUndo) (limits : Limits) (total : Option ℕ) (cert : CertKind) (side : Side) (rest : List ℕ) (s : Solution) → IsSolution p limits total cert s
    → verdict_text p.frame.size s ≡ verdict_word side ++ rest → Says p side rest
says p limits total cert side rest (Settled winner first c) is e =
    let size = p.frame.size in
    let lines = certificate_line c in
    let parts : decided_line size winner first ++ lines ≡ verdict_word winner ++ (first_turn_text size first ++ newline ∷ lines) =
    append_assoc (verdict_word winner) (first_turn_text size first ++ newline ∷ []) lines
    ∙ ap (λ (x : List ℕ). verdict_word winner ++ x) (append_assoc (first_turn_text size first) (newline ∷ []) lines) in
    let same = verdict_word_is_prefix_free winner side (first_turn_text size first ++ newline ∷ lines) rest (sym parts ∙ e) in
    record {
      first = first;
      lines = lines;
      valued = subst (λ (x : Side). HasValue p.frame p.state (value_won_by x)) same.0 is.0;
      first_is = subst (λ (x : Side). IsFirstTurnOfWinner p x first) same.0 is.1;
      text = same.1;
    }
says p limits total cert Attacker rest (Unsettled reason) is e = let bad : 117 ≡ 107 = ap (byte 0) e in absurd (omega (arith, bad))
says p limits total cert Defender rest (Unsettled reason) is e = let bad : 117 ≡ 108 = ap (byte 0) e in absurd (omega (arith, bad))

-- verdicts name the value, and the turn behind the word
pub are_values : VerdictsAreValues
are_values p limits total cert side rest v =
    let said = says p limits total cert side rest v.0 v.1 (sym v.2) in
    (said.valued, λ first lines e. subst (λ (o : Option Turn). IsFirstTurnOfWinner p side o) (firsts_same p.frame.size said.first first said.lines lines (said.text ∙ e)) said.first_is)
