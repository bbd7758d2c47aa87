use Rattle.std.proofs.Common.{◌≡◌, ℕ, ◌<◌, ◌≤◌, Option, None, length, replicate, take, refl, sym, ap, ◌∙◌, inl, inr, arith}
use Rattle.std.proofs.lemmas.Bool.{cases_lt}
use Rattle.std.proofs.lemmas.List.{length-replicate, get_or-replicate, get_or_past, ext_get_or, length-take-le, get_or-take}
use Rattle.tt_board.specs.declared.Colour.{Colour}
use Rattle.tt_board.specs.Position.{Colouring}
use Rattle.tt_board.specs.Reach.{entry_at}
use Rattle.tt_board.proofs.PlaneLemmas.{count_is}
use Rattle.tt_board.proofs.colouring.Colouring.entries.Goals as goal

-- a list of empty points has no stone anywhere
none_anywhere : (xs : Colouring) → xs ≡ replicate 361 None → (k : ℕ) → entry_at xs k ≡ None
none_anywhere xs e k = ap (λ (ys : Colouring). entry_at ys k) e ∙ elim (cases_lt k 361) [
  | inl inside ↦ get_or-replicate {A = Option Colour} 361 k None None inside
  | inr past ↦ get_or_past (replicate 361 None) k None (omega (arith, length-replicate {A = Option Colour} 361 None))
]

pub loop-p-init : goal.loop-p-init
loop-p-init c = record {
  wide = ap length c.empty_entries-entries.ensures ∙ length-replicate {A = Option Colour} 361 None;
  done = λ k below. absurd (omega arith);
  rest = λ k above. none_anywhere c.empty_entries-entries.result c.empty_entries-entries.ensures k;
}

pub at-requires : goal.at-requires
at-requires c = let i = c.self.inside in omega (arith, count_is i.count i.black.words i.white.words _ c.self.view_is)

-- a list that begins with the entries of a colouring has it at its front
front_is : (n : ℕ) (xs c : Colouring) → length c ≡ n → n ≤ length xs → ((k : ℕ) → k < n → entry_at xs k ≡ entry_at c k) → take n xs ≡ c
front_is n xs c fits wide same = ext_get_or None (take n xs) c (length-take-le n xs wide ∙ sym fits)
    (λ k below. let in_n : k < n = omega (arith, length-take-le n xs wide) in get_or-take n xs k None in_n ∙ same k in_n)

pub returns-clause-shown : goal.returns-clause-shown
returns-clause-shown c =
    let i = c.self.inside in let own = c.args.self.now in
    front_is (length own) c.loop-p.entries own refl (omega (arith, c.loop-p.invariant.wide, count_is i.count i.black.words i.white.words _ c.self.view_is, c.self.invariant.small))
    (λ k below. c.loop-p.invariant.done k (omega (arith, count_is i.count i.black.words i.white.words _ c.self.view_is)))

pub returns-clause-rest : goal.returns-clause-rest
returns-clause-rest c = λ k above. let i = c.self.inside in c.loop-p.invariant.rest k (omega (arith, count_is i.count i.black.words i.white.words _ c.self.view_is))
