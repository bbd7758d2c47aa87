-- A play made in steps: what goes is taken off, then the stone is put.
use Rattle.std.proofs.Common.{◌≡◌, ◌≢◌, ℕ, ◌+◌, ◌<◌, ◌≤◌, ◌⊎◌, ◌↔◌, List, Some, None, set, map, length, Contains, inl, inr, sym, ap, subst, ◌∙◌, arith}
use Rattle.std.proofs.lemmas.Bool.{cases_eq, cases_lt}
use Rattle.std.proofs.lemmas.List.{length-set, get_or-set_same, get_or-set_other, get_or_past, ext_get_or, get_or_default}
use Rattle.std.proofs.lemmas.List.Elements.{Contains-get_or}
use Rattle.tt_board.specs.declared.Colour.{Colour}
use Rattle.tt_sgf.specs.declared.size.Size.{Size}
use Rattle.tt_sgf.specs.Sizes.{point_count}
use Rattle.tt_board.specs.Position.{Colouring}
use Rattle.tt_board.specs.Reach.{entry_at}
use Rattle.tt_board.specs.Decided.{decide_same_entry}
use Rattle.tt_board.specs.Play.{other, clear, play_of}
use Rattle.tt_board.specs.inside.Chains.{name_at, root_of, renamed, IsEachOnce}
use Rattle.tt_board.proofs.CountLemmas.{in_list}
use Rattle.tt_board.proofs.JoinLemmas.{name_renamed, renamed_not}
use Rattle.tt_board.proofs.PlayLemmas.{length-clear, length-play}
use Rattle.tt_board.specs.laws.ClearLaws.{entry_at_clear, cleared_either}

-- clearing leaves a point as it is, or empty
clear_either : (s : Size) (c : Colouring) (k : Colour) (q : ℕ) → (entry_at (clear s c k) q ≡ None) ⊎ (entry_at (clear s c k) q ≡ entry_at c q)
clear_either s c k q = elim (cases_lt q (point_count s)) [
  | inl below ↦ elim (cleared_either s c k q) [ inl bare ↦ inl (entry_at_clear s c k q below ∙ bare) | inr same ↦ inr (entry_at_clear s c k q below ∙ same) ]
  | inr past ↦ inl (get_or_past (clear s c k) q None (subst (λ n. n ≤ q) (sym (length-clear s c k)) past))
]

-- so does a play, once the stone is put
play_either : (s : Size) (c : Colouring) (k : Colour) (p q : ℕ) → (entry_at (play_of s c k p) q ≡ None) ⊎ (entry_at (play_of s c k p) q ≡ entry_at (set c p (Some k)) q)
unfolding play_of
play_either s c k p q = elim (clear_either s (clear s (set c p (Some k)) (other k)) k q) [
  | inl bare ↦ inl bare
  | inr same ↦ elim (clear_either s (set c p (Some k)) (other k) q) [ inl bare ↦ inl (same ∙ bare) | inr also ↦ inr (same ∙ also) ]
]

module _ (s : Size) (c d : Colouring) (k : Colour) (p : ℕ) (ns goes : List ℕ) (fits : length c ≡ point_count s) (in_p : p < point_count s) (free : entry_at c p ≡ None)
    (facts : (q : ℕ) → entry_at c q ≢ None → (entry_at (play_of s c k p) q ≡ None) ↔ Contains goes (name_at ns q)) (d_fits : length d ≡ length c)
    (gone : (q : ℕ) → Contains goes (name_at ns q) → entry_at d q ≡ None) (kept : (q : ℕ) → (Contains goes (name_at ns q) → ⊥) → entry_at d q ≡ entry_at c q) where
  -- the point is still empty
  pub still_free : entry_at d p ≡ None
  still_free = elim (in_list goes (name_at ns p)) [ inl has ↦ gone p has | inr none ↦ kept p none ∙ free ]

  -- all other points are as the play leaves them
  elsewhere : (q : ℕ) → q ≢ p → entry_at d q ≡ entry_at (play_of s c k p) q
  elsewhere q apart =
      let put = get_or-set_other c p q (Some k) None apart in
      elim (decide_same_entry (entry_at c q) None) [
        | inl bare ↦
            let now : entry_at (play_of s c k p) q ≡ None = elim (play_either s c k p q) [ inl b ↦ b | inr same ↦ same ∙ put ∙ bare ] in
            (elim (in_list goes (name_at ns q)) [ inl has ↦ gone q has | inr none ↦ kept q none ∙ bare ]) ∙ sym now
        | inr stone ↦ elim (in_list goes (name_at ns q)) [
          | inl has ↦ gone q has ∙ sym ((facts q stone).1 has)
          | inr none ↦ elim (play_either s c k p q) [
            | inl bare ↦ absurd (none ((facts q stone).0 bare))
            | inr same ↦ kept q none ∙ sym put ∙ sym same
          ]
        ]
      ]

  -- the stone put, where it stays, makes the play
  pub made_no_capture : entry_at (play_of s c k p) p ≢ None → set d p (Some k) ≡ play_of s c k p
  made_no_capture stays = ext_get_or None (set d p (Some k)) (play_of s c k p) (length-set d p (Some k) ∙ d_fits ∙ fits ∙ sym (length-play s c k p)) (λ q below. elim (cases_eq q p) [
    | inl same ↦
        ap (entry_at (set d p (Some k))) same ∙ get_or-set_same d p (Some k) None (subst (λ n. p < n) (sym (d_fits ∙ fits)) in_p)
        ∙ sym (get_or-set_same c p (Some k) None (subst (λ n. p < n) (sym fits) in_p))
        ∙ (elim (play_either s c k p p) [ inl bare ↦ absurd (stays bare) | inr e ↦ sym e ]) ∙ ap (entry_at (play_of s c k p)) (sym same)
    | inr apart ↦ get_or-set_other d p q (Some k) None apart ∙ elsewhere q apart
  ])

  -- where it doesn't stay it need not come
  pub made_suicide : entry_at (play_of s c k p) p ≡ None → d ≡ play_of s c k p
  made_suicide bare = ext_get_or None d (play_of s c k p) (d_fits ∙ fits ∙ sym (length-play s c k p)) (λ q below. elim (cases_eq q p) [
    | inl same ↦ ap (entry_at d) same ∙ still_free ∙ sym bare ∙ ap (entry_at (play_of s c k p)) (sym same)
    | inr apart ↦ elsewhere q apart
  ])

-- the first of the listed chains are gone
pub record Taking (old : List ℕ) (before : Colouring) (goes : List ℕ) (i : ℕ) (ns : List ℕ) (after : Colouring) : Type 0 where
  pub fits : length after ≡ length before
  pub gone : (q j : ℕ) → j < i → name_at goes j ≡ name_at old q → entry_at after q ≡ None
  pub kept : (q : ℕ) → ((j : ℕ) → j < i → name_at goes j ≢ name_at old q) → (name_at ns q ≡ name_at old q) × (entry_at after q ≡ entry_at before q)

-- one more goes
pub taking_more : (old : List ℕ) (before : Colouring) (goes : List ℕ) (i : ℕ) (ns : List ℕ) (after next : Colouring) → Taking old before goes i ns after → IsEachOnce goes → i < length goes
    → name_at goes i ≢ 0 → length next ≡ length after → ((q : ℕ) → name_at ns q ≡ name_at goes i → entry_at next q ≡ None)
    → ((q : ℕ) → name_at ns q ≢ name_at goes i → entry_at next q ≡ entry_at after q) → Taking old before goes (i + 1) (map (renamed (name_at goes i) 0) ns) next
taking_more old before goes i ns after next t once in' living fits gone kept = record {
  fits = fits ∙ t.fits;
  gone = λ q j below is. elim (cases_eq j i) [
    | inl same ↦
        let is' : name_at goes i ≡ name_at old q = ap (name_at goes) (sym same) ∙ is in
        gone q ((t.kept q (λ m less e. once m i less in' (e ∙ sym is'))).0 ∙ sym is')
    | inr apart ↦ elim (cases_eq (name_at ns q) (name_at goes i)) [
      | inl now ↦ gone q now
      | inr other ↦ kept q other ∙ t.gone q j (omega arith) is
    ]
  ];
  kept = λ q none.
      let was = t.kept q (λ j less. none j (omega arith)) in
      let other : name_at ns q ≢ name_at goes i = λ e. none i (omega arith) (sym e ∙ was.0) in
      (name_renamed (name_at goes i) 0 ns q living ∙ renamed_not (name_at goes i) 0 _ other ∙ was.0, kept q other ∙ was.1);
}

-- the next one is there
pub taking_next : (old : List ℕ) (before : Colouring) (goes : List ℕ) (i : ℕ) (ns : List ℕ) (after : Colouring) → Taking old before goes i ns after → IsEachOnce goes → i < length goes
    → name_at old (root_of (name_at goes i)) ≡ name_at goes i → name_at ns (root_of (name_at goes i)) ≡ name_at goes i
taking_next old before goes i ns after t once in' rooted = (t.kept (root_of (name_at goes i)) (λ j less e. once j i less in' (e ∙ rooted))).0 ∙ rooted

-- when all are gone
module _ (old : List ℕ) (before : Colouring) (goes : List ℕ) (i : ℕ) (ns : List ℕ) (after : Colouring) (t : Taking old before goes i ns after) (end : i ≡ length goes) where
  -- the stones of all listed chains are gone, and no others
  pub taken_gone : (q : ℕ) → Contains goes (name_at old q) → entry_at after q ≡ None
  taken_gone q has = t.gone q has.0 (subst (λ n. has.0 < n) (sym end) has.1) (get_or_default goes has.0 0 (name_at old q) has.1 ∙ has.2)

  pub taken_kept : (q : ℕ) → (Contains goes (name_at old q) → ⊥) → entry_at after q ≡ entry_at before q
  taken_kept q none = (t.kept q (λ j below e. none (subst (Contains goes) e (Contains-get_or goes j 0 (subst (λ n. j < n) end below))))).1

-- ---- a colouring that loses the listed chains one by one, with no chain changed

-- the first of the listed chains are gone from it
pub record Lifting (ns : List ℕ) (before : Colouring) (goes : List ℕ) (i : ℕ) (after : Colouring) : Type 0 where
  pub fits : length after ≡ length before
  pub gone : (q j : ℕ) → j < i → name_at goes j ≡ name_at ns q → entry_at after q ≡ None
  pub kept : (q : ℕ) → ((j : ℕ) → j < i → name_at goes j ≢ name_at ns q) → entry_at after q ≡ entry_at before q

-- one more goes
pub lifting_more : (ns : List ℕ) (before : Colouring) (goes : List ℕ) (i : ℕ) (after next : Colouring) → Lifting ns before goes i after
    → length next ≡ length after → ((q : ℕ) → name_at ns q ≡ name_at goes i → entry_at next q ≡ None)
    → ((q : ℕ) → name_at ns q ≢ name_at goes i → entry_at next q ≡ entry_at after q) → Lifting ns before goes (i + 1) next
lifting_more ns before goes i after next t fits gone kept = record {
  fits = fits ∙ t.fits;
  gone = λ q j below is. elim (cases_eq (name_at ns q) (name_at goes i)) [
    | inl now ↦ gone q now
    | inr other ↦ elim (cases_eq j i) [
      | inl same ↦ absurd (other (sym is ∙ ap (name_at goes) same))
      | inr apart ↦ kept q other ∙ t.gone q j (omega arith) is
    ]
  ];
  kept = λ q none. kept q (λ e. none i (omega arith) (sym e)) ∙ t.kept q (λ j less. none j (omega arith));
}

-- when all are gone
module _ (ns : List ℕ) (before : Colouring) (goes : List ℕ) (i : ℕ) (after : Colouring) (t : Lifting ns before goes i after) (end : i ≡ length goes) where
  -- the stones of all listed chains are gone, and no others
  pub lifted_gone : (q : ℕ) → Contains goes (name_at ns q) → entry_at after q ≡ None
  lifted_gone q has = t.gone q has.0 (subst (λ n. has.0 < n) (sym end) has.1) (get_or_default goes has.0 0 (name_at ns q) has.1 ∙ has.2)

  pub lifted_kept : (q : ℕ) → (Contains goes (name_at ns q) → ⊥) → entry_at after q ≡ entry_at before q
  lifted_kept q none = t.kept q (λ j below e. none (subst (Contains goes) e (Contains-get_or goes j 0 (subst (λ n. j < n) end below))))
