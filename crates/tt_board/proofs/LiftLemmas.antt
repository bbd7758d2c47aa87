-- What a move leaves, once the chains without liberties beside it are lifted.
use Rattle.std.proofs.Common.{◌≡◌, ◌≢◌, ℕ, ◌<◌, ◌⊎◌, length, Some, None, set, inl, inr, refl, sym, ap, subst, ◌∙◌, arith}
use Rattle.std.proofs.lemmas.Bool.{cases_eq, cases_Bool}
use Rattle.std.proofs.lemmas.Option.{none-some}
use Rattle.std.proofs.lemmas.List.{get_or-set_same, get_or-set_other}
use Rattle.tt_board.specs.declared.Colour.{Colour}
use Rattle.tt_sgf.specs.declared.size.Size.{Size}
use Rattle.tt_sgf.specs.Sizes.{point_count}
use Rattle.tt_board.specs.Near.{IsNeighbour}
use Rattle.tt_board.specs.Position.{Colouring}
use Rattle.tt_board.specs.Reach.{entry_at, Reaches}
use Rattle.tt_board.specs.ReachLaws.{reaches_beside, reaches_on, reaches_all}
use Rattle.tt_board.specs.Decided.{reaches, reaches_is_exact, decide_same_entry}
use Rattle.tt_board.specs.Play.{other, clear, play_of}
use Rattle.tt_board.specs.Setup.{AllHaveLiberties}
use Rattle.tt_board.proofs.PlayLemmas.{clear_from}
use Rattle.tt_board.specs.laws.NearLaws.{near_back}
use Rattle.tt_board.specs.laws.ClearLaws.{cleared_gone, cleared_kept_other, cleared_kept_alive, other_differs}

-- d is c, with some whole chains of colour k lifted that don't reach empty
pub record IsLifted (s : Size) (c : Colouring) (k : Colour) (d : Colouring) : Type 0 where
  pub fits : length d ≡ point_count s
  pub each : (p : ℕ) → (entry_at d p ≡ entry_at c p) ⊎ ((entry_at d p ≡ None) × (entry_at c p ≡ Some k) × (Reaches s c p None → ⊥))
  pub whole : (p q : ℕ) → IsNeighbour s p q → entry_at c p ≡ Some k → entry_at c q ≡ Some k → entry_at d p ≡ None → entry_at d q ≡ None

-- before any chain is lifted the colouring is as it was
pub lifted_none : (s : Size) (c : Colouring) (k : Colour) → length c ≡ point_count s → IsLifted s c k c
lifted_none s c k fits = record {
  fits = fits;
  each = λ p. inl refl;
  whole = λ p q near mine also gone. absurd (none-some k (sym gone ∙ mine));
}

-- a colouring with all chains lifted that don't reach empty is the cleared one
pub cleared : (s : Size) (c : Colouring) (k : Colour) (d : Colouring) → IsLifted s c k d
    → ((p : ℕ) → p < point_count s → entry_at c p ≡ Some k → Reaches s c p None ⊎ (entry_at d p ≡ None)) → d ≡ clear s c k
cleared s c k d l looked = clear_from s c d k l.fits (λ p in_p.
    elim (l.each p) [
      | inr gone ↦ gone.0 ∙ sym (cleared_gone s c k p gone.1 (elim (cases_Bool (reaches s c p None)) [
        | inl alive ↦ absurd (gone.2 ((reaches_is_exact s c p None in_p).0 alive))
        | inr dead ↦ dead
      ]))
      | inl same ↦ elim (decide_same_entry (entry_at c p) (Some k)) [
        | inr apart ↦ same ∙ sym (cleared_kept_other s c k p apart)
        | inl mine ↦ elim (looked p in_p mine) [
          | inl r ↦ same ∙ sym (cleared_kept_alive s c k p ((reaches_is_exact s c p None in_p).1 r))
          | inr gone ↦ absurd (none-some k (sym gone ∙ same ∙ mine))
        ]
      ]
    ])

-- where every stone reached empty, those beside the one filled point are all there is to look at
settled : (s : Size) (before c d : Colouring) (k : Colour) (at' : ℕ) → AllHaveLiberties s before → IsLifted s c k d
    → ((x : ℕ) → entry_at before x ≡ Some k → entry_at c x ≡ Some k)
    → ((x : ℕ) → x ≢ at' → entry_at before x ≡ None → entry_at c x ≡ None)
    → ((x : ℕ) → x < point_count s → IsNeighbour s x at' → entry_at before x ≡ Some k → Reaches s c x None ⊎ (entry_at d x ≡ None))
    → (x : ℕ) → x < point_count s → entry_at before x ≡ Some k → Reaches s c x None ⊎ (entry_at d x ≡ None)
settled s before c d k at' alive l stays bare beside x in_x mine =
    let r = alive x in_x (λ e. none-some k (sym e ∙ mine)) in
    reaches_all s before None (λ y. entry_at before y ≡ Some k → Reaches s c y None ⊎ (entry_at d y ≡ None))
    (λ y q in_y not_e near has own. elim (cases_eq q at') [
      | inl same ↦ beside y in_y (subst (λ z. IsNeighbour s y z) same near) own
      | inr apart ↦ inl (reaches_beside s c None y q (λ e. none-some k (sym e ∙ stays y own)) near (bare q apart has))
    ])
    (λ y q in_y not_e near alike later own. elim (later (alike ∙ own)) [
      | inl r' ↦ inl (reaches_on s c None y q near (stays q (alike ∙ own) ∙ sym (stays y own)) r')
      | inr gone ↦ inr (l.whole q y (near_back s y q in_y near) (stays q (alike ∙ own)) (stays y own) gone)
    ])
    x r.path in_x r.adjacent r.alike r.other r.found r.beside r.has_entry mine

module _ (s : Size) (c : Colouring) (k : Colour) (p : ℕ) (fits : length c ≡ point_count s) (in_p : p < point_count s) (alive : AllHaveLiberties s c) (free : entry_at c p ≡ None)
    (taken after : Colouring) (first : IsLifted s (set c p (Some k)) (other k) taken)
    (looked : (q : ℕ) → IsNeighbour s p q → entry_at (set c p (Some k)) q ≡ Some (other k) → Reaches s (set c p (Some k)) q None ⊎ (entry_at taken q ≡ None))
    (second : IsLifted s taken k after) (own : entry_at taken p ≡ Some k → Reaches s taken p None ⊎ (entry_at after p ≡ None)) where
  -- the new stone stands on its point, and all other points stay
  put_same : entry_at (set c p (Some k)) p ≡ Some k
  put_same = get_or-set_same c p (Some k) None (omega (arith, fits))

  put_other : (x : ℕ) → x ≢ p → entry_at (set c p (Some k)) x ≡ entry_at c x
  put_other x apart = get_or-set_other c p x (Some k) None apart

  -- a stone that was there stands elsewhere
  elsewhere : (x : ℕ) (j : Colour) → entry_at c x ≡ Some j → x ≢ p
  elsewhere x j stone same = none-some j (sym free ∙ sym (ap (entry_at c) same) ∙ stone)

  -- with the opponent's chains lifted, the opponent's colour is cleared
  taken_is : taken ≡ clear s (set c p (Some k)) (other k)
  taken_is = cleared s (set c p (Some k)) (other k) taken first (λ x in_x theirs.
      let apart : x ≢ p = λ same. other_differs k (sym put_same ∙ sym (ap (entry_at (set c p (Some k))) same) ∙ theirs) in
      settled s c (set c p (Some k)) taken (other k) p alive first
      (λ y stone. put_other y (elsewhere y (other k) stone) ∙ stone)
      (λ y other' bare. put_other y other' ∙ bare)
      (λ y in_y near stone. looked y (near_back s y p in_y near) (put_other y (elsewhere y (other k) stone) ∙ stone))
      x in_x (sym (put_other x apart) ∙ theirs))

  -- one's own stones stay when the opponent's are taken
  own_stays : (x : ℕ) → entry_at (set c p (Some k)) x ≡ Some k → entry_at taken x ≡ Some k
  own_stays x mine = elim (first.each x) [
    | inl same ↦ same ∙ mine
    | inr gone ↦ absurd (other_differs k (sym mine ∙ gone.1))
  ]

  -- with one's own chains lifted too, one's own colour is cleared
  after_is : after ≡ clear s taken k
  after_is = cleared s taken k after second (λ x in_x mine.
      elim (cases_eq x p) [
        | inl same ↦
            elim (own (own_stays p put_same)) [
              | inl r ↦ inl (subst (λ y. Reaches s taken y None) (sym same) r)
              | inr gone ↦ inr (ap (entry_at after) same ∙ gone)
            ]
        | inr apart ↦
            let before : entry_at c x ≡ Some k = sym (put_other x apart) ∙ (elim (first.each x) [
              | inl same ↦ sym same ∙ mine
              | inr gone ↦ absurd (none-some k (sym gone.0 ∙ mine))
            ]) in
            settled s c taken after k p alive second
            (λ y stone. own_stays y (put_other y (elsewhere y k stone) ∙ stone))
            (λ y other' bare. elim (first.each y) [
              | inl same ↦ same ∙ put_other y other' ∙ bare
              | inr gone ↦ gone.0
            ])
            (λ y in_y near stone.
            let there = own_stays y (put_other y (elsewhere y k stone) ∙ stone) in
            elim (own (own_stays p put_same)) [
              | inl r ↦ inl (reaches_on s taken None y p near (own_stays p put_same ∙ sym there) r)
              | inr gone ↦ inr (second.whole p y (near_back s y p in_y near) (own_stays p put_same) there gone)
            ])
            x in_x before
      ])

  -- both liftings together are the move
  pub play_is : after ≡ play_of s c k p
  unfolding play_of
  play_is = after_is ∙ ap (λ xs. clear s xs k) taken_is
