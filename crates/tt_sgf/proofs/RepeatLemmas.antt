-- One item after another: the number of tries doesn't matter where each item takes something.
use Rattle.std.proofs.Common.{◌≡◌, ℕ, zero, suc, ◌<◌, Bool, true, false, List, [], ◌∷◌, ◌++◌, length, Option, Some, None, refl, sym, ap, ◌∙◌, arith}
use Rattle.tt_sgf.specs.inside.Reading.{◌>>=◌, with_first, repeat}
use Rattle.tt_sgf.proofs.TokenLemmas.{with_front, with_front_more}

module _ {X : Type 0} (more : List ℕ → Bool) (item : List ℕ → Option (X × List ℕ)) where
  -- one try: no item follows, it can't be read, it is read; and no try is left
  pub repeat_stop : (n : ℕ) (bytes : List ℕ) → more bytes ≡ false → repeat more item (suc n) bytes ≡ Some ([], bytes)
  unfolding repeat
  repeat_stop n bytes e = rw e refl

  pub repeat_bad : (n : ℕ) (bytes : List ℕ) → more bytes ≡ true → item bytes ≡ None → repeat more item (suc n) bytes ≡ None
  unfolding repeat
  repeat_bad n bytes e f = rw (e, f) refl

  pub repeat_item : (n : ℕ) (bytes : List ℕ) (x : X × List ℕ) → more bytes ≡ true → item bytes ≡ Some x → repeat more item (suc n) bytes ≡ (repeat more item n x.1 >>= with_first x.0)
  unfolding repeat
  repeat_item n bytes x e f = rw (e, f) refl

  pub repeat_none : (bytes : List ℕ) → repeat more item 0 bytes ≡ None
  unfolding repeat
  repeat_none bytes = refl

-- each item takes something: less is left behind it
abbrev pub Shrinks : {X : Type 0} → (List ℕ → Bool) → (List ℕ → Option (X × List ℕ)) → Type 0
Shrinks {X} more item = (bytes : List ℕ) (x : X × List ℕ) → more bytes ≡ true → item bytes ≡ Some x → length x.1 < length bytes

-- as often as there are bytes, and once more
abbrev pub all_at : {X : Type 0} → (List ℕ → Bool) → (List ℕ → Option (X × List ℕ)) → List ℕ → Option (List X × List ℕ)
all_at more item bytes = repeat more item (suc (length bytes)) bytes

module _ {X : Type 0} (more : List ℕ → Bool) (item : List ℕ → Option (X × List ℕ)) (shrinks : Shrinks more item) where
  -- any two numbers of tries above that of the bytes read the same
  pub repeat_enough : (n m : ℕ) (bytes : List ℕ) → length bytes < n → length bytes < m → repeat more item n bytes ≡ repeat more item m bytes
  repeat_enough zero m bytes h k = absurd (omega arith)
  repeat_enough (suc n) zero bytes h k = absurd (omega arith)
  repeat_enough (suc n) (suc m) bytes h k =
      elim (more bytes) as (λ t. more bytes ≡ t → repeat more item (suc n) bytes ≡ repeat more item (suc m) bytes) [
        | false ↦ λ e. repeat_stop more item n bytes e ∙ sym (repeat_stop more item m bytes e)
        | true ↦ λ e. elim (item bytes) as (λ o. item bytes ≡ o → repeat more item (suc n) bytes ≡ repeat more item (suc m) bytes) [
          | None ↦ λ f. repeat_bad more item n bytes e f ∙ sym (repeat_bad more item m bytes e f)
          | Some x ↦ λ f. let s = shrinks bytes x e f in
              repeat_item more item n bytes x e f ∙ ap (λ (o : Option (List X × List ℕ)). o >>= with_first x.0) (repeat_enough n m x.1 (omega arith) (omega arith))
              ∙ sym (repeat_item more item m bytes x e f)
        ] refl
      ] refl

  -- an item that is read comes before those read behind it
  pub all_item : (bytes : List ℕ) (x : X × List ℕ) → more bytes ≡ true → item bytes ≡ Some x → all_at more item bytes ≡ (all_at more item x.1 >>= with_first x.0)
  all_item bytes x e f =
      let s = shrinks bytes x e f in
      repeat_item more item (length bytes) bytes x e f ∙ ap (λ (o : Option (List X × List ℕ)). o >>= with_first x.0) (repeat_enough (length bytes) (suc (length x.1)) x.1 s (omega arith))

  -- a loop's step, with the items so far
  pub all_more : (front : List X) (bytes : List ℕ) (x : X × List ℕ) → more bytes ≡ true → item bytes ≡ Some x
      → (all_at more item x.1 >>= with_front (front ++ x.0 ∷ [])) ≡ (all_at more item bytes >>= with_front front)
  all_more front bytes x e f = sym (with_front_more front x.0 (all_at more item x.1)) ∙ ap (λ (o : Option (List X × List ℕ)). o >>= with_front front) (sym (all_item bytes x e f))
