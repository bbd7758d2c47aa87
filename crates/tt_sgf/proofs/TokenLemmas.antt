-- White space, value bytes and words: the steps of their loops, and the readers against the grammar.
use Rattle.std.proofs.Common.{◌≡◌, ℕ, ◌+◌, ◌<◌, ◌≤◌, Bool, true, false, eqb, List, [], ◌∷◌, ◌++◌, length, get_or, take, drop, Option, Some, None, refl, sym, ap, ◌∙◌, append_assoc, arith, not}
use Rattle.std.specs.List.{filter, list_any}
use Rattle.std.proofs.lemmas.Bool.{eqb-true}
use Rattle.std.proofs.lemmas.Option.{some_pair_parts}
use Rattle.std.proofs.lemmas.List.{append-nil, drop_more, take_more, drop_all, take_all}
use Rattle.tt_sgf.specs.Bytes.{backslash, close_value}
use Rattle.tt_sgf.specs.Grammar.{is_blank, is_letter_or_digit, is_kept_in_name, AreBlanks, IsRawValue, AreLettersOrDigits}
use Rattle.tt_sgf.specs.inside.Reading.{◌>>=◌, with_first, raw_at, word_of, after_word, begins}
use Rattle.tt_sgf.specs.Values.{after_blanks}

-- ---- the value of a step

-- where two steps give something, the first one gave what the second took
pub bind_some : {A B : Type 0} (o : Option A) (f : A → Option B) (y : B) → (o >>= f) ≡ Some y → (x : A) × (o ≡ Some x) × (f x ≡ Some y)
bind_some (Some x) f y e = (x, refl, e)
bind_some None f y e = absurd cc

-- items read before, and those read now behind them
abbrev pub with_front : {X : Type 0} → List X → List X × List ℕ → Option (List X × List ℕ)
with_front front p = Some (front ++ p.0, p.1)

-- an item read first is the last of those read before
pub with_front_more : {X : Type 0} (front : List X) (x : X) (o : Option (List X × List ℕ)) → ((o >>= with_first x) >>= with_front front) ≡ (o >>= with_front (front ++ x ∷ []))
with_front_more front x None = refl
with_front_more {X = X} front x (Some p) = ap (λ (xs : List X). Some (xs, p.1)) (simp append_assoc)

-- ---- white space

-- white space at the front is skipped, and any other byte stays
pub after_blanks-blank : (b : ℕ) (bs : List ℕ) → is_blank b ≡ true → after_blanks (b ∷ bs) ≡ after_blanks bs
unfolding after_blanks
after_blanks-blank b bs e = rw e refl

pub after_blanks-other : (b : ℕ) (bs : List ℕ) → is_blank b ≡ false → after_blanks (b ∷ bs) ≡ b ∷ bs
unfolding after_blanks
after_blanks-other b bs e = rw e refl

pub after_blanks-nil : after_blanks [] ≡ []
unfolding after_blanks
after_blanks-nil = refl

-- a whole text of white space is skipped
pub after_blanks-again : (w : List ℕ) (r : List ℕ) → AreBlanks w → after_blanks (w ++ r) ≡ after_blanks r
after_blanks-again [] r h = refl
after_blanks-again (b ∷ bs) r h = after_blanks-blank b (bs ++ r) h.0 ∙ after_blanks-again bs r h.1

-- what was skipped
pub blanks_take : (bytes : List ℕ) → (w : List ℕ) × AreBlanks w × (bytes ≡ w ++ after_blanks bytes)
blanks_take [] = ([], tt, sym after_blanks-nil)
blanks_take (b ∷ bs) =
    elim (is_blank b) as (λ t. is_blank b ≡ t → (w : List ℕ) × AreBlanks w × (b ∷ bs ≡ w ++ after_blanks (b ∷ bs))) [
      | true ↦ λ e. let r = blanks_take bs in (b ∷ r.0, (e, r.1), rw (after_blanks-blank b bs e) (ap (λ (x : List ℕ). b ∷ x) r.2))
      | false ↦ λ e. ([], tt, sym (after_blanks-other b bs e))
    ] refl

-- ---- value bytes

-- a byte of a value: an escaped one, the bracket at the end, a plain one, or none
pub raw_at-escaped : (b : ℕ) (bs : List ℕ) → raw_at true (b ∷ bs) ≡ (raw_at false bs >>= with_first b)
unfolding raw_at
raw_at-escaped b bs = refl

pub raw_at-end : (b : ℕ) (bs : List ℕ) → eqb b close_value ≡ true → raw_at false (b ∷ bs) ≡ Some ([], bs)
unfolding raw_at
raw_at-end b bs e = rw e refl

pub raw_at-plain : (b : ℕ) (bs : List ℕ) → eqb b close_value ≡ false → raw_at false (b ∷ bs) ≡ (raw_at (eqb b backslash) bs >>= with_first b)
unfolding raw_at
raw_at-plain b bs e = rw e refl

-- nothing ends where no byte is left
pub raw_at-nil : (escaped : Bool) → raw_at escaped [] ≡ None
unfolding raw_at
raw_at-nil true = refl
raw_at-nil false = refl

-- how far the loop has come
abbrev pub raw_so_far : List ℕ → ℕ → Bool → Option (List ℕ × List ℕ)
raw_so_far bytes i escaped = raw_at escaped (drop i bytes) >>= with_front (take i bytes)

-- a byte that joins the value leaves the total as it was
raw_cons : (bytes : List ℕ) (i : ℕ) (e e' : Bool) → i < length bytes
    → raw_at e (get_or bytes i 0 ∷ drop (i + 1) bytes) ≡ (raw_at e' (drop (i + 1) bytes) >>= with_first (get_or bytes i 0))
    → raw_so_far bytes (i + 1) e' ≡ raw_so_far bytes i e
raw_cons bytes i e e' lt h =
    rw (take_more bytes i 0 lt, drop_more bytes i 0 lt, h) (sym (with_front_more (take i bytes) (get_or bytes i 0) (raw_at e' (drop (i + 1) bytes))))

pub raw_more_escaped : (bytes : List ℕ) (i : ℕ) → i < length bytes → raw_so_far bytes (i + 1) false ≡ raw_so_far bytes i true
raw_more_escaped bytes i lt = raw_cons bytes i true false lt (raw_at-escaped _ _)

pub raw_more_plain : (bytes : List ℕ) (i : ℕ) → i < length bytes → eqb (get_or bytes i 0) close_value ≡ false → raw_so_far bytes (i + 1) (eqb (get_or bytes i 0) backslash) ≡ raw_so_far bytes i false
raw_more_plain bytes i lt e = raw_cons bytes i false _ lt (raw_at-plain _ _ e)

-- at the bracket the value is what was read, and the rest stands behind it
pub raw_ends : (bytes : List ℕ) (i : ℕ) → i < length bytes → eqb (get_or bytes i 0) close_value ≡ true → raw_so_far bytes i false ≡ Some (take i bytes, drop (i + 1) bytes)
raw_ends bytes i lt e = rw (drop_more bytes i 0 lt, raw_at-end _ _ e) (ap (λ (x : List ℕ). Some (x, drop (i + 1) bytes)) (append-nil (take i bytes)))

-- at the end of the bytes the value has no bracket
pub raw_stops : (bytes : List ℕ) (i : ℕ) (e : Bool) → length bytes ≤ i → raw_so_far bytes i e ≡ None
raw_stops bytes i e le = rw (drop_all i bytes le, raw_at-nil e) refl

-- what is in the grammar is read
pub raw_again : (escaped : Bool) (v r : List ℕ) → IsRawValue escaped v → raw_at escaped (v ++ (close_value ∷ r)) ≡ Some (v, r)
raw_again escaped [] r h = rw h (raw_at-end close_value r refl)
raw_again true (b ∷ bs) r h = rw (raw_at-escaped b (bs ++ (close_value ∷ r)), raw_again false bs r h) refl
raw_again false (b ∷ bs) r h = rw (raw_at-plain b (bs ++ (close_value ∷ r)) h.0, raw_again (eqb b backslash) bs r h.1) refl

-- what is read is in the grammar
pub record IsRawAt (escaped : Bool) (bytes v r : List ℕ) : Type 0 where
  pub raw : IsRawValue escaped v
  pub parts : bytes ≡ v ++ (close_value ∷ r)

-- a byte more before a value
IsRawAt-first : (escaped e : Bool) (b : ℕ) (bs v r : List ℕ) → (x : List ℕ × List ℕ) → IsRawAt e bs x.0 x.1 → with_first b x ≡ Some (v, r) → (IsRawValue e x.0 → IsRawValue escaped (b ∷ x.0))
    → IsRawAt escaped (b ∷ bs) v r
IsRawAt-first escaped e b bs v r x h eq up =
    let same = some_pair_parts (b ∷ x.0) v x.1 r eq in
    rw (← same.0, ← same.1) (record { raw = up h.raw; parts = ap (λ (y : List ℕ). b ∷ y) h.parts })

-- the bytes that were read are a value, with its bracket behind
pub raw_takes : (escaped : Bool) (bytes v r : List ℕ) → raw_at escaped bytes ≡ Some (v, r) → IsRawAt escaped bytes v r
raw_takes escaped [] v r e = absurd (let n = raw_at-nil escaped in cc)
raw_takes true (b ∷ bs) v r e =
    let s = bind_some (raw_at false bs) (with_first b) (v, r) (sym (raw_at-escaped b bs) ∙ e) in
    IsRawAt-first true false b bs v r s.0 (raw_takes false bs s.0.0 s.0.1 s.1) s.2 (λ h. h)
raw_takes false (b ∷ bs) v r e =
    elim (eqb b close_value) as (λ t. eqb b close_value ≡ t → IsRawAt false (b ∷ bs) v r) [
      | true ↦ λ t.
          let same = some_pair_parts [] v bs r (sym (raw_at-end b bs t) ∙ e) in
          rw (← same.0, ← same.1, eqb-true b close_value t) (record { raw = refl; parts = refl })
      | false ↦ λ t. let s = bind_some (raw_at (eqb b backslash) bs) (with_first b) (v, r) (sym (raw_at-plain b bs t) ∙ e) in
          IsRawAt-first false (eqb b backslash) b bs v r s.0 (raw_takes (eqb b backslash) bs s.0.0 s.0.1 s.1) s.2 (λ h. (t, h))
    ] refl

-- ---- words

-- a first byte belongs to the word or ends it
pub word_of-word : (b : ℕ) (bs : List ℕ) → is_letter_or_digit b ≡ true → word_of (b ∷ bs) ≡ b ∷ word_of bs
unfolding word_of
word_of-word b bs e = rw e refl

-- before another byte, or none, the word is empty
pub word_of-other : (bytes : List ℕ) → begins is_letter_or_digit bytes ≡ false → word_of bytes ≡ []
unfolding word_of
word_of-other [] e = refl
word_of-other (b ∷ bs) e = rw e refl

pub after_word-word : (b : ℕ) (bs : List ℕ) → is_letter_or_digit b ≡ true → after_word (b ∷ bs) ≡ after_word bs
unfolding after_word
after_word-word b bs e = rw e refl

-- and all is left behind it
pub after_word-other : (bytes : List ℕ) → begins is_letter_or_digit bytes ≡ false → after_word bytes ≡ bytes
unfolding after_word
after_word-other [] e = refl
after_word-other (b ∷ bs) e = rw e refl

-- the word read is all of a text of letters and digits, where none follows it
pub word_again : (w r : List ℕ) → AreLettersOrDigits w → begins is_letter_or_digit r ≡ false → (word_of (w ++ r) ≡ w) × (after_word (w ++ r) ≡ r)
word_again [] r h e = (word_of-other r e, after_word-other r e)
word_again (b ∷ bs) r h e =
    let s = word_again bs r h.1 e in
    (word_of-word b (bs ++ r) h.0 ∙ ap (λ (x : List ℕ). b ∷ x) s.0, after_word-word b (bs ++ r) h.0 ∙ s.1)

-- what is read is letters and digits, none follows, and together they are the bytes
pub word_takes : (bytes : List ℕ) → AreLettersOrDigits (word_of bytes) × (bytes ≡ word_of bytes ++ after_word bytes) × (begins is_letter_or_digit (after_word bytes) ≡ false)
word_takes [] = rw (word_of-other [] refl, after_word-other [] refl) (tt, refl, refl)
word_takes (b ∷ bs) =
    elim (is_letter_or_digit b) as (λ t. is_letter_or_digit b ≡ t
    → AreLettersOrDigits (word_of (b ∷ bs)) × (b ∷ bs ≡ word_of (b ∷ bs) ++ after_word (b ∷ bs)) × (begins is_letter_or_digit (after_word (b ∷ bs)) ≡ false)) [
      | true ↦ λ e. let r = word_takes bs in rw (word_of-word b bs e, after_word-word b bs e) ((e, r.0), ap (λ (x : List ℕ). b ∷ x) r.1, r.2)
      | false ↦ λ e. rw (word_of-other (b ∷ bs) e, after_word-other (b ∷ bs) e) (tt, refl, e)
    ] refl

-- how far the loop has come
abbrev pub word_so_far : List ℕ → ℕ → Type 0
word_so_far bytes i = (take i bytes ++ word_of (drop i bytes) ≡ word_of bytes) × (after_word (drop i bytes) ≡ after_word bytes)

-- one byte more of the word leaves the total as it was
pub word_more : (bytes : List ℕ) (i : ℕ) → i < length bytes → is_letter_or_digit (get_or bytes i 0) ≡ true → word_so_far bytes i → word_so_far bytes (i + 1)
word_more bytes i lt e h =
    let d = drop_more bytes i 0 lt in (
      rw (take_more bytes i 0 lt, append_assoc) (ap (λ (x : List ℕ). take i bytes ++ x) (sym (word_of-word _ _ e) ∙ ap word_of (sym d)) ∙ h.0),
      sym (after_word-word _ _ e) ∙ ap after_word (sym d) ∙ h.1,
    )

-- where no letter or digit follows, what was read is the word
pub word_ends : (bytes : List ℕ) (i : ℕ) → begins is_letter_or_digit (drop i bytes) ≡ false → word_so_far bytes i → (take i bytes ≡ word_of bytes) × (drop i bytes ≡ after_word bytes)
word_ends bytes i e h =
    (sym (append-nil (take i bytes)) ∙ ap (λ (x : List ℕ). take i bytes ++ x) (sym (word_of-other _ e)) ∙ h.0, sym (after_word-other _ e) ∙ h.1)

-- no letter or digit follows before another byte, nor at the end
pub no_word_at : (bytes : List ℕ) (i : ℕ) → i < length bytes → is_letter_or_digit (get_or bytes i 0) ≡ false → begins is_letter_or_digit (drop i bytes) ≡ false
no_word_at bytes i lt e = rw (drop_more bytes i 0 lt) e

pub no_word_past : (bytes : List ℕ) (i : ℕ) → length bytes ≤ i → begins is_letter_or_digit (drop i bytes) ≡ false
no_word_past bytes i le = rw (drop_all i bytes le) refl

-- at the end of the bytes all of them are the word
pub word_all : (bytes : List ℕ) (i : ℕ) → length bytes ≤ i → word_so_far bytes i → (take (length bytes) bytes ≡ word_of bytes) × (drop (length bytes) bytes ≡ after_word bytes)
word_all bytes i le h =
    let s = word_ends bytes i (no_word_past bytes i le) h in
    (take_all (length bytes) bytes (omega arith) ∙ sym (take_all i bytes le) ∙ s.0, drop_all (length bytes) bytes (omega arith) ∙ sym (drop_all i bytes le) ∙ s.1)

-- where no letter is left out, the name is the word
pub kept_whole : (word : List ℕ) → list_any (λ b. not (is_kept_in_name b)) word ≡ false → filter is_kept_in_name word ≡ word
kept_whole [] e = refl
kept_whole (b ∷ bs) e = elim (is_kept_in_name b) as (λ t. is_kept_in_name b ≡ t → filter is_kept_in_name (b ∷ bs) ≡ b ∷ bs) [
  | true ↦ λ k. rw k (ap (λ l. b ∷ l) (kept_whole bs (rw k at e)))
  | false ↦ λ k. absurd (let h = rw k at e in cc)
] refl
