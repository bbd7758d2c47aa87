-- Values, properties and nodes: the readers against the grammar.
use Rattle.std.proofs.Common.{◌≡◌, ◌≢◌, ℕ, zero, suc, ◌<◌, Bool, true, false, cond, eqb, List, [], ◌∷◌, ◌++◌, length, Option, Some, None, refl, sym, ap, ◌∙◌, append_assoc, arith}
use Rattle.std.specs.List.{filter, list_any}
use Rattle.std.proofs.lemmas.Bool.{eqb-true}
use Rattle.std.proofs.lemmas.Option.{some_pair_parts}
use Rattle.std.proofs.lemmas.List.{length-append}
use Rattle.tt_sgf.specs.Bytes.{close_value, open_value}
use Rattle.tt_sgf.specs.declared.nodes.Property.{Property}
use Rattle.tt_sgf.specs.Grammar.{is_blank, is_letter_or_digit, is_upper, is_kept_in_name, is_digit, is_lower, AreBlanks, IsRawValue, AreLettersOrDigits, IsIdent, AreValues, AreProperties}
use Rattle.tt_sgf.specs.inside.Reading.{◌>>=◌, with_first, begins, behind, has_none, word_of, after_word, repeat, opens_value, value_at, values_at, property_at, property_follows}
use Rattle.tt_sgf.specs.Values.{after_blanks}
use Rattle.tt_sgf.proofs.TokenLemmas.{bind_some, after_blanks-other, after_blanks-again, blanks_take, raw_again, raw_takes, word_again, word_takes}
use Rattle.tt_sgf.proofs.RepeatLemmas.{repeat_stop, repeat_bad, repeat_item, repeat_none, Shrinks, all_at, all_item}

-- ---- classes of bytes

pub blank_is_no_word : (b : ℕ) → is_blank b ≡ true → is_letter_or_digit b ≡ false
unfolding is_blank is_letter_or_digit is_upper is_digit is_lower
blank_is_no_word b e = grind arith

-- ---- values

-- a byte that a test takes, at the front
pub begins_with : (c : ℕ) (bytes : List ℕ) → begins (λ b. eqb b c) bytes ≡ true → bytes ≡ c ∷ behind bytes
begins_with c [] e = absurd cc
begins_with c (b ∷ bs) e = ap (λ (x : ℕ). x ∷ bs) (eqb-true b c e)

-- what a value takes
pub value_takes : (bytes : List ℕ) (x : List ℕ × List ℕ) → opens_value bytes ≡ true → value_at bytes ≡ Some x
    → (w : List ℕ) × AreBlanks w × IsRawValue false x.0 × (bytes ≡ w ++ (open_value ∷ (x.0 ++ (close_value ∷ x.1))))
value_takes bytes x e f =
    let w = blanks_take bytes in
    let r = raw_takes false (behind (after_blanks bytes)) x.0 x.1 f in
    let s = begins_with open_value (after_blanks bytes) e in
    (w.0, w.1, r.raw, w.2 ∙ ap (λ (t : List ℕ). w.0 ++ t) (s ∙ ap (λ (t : List ℕ). open_value ∷ t) r.parts))

-- each value takes something
pub values_shrink : Shrinks opens_value value_at
values_shrink bytes x e f =
    let t = value_takes bytes x e f in
    omega (arith, ap length t.3, length-append t.0 (open_value ∷ (x.0 ++ (close_value ∷ x.1))), length-append x.0 (close_value ∷ x.1))

-- the text of what was read
pub record IsValuesAt (bytes : List ℕ) (vs : List (List ℕ)) (r : List ℕ) : Type 0 where
  pub text : List ℕ
  pub are : AreValues text vs
  pub parts : bytes ≡ text ++ r
  pub ends : opens_value r ≡ false

IsValuesAt-moved : (bytes : List ℕ) (vs us : List (List ℕ)) (r s : List ℕ) → us ≡ vs → s ≡ r → IsValuesAt bytes us s → IsValuesAt bytes vs r
IsValuesAt-moved bytes vs us r s e f h = rw (← e, ← f) h

pub four : (w v t r : List ℕ) → w ++ (open_value ∷ (v ++ (close_value ∷ (t ++ r)))) ≡ (w ++ (open_value ∷ (v ++ (close_value ∷ t)))) ++ r
four w v t r = simp append_assoc

-- values that were read are the values of a text in the grammar, and no value follows
pub values_take : (n : ℕ) (bytes : List ℕ) (vs : List (List ℕ)) (r : List ℕ) → repeat opens_value value_at n bytes ≡ Some (vs, r) → IsValuesAt bytes vs r
values_take zero bytes vs r e = absurd (let h = repeat_none opens_value value_at bytes in cc)
values_take (suc n) bytes vs r e =
    elim (opens_value bytes) as (λ t. opens_value bytes ≡ t → IsValuesAt bytes vs r) [
      | false ↦ λ t.
          let same = some_pair_parts [] vs bytes r (sym (repeat_stop opens_value value_at n bytes t) ∙ e) in
          rw (← same.0, ← same.1) (record { text = []; are = refl; parts = refl; ends = t })
      | true ↦ λ t. elim (value_at bytes) as (λ o. value_at bytes ≡ o → IsValuesAt bytes vs r) [
        | None ↦ λ f. absurd (let h = repeat_bad opens_value value_at n bytes t f in cc)
        | Some x ↦ λ f.
            let v = value_takes bytes x t f in
            let y = bind_some (repeat opens_value value_at n x.1) (with_first x.0) (vs, r) (sym (repeat_item opens_value value_at n bytes x t f) ∙ e) in
            let i = values_take n x.1 y.0.0 y.0.1 y.1 in
            let same = some_pair_parts (x.0 ∷ y.0.0) vs y.0.1 r y.2 in
            IsValuesAt-moved bytes vs (x.0 ∷ y.0.0) r y.0.1 same.0 same.1 (record {
              text = v.0 ++ (open_value ∷ (x.0 ++ (close_value ∷ i.text)));
              are = (v.0, i.text, v.1, v.2, i.are, refl);
              parts = v.3 ∙ ap (λ (s : List ℕ). v.0 ++ (open_value ∷ (x.0 ++ (close_value ∷ s)))) i.parts ∙ four v.0 x.0 i.text y.0.1;
              ends = i.ends;
            })
      ] refl
    ] refl

-- a byte that is no white space, behind white space
pub after_blanks_at : (w : List ℕ) (b : ℕ) (bs : List ℕ) → AreBlanks w → is_blank b ≡ false → after_blanks (w ++ (b ∷ bs)) ≡ b ∷ bs
after_blanks_at w b bs h e = after_blanks-again w (b ∷ bs) h ∙ after_blanks-other b bs e

no_blank_91 : is_blank open_value ≡ false
unfolding is_blank
no_blank_91 = refl

-- the values of a text in the grammar are read where no value follows
pub values_again : (vs : List (List ℕ)) (text r : List ℕ) → AreValues text vs → opens_value r ≡ false → all_at opens_value value_at (text ++ r) ≡ Some (vs, r)
values_again [] text r h e = rw h (repeat_stop opens_value value_at (length r) r e)
values_again (v ∷ vs) text r h e =
    let more = h.1 in
    let bytes = h.0 ++ (open_value ∷ (v ++ (close_value ∷ (more ++ r)))) in
    let is : text ++ r ≡ bytes = ap (λ (t : List ℕ). t ++ r) h.5 ∙ sym (four h.0 v more r) in
    let behind-is : after_blanks bytes ≡ open_value ∷ (v ++ (close_value ∷ (more ++ r))) = after_blanks_at h.0 open_value (v ++ (close_value ∷ (more ++ r))) h.2 no_blank_91 in
    let opens : opens_value bytes ≡ true = rw behind-is refl in
    let value : value_at bytes ≡ Some (v, more ++ r) = rw behind-is (raw_again false v (more ++ r) h.3) in
    rw is (all_item opens_value value_at values_shrink bytes (v, more ++ r) opens value ∙ rw (values_again vs more r h.4 e) refl)

-- ---- properties

-- what follows a property, or all of them
pub record Ends (r : List ℕ) : Type 0 where
  pub no_value : opens_value r ≡ false
  pub no_property : property_follows r ≡ false

-- a property at the front, up to the rest, before which no value stands
pub record IsPropertyAt (bytes : List ℕ) (p : Property) (r : List ℕ) : Type 0 where
  pub ident : List ℕ
  pub values : List ℕ
  pub is_ident : IsIdent ident p.ident
  pub some : p.values ≢ []
  pub are : AreValues values p.values
  pub parts : bytes ≡ ident ++ (values ++ r)
  pub ends : opens_value r ≡ false

IsPropertyAt-moved : (bytes : List ℕ) (p q : Property) (r s : List ℕ) → q ≡ p → s ≡ r → IsPropertyAt bytes q s → IsPropertyAt bytes p r
IsPropertyAt-moved bytes p q r s e f h = rw (← e, ← f) h

-- something that is given only under a test: the test is true, and it is that
pub cond_some_at : {A : Type 0} (b : Bool) (o : Option A) (y : A) → cond b o None ≡ Some y → (b ≡ true) × (o ≡ Some y)
cond_some_at true o y e = (refl, e)
cond_some_at false o y e = absurd cc

-- something that is given only against a test: the test is false, and it is that
pub guard_some : {A : Type 0} (b : Bool) (o : Option A) (y : A) → cond b None o ≡ Some y → (b ≡ false) × (o ≡ Some y)
guard_some false o y e = (refl, e)
guard_some true o y e = absurd cc

-- a list isn't empty where the test says so
not_empty : {X : Type 0} (xs : List X) → has_none xs ≡ false → xs ≢ []
not_empty [] e = absurd cc
not_empty (x ∷ xs) e = λ f. absurd cc

-- the test says so of each list that isn't empty
empty_not : {X : Type 0} (xs : List X) → xs ≢ [] → has_none xs ≡ false
empty_not [] e = absurd (e refl)
empty_not (x ∷ xs) e = refl

-- a property that was read is one in the grammar, and no value follows
pub property_takes : (bytes : List ℕ) (p : Property) (r : List ℕ) → property_at bytes ≡ Some (p, r) → IsPropertyAt bytes p r
unfolding property_at values_at
property_takes bytes p r e =
    let word = word_of bytes in
    let made : List (List ℕ) × List ℕ → Option (Property × List ℕ) = λ x. cond (has_none x.0) None (Some (record { ident = filter is_kept_in_name word; values = x.0 }, x.1)) in
    let c = cond_some_at (list_any is_upper word) (values_at (after_word bytes) >>= made) (p, r) e in
    let x = bind_some (values_at (after_word bytes)) made (p, r) c.1 in
    let one : Property = record { ident = filter is_kept_in_name word; values = x.0.0 } in
    let g = guard_some (has_none x.0.0) (Some (one, x.0.1)) (p, r) x.2 in
    let same = some_pair_parts one p x.0.1 r g.1 in
    let v = values_take _ (after_word bytes) x.0.0 x.0.1 x.1 in
    let w = word_takes bytes in
    IsPropertyAt-moved bytes p one r x.0.1 same.0 same.1 (record {
      ident = word;
      values = v.text;
      is_ident = (w.0, c.0, refl);
      some = not_empty x.0.0 g.0;
      are = v.are;
      parts = w.1 ∙ ap (λ (t : List ℕ). word ++ t) v.parts;
      ends = v.ends;
    })

no_word_91 : is_letter_or_digit open_value ≡ false
unfolding is_letter_or_digit is_upper is_digit is_lower
no_word_91 = refl

-- no letter or digit stands before values
values_no_word : (vs : List (List ℕ)) (text r : List ℕ) → vs ≢ [] → AreValues text vs → begins is_letter_or_digit (text ++ r) ≡ false
values_no_word [] text r ne h = absurd (ne refl)
values_no_word (v ∷ vs) text r ne h =
    rw (h.5) (elim (h.0) as (λ w. AreBlanks w → begins is_letter_or_digit ((w ++ (open_value ∷ (v ++ (close_value ∷ h.1)))) ++ r) ≡ false) [
      | [] ↦ λ b. no_word_91
      | b ∷ bs ↦ λ k. blank_is_no_word b k.0
    ] h.2)

-- the property of a text in the grammar is read where no value follows
pub property_again : (p : Property) (ident values r : List ℕ) → IsIdent ident p.ident → p.values ≢ [] → AreValues values p.values → opens_value r ≡ false
    → property_at (ident ++ (values ++ r)) ≡ Some (p, r)
unfolding property_at values_at
property_again p ident values r h ne are e =
    let w = word_again ident (values ++ r) h.0 (values_no_word p.values values r ne are) in
    let v = values_again p.values values r are e in
    rw (w.0, w.1, h.1, v, empty_not p.values ne) (ap (λ (i : List ℕ). Some (record { ident = i; values = p.values }, r)) (sym h.2))

-- ---- lists of properties

-- the property behind white space
abbrev pub next_property : List ℕ → Option (Property × List ℕ)
next_property bytes = property_at (after_blanks bytes)

-- a text with an upper-case letter has a byte
ident_len : (w : List ℕ) → list_any is_upper w ≡ true → 0 < length w
ident_len [] e = absurd cc
ident_len (b ∷ bs) e = omega arith

-- each property takes something
pub properties_shrink : Shrinks property_follows next_property
properties_shrink bytes x e f =
    let w = blanks_take bytes in
    let p = property_takes (after_blanks bytes) x.0 x.1 f in
    omega (arith, ap length w.2, length-append w.0 (after_blanks bytes), ap length p.parts, length-append p.ident (p.values ++ x.1), length-append p.values x.1, ident_len p.ident p.is_ident.1)

-- the text of the properties that were read
pub record IsPropertiesAt (bytes : List ℕ) (ps : List Property) (r : List ℕ) : Type 0 where
  pub text : List ℕ
  pub are : AreProperties text ps
  pub parts : bytes ≡ text ++ r
  pub ends : property_follows r ≡ false

IsPropertiesAt-moved : (bytes : List ℕ) (p q : List Property) (r s : List ℕ) → q ≡ p → s ≡ r → IsPropertiesAt bytes q s → IsPropertiesAt bytes p r
IsPropertiesAt-moved bytes p q r s e f h = rw (← e, ← f) h

five : (w i v t r : List ℕ) → w ++ (i ++ (v ++ (t ++ r))) ≡ (w ++ (i ++ (v ++ t))) ++ r
five w i v t r = simp append_assoc

-- properties that were read are those of a text in the grammar, and no property follows
pub properties_take : (n : ℕ) (bytes : List ℕ) (ps : List Property) (r : List ℕ) → repeat property_follows next_property n bytes ≡ Some (ps, r) → IsPropertiesAt bytes ps r
properties_take zero bytes ps r e = absurd (let h = repeat_none property_follows next_property bytes in cc)
properties_take (suc n) bytes ps r e =
    elim (property_follows bytes) as (λ t. property_follows bytes ≡ t → IsPropertiesAt bytes ps r) [
      | false ↦ λ t.
          let same = some_pair_parts [] ps bytes r (sym (repeat_stop property_follows next_property n bytes t) ∙ e) in
          IsPropertiesAt-moved bytes ps [] r bytes same.0 same.1 (record { text = []; are = refl; parts = refl; ends = t })
      | true ↦ λ t. elim (next_property bytes) as (λ o. next_property bytes ≡ o → IsPropertiesAt bytes ps r) [
        | None ↦ λ f. absurd (let h = repeat_bad property_follows next_property n bytes t f in cc)
        | Some x ↦ λ f.
            let w = blanks_take bytes in
            let p = property_takes (after_blanks bytes) x.0 x.1 f in
            let y = bind_some (repeat property_follows next_property n x.1) (with_first x.0) (ps, r) (sym (repeat_item property_follows next_property n bytes x t f) ∙ e) in
            let i = properties_take n x.1 y.0.0 y.0.1 y.1 in
            let same = some_pair_parts (x.0 ∷ y.0.0) ps y.0.1 r y.2 in
            IsPropertiesAt-moved bytes ps (x.0 ∷ y.0.0) r y.0.1 same.0 same.1 (record {
              text = w.0 ++ (p.ident ++ (p.values ++ i.text));
              are = (w.0, p.ident, p.values, i.text, w.1, p.is_ident, p.some, p.are, i.are, refl);
              parts = w.2 ∙ ap (λ (s : List ℕ). w.0 ++ s) p.parts ∙ ap (λ (s : List ℕ). w.0 ++ (p.ident ++ (p.values ++ s))) i.parts ∙ five w.0 p.ident p.values i.text y.0.1;
              ends = i.ends;
            })
      ] refl
    ] refl

word_is_no_blank : (b : ℕ) → is_letter_or_digit b ≡ true → is_blank b ≡ false
unfolding is_blank is_letter_or_digit is_upper is_digit is_lower
word_is_no_blank b e = grind arith

word_is_not_91 : (b : ℕ) → is_letter_or_digit b ≡ true → eqb b open_value ≡ false
unfolding is_letter_or_digit is_upper is_digit is_lower
word_is_not_91 b e = grind arith

-- before an identifier behind white space a property follows, and no value
pub property_ahead : (w i r : List ℕ) → AreBlanks w → AreLettersOrDigits i → list_any is_upper i ≡ true → (after_blanks (w ++ (i ++ r)) ≡ i ++ r) × (property_follows (w ++ (i ++ r)) ≡ true)
    × (opens_value (w ++ (i ++ r)) ≡ false)
property_ahead w [] r h k e = absurd cc
property_ahead w (b ∷ bs) r h k e =
    let a = after_blanks_at w b (bs ++ r) h (word_is_no_blank b k.0) in
    (a, rw a (k.0), rw a (word_is_not_91 b k.0))

-- no value stands before properties and what ends them
properties_no_value : (ps : List Property) (text r : List ℕ) → AreProperties text ps → Ends r → opens_value (text ++ r) ≡ false
properties_no_value [] text r h e = rw h (e.no_value)
properties_no_value (p ∷ ps) text r h e =
    ap (λ (t : List ℕ). opens_value (t ++ r)) h.9 ∙ ap opens_value (sym (five h.0 h.1 h.2 h.3 r)) ∙ (property_ahead h.0 h.1 (h.2 ++ (h.3 ++ r)) h.4 h.5.0 h.5.1).2

-- the properties of a text in the grammar are read where no value and no property follows
pub properties_again : (ps : List Property) (text r : List ℕ) → AreProperties text ps → Ends r → all_at property_follows next_property (text ++ r) ≡ Some (ps, r)
properties_again [] text r h e = rw h (repeat_stop property_follows next_property (length r) r e.no_property)
properties_again (p ∷ ps) text r h e =
    let bytes = h.0 ++ (h.1 ++ (h.2 ++ (h.3 ++ r))) in
    let is : text ++ r ≡ bytes = ap (λ (t : List ℕ). t ++ r) h.9 ∙ sym (five h.0 h.1 h.2 h.3 r) in
    let a = property_ahead h.0 h.1 (h.2 ++ (h.3 ++ r)) h.4 h.5.0 h.5.1 in
    let one : next_property bytes ≡ Some (p, h.3 ++ r) = ap property_at a.0 ∙ property_again p h.1 h.2 (h.3 ++ r) h.5 h.6 h.7 (properties_no_value ps h.3 r h.8 e) in
    rw is (all_item property_follows next_property properties_shrink bytes (p, h.3 ++ r) a.1 one ∙ rw (properties_again ps h.3 r h.8 e) refl)
