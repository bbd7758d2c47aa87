-- The steps of the loops over values and properties, with what was read before.
use Rattle.std.proofs.Common.{◌≡◌, ℕ, ◌<◌, false, true, List, [], ◌∷◌, ◌++◌, length, Option, Some, None, Result, Err, ◌⊎◌, inl, inr, refl, sym, ap, ◌∙◌}
use Rattle.std.proofs.lemmas.List.{append-nil}
use Rattle.tt_sgf.specs.Bytes.{open_value}
use Rattle.tt_sgf.specs.declared.faults.SgfFault.{SgfFault}
use Rattle.tt_sgf.specs.declared.faults.SgfFault.TheVariants as faults
use Rattle.tt_sgf.specs.declared.nodes.Property.{Property}
use Rattle.tt_sgf.specs.inside.Reading.{◌>>=◌, Fails, raw_at, opens_value, value_at, values_at, property_at, property_follows, properties_at}
use Rattle.tt_sgf.specs.Values.{after_blanks}
use Rattle.tt_sgf.proofs.TokenLemmas.{with_front}
use Rattle.tt_sgf.proofs.RepeatLemmas.{repeat_stop, repeat_bad, all_more}
use Rattle.tt_sgf.proofs.ListLemmas.{values_shrink, next_property, properties_shrink}

-- a step that failed
fails_on : {A B : Type 0} (e : SgfFault) (x : Option A) (y : Option B) → (x ≡ None → y ≡ None) → Fails e x → Fails e y
fails_on faults.Syntax x y f h = f h
fails_on faults.TooLong x y f h = h
fails_on faults.NoMemory x y f h = tt

module _ (bytes opened : List ℕ) (is : after_blanks bytes ≡ open_value ∷ opened) where
  -- behind a `[` stands a value: what is read from there on
  opens : opens_value bytes ≡ true
  opens = rw is refl

  value_is : value_at bytes ≡ raw_at false opened
  value_is = rw is refl

  -- one value more: it joins those read before, and the total stays
  pub values_more : (front : List (List ℕ)) (raw after : List ℕ) (total : Option (List (List ℕ) × List ℕ)) → raw_at false opened ≡ Some (raw, after)
      → (values_at bytes >>= with_front front) ≡ total → (values_at after >>= with_front (front ++ raw ∷ [])) ≡ total
  unfolding values_at
  values_more front raw after total f h = all_more opens_value value_at values_shrink front bytes (raw, after) opens (value_is ∙ f) ∙ h

  -- less is left behind a value
  pub values_shorter : (raw after : List ℕ) → raw_at false opened ≡ Some (raw, after) → length after < length bytes
  values_shorter raw after f = values_shrink bytes (raw, after) opens (value_is ∙ f)

  -- where a value can't be read the total can't
  pub values_fail : (e : SgfFault) (front : List (List ℕ)) (total : Option (List (List ℕ) × List ℕ)) → Fails e (raw_at false opened) → (values_at bytes >>= with_front front) ≡ total → Fails e total
  unfolding values_at
  values_fail e front total f h =
      fails_on e _ total (λ n. sym h ∙ ap (λ (o : Option (List (List ℕ) × List ℕ)). o >>= with_front front) (repeat_bad opens_value value_at (length bytes) bytes opens (value_is ∙ n))) f

-- where no value follows, those read before are all
pub values_end : (bytes : List ℕ) (front : List (List ℕ)) (total : Option (List (List ℕ) × List ℕ)) → opens_value bytes ≡ false → (values_at bytes >>= with_front front) ≡ total
    → total ≡ Some (front, bytes)
unfolding values_at
values_end bytes front total e h =
    sym h ∙ rw (repeat_stop opens_value value_at (length bytes) bytes e) (ap (λ (xs : List (List ℕ)). Some (xs, bytes)) (append-nil front))

module _ (bytes : List ℕ) (is : property_follows bytes ≡ true) where
  -- one property more: it joins those read before, and the total stays
  pub properties_more : (front : List Property) (p : Property) (after : List ℕ) (total : Option (List Property × List ℕ)) → property_at (after_blanks bytes) ≡ Some (p, after)
      → (properties_at bytes >>= with_front front) ≡ total → (properties_at after >>= with_front (front ++ p ∷ [])) ≡ total
  unfolding properties_at
  properties_more front p after total f h = all_more property_follows next_property properties_shrink front bytes (p, after) is f ∙ h

  -- less is left behind a property
  pub properties_shorter : (p : Property) (after : List ℕ) → property_at (after_blanks bytes) ≡ Some (p, after) → length after < length bytes
  properties_shorter p after f = properties_shrink bytes (p, after) is f

  -- where a property can't be read the total can't
  pub properties_fail : (e : SgfFault) (front : List Property) (total : Option (List Property × List ℕ)) → Fails e (property_at (after_blanks bytes))
      → (properties_at bytes >>= with_front front) ≡ total → Fails e total
  unfolding properties_at
  properties_fail e front total f h =
      fails_on e _ total (λ n. sym h ∙ ap (λ (o : Option (List Property × List ℕ)). o >>= with_front front) (repeat_bad property_follows next_property (length bytes) bytes is n)) f

-- where no property follows, those read before are all
pub properties_end : (bytes : List ℕ) (front : List Property) (total : Option (List Property × List ℕ)) → property_follows bytes ≡ false
    → (properties_at bytes >>= with_front front) ≡ total → total ≡ Some (front, bytes)
unfolding properties_at
properties_end bytes front total e h =
    sym h ∙ rw (repeat_stop property_follows next_property (length bytes) bytes e) (ap (λ (xs : List Property). Some (xs, bytes)) (append-nil front))

-- a fault of syntax says that nothing is read
pub none_at : {A : Type 0} (e : SgfFault) (o : Option A) → Fails e o → e ≡ faults.Syntax → o ≡ None
none_at faults.Syntax o h f = h
none_at faults.TooLong o h f = absurd h
none_at faults.NoMemory o h f = absurd cc

pub same_err : {A : Type 0} (r : Result A SgfFault) (x y : SgfFault) → r ≡ Err x → r ≡ Err y → x ≡ y
same_err r x y h k = cc

-- a fault other than too many bytes is one of syntax or of memory
pub not_too_long : {A : Type 0} (r : Result A SgfFault) (e : SgfFault) → r ≡ Err e → (e ≡ faults.TooLong → ⊥) → (r ≡ Err faults.Syntax) ⊎ (r ≡ Err faults.NoMemory)
not_too_long r faults.Syntax h n = inl h
not_too_long r faults.TooLong h n = absurd (n refl)
not_too_long r faults.NoMemory h n = inr h
