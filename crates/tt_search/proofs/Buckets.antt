-- The buckets of an index, and how they lead to the newest proof of a key and side.
use Rattle.std.proofs.Common.{◌≡◌, ◌≢◌, ℕ, zero, suc, ◌+◌, ◌-◌, ◌%◌, ◌<◌, ◌≤◌, Bool, true, false, cond, List, [], ◌∷◌, ◌++◌, length, length-append, get_or, nat_eq, Option, Some, None, slice_get}
use Rattle.std.proofs.Common.{reverse, IsTrue, ◌↔◌, inl, inr, refl, sym, ap, ◌∙◌, subst, arith}
use Rattle.std.specs.Option.{option_map}
use Rattle.std.proofs.lemmas.Bool.{cases_lt, false≢true}
use Rattle.std.proofs.lemmas.List.{reverse-append, get_or_append_left, get_or_push, get_or_read, length-map}
use Rattle.std.proofs.lemmas.Option.{slice_get_within, slice_get-map, get_or_from_slice_get}
use Rattle.tt_game.specs.declared.frame.Side.{Side}
use Rattle.tt_game.specs.declared.history.bloom_filter.BloomFilter.{BloomFilter}
use Rattle.tt_game.specs.Keys.{key_of}
use Rattle.tt_game.specs.Line.{LineWithUndo}
use Rattle.tt_game.specs.BloomFilter.{MayHold}
use Rattle.tt_proof.specs.ProofClaim.{ProofClaim}
use Rattle.tt_search.specs.Stores.{HasKeyAndSide, IsNewest}
use Rattle.tt_search.specs.KeyIndex.{index_hash, key_hashes}
use Rattle.tt_search.specs.declared.store.key_index.TheConstants.{KEY_FILTER_BITS}
use Rattle.tt_search.specs.inside.Buckets.{last_slot, bucket_of_hash, in_bucket, MayHoldHashes, AreBuckets, NoneFrom, NoHashFrom}

-- ---- the last slot that passes a test

low_case : (b : Bool) (n m : ℕ) → m ≤ n → cond b (suc n) m ≤ suc n
low_case true n m h = omega arith
low_case false n m h = omega (arith, h)

pub last_low : (t : ℕ → Bool) (n : ℕ) → last_slot t n ≤ n
last_low t zero = omega arith
last_low t (suc n) = low_case (t n) n (last_slot t n) (last_low t n)

passes_case : (b : Bool) (t : ℕ → Bool) (n m i : ℕ) → t n ≡ b → (m ≡ suc i → t i ≡ true) → cond b (suc n) m ≡ suc i → t i ≡ true
passes_case true t n m i e h is = let same : n ≡ i = omega (arith, is) in subst (λ j. t j ≡ true) same e
passes_case false t n m i e h is = h is

last_passes : (t : ℕ → Bool) (n i : ℕ) → last_slot t n ≡ suc i → t i ≡ true
last_passes t zero i is = absurd (omega (arith, is))
last_passes t (suc n) i is = passes_case (t n) t n (last_slot t n) i refl (last_passes t n i) is

beyond_case : (b : Bool) (t : ℕ → Bool) (n m i : ℕ) → t n ≡ b → (m ≤ i → i < n → t i ≡ false) → cond b (suc n) m ≤ i → i < suc n → t i ≡ false
beyond_case true t n m i e h low high = absurd (omega (arith, low, high))
beyond_case false t n m i e h low high = elim (cases_lt i n) [ inl lt ↦ h low lt | inr ge ↦ (let same : n ≡ i = omega (arith, ge, high) in subst (λ j. t j ≡ false) same e) ]

last_beyond : (t : ℕ → Bool) (n i : ℕ) → last_slot t n ≤ i → i < n → t i ≡ false
last_beyond t zero i low high = absurd (omega (arith, high))
last_beyond t (suc n) i low high = beyond_case (t n) t n (last_slot t n) i refl (last_beyond t n i) low high

last_same : (t u : ℕ → Bool) (n : ℕ) → ((i : ℕ) → i < n → t i ≡ u i) → last_slot t n ≡ last_slot u n
last_same t u zero h = refl
last_same t u (suc n) h =
    ap (λ b. cond b (suc n) (last_slot t n)) (h n (omega arith)) ∙ ap (λ m. cond (u n) (suc n) m) (last_same t u n (λ i lt. h i (omega (arith, lt))))

-- ---- one more hash

same_bucket : (hashes : List ℕ) (m n c i : ℕ) → i < length hashes → in_bucket hashes n c i ≡ in_bucket (hashes ++ m ∷ []) n c i
same_bucket hashes m n c i h = ap (λ x. nat_eq (bucket_of_hash x n) c) (sym (get_or_append_left hashes (m ∷ []) 0 i h))

linked_on : (heads before hashes : List ℕ) (m : ℕ) → length before ≡ length hashes → AreBuckets heads before hashes (length hashes)
    → AreBuckets heads (before ++ 0 ∷ []) (hashes ++ m ∷ []) (length hashes)
linked_on heads before hashes m one was = record {
  heads_lead = λ c h. was.heads_lead c h ∙ last_same _ _ (length hashes) (λ i lt. same_bucket hashes m (length heads) c i lt);
  before_leads = λ i h. get_or_append_left before (0 ∷ []) 0 i (omega (arith, one, h)) ∙ was.before_leads i h
      ∙ last_same _ _ i (λ j lt. same_bucket hashes m (length heads) (bucket_of_hash (get_or hashes i 0) (length heads)) j (omega (arith, lt, h)))
      ∙ ap (λ x. last_slot (in_bucket (hashes ++ m ∷ []) (length heads) (bucket_of_hash x (length heads))) i) (sym (get_or_append_left hashes (m ∷ []) 0 i h));
}

pub linked_more : (heads before hashes before' hashes' : List ℕ) (m n : ℕ) → length before ≡ length hashes → before' ≡ before ++ 0 ∷ [] → hashes' ≡ hashes ++ m ∷ [] → n ≡ length hashes
    → AreBuckets heads before hashes (length hashes) → AreBuckets heads before' hashes' n
linked_more heads before hashes before' hashes' m n one b k e was = rw (b, k, e) (linked_on heads before hashes m one was)

-- ---- what is read of an index

-- the hash's bucket is one of them where the one that was worked out is
pub bucket_within : (hash len many bucket : ℕ) → bucket ≡ bucket_of_hash hash len → len ≡ many → bucket < len → bucket_of_hash hash many < many
bucket_within hash len many bucket c e h = subst (λ n. bucket_of_hash hash n < n) e (subst (λ i. i < len) c h)

-- what is read at the bucket that was worked out is the head of the hash's bucket
pub bucket_read : (xs : List ℕ) (hash len bucket v : ℕ) → bucket ≡ bucket_of_hash hash len → len ≡ length xs → bucket < len → v ≡ get_or xs bucket v
    → v ≡ get_or xs (bucket_of_hash hash (length xs)) 0
bucket_read xs hash len bucket v c e h is =
    get_or_read xs bucket v (subst (λ n. bucket < n) e h) is 0 ∙ ap (λ i. get_or xs i 0) (c ∙ ap (λ n. bucket_of_hash hash n) e)

pub head_low : (heads before hashes : List ℕ) (hash next : ℕ) → bucket_of_hash hash (length heads) < length heads → AreBuckets heads before hashes (length hashes)
    → next ≡ get_or heads (bucket_of_hash hash (length heads)) 0 → next ≤ length hashes
head_low heads before hashes hash next inside linked is =
    let low = last_low (in_bucket hashes (length heads) (bucket_of_hash hash (length heads))) (length hashes) in
    let leads = is ∙ linked.heads_lead (bucket_of_hash hash (length heads)) inside in
    omega (arith, low, leads)

pub before_low : (heads before hashes : List ℕ) (slot next : ℕ) → AreBuckets heads before hashes (length hashes) → slot < length hashes → next ≡ get_or before slot 0 → next ≤ slot
before_low heads before hashes slot next linked within is =
    let low = last_low (in_bucket hashes (length heads) (bucket_of_hash (get_or hashes slot 0) (length heads))) slot in
    let leads = is ∙ linked.before_leads slot within in
    omega (arith, low, leads)

-- ---- the walk down a bucket to a hash

in_its_bucket : (hashes : List ℕ) (n hash i : ℕ) → get_or hashes i 0 ≡ hash → in_bucket hashes n (bucket_of_hash hash n) i ≡ true
in_its_bucket hashes n hash i e = rw e (grind arith)

unmarked : (hashes : List ℕ) (n hash k i : ℕ) → last_slot (in_bucket hashes n (bucket_of_hash hash n)) k ≤ i → i < k → get_or hashes i 0 ≢ hash
unmarked hashes n hash k i low high e = false≢true (sym (last_beyond (in_bucket hashes n (bucket_of_hash hash n)) k i low high) ∙ in_its_bucket hashes n hash i e)

-- no slot past the head of the hash's bucket has the hash
pub unmarked_past_head : (heads before hashes : List ℕ) (hash next : ℕ) → bucket_of_hash hash (length heads) < length heads → AreBuckets heads before hashes (length hashes)
    → next ≡ get_or heads (bucket_of_hash hash (length heads)) 0
    → NoHashFrom hashes hash next
unmarked_past_head heads before hashes hash next inside linked is i low high =
    let leads : next ≡ last_slot (in_bucket hashes (length heads) (bucket_of_hash hash (length heads))) (length hashes) = is ∙ linked.heads_lead (bucket_of_hash hash (length heads)) inside in
    unmarked hashes (length heads) hash (length hashes) i (omega (arith, low, leads)) high

-- what holds of a slot, past it and wherever another hash stands holds past the slot before it in the hash's bucket
past_next : (Holds : ℕ → Type 0) (heads before hashes : List ℕ) (hash slot next : ℕ) → AreBuckets heads before hashes (length hashes) → slot < length hashes
    → bucket_of_hash (get_or hashes slot 0) (length heads) ≡ bucket_of_hash hash (length heads) → next ≡ get_or before slot 0 → ((i : ℕ) → get_or hashes i 0 ≢ hash → Holds i) → Holds slot
    → ((i : ℕ) → slot + 1 ≤ i → Holds i) → (i : ℕ) → next ≤ i → Holds i
past_next Holds heads before hashes hash slot next linked within same is other here later i low =
    let leads : next ≡ last_slot (in_bucket hashes (length heads) (bucket_of_hash hash (length heads))) slot =
    is ∙ linked.before_leads slot within ∙ ap (λ c. last_slot (in_bucket hashes (length heads) c) slot) same in
    elim (cases_lt i slot) [
      | inl lt ↦ other i (unmarked hashes (length heads) hash slot i (omega (arith, low, leads)) lt)
      | inr ge ↦ (elim (cases_lt slot i) [
        | inl gt ↦ later i (omega (arith, gt))
        | inr le ↦ (let e : slot ≡ i = omega (arith, ge, le) in subst Holds e here)
      ])
    ]

-- and none past the slot before one that has another hash
pub unmarked_past_next : (heads before hashes : List ℕ) (hash slot next : ℕ) → AreBuckets heads before hashes (length hashes) → slot < length hashes
    → bucket_of_hash (get_or hashes slot 0) (length heads) ≡ bucket_of_hash hash (length heads)
    → next ≡ get_or before slot 0 → NoHashFrom hashes hash (slot + 1) → get_or hashes slot 0 ≢ hash → NoHashFrom hashes hash next
unmarked_past_next heads before hashes hash slot next linked within same is later here =
    past_next (λ i. i < length hashes → get_or hashes i 0 ≢ hash) heads before hashes hash slot next linked within same is (λ i other _. other) (λ _. here) later

-- ---- the newest proof

module _ (line : LineWithUndo) (side : Side) where
  newest_over : (xs ys : List ProofClaim) (o : Option ProofClaim) → IsNewest line side xs None → IsNewest line side ys o → IsNewest line side (xs ++ ys) o
  newest_over [] ys o none h = h
  newest_over (x ∷ xs) ys o (inl none) h = absurd (grind (arith, none))
  newest_over (x ∷ xs) ys o (inr none) h = inr (none.0, newest_over xs ys o none.1 h)

  newest_before : (xs ys : List ProofClaim) (p : ProofClaim) → IsNewest line side xs (Some p) → IsNewest line side (xs ++ ys) (Some p)
  newest_before [] ys p h = absurd (grind (arith, h))
  newest_before (x ∷ xs) ys p (inl h) = inl h
  newest_before (x ∷ xs) ys p (inr h) = inr (h.0, newest_before xs ys p h.1)

  reversed : (ps : List ProofClaim) (p : ProofClaim) (o : Option ProofClaim) → IsNewest line side (reverse ps ++ p ∷ []) o → IsNewest line side (reverse (p ∷ ps)) o
  reversed ps p o h = subst (λ qs. IsNewest line side qs o) (sym (reverse-append (p ∷ []) ps)) h

  none_behind : (ps : List ProofClaim) (p : ProofClaim) (n : ℕ) → NoneFrom line side (p ∷ ps) (suc n) → NoneFrom line side ps n
  none_behind ps p n h i q low is = h (suc i) q (omega (arith, low)) is

  pub none_newest : (ps : List ProofClaim) → NoneFrom line side ps 0 → IsNewest line side (reverse ps) None
  none_newest [] h = refl
  none_newest (p ∷ ps) h =
      reversed ps p None (newest_over (reverse ps) (p ∷ []) None (none_newest ps (λ i q low is. h (suc i) q (omega arith) is)) (inr (h 0 p (omega arith) refl, refl)))

  pub found_newest : (ps : List ProofClaim) (n : ℕ) (p : ProofClaim) → slice_get ps n ≡ Some p → HasKeyAndSide line side p → NoneFrom line side ps (suc n) → IsNewest line side (reverse ps) (Some p)
  found_newest [] n p is a h = absurd (grind (arith, is))
  found_newest (q ∷ ps) zero p is a h = let same : q ≡ p = cc is in
      reversed ps q (Some p) (newest_over (reverse ps) (q ∷ []) (Some p) (none_newest ps (none_behind ps q 0 h)) (inl (subst (HasKeyAndSide line side) (sym same) a, ap Some (sym same))))
  found_newest (q ∷ ps) (suc n) p is a h = reversed ps q (Some p) (newest_before (reverse ps) (q ∷ []) p (found_newest ps n p is a (none_behind ps q (suc n) h)))

  -- ---- the walk down a bucket

  hash_at : (hashes : List ℕ) (ps : List ProofClaim) (i : ℕ) (p : ProofClaim) → hashes ≡ key_hashes ps → slice_get ps i ≡ Some p → get_or hashes i 0 ≡ index_hash (key_of p.frame p.state)
  hash_at hashes ps i p e is =
      ap (λ l. get_or l i 0) e
      ∙ get_or_from_slice_get (key_hashes ps) i (index_hash (key_of p.frame p.state)) 0
      (slice_get-map (λ (q : ProofClaim). index_hash (key_of q.frame q.state)) ps i ∙ ap (option_map (λ (q : ProofClaim). index_hash (key_of q.frame q.state))) is)

  answer_hash : (p : ProofClaim) → HasKeyAndSide line side p → index_hash (key_of p.frame p.state) ≡ index_hash (key_of line.frame line.state)
  answer_hash p a = ap index_hash a.same_key

  -- what answers has the hash of the question
  pub answers_hash : (hashes : List ℕ) (ps : List ProofClaim) (i hash : ℕ) (p : ProofClaim) → hashes ≡ key_hashes ps → hash ≡ index_hash (key_of line.frame line.state) → slice_get ps i ≡ Some p
      → HasKeyAndSide line side p → get_or hashes i 0 ≡ hash
  answers_hash hashes ps i hash p all m is a = hash_at hashes ps i p all is ∙ answer_hash p a ∙ sym m

  -- no proof answers from a slot on from which no slot has the question's hash
  pub none_unmarked : (hashes : List ℕ) (ps : List ProofClaim) (hash n : ℕ) → hashes ≡ key_hashes ps → hash ≡ index_hash (key_of line.frame line.state) → NoHashFrom hashes hash n
      → NoneFrom line side ps n
  none_unmarked hashes ps hash n all m un i p low at a =
      let many : length hashes ≡ length ps = ap length all ∙ length-map ps _ in
      un i low (omega (arith, many, slice_get_within ps i p at)) (answers_hash hashes ps i hash p all m at a)

  -- nothing answers where no slot has the question's hash
  pub newest_unmarked : (hashes : List ℕ) (ps : List ProofClaim) (hash n : ℕ) → hashes ≡ key_hashes ps → hash ≡ index_hash (key_of line.frame line.state) → NoHashFrom hashes hash n → n ≡ 0
      → IsNewest line side (reverse ps) None
  newest_unmarked hashes ps hash n all m un none = none_newest ps (λ i p low at. none_unmarked hashes ps hash n all m un i p (omega (arith, none)) at)

  -- no proof answers past the slot before one that doesn't answer
  pub none_past_next : (heads before hashes : List ℕ) (ps : List ProofClaim) (hash slot next : ℕ) → hashes ≡ key_hashes ps → hash ≡ index_hash (key_of line.frame line.state)
      → AreBuckets heads before hashes (length hashes) → slot < length hashes → bucket_of_hash (get_or hashes slot 0) (length heads) ≡ bucket_of_hash hash (length heads)
      → next ≡ get_or before slot 0
      → NoneFrom line side ps (slot + 1) → ((p : ProofClaim) → slice_get ps slot ≡ Some p → HasKeyAndSide line side p → ⊥) → NoneFrom line side ps next
  none_past_next heads before hashes ps hash slot next all m linked within same is later here i p low =
      past_next (λ j. (q : ProofClaim) → slice_get ps j ≡ Some q → HasKeyAndSide line side q → ⊥) heads before hashes hash slot next linked within same is
      (λ j other q at a. other (answers_hash hashes ps j hash q all m at a)) here (λ j late q. later j q late) i low p

  -- a proof at a slot doesn't answer where the one that was looked at there fails the test
  pub not_found : (ps : List ProofClaim) (slot : ℕ) (b : Bool) (p q : ProofClaim) → slice_get ps slot ≡ Some q → slice_get ps slot ≡ Some p → b ≡ false
      → (IsTrue b ↔ ((key_of q.frame q.state ≡ key_of line.frame line.state) × (q.side ≡ side))) → HasKeyAndSide line side p → ⊥
  not_found ps slot b p q there at e h a =
      let same : p ≡ q = cc (sym at ∙ there) in
      let answers : HasKeyAndSide line side q = subst (HasKeyAndSide line side) same a in
      false≢true (sym e ∙ h.1 (answers.same_key, answers.for_side))

-- a slot that a head or another slot leads to is of the bucket
leads_inside : (hashes : List ℕ) (n c k next : ℕ) → next ≡ last_slot (in_bucket hashes n c) k → 0 < next → bucket_of_hash (get_or hashes (next - 1) 0) n ≡ c
leads_inside hashes n c k next is some =
    let e : last_slot (in_bucket hashes n c) k ≡ suc (next - 1) = omega (arith, is, some) in
    let inside = last_passes (in_bucket hashes n c) k (next - 1) e in
    grind (arith, inside)

pub head_inside : (heads before hashes : List ℕ) (hash next : ℕ) → bucket_of_hash hash (length heads) < length heads → AreBuckets heads before hashes (length hashes)
    → next ≡ get_or heads (bucket_of_hash hash (length heads)) 0 → 0 < next
    → bucket_of_hash (get_or hashes (next - 1) 0) (length heads) ≡ bucket_of_hash hash (length heads)
head_inside heads before hashes hash next inside linked is =
    leads_inside hashes (length heads) (bucket_of_hash hash (length heads)) (length hashes) next (is ∙ linked.heads_lead (bucket_of_hash hash (length heads)) inside)

pub before_inside : (heads before hashes : List ℕ) (hash slot next : ℕ) → AreBuckets heads before hashes (length hashes) → slot < length hashes
    → bucket_of_hash (get_or hashes slot 0) (length heads) ≡ bucket_of_hash hash (length heads)
    → next ≡ get_or before slot 0 → 0 < next → bucket_of_hash (get_or hashes (next - 1) 0) (length heads) ≡ bucket_of_hash hash (length heads)
before_inside heads before hashes hash slot next linked within same is =
    leads_inside hashes (length heads) (bucket_of_hash hash (length heads)) slot next (is ∙ linked.before_leads slot within ∙ ap (λ c. last_slot (in_bucket hashes (length heads) c) slot) same)

-- one more hash is noted
pub seen_more : (before after : BloomFilter) (hashes : List ℕ) (hash : ℕ) → MayHoldHashes before hashes → MayHold after (hash % KEY_FILTER_BITS) → ((n : ℕ) → MayHold before n → MayHold after n)
    → MayHoldHashes after (hashes ++ hash ∷ [])
seen_more before after hashes hash was here still slot within = elim (cases_lt slot (length hashes)) [
  | inl h ↦ subst (λ n. MayHold after (n % KEY_FILTER_BITS)) (sym (get_or_append_left hashes (hash ∷ []) 0 slot h)) (still _ (was slot h))
  | inr h ↦ subst (λ n. MayHold after (n % KEY_FILTER_BITS)) (sym (get_or_push hashes hash 0 slot (omega (arith, h, within, length-append hashes (hash ∷ []))))) here
]
