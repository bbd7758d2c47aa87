-- How an index leads to the last proof of a key and side. Only private contracts cite these.
use Rattle.std.specs.Prelude.{◌≡◌, ◌≢◌, ℕ, zero, suc, ◌-◌, ◌%◌, ◌<◌, ◌≤◌, Bool, List, length, cond, get_or, nat_eq, slice_get, Some}
use Rattle.tt_game.specs.declared.frame.Side.{Side}
use Rattle.tt_game.specs.declared.history.bloom_filter.BloomFilter.{BloomFilter}
use Rattle.tt_game.specs.Line.{LineWithUndo}
use Rattle.tt_game.specs.BloomFilter.{MayHold}
use Rattle.tt_proof.specs.ProofClaim.{ProofClaim}
use Rattle.tt_search.specs.Stores.{HasKeyAndSide}
use Rattle.tt_search.specs.declared.store.key_index.TheConstants.{KEY_FILTER_BITS}

-- one more than the last slot below n that passes the test, or 0 where none does
abbrev pub last_slot : (ℕ → Bool) → ℕ → ℕ
last_slot test zero = 0
last_slot test (suc n) = cond (test n) (suc n) (last_slot test n)

-- the bucket of a hash, one of so many
unfoldable pub bucket_of_hash : ℕ → ℕ → ℕ
bucket_of_hash hash buckets = hash % buckets

-- whether the slot is of the bucket: one of so many, by its hash
abbrev pub in_bucket : List ℕ → ℕ → ℕ → ℕ → Bool
in_bucket hashes buckets bucket slot = nat_eq (bucket_of_hash (get_or hashes slot 0) buckets) bucket

-- over the first n slots, each bucket's head leads to the bucket's last slot, and each slot to the one before it in its
-- bucket
pub record AreBuckets (heads before hashes : List ℕ) (n : ℕ) : Type 0 where
  pub heads_lead : (bucket : ℕ) → bucket < length heads → get_or heads bucket 0 ≡ last_slot (in_bucket hashes (length heads) bucket) n
  pub before_leads : (slot : ℕ) → slot < n → get_or before slot 0 ≡ last_slot (in_bucket hashes (length heads) (bucket_of_hash (get_or hashes slot 0) (length heads))) slot

-- each slot has its hash and the one before it, and there are as many buckets as slots at least, fewer than 2 ^ 32
pub record AreLongEnough (heads before hashes : List ℕ) : Type 0 where
  pub one_each : length before ≡ length hashes
  pub enough : length hashes ≤ length heads
  pub few : length heads < 4294967296

-- the bits of the hashes are 1
abbrev pub MayHoldHashes : BloomFilter → List ℕ → Type 0
MayHoldHashes filter hashes = (slot : ℕ) → slot < length hashes → MayHold filter (get_or hashes slot 0 % KEY_FILTER_BITS)

-- no proof answers from this slot on
abbrev pub NoneFrom : LineWithUndo → Side → List ProofClaim → ℕ → Type 0
NoneFrom line side ps n = (i : ℕ) (p : ProofClaim) → n ≤ i → slice_get ps i ≡ Some p → HasKeyAndSide line side p → ⊥

-- no slot from this one on has the hash
abbrev pub NoHashFrom : List ℕ → ℕ → ℕ → Type 0
NoHashFrom hashes hash n = (i : ℕ) → n ≤ i → i < length hashes → get_or hashes i 0 ≢ hash

-- a number is one more than the last slot with the hash, or 0 where none has it
pub record IsLastWithHash (hashes : List ℕ) (hash n : ℕ) : Type 0 where
  pub low : n ≤ length hashes
  pub marked : 0 < n → get_or hashes (n - 1) 0 ≡ hash
  pub unmarked : NoHashFrom hashes hash n
