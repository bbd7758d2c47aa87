-- What words make where a stone comes: the hash of a colouring with one stone more is made without it.
use Rattle.std.proofs.Common.{◌≡◌, ◌≢◌, ℕ, zero, suc, ◌+◌, ◌*◌, ◌-◌, ◌/◌, ◌%◌, ◌^◌, ◌<◌, ◌≤◌, List, [], ◌∷◌, length, map, take, drop, get_or, set, replicate}
use Rattle.std.proofs.Common.{Some, None, Bool, true, false, refl, sym, ap, ◌∙◌, inl, inr, arith, length-append, pow-suc, pow-add}
use Rattle.std.specs.List.{range_with_len}
use Rattle.std.proofs.Math.Nat.{mod-add-mod, add-mod-mod, add-mul, mul_assoc, pow-succ'}
use Rattle.std.proofs.Math.Seq.{take-set-lt}
use Rattle.std.proofs.lemmas.Nat.{mul-mod_first, mul-mod_second}
use Rattle.std.proofs.lemmas.Bool.{cases_lt, cases_eq}
use Rattle.std.proofs.lemmas.List.{length-replicate, length-drop, length-take-le, length-set}
use Rattle.std.proofs.lemmas.List.{get_or-replicate, get_or_past, get_or_append_left, get_or-append_right, get_or-take, get_or-drop, ext_get_or}
use Rattle.std.proofs.lemmas.List.{get_or-set_same, get_or-set_other, take-set-le, drop-set-lt, drop-set-add}
use Rattle.std.proofs.lemmas.List.FromFn.{length-map-range_with_len, get_or-map-range_with_len}
use Rattle.tt_board.specs.declared.Colour.{Colour}
use Rattle.tt_board.specs.declared.Colour.TheVariants.{Black, White}
use Rattle.tt_board.specs.Position.{Colouring}
use Rattle.tt_board.specs.Reach.{entry_at}
use Rattle.tt_board.specs.Play.{is_stone_of}
use Rattle.tt_sgf.specs.declared.size.Size.{Size}
use Rattle.tt_sgf.specs.Sizes.{point_count}
use Rattle.tt_sgf.specs.laws.SizeLaws.{point_count_is_bounded}
use Rattle.tt_game.specs.declared.history.bloom_filter.TheConstants.{HASH_DIVISOR, MIXER, FILTER_BITS, MIXER_POWERS}
use Rattle.tt_game.specs.Keys.{bits_of, value_of_bits, words_of, bit_words}
use Rattle.tt_game.specs.Mixing.{mix, mix_board}
use Rattle.tt_game.specs.BloomFilter.{filter_index}
use Rattle.tt_game.proofs.KeyLemmas.{bit_words_same, length-words_of}

-- ---- what words make

-- what is added to a number before a word counts once more behind it
one_word : (s d w k m : ℕ) → ((s + d) % m * k % m + w) % m ≡ ((s * k % m + w) % m + d * k) % m
one_word s d w k m =
    mod-add-mod ((s + d) % m * k) m w ∙ sym (mod-add-mod ((s + d) % m * k) m w)
    ∙ ap (λ n. (n + w) % m) (mul-mod_first (s + d) k m) ∙ mod-add-mod ((s + d) * k) m w
    ∙ ap (λ n. n % m) (omega (arith, add-mul s d k))
    ∙ sym (mod-add-mod (s * k) m (w + d * k))
    ∙ ap (λ n. n % m) (omega arith)
    ∙ sym (mod-add-mod (s * k % m + w) m (d * k))

-- what is added before the words counts by a power for each of them
shifted : (s d : ℕ) (ws : List ℕ) → mix ((s + d) % 2 ^ 64) ws ≡ (mix s ws + d * MIXER ^ length ws) % 2 ^ 64
unfolding mix
shifted s d [] = ap (λ n. (s + n) % 2 ^ 64) (omega arith)
shifted s d (w ∷ ws) =
    let t = (s * MIXER % 2 ^ 64 + w) % 2 ^ 64 in
    ap (λ n. mix n ws) (one_word s d w MIXER (2 ^ 64))
    ∙ shifted t (d * MIXER) ws
    ∙ ap (λ n. (mix t ws + n) % 2 ^ 64) (mul_assoc d MIXER (MIXER ^ length ws) ∙ ap (λ n. d * n) (sym (pow-succ' MIXER (length ws))))

-- a bit more adds its digit
binary_set : (bs : List Bool) (i : ℕ) → i < length bs → get_or bs i false ≡ false → value_of_bits (set bs i true) ≡ value_of_bits bs + 2 ^ i
binary_set [] i lt off = absurd (omega (arith, lt))
binary_set (true ∷ bs) zero lt off = absurd (Rattle.std.proofs.lemmas.Bool.false≢true (sym off))
binary_set (false ∷ bs) zero lt off = omega arith
binary_set (b ∷ bs) (suc i) lt off = omega (arith, binary_set bs i (omega (arith, lt)) off, pow-suc 2 i)

-- a bit more in words adds its digit, which counts by a power for each word behind its own
grown : (s n : ℕ) (bits : List Bool) (p : ℕ) → length bits ≡ 64 * n → p < 64 * n → get_or bits p false ≡ false
    → mix s (words_of n (set bits p true)) ≡ (mix s (words_of n bits) + 2 ^ (p % 64) * MIXER ^ (n - 1 - p / 64)) % 2 ^ 64
unfolding mix words_of
grown s zero bits p wide lt off = absurd (omega (arith, lt))
grown s (suc n) bits p wide lt off = elim (cases_lt p 64) [
  | inl below ↦
      let b = value_of_bits (take 64 bits) in let ws = words_of n (drop 64 bits) in let t = (s * MIXER % 2 ^ 64 + b) % 2 ^ 64 in
      let here : value_of_bits (take 64 (set bits p true)) ≡ b + 2 ^ p =
      ap value_of_bits (take-set-lt 64 bits p true below)
      ∙ binary_set (take 64 bits) p (omega (arith, below, wide, length-take-le 64 bits (omega (arith, wide)))) (get_or-take 64 bits p false below ∙ off) in
      let same : drop 64 (set bits p true) ≡ drop 64 bits = drop-set-lt 64 bits p true below in
      let digit : p % 64 ≡ p = omega (arith, below) in
      let offset : suc n - 1 - p / 64 ≡ n = omega (arith, below) in
      ap (λ x. mix ((s * MIXER % 2 ^ 64 + x) % 2 ^ 64) (words_of n (drop 64 (set bits p true)))) here
      ∙ ap (λ x. mix ((s * MIXER % 2 ^ 64 + (b + 2 ^ p)) % 2 ^ 64) (words_of n x)) same
      ∙ ap (λ x. mix x ws) (ap (λ x. x % 2 ^ 64) (omega arith) ∙ sym (mod-add-mod (s * MIXER % 2 ^ 64 + b) (2 ^ 64) (2 ^ p)))
      ∙ shifted t (2 ^ p) ws
      ∙ ap (λ e. (mix t ws + 2 ^ p * MIXER ^ e) % 2 ^ 64) (length-words_of n (drop 64 bits) ∙ sym offset)
      ∙ ap (λ e. (mix t ws + 2 ^ e * MIXER ^ (suc n - 1 - p / 64)) % 2 ^ 64) (sym digit)
  | inr past ↦
      let q = p - 64 in let b = value_of_bits (take 64 bits) in let t = (s * MIXER % 2 ^ 64 + b) % 2 ^ 64 in
      let is : 64 + q ≡ p = omega (arith, past) in
      let here : take 64 (set bits p true) ≡ take 64 bits = take-set-le 64 bits p true past in
      let later : drop 64 (set bits p true) ≡ set (drop 64 bits) q true = ap (λ j. drop 64 (set bits j true)) (sym is) ∙ drop-set-add 64 bits q true in
      let bare : get_or (drop 64 bits) q false ≡ false = get_or-drop 64 bits q false ∙ ap (λ j. get_or bits j false) is ∙ off in
      let digit : q % 64 ≡ p % 64 = omega (arith, past) in
      let offset : n - 1 - q / 64 ≡ suc n - 1 - p / 64 = omega (arith, past) in
      ap (λ x. mix ((s * MIXER % 2 ^ 64 + value_of_bits x) % 2 ^ 64) (words_of n (drop 64 (set bits p true)))) here
      ∙ ap (λ x. mix t (words_of n x)) later
      ∙ grown t n (drop 64 bits) q (omega (arith, length-drop 64 bits, wide)) (omega (arith, past, lt)) bare
      ∙ ap (λ e. (mix t (words_of n (drop 64 bits)) + 2 ^ e * MIXER ^ (n - 1 - q / 64)) % 2 ^ 64) digit
      ∙ ap (λ e. (mix t (words_of n (drop 64 bits)) + 2 ^ (p % 64) * MIXER ^ e) % 2 ^ 64) offset
]

-- ---- a stone more

-- the bits of a test, one by one
mark_at : (g : Size) (test : ℕ → Bool) (q : ℕ) → q < point_count g → get_or (bits_of g test) q false ≡ test q
unfolding bits_of
mark_at g test q lt =
    let n = point_count g in let xs = map test (range_with_len 0 n) in
    get_or_append_left xs (replicate (384 - n) false) false q (omega (arith, lt, length-map-range_with_len test 0 n)) ∙ get_or-map-range_with_len test 0 n q q false lt (omega arith)

mark_past : (g : Size) (test : ℕ → Bool) (q : ℕ) → point_count g ≤ q → get_or (bits_of g test) q false ≡ false
unfolding bits_of
mark_past g test q past =
    let n = point_count g in let xs = map test (range_with_len 0 n) in
    get_or-append_right xs (replicate (384 - n) false) n q false (length-map-range_with_len test 0 n) past ∙ none (384 - n) (q - n)
  where
    none : (n i : ℕ) → get_or (replicate n false) i false ≡ false
    none n i = elim (cases_lt i n) [
      | inl below ↦ get_or-replicate n i false false below
      | inr behind ↦ get_or_past (replicate n false) i false (omega (arith, behind, length-replicate {A = Bool} n false))
    ]

length-bits : (g : Size) (test : ℕ → Bool) → length (bits_of g test) ≡ 384
unfolding bits_of
length-bits g test =
    let n = point_count g in
    omega (arith, point_count_is_bounded g, length-append (map test (range_with_len 0 n)) (replicate (384 - n) false), length-map-range_with_len test 0 n, length-replicate {A = Bool} (384 - n) false)

-- a test that one point more passes has one bit more
mark_more : (g : Size) (test tell : ℕ → Bool) (p : ℕ) → p < point_count g → tell p ≡ true → ((q : ℕ) → q ≢ p → tell q ≡ test q) → bits_of g tell ≡ set (bits_of g test) p true
mark_more g test tell p on here others =
    ext_get_or false (bits_of g tell) (set (bits_of g test) p true) (length-bits g tell ∙ sym (length-set (bits_of g test) p true ∙ length-bits g test)) at
  where
    at : (q : ℕ) → q < length (bits_of g tell) → get_or (bits_of g tell) q false ≡ get_or (set (bits_of g test) p true) q false
    at q in' = elim (cases_eq q p) [
      | inl same ↦
          ap (λ j. get_or (bits_of g tell) j false) same ∙ mark_at g tell p on ∙ here
          ∙ sym (ap (λ j. get_or (set (bits_of g test) p true) j false) same ∙ get_or-set_same (bits_of g test) p true false (omega (arith, on, point_count_is_bounded g, length-bits g test)))
      | inr apart ↦ elim (cases_lt q (point_count g)) [
        | inl below ↦ mark_at g tell q below ∙ others q apart ∙ sym (get_or-set_other (bits_of g test) p q true false apart ∙ mark_at g test q below)
        | inr past ↦ mark_past g tell q past ∙ sym (get_or-set_other (bits_of g test) p q true false apart ∙ mark_past g test q past)
      ]
    ]

-- how many words stand behind the first one of a colour
abbrev pub behind : Colour → ℕ
behind Black = 11
behind White = 5

-- a stone more adds its digit, which counts by a power for each word behind its own
module _ (g : Size) (c : Colouring) (p : ℕ) (fits : length c ≡ point_count g) (on : p < point_count g) (free : entry_at c p ≡ None) where
  here : (k : Colour) → entry_at (set c p (Some k)) p ≡ Some k
  here k = get_or-set_same c p (Some k) None (omega (arith, fits, on))

  away : (k : Colour) (q : ℕ) → q ≢ p → entry_at (set c p (Some k)) q ≡ entry_at c q
  away k q apart = get_or-set_other c p q (Some k) None apart

  -- the stones of the colour are one more, those of the other one are the same
  own : (k : Colour) → is_stone_of (Some k) k ≡ true → bits_of g (λ q. is_stone_of (entry_at (set c p (Some k)) q) k) ≡ set (bits_of g (λ q. is_stone_of (entry_at c q) k)) p true
  own k is = mark_more g (λ q. is_stone_of (entry_at c q) k) (λ q. is_stone_of (entry_at (set c p (Some k)) q) k) p on
      (ap (λ x. is_stone_of x k) (here k) ∙ is) (λ q apart. ap (λ x. is_stone_of x k) (away k q apart))

  other : (k o : Colour) → is_stone_of (Some k) o ≡ is_stone_of None o → bit_words g (λ q. is_stone_of (entry_at (set c p (Some k)) q) o) ≡ bit_words g (λ q. is_stone_of (entry_at c q) o)
  other k o not_ = bit_words_same g (λ q. is_stone_of (entry_at (set c p (Some k)) q) o) (λ q. is_stone_of (entry_at c q) o) (λ q lt. elim (cases_eq q p) [
    | inl same ↦ ap (λ j. is_stone_of (entry_at (set c p (Some k)) j) o) same ∙ ap (λ x. is_stone_of x o) (here k) ∙ not_
        ∙ sym (ap (λ j. is_stone_of (entry_at c j) o) same ∙ ap (λ x. is_stone_of x o) free)
    | inr apart ↦ ap (λ x. is_stone_of x o) (away k q apart)
  ])

  grown_here : (s : ℕ) (k : Colour) → is_stone_of (Some k) k ≡ true → is_stone_of None k ≡ false
      → mix s (bit_words g (λ q. is_stone_of (entry_at (set c p (Some k)) q) k))
      ≡ (mix s (bit_words g (λ q. is_stone_of (entry_at c q) k)) + 2 ^ (p % 64) * MIXER ^ (5 - p / 64)) % 2 ^ 64
  grown_here s k is bare =
      let bits = bits_of g (λ q. is_stone_of (entry_at c q) k) in
      ap (λ x. mix s (words_of 6 x)) (own k is)
      ∙ grown s 6 bits p (length-bits g (λ q. is_stone_of (entry_at c q) k)) (omega (arith, on, point_count_is_bounded g))
      (mark_at g (λ q. is_stone_of (entry_at c q) k) p on ∙ ap (λ x. is_stone_of x k) free ∙ bare)

  pub summed : (k : Colour) → mix_board g (set c p (Some k)) ≡ (mix_board g c + 2 ^ (p % 64) * MIXER ^ (behind k - p / 64)) % 2 ^ 64
  summed Black =
      let white = bit_words g (λ q. is_stone_of (entry_at c q) White) in
      let s = mix 0 (bit_words g (λ q. is_stone_of (entry_at c q) Black)) in
      let d = 2 ^ (p % 64) * MIXER ^ (5 - p / 64) in
      let powers : d * MIXER ^ 6 ≡ 2 ^ (p % 64) * MIXER ^ (11 - p / 64) =
      mul_assoc (2 ^ (p % 64)) (MIXER ^ (5 - p / 64)) (MIXER ^ 6)
      ∙ ap (λ n. 2 ^ (p % 64) * n) (sym (pow-add MIXER (5 - p / 64) 6) ∙ ap (λ e. MIXER ^ e) (omega (arith, on, point_count_is_bounded g))) in
      ap (mix (mix 0 (bit_words g (λ q. is_stone_of (entry_at (set c p (Some Black)) q) Black)))) (other Black White refl)
      ∙ ap (λ n. mix n white) (grown_here 0 Black refl refl)
      ∙ shifted s d white
      ∙ ap (λ e. (mix s white + d * MIXER ^ e) % 2 ^ 64) (length-words_of 6 (bits_of g (λ q. is_stone_of (entry_at c q) White)))
      ∙ ap (λ n. (mix s white + n) % 2 ^ 64) powers
  summed White =
      ap (λ n. mix (mix 0 n) (bit_words g (λ q. is_stone_of (entry_at (set c p (Some White)) q) White))) (other White Black refl)
      ∙ grown_here (mix 0 (bit_words g (λ q. is_stone_of (entry_at c q) Black))) White refl refl

-- the hash of a colouring with a stone more, by what the words make without it
pub hash_more : (g : Size) (c : Colouring) (p : ℕ) (k : Colour) (sum w : ℕ) → length c ≡ point_count g → p < point_count g → entry_at c p ≡ None → sum ≡ mix_board g c
    → w ≡ MIXER ^ (behind k - p / 64) % 2 ^ 64 → (sum + 2 ^ (p % 64) * w % 2 ^ 64) % 2 ^ 64 * MIXER % 2 ^ 64 / HASH_DIVISOR % FILTER_BITS ≡ filter_index g (set c p (Some k))
unfolding filter_index
hash_more g c p k sum w fits on free is weighs =
    let d = 2 ^ (p % 64) in
    let power = MIXER ^ (behind k - p / 64) in
    ap (λ n. n * MIXER % 2 ^ 64 / HASH_DIVISOR % FILTER_BITS) (
    ap (λ n. (n + d * w % 2 ^ 64) % 2 ^ 64) is
    ∙ add-mod-mod (mix_board g c) (d * w) (2 ^ 64)
    ∙ ap (λ n. (mix_board g c + d * n) % 2 ^ 64) weighs
    ∙ sym (add-mod-mod (mix_board g c) (d * (power % 2 ^ 64)) (2 ^ 64))
    ∙ ap (λ n. (mix_board g c + n) % 2 ^ 64) (mul-mod_second d power (2 ^ 64))
    ∙ add-mod-mod (mix_board g c) (d * power) (2 ^ 64)
    ∙ sym (summed g c p fits on free k)
    )

-- the weights are the powers
pub weight : (e : ℕ) → e < 12 → get_or MIXER_POWERS e 0 ≡ MIXER ^ e % 2 ^ 64
weight zero lt = refl
weight (suc zero) lt = refl
weight (suc (suc zero)) lt = refl
weight (suc (suc (suc zero))) lt = refl
weight (suc (suc (suc (suc zero)))) lt = refl
weight (suc (suc (suc (suc (suc zero))))) lt = refl
weight (suc (suc (suc (suc (suc (suc zero)))))) lt = refl
weight (suc (suc (suc (suc (suc (suc (suc zero))))))) lt = refl
weight (suc (suc (suc (suc (suc (suc (suc (suc zero)))))))) lt = refl
weight (suc (suc (suc (suc (suc (suc (suc (suc (suc zero))))))))) lt = refl
weight (suc (suc (suc (suc (suc (suc (suc (suc (suc (suc zero)))))))))) lt = refl
weight (suc (suc (suc (suc (suc (suc (suc (suc (suc (suc (suc zero))))))))))) lt = refl
weight (suc (suc (suc (suc (suc (suc (suc (suc (suc (suc (suc (suc e)))))))))))) lt = absurd (omega (arith, lt))
