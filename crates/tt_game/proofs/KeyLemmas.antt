-- Marks in words, and what they tell apart.
use Rattle.std.proofs.Common.{◌≡◌, ℕ, zero, suc, ◌+◌, ◌*◌, ◌-◌, ◌/◌, ◌%◌, ◌^◌, ◌<◌, ◌≤◌, List, [], ◌∷◌, ◌++◌, length, map, take, drop, get_or, replicate, cond, eqb, Option, Some}
use Rattle.std.proofs.Common.{None, Bool, true, false, refl, sym, ap, subst, ◌∙◌, inl, inr, arith, length-append}
use Rattle.std.specs.Int.{bit_at}
use Rattle.std.specs.List.{range_with_len}
use Rattle.std.proofs.lemmas.Bool.{cases_lt}
use Rattle.std.proofs.lemmas.List.{append_cancel_right, take-append-drop, drop-drop, length-drop, length-take, length-take-le, length-replicate, get_or-replicate, get_or_past}
use Rattle.std.proofs.lemmas.List.{get_or_append_left, get_or-append_right, get_or-take, get_or-drop, ext_get_or}
use Rattle.std.proofs.lemmas.List.FromFn.{length-map-range_with_len, get_or-map-range_with_len}
use Rattle.std.proofs.lemmas.Nat.Bits.{bit_at-zero, bit_at_lowest, bit_at-suc, bit_at-lt, same_from_bits_below}
use Rattle.tt_board.specs.declared.Colour.{Colour}
use Rattle.tt_board.specs.declared.Colour.TheVariants.{Black, White}
use Rattle.tt_board.specs.Play.{is_stone_of}
use Rattle.tt_sgf.specs.declared.size.Size.{Size}
use Rattle.tt_sgf.specs.Sizes.{point_count}
use Rattle.tt_sgf.specs.MachineWords.{bit_in, AreBitsOf}
use Rattle.tt_sgf.specs.laws.SizeLaws.{point_count_is_bounded}
use Rattle.tt_game.specs.declared.frame.Frame.{Frame}
use Rattle.tt_game.specs.Game.{State}
use Rattle.tt_game.specs.Keys.{bits_of, value_of_bits, words_of, bit_words, key_of}

-- ---- words

-- n bits are a number below 2 to the n
value_of_bits-below : (bs : List Bool) → value_of_bits bs < 2 ^ length bs
value_of_bits-below [] = omega arith
value_of_bits-below (b ∷ bs) =
    let one : cond b 1 0 ≤ 1 = unit b in
    omega (arith, value_of_bits-below bs, one, Rattle.std.proofs.Common.pow-suc 2 (length bs))
  where
    unit : (b : Bool) → cond b 1 0 ≤ 1
    unit true = omega arith
    unit false = omega arith

-- a number tells its lowest digit, and what is left without it
odd : (b c : Bool) (m n : ℕ) → cond b 1 0 + 2 * m ≡ cond c 1 0 + 2 * n → (b ≡ c) × (m ≡ n)
odd true true m n e = (refl, omega (arith, e))
odd true false m n e = absurd (omega (arith, e))
odd false true m n e = absurd (omega (arith, e))
odd false false m n e = (refl, omega (arith, e))

-- a number tells the bits that are its digits
binary_tells : (bs cs : List Bool) → length bs ≡ length cs → value_of_bits bs ≡ value_of_bits cs → bs ≡ cs
binary_tells [] [] e h = refl
binary_tells [] (c ∷ cs) e h = absurd (omega (arith, e))
binary_tells (b ∷ bs) [] e h = absurd (omega (arith, e))
binary_tells (b ∷ bs) (c ∷ cs) e h =
    let k = odd b c (value_of_bits bs) (value_of_bits cs) h in
    let r = binary_tells bs cs (omega (arith, e)) k.1 in
    let f = k.0 in cc

-- words of 64 bits tell all bits in them
words_tell : (k : ℕ) (xs ys : List Bool) → length xs ≡ 64 * k → length ys ≡ 64 * k → words_of k xs ≡ words_of k ys → xs ≡ ys
unfolding words_of
words_tell zero [] [] e f h = refl
words_tell zero [] (y ∷ ys) e f h = absurd (omega (arith, f))
words_tell zero (x ∷ xs) ys e f h = absurd (omega (arith, e))
words_tell (suc k) xs ys e f h =
    let head' : value_of_bits (take 64 xs) ≡ value_of_bits (take 64 ys) = cc in
    let tail' : words_of k (drop 64 xs) ≡ words_of k (drop 64 ys) = cc in
    let first : take 64 xs ≡ take 64 ys = binary_tells (take 64 xs) (take 64 ys) (length-take-le 64 xs (omega arith) ∙ sym (length-take-le 64 ys (omega arith))) head' in
    let rest : drop 64 xs ≡ drop 64 ys = words_tell k (drop 64 xs) (drop 64 ys) (omega (arith, length-drop 64 xs)) (omega (arith, length-drop 64 ys)) tail' in
    sym (take-append-drop 64 xs) ∙ ap (λ x. x ++ drop 64 xs) first ∙ ap (λ x. take 64 ys ++ x) rest ∙ take-append-drop 64 ys

-- bits in words tell each point
pub bit_words_tells : (size : Size) (test tell : ℕ → Bool) → words_of 6 (bits_of size test) ≡ words_of 6 (bits_of size tell) → (p : ℕ) → p < point_count size → test p ≡ tell p
unfolding bits_of
bit_words_tells size test tell h p lt =
    let n = point_count size in
    let few = point_count_is_bounded size in
    let wide = λ (t : ℕ → Bool). (let w : length (map t (range_with_len 0 n) ++ replicate (384 - n) false) ≡ 64 * 6 = omega
    (arith, few, length-append (map t (range_with_len 0 n)) (replicate (384 - n) false), length-map-range_with_len t 0 n, length-replicate (384 - n) false) in w) in
    let bits = append_cancel_right (map test (range_with_len 0 n)) (map tell (range_with_len 0 n)) (replicate (384 - n) false) (words_tell 6 _ _ (wide test) (wide tell) h) in
    sym (get_or-map-range_with_len test 0 n p p false lt (omega arith)) ∙ ap (λ xs. get_or xs p false) bits ∙ get_or-map-range_with_len tell 0 n p p false lt (omega arith)

-- tests that agree on the first numbers bit them alike
same_maps : (test tell : ℕ → Bool) (n : ℕ) → ((p : ℕ) → p < n → test p ≡ tell p) → map test (range_with_len 0 n) ≡ map tell (range_with_len 0 n)
same_maps test tell n h = Rattle.std.proofs.lemmas.List.ext_get_or false (map test (range_with_len 0 n)) (map tell (range_with_len 0 n))
    (length-map-range_with_len test 0 n ∙ sym (length-map-range_with_len tell 0 n))
    (λ k in'. let lt : k < n = subst (λ m. k < m) (length-map-range_with_len test 0 n) in' in
    get_or-map-range_with_len test 0 n k k false lt (omega arith) ∙ h k lt ∙ sym (get_or-map-range_with_len tell 0 n k k false lt (omega arith)))

-- tests that agree on the board's points are packed alike
pub bit_words_same : (size : Size) (test tell : ℕ → Bool) → ((p : ℕ) → p < point_count size → test p ≡ tell p) → words_of 6 (bits_of size test) ≡ words_of 6 (bits_of size tell)
unfolding bits_of
bit_words_same size test tell h = ap (λ xs. words_of 6 (xs ++ replicate (384 - point_count size) false)) (same_maps test tell (point_count size) h)

-- an entry is known by whether it is black and whether it is white
pub entries_tell : (x y : Option Colour) → is_stone_of x Black ≡ is_stone_of y Black → is_stone_of x White ≡ is_stone_of y White → x ≡ y
entries_tell None None b w = refl
entries_tell None (Some Black) b w = cc
entries_tell None (Some White) b w = cc
entries_tell (Some Black) None b w = cc
entries_tell (Some White) None b w = cc
entries_tell (Some Black) (Some Black) b w = refl
entries_tell (Some White) (Some White) b w = refl
entries_tell (Some Black) (Some White) b w = cc
entries_tell (Some White) (Some Black) b w = cc

-- ---- words by their bits

-- the lowest digit of a number, and what is left without it
digit : (b : Bool) (m : ℕ) → ((cond b 1 0 + 2 * m) % 2 ≡ cond b 1 0) × ((cond b 1 0 + 2 * m) / 2 ≡ m)
digit true m = (omega arith, omega arith)
digit false m = (omega arith, omega arith)

-- the bits of the number are the bits
bit_binary : (bs : List Bool) (i : ℕ) → bit_at (value_of_bits bs) i ≡ cond (get_or bs i false) 1 0
bit_binary [] i = bit_at-zero i
bit_binary (b ∷ bs) zero = bit_at_lowest (cond b 1 0 + 2 * value_of_bits bs) ∙ (digit b (value_of_bits bs)).0
bit_binary (b ∷ bs) (suc i) = bit_at-suc (cond b 1 0 + 2 * value_of_bits bs) i ∙ ap (λ m. bit_at m i) (digit b (value_of_bits bs)).1 ∙ bit_binary bs i

-- as many words are made as are asked for
pub length-words_of : (n : ℕ) (bits : List Bool) → length (words_of n bits) ≡ n
unfolding words_of
length-words_of zero bits = refl
length-words_of (suc n) bits = ap suc (length-words_of n (drop 64 bits))

-- each word is the number of its 64 bits
word_of : (n : ℕ) (bits : List Bool) (k : ℕ) → k < n → get_or (words_of n bits) k 0 ≡ value_of_bits (take 64 (drop (64 * k) bits))
unfolding words_of
word_of zero bits k lt = absurd (omega arith)
word_of (suc n) bits zero lt = refl
word_of (suc n) bits (suc k) lt =
    let more : 64 + 64 * k ≡ 64 * suc k = omega arith in
    word_of n (drop 64 bits) k (omega arith) ∙ ap (λ xs. value_of_bits (take 64 xs)) (drop-drop (64 * k) 64 bits ∙ ap (λ j. drop j bits) more)

-- no bit is set where none was made
none_marked : (n i : ℕ) → get_or (replicate n false) i false ≡ false
none_marked n i = elim (cases_lt i n) [
  | inl below ↦ get_or-replicate n i false false below
  | inr past ↦ get_or_past (replicate n false) i false (omega (arith, length-replicate {A = Bool} n false))
]

-- the bits are the bits of words that have those of the test
bit_is_at : (size : Size) (test : ℕ → Bool) (words : List ℕ) → AreBitsOf words (point_count size) test → (q : ℕ) → q < 384 → get_or (bits_of size test) q false ≡ bit_in words q
unfolding bits_of
bit_is_at size test words bits q lt =
    let n = point_count size in
    let xs = map test (range_with_len 0 n) in
    let ys = replicate (384 - n) false in
    let wide = length-map-range_with_len test 0 n in
    elim (cases_lt q n) [
      | inl below ↦ get_or_append_left xs ys false q (omega (arith, wide)) ∙ get_or-map-range_with_len test 0 n q q false below (omega arith) ∙ sym (bits.below q below lt)
      | inr past ↦ get_or-append_right xs ys n q false wide past ∙ none_marked (384 - n) (q - n) ∙ sym (bits.behind q past lt)
    ]

-- a bit is known by whether it is 1
by_test : (x : ℕ) → x < 2 → x ≡ cond (eqb x 1) 1 0
by_test zero lt = refl
by_test (suc zero) lt = refl
by_test (suc (suc x)) lt = absurd (omega arith)

-- a bit of a word is 1 exactly where the bit of its number is
bit_is : (words : List ℕ) (k i : ℕ) → i < 64 → bit_at (get_or words k 0) i ≡ cond (bit_in words (64 * k + i)) 1 0
unfolding bit_in
bit_is words k i lt =
    let word : k ≡ (64 * k + i) / 64 = omega arith in
    let offset : i ≡ (64 * k + i) % 64 = omega arith in
    ap (λ j. bit_at (get_or words j 0) i) word ∙ ap (bit_at (get_or words ((64 * k + i) / 64) 0)) offset ∙ by_test _ (bit_at-lt (get_or words ((64 * k + i) / 64) 0) ((64 * k + i) % 64))

-- six words with these bits are the words of the bits
pub bit_words_is : (size : Size) (test : ℕ → Bool) (words : List ℕ) → length words ≡ 6 → ((k : ℕ) → get_or words k 0 < 2 ^ 64) → AreBitsOf words (point_count size) test → words ≡ bit_words size test
bit_words_is size test words wide fits alike =
    let bits = bits_of size test in
    ext_get_or 0 words (words_of 6 bits) (wide ∙ sym (length-words_of 6 bits)) (λ k inside.
    let lt : k < 6 = omega (arith, wide) in
    let part = take 64 (drop (64 * k) bits) in
    let short : length part ≤ 64 = omega (arith, length-take 64 (drop (64 * k) bits)) in
    let few : value_of_bits part < 2 ^ 64 = omega (arith, value_of_bits-below part, Rattle.std.proofs.Math.Pow.pow_mono short) in
    same_from_bits_below 64 (get_or words k 0) (value_of_bits part) (fits k) few (λ i small.
    bit_is words k i small ∙ sym (bit_binary part i ∙ ap (λ b. cond b 1 0) (get_or-take 64 (drop (64 * k) bits) i false small ∙ get_or-drop (64 * k) bits i false
    ∙ bit_is_at size test words alike (64 * k + i) (omega arith))))
    ∙ sym (word_of 6 bits k lt))

-- the key is fixed by the frame, the present colouring, the side to move and the passes
pub key_told : (f g : Frame) (s t : State) → f ≡ g → s.present ≡ t.present → s.to_move ≡ t.to_move → s.passes ≡ t.passes → key_of f s ≡ key_of g t
unfolding key_of
key_told f g s t frames presents sides counts = rw (frames, presents, sides, counts) refl
