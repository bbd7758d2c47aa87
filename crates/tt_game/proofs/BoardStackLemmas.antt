-- A stack of boards in a list that may go on above the present one.
use Rattle.std.proofs.Common.{inl, inr, ◌≡◌, ℕ, ◌+◌, ◌-◌, ◌<◌, ◌≤◌, List, [], ◌∷◌, ◌++◌, length, take, get_or, set, reverse, zero, suc, refl, sym, ap, ◌∙◌, arith}
use Rattle.std.proofs.lemmas.Bool.{cases_eq}
use Rattle.std.proofs.lemmas.List.{get_or-set_other, take_more, take-set, take-append-le, reverse-append, set-append_right, get_or-set_same, get_or_append_left, get_or_default}
use Rattle.tt_board.specs.Position.{Position}
use Rattle.tt_board.specs.declared.Colour.{Colour}
use Rattle.tt_board.specs.Play.{play_of}
use Rattle.tt_game.specs.inside.Undoing.{Stack, stack_at, board_on, AreMade}

-- the board at an index, and what a play makes of it
abbrev get_or2 : Position → List Position → ℕ → Position
get_or2 b bs k = get_or (b ∷ bs) k b

abbrev pub after : Position → List Position → ℕ → Colour → ℕ → Position
after b bs k c p = board_on (get_or (b ∷ bs) k b).size (play_of (get_or (b ∷ bs) k b).size (get_or (b ∷ bs) k b).points c p)

-- stacks are one where their parts are
same_stack : (x y : Position) (xs ys : List Position) → x ≡ y → xs ≡ ys
    → (let s : Stack = record { present = x; below = xs } in s) ≡ (let s : Stack = record { present = y; below = ys } in s)
same_stack x y xs ys e f = cc

-- a board behind the first one
pub get_behind : (b : Position) (bs : List Position) (n : ℕ) → get_or (b ∷ bs) (n + 1) b ≡ get_or bs n b
get_behind b bs n = let e : n + 1 ≡ suc n = omega arith in ap (λ k. get_or (b ∷ bs) k b) e ∙ at n
  where
    at : (k : ℕ) → get_or (b ∷ bs) (suc k) b ≡ get_or bs k b
    at k = refl

-- the boards up to an index, and the one there
pub below_more : (b : Position) (bs : List Position) (n : ℕ) → n ≤ length bs → reverse (take (n + 1) (b ∷ bs)) ≡ get_or (b ∷ bs) n b ∷ reverse (take n (b ∷ bs))
below_more b bs n within = ap reverse (take_more (b ∷ bs) n b (omega arith)) ∙ reverse-append (take n (b ∷ bs)) (get_or (b ∷ bs) n b ∷ [])

-- more room above leaves the stack as it is
pub stack_room : (b x : Position) (bs : List Position) (n : ℕ) → n ≤ length bs → stack_at b (bs ++ x ∷ []) n ≡ stack_at b bs n
stack_room b x bs n within = same_stack _ _ _ _ (get_or_append_left (b ∷ bs) (x ∷ []) b n (omega arith)) (ap reverse (take-append-le n (b ∷ bs) (x ∷ []) (omega arith)))

-- the board above is written over
pub written_present : (b x : Position) (bs : List Position) (n : ℕ) → n < length bs → get_or (b ∷ set bs n x) (n + 1) b ≡ x
written_present b x bs n within = get_behind b (set bs n x) n ∙ get_or-set_same bs n x b within

pub written_below : (b x : Position) (bs : List Position) (n : ℕ) → n < length bs
    → reverse (take (n + 1) (b ∷ set bs n x)) ≡ get_or (b ∷ bs) n b ∷ reverse (take n (b ∷ bs))
written_below b x bs n within =
    let same : take (n + 1) (b ∷ set bs n x) ≡ take (n + 1) (b ∷ bs) = above n in
    ap reverse same ∙ below_more b bs n (omega arith)
  where
    above : (k : ℕ) → take (k + 1) (b ∷ set bs k x) ≡ take (k + 1) (b ∷ bs)
    above k = let e : k + 1 ≡ suc k = omega arith in ap (λ m. take m (b ∷ set bs k x)) e ∙ step k ∙ ap (λ m. take m (b ∷ bs)) (sym e)
      where
        step : (j : ℕ) → take (suc j) (b ∷ set bs j x) ≡ take (suc j) (b ∷ bs)
        step j = ap (λ xs. b ∷ xs) (take-set bs j x)

-- a stack with boards below has a play to undo
pub some_live : (b : Position) (bs : List Position) (n : ℕ) → 0 < length (stack_at b bs n).below → 0 < n
some_live b bs zero some = absurd (omega (arith, some))
some_live b bs (suc n) some = omega arith

-- of two parts of the later boards the second's first one is written over by what is made of the first's last one
pub written_split : (b r y : Position) (bs under over : List Position) (k : ℕ) (make : Position → Position) → bs ≡ under ++ over → length under ≡ k → 0 < k
    → y ≡ make (get_or under (k - 1) r) → under ++ set over 0 y ≡ set bs k (make (get_or (b ∷ bs) k b))
written_split b r y bs under over k make parts long some is =
    let e : k - 1 + 1 ≡ k = omega (arith, some) in
    let none : k - k ≡ 0 = omega arith in
    let new : Position = make (get_or (b ∷ bs) k b) in
    let below : get_or under (k - 1) r ≡ get_or (b ∷ bs) k b =
    get_or_default under (k - 1) r b (omega (arith, long, some)) ∙ sym (get_or_append_left under over b (k - 1) (omega (arith, long, some)))
    ∙ ap (λ ys. get_or ys (k - 1) b) (sym parts) ∙ sym (get_behind b bs (k - 1)) ∙ ap (λ n. get_or (b ∷ bs) n b) e in
    ap (λ z. under ++ set over 0 z) (is ∙ ap make below)
    ∙ sym (ap (λ ys. set ys k new) parts ∙ set-append_right under over k k new long (omega arith) ∙ ap (λ j. under ++ set over j new) none)

-- the boards up to an index stay where the one above it is written over
set_below : (b x : Position) (bs : List Position) (n k : ℕ) → k ≤ n → get_or (b ∷ set bs n x) k b ≡ get_or (b ∷ bs) k b
set_below b x bs n zero within = refl
set_below b x bs n (suc k) within = get_or-set_other bs n k x b (λ e. omega (arith, e, within))

-- a board that is written over is what its play made, and those before it stay so
pub made_more : (b : Position) (bs : List Position) (plays : List (Colour × ℕ)) (n : ℕ) (c : Colour) (p : ℕ) → AreMade b bs plays n → n < length bs → n < length plays
    → AreMade b (set bs n (after b bs n c p)) (set plays n (c, p)) (n + 1)
made_more b bs plays n c p old in_bs in_plays k play below is = elim (cases_eq k n) [
  | inl same ↦
      let here : play ≡ (c, p) = is ∙ ap (λ j. get_or (set plays n (c, p)) j play) same ∙ get_or-set_same plays n (c, p) play in_plays in
      ap (λ j. get_or (set bs n (after b bs n c p)) j b) same ∙ get_or-set_same bs n (after b bs n c p) b in_bs
      ∙ ap (λ (q : Position). board_on q.size (play_of q.size q.points c p)) (ap (get_or2 b bs) (sym same) ∙ sym (set_below b (after b bs n c p) bs n k (omega (arith, below))))
      ∙ ap (λ (y : Colour × ℕ). after b (set bs n (after b bs n c p)) k y.0 y.1) (sym here)
  | inr apart ↦
      let lt : k < n = omega (arith, below, apart) in
      get_or-set_other bs n k (after b bs n c p) b apart
      ∙ old k play lt (is ∙ get_or-set_other plays n k (c, p) play apart)
      ∙ ap (λ (q : Position). board_on q.size (play_of q.size q.points play.0 play.1)) (sym (set_below b (after b bs n c p) bs n k (omega (arith, below))))
]

-- more room above changes nothing of that
pub made_room : (b x : Position) (bs : List Position) (plays : List (Colour × ℕ)) (y : Colour × ℕ) (n : ℕ) → AreMade b bs plays n → n ≤ length bs → n ≤ length plays
    → AreMade b (bs ++ x ∷ []) (plays ++ y ∷ []) n
made_room b x bs plays y n old in_bs in_plays k play below is =
    get_or_append_left bs (x ∷ []) b k (omega (arith, below, in_bs))
    ∙ old k play below (is ∙ get_or_append_left plays (y ∷ []) play k (omega (arith, below, in_plays)))
    ∙ ap (λ (q : Position). board_on q.size (play_of q.size q.points play.0 play.1)) (sym (get_or_append_left (b ∷ bs) (x ∷ []) b k (omega (arith, below, in_bs))))

-- fewer of them are made as well
pub made_fewer : (b : Position) (bs : List Position) (plays : List (Colour × ℕ)) (n m : ℕ) → AreMade b bs plays n → m ≤ n → AreMade b bs plays m
made_fewer b bs plays n m old fewer k play below is = old k play (omega (arith, below, fewer)) is
