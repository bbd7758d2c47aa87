-- Lemmas on an output of blocks: a numbered line, and lines below it that begin with no digit.
use Rattle.std.proofs.Common.{◌≡◌, ◌<◌, ◌^◌, ◌+◌, ℕ, List, [], ◌∷◌, ◌++◌, All, sym, subst, decimal}
use Rattle.std.proofs.lemmas.List.Elements.{All-cons, All-head, All-nil, All-tail}
use Rattle.tt_sgf.specs.Bytes.{space}
use Rattle.tt_text.specs.Headline.{IsNumberedLine}
use Rattle.tt_text.specs.OtherLines.{IsUnnumbered}
use Rattle.tt_text.proofs.OutputLines.{EachHasNoDigitInFront, HasNoDigitInFront, heads, is_numbered, not_numbered, number_and_words, tails}

-- a line with no digit in front isn't the numbered one
skip : (tail ls above below : List (List ℕ)) (head : List ℕ) (k : ℕ) (words : List ℕ) → EachHasNoDigitInFront tail → tail ++ ls ≡ above ++ (head ∷ below)
    → IsNumberedLine head k words → (nearer : List (List ℕ)) × (ls ≡ nearer ++ (head ∷ below))
skip [] ls above below head k words none e is = (above, e)
skip (l ∷ tail) ls [] below head k words none e is = absurd (not_numbered head k words (subst HasNoDigitInFront (heads e) none.0) is)
skip (l ∷ tail) ls (a ∷ above) below head k words none e is = skip tail ls above below head k words none.1 (tails e) is

-- what is so of the number, the words, and the lines below
module _ (Truth : ℕ → List ℕ → List (List ℕ) → Type 0) where
  -- blocks, the first of which has number k
  pub data Blocks : ℕ → List (List ℕ) → Type 0 where
    no_block : (k : ℕ) → Blocks k []
    block : (k : ℕ) (words : List ℕ) (tail rest : List (List ℕ)) → k < 2 ^ 64 → EachHasNoDigitInFront tail → Truth k words tail → Blocks (k + 1) rest
        → Blocks k ((decimal k ++ (space ∷ words)) ∷ (tail ++ rest))

  -- the block of a numbered line: its lines stand below it, and then other blocks
  pub record BlockOf (k : ℕ) (words : List ℕ) (below : List (List ℕ)) : Type 0 where
    pub tail : List (List ℕ)
    pub rest : List (List ℕ)
    pub next : ℕ
    pub none : EachHasNoDigitInFront tail
    pub truth : Truth k words tail
    pub below_is : below ≡ tail ++ rest
    pub more : Blocks next rest

  -- each numbered line has one
  pub find_block : (j : ℕ) (ls above below : List (List ℕ)) (head : List ℕ) (k : ℕ) (words : List ℕ) → Blocks j ls → ls ≡ above ++ (head ∷ below)
      → IsNumberedLine head k words → BlockOf k words below
  find_block j ls [] below head k words (no_block i) e is = absurd (let bad : [] ≡ head ∷ below = e in cc)
  find_block j ls (a ∷ above) below head k words (no_block i) e is = absurd (let bad : [] ≡ a ∷ (above ++ (head ∷ below)) = e in cc)
  find_block j ls [] below head k words (block i others tail rest low none truth more) e is =
      let same = number_and_words i k others words low (subst (λ (x : List ℕ). IsNumberedLine x k words) (sym (heads e)) is) in record {
        tail = tail;
        rest = rest;
        next = i + 1;
        none = none;
        truth = subst (λ (n : ℕ). Truth n words tail) (sym same.0) (subst (λ (x : List ℕ). Truth i x tail) same.1 truth);
        below_is = sym (tails e);
        more = more;
      }
  find_block j ls (a ∷ above) below head k words (block i others tail rest low none truth more) e is =
      let nearer = skip tail rest above below head k words none (tails e) is in
      find_block (i + 1) rest nearer.0 below head k words more nearer.1 is

  -- lines without a number that stand behind a numbered one are its own
  pub own_lines : (P : List ℕ → Type 0) (j : ℕ) (below tail rest after : List (List ℕ)) → below ++ after ≡ tail ++ rest → All IsUnnumbered below → All P tail → Blocks j rest
      → All P below
  own_lines P j [] tail rest after e none is more = All-nil P
  own_lines P j (b ∷ bs) (l ∷ ls) rest after e none is more =
      All-cons P b bs (subst P (sym (heads e)) (All-head P l ls is)) (own_lines P j bs ls rest after (tails e) (All-tail IsUnnumbered b bs none) (All-tail P l ls is) more)
  own_lines P j (b ∷ bs) [] rest after e none is (no_block i) = absurd (let bad : b ∷ (bs ++ after) ≡ [] = e in cc)
  own_lines P j (b ∷ bs) [] rest after e none is (block i words tail others low n truth more) =
      absurd (All-head IsUnnumbered b bs none i words (subst (λ (x : List ℕ). IsNumberedLine x i words) (sym (heads e)) (is_numbered i words low)))
