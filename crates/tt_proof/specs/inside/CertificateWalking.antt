-- What a walk over the bytes of a certificate finds: a text at their front, or the byte with which no such text goes on.
use Rattle.std.specs.Prelude.{◌≡◌, ◌≢◌, ℕ, ◌<◌, ◌≤◌, List, ◌∷◌, ◌++◌, length, take, slice_index}
use Rattle.tt_sgf.specs.declared.size.Size.{Size}
use Rattle.tt_sgf.specs.declared.size.TheConstants.{MOST_POINTS}
use Rattle.tt_game.specs.declared.turns.Turn.{Turn}
use Rattle.tt_proof.specs.Strategy.{Strategy, Entries, depth, depth_of_entries, IsInOrder, AreInOrder, IsTurnOnBoardOfSize, turn_number_on_size}
use Rattle.tt_proof.specs.CertificateText.{turn_text, column_byte, tree_text, entries_text}

-- r begins with a text of this kind, and y follows
abbrev pub BeginsByText : (List ℕ → Type 0) → List ℕ → List ℕ → Type 0
BeginsByText IsText r y = (x : List ℕ) × IsText x × (r ≡ x ++ y)

-- what stands in front of y in r begins a text of this kind, and with the first byte of y it begins none
pub record StopsBefore (IsText : List ℕ → Type 0) (r y : List ℕ) : Type 0 where
  pub front : List ℕ
  pub parts : r ≡ front ++ y
  pub begins : (more : List ℕ) × IsText (front ++ more)
  pub stops : (b : ℕ) (bs more x z : List ℕ) → y ≡ b ∷ bs → IsText x → front ++ (b ∷ more) ≡ x ++ z → ⊥

-- so many bytes in front are the same in both, and the next ones differ
pub record HaveInCommon (xs ys : List ℕ) (n : ℕ) : Type 0 where
  pub within : n ≤ length xs
  pub short : n ≤ length ys
  pub same : take n xs ≡ take n ys
  pub other : n < length xs → n < length ys → slice_index xs n ≢ slice_index ys n

module _ (size : Size) where
  -- a turn of the board whose number is at least so great
  pub record IsTurnFrom (least : ℕ) (t : Turn) : Type 0 where
    pub on_board : IsTurnOnBoardOfSize size t
    pub rises : least ≤ turn_number_on_size size t

  -- the text of one
  abbrev pub IsTextOfTurnFrom : ℕ → List ℕ → Type 0
  IsTextOfTurnFrom least x = (t : Turn) × IsTurnFrom least t × (x ≡ turn_text size t)

  -- the first byte of one
  abbrev pub IsFirstByteOfTurnFrom : ℕ → ℕ → Type 0
  IsFirstByteOfTurnFrom least b = (t : Turn) × IsTurnFrom least t × (b ≡ column_byte size t)

  -- r begins with the text of one that has this number, and y follows
  pub record BeginsWithTurnFrom (least number : ℕ) (r y : List ℕ) : Type 0 where
    pub turn : Turn
    pub from : IsTurnFrom least turn
    pub number_is : number ≡ turn_number_on_size size turn
    pub small : number ≤ MOST_POINTS
    pub text : r ≡ turn_text size turn ++ y

  -- the text of a tree in order, of a depth of at most d
  abbrev pub IsTextOfTree : ℕ → List ℕ → Type 0
  IsTextOfTree d x = (u : Strategy) × IsInOrder size u × (depth u ≤ d) × (x ≡ tree_text size u)

  -- the text of entries in order, of a depth of at most d
  abbrev pub IsTextOfEntries : ℕ → ℕ → List ℕ → Type 0
  IsTextOfEntries d least x = (es : Entries) × AreInOrder size least es × (depth_of_entries es ≤ d) × (x ≡ entries_text size es)
