-- The text of a certificate. Points are written as SGF FF[4] writes them: the letter of the column, then that of the row.
use Rattle.std.specs.Prelude.{◌≡◌, ℕ, zero, suc, ◌+◌, ◌/◌, ◌%◌, ◌≤◌, ◌⊎◌, List, [], ◌∷◌, ◌++◌, codes}
use Rattle.tt_sgf.specs.Bytes.{lower_a, semicolon, space}
use Rattle.tt_sgf.specs.declared.size.Size.{Size}
use Rattle.tt_game.specs.declared.frame.Side.{Side}
use Rattle.tt_game.specs.Sides.{verdict_word}
use Rattle.tt_game.specs.declared.turns.Turn.{Turn}
use Rattle.tt_game.specs.declared.turns.Turn.TheVariants.{Play, Pass}
use Rattle.tt_proof.specs.declared.tree.TheConstants.{MOST_DEPTH}
use Rattle.tt_proof.specs.Strategy.{Strategy, Entries, done, pick, reply, none, entry, depth, IsInOrder}

-- ---- bytes by their names: `.`, `!`, `?` and the dash of a pass
abbrev pub won_symbol : ℕ
won_symbol = 46

abbrev pub pick_symbol : ℕ
pick_symbol = 33

abbrev pub replies_symbol : ℕ
replies_symbol = 63

abbrev pub dash : ℕ
dash = 45

-- ---- texts

-- the word of the side that wins, and a blank
abbrev pub side_prefix : Side → List ℕ
side_prefix side = verdict_word side ++ space ∷ []

module _ (size : Size) where
  -- the letter of the column, or a dash
  abbrev pub column_byte : Turn → ℕ
  column_byte (Play p) = lower_a + p % size.columns
  column_byte Pass = dash

  -- the letter of the row, or a dash
  abbrev pub row_byte : Turn → ℕ
  row_byte (Play p) = lower_a + p / size.columns
  row_byte Pass = dash

  -- `ca` is the third column of the first row, `--` a pass
  abbrev pub turn_text : Turn → List ℕ
  turn_text t = column_byte t ∷ row_byte t ∷ []

  -- the same for people to read: a pass is `pass`
  abbrev pub readable_turn_text : Turn → List ℕ
  readable_turn_text (Play p) = turn_text (Play p)
  readable_turn_text Pass = codes "pass"

  abbrev mutual
    -- `.`, `!` with a turn and a tree, or `?` with turns and trees up to `;`
    pub tree_text : Strategy → List ℕ
    tree_text done = won_symbol ∷ []
    tree_text (pick t u) = pick_symbol ∷ (turn_text t ++ tree_text u)
    tree_text (reply es) = replies_symbol ∷ entries_text es

    pub entries_text : Entries → List ℕ
    entries_text none = semicolon ∷ []
    entries_text (entry t u es) = turn_text t ++ (tree_text u ++ entries_text es)

  abbrev pub certificate_text : Side → Strategy → List ℕ
  certificate_text side u = side_prefix side ++ tree_text u

  abbrev mutual
    -- x is a beginning of the tree's text that ends with a turn, and d turns lie above that one
    pub IsTreeTextDownTo : Strategy → ℕ → List ℕ → Type 0
    IsTreeTextDownTo done d x = ⊥
    IsTreeTextDownTo (pick t u) zero x = x ≡ pick_symbol ∷ turn_text t
    IsTreeTextDownTo (pick t u) (suc d) x = (y : List ℕ) × ((x ≡ pick_symbol ∷ (turn_text t ++ y)) × IsTreeTextDownTo u d y)
    IsTreeTextDownTo (reply es) d x = (y : List ℕ) × ((x ≡ replies_symbol ∷ y) × IsEntriesTextDownTo es d y)

    -- so with the entries' text
    pub IsEntriesTextDownTo : Entries → ℕ → List ℕ → Type 0
    IsEntriesTextDownTo none d x = ⊥
    IsEntriesTextDownTo (entry t u es) zero x =
        (x ≡ turn_text t) ⊎ ((y : List ℕ) × ((x ≡ turn_text t ++ (tree_text u ++ y)) × IsEntriesTextDownTo es zero y))
    IsEntriesTextDownTo (entry t u es) (suc d) x =
        ((y : List ℕ) × ((x ≡ turn_text t ++ y) × IsTreeTextDownTo u d y))
        ⊎ ((y : List ℕ) × ((x ≡ turn_text t ++ (tree_text u ++ y)) × IsEntriesTextDownTo es (suc d) y))

  -- the bytes are the certificate of this side and tree, which is in order and has at most 512 turns on each way down
  pub record IsCertificate (bytes : List ℕ) (side : Side) (u : Strategy) : Type 0 where
    pub in_order : IsInOrder size u
    pub shallow : depth u ≤ MOST_DEPTH
    pub text : bytes ≡ certificate_text side u

  -- some beginning of the bytes ends with a turn below 512 others, and can be completed to the text of a tree in order
  pub record IsTooDeep (bytes : List ℕ) : Type 0 where
    pub side : Side
    pub tree : Strategy
    pub beginning : List ℕ
    pub follows : List ℕ
    pub in_order : IsInOrder size tree
    pub ends : IsTreeTextDownTo tree MOST_DEPTH beginning
    pub text : bytes ≡ side_prefix side ++ (beginning ++ follows)
