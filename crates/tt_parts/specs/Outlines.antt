-- Certificates with shared parts: an outline is a strategy in which trees have names, and a name may stand for its tree.
use Rattle.std.specs.Prelude.{◌≡◌, ℕ, zero, suc, ◌+◌, ◌≤◌, ◌<◌, ◌⊎◌, Bool, true, false, List, [], ◌∷◌, ◌++◌, length, get_or, decimal}
use Rattle.tt_sgf.specs.Bytes.{semicolon}
use Rattle.tt_sgf.specs.declared.size.Size.{Size}
use Rattle.tt_game.specs.declared.frame.Side.{Side}
use Rattle.tt_game.specs.declared.turns.Turn.{Turn}
use Rattle.tt_parts.specs.declared.outlines.Outline as form
use Rattle.tt_parts.specs.declared.outlines.Outline.TheOpen as layer
use Rattle.tt_proof.specs.declared.tree.TheConstants.{MOST_DEPTH}
use Rattle.tt_proof.specs.Strategy.{Strategy, Entries, done, pick, reply, none, entry, depth, IsTurnOnBoardOfSize, turn_number_on_size}
use Rattle.tt_proof.specs.CertificateText.{won_symbol, pick_symbol, replies_symbol, turn_text, side_prefix}

mutual
  -- nothing more to play; a turn, and how it goes on; an answer to each turn of the other side; or the tree with this name. The
  -- flag says that the tree that begins there has a name
  pub data Outline : Type 0 where
    ended : Outline
    picked : Bool → Turn → Outline → Outline
    replied : Bool → Branches → Outline
    part : ℕ → Outline

  -- turns of the other side, each with how it goes on
  pub data Branches : Type 0 where
    no_branch : Branches
    branch : Turn → Outline → Branches → Branches

-- the trees of all names, with one more where the tree has a name
abbrev pub with_named_tree : Bool → Strategy → List Strategy → List Strategy
with_named_tree true u us = us ++ u ∷ []
with_named_tree false u us = us

abbrev mutual
  -- the strategy that an outline is, with the trees put in that the names before it stand for
  pub unfolded : List Strategy → Outline → Strategy
  unfolded us ended = done
  unfolded us (picked n t o) = pick t (unfolded us o)
  unfolded us (replied n bs) = reply (unfolded_entries us bs)
  unfolded us (part k) = get_or us k done

  pub unfolded_entries : List Strategy → Branches → Entries
  unfolded_entries us no_branch = none
  unfolded_entries us (branch t o bs) = entry t (unfolded us o) (unfolded_entries (named_trees_after us o) bs)

  -- the trees of all names behind an outline: names are numbers, in the order in which the named trees end
  pub named_trees_after : List Strategy → Outline → List Strategy
  named_trees_after us ended = us
  named_trees_after us (picked n t o) = with_named_tree n (pick t (unfolded us o)) (named_trees_after us o)
  named_trees_after us (replied n bs) = with_named_tree n (reply (unfolded_entries us bs)) (named_trees_after_branches us bs)
  named_trees_after us (part k) = us

  pub named_trees_after_branches : List Strategy → Branches → List Strategy
  named_trees_after_branches us no_branch = us
  named_trees_after_branches us (branch t o bs) = named_trees_after_branches (named_trees_after us o) bs

abbrev mutual
  -- a name stands only for a tree that has ended before, and has nine digits at the most
  pub RefersBack : List Strategy → Outline → Type 0
  RefersBack us ended = Unit {0}
  RefersBack us (picked n t o) = RefersBack us o
  RefersBack us (replied n bs) = BranchesReferBack us bs
  RefersBack us (part k) = (k < length us) × (k < 1000000000)

  pub BranchesReferBack : List Strategy → Branches → Type 0
  BranchesReferBack us no_branch = Unit {0}
  BranchesReferBack us (branch t o bs) = RefersBack us o × BranchesReferBack (named_trees_after us o) bs

abbrev mutual
  -- the turns lie on the board, and those of each reply rise by their numbers
  pub IsOutlineInOrder : Size → Outline → Type 0
  IsOutlineInOrder size ended = Unit {0}
  IsOutlineInOrder size (picked n t o) = IsTurnOnBoardOfSize size t × IsOutlineInOrder size o
  IsOutlineInOrder size (replied n bs) = AreBranchesInOrder size 0 bs
  IsOutlineInOrder size (part k) = Unit {0}

  pub AreBranchesInOrder : Size → ℕ → Branches → Type 0
  AreBranchesInOrder size least no_branch = Unit {0}
  AreBranchesInOrder size least (branch t o bs) =
      (least ≤ turn_number_on_size size t) × IsTurnOnBoardOfSize size t × IsOutlineInOrder size o × AreBranchesInOrder size (turn_number_on_size size t + 1) bs

-- ---- texts: `=` in front of a tree names it, `*` and a number stands for the tree of that name
abbrev pub naming_symbol : ℕ
naming_symbol = 61

abbrev pub part_symbol : ℕ
part_symbol = 42

abbrev pub naming_text : Bool → List ℕ
naming_text true = naming_symbol ∷ []
naming_text false = []

module _ (size : Size) where
  abbrev mutual
    pub outline_text : Outline → List ℕ
    outline_text ended = won_symbol ∷ []
    outline_text (picked n t o) = naming_text n ++ (pick_symbol ∷ (turn_text size t ++ outline_text o))
    outline_text (replied n bs) = naming_text n ++ (replies_symbol ∷ branches_text bs)
    outline_text (part k) = part_symbol ∷ decimal k

    pub branches_text : Branches → List ℕ
    branches_text no_branch = semicolon ∷ []
    branches_text (branch t o bs) = turn_text size t ++ (outline_text o ++ branches_text bs)

  -- the bytes are the certificate of this side and outline: its names stand for trees that have ended, its turns are in order,
  -- and its tree has at most 512 turns on each way down
  pub record IsSharedCertificate (bytes : List ℕ) (side : Side) (o : Outline) : Type 0 where
    pub closed : RefersBack [] o
    pub orderly : IsOutlineInOrder size o
    pub shallow : depth (unfolded [] o) ≤ MOST_DEPTH
    pub text : bytes ≡ side_prefix side ++ outline_text o

-- no decimal digit stands in front
abbrev pub HasNoDigitInFront : List ℕ → Type 0
HasNoDigitInFront [] = Unit {0}
HasNoDigitInFront (b ∷ bs) = (48 ≤ b) × (b ≤ 57) → ⊥

module _ (size : Size) where
  abbrev mutual
    -- the bytes begin as the outline's text does, up to where its tree goes deeper than so many turns: up to a turn with as many
    -- above it, or to the whole name of a tree that is too deep there
    pub OutlineGoesDeep : List Strategy → ℕ → Outline → List ℕ → Type 0
    OutlineGoesDeep us left ended r = ⊥
    OutlineGoesDeep us zero (picked n t o) r = (y : List ℕ) × (r ≡ naming_text n ++ (pick_symbol ∷ (turn_text size t ++ y)))
    OutlineGoesDeep us (suc left) (picked n t o) r =
        (y : List ℕ) × ((r ≡ naming_text n ++ (pick_symbol ∷ (turn_text size t ++ y))) × OutlineGoesDeep us left o y)
    OutlineGoesDeep us left (replied n bs) r = (y : List ℕ) × ((r ≡ naming_text n ++ (replies_symbol ∷ y)) × BranchesGoDeep us left bs y)
    OutlineGoesDeep us left (part k) r =
        (y : List ℕ) × ((r ≡ part_symbol ∷ (decimal k ++ y)) × HasNoDigitInFront y × (left < depth (get_or us k done)))

    -- so with the branches' text
    pub BranchesGoDeep : List Strategy → ℕ → Branches → List ℕ → Type 0
    BranchesGoDeep us left no_branch r = ⊥
    BranchesGoDeep us zero (branch t o bs) r = (y : List ℕ) × (r ≡ turn_text size t ++ y)
    BranchesGoDeep us (suc left) (branch t o bs) r =
        ((y : List ℕ) × ((r ≡ turn_text size t ++ y) × OutlineGoesDeep us left o y))
        ⊎ ((y : List ℕ) × ((r ≡ turn_text size t ++ (outline_text size o ++ y)) × BranchesGoDeep (named_trees_after us o) (suc left) bs y))

  -- the bytes begin as a certificate with shared parts does whose tree has more than so many turns on some way down, up to there
  pub record IsSharedCertTooDeep (most : ℕ) (bytes : List ℕ) : Type 0 where
    pub side : Side
    pub outline : Outline
    pub behind : List ℕ
    pub closed : RefersBack [] outline
    pub orderly : IsOutlineInOrder size outline
    pub deep : OutlineGoesDeep [] most outline behind
    pub text : bytes ≡ side_prefix side ++ behind

-- ---- the outline that a value of the program is, whatever memory it lies in
abbrev pub branches_of : List (Turn × Outline) → Branches
branches_of [] = no_branch
branches_of (b ∷ bs) = branch b.0 b.1 (branches_of bs)

abbrev pub outline_of_layer : layer.Outline-F Outline → Outline
outline_of_layer layer.Done = ended
outline_of_layer (layer.Pick n t b) = picked n t b.value
outline_of_layer (layer.Reply n b) = replied n (branches_of b.value.items)
outline_of_layer (layer.Part k) = part k

unfoldable pub outline_of : form.Outline → Outline
outline_of = form.fold-Outline Outline outline_of_layer

-- the branches that the list of a `Reply` is
abbrev pub branches_of_reply : List (Turn × form.Outline) → Branches
branches_of_reply [] = no_branch
branches_of_reply (b ∷ bs) = branch b.0 (outline_of b.1) (branches_of_reply bs)
