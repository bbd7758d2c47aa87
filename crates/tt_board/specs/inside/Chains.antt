-- Chains (the rules of Go): their stones and liberties, and the names by which a board finds them. Private contracts alone cite these.
use Rattle.std.specs.Prelude.{◌≡◌, ◌≢◌, ℕ, ◌%◌, ◌/◌, ◌<◌, ◌≤◌, ◌⊎◌, ◌↔◌, ◌==◌, ◌&&◌, List, [], ◌∷◌, length, Option, Some, None, Bool, not, if◌then◌else◌, count_by, slice_index_or}
use Rattle.std.specs.List.{range_with_len}
use Rattle.std.proofs.lemmas.Bool.{cases_eq}
use Rattle.tt_board.specs.declared.Colour.{Colour}
use Rattle.tt_board.specs.declared.Colour.TheVariants.{Black, White}
use Rattle.tt_sgf.specs.declared.size.Size.{Size}
use Rattle.tt_sgf.specs.declared.size.TheConstants.{MOST_POINTS}
use Rattle.tt_sgf.specs.Sizes.{point_count}
use Rattle.tt_board.specs.declared.counted.chain_counts.ChainCounts.{ChainCounts}
use Rattle.tt_board.specs.declared.counted.play_kind.NeighbourNames.{NeighbourNames}
use Rattle.tt_board.specs.declared.counted.play_kind.TheConstants.{OFF_BOARD_NAME}
use Rattle.tt_board.specs.Near.{IsNeighbour}
use Rattle.tt_board.specs.Position.{Colouring}
use Rattle.tt_board.specs.Reach.{entry_at}
use Rattle.tt_board.specs.Setup.{AllHaveLiberties}
use Rattle.tt_board.specs.Decided.{Decision, decide_both, decide_some_below, decide_neighbour, decision_test}

-- a path of adjacent points of one colour leads from p to q
abbrev pub Leads : Size → Colouring → ℕ → List ℕ → ℕ → Type 0
Leads s c p [] q = p ≡ q
Leads s c p (r ∷ rest) q = IsNeighbour s p r × (entry_at c r ≡ entry_at c p) × Leads s c r rest q

-- p and q are of one chain
abbrev pub AreLinked : Size → Colouring → ℕ → ℕ → Type 0
AreLinked s c p q = (path : List ℕ) × Leads s c p path q

-- the numbers of a list differ
abbrev pub IsEachOnce : List ℕ → Type 0
IsEachOnce xs = (i j : ℕ) → i < j → j < length xs → slice_index_or xs i 0 ≢ slice_index_or xs j 0

-- ---- how a board keeps them

-- the name of the chain on the point p; 0 where it is empty
abbrev pub name_at : List ℕ → ℕ → ℕ
name_at ns p = slice_index_or ns p 0

-- the point where the counts of a chain are kept: one of its stones
abbrev pub root_of : ℕ → ℕ
root_of e = e % 512

-- a colour as part of a name
abbrev pub colour_number : Colour → ℕ
colour_number Black = 1
colour_number White = 2

-- a name fits what stands on a point
abbrev pub IsNamed : Option Colour → ℕ → Type 0
IsNamed None e = e ≡ 0
IsNamed (Some k) e = e / 512 ≡ colour_number k

-- the names name the chains: two stones have one name exactly where they are of one chain
pub record AreNames (s : Size) (c : Colouring) (ns : List ℕ) : Type 0 where
  pub named : (q : ℕ) → IsNamed (entry_at c q) (name_at ns q)
  pub linked : (p q : ℕ) → p < point_count s → q < point_count s → entry_at c p ≢ None → entry_at c q ≢ None
      → (name_at ns p ≡ name_at ns q) ↔ AreLinked s c p q

-- a stone of chain e is beside q
abbrev pub Touches : Size → List ℕ → ℕ → ℕ → Type 0
Touches s ns e q = (r : ℕ) × (r < point_count s) × (IsNeighbour s q r × (name_at ns r ≡ e))

pub touching : (s : Size) (ns : List ℕ) (e q : ℕ) → Decision (Touches s ns e q)
touching s ns e q = decide_some_below (λ r. IsNeighbour s q r × (name_at ns r ≡ e)) (λ r. decide_both (decide_neighbour s q r) (same (name_at ns r) e)) (point_count s)
  where
    same : (a b : ℕ) → Decision (a ≡ b)
    same a b = cases_eq a b

-- q is a liberty of chain e: an empty point beside one of its stones
abbrev pub is_liberty : Size → List ℕ → ℕ → ℕ → Bool
is_liberty s ns e q = (name_at ns q == 0) && decision_test (touching s ns e q)

-- how many liberties chain e has
unfoldable pub liberty_count : Size → List ℕ → ℕ → ℕ
liberty_count s ns e = count_by (is_liberty s ns e) (range_with_len 0 (point_count s))

-- how many stones chain e has
unfoldable pub stone_count : List ℕ → ℕ → ℕ
stone_count ns e = count_by (λ x. x == e) ns

-- e is a chain on the board, so its counts stand at its root
abbrev pub IsLiving : List ℕ → ℕ → Type 0
IsLiving ns e = (e ≢ 0) × (name_at ns (root_of e) ≡ e)

-- the names stand on the board alone; the counts of each chain stand at its root, and are true
pub record AreCounted (s : Size) (b : ChainCounts) : Type 0 where
  pub ends : (q : ℕ) → point_count s ≤ q → name_at b.names q ≡ 0
  pub rooted : (p : ℕ) → name_at b.names p ≢ 0 → name_at b.names (root_of (name_at b.names p)) ≡ name_at b.names p
  pub stones_true : (p : ℕ) → name_at b.names p ≢ 0 → name_at b.stones (root_of (name_at b.names p)) ≡ stone_count b.names (name_at b.names p)
  pub liberties_true : (p : ℕ) → name_at b.names p ≢ 0 → name_at b.liberties (root_of (name_at b.names p)) ≡ liberty_count s b.names (name_at b.names p)

-- a board with its chains and their counts; its stones stand before the end
pub record ChainBoard : Type 0 where
  pub size : Size
  pub points : Colouring
  pub counts : ChainCounts
  pub end : ℕ

-- each stone reaches empty and stands before the end, the names name the chains, and their counts are true
pub record IsChainBoard (b : ChainBoard) : Type 0 where
  pub fits : length b.points ≡ point_count b.size
  pub named : AreNames b.size b.points b.counts.names
  pub counted : AreCounted b.size b.counts
  pub alive : AllHaveLiberties b.size b.points
  pub rest : (q : ℕ) → b.end ≤ q → entry_at b.points q ≡ None

-- ---- how the code gets there

-- m is one of four names
abbrev pub IsOneName : ℕ → ℕ → ℕ → ℕ → ℕ → Type 0
IsOneName a b c d m = (a ≡ m) ⊎ (b ≡ m) ⊎ (c ≡ m) ⊎ (d ≡ m)

-- m is the name of a chain, as u isn't, and none of three others
abbrev pub IsNewName : ℕ → ℕ → ℕ → ℕ → ℕ → Type 0
IsNewName u m a b c = (m ≢ 0) × (m ≢ u) × (m ≢ a) × (m ≢ b) × (m ≢ c)

-- names of different roots
abbrev pub AreRootsApart : List ℕ → Type 0
AreRootsApart xs = (i j : ℕ) → i < j → j < length xs → root_of (name_at xs i) ≢ root_of (name_at xs j)

-- the name b instead of a
abbrev pub renamed : ℕ → ℕ → ℕ → ℕ
renamed a b x = if x == a then b else x

-- q is empty, and beside no stone of chain e
abbrev pub is_new : Size → List ℕ → ℕ → ℕ → Bool
is_new s ns e q = (name_at ns q == 0) && not (decision_test (touching s ns e q))

-- how many points beside p pass a test
unfoldable pub count_beside : Size → (ℕ → Bool) → ℕ → ℕ
count_beside s test p = count_by (λ q. test q && decision_test (decide_neighbour s p q)) (range_with_len 0 (point_count s))

-- 1 for a point that is there and passes a test, 0 for another one or none
abbrev pub count_there : (ℕ → Bool) → Option ℕ → ℕ
count_there test None = 0
count_there test (Some q) = if test q then 1 else 0

-- 1 for the name of an empty point, 0 for another one
abbrev pub bare_one : ℕ → ℕ
bare_one m = if m == 0 then 1 else 0

-- the names on the four neighbours of p, whose roots are points; OFF_BOARD_NAME where the board has no such point
pub record AreNear (s : Size) (ns : List ℕ) (p : ℕ) (near : NeighbourNames) : Type 0 where
  pub touching : (m : ℕ) → m ≢ OFF_BOARD_NAME → IsOneName near.above near.left near.right near.below m ↔ Touches s ns m p
  pub bare : near.empty ≡ count_beside s (λ q. name_at ns q == 0) p
  pub roots : (m : ℕ) → IsOneName near.above near.left near.right near.below m → root_of m < MOST_POINTS

-- each chain but one has its root
abbrev pub OtherChainsRooted : List ℕ → ℕ → Type 0
OtherChainsRooted ns e = (p : ℕ) → name_at ns p ≢ 0 → name_at ns p ≢ e → name_at ns (root_of (name_at ns p)) ≡ name_at ns p

-- the counts of liberties are true of each chain but one
abbrev pub OtherChainsCounted : Size → List ℕ → List ℕ → ℕ → Type 0
OtherChainsCounted s ns liberties e = (p : ℕ) → name_at ns p ≢ 0 → name_at ns p ≢ e → name_at liberties (root_of (name_at ns p)) ≡ liberty_count s ns (name_at ns p)

-- e is a chain of so many stones, by names that stand on the board alone
pub record IsChainOf (s : Size) (ns : List ℕ) (e stones : ℕ) : Type 0 where
  pub ends : (q : ℕ) → point_count s ≤ q → name_at ns q ≡ 0
  pub living : e ≢ 0
  pub rooted : name_at ns (root_of e) ≡ e
  pub count : stones ≡ stone_count ns e

-- each chain but e has its root, where the count of its liberties is true
pub record AreOthersCounted (s : Size) (ns liberties : List ℕ) (e : ℕ) : Type 0 where
  pub rooted : OtherChainsRooted ns e
  pub counted : OtherChainsCounted s ns liberties e

-- a colouring has lost the stones of chain e, and no other
pub record HasLost (ns : List ℕ) (e : ℕ) (old new : Colouring) : Type 0 where
  pub fits : length new ≡ length old
  pub gone : (q : ℕ) → name_at ns q ≡ e → entry_at new q ≡ None
  pub kept : (q : ℕ) → name_at ns q ≢ e → entry_at new q ≡ entry_at old q

-- a and b are two chains
pub record AreTwoChains (ns : List ℕ) (a b : ℕ) : Type 0 where
  pub living : (a ≢ 0) × (b ≢ 0)
  pub apart : a ≢ b
  pub rooted : (name_at ns (root_of a) ≡ a) × (name_at ns (root_of b) ≡ b)

-- names that name the chains, but that the stone on p isn't joined with those beside it yet
pub record AreNamesBut (s : Size) (c : Colouring) (ns : List ℕ) (p : ℕ) : Type 0 where
  pub named : (q : ℕ) → IsNamed (entry_at c q) (name_at ns q)
  pub one_chain : (x y : ℕ) → x < point_count s → y < point_count s → name_at ns x ≢ 0 → name_at ns x ≡ name_at ns y → AreLinked s c x y
  pub one_name : (x y : ℕ) → x < point_count s → IsNeighbour s x y → x ≢ p → y ≢ p → entry_at c x ≢ None → entry_at c y ≡ entry_at c x → name_at ns x ≡ name_at ns y

-- stones have become one with that on p: those of one name still have one, and what has another name than before has p's
pub record AreGathered (s : Size) (old new : List ℕ) (p : ℕ) : Type 0 where
  pub ends : (q : ℕ) → point_count s ≤ q → name_at new q ≡ 0
  pub stone : 512 ≤ name_at new p
  pub named : (c : Colouring) → AreNamesBut s c old p → AreNamesBut s c new p
  pub together : (x y : ℕ) → name_at old x ≡ name_at old y → name_at new x ≡ name_at new y
  pub changed : (x : ℕ) → (name_at new x ≡ name_at old x) ⊎ (name_at new x ≡ name_at new p)
