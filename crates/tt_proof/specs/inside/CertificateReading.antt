-- What the reader finds at the front of bytes.
use Rattle.std.specs.Prelude.{◌≡◌, ℕ, ◌≤◌, List, ◌++◌}
use Rattle.tt_sgf.specs.declared.size.Size.{Size}
use Rattle.tt_proof.specs.declared.certificate_read.CertFault.{CertFault}
use Rattle.tt_proof.specs.declared.certificate_read.CertFault.TheVariants.{Syntax, TooDeep, NoMemory}
use Rattle.tt_proof.specs.Strategy.{Strategy, Entries, depth, depth_of_entries, IsInOrder, AreInOrder}
use Rattle.tt_proof.specs.CertificateText.{tree_text, entries_text, IsTreeTextDownTo, IsEntriesTextDownTo}

module _ (size : Size) where
  -- r begins with the text of u, of a depth of at most d, and y follows
  pub record TreeAt (d : ℕ) (u : Strategy) (r y : List ℕ) : Type 0 where
    pub in_order : IsInOrder size u
    pub shallow : depth u ≤ d
    pub text : r ≡ tree_text size u ++ y

  -- some beginning of r ends with a turn that has d turns above it, and can be completed
  pub record DeepAt (d : ℕ) (r : List ℕ) : Type 0 where
    pub tree : Strategy
    pub beginning : List ℕ
    pub follows : List ℕ
    pub in_order : IsInOrder size tree
    pub ends : IsTreeTextDownTo size tree d beginning
    pub text : r ≡ beginning ++ follows

  pub record EntriesAt (d least : ℕ) (es : Entries) (r y : List ℕ) : Type 0 where
    pub in_order : AreInOrder size least es
    pub shallow : depth_of_entries es ≤ d
    pub text : r ≡ entries_text size es ++ y

  pub record EntriesDeepAt (d least : ℕ) (r : List ℕ) : Type 0 where
    pub entries : Entries
    pub beginning : List ℕ
    pub follows : List ℕ
    pub in_order : AreInOrder size least entries
    pub ends : IsEntriesTextDownTo size entries d beginning
    pub text : r ≡ beginning ++ follows

  abbrev pub FaultAt : ℕ → List ℕ → CertFault → Type 0
  FaultAt d r Syntax = ((u : Strategy) (y : List ℕ) → TreeAt d u r y → ⊥) × (DeepAt d r → ⊥)
  FaultAt d r TooDeep = DeepAt d r
  FaultAt d r NoMemory = Unit {0}

  abbrev pub EntriesFaultAt : ℕ → ℕ → List ℕ → CertFault → Type 0
  EntriesFaultAt d least r Syntax =
      ((es : Entries) (y : List ℕ) → EntriesAt d least es r y → ⊥) × (EntriesDeepAt d least r → ⊥)
  EntriesFaultAt d least r TooDeep = EntriesDeepAt d least r
  EntriesFaultAt d least r NoMemory = Unit {0}
