-- What the reader of certificates with shared parts finds at the front of bytes.
use Rattle.std.specs.Prelude.{◌≡◌, ℕ, ◌≤◌, ◌<◌, ◌^◌, ◌-◌, min, Bool, true, false, List, [], ◌∷◌, ◌++◌, map}
use Rattle.std.specs.Str.Parse.{AllDigits, digits_value}
use Rattle.tt_sgf.specs.declared.size.Size.{Size}
use Rattle.tt_proof.specs.declared.certificate_read.CertFault.{CertFault}
use Rattle.tt_proof.specs.declared.certificate_read.CertFault.TheVariants.{Syntax, TooDeep, NoMemory}
use Rattle.tt_proof.specs.Strategy.{Strategy, depth, depth_of_entries}
use Rattle.tt_parts.specs.Outlines.{Outline, Branches, ended, picked, replied, part, unfolded, unfolded_entries, named_trees_after, named_trees_after_branches}
use Rattle.tt_parts.specs.Outlines.{RefersBack, BranchesReferBack, IsOutlineInOrder, AreBranchesInOrder, outline_text, branches_text, OutlineGoesDeep, BranchesGoDeep}
pub use Rattle.tt_parts.specs.Outlines.{HasNoDigitInFront}

-- the depths of all named trees, with one more where the tree has a name
abbrev pub with_depth : Bool → ℕ → List ℕ → List ℕ
with_depth true d ds = ds ++ d ∷ []
with_depth false d ds = ds

-- digits are all that stands before y, which begins with none, and n is their number, or the greatest of 32 bits
pub record DigitsAt (n : ℕ) (r y : List ℕ) : Type 0 where
  pub digits : List ℕ
  pub all : AllDigits 10 digits
  pub value : n ≡ min (digits_value 10 digits) (2 ^ 32 - 1)
  pub text : r ≡ digits ++ y
  pub ends : HasNoDigitInFront y

-- where an outline ends with a name, no digit follows
abbrev pub EndsBefore : Outline → List ℕ → Type 0
EndsBefore ended y = Unit {0}
EndsBefore (picked n t o) y = EndsBefore o y
EndsBefore (replied n bs) y = Unit {0}
EndsBefore (part k) y = HasNoDigitInFront y

module _ (size : Size) where
  -- r begins with the text of o, whose tree has the depth d, and y follows; the names so far stand for us
  pub record OutlineAt (us : List Strategy) (o : Outline) (d : ℕ) (r y : List ℕ) : Type 0 where
    pub closed : RefersBack us o
    pub orderly : IsOutlineInOrder size o
    pub deep : depth (unfolded us o) ≡ d
    pub text : r ≡ outline_text size o ++ y
    pub ends : EndsBefore o y

  pub record BranchesAt (us : List Strategy) (least : ℕ) (bs : Branches) (d : ℕ) (r y : List ℕ) : Type 0 where
    pub closed : BranchesReferBack us bs
    pub orderly : AreBranchesInOrder size least bs
    pub deep : depth_of_entries (unfolded_entries us bs) ≡ d
    pub text : r ≡ branches_text size bs ++ y

  -- so it is whatever trees of the old depths the names stand for; behind the outline all names stand for trees of the new depths
  pub record ReadsOutline (left : ℕ) (old new : List ℕ) (o : Outline) (d : ℕ) (r y : List ℕ) : Type 0 where
    pub shallow : d ≤ left
    pub at : (us : List Strategy) → map depth us ≡ old → OutlineAt us o d r y
    pub names : (us : List Strategy) → map depth us ≡ old → map depth (named_trees_after us o) ≡ new

  pub record ReadsBranches (left : ℕ) (old new : List ℕ) (least : ℕ) (bs : Branches) (d : ℕ) (r y : List ℕ) : Type 0 where
    pub shallow : d ≤ left
    pub at : (us : List Strategy) → map depth us ≡ old → BranchesAt us least bs d r y
    pub names : (us : List Strategy) → map depth us ≡ old → map depth (named_trees_after_branches us bs) ≡ new

  -- r begins as an outline does that goes deeper
  pub record OutlineDeepAt (us : List Strategy) (left : ℕ) (r : List ℕ) : Type 0 where
    pub outline : Outline
    pub closed : RefersBack us outline
    pub orderly : IsOutlineInOrder size outline
    pub deep : OutlineGoesDeep size us left outline r

  pub record BranchesDeepAt (us : List Strategy) (left least : ℕ) (r : List ℕ) : Type 0 where
    pub branches : Branches
    pub closed : BranchesReferBack us branches
    pub orderly : AreBranchesInOrder size least branches
    pub deep : BranchesGoDeep size us left branches r

  -- no outline is at the front of r, or only deeper ones
  abbrev pub OutlineFaultAt : ℕ → List ℕ → List ℕ → CertFault → Type 0
  OutlineFaultAt left old r Syntax =
      ((us : List Strategy) → map depth us ≡ old → (o : Outline) (d : ℕ) (y : List ℕ) → OutlineAt us o d r y → ⊥)
      × ((us : List Strategy) → map depth us ≡ old → OutlineDeepAt us left r → ⊥)
  OutlineFaultAt left old r TooDeep =
      ((us : List Strategy) → map depth us ≡ old → (o : Outline) (d : ℕ) (y : List ℕ) → OutlineAt us o d r y → left < d)
      × ((us : List Strategy) → map depth us ≡ old → OutlineDeepAt us left r)
  OutlineFaultAt left old r NoMemory = Unit {0}

  abbrev pub BranchesFaultAt : ℕ → List ℕ → ℕ → List ℕ → CertFault → Type 0
  BranchesFaultAt left old least r Syntax =
      ((us : List Strategy) → map depth us ≡ old → (bs : Branches) (d : ℕ) (y : List ℕ) → BranchesAt us least bs d r y → ⊥)
      × ((us : List Strategy) → map depth us ≡ old → BranchesDeepAt us left least r → ⊥)
  BranchesFaultAt left old least r TooDeep =
      ((us : List Strategy) → map depth us ≡ old → (bs : Branches) (d : ℕ) (y : List ℕ) → BranchesAt us least bs d r y → left < d)
      × ((us : List Strategy) → map depth us ≡ old → BranchesDeepAt us left least r)
  BranchesFaultAt left old least r NoMemory = Unit {0}
