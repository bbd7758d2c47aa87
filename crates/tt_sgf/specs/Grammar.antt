-- Game trees of SGF FF[4] (https://www.red-bean.com/sgf/sgf4.html, "EBNF Definition"), by cases over nested trees. As
-- in older files, lower-case letters of an identifier are skipped; digits are kept.
use Rattle.std.specs.Prelude.{◌≡◌, ◌≢◌, Contains, ℕ, Bool, true, false, ◌&&◌, ◌||◌, ◌==◌, nat_le, ◌+◌, List, [], ◌∷◌, ◌++◌, length}
use Rattle.std.specs.List.{filter, list_any, AllByRecursion}
use Rattle.tt_sgf.specs.Bytes.{backslash, close_tree, close_value, digit_0, digit_9, lower_a, lower_z, open_tree, open_value, semicolon, space, upper_A, upper_Z}
use Rattle.tt_sgf.specs.declared.nodes.Node.{Node}
use Rattle.tt_sgf.specs.declared.nodes.Property.{Property}

-- ---- bytes

-- white space is the bytes 9 to 13 and 32
unfoldable pub is_blank : ℕ → Bool
is_blank b = (nat_le 9 b && nat_le b 13) || (b == space)

-- A to Z
unfoldable pub is_upper : ℕ → Bool
is_upper b = nat_le upper_A b && nat_le b upper_Z

-- 0 to 9
unfoldable pub is_digit : ℕ → Bool
is_digit b = nat_le digit_0 b && nat_le b digit_9

-- a to z
unfoldable pub is_lower : ℕ → Bool
is_lower b = nat_le lower_a b && nat_le b lower_z

-- what the name of an identifier keeps
unfoldable pub is_kept_in_name : ℕ → Bool
is_kept_in_name b = is_upper b || is_digit b

-- a letter or a digit
unfoldable pub is_letter_or_digit : ℕ → Bool
is_letter_or_digit b = (is_upper b || is_digit b) || is_lower b

-- ---- tokens

-- a text of white space
abbrev pub AreBlanks : List ℕ → Type 0
AreBlanks [] = Unit {0}
AreBlanks (b ∷ bs) = (is_blank b ≡ true) × AreBlanks bs

-- what stands between brackets: the byte behind a backslash is escaped, and a `]` has to be; at `true` the first byte
-- is escaped
abbrev pub IsRawValue : Bool → List ℕ → Type 0
IsRawValue escaped [] = escaped ≡ false
IsRawValue true (b ∷ bs) = IsRawValue false bs
IsRawValue false (b ∷ bs) = ((b == close_value) ≡ false) × IsRawValue (b == backslash) bs

-- letters and digits
abbrev pub AreLettersOrDigits : List ℕ → Type 0
AreLettersOrDigits [] = Unit {0}
AreLettersOrDigits (b ∷ bs) = (is_letter_or_digit b ≡ true) × AreLettersOrDigits bs

-- an identifier, and its name: the upper-case letters and digits in it
abbrev pub IsIdent : List ℕ → List ℕ → Type 0
IsIdent text name = AreLettersOrDigits text × (list_any is_upper text ≡ true) × (name ≡ filter is_kept_in_name text)

-- ---- lists of values, properties and nodes; white space may stand before each token

-- values in brackets
abbrev pub AreValues : List ℕ → List (List ℕ) → Type 0
AreValues text [] = text ≡ []
AreValues text (v ∷ vs) = (blank : List ℕ) × (more : List ℕ) × AreBlanks blank × IsRawValue false v × AreValues more vs
    × (text ≡ blank ++ (open_value ∷ (v ++ (close_value ∷ more))))

-- properties: an identifier and one or more values each
abbrev pub AreProperties : List ℕ → List Property → Type 0
AreProperties text [] = text ≡ []
AreProperties text (p ∷ ps) = (blank : List ℕ) × (ident : List ℕ) × (values : List ℕ) × (more : List ℕ) × AreBlanks blank × IsIdent ident p.ident
    × (p.values ≢ []) × AreValues values p.values × AreProperties more ps
    × (text ≡ blank ++ (ident ++ (values ++ more)))

-- nodes: a semicolon and properties each
abbrev pub AreNodes : List ℕ → List Node → Type 0
AreNodes text [] = text ≡ []
AreNodes text (n ∷ ns) = (blank : List ℕ) × (properties : List ℕ) × (more : List ℕ) × AreBlanks blank × AreProperties properties n.props × AreNodes more ns
    × (text ≡ blank ++ (semicolon ∷ (properties ++ more)))

-- ---- trees

-- a game tree: a sequence of nodes, and the trees behind it
mutual
  pub data GameTree : Type 0 where
    game : List Node → Trees → GameTree

  pub data Trees : Type 0 where
    no_tree : Trees
    more_trees : GameTree → Trees → Trees

-- the text of a game tree: from its `(` to its `)`, a sequence of one or more nodes, then trees
abbrev mutual
  pub Spells : List ℕ → GameTree → Type 0
  Spells text (game nodes trees) = (sequence : List ℕ) × (subtrees : List ℕ) × (blank : List ℕ) × (nodes ≢ []) × AreNodes sequence nodes × AreTrees subtrees trees × AreBlanks blank
      × (text ≡ open_tree ∷ (sequence ++ (subtrees ++ (blank ++ (close_tree ∷ [])))))

  pub AreTrees : List ℕ → Trees → Type 0
  AreTrees text no_tree = text ≡ []
  AreTrees text (more_trees t ts) = (blank : List ℕ) × (tree : List ℕ) × (more : List ℕ) × AreBlanks blank × Spells tree t × AreTrees more ts
      × (text ≡ blank ++ (tree ++ more))

-- the nodes of a tree, and the main line of its first sub-tree
abbrev mutual
  pub main_line : GameTree → List Node
  main_line (game nodes trees) = nodes ++ first_main_line trees

  pub first_main_line : Trees → List Node
  first_main_line no_tree = []
  first_main_line (more_trees t ts) = main_line t

-- the first `(` of the bytes begins a text of the tree, which ends behind that many bytes
pub record FirstTreeEndsAt (bytes : List ℕ) (count : ℕ) (t : GameTree) : Type 0 where
  pub skipped : List ℕ
  pub text : List ℕ
  pub rest : List ℕ
  pub no_open : list_any (λ b. b == open_tree) skipped ≡ false
  pub spells : Spells text t
  pub parts : bytes ≡ skipped ++ (text ++ rest)
  pub count_is : count ≡ length skipped + length text

-- a `(` stands in the bytes, so that a tree may begin there
abbrev pub HasOpeningParenthesis : List ℕ → Type 0
HasOpeningParenthesis bytes = Contains bytes open_tree

-- from the first `(` on, bytes spell one tree at most, and it has one end
abbrev pub GrammarIsUnambiguous : Type 0
GrammarIsUnambiguous = (bytes : List ℕ) (n m : ℕ) (s t : GameTree) → FirstTreeEndsAt bytes n s → FirstTreeEndsAt bytes m t → (n ≡ m) × (s ≡ t)

-- no tree begins at the first `(`, or there is none
abbrev pub HasNoTree : List ℕ → Type 0
HasNoTree bytes = (t : GameTree) (count : ℕ) → FirstTreeEndsAt bytes count t → ⊥

-- what each main line is: not empty, and each property has a value
pub record IsMainLine (nodes : List Node) : Type 0 where
  pub some : nodes ≢ []
  pub values : AllByRecursion (λ n. AllByRecursion (λ p. p.values ≢ []) n.props) nodes
