-- What the words behind the program's name ask for.
use Rattle.std.specs.Prelude.{ℕ, ◌&&◌, ◌==◌, nat_le, pos, Bool, true, false, List, [], ◌∷◌, codes, drop, unwrap_or, Option, Some, None, option_map, if◌then◌else◌}
use Rattle.std.specs.List.{position}
use Rattle.std.specs.Option.{option_or}
use lib.Pointwise.{pointwise}
use Rattle.std.specs.Char.{to_ascii_uppercase}
use Rattle.clap.specs.Words.{App, Row, Rule, Text, all_of, first_of, new_app, new_rule, with_rule}
use Rattle.clap.specs.declared.builder.action.ArgAction.TheVariants.{Append, SetTrue}
use Rattle.clap.specs.declared.builder.value_parser.ValueParser.TheVariants.{Signed}
use Rattle.tt_sgf.specs.Values.{number_of}
use Rattle.tt_proof.specs.declared.tree.TheConstants.{MOST_DEPTH}
use Rattle.tsumego_show.specs.declared.mode.Mode.{Mode}
use Rattle.tsumego_show.specs.declared.mode.Mode.TheVariants.{Diagram, Marks, Picture, Variations}
use Rattle.tsumego_show.specs.declared.mode.PointName.{PointName}
use Rattle.tsumego_show.specs.declared.mode.PointName.TheVariants.{FromAbove, FromBelow}

-- ---- points

-- the columns and rows in SGF, and the columns in editors, who leave out I
abbrev pub sgf_letters : Text
sgf_letters = codes "abcdefghijklmnopqrs"

abbrev pub editor_letters : Text
editor_letters = codes "ABCDEFGHJKLMNOPQRST"

abbrev pub index_among : Text → ℕ → Option ℕ
index_among letters b = position (λ other. other == b) letters

-- `cb`, as SGF names a point
abbrev pub from_above : Option ℕ → Option ℕ → Option PointName
from_above (Some column) (Some row) = Some (FromAbove column row)
from_above _ _ = None

abbrev pub sgf_name : Text → Option PointName
sgf_name (a ∷ b ∷ []) = from_above (index_among sgf_letters a) (index_among sgf_letters b)
sgf_name _ = None

-- `C18` or `c18`, as editors name it: rows count from 1 to 19
abbrev pub from_below : Option ℕ → Option ℕ → Option PointName
from_below (Some column) (Some row) = if nat_le 1 row && nat_le row 19 then Some (FromBelow column row) else None
from_below _ _ = None

abbrev pub editor_name : Text → Option PointName
editor_name [] = None
editor_name (b ∷ bs) = from_below (index_among editor_letters (to_ascii_uppercase b)) (number_of bs)

-- ---- words

abbrev pub flag_word : Text → Rule
flag_word name = record (new_rule name) { long = Some name; action = Some SetTrue }

-- `--depth N`
abbrev pub depth_arg : Rule
depth_arg = record (new_rule (codes "depth")) {
  long = Some (codes "depth");
  value_names = 1;
  parser = Some (Signed (pos 1) (pos MOST_DEPTH));
}

-- the words that are no options: POINT, and FILEs
abbrev pub word_arg : Rule
word_arg = record (new_rule (codes "words")) { value_names = 1; action = Some Append }

abbrev pub with_version_word : App → App
with_version_word a = record a { top = record a.top { has_version = true } }

-- the program's words, as the argument parser reads them
unfoldable pub show_app : App
show_app = with_rule (with_rule (with_rule (with_rule (with_rule (with_rule (with_version_word (new_app (codes "tsumego-show")))
    (flag_word (codes "mark")))
    word_arg)
    (flag_word (codes "close")))
    (flag_word (codes "svg")))
    (flag_word (codes "sgf")))
    depth_arg

-- ---- what they ask for

-- the words that are no options
abbrev pub words_in : List Row → List Text
words_in rows = unwrap_or (all_of (codes "words") rows) []

-- POINT, where marks are wanted: the first of these words, if it names a point
abbrev pub named_point : Bool → List Text → Option PointName
named_point true (w ∷ words) = option_or (sgf_name w) (editor_name w)
named_point _ _ = None

-- the others are FILEs
abbrev pub files_behind_point : Option PointName → List Text → List Text
files_behind_point None words = words
files_behind_point (Some name) words = drop 1 words

-- the depth that `--sgf` goes with
abbrev pub sgf_mode : Option Text → Option Mode
sgf_mode None = Some (Variations None)
sgf_mode (Some w) = option_map (λ n. Variations (Some n)) (number_of w)

-- what `--svg`, `--sgf`, `--mark`, `--close`, the depth and the point ask for: each other way to give them is refused
abbrev pub mode_asked : Bool → Bool → Bool → Bool → Option Text → Option PointName → Option Mode
mode_asked false false false false None point = Some Picture
mode_asked true false false false None point = Some Diagram
mode_asked false true false false depth point = sgf_mode depth
mode_asked false false true close None point = Some (Marks (record { name = point; closes = close }))
mode_asked _ _ _ _ _ _ = None

-- a flag's text
abbrev pub is_true : Option Text → Bool
is_true None = false
is_true (Some w) = pointwise ◌==◌ w (codes "true")

abbrev pub is_given : Text → List Row → Bool
is_given name rows = is_true (first_of name rows)

abbrev pub point_in : List Row → Option PointName
point_in rows = named_point (is_given (codes "mark") rows) (words_in rows)

-- what the matches of the words ask for
abbrev pub mode_in : List Row → Option Mode
mode_in rows = mode_asked (is_given (codes "svg") rows) (is_given (codes "sgf") rows) (is_given (codes "mark") rows) (is_given (codes "close") rows)
    (first_of (codes "depth") rows) (point_in rows)

-- the files that they name
abbrev pub files_in : List Row → List Text
files_in rows = files_behind_point (point_in rows) (words_in rows)
