-- What the command line says.
use Rattle.std.specs.Prelude.{◌≡◌, ◌≤◌, ℕ, ◌⊎◌, Bool, true, false, List, [], ◌∷◌, Option, Some, None, IfSome, codes, pos}
use Rattle.std.specs.Str.Parse.{IsNumeral, digits_value, without_leading_plus}
use Rattle.clap.specs.Values.{bool_text}
use Rattle.clap.specs.Words.{App, Row, Rule, Text, new_app, new_rule, one_of, with_rule, with_subcommand}
use Rattle.clap.specs.declared.builder.action.ArgAction.TheVariants.{SetTrue}
use Rattle.clap.specs.declared.builder.value_parser.ValueParser.TheVariants.{Signed}
use Rattle.tt_dfpn.specs.declared.attempts.TheConstants.{MOST_POSITIONS}
use Rattle.tt_proof.specs.declared.tree.TheConstants.{MOST_DEPTH}
use Rattle.tt_search.specs.declared.limits.TheConstants.{MOST_EXPANDED}
use Rattle.tt_share.specs.declared.capacity.TheConstants.{MOST_WORKERS}
use Rattle.tt_solve.specs.declared.options.TheConstants.{MOST_TOTAL}
use Rattle.tsumego.specs.declared.request.Command.{Command}
use Rattle.tsumego.specs.declared.request.Command.TheVariants.{Score, Check, CheckParts, Solve}

-- a line without a subcommand is refused
abbrev pub with_required_subcommand : App → App
with_required_subcommand a = record a { top = record a.top { subcommand_required = true } }

-- `--version` and `-V` ask for the version
abbrev pub with_version_flag : App → App
with_version_flag a = record a { top = record a.top { has_version = true } }

-- an option with a number from 1 to `most`
abbrev pub number_arg : Text → ℕ → Text → Rule
number_arg name most default = record (new_rule name) {
  long = Some name;
  value_names = 1;
  parser = Some (Signed (pos 1) (pos most));
  defaults = default ∷ [];
}

-- one that may be left out
abbrev pub optional_number_arg : Text → ℕ → Rule
optional_number_arg name most = record (new_rule name) {
  long = Some name;
  value_names = 1;
  parser = Some (Signed (pos 1) (pos most));
}

abbrev pub flag_arg : Text → Rule
flag_arg name = record (new_rule name) { long = Some name; action = Some SetTrue }

-- the options of `solve`
unfoldable pub solve_app : App
solve_app = with_rule (with_rule (with_rule (with_rule (with_rule (with_rule (with_rule (with_rule (with_rule (new_app (codes "solve"))
    (number_arg (codes "budget") MOST_EXPANDED (codes "100000")))
    (number_arg (codes "depth") MOST_DEPTH (codes "512")))
    (optional_number_arg (codes "total") MOST_TOTAL))
    (optional_number_arg (codes "dfpn") MOST_POSITIONS))
    (number_arg (codes "workers") MOST_WORKERS (codes "1")))
    (flag_arg (codes "cert")))
    (flag_arg (codes "parts")))
    (flag_arg (codes "turns")))
    (flag_arg (codes "progress"))

-- the option of `check`
unfoldable pub check_app : App
check_app = with_rule (new_app (codes "check")) (flag_arg (codes "parts"))

-- the program's commands and options, as the argument parser reads them
unfoldable pub tsumego_app : App
tsumego_app = with_subcommand (with_subcommand (with_subcommand
    (with_required_subcommand (with_version_flag (new_app (codes "tsumego"))))
    (new_app (codes "score")).top) check_app.top) solve_app.top

-- the number that an option's text spells
abbrev pub HasNumber : Text → List Row → ℕ → Type 0
HasNumber name rows n = (text : Text) × (one_of name rows ≡ Some text)
    × IsNumeral 10 (without_leading_plus text) × (n ≡ digits_value 10 (without_leading_plus text))

-- the number that an option's text spells, where it was given
abbrev pub HasOptionalNumber : Text → List Row → Option ℕ → Type 0
HasOptionalNumber name rows None = one_of name rows ≡ None
HasOptionalNumber name rows (Some n) = HasNumber name rows n

-- the flag was given, or not
abbrev pub HasFlag : Text → List Row → Bool → Type 0
HasFlag name rows b = one_of name rows ≡ Some (bool_text b)

-- the command is `solve` with the options in these matches
abbrev pub AsksForSolve : List Row → Command → Type 0
AsksForSolve rows (Solve limits workers cert total dfpn parts turns progress) =
    HasNumber (codes "budget") rows limits.budget × HasNumber (codes "depth") rows limits.depth
    × HasOptionalNumber (codes "total") rows total × HasOptionalNumber (codes "dfpn") rows dfpn
    × HasNumber (codes "workers") rows workers × HasFlag (codes "cert") rows cert × HasFlag (codes "parts") rows parts
    × HasFlag (codes "turns") rows turns × HasFlag (codes "progress") rows progress
AsksForSolve rows _ = ⊥

-- the subcommand that was met, with its matches, is this command
abbrev pub AsksForCommand : Option (Text × List Row) → Command → Type 0
AsksForCommand None c = ⊥
AsksForCommand (Some p) Score = p.0 ≡ codes "score"
AsksForCommand (Some p) Check = (p.0 ≡ codes "check") × HasFlag (codes "parts") p.1 false
AsksForCommand (Some p) CheckParts = (p.0 ≡ codes "check") × HasFlag (codes "parts") p.1 true
AsksForCommand (Some p) (Solve limits workers cert total dfpn parts turns progress) =
    (p.0 ≡ codes "solve") × AsksForSolve p.1 (Solve limits workers cert total dfpn parts turns progress)

-- the options of `solve` lie in their ranges, and its flags are taken together; budget and greatest depth are facts of the limits
abbrev pub IsInRange : Command → Type 0
IsInRange (Solve limits workers cert total dfpn parts turns progress) = (1 ≤ limits.depth) × ((1 ≤ workers) × (workers ≤ MOST_WORKERS))
    × IfSome total (λ n. (1 ≤ n) × (n ≤ MOST_TOTAL)) × IfSome dfpn (λ n. (1 ≤ n) × (n ≤ MOST_POSITIONS))
    × (parts ≡ true → cert ≡ true) × (cert ≡ true → turns ≡ false)
IsInRange _ = Unit {0}

-- flags were given that aren't taken together, or one without the one that it goes with
abbrev pub HasContradictingFlags : Option (Text × List Row) → Type 0
HasContradictingFlags None = ⊥
HasContradictingFlags (Some p) = (HasFlag (codes "cert") p.1 true × HasFlag (codes "turns") p.1 true)
    ⊎ (HasFlag (codes "parts") p.1 true × HasFlag (codes "cert") p.1 false)
