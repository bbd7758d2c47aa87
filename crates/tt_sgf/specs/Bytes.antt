-- Bytes by their names: their codes in ASCII.
use Rattle.std.specs.Prelude.{ℕ}

-- `(` and `)`, which a game tree stands between
abbrev pub open_tree : ℕ
open_tree = 40

abbrev pub close_tree : ℕ
close_tree = 41

-- `;`, which a node begins with
abbrev pub semicolon : ℕ
semicolon = 59

-- `[` and `]`, which a value stands between
abbrev pub open_value : ℕ
open_value = 91

abbrev pub close_value : ℕ
close_value = 93

abbrev pub backslash : ℕ
backslash = 92

abbrev pub plus : ℕ
plus = 43

abbrev pub colon : ℕ
colon = 58

abbrev pub space : ℕ
space = 32

-- what ends a line
abbrev pub newline : ℕ
newline = 10

-- the first digit and the last
abbrev pub digit_0 : ℕ
digit_0 = 48

abbrev pub digit_9 : ℕ
digit_9 = 57

abbrev pub upper_A : ℕ
upper_A = 65

abbrev pub upper_Z : ℕ
upper_Z = 90

abbrev pub lower_a : ℕ
lower_a = 97

abbrev pub lower_t : ℕ
lower_t = 116

abbrev pub lower_z : ℕ
lower_z = 122
