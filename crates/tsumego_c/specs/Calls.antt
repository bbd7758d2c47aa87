-- How a call ends: a status, how many bytes the text takes, and what stands at `out`.
use Rattle.std.specs.Prelude.{◌≡◌, ◌<◌, ◌≤◌, ℕ, List, ◌++◌, length, drop}
use Rattle.tsumego_c.specs.declared.statuses.TheConstants.{NO_MEMORY, NO_ROOM}

-- nothing is written
abbrev pub WritesNothing : List ℕ → List ℕ → ℕ → Type 0
WritesNothing before after count = (after ≡ before) × (count ≡ 0)

-- A call that is to write such a text with such a status ends like this, where so many bytes are said to be taken.
pub data CallEnds (is_text : List ℕ → ℕ → Type 0) (before after : List ℕ) (count : ℕ) : ℕ → Type 0 where
  -- the text stands at the front, and behind it all is as it was
  written : (text : List ℕ) (status : ℕ) → is_text text status → count ≡ length text → count ≤ length before
      → after ≡ text ++ drop count before → CallEnds is_text before after count status
  -- it has no room there
  no_room : (text : List ℕ) (status : ℕ) → is_text text status → count ≡ length text → length before < count
      → after ≡ before → CallEnds is_text before after count NO_ROOM
  -- memory was refused
  no_memory : WritesNothing before after count → CallEnds is_text before after count NO_MEMORY
