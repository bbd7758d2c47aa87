-- The bytes of a tree as they were given.
use Rattle.std.proofs.Common.{◌≡◌, ◌||◌, ◌++◌, ◌∷◌, ◌∙◌, ℕ, Bool, List, [], true, false, refl, sym, ap, arith, length, take, if◌then◌else◌}
use Rattle.std.proofs.lemmas.Bool.{eq-eqb, ne_eqb, true≢false}
use Rattle.std.proofs.lemmas.List.{append_assoc, length-append, take-append-le, take_all}
use Rattle.std.specs.Prelude.{◌==◌}
use Rattle.std.specs.List.{list_any}
use Rattle.tt_sgf.specs.Bytes.{newline, open_tree}
use Rattle.tt_sgf.specs.Grammar.{FirstTreeEndsAt, GameTree, Spells, game}
use Rattle.tsumego_show.specs.Written.{as_given, from_open}

past : (b : ℕ) (bs : List ℕ) → (b == open_tree) ≡ false → from_open (b ∷ bs) ≡ from_open bs
past b bs other = ap (λ x. if x then b ∷ bs else from_open bs) other

-- it is the first byte, or one behind
pub opened_here : (b : ℕ) (bs : List ℕ) → b ≡ open_tree → from_open (b ∷ bs) ≡ b ∷ bs
opened_here b bs opens = ap (λ x. if x then b ∷ bs else from_open bs) (eq-eqb b open_tree opens)

pub opened_behind : (b : ℕ) (bs : List ℕ) → (b ≡ open_tree → ⊥) → from_open (b ∷ bs) ≡ from_open bs
opened_behind b bs other = past b bs (ne_eqb b open_tree other)

pub neither : (a b : Bool) → (a || b) ≡ false → (a ≡ false) × (b ≡ false)
neither true b h = absurd (true≢false h)
neither false b h = (refl, h)

from_skipped : (skipped behind : List ℕ) → list_any (λ b. b == open_tree) skipped ≡ false → from_open (skipped ++ (open_tree ∷ behind)) ≡ open_tree ∷ behind
from_skipped [] behind none = refl
from_skipped (b ∷ skipped) behind none =
    let others = neither (b == open_tree) (list_any (λ x. x == open_tree) skipped) none in
    past b (skipped ++ (open_tree ∷ behind)) others.0 ∙ from_skipped skipped behind others.1

pub opens : (text : List ℕ) (t : GameTree) → Spells text t → (behind : List ℕ) × (text ≡ open_tree ∷ behind)
opens text (game nodes trees) h = (_, h.7)

-- the bytes up to the end of the first tree, from its `(` on, are its text
pub given_text : (bytes : List ℕ) (count : ℕ) (t : GameTree) (ends : FirstTreeEndsAt bytes count t) → from_open (take count bytes) ≡ ends.text
given_text bytes count t ends =
    let opened = opens ends.text t ends.spells in
    let before = ends.skipped ++ ends.text in
    let whole : bytes ≡ before ++ ends.rest = ends.parts ∙ sym (append_assoc ends.skipped ends.text ends.rest) in
    let cut : take count bytes ≡ before =
    ap (λ n. take n bytes) (ends.count_is ∙ sym (length-append ends.skipped ends.text)) ∙ ap (take (length before)) whole
    ∙ take-append-le (length before) before ends.rest (omega arith) ∙ take_all (length before) before (omega arith) in
    ap from_open (cut ∙ ap (λ l. ends.skipped ++ l) opened.1) ∙ from_skipped ends.skipped opened.0 ends.no_open ∙ sym opened.1

-- a front, more bytes and what is behind, written one after the other
pub laid : (front more behind text : List ℕ) → text ≡ ((front ++ more) ++ behind) ++ (newline ∷ []) → text ≡ front ++ (more ++ as_given behind)
laid front more behind text is = is ∙ append_assoc (front ++ more) behind (newline ∷ []) ∙ append_assoc front more (as_given behind)
