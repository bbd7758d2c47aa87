use Rattle.std.proofs.Common.{true, [], ◌∷◌, ◌≡◌, ◌∙◌, List, map, string_bytes, ap, sym, subst, refl, inl, inr, ◌⊎◌, arith}
use Rattle.std.proofs.lemmas.Result.{IfErr-weaker, IfOk-weaker}
use Rattle.clap.specs.Words.{App, IsAmong, Text, fault_of, found_of, is_simple, is_simple_and_free, matches_of, rows_of}
use Rattle.clap.specs.Kinds.{HasKind}
use Rattle.clap.specs.declared.error.kind.ErrorKind.{ErrorKind}
use Rattle.clap.specs.declared.error.kind.ErrorKind.TheVariants.{DisplayHelp, DisplayVersion, OutOfMemory}
use Rattle.tsumego_show.specs.CommandLine.{files_in, mode_in, show_app}
use Rattle.tsumego_show.proofs.arguments.asked_by_words.Goals as goal

is_tool_simple : is_simple show_app ≡ true
unfolding show_app
is_tool_simple = refl

is_tool_free : is_simple_and_free show_app ≡ true
unfolding show_app
is_tool_free = refl

pub returns-in-Ok-try_get_matches_from-clause-asked : goal.returns-in-Ok-try_get_matches_from-clause-asked
returns-in-Ok-try_get_matches_from-clause-asked c =
    let words : List Text = map (λ s. string_bytes s) c.args.words.now in
    let met : rows_of (found_of c.in-Ok-try_get_matches_from.matches) ≡ matches_of show_app words =
    (c.in-Ok-try_get_matches_from.ensures.matches (ap is_simple c.in-Ok.ensures ∙ is_tool_simple)).0
    ∙ ap (λ (a : App). matches_of a words) c.in-Ok.ensures in
    IfOk-weaker c.asked_by_matches.result _ _ (λ a h. ap mode_in (sym met) ∙ h) c.asked_by_matches.ensures.asked

pub returns-in-Ok-try_get_matches_from-clause-files : goal.returns-in-Ok-try_get_matches_from-clause-files
returns-in-Ok-try_get_matches_from-clause-files c =
    let words : List Text = map (λ s. string_bytes s) c.args.words.now in
    let met : rows_of (found_of c.in-Ok-try_get_matches_from.matches) ≡ matches_of show_app words =
    (c.in-Ok-try_get_matches_from.ensures.matches (ap is_simple c.in-Ok.ensures ∙ is_tool_simple)).0
    ∙ ap (λ (a : App). matches_of a words) c.in-Ok.ensures in
    IfOk-weaker c.asked_by_matches.result _ _ (λ a h. h ∙ ap files_in met) c.asked_by_matches.ensures.files

pub returns-in-Ok-try_get_matches_from-clause-clean : goal.returns-in-Ok-try_get_matches_from-clause-clean
returns-in-Ok-try_get_matches_from-clause-clean c =
    let words : List Text = map (λ s. string_bytes s) c.args.words.now in
    IfOk-weaker c.asked_by_matches.result _ _
    (λ a h. sym (ap (λ (a : App). fault_of a words) c.in-Ok.ensures) ∙ c.in-Ok-try_get_matches_from.ensures.kinds (ap is_simple_and_free c.in-Ok.ensures ∙ is_tool_free))
    c.asked_by_matches.ensures.asked

pub returns-in-Ok-try_get_matches_from-clause-status : goal.returns-in-Ok-try_get_matches_from-clause-status
returns-in-Ok-try_get_matches_from-clause-status c = IfErr-weaker c.asked_by_matches.result _ _ (λ t h. inr h.0) c.asked_by_matches.ensures.told

pub returns-in-Ok-try_get_matches_from-clause-told : goal.returns-in-Ok-try_get_matches_from-clause-told
returns-in-Ok-try_get_matches_from-clause-told c =
    IfErr-weaker c.asked_by_matches.result _ _ (λ t h zero. let two = h.0 in absurd (omega (arith, two, zero))) c.asked_by_matches.ensures.told

none_is_asked : (kinds : List ErrorKind) (k : ErrorKind) → kinds ≡ [] → kinds ≡ k ∷ [] → ⊥
none_is_asked kinds k none one = let bad : [] ≡ k ∷ [] = sym none ∙ one in cc

pub returns-in-Ok-try_get_matches_from-clause-shown : goal.returns-in-Ok-try_get_matches_from-clause-shown
returns-in-Ok-try_get_matches_from-clause-shown c =
    let words : List Text = map (λ s. string_bytes s) c.args.words.now in
    let none : fault_of show_app words ≡ [] =
    sym (ap (λ (a : App). fault_of a words) c.in-Ok.ensures) ∙ c.in-Ok-try_get_matches_from.ensures.kinds (ap is_simple_and_free c.in-Ok.ensures ∙ is_tool_free) in
    IfErr-weaker c.asked_by_matches.result _ _ (λ t h asked. elim asked [
      | inl help ↦ absurd (none_is_asked (fault_of show_app words) DisplayHelp none help)
      | inr version ↦ absurd (none_is_asked (fault_of show_app words) DisplayVersion none version)
    ]) c.asked_by_matches.ensures.told

pub returns-in-Ok-try_get_matches_from-clause-taken : goal.returns-in-Ok-try_get_matches_from-clause-taken
returns-in-Ok-try_get_matches_from-clause-taken c =
    let words : List Text = map (λ s. string_bytes s) c.args.words.now in
    let met : rows_of (found_of c.in-Ok-try_get_matches_from.matches) ≡ matches_of show_app words =
    (c.in-Ok-try_get_matches_from.ensures.matches (ap is_simple c.in-Ok.ensures ∙ is_tool_simple)).0
    ∙ ap (λ (a : App). matches_of a words) c.in-Ok.ensures in
    λ _. IfErr-weaker c.asked_by_matches.result _ _ (λ t h. elim h.1 [ inl empty ↦ inl empty | inr none ↦ inr (ap mode_in (sym met) ∙ none) ])
    c.asked_by_matches.ensures.told

-- an error that isn't want of memory has a kind that the words have
kind_is_fault : (e k : ErrorKind) (kinds : List ErrorKind) → e ≡ k → (k ≡ OutOfMemory → ⊥) → (e ≡ OutOfMemory) ⊎ IsAmong e kinds → IsAmong k kinds
kind_is_fault e k kinds same other h = elim h [ inl memory ↦ absurd (other (sym same ∙ memory)) | inr a ↦ subst (λ (x : ErrorKind). IsAmong x kinds) same a ]

pub returns-in-Err-clause-told : goal.returns-in-Err-clause-told
returns-in-Err-clause-told c =
    let words : List Text = map (λ s. string_bytes s) c.args.words.now in
    let kinds : HasKind (fault_of show_app words) c.in-Err.error =
    subst (λ (a : App). HasKind (fault_of a words) c.in-Err.error) c.in-Ok.ensures
    (c.in-Err.ensures.kinds (ap is_simple_and_free c.in-Ok.ensures ∙ is_tool_free)) in
    λ zero. elim (c.told_of_error.ensures.asked zero) [
      | inl help ↦ inl (kind_is_fault _ DisplayHelp (fault_of show_app words) help (λ e. let bad : DisplayHelp ≡ OutOfMemory = e in cc) kinds)
      | inr version ↦ inr (kind_is_fault _ DisplayVersion (fault_of show_app words) version (λ e. let bad : DisplayVersion ≡ OutOfMemory = e in cc) kinds)
    ]

-- where one kind alone may come, the error has it, or memory was refused
one_kind : (e k : ErrorKind) (kinds : List ErrorKind) → kinds ≡ k ∷ [] → (e ≡ OutOfMemory) ⊎ IsAmong e kinds → (e ≡ OutOfMemory) ⊎ (e ≡ k)
one_kind e k kinds same h = elim h [
  | inl memory ↦ inl memory
  | inr among ↦ elim (subst (λ (ks : List ErrorKind). IsAmong e ks) same among) [ inl is ↦ inr is | inr none ↦ absurd none ]
]

pub returns-in-Err-clause-shown : goal.returns-in-Err-clause-shown
returns-in-Err-clause-shown c =
    let words : List Text = map (λ s. string_bytes s) c.args.words.now in
    let kinds : HasKind (fault_of show_app words) c.in-Err.error =
    subst (λ (a : App). HasKind (fault_of a words) c.in-Err.error) c.in-Ok.ensures
    (c.in-Err.ensures.kinds (ap is_simple_and_free c.in-Ok.ensures ∙ is_tool_free)) in
    λ asked. elim asked [
      | inl help ↦ elim (one_kind _ DisplayHelp (fault_of show_app words) help kinds) [
        | inl memory ↦ inr (c.told_of_error.ensures.memory memory)
        | inr is ↦ c.told_of_error.ensures.said (inl is)
      ]
      | inr version ↦ elim (one_kind _ DisplayVersion (fault_of show_app words) version kinds) [
        | inl memory ↦ inr (c.told_of_error.ensures.memory memory)
        | inr is ↦ c.told_of_error.ensures.said (inr is)
      ]
    ]
