-- A list that is read value by value, and the mechanisms of words.
use denote.Ref.{Bor}
use Rattle.std.proofs.Common.{◌≡◌, ◌∙◌, ℕ, ◌+◌, ◌<◌, ◌≤◌, List, [], ◌∷◌, ◌++◌, append_assoc, length, drop, get_or, Result, Ok, Err, refl, ap, sym}
use Rattle.std.proofs.lemmas.List.{append-nil, at_drop_more, at_drop_all}
use Rattle.gss_base.specs.declared.mech.MechName.{MechName}
use Rattle.cli_base.specs.Given.{◌>>=◌}
use Rattle.cli_base.specs.Words.{texts}
use Rattle.cli_base.specs.declared.given.WordsRefusal.{WordsRefusal}
use Rattle.mech_words.specs.Names.{mech_named}
use Rattle.client_options.specs.Mechs.{mechs_named}

-- a list that was read behind values that stand already
abbrev pub behind : {A E : Type 0} → List A → Result (List A) E → Result (List A) E
behind before (Ok list) = Ok (before ++ list)
behind before (Err refusal) = Err refusal

-- one more name stands already
names-on : (before : List MechName) (name : MechName) (rest : Result (List MechName) WordsRefusal) → behind before (rest >>= λ list. Ok (name ∷ list)) ≡ behind (before ++ name ∷ []) rest
names-on before name (Ok list) = ap Ok (sym (append_assoc before (name ∷ []) list))
names-on before name (Err refusal) = refl

pub next-name : (words : List (Bor (List ℕ))) (i : ℕ) (word : Bor (List ℕ)) {name : MechName} (before : List MechName) {longer : List MechName} {whole : Result (List MechName) WordsRefusal}
    → i < length words → mech_named (get_or words i word).now ≡ Ok name → longer ≡ before ++ name ∷ [] → behind before (mechs_named (texts (drop i words))) ≡ whole
    → behind longer (mechs_named (texts (drop (i + 1) words))) ≡ whole
next-name words i word {name} before {longer} {whole} within is more so =
    let rest : Result (List MechName) WordsRefusal = mechs_named (texts (drop (i + 1) words)) in
    rw more (
    sym (names-on before name rest)
    ∙ (ap (λ (r : Result MechName WordsRefusal). behind before (r >>= λ one. rest >>= λ list. Ok (one ∷ list))) (sym is)
    ∙ (sym (at_drop_more (λ (ws : List (Bor (List ℕ))). behind before (mechs_named (texts ws))) words i word within) ∙ so))
    )

-- a word names no mechanism
pub no-name : (words : List (Bor (List ℕ))) (i : ℕ) (word : Bor (List ℕ)) {refusal : WordsRefusal} (before : List MechName) {whole : Result (List MechName) WordsRefusal}
    → i < length words → mech_named (get_or words i word).now ≡ Err refusal → behind before (mechs_named (texts (drop i words))) ≡ whole → whole ≡ Err refusal
no-name words i word {refusal} before {whole} within is so =
    let rest : Result (List MechName) WordsRefusal = mechs_named (texts (drop (i + 1) words)) in
    sym so
    ∙ (at_drop_more (λ (ws : List (Bor (List ℕ))). behind before (mechs_named (texts ws))) words i word within
    ∙ ap (λ (r : Result MechName WordsRefusal). behind before (r >>= λ one. rest >>= λ list. Ok (one ∷ list))) is)

pub all-names : (words : List (Bor (List ℕ))) (i : ℕ) (before : List MechName) {whole : Result (List MechName) WordsRefusal}
    → length words ≤ i → behind before (mechs_named (texts (drop i words))) ≡ whole → whole ≡ Ok before
all-names words i before {whole} past so =
    sym so ∙ (at_drop_all (λ (ws : List (Bor (List ℕ))). behind before (mechs_named (texts ws))) words i past ∙ ap Ok (append-nil before))
