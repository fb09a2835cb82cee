-- Words with a plain word too many are refused, and the words that are left are a line of the command.
use Rattle.std.proofs.Common.{◌≡◌, ◌&&◌, ◌<◌, ◌≤◌, ℕ, Bool, true, false, refl, sym, ap, true≢false, arith, codes, List, [], ◌∷◌, length, slice_get, nat_le, nat_eq, is_some, Option, Some, None, Result, Ok, Err, if◌then◌else◌}
use Rattle.std.proofs.lemmas.Bool.Decides.{nat_tests}
use Rattle.gss_base.specs.Name.{Name}
use Rattle.gss_base.specs.declared.mech.KerberosName.TheVariants.{Standard, Microsoft}
use Rattle.gss_base.specs.declared.mech.MechName.{MechName}
use Rattle.gss_base.specs.declared.mech.MechName.TheVariants as names
use Rattle.gss_base.specs.Signs.{parsed}
use Rattle.gss_base.specs.declared.principal.NameRefusal.{NameRefusal}
use Rattle.posts_client.specs.declared.procedure.Procedure.{Procedure}
use Rattle.posts_client.specs.declared.procedure.Procedure.TheVariants.{Null, Echo, Whoami, Post, Count}
use Rattle.cli_base.specs.Given.{◌>>=◌, or_usage, demanded}
use Rattle.cli_base.specs.Words.{are_words, first_word, value_of, plain_of}
use Rattle.cli_words.specs.Line.{IsLine, client_names}
use Rattle.mech_words.specs.Names.{same, mech_named}
use Rattle.client_options.specs.Mechs.{words_in, mechs_named, is_list, mechs_by, are_equipped, equipped, usual, mechs_given}
use Rattle.client_options.specs.Words.{bare, with_data, numbered, asked_by, asked_in, is_command, is_line, name_by, server_given, has_krb5, has_scram, plan_of, sources_of, joined, words_of}
use Rattle.client_options.specs.declared.words.ClientWords.{ClientWords}
use Rattle.client_options.specs.declared.words.Sources.{Sources}
use Rattle.cli_base.specs.declared.given.WordsRefusal.{WordsRefusal}
use Rattle.cli_base.specs.declared.given.WordsRefusal.TheVariants.{Usage}

-- ---- the command of too many plain words

either : {A : Type 0} (b : Bool) (x y r : Result A WordsRefusal) → x ≡ r → y ≡ r → (if b then x else y) ≡ r
either true x y r p q = p
either false x y r p q = q

bare-crowded : (plain : List (List ℕ)) (procedure : Procedure) → 6 < length plain → bare plain procedure ≡ Err Usage
unfolding bare
bare-crowded plain procedure many = rw two refl
  where
    two : nat_eq (length plain) 2 ≡ false
    two = grind (arith, nat_tests)

data-crowded : (plain : List (List ℕ)) (procedure : Procedure) → 6 < length plain → with_data plain procedure ≡ Err Usage
unfolding with_data
data-crowded plain procedure many = rw three refl
  where
    three : nat_eq (length plain) 3 ≡ false
    three = grind (arith, nat_tests)

numbered-crowded : (plain : List (List ℕ)) → 6 < length plain → numbered plain ≡ Err Usage
unfolding numbered
numbered-crowded plain many = rw six refl
  where
    six : nat_le (length plain) 6 ≡ false
    six = grind (arith, nat_tests)

by-crowded : (plain : List (List ℕ)) (word : List ℕ) → 6 < length plain → asked_by plain word ≡ Err Usage
by-crowded plain word many =
    either (same word (codes "null")) (bare plain Null) _ (Err Usage) (bare-crowded plain Null many)
    (either (same word (codes "echo")) (with_data plain Echo) _ (Err Usage) (data-crowded plain Echo many)
    (either (same word (codes "whoami")) (bare plain Whoami) _ (Err Usage) (bare-crowded plain Whoami many)
    (either (same word (codes "post")) (with_data plain Post) _ (Err Usage) (data-crowded plain Post many)
    (either (same word (codes "count")) (bare plain Count) _ (Err Usage) (bare-crowded plain Count many)
    (either (same word (codes "call")) (numbered plain) (Err Usage) (Err Usage) (numbered-crowded plain many) refl)))))

asked-crowded : (plain : List (List ℕ)) → 6 < length plain → asked_in plain ≡ Err Usage
unfolding asked_in
asked-crowded plain many = go (slice_get plain 1)
  where
    go : (o : Option (List ℕ)) → (or_usage o >>= asked_by plain) ≡ Err Usage
    go None = refl
    go (Some word) = by-crowded plain word many

plan-crowded : (words : List (List ℕ)) → 6 < length (plain_of words) → plan_of words ≡ Err Usage
unfolding plan_of
plan-crowded words many = rw (asked-crowded (plain_of words) many) refl

-- ---- the sources are refused by `Usage` alone

abbrev Only : {A : Type 0} → Result A WordsRefusal → Type 0
Only (Ok x) = Unit {0}
Only (Err refusal) = refusal ≡ Usage

only-then : {A B : Type 0} (r : Result A WordsRefusal) (f : A → Result B WordsRefusal) → Only r → ((x : A) → Only (f x)) → Only (r >>= f)
only-then (Ok x) f p q = q x
only-then (Err refusal) f p q = p

only-if : {A : Type 0} (b : Bool) (x y : Result A WordsRefusal) → Only x → Only y → Only (if b then x else y)
only-if true x y p q = p
only-if false x y p q = q

name-only : (r : Result Name NameRefusal) → Only (name_by r)
name-only (Ok name) = tt
name-only (Err refusal) = refl

server-only : (text : Option (List ℕ)) → Only (server_given text)
server-only None = tt
server-only (Some text) = name-only (parsed text)

mech-only : (word : List ℕ) → Only (mech_named word)
mech-only word =
    only-if (same word (codes "krb5")) (Ok (names.Kerberos Standard)) _ tt
    (only-if (same word (codes "ms-krb5")) (Ok (names.Kerberos Microsoft)) _ tt
    (only-if (same word (codes "scram")) (Ok names.Scram) (Err Usage) tt refl))

more-only : (one : Result MechName WordsRefusal) (rest : Result (List MechName) WordsRefusal) → Only one → Only rest → Only (one >>= λ name. rest >>= λ list. Ok (name ∷ list))
more-only (Ok name) (Ok list) p q = tt
more-only (Ok name) (Err refusal) p q = q
more-only (Err refusal) rest p q = p

list-only : (words : List (List ℕ)) → Only (mechs_named words)
list-only [] = tt
list-only (word ∷ words) = more-only (mech_named word) (mechs_named words) (mech-only word) (list-only words)

demand-only : (holds : Bool) → Only (demanded holds)
demand-only true = tt
demand-only false = refl

by-only : (text : List ℕ) → Only (mechs_by text)
unfolding mechs_by
by-only text =
    only-then (mechs_named (words_in text)) _ (list-only (words_in text)) (λ list. only-then (demanded (is_list list)) _ (demand-only (is_list list)) (λ few. tt))

equipped-only : (krb5 scram : Bool) (text : List ℕ) → Only (equipped krb5 scram text)
unfolding equipped
equipped-only krb5 scram text =
    only-then (mechs_by text) _ (by-only text) (λ list. only-then (demanded (are_equipped krb5 scram list)) _ (demand-only (are_equipped krb5 scram list)) (λ options. tt))

usual-only : (krb5 scram : Bool) → Only (usual krb5 scram)
usual-only true true = tt
usual-only true false = tt
usual-only false true = tt
usual-only false false = refl

mechs-only : (krb5 scram : Bool) (text : Option (List ℕ)) → Only (mechs_given krb5 scram text)
mechs-only krb5 scram None = usual-only krb5 scram
mechs-only krb5 scram (Some text) = equipped-only krb5 scram text

sources-only : (words : List (List ℕ)) → Only (sources_of words)
unfolding sources_of
sources-only words =
    only-then (server_given (value_of (codes "--server") words)) _ (server-only (value_of (codes "--server") words)) (λ server.
    only-then (mechs_given (has_krb5 words) (has_scram words) (value_of (codes "--mechs") words)) _ (mechs-only (has_krb5 words) (has_scram words) (value_of (codes "--mechs") words)) (λ list. tt))

-- ---- the words

words-crowded : (words : List (List ℕ)) → 6 < length (plain_of words) → words_of words ≡ Err Usage
unfolding words_of
words-crowded words many = formed (is_command words)
  where
    rest : Sources → Result ClientWords WordsRefusal
    rest sources = plan_of words >>= joined sources

    planned : (r : Result Sources WordsRefusal) → Only r → (r >>= rest) ≡ Err Usage
    planned (Ok sources) p = rw (plan-crowded words many) refl
    planned (Err refusal) p = ap Err p

    formed : (b : Bool) → (demanded b >>= (λ formed. sources_of words >>= rest)) ≡ Err Usage
    formed true = planned (sources_of words) (sources-only words)
    formed false = refl

words-unformed : (words : List (List ℕ)) → is_command words ≡ false → words_of words ≡ Err Usage
unfolding words_of
words-unformed words t = rw t refl

few-of : (n : ℕ) → nat_le n 6 ≡ true → n ≤ 6
few-of n e = grind (arith, nat_tests)

many-of : (n : ℕ) → nat_le n 6 ≡ false → 6 < n
many-of n e = grind (arith, nat_tests)

pub words-refused : (words : List (List ℕ)) → is_line words ≡ false → words_of words ≡ Err Usage
words-refused words e = go (is_command words) refl (nat_le (length (plain_of words)) 6) refl
  where
    go : (a : Bool) → is_command words ≡ a → (b : Bool) → nat_le (length (plain_of words)) 6 ≡ b → words_of words ≡ Err Usage
    go false t b s = words-unformed words t
    go true t false s = words-crowded words (many-of (length (plain_of words)) s)
    go true t true s = absurd (true≢false (rw (t, s) at e))

both : (a b : Bool) → (a && b) ≡ true → (a ≡ true) × (b ≡ true)
both true b e = (refl, e)
both false b e = absurd (true≢false (sym e))

-- words of the form are those that `clap` takes
pub record IsForm (words : List (List ℕ)) : Type 0 where
  pub command : is_command words ≡ true
  pub line : IsLine client_names 6 words

pub form-of : (words : List (List ℕ)) → is_line words ≡ true → IsForm words
form-of words e =
    let two = both (is_command words) (nat_le (length (plain_of words)) 6) e in
    let parts = both (is_some (first_word words)) (are_words client_names words) two.0 in
    record { command = two.0; line = record { first = parts.0; few = few-of (length (plain_of words)) two.1; known = parts.1 } }
