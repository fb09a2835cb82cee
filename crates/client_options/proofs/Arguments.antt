-- What the words of the client ask of the served program is a procedure with its own arguments.
use Rattle.std.proofs.Common.{◌≡◌, ℕ, ◌≤◌, Bool, true, false, refl, subst, arith, nat_lt, nat_le, nat_eq, codes, List, [], length, slice_get, Result, Ok, Err, if◌then◌else◌}
use Rattle.std.proofs.lemmas.Bool.Decides.{nat_tests}
use Rattle.hex.specs.Hex.{decode_of}
use Rattle.hex.specs.declared.error.FromHexError.{FromHexError}
use Rattle.cli_base.specs.Given.{◌>>=◌, or_usage, demanded, number_given, data_given}
use Rattle.cli_base.specs.Words.{value_of, plain_of}
use Rattle.rpc_msgs.specs.Words.{opaque}
use Rattle.posts_client.specs.declared.procedure.Procedure.{Procedure}
use Rattle.posts_client.specs.declared.procedure.Procedure.TheVariants.{Null, Echo, Whoami, Post, Count}
use Rattle.mech_words.specs.Names.{same}
use Rattle.client_options.specs.Words.{data_by, served, word_given, args_given, bare, with_data, numbered, asked_by, asked_in, is_command, service_given, plan_of, sources_of, words_of, negotiates_given, is_fit, IsData, IsArgument, IsOwn}
use Rattle.client_options.specs.declared.command.Command.TheVariants.{Numbered}
use Rattle.client_options.specs.declared.words.Asked.{Asked}
use Rattle.client_options.specs.declared.words.ClientWords.{ClientWords}
use Rattle.client_options.specs.declared.words.Plan.{Plan}
use Rattle.cli_base.specs.declared.given.WordsRefusal.{WordsRefusal}
use Rattle.cli_base.specs.declared.given.WordsRefusal.TheVariants.{Usage}

-- ---- readings

bind : {A B : Type 0} (r : Result A WordsRefusal) (f : A → Result B WordsRefusal) (y : B) → (r >>= f) ≡ Ok y → (x : A) × (r ≡ Ok x) × (f x ≡ Ok y)
bind (Ok x) f y e = (x, refl, e)
bind (Err refusal) f y e = absurd cc

ok-is : {A : Type 0} (x y : A) → ◌≡◌ {A = Result A WordsRefusal} (Ok x) (Ok y) → x ≡ y
ok-is x y e = cc

choose : {A : Type 0} (b : Bool) (x y : Result A WordsRefusal) (v : A) (P : Type 0) → (x ≡ Ok v → P) → (y ≡ Ok v → P) → (if b then x else y) ≡ Ok v → P
choose true x y v P here there e = here e
choose false x y v P here there e = there e

-- ---- the arguments

-- what is asked for has its own arguments
abbrev Own : Asked → Type 0
Own asked = IsOwn asked.command asked.program asked.version asked.args

data-few : (r : Result (List ℕ) FromHexError) (octets : List ℕ) → data_by r ≡ Ok octets → length octets ≤ 65536
data-few (Err refusal) octets e = absurd cc
data-few (Ok xs) octets e = by-cases (nat_lt 65536 (length xs)) refl
  where
    by-cases : (long : Bool) → nat_lt 65536 (length xs) ≡ long → length octets ≤ 65536
    by-cases true s = let bad : ◌≡◌ {A = Result (List ℕ) WordsRefusal} (Err Usage) (Ok octets) = subst (λ (b : Bool). (if b then Err Usage else Ok xs) ≡ Ok octets) s e in absurd cc
    by-cases false s =
        let is : xs ≡ octets = ok-is xs octets (subst (λ (b : Bool). ◌≡◌ {A = Result (List ℕ) WordsRefusal} (if b then Err Usage else Ok xs) (Ok octets)) s e) in
        let few : length xs ≤ 65536 = grind (arith, nat_tests) in
        subst (λ (zs : List ℕ). length zs ≤ 65536) is few

bare-own : (plain : List (List ℕ)) (procedure : Procedure) (asked : Asked) → IsArgument procedure [] → bare plain procedure ≡ Ok asked → Own asked
unfolding bare
bare-own plain procedure asked h e =
    let b = bind (demanded (nat_eq (length plain) 2)) _ asked e in
    subst (λ (a : Asked). Own a) (ok-is (served procedure []) asked b.2) (refl, refl, h)

data-own : (plain : List (List ℕ)) (procedure : Procedure) (asked : Asked) → ((args : List ℕ) → IsData args → IsArgument procedure args) → with_data plain procedure ≡ Ok asked → Own asked
unfolding with_data
data-own plain procedure asked h e =
    let b = bind (demanded (nat_eq (length plain) 3)) _ asked e in
    let c = bind (or_usage (slice_get plain 2)) _ asked b.2 in
    let d = bind (data_by (decode_of c.0)) _ asked c.2 in
    subst (λ (a : Asked). Own a) (ok-is (served procedure (opaque d.0)) asked d.2) (refl, refl, h (opaque d.0) (record { octets = d.0; few = data-few (decode_of c.0) d.0 d.1; spelled = refl }))

numbered-own : (plain : List (List ℕ)) (asked : Asked) → numbered plain ≡ Ok asked → Own asked
unfolding numbered
numbered-own plain asked e =
    let a = bind (demanded (nat_le (length plain) 6)) _ asked e in
    let b = bind (word_given (slice_get plain 2)) _ asked a.2 in
    let c = bind (word_given (slice_get plain 3)) _ asked b.2 in
    let d = bind (word_given (slice_get plain 4)) _ asked c.2 in
    let f = bind (args_given (slice_get plain 5)) _ asked d.2 in
    subst (λ (a : Asked). Own a) (ok-is (record { command = Numbered d.0; program = b.0; version = c.0; args = f.0 }) asked f.2) tt

none-own : (asked : Asked) → ◌≡◌ {A = Result Asked WordsRefusal} (Err Usage) (Ok asked) → Own asked
none-own asked e = absurd cc

asked-own : (plain : List (List ℕ)) (word : List ℕ) (asked : Asked) → asked_by plain word ≡ Ok asked → Own asked
asked-own plain word asked e =
    choose (same word (codes "null")) (bare plain Null) _ asked (Own asked) (bare-own plain Null asked refl)
    (choose (same word (codes "echo")) (with_data plain Echo) _ asked (Own asked) (data-own plain Echo asked (λ args d. d))
    (choose (same word (codes "whoami")) (bare plain Whoami) _ asked (Own asked) (bare-own plain Whoami asked refl)
    (choose (same word (codes "post")) (with_data plain Post) _ asked (Own asked) (data-own plain Post asked (λ args d. d))
    (choose (same word (codes "count")) (bare plain Count) _ asked (Own asked) (bare-own plain Count asked refl)
    (choose (same word (codes "call")) (numbered plain) (Err Usage) asked (Own asked) (numbered-own plain asked) (none-own asked)))))) e

in-own : (plain : List (List ℕ)) (asked : Asked) → asked_in plain ≡ Ok asked → Own asked
unfolding asked_in
in-own plain asked e = let b = bind (or_usage (slice_get plain 1)) _ asked e in asked-own plain b.0 asked b.2

plan-own : (words : List (List ℕ)) (plan : Plan) → plan_of words ≡ Ok plan → IsOwn plan.command plan.terms.program plan.terms.version plan.args
unfolding plan_of
plan-own words plan e =
    let a = bind (asked_in (plain_of words)) _ plan e in
    let b = bind (data_given (value_of (codes "--bind") words)) _ plan a.2 in
    let n = bind (negotiates_given (value_of (codes "--bare") words)) _ plan b.2 in
    let c = bind (service_given (value_of (codes "--service") words)) _ plan n.2 in
    let d = bind (number_given 1 1000 1 (value_of (codes "--times") words)) _ plan c.2 in
    let f = bind (number_given 1 2147483647 1 (value_of (codes "--first") words)) _ plan d.2 in
    let is = ok-is (record { command = a.0.command; args = a.0.args; bindings = b.0; negotiates = n.0; terms = record { service = c.0; program = a.0.program; version = a.0.version }; times = d.0; first = f.0 }) plan f.2 in
    subst (λ (p : Plan). IsOwn p.command p.terms.program p.terms.version p.args) is (in-own (plain_of words) a.0 a.1)

pub words-own : (words : List (List ℕ)) (asked : ClientWords) → words_of words ≡ Ok asked → IsOwn asked.plan.command asked.plan.terms.program asked.plan.terms.version asked.plan.args
unfolding words_of
words-own words asked e =
    let a = bind (demanded (is_command words)) _ asked e in
    let b = bind (sources_of words) _ asked a.2 in
    let c = bind (plan_of words) _ asked b.2 in
    choose (is_fit c.0.negotiates b.0.mechs) (Ok (record { sources = b.0; plan = c.0 })) (Err Usage) asked (IsOwn asked.plan.command asked.plan.terms.program asked.plan.terms.version asked.plan.args)
    (λ e. subst (λ (w : ClientWords). IsOwn w.plan.command w.plan.terms.program w.plan.terms.version w.plan.args) (ok-is (record { sources = b.0; plan = c.0 }) asked e) (plan-own words c.0 c.1))
    (λ e. absurd cc) c.2
