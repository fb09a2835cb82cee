-- What the options give, read one after the other, and put together.
use Rattle.std.proofs.Common.{codes, ◌≡◌, ◌∙◌, ℕ, Bool, List, Option, Result, Ok, Err, MatchResult, IfOk, refl, sym, subst}
use Rattle.sec_base.specs.Answers.{Gives}
use Rattle.gss_base.specs.Name.{Name}
use Rattle.gss_base.specs.declared.mech.MechKind.{MechKind}
use Rattle.cli_base.specs.Words.{value_of}
use Rattle.cli_base.specs.Given.{◌>>=◌, number_given, data_given}
use Rattle.server_options.specs.Options.{limit_given, digest_given, bare_given, AreRanged, IsRanged, files_given, name_given, offer_given, numbers_given, options_in}
use Rattle.server_options.specs.declared.options.Files.{Files}
use Rattle.server_options.specs.declared.options.Numbers.{Numbers}
use Rattle.server_options.specs.declared.options.Options.{Options}
use Rattle.cli_base.specs.declared.given.WordsRefusal.{WordsRefusal}
use Rattle.cli_base.specs.declared.given.WordsRefusal.TheVariants as refusals

abbrev pub numbers_of : Result ℕ WordsRefusal → Result (Option ℕ) WordsRefusal → Result ℕ WordsRefusal → Result ℕ WordsRefusal → Result (Option ℕ) WordsRefusal → Result ℕ WordsRefusal → Result ℕ WordsRefusal → Result Bool WordsRefusal → Result Bool WordsRefusal → Result Numbers WordsRefusal
numbers_of window connections contexts marks log desks idle digest bare = do
  w ← window
  c ← connections
  k ← contexts
  m ← marks
  l ← log
  d ← desks
  i ← idle
  g ← digest
  x ← bare
  Ok (record { window = w; connections = c; contexts = k; marks = m; log = l; desks = d; idle = i; digest = g; bare = x })

abbrev pub pair_of : {A B : Type 0} → Result A WordsRefusal → Result B WordsRefusal → Result (A × B) WordsRefusal
pair_of first second = first >>= λ a. second >>= λ b. Ok (a, b)

-- both values, or the first refusal
abbrev pub IsBoth : {A B : Type 0} → Result A WordsRefusal → Result B WordsRefusal → Result (A × B) WordsRefusal → Type 0
IsBoth first second both = MatchResult first (λ a. MatchResult second (λ b. both ≡ Ok (a, b)) (λ e. both ≡ Err e)) (λ e. both ≡ Err e)

-- the answer of both is given where both answers are
gives-both : {A B : Type 0} (first : Result A WordsRefusal) (second : Result B WordsRefusal) (both : Result (A × B) WordsRefusal) (one : Result A WordsRefusal) (other : Result B WordsRefusal)
    → Gives refusals.NoMemory (λ a. a) first one → Gives refusals.NoMemory (λ b. b) second other → IsBoth first second both → Gives refusals.NoMemory (λ p. p) both (pair_of one other)
gives-both (Ok a) (Ok b) both one other h i z = rw (z, h, i) refl
gives-both (Ok a) (Err e) both one other h i z = rw z (λ n. rw (h, i n) refl)
gives-both (Err e) second both one other h i z = rw z (λ n. rw (h n) refl)

abbrev pub Parts : Type 0
Parts = ((Files × Name) × (Option (List ℕ) × List MechKind)) × Numbers

abbrev pub options_by : Parts → Options
options_by p = record { files = p.0.0.0; name = p.0.0.1; bindings = p.0.1.0; offer = p.0.1.1; bare = p.1.bare; window = p.1.window; connections = p.1.connections; contexts = p.1.contexts; marks = p.1.marks; log = p.1.log; desks = p.1.desks; idle = p.1.idle; digest = p.1.digest }

-- what is made of all thirteen is made of the parts
pub joined : (files : Result Files WordsRefusal) (name : Result Name WordsRefusal) (bound : Result (Option (List ℕ)) WordsRefusal) (offer : Result (List MechKind) WordsRefusal) (window : Result ℕ WordsRefusal) (connections : Result (Option ℕ) WordsRefusal) (contexts marks : Result ℕ WordsRefusal) (log : Result (Option ℕ) WordsRefusal) (desks idle : Result ℕ WordsRefusal) (digest bare : Result Bool WordsRefusal)
    → (files >>= λ f. name >>= λ n. bound >>= λ b. offer >>= λ o. window >>= λ w. connections >>= λ c. contexts >>= λ k. marks >>= λ m. log >>= λ l. desks >>= λ d. idle >>= λ i. digest >>= λ g. bare >>= λ x. Ok (options_by (((f, n), (b, o)), record { window = w; connections = c; contexts = k; marks = m; log = l; desks = d; idle = i; digest = g; bare = x })))
    ≡ (pair_of (pair_of (pair_of files name) (pair_of bound offer)) (numbers_of window connections contexts marks log desks idle digest bare) >>= λ p. Ok (options_by p))
joined (Err e) name bound offer window connections contexts marks log desks idle digest bare = refl
joined (Ok f) (Err e) bound offer window connections contexts marks log desks idle digest bare = refl
joined (Ok f) (Ok n) (Err e) offer window connections contexts marks log desks idle digest bare = refl
joined (Ok f) (Ok n) (Ok b) (Err e) window connections contexts marks log desks idle digest bare = refl
joined (Ok f) (Ok n) (Ok b) (Ok o) (Err e) connections contexts marks log desks idle digest bare = refl
joined (Ok f) (Ok n) (Ok b) (Ok o) (Ok w) (Err e) contexts marks log desks idle digest bare = refl
joined (Ok f) (Ok n) (Ok b) (Ok o) (Ok w) (Ok c) (Err e) marks log desks idle digest bare = refl
joined (Ok f) (Ok n) (Ok b) (Ok o) (Ok w) (Ok c) (Ok k) (Err e) log desks idle digest bare = refl
joined (Ok f) (Ok n) (Ok b) (Ok o) (Ok w) (Ok c) (Ok k) (Ok m) (Err e) desks idle digest bare = refl
joined (Ok f) (Ok n) (Ok b) (Ok o) (Ok w) (Ok c) (Ok k) (Ok m) (Ok l) (Err e) idle digest bare = refl
joined (Ok f) (Ok n) (Ok b) (Ok o) (Ok w) (Ok c) (Ok k) (Ok m) (Ok l) (Ok d) (Err e) digest bare = refl
joined (Ok f) (Ok n) (Ok b) (Ok o) (Ok w) (Ok c) (Ok k) (Ok m) (Ok l) (Ok d) (Ok i) (Err e) bare = refl
joined (Ok f) (Ok n) (Ok b) (Ok o) (Ok w) (Ok c) (Ok k) (Ok m) (Ok l) (Ok d) (Ok i) (Ok g) (Err e) = refl
joined (Ok f) (Ok n) (Ok b) (Ok o) (Ok w) (Ok c) (Ok k) (Ok m) (Ok l) (Ok d) (Ok i) (Ok g) (Ok x) = refl

gives-same : {A : Type 0} (r a : Result A WordsRefusal) → r ≡ a → Gives refusals.NoMemory (λ x. x) r a
gives-same (Ok x) a e = sym e
gives-same (Err x) a e = λ _. sym e

gives-made : {A B : Type 0} (make : A → B) (r a : Result A WordsRefusal) → Gives refusals.NoMemory (λ x. x) r a → Gives refusals.NoMemory make r (a >>= λ x. Ok (make x))
gives-made make (Ok x) a h = rw h refl
gives-made make (Err e) a h = λ n. rw (h n) refl

-- what is read of the parts, put together, is what is read one after the other
all-given : (files af : Result Files WordsRefusal) (name an : Result Name WordsRefusal) (bound ab : Result (Option (List ℕ)) WordsRefusal) (offer ao : Result (List MechKind) WordsRefusal) (numbers : Result Numbers WordsRefusal) (w : Result ℕ WordsRefusal) (c : Result (Option ℕ) WordsRefusal) (k m : Result ℕ WordsRefusal) (l : Result (Option ℕ) WordsRefusal) (d i : Result ℕ WordsRefusal) (g x : Result Bool WordsRefusal) (keys : Result (Files × Name) WordsRefusal) (offered : Result (Option (List ℕ) × List MechKind) WordsRefusal) (owned : Result ((Files × Name) × (Option (List ℕ) × List MechKind)) WordsRefusal) (all : Result Parts WordsRefusal)
    → Gives refusals.NoMemory (λ x. x) files af → Gives refusals.NoMemory (λ x. x) name an → Gives refusals.NoMemory (λ x. x) bound ab → Gives refusals.NoMemory (λ x. x) offer ao → numbers ≡ numbers_of w c k m l d i g x
    → IsBoth files name keys → IsBoth bound offer offered → IsBoth keys offered owned → IsBoth owned numbers all
    → Gives refusals.NoMemory options_by all (af >>= λ f. an >>= λ n. ab >>= λ b. ao >>= λ o. w >>= λ w'. c >>= λ c'. k >>= λ k'. m >>= λ m'. l >>= λ l'. d >>= λ d'. i >>= λ i'. g >>= λ g'. x >>= λ x'. Ok (options_by (((f, n), (b, o)), record { window = w'; connections = c'; contexts = k'; marks = m'; log = l'; desks = d'; idle = i'; digest = g'; bare = x' })))
all-given files af name an bound ab offer ao numbers w c k m l d i g x keys offered owned all gf gn gb go gk bk bo bw ba =
    let pairs = gives-both owned numbers all _ _ (gives-both keys offered owned _ _ (gives-both files name keys af an gf gn bk) (gives-both bound offer offered ab ao gb go bo) bw) (gives-same numbers (numbers_of w c k m l d i g x) gk) ba in
    subst (λ a. Gives refusals.NoMemory options_by all a) (sym (joined af an ab ao w c k m l d i g x)) (gives-made options_by all _ pairs)

pub words-given : (words : List (List ℕ)) (files : Result Files WordsRefusal) (name : Result Name WordsRefusal) (bound : Result (Option (List ℕ)) WordsRefusal) (offer : Result (List MechKind) WordsRefusal) (numbers : Result Numbers WordsRefusal) (keys : Result (Files × Name) WordsRefusal) (offered : Result (Option (List ℕ) × List MechKind) WordsRefusal) (owned : Result ((Files × Name) × (Option (List ℕ) × List MechKind)) WordsRefusal) (all : Result Parts WordsRefusal)
    → Gives refusals.NoMemory (λ x. x) files (files_given (value_of (codes "--keytab") words) (value_of (codes "--verifiers") words) (value_of (codes "--journal") words)) → Gives refusals.NoMemory (λ x. x) name (name_given (value_of (codes "--name") words)) → Gives refusals.NoMemory (λ x. x) bound (data_given (value_of (codes "--bind") words)) → Gives refusals.NoMemory (λ x. x) offer (offer_given (value_of (codes "--offer") words)) → numbers ≡ numbers_given words
    → IsBoth files name keys → IsBoth bound offer offered → IsBoth keys offered owned → IsBoth owned numbers all → Gives refusals.NoMemory options_by all (options_in words)
unfolding options_in
words-given words files name bound offer numbers keys offered owned all =
    all-given files (files_given (value_of (codes "--keytab") words) (value_of (codes "--verifiers") words) (value_of (codes "--journal") words)) name (name_given (value_of (codes "--name") words)) bound (data_given (value_of (codes "--bind") words)) offer (offer_given (value_of (codes "--offer") words)) numbers (number_given 1 1024 128 (value_of (codes "--window") words)) (limit_given 1 1000000 (value_of (codes "--connections") words)) (number_given 1 65536 1024 (value_of (codes "--contexts") words)) (number_given 1 1000000 65536 (value_of (codes "--marks") words)) (limit_given 16 4000000 (value_of (codes "--log") words)) (number_given 1 1024 64 (value_of (codes "--desks") words)) (number_given 1 86400 60 (value_of (codes "--idle") words)) (digest_given (value_of (codes "--digest") words)) (bare_given (value_of (codes "--bare") words)) keys offered owned all

pub ok-of : (all : Result Parts WordsRefusal) (answer : Result Options WordsRefusal) (p : Parts) (o : Options) → Gives refusals.NoMemory options_by all answer → all ≡ Ok p → o ≡ options_by p → answer ≡ Ok o
ok-of all answer p o given e is = let made : answer ≡ Ok (options_by p) = subst (λ (r : Result Parts WordsRefusal). Gives refusals.NoMemory options_by r answer) e given in rw is made

pub err-of : (all : Result Parts WordsRefusal) (answer : Result Options WordsRefusal) (e : WordsRefusal) → Gives refusals.NoMemory options_by all answer → all ≡ Err e → Gives refusals.NoMemory (λ (o : Options). o) (Err e) answer
err-of all answer e given is = subst (λ (r : Result Parts WordsRefusal). Gives refusals.NoMemory options_by r answer) is given

-- a part of both was read where both were
other-of : {A B : Type 0} (first : Result A WordsRefusal) (second : Result B WordsRefusal) (both : Result (A × B) WordsRefusal) (p : A × B) → IsBoth first second both → both ≡ Ok p → second ≡ Ok p.1
other-of {A} {B} (Ok a) (Ok b) both p z e = let s : ◌≡◌ {A = Result (A × B) WordsRefusal} (Ok (a, b)) (Ok p) = sym z ∙ e in cc
other-of {A} {B} (Ok a) (Err x) both p z e = absurd (let s : ◌≡◌ {A = Result (A × B) WordsRefusal} (Err x) (Ok p) = sym z ∙ e in cc)
other-of {A} {B} (Err x) second both p z e = absurd (let s : ◌≡◌ {A = Result (A × B) WordsRefusal} (Err x) (Ok p) = sym z ∙ e in cc)

-- the numbers among the parts are within their limits
pub ranged : (owned : Result ((Files × Name) × (Option (List ℕ) × List MechKind)) WordsRefusal) (numbers : Result Numbers WordsRefusal) (all : Result Parts WordsRefusal) (p : Parts) (o : Options) → IsBoth owned numbers all → all ≡ Ok p → IfOk numbers AreRanged → o ≡ options_by p → IsRanged o
ranged owned numbers all p o z e limits is =
    let r : AreRanged p.1 = subst (λ (x : Result Numbers WordsRefusal). IfOk x AreRanged) (other-of owned numbers all p z e) limits in
    rw is (record { some_window = r.some_window; window = r.window; connections = r.connections; contexts = r.contexts; some_mark = r.some_mark; marks = r.marks; log = r.log; some_desk = r.some_desk; desks = r.desks; some_idle = r.some_idle; idle = r.idle })
