-- An initiator and an acceptor that meet are an honest pair.
use Rattle.std.proofs.Common.{◌≡◌, ◌⊎◌, inl, inr, ℕ, zero, suc, ◌+◌, ◌<◌, ◌≤◌, Bool, true, false, refl, ap, sym, subst, ◌∙◌, arith, List, [], ◌∷◌, length, map, Option, Some, Result, Ok, Err, is_ok, slice_get, IfOk}
use Rattle.std.specs.Prelude.{if◌then◌else◌}
use Rattle.std.specs.List.{AllByRecursion}
use Rattle.std.proofs.Math.Nat.{eq-or-lt_of_le}
use Rattle.std.proofs.lemmas.Option.{slice_get_within}
use Rattle.gss_base.specs.declared.mech.MechKind.{MechKind}
use Rattle.gss_base.specs.declared.mech.MechKind.TheVariants as kinds
use Rattle.gss_base.specs.declared.mech.KerberosName.{KerberosName}
use Rattle.der_core.specs.Format.{all_of}
use Rattle.krb_files.specs.Granted.{Granted}
use Rattle.krb_msgs.specs.Ticket.{ticket}
use Rattle.krb_msgs.specs.declared.ticket.Ticket.{Ticket}
use Rattle.ap_exchange.specs.Draws.{drawn_nonce}
use Rattle.ap_exchange.specs.declared.refusal.ApRefusal.{ApRefusal}
use Rattle.ap_exchange.specs.declared.request.ApInit.{ApInit}
use Rattle.ap_exchange.specs.Request.{request_of, request_token, request_makes, waiting, RequestFits}
use Rattle.scram_mech.specs.declared.refusal.ScramRefusal.{ScramRefusal}
use Rattle.scram_mech.specs.Initiator.{InitStarted, init_started}
use Rattle.scram_mech.specs.MechMaking.{MechMaking, typed}
use Rattle.spnego_core.specs.declared.setup.AcceptSetup.{AcceptSetup}
use Rattle.spnego_core.specs.declared.setup.MechCred.{MechCred}
use Rattle.spnego_core.specs.declared.setup.MechCred.TheVariants as creds
use Rattle.spnego_core.specs.declared.refusal.NegRefusal.{NegRefusal}
use Rattle.spnego_core.specs.declared.refusal.MechRefusal.{MechRefusal}
use Rattle.spnego_core.specs.Ends.{PlainSetup}
use Rattle.spnego_core.specs.Ends as ends
use Rattle.spnego_core.specs.MechStates as inits
use Rattle.spnego_core.specs.Choice.{is_first, is_mic_due, same_kind}
use Rattle.spnego_core.specs.Exchange.{Occasion, TicketFits, UserFits, Fitting, rounds_of, tokens_of}
use Rattle.spnego_core.specs.InitMech.{kind_of, kinds_of, is_own_list, cred_for, MechBegun, request_begun, text_begun, init_begun}
use Rattle.spnego_core.specs.Initiating.{Started, own_list, init_start, starts, opens, first_sent, token_sent}
use Rattle.spnego_core.specs.Sizes.{IsShort, FitsBeside}
use Rattle.spnego_core.specs.Tokens.{first_octets, resp_octets}
use Rattle.spnego_core.proofs.MechRounds.{request_begins, request-begins, text_begins, text-begins, pairs}
use Rattle.spnego_core.proofs.ShortInit.{request_fits, opening_short, token_short}
use Rattle.spnego_core.proofs.ShortTexts.{nonce_length, started_short}
use Rattle.pair_laws.specs.Meeting.{CredMeets, drawn_on, MeetLaw, AnswerTold, TicketTold, UserTold, CredTold, IsDrawn, SetupTold}

-- ---- where something is

-- this is so of each of these octets
abbrev Each : (List ℕ → Type 0) → List (List ℕ) → Type 0
Each P draws = (i : ℕ) (drawn : List ℕ) → slice_get draws i ≡ Some drawn → P drawn

ok-value : {A E : Type 0} (r : Result A E) → is_ok r ≡ true → (x : A) × (r ≡ Ok x)
ok-value (Ok x) e = (x, refl)
ok-value (Err refusal) e = absurd cc

some-is : {A : Type 0} (x y : A) → Some x ≡ Some y → x ≡ y
some-is x y e = cc

abbrev given : {A E : Type 0} → A → Result A E
given x = Ok x

ok-is : {A E : Type 0} (x y : A) → given {A = A} {E = E} x ≡ Ok y → x ≡ y
ok-is x y e = cc

told-for : (own : PlainSetup) (draws : List (List ℕ)) (list : List MechCred) (kind : MechKind) (cred : MechCred) → cred_for list kind ≡ Some cred → ((i : ℕ) (c : MechCred) → slice_get list i ≡ Some c → CredTold own draws c) → CredTold own draws cred
told-for own draws [] kind cred e told = absurd cc
told-for own draws (one ∷ rest) kind cred e told = by-cases (same_kind (kind_of one) kind) refl (told-for own draws rest kind cred)
  where
    by-cases : (same : Bool) → same_kind (kind_of one) kind ≡ same → (cred_for rest kind ≡ Some cred → ((i : ℕ) (c : MechCred) → slice_get rest i ≡ Some c → CredTold own draws c) → CredTold own draws cred) → CredTold own draws cred
    by-cases true s later = let is : Some one ≡ Some cred = subst (λ (b : Bool). (if b then Some one else cred_for rest kind) ≡ Some cred) s e in subst (λ (c : MechCred). CredTold own draws c) (some-is one cred is) (told zero one refl)
    by-cases false s later = let is : cred_for rest kind ≡ Some cred = subst (λ (b : Bool). (if b then Some one else cred_for rest kind) ≡ Some cred) s e in later is (λ i c f. told (suc i) c f)

-- one more of those that were gone through
pub one-more : {A : Type 0} (P : A → Type 0) (xs : List A) (n : ℕ) (x : A) → ((i : ℕ) (y : A) → i < n → slice_get xs i ≡ Some y → P y) → slice_get xs n ≡ Some x → P x → (i : ℕ) (y : A) → i < n + 1 → slice_get xs i ≡ Some y → P y
one-more {A} P xs n x all there holds i y below is = at (eq-or-lt_of_le (omega (arith, below)))
  where
    at : (i ≡ n) ⊎ (i < n) → P y
    at (inr less) = all i y less is
    at (inl equal) = subst P (some-is x y (sym there ∙ (ap (λ j. slice_get xs j) (sym equal) ∙ is))) holds

-- all of them
pub each-one : {A : Type 0} (P : A → Type 0) (xs : List A) (n : ℕ) → ((i : ℕ) (y : A) → i < n → slice_get xs i ≡ Some y → P y) → length xs ≡ n → (i : ℕ) (y : A) → slice_get xs i ≡ Some y → P y
each-one P xs n all long i y there = all i y (subst (λ m. i < m) long (slice_get_within xs i y there)) there

-- ---- the facts of each occasion

request-goes : (credential : Granted) (stamp : ℕ) (draws : List ℕ) (bindings : Option (List ℕ)) (granted : Ticket) → ticket.read (all_of credential.ticket) ≡ Ok granted
    → request_of credential stamp draws bindings ≡ Ok (waiting credential stamp draws bindings, request_token credential stamp draws bindings)
unfolding request_of
request-goes credential stamp draws bindings granted e = rw e refl

request-told : (setup : AcceptSetup) (own : PlainSetup) (draws : List (List ℕ)) (name : KerberosName) (credential : Granted) (occasion : Occasion) → TicketTold own draws credential → CredMeets setup own (creds.Kerberos name credential) occasion → RequestFits credential own.stamp own.draws own.bindings
request-told setup own draws name credential occasion told m = told.request (ap is_ok (request-goes credential own.stamp own.draws own.bindings m.granted m.is_ticket))

tickets-fit : (setup : AcceptSetup) (own : PlainSetup) (draws : List (List ℕ)) (name : KerberosName) (credential : Granted) → TicketTold own draws credential → (occasions : List Occasion) → Each IsDrawn (drawn_on occasions) → Each (AnswerTold own.stamp credential) (drawn_on occasions)
    → AllByRecursion (CredMeets setup own (creds.Kerberos name credential)) occasions → AllByRecursion (Fitting setup own (creds.Kerberos name credential)) occasions
tickets-fit setup own draws name credential told [] sizes answers meets = tt
tickets-fit setup own draws name credential told (occasion ∷ occasions) sizes answers meets = (
  record { drawn = sizes zero occasion.drawn refl; facts = record { fit = meets.0; request = request-told setup own draws name credential occasion told meets.0; answer = (answers zero occasion.drawn refl).fits own.bindings meets.0.part } },
  tickets-fit setup own draws name credential told occasions (λ i drawn e. sizes (suc i) drawn e) (λ i drawn e. answers (suc i) drawn e) meets.1,
)

users-fit : (setup : AcceptSetup) (own : PlainSetup) (user password : List ℕ) (occasions : List Occasion) → Each IsDrawn (drawn_on occasions) → AllByRecursion (CredMeets setup own (creds.Scram user password)) occasions → AllByRecursion (Fitting setup own (creds.Scram user password)) occasions
users-fit setup own user password [] sizes meets = tt
users-fit setup own user password (occasion ∷ occasions) sizes meets = (record { drawn = sizes zero occasion.drawn refl; facts = meets.0 }, users-fit setup own user password occasions (λ i drawn e. sizes (suc i) drawn e) meets.1)

all-fit : (setup : AcceptSetup) (own : PlainSetup) (cred : MechCred) (occasions : List Occasion) → Each IsDrawn (drawn_on occasions) → CredTold own (drawn_on occasions) cred → AllByRecursion (CredMeets setup own cred) occasions → AllByRecursion (Fitting setup own cred) occasions
all-fit setup own (creds.Kerberos name credential) occasions sizes told meets = tickets-fit setup own (drawn_on occasions) name credential told occasions sizes told.answers meets
all-fit setup own (creds.Scram user password) occasions sizes told meets = users-fit setup own user password occasions sizes meets

-- ---- how the chosen mechanism begins

record Begins (own : PlainSetup) (cred : MechCred) : Type 0 where
  begun : MechBegun
  begins : init_begun own cred ≡ Ok begun
  short : IsShort (resp_octets (token_sent begun.token))

begins-on : (setup : AcceptSetup) (own : PlainSetup) (draws : List (List ℕ)) (cred : MechCred) (occasion : Occasion) → IsDrawn own.draws → CredTold own draws cred → Fitting setup own cred occasion → Begins own cred
begins-on setup own draws (creds.Kerberos name credential) occasion size told f =
    let h : TicketFits setup own credential occasion = f.facts in
    let token : List ℕ = request_token credential own.stamp own.draws own.bindings in record {
      begun = request_begins own credential;
      begins = request-begins setup own name credential occasion h;
      short = token_short token
          (request_fits credential own.stamp own.draws own.bindings (waiting credential own.stamp own.draws own.bindings) token (request-goes credential own.stamp own.draws own.bindings h.fit.granted h.fit.is_ticket) size told.ticket told.named h.request);
    }
begins-on setup own draws (creds.Scram user password) occasion size told f =
    let h : UserFits setup own user password occasion = f.facts in
    let p = pairs setup own user password occasion occasion h in record {
      begun = text_begins p.started;
      begins = text-begins own user password p.started p.starts;
      short = token_short p.started.token (started_short user password (drawn_nonce own.draws) own.bindings p.started h.honest.few (nonce_length own.draws size) p.starts);
    }

one-token : (first due : Bool) (kind : MechKind) → 1 ≤ (if first then 0 else 1) + rounds_of kind + (if due then 1 else 0)
one-token first due kinds.Kerberos = omega arith
one-token first due kinds.Scram = omega arith

begins-some : (setup : AcceptSetup) (own : PlainSetup) (draws : List (List ℕ)) (kind : MechKind) (cred : MechCred) (occasions : List Occasion) → length occasions ≡ tokens_of setup own kind → IsDrawn own.draws → CredTold own draws cred → AllByRecursion (Fitting setup own cred) occasions → Begins own cred
begins-some setup own draws kind cred [] counted size told fit = absurd (omega (arith, counted, one-token (is_first (kinds_of own.list) kind) (is_mic_due setup.offer (own_list own) kind) kind))
begins-some setup own draws kind cred (occasion ∷ occasions) counted size told fit = begins-on setup own draws cred occasion size told fit.0

-- ---- the first token

request-fits : (own : PlainSetup) (draws : List (List ℕ)) (credential : Granted) (makes : List MechMaking) (r : Result (ApInit × List ℕ) ApRefusal) (begun : MechBegun) → request_of credential own.stamp own.draws own.bindings ≡ r → IsDrawn own.draws → TicketTold own draws credential → request_begun makes r ≡ Ok begun → FitsBeside begun.token
request-fits own draws credential makes (Ok sent) begun same size told e =
    let is : record { mech = inits.Kerberos sent.0; token = sent.1; makes = makes } ≡ begun = ok-is _ begun e in
    subst (λ (b : MechBegun). FitsBeside b.token) is
    (request_fits credential own.stamp own.draws own.bindings sent.0 sent.1 same size told.ticket told.named (told.request (ap is_ok same)))
request-fits own draws credential makes (Err refusal) begun same size told e = absurd cc

text-fits : (own : PlainSetup) (user password : List ℕ) (r : Result InitStarted ScramRefusal) (begun : MechBegun) → init_started user password (drawn_nonce own.draws) own.bindings ≡ r → IsDrawn own.draws → UserTold own user password → text_begun r ≡ Ok begun → FitsBeside begun.token
text-fits own user password (Ok started) begun same size told e =
    let is : record { mech = inits.Scram started.end; token = started.token; makes = [] } ≡ begun = ok-is _ begun e in
    subst (λ (b : MechBegun). FitsBeside b.token) is
    (started_short user password (drawn_nonce own.draws) own.bindings started (told.few (ap is_ok same)) (nonce_length own.draws size) same)
text-fits own user password (Err refusal) begun same size told e = absurd cc

begun-fits : (own : PlainSetup) (draws : List (List ℕ)) (cred : MechCred) (begun : MechBegun) → IsDrawn own.draws → CredTold own draws cred → init_begun own cred ≡ Ok begun → FitsBeside begun.token
unfolding init_begun
begun-fits own draws (creds.Kerberos name credential) begun size told e =
    request-fits own draws credential (map typed (request_makes credential own.stamp own.draws own.bindings)) (request_of credential own.stamp own.draws own.bindings) begun refl size told e
begun-fits own draws (creds.Scram user password) begun size told e =
    text-fits own user password (init_started user password (drawn_nonce own.draws) own.bindings) begun refl size told e

opens-short : (own : PlainSetup) (r : Result MechBegun MechRefusal) (started : Started) → is_own_list own.list ≡ true → ((begun : MechBegun) → r ≡ Ok begun → FitsBeside begun.token) → opens own r ≡ Ok started → IsShort started.token
opens-short own (Ok begun) started list fits e =
    let is : record { end = ends.Opens (record { own = own; mech = begun.mech }); token = first_octets own.negotiates (first_sent own begun.token); makes = begun.makes } ≡ started = ok-is _ started e in
    subst (λ (s : Started). IsShort s.token) is (opening_short own.negotiates own begun.token list (fits begun refl))
opens-short own (Err refusal) started list fits e = absurd cc

starts-short : (own : PlainSetup) (draws : List (List ℕ)) (list : List MechCred) (started : Started) → is_own_list own.list ≡ true → IsDrawn own.draws → ((i : ℕ) (cred : MechCred) → slice_get list i ≡ Some cred → CredTold own draws cred) → starts own list ≡ Ok started → IsShort started.token
starts-short own draws [] started is_list size told e = absurd cc
starts-short own draws (first ∷ rest) started is_list size told e =
    opens-short own (init_begun own first) started is_list (λ begun b. begun-fits own draws first begun size (told zero first refl) b) e

-- ---- the pair

pub meeting : (own : PlainSetup) (draws : List (List ℕ)) → SetupTold own draws → MeetLaw own draws
meeting own draws told setup kind occasions same m =
    let s = ok-value {A = Started} {E = NegRefusal} (init_start own) m.begins in
    let known : CredTold own draws m.cred = told-for own draws own.list kind m.cred m.is_cred told.creds in
    let fit : AllByRecursion (Fitting setup own m.cred) occasions = all-fit setup own m.cred occasions (subst (λ (ds : List (List ℕ)). Each IsDrawn ds) (sym same) told.all_drawn) (subst (λ (ds : List (List ℕ)). CredTold own ds m.cred) (sym same) known) m.facts in
    let b = begins-some setup own draws kind m.cred occasions m.counted told.drawn known fit in record {
      is_list = told.list;
      chosen = m.chosen;
      cred = m.cred;
      is_cred = m.is_cred;
      draws = told.drawn;
      started = s.0;
      starts = s.1;
      short = starts-short own draws own.list s.0 told.list told.drawn told.creds s.1;
      begun = b.begun;
      begins = b.begins;
      begun_short = b.short;
      counted = m.counted;
      fit = fit;
      bare = m.bare;
    }

-- what a call tells that may want memory
pub if-told : {E : Type 0} (own : PlainSetup) (draws : List (List ℕ)) (result : Result (Unit {0}) E) → is_own_list own.list ≡ true → IsDrawn own.draws → Each IsDrawn draws → IfOk result (λ _. (i : ℕ) (cred : MechCred) → slice_get own.list i ≡ Some cred → CredTold own draws cred)
    → IfOk result (λ _. MeetLaw own draws)
if-told own draws (Ok done) list drawn all_drawn creds = meeting own draws (record { list = list; drawn = drawn; all_drawn = all_drawn; creds = creds })
if-told own draws (Err refusal) list drawn all_drawn creds = tt
