-- An honest pair's exchange from its first token on: by its first mechanism, or by one that it switches to.
use Rattle.std.proofs.Common.{◌≡◌, inl, inr, ℕ, ◌+◌, Bool, true, false, not, ◌&&◌, if◌then◌else◌, refl, sym, ap, ◌∙◌, subst, arith, List, [], ◌∷◌, ◌++◌, length, map, take, max, Option, Some, None, Result, Ok, Err}
use Rattle.std.specs.List.{AllByRecursion}
use Rattle.std.proofs.lemmas.Bool.{cases_Bool}
use Rattle.std.proofs.lemmas.Option.{none-some}
use Rattle.gss_base.specs.declared.mech.MechKind.{MechKind}
use Rattle.gss_base.specs.declared.mech.MechKind.TheVariants as kinds
use Rattle.gss_base.specs.declared.mech.KerberosName.{KerberosName}
use Rattle.gss_base.specs.declared.mech.KerberosName.TheVariants.{Standard, Microsoft}
use Rattle.krb_derive.specs.Making.{Making}
use Rattle.krb_files.specs.Granted.{Granted}
use Rattle.ap_exchange.specs.declared.refusal.ApRefusal.{ApRefusal}
use Rattle.ap_exchange.specs.declared.request.ApInit.{ApInit}
use Rattle.ap_exchange.specs.Draws.{drawn_nonce}
use Rattle.ap_exchange.specs.Judging.{judged_mark}
use Rattle.ap_exchange.specs.Request.{request_of as kerberos_request, request_makes}
use Rattle.replay_cache.specs.declared.cache.CacheVerdict.TheVariants.{Taken}
use Rattle.replay_cache.specs.declared.cache.TakenMark.{TakenMark}
use Rattle.replay_cache.specs.Taking.{cache_verdict}
use Rattle.scram_mech.specs.declared.refusal.ScramRefusal.{ScramRefusal}
use Rattle.scram_mech.specs.Initiator.{InitStarted, init_started}
use Rattle.scram_mech.specs.MechMaking.{MechMaking, AmongMakings, typed}
use Rattle.spnego_core.specs.declared.outcome.Outcome.{Outcome}
use Rattle.spnego_core.specs.declared.refusal.MechRefusal.{MechRefusal}
use Rattle.spnego_core.specs.declared.refusal.NegRefusal.{NegRefusal}
use Rattle.spnego_core.specs.declared.setup.AcceptSetup.{AcceptSetup}
use Rattle.spnego_core.specs.declared.setup.MechCred.{MechCred}
use Rattle.spnego_core.specs.declared.setup.MechCred.TheVariants as creds
use Rattle.spnego_core.specs.MechStates as own_mechs
use Rattle.spnego_core.specs.declared.accept_mech.AcceptMech.TheVariants as mechs
use Rattle.spnego_core.specs.declared.accept_end.AcceptEnd.{AcceptEnd}
use Rattle.spnego_core.specs.declared.accept_end.AcceptEnd.TheVariants as accepts
use Rattle.spnego_core.specs.declared.accept_end.Turn.{Turn}
use Rattle.spnego_core.specs.declared.accept_end.Turn.TheVariants.{First, Later}
use Rattle.spnego_core.specs.Ends.{PlainSetup}
use Rattle.spnego_core.specs.Ends as inits
use Rattle.spnego_core.specs.AcceptMech.{accept_begun}
use Rattle.spnego_core.specs.Accepting.{reply}
use Rattle.spnego_core.specs.Choice.{same_kind, is_first, is_first_named, is_mic_due, best}
use Rattle.spnego_core.specs.Exchange.{BareFits, TicketFits, UserFits, Fitting, rounds_of, tokens_of, HonestPair}
use Rattle.spnego_core.specs.InitMech.{kind_of, kinds_of, oid_listed, is_own, is_own_list, cred_for, ticket_for, MechBegun, request_begun, text_begun, init_begun}
use Rattle.spnego_core.specs.Initiating.{Started, own_list, first_sent, token_sent, starts, opens}
use Rattle.spnego_core.specs.Sizes.{IsShort}
use Rattle.spnego_core.specs.Bare.{takes_bare}
use Rattle.spnego_core.specs.Tokens.{first_octets, init_octets, resp_octets}
use Rattle.spnego_core.proofs.InitSteps.{cred_for-kind}
use Rattle.spnego_core.proofs.Makings.{among_back, among_split}
use Rattle.spnego_core.proofs.MechRounds.{request_begins, request-begins}
use Rattle.spnego_core.proofs.Spelled.{token_short}
use Rattle.spnego_core.proofs.Bares.{bare-list, takes-first}
use Rattle.spnego_core.proofs.Exchanges.{only_cred}
use Rattle.spnego_core.proofs.Turns.{MayCome, oid_on, chosen_on, end_at, Hears, hears_first, hears_later, hears_bare}
use Rattle.accept_book.specs.Booking.{BookOf}
use Rattle.accept_core.specs.History.{taken_of}
use Rattle.world_laws.specs.Lanes.{request_of}
use Rattle.world_runs.specs.Meeting.{occasions_at, ReadyFor}
use Rattle.world_laws.specs.Premises.{Marking}
use Rattle.world_runs.proofs.MetMessages.{reply-short, none-holds, switched, switches, waiting, waits}
use Rattle.world_runs.proofs.MetTexts as texts
use Rattle.world_runs.proofs.MetTokens as tickets
use Rattle.world_runs.proofs.MetFinishes.{bare, finishes, bare-ends}
use Rattle.world_runs.proofs.MetHonest.{by_ticket, by_account, ticket-marked, account-marked, issues-none, issues-request, first-scram, first-other, first-request, bare-request, later-request, request-round, user_on, proof-round, text-round}
use Rattle.world_runs.proofs.MetRounds.{Setting, Marked, IsTyped, Goes, Rounds}

-- ---- what a beginning hands out

typed-among : (ms : List Making) (m : MechMaking) → AmongMakings (map typed ms) m → IsTyped m
typed-among [] m none = absurd none
typed-among (one ∷ ms) m (inl is) = record { key = one.key; is = ap (λ (n : MechMaking). n.key) is }
typed-among (one ∷ ms) m (inr later) = typed-among ms m later

abbrev given_begun : MechBegun → Result MechBegun MechRefusal
given_begun b = Ok b

ok-begun : (a b : MechBegun) → given_begun a ≡ given_begun b → a ≡ b
ok-begun a b e = cc

request-typed : (ms : List Making) (r : Result (ApInit × List ℕ) ApRefusal) (begun : MechBegun) → request_begun (map typed ms) r ≡ Ok begun → (m : MechMaking) → AmongMakings begun.makes m → IsTyped m
request-typed ms (Ok sent) begun e m among =
    typed-among ms m (subst (λ (b : MechBegun). AmongMakings b.makes m) (sym (ok-begun (record { mech = own_mechs.Kerberos sent.0; token = sent.1; makes = map typed ms }) begun e)) among)
request-typed ms (Err refusal) begun e m among = absurd cc

text-typed : (r : Result InitStarted ScramRefusal) (begun : MechBegun) → text_begun r ≡ Ok begun → (m : MechMaking) → AmongMakings begun.makes m → IsTyped m
text-typed (Ok started) begun e m among = absurd (subst (λ (b : MechBegun). AmongMakings b.makes m) (sym (ok-begun (record { mech = own_mechs.Scram started.end; token = started.token; makes = [] }) begun e)) among)
text-typed (Err refusal) begun e m among = absurd cc

begun-typed : (own : PlainSetup) (cred : MechCred) (begun : MechBegun) → init_begun own cred ≡ Ok begun → (m : MechMaking) → AmongMakings begun.makes m → IsTyped m
unfolding init_begun
begun-typed own (creds.Kerberos name credential) begun e m among = request-typed (request_makes credential own.stamp own.draws own.bindings) (kerberos_request credential own.stamp own.draws own.bindings) begun e m among
begun-typed own (creds.Scram user password) begun e m among = text-typed (init_started user password (drawn_nonce own.draws) own.bindings) begun e m among

-- ---- the chosen mechanism runs

abbrev pub setting_with : BookOf → PlainSetup → ℕ → Marking → Setting
setting_with book own now marking = record { book = book; own = own; now = now; marking = marking }

-- the request that a token has, for the chosen mechanism
abbrev opened_for : MechKind → List ℕ → Option (List ℕ)
opened_for kinds.Kerberos token = Some token
opened_for kinds.Scram token = None

record Runs (book : BookOf) (own : PlainSetup) (kind : MechKind) (now : ℕ) (due : Bool) (turn : Turn) (end : AcceptEnd) (octets : List ℕ) (begun : MechBegun) (made : List MechMaking) (draws : List (List ℕ)) : Type 0 where
  marking : Marking
  marked : Marked (setting_with book own now marking)
  outcome : Outcome
  mech : outcome.mech ≡ kind
  rounds : Rounds (setting_with book own now marking) draws end (end_at turn own kind due begun.mech) octets made [] outcome

abbrev rounds_due : MechKind → Bool → ℕ
rounds_due kind due = rounds_of kind + (if due then 1 else 0)

-- what is known of the token at hand
record AtHand (book : BookOf) (own : PlainSetup) (cred : MechCred) (now : ℕ) (due : Bool) (turn : Turn) (end : AcceptEnd) (octets : List ℕ) (begun : MechBegun) (made : List MechMaking) : Type 0 where
  first : due ≡ false → is_first (kinds_of own.list) (kind_of cred) ≡ true
  is_cred : cred_for own.list (kind_of cred) ≡ Some cred
  is : is_own own.list (kind_of cred) ≡ true
  may : MayCome turn own (kind_of cred)
  own_draws : length own.draws ≡ 66
  begins : init_begun own cred ≡ Ok begun
  hears : Hears book.setup end octets turn (chosen_on own (kind_of cred) due) (accept_begun (kind_of cred)) begun.token
  opens : request_of book.setup end octets ≡ opened_for (kind_of cred) begun.token
  handed_out : (m : MechMaking) → AmongMakings begun.makes m → AmongMakings made m
  typed_all : (m : MechMaking) → AmongMakings made m → IsTyped m
  ready : ReadyFor book own now cred
  untaken : taken_of book.core.history ≡ []

-- the credential of Kerberos is its ticket
ticket-of : (own : PlainSetup) (name : KerberosName) (credential : Granted) → cred_for own.list kinds.Kerberos ≡ Some (creds.Kerberos name credential) → ticket_for own.list ≡ Some credential
ticket-of own name credential e = rw e refl

request-runs : (book : BookOf) (own : PlainSetup) (name : KerberosName) (credential : Granted) (now : ℕ) (due : Bool) (turn : Turn) (end : AcceptEnd) (octets : List ℕ) (begun : MechBegun) (made : List MechMaking) (draws : List ℕ) (rest : List (List ℕ))
    → AtHand book own (creds.Kerberos name credential) now due turn end octets begun made → length (take 66 draws) ≡ 66 → TicketFits book.setup own credential (record { now = now; drawn = take 66 draws }) → length rest ≡ (if due then 1 else 0)
    → Runs book own kinds.Kerberos now due turn end octets begun made (draws ∷ rest)
request-runs book own name credential now due turn end octets begun made draws rest a long fits count =
    let same : begun ≡ request_begins own credential = ok-begun begun (request_begins own credential) (sym a.begins ∙ request-begins book.setup own name credential (record { now = now; drawn = take 66 draws }) fits) in
    let hears : Hears book.setup end octets turn (chosen_on own kinds.Kerberos due) mechs.Kerberos (request_begins own credential).token =
    subst (λ (b : MechBegun). Hears book.setup end octets turn (chosen_on own kinds.Kerberos due) mechs.Kerberos b.token) same a.hears in
    let new : cache_verdict book.core.cache.capacity (max book.core.cache.greatest now) [] (judged_mark (tickets.judged_on book.setup own credential (record { now = now; drawn = take 66 draws }) fits)) ≡ Taken =
    subst (λ (t : List TakenMark). cache_verdict book.core.cache.capacity (max book.core.cache.greatest now) t (judged_mark (tickets.judged_on book.setup own credential (record { now = now; drawn = take 66 draws }) fits)) ≡ Taken) a.untaken (a.ready fits.fit.part) in
    let r = request-round book own now credential (take 66 draws) made a.own_draws long fits (ticket-of own name credential a.is_cred) new
    (a.handed_out (tickets.asking own credential) (subst (λ (b : MechBegun). AmongMakings b.makes (tickets.asking own credential)) (sym same) (inl refl))) in
    let opens : request_of book.setup end octets ≡ Some (tickets.request_by own credential) = a.opens ∙ ap (λ (b : MechBegun). Some b.token) same in
    subst (λ (b : MechBegun). Runs book own kinds.Kerberos now due turn end octets b made (draws ∷ rest)) (sym same) (record {
      marking = (by_ticket book own now credential (take 66 draws) fits).marking;
      marked = ticket-marked book own now credential (take 66 draws) fits (ticket-of own name credential a.is_cred);
      outcome = tickets.outcome_with (tickets.judged_on book.setup own credential (record { now = now; drawn = take 66 draws }) fits) (take 66 draws);
      mech = refl;
      rounds = finishes (by_ticket book own now credential (take 66 draws) fits) kinds.Kerberos due turn end octets mechs.Kerberos (request_begins own credential).mech (request_begins own credential).token made
          (tickets.outcome_with (tickets.judged_on book.setup own credential (record { now = now; drawn = take 66 draws }) fits) (take 66 draws)) draws rest a.first a.is a.may hears
          (issues-request book own now credential (take 66 draws) fits end octets opens) r count;
    })

texts-run : (book : BookOf) (own : PlainSetup) (user password : List ℕ) (now : ℕ) (due : Bool) (turn : Turn) (end : AcceptEnd) (octets : List ℕ) (begun : MechBegun) (made : List MechMaking) (draws next : List ℕ) (rest : List (List ℕ))
    → AtHand book own (creds.Scram user password) now due turn end octets begun made → UserFits book.setup own user password (record { now = now; drawn = take 66 draws }) → length rest ≡ (if due then 1 else 0)
    → Runs book own kinds.Scram now due turn end octets begun made (draws ∷ next ∷ rest)
texts-run book own user password now due turn end octets begun made draws next rest a fits count =
    let u : texts.Users = user_on book own now user password (take 66 draws) fits in
    let same : begun ≡ texts.begun_with u = ok-begun begun (texts.begun_with u) (sym a.begins ∙ texts.text-begun u) in
    let hears : Hears book.setup end octets turn (chosen_on own kinds.Scram due) mechs.Scram (texts.one_token u) =
    subst (λ (b : MechBegun). Hears book.setup end octets turn (chosen_on own kinds.Scram due) mechs.Scram b.token) same a.hears in
    let x : Setting = by_account book own now user password in
    let waiting_end : AcceptEnd = accepts.Runs (record { chosen = chosen_on own kinds.Scram due; mech = mechs.Proof (texts.accept_end u) }) in
    let proof : List ℕ = resp_octets (token_sent (texts.proved u).token) in
    subst (λ (b : MechBegun). Runs book own kinds.Scram now due turn end octets b made (draws ∷ next ∷ rest)) (sym same) (record {
      marking = x.marking;
      marked = account-marked book own now user password a.ready;
      outcome = texts.outcome_with u now;
      mech = refl;
      rounds = (
        text-round book own now user password (take 66 draws) made due turn end octets fits a.is a.may hears (issues-none x end octets a.opens),
        finishes x kinds.Scram due Later waiting_end proof (mechs.Proof (texts.accept_end u)) (own_mechs.Proof (texts.proved u).end) (texts.proved u).token ((made ++ []) ++ ((texts.proved u).makes ++ [])) (texts.outcome_with u now) next rest a.first a.is tt
            (hears_later book.setup (chosen_on own kinds.Scram due) (mechs.Proof (texts.accept_end u)) (texts.proved u).token (token_short (texts.proved u).token (texts.proof-short u)))
            (issues-none x waiting_end proof refl)
            (proof-round book own now user password (take 66 draws) (take 66 next) made fits a.is_cred a.typed_all) count,
      );
    })

runs : (book : BookOf) (own : PlainSetup) (cred : MechCred) (now : ℕ) (due : Bool) (turn : Turn) (end : AcceptEnd) (octets : List ℕ) (begun : MechBegun) (made : List MechMaking) (draws : List (List ℕ))
    → AtHand book own cred now due turn end octets begun made → AllByRecursion (Fitting book.setup own cred) (occasions_at now draws) → length draws ≡ rounds_due (kind_of cred) due
    → Runs book own (kind_of cred) now due turn end octets begun made draws
runs book own (creds.Kerberos name credential) now due turn end octets begun made [] a fits count = absurd (omega (arith, count))
runs book own (creds.Kerberos name credential) now due turn end octets begun made (draws ∷ rest) a fits count =
    request-runs book own name credential now due turn end octets begun made draws rest a fits.0.drawn fits.0.facts (omega (arith, count))
runs book own (creds.Scram user password) now due turn end octets begun made [] a fits count = absurd (omega (arith, count))
runs book own (creds.Scram user password) now due turn end octets begun made (draws ∷ []) a fits count = absurd (omega (arith, count))
runs book own (creds.Scram user password) now due turn end octets begun made (draws ∷ next ∷ rest) a fits count =
    texts-run book own user password now due turn end octets begun made draws next rest a fits.0.facts (omega (arith, count))

-- ---- the first token

pub record Honest (book : BookOf) (own : PlainSetup) (kind : MechKind) (now : ℕ) (draws : List (List ℕ)) (started : Started) : Type 0 where
  pub marking : Marking
  pub marked : Marked (setting_with book own now marking)
  pub outcome : Outcome
  pub mech : outcome.mech ≡ kind
  pub rounds : Rounds (setting_with book own now marking) draws accepts.New started.end started.token started.makes [] outcome

-- an end that sent it
abbrev started_by : PlainSetup → MechBegun → Started
started_by own begun = record { end = inits.Opens (record { own = own; mech = begun.mech }); token = first_octets own.negotiates (first_sent own begun.token); makes = begun.makes }

-- one that negotiates, and one that doesn't
abbrev started_as : PlainSetup → MechBegun → List ℕ → Started
started_as own begun token = record { end = inits.Opens (record { own = own; mech = begun.mech }); token = token; makes = begun.makes }

as-negotiated : (own : PlainSetup) (begun : MechBegun) → own.negotiates ≡ true → started_by own begun ≡ started_as own begun (init_octets (first_sent own begun.token))
as-negotiated own begun negotiates = ap (λ (b : Bool). started_as own begun (first_octets b (first_sent own begun.token))) negotiates

as-alone : (own : PlainSetup) (begun : MechBegun) → own.negotiates ≡ false → started_by own begun ≡ started_as own begun begun.token
as-alone own begun alone = ap (λ (b : Bool). started_as own begun (first_octets b (first_sent own begun.token))) alone

record Began (own : PlainSetup) (started : Started) : Type 0 where
  first : MechCred
  rest : List MechCred
  list : own.list ≡ first ∷ rest
  begun : MechBegun
  begins : init_begun own first ≡ Ok begun
  is : started ≡ started_by own begun

abbrev given_started : Started → Result Started NegRefusal
given_started s = Ok s

ok-started : (a b : Started) → given_started a ≡ given_started b → a ≡ b
ok-started a b e = cc

began-by : (own : PlainSetup) (first : MechCred) (rest : List MechCred) (started : Started) (r : Result MechBegun MechRefusal) → own.list ≡ first ∷ rest → init_begun own first ≡ r → opens own r ≡ Ok started → Began own started
began-by own first rest started (Ok begun) list begins e = record { first = first; rest = rest; list = list; begun = begun; begins = begins; is = ok-started started (started_by own begun) (sym e) }
began-by own first rest started (Err refusal) list begins e = absurd cc

began-from : (own : PlainSetup) (list : List MechCred) (started : Started) → own.list ≡ list → starts own list ≡ Ok started → Began own started
began-from own [] started e begins = absurd cc
began-from own (first ∷ rest) started e begins = began-by own first rest started (init_begun own first) e refl begins

first-chosen : (first cred : MechCred) (rest : List MechCred) (kind : MechKind) → same_kind (kind_of first) kind ≡ true → cred_for (first ∷ rest) kind ≡ Some cred → first ≡ cred
first-chosen first cred rest kind same e = let is : Some first ≡ Some cred = sym (rw same refl) ∙ e in cc

-- the first mechanism of the own list is that of its first identifier
first-named : (list : List MechCred) (kind : MechKind) → is_first_named (map oid_listed list) kind ≡ is_first (kinds_of list) kind
first-named [] kind = refl
first-named (creds.Kerberos Standard credential ∷ rest) kind = refl
first-named (creds.Kerberos Microsoft credential ∷ rest) kind = refl
first-named (creds.Scram user password ∷ rest) kind = refl

own-by : (b : Bool) (list : List MechCred) (kind : MechKind) (first cred : MechCred) → same_kind (kind_of first) kind ≡ b → (cred_for list kind ≡ Some cred → is_own list kind ≡ true) → (if b then Some first else cred_for list kind) ≡ Some cred → is_own (first ∷ list) kind ≡ true
own-by true list kind first cred e more found = rw e refl
own-by false list kind first cred e more found = rw e (more found)

cred-own : (list : List MechCred) (kind : MechKind) (cred : MechCred) → cred_for list kind ≡ Some cred → is_own list kind ≡ true
cred-own [] kind cred e = absurd cc
cred-own (first ∷ rest) kind cred e = own-by (same_kind (kind_of first) kind) rest kind first cred refl (λ f. cred-own rest kind cred f) e

first-opened : (setup : AcceptSetup) (own : PlainSetup) (kind : MechKind) (token : List ℕ) → is_own_list own.list ≡ true → IsShort (init_octets (first_sent own token)) → best setup.offer (own_list own) ≡ Some kind → is_first_named (own_list own) kind ≡ true
    → request_of setup accepts.New (init_octets (first_sent own token)) ≡ opened_for kind token
first-opened setup own kinds.Kerberos token list short chosen named = first-request setup own token list short chosen named
first-opened setup own kinds.Scram token list short chosen named = first-scram setup own token list short chosen

other-opened : (setup : AcceptSetup) (own : PlainSetup) (kind : MechKind) (token : List ℕ) → is_own_list own.list ≡ true → IsShort (init_octets (first_sent own token)) → best setup.offer (own_list own) ≡ Some kind → is_first_named (own_list own) kind ≡ false
    → request_of setup accepts.New (init_octets (first_sent own token)) ≡ None
other-opened setup own kinds.Kerberos token list short chosen other = first-other setup own token list short other
other-opened setup own kinds.Scram token list short chosen other = first-scram setup own token list short chosen

later-opened : (setup : AcceptSetup) (own : PlainSetup) (kind : MechKind) (token : List ℕ) → IsShort (resp_octets (token_sent token)) → request_of setup (accepts.Runs (record { chosen = chosen_on own kind true; mech = accept_begun kind })) (resp_octets (token_sent token)) ≡ opened_for kind token
later-opened setup own kinds.Kerberos token short = later-request setup (chosen_on own kinds.Kerberos true) token short
later-opened setup own kinds.Scram token short = refl

-- what is known of the pair
record Pair (book : BookOf) (own : PlainSetup) (cred : MechCred) (now : ℕ) (started : Started) (begun : MechBegun) : Type 0 where
  list : is_own_list own.list ≡ true
  chosen : best book.setup.offer (own_list own) ≡ Some (kind_of cred)
  is_cred : cred_for own.list (kind_of cred) ≡ Some cred
  own_draws : length own.draws ≡ 66
  began : Began own started
  short : IsShort started.token
  begins : init_begun own cred ≡ Ok begun
  begun_short : IsShort (resp_octets (token_sent begun.token))
  ready : ReadyFor book own now cred
  untaken : taken_of book.core.history ≡ []

-- the chosen mechanism is the own first one
with-first : (book : BookOf) (own : PlainSetup) (cred : MechCred) (now : ℕ) (draws : List (List ℕ)) (started : Started) (begun : MechBegun) → Pair book own cred now started begun → own.negotiates ≡ true
    → AllByRecursion (Fitting book.setup own cred) (occasions_at now draws) → is_first (kinds_of own.list) (kind_of cred) ≡ true → length draws ≡ rounds_due (kind_of cred) (is_mic_due book.setup.offer (own_list own) (kind_of cred))
    → Honest book own (kind_of cred) now draws started
with-first book own cred now draws started begun p negotiates fits first count =
    let kind : MechKind = kind_of cred in
    let due : Bool = is_mic_due book.setup.offer (own_list own) kind in
    let o = p.began in
    let here : same_kind (kind_of o.first) kind ≡ true = subst (λ (l : List MechCred). is_first (kinds_of l) kind ≡ true) o.list first in
    let same : o.first ≡ cred = first-chosen o.first cred o.rest kind here (subst (λ (l : List MechCred). cred_for l kind ≡ Some cred) o.list p.is_cred) in
    let begins : init_begun own cred ≡ Ok o.begun = subst (λ (c : MechCred). init_begun own c ≡ Ok o.begun) same o.begins in
    let named : is_first_named (own_list own) kind ≡ true = first-named own.list kind ∙ first in
    let is : started ≡ started_as own o.begun (init_octets (first_sent own o.begun.token)) = o.is ∙ as-negotiated own o.begun negotiates in
    let short : IsShort (init_octets (first_sent own o.begun.token)) = subst (λ (s : Started). IsShort s.token) is p.short in
    let r = runs book own cred now due First accepts.New (init_octets (first_sent own o.begun.token)) o.begun o.begun.makes draws (record {
      first = λ e. first;
      is_cred = p.is_cred;
      is = cred-own own.list kind cred p.is_cred;
      may = (negotiates, first);
      own_draws = p.own_draws;
      begins = begins;
      hears = hears_first book.setup own kind o.begun.token p.list short p.chosen named;
      opens = first-opened book.setup own kind o.begun.token p.list short p.chosen named;
      handed_out = λ m among. among;
      typed_all = begun-typed own cred o.begun begins;
      ready = p.ready;
      untaken = p.untaken;
    }) fits count in
    record {
      marking = r.marking;
      marked = r.marked;
      outcome = r.outcome;
      mech = r.mech;
      rounds = subst (λ (s : Started). Rounds (setting_with book own now r.marking) draws accepts.New s.end s.token s.makes [] r.outcome) (sym is) r.rounds;
    }

-- another one is chosen: its first token goes with the second message
abbrev waits-goes : (x : Setting) (kind : MechKind) (drawn : List ℕ) (cred : MechCred) (first begun : MechBegun) → x.own.negotiates ≡ true → is_own_list x.own.list ≡ true → best x.book.setup.offer (own_list x.own) ≡ Some kind → is_first_named (own_list x.own) kind ≡ false → is_first (kinds_of x.own.list) kind ≡ false
    → IsShort (init_octets (first_sent x.own first.token)) → is_own x.own.list kind ≡ true → cred_for x.own.list kind ≡ Some cred → init_begun x.own cred ≡ Ok begun → IsShort (resp_octets (token_sent begun.token))
    → Goes x accepts.New (inits.Opens (record { own = x.own; mech = first.mech })) (init_octets (first_sent x.own first.token)) drawn first.makes []
waits-goes x kind drawn cred first begun negotiates list chosen named other short is is_cred begins begun_short = record {
  heard = record {
    accepted = waiting x.own kind;
    accepts = waits x.book.setup x.own kind first.token x.now drawn list short chosen named;
    found = λ m none. absurd none;
    issued = issues-none x accepts.New (init_octets (first_sent x.own first.token)) (other-opened x.book.setup x.own kind first.token list short chosen named);
    mark = λ mark e. absurd (none-some mark e);
    unmarked = λ none. refl;
  };
  after = accepts.Runs (record { chosen = chosen_on x.own kind true; mech = accept_begun kind });
  reply = reply First (oid_on x.own kind) true false None None;
  goes = refl;
  size = reply-short First x.own kind true false None None (none-holds 65000) (none-holds 28);
  took = record {
    initiated = switched x.own kind begun;
    initiates = switches x.own kind first.mech cred begun negotiates is other is_cred begins;
    found = λ m none. absurd none;
  };
  next = end_at Later x.own kind true begun.mech;
  further = resp_octets (token_sent begun.token);
  more = refl;
  short = begun_short;
}

with-other : (book : BookOf) (own : PlainSetup) (cred : MechCred) (now : ℕ) (draws next : List ℕ) (rest : List (List ℕ)) (started : Started) (begun : MechBegun) → Pair book own cred now started begun → own.negotiates ≡ true
    → AllByRecursion (Fitting book.setup own cred) (occasions_at now (next ∷ rest)) → is_first (kinds_of own.list) (kind_of cred) ≡ false → length (next ∷ rest) ≡ rounds_due (kind_of cred) true
    → Honest book own (kind_of cred) now (draws ∷ next ∷ rest) started
with-other book own cred now draws next rest started begun p negotiates fits other count =
    let kind : MechKind = kind_of cred in
    let o = p.began in
    let named : is_first_named (own_list own) kind ≡ false = first-named own.list kind ∙ other in
    let as_sent : started ≡ started_as own o.begun (init_octets (first_sent own o.begun.token)) = o.is ∙ as-negotiated own o.begun negotiates in
    let short : IsShort (init_octets (first_sent own o.begun.token)) = subst (λ (s : Started). IsShort s.token) as_sent p.short in
    let is : is_own own.list kind ≡ true = cred-own own.list kind cred p.is_cred in
    let end : AcceptEnd = accepts.Runs (record { chosen = chosen_on own kind true; mech = accept_begun kind }) in
    let octets : List ℕ = resp_octets (token_sent begun.token) in
    let made : List MechMaking = (o.begun.makes ++ []) ++ begun.makes in
    let r = runs book own cred now true Later end octets begun made (next ∷ rest) (record {
      first = λ e. absurd (let f : true ≡ false = e in cc);
      is_cred = p.is_cred;
      is = is;
      may = tt;
      own_draws = p.own_draws;
      begins = p.begins;
      hears = hears_later book.setup (chosen_on own kind true) (accept_begun kind) begun.token p.begun_short;
      opens = later-opened book.setup own kind begun.token p.begun_short;
      handed_out = λ m among. among_back (o.begun.makes ++ []) begun.makes m among;
      typed_all = λ m among. elim (among_split (o.begun.makes ++ []) begun.makes m among) [
        | inl front ↦ begun-typed own o.first o.begun o.begins m (bare o.begun.makes m front)
        | inr back ↦ begun-typed own cred begun p.begins m back
      ];
      ready = p.ready;
      untaken = p.untaken;
    }) fits count in
    record {
      marking = r.marking;
      marked = r.marked;
      outcome = r.outcome;
      mech = r.mech;
      rounds = subst (λ (s : Started). Rounds (setting_with book own now r.marking) (draws ∷ next ∷ rest) accepts.New s.end s.token s.makes [] r.outcome) (sym as_sent) (
        waits-goes (setting_with book own now r.marking) kind (take 66 draws) cred o.begun begun negotiates p.list p.chosen named other short is p.is_cred p.begins p.begun_short,
        r.rounds,
      );
    }

-- ---- without negotiation

begun-alone : (own : PlainSetup) (first cred : MechCred) (rest : List MechCred) (one other : MechBegun) → own.list ≡ first ∷ rest → own.list ≡ cred ∷ [] → init_begun own first ≡ Ok one → init_begun own cred ≡ Ok other → one ≡ other
begun-alone own first cred rest one other here there begins also =
    let lists : first ∷ rest ≡ cred ∷ [] = sym here ∙ there in
    let same : first ≡ cred = cc in
    ok-begun one other (sym (subst (λ (c : MechCred). init_begun own c ≡ Ok one) same begins) ∙ also)

-- the acceptor takes the request alone, and the initiator is done by the reply
with-alone : (book : BookOf) (own : PlainSetup) (credential : Granted) (now : ℕ) (draws : List (List ℕ)) (started : Started) (begun : MechBegun) → Pair book own (creds.Kerberos Standard credential) now started begun
    → own.negotiates ≡ false → own.list ≡ creds.Kerberos Standard credential ∷ [] → takes_bare book.setup ≡ true → AllByRecursion (Fitting book.setup own (creds.Kerberos Standard credential)) (occasions_at now draws) → length draws ≡ 1
    → Honest book own kinds.Kerberos now draws started
with-alone book own credential now [] started begun p alone list takes fits count = absurd (omega (arith, count))
with-alone book own credential now (draws ∷ next ∷ rest) started begun p alone list takes fits count = absurd (omega (arith, count))
with-alone book own credential now (draws ∷ []) started begun p alone list takes fits count =
    let f = fits.0.facts in
    let o = p.began in
    let token : List ℕ = tickets.request_by own credential in
    let same : begun ≡ request_begins own credential = ok-begun begun (request_begins own credential) (sym p.begins ∙ request-begins book.setup own Standard credential (record { now = now; drawn = take 66 draws }) f) in
    let one : o.begun ≡ request_begins own credential = begun-alone own o.first (creds.Kerberos Standard credential) o.rest o.begun begun o.list list o.begins p.begins ∙ same in
    let is : started ≡ started_as own (request_begins own credential) token =
    o.is ∙ (as-alone own o.begun alone ∙ ap (λ (b : MechBegun). started_as own b b.token) one) in
    let j = tickets.judged_on book.setup own credential (record { now = now; drawn = take 66 draws }) f in
    let new : cache_verdict book.core.cache.capacity (max book.core.cache.greatest now) [] (judged_mark j) ≡ Taken =
    subst (λ (t : List TakenMark). cache_verdict book.core.cache.capacity (max book.core.cache.greatest now) t (judged_mark j) ≡ Taken) p.untaken (p.ready f.fit.part) in
    let r = request-round book own now credential (take 66 draws) (request_begins own credential).makes p.own_draws fits.0.drawn f (ticket-of own Standard credential p.is_cred) new (inl refl) in
    let x : Setting = by_ticket book own now credential (take 66 draws) f in
    record {
      marking = x.marking;
      marked = ticket-marked book own now credential (take 66 draws) f (ticket-of own Standard credential p.is_cred);
      outcome = tickets.outcome_with j (take 66 draws);
      mech = refl;
      rounds = subst (λ (s : Started). Rounds x (draws ∷ []) accepts.New s.end s.token s.makes [] (tickets.outcome_with j (take 66 draws))) (sym is)
          (bare-ends x credential token (take 66 draws) (request_begins own credential).mech token (request_begins own credential).makes (tickets.outcome_with j (take 66 draws)) alone list
          (hears_bare book.setup own credential list f.request takes) (issues-request book own now credential (take 66 draws) f accepts.New token (bare-request book.setup own credential f.request takes)) r);
    }

tokens-alone : (setup : AcceptSetup) (own : PlainSetup) (credential : Granted) → own.list ≡ creds.Kerberos Standard credential ∷ [] → takes_bare setup ≡ true → tokens_of setup own kinds.Kerberos ≡ 1
tokens-alone setup own credential list takes = rw (list, takes-first setup takes) refl

alone-by : (book : BookOf) (own : PlainSetup) (cred : MechCred) (now : ℕ) (draws : List (List ℕ)) (started : Started) (begun : MechBegun) → Pair book own cred now started begun
    → own.negotiates ≡ false → BareFits book.setup own → AllByRecursion (Fitting book.setup own cred) (occasions_at now draws) → length draws ≡ tokens_of book.setup own (kind_of cred) → Honest book own (kind_of cred) now draws started
alone-by book own cred now draws started begun p alone fit fits count =
    let a = bare-list own.list fit.list in
    let same : creds.Kerberos Standard a.credential ≡ cred = only_cred a.credential cred (subst (λ (l : List MechCred). cred_for l (kind_of cred) ≡ Some cred) a.is p.is_cred) in
    subst (λ (c : MechCred). Pair book own c now started begun → AllByRecursion (Fitting book.setup own c) (occasions_at now draws) → length draws ≡ tokens_of book.setup own (kind_of c) → Honest book own (kind_of c) now draws started) same
    (λ q f n. with-alone book own a.credential now draws started begun q alone a.is fit.takes f (n ∙ tokens-alone book.setup own a.credential a.is fit.takes))
    p fits count

-- ---- all of it

pub count-of : (now : ℕ) (draws : List (List ℕ)) → length (occasions_at now draws) ≡ length draws
count-of now [] = refl
count-of now (one ∷ draws) = omega (arith, count-of now draws)

count-first : (n r d : ℕ) (b : Bool) → b ≡ true → n ≡ (if b then 0 else 1) + r + d → n ≡ r + d
count-first n r d true e c = omega (arith, c)
count-first n r d false e c = absurd cc

count-other : (n r d : ℕ) (b : Bool) → b ≡ false → n ≡ (if b then 0 else 1) + r + d → n ≡ 1 + (r + d)
count-other n r d true e c = absurd cc
count-other n r d false e c = omega (arith, c)

due-other : (a b : Bool) → a ≡ false → not (a && b) ≡ true
due-other true b e = absurd cc
due-other false b e = refl

other-by : (book : BookOf) (own : PlainSetup) (cred : MechCred) (now : ℕ) (draws : List (List ℕ)) (started : Started) (begun : MechBegun) → Pair book own cred now started begun → own.negotiates ≡ true
    → AllByRecursion (Fitting book.setup own cred) (occasions_at now draws) → is_first (kinds_of own.list) (kind_of cred) ≡ false → length draws ≡ 1 + (rounds_of (kind_of cred) + 1)
    → Honest book own (kind_of cred) now draws started
other-by book own cred now [] started begun p negotiates fits other count = absurd (omega (arith, count))
other-by book own cred now (draws ∷ []) started begun p negotiates fits other count = absurd (omega (arith, count))
other-by book own cred now (draws ∷ next ∷ rest) started begun p negotiates fits other count = with-other book own cred now draws next rest started begun p negotiates fits.1 other (omega (arith, count))

by-cred : (book : BookOf) (own : PlainSetup) (cred : MechCred) (now : ℕ) (draws : List (List ℕ)) (started : Started) (begun : MechBegun) → Pair book own cred now started begun → own.negotiates ≡ true
    → AllByRecursion (Fitting book.setup own cred) (occasions_at now draws) → length (occasions_at now draws) ≡ tokens_of book.setup own (kind_of cred) → Honest book own (kind_of cred) now draws started
by-cred book own cred now draws started begun p negotiates fits counted =
    let kind : MechKind = kind_of cred in
    let due : Bool = is_mic_due book.setup.offer (own_list own) kind in
    let count : length draws ≡ tokens_of book.setup own kind = sym (count-of now draws) ∙ counted in
    elim (cases_Bool (is_first (kinds_of own.list) kind)) [
      | inl first ↦ with-first book own cred now draws started begun p negotiates fits first
          (count-first (length draws) (rounds_of kind) (if due then 1 else 0) (is_first (kinds_of own.list) kind) first count)
      | inr other ↦
          let is_due : due ≡ true = due-other (is_first_named (own_list own) kind) (is_first book.setup.offer kind) (first-named own.list kind ∙ other) in
          let whole : length draws ≡ 1 + (rounds_of kind + (if due then 1 else 0)) = count-other (length draws) (rounds_of kind) (if due then 1 else 0) (is_first (kinds_of own.list) kind) other count in
          other-by book own cred now draws started begun p negotiates fits other (subst (λ (b : Bool). length draws ≡ 1 + (rounds_of kind + (if b then 1 else 0))) is_due whole)
    ]

pub honest : (book : BookOf) (own : PlainSetup) (kind : MechKind) (now : ℕ) (draws : List (List ℕ)) → taken_of book.core.history ≡ [] → (h : HonestPair book.setup own kind (occasions_at now draws)) → ReadyFor book own now h.cred → Honest book own kind now draws h.started
honest book own kind now draws untaken h ready =
    subst (λ (k : MechKind). best book.setup.offer (own_list own) ≡ Some k → cred_for own.list k ≡ Some h.cred → length (occasions_at now draws) ≡ tokens_of book.setup own k → Honest book own k now draws h.started)
    (cred_for-kind own.list kind h.cred h.is_cred)
    (λ chosen is_cred counted.
    let p : Pair book own h.cred now h.started h.begun = record {
      list = h.is_list;
      chosen = chosen;
      is_cred = is_cred;
      own_draws = h.draws;
      began = began-from own own.list h.started refl h.starts;
      short = h.short;
      begins = h.begins;
      begun_short = h.begun_short;
      ready = ready;
      untaken = untaken;
    } in
    elim (cases_Bool own.negotiates) [
      | inl negotiates ↦ by-cred book own h.cred now draws h.started h.begun p negotiates h.fit counted
      | inr alone ↦ alone-by book own h.cred now draws h.started h.begun p alone (h.bare alone) h.fit (sym (count-of now draws) ∙ counted)
    ])
    h.chosen h.is_cred h.counted
