-- An honest pair's exchange, round by round: by the mechanism that the acceptor chooses, which is the initiator's first or one that it switches to.
use Rattle.std.proofs.Common.{◌≡◌, inl, inr, ℕ, zero, suc, Bool, true, false, if◌then◌else◌, refl, sym, ap, ◌∙◌, subst, arith, List, [], ◌∷◌, ◌++◌, length, slice_get, Option, Some, None}
use Rattle.std.proofs.lemmas.Option.{none-some, same_Some}
use Rattle.gss_base.specs.declared.mark.Mark.{Mark}
use Rattle.gss_base.specs.declared.mech.MechKind.TheVariants as kinds
use Rattle.krb_derive.specs.declared.key.Key.{Key}
use Rattle.krb_derive.specs.Making.{Proof, Signature}
use Rattle.krb_files.specs.Granted.{Granted}
use Rattle.ap_exchange.specs.declared.judged.Judged.{Judged}
use Rattle.ap_exchange.specs.Answer.{answer_token, answer_making}
use Rattle.ap_exchange.specs.Judging.{client_granted, judged_mark}
use Rattle.ap_exchange.specs.Request.{RequestFits}
use Rattle.scram_mech.specs.Acceptor.{AcceptModel}
use Rattle.scram_mech.specs.MechMaking.{OfType, OfPassword, MechMaking, AmongMakings, typed, proof_making}
use Rattle.scram_mech.specs.Secrets.{stored_key}
use Rattle.scram_mech.proofs.Masks.{length-proof}
use Rattle.spnego_core.specs.declared.setup.AcceptSetup.{AcceptSetup}
use Rattle.spnego_core.specs.declared.setup.MechCred.TheVariants as creds
use Rattle.spnego_core.specs.MechStates as own_mechs
use Rattle.spnego_core.specs.declared.accept_mech.AcceptMech.TheVariants as mechs
use Rattle.spnego_core.specs.declared.accept_end.AcceptEnd.{AcceptEnd}
use Rattle.spnego_core.specs.declared.accept_end.AcceptEnd.TheVariants as accepts
use Rattle.spnego_core.specs.declared.accept_end.Chosen.{Chosen}
use Rattle.spnego_core.specs.declared.accept_end.Turn.{Turn}
use Rattle.spnego_core.specs.declared.accept_end.Turn.TheVariants.{Later}
use Rattle.spnego_core.specs.AcceptMech.{ByRequest, ByProof}
use Rattle.spnego_core.specs.Accepting.{gone_on, finished, run, ran_with, reply}
use Rattle.spnego_core.specs.declared.accept_end.Answered.{Answered}
use Rattle.spnego_core.specs.declared.accept_end.Answered.TheVariants as afters
use Rattle.spnego_core.specs.Ends.{PlainSetup}
use Rattle.spnego_core.specs.Bare.{takes_bare}
use Rattle.spnego_core.specs.Choice.{is_first_named, best}
use Rattle.spnego_core.specs.Exchange.{Occasion, passed, TicketFits, UserFits}
use Rattle.spnego_core.specs.InitMech.{is_own, is_own_list, cred_for, ticket_for}
use Rattle.spnego_core.specs.Initiating.{own_list, first_sent, token_sent}
use Rattle.spnego_core.specs.Sizes.{IsShort}
use Rattle.spnego_core.specs.Tokens.{init_octets, resp_octets}
use Rattle.spnego_core.proofs.Makings.{among_front, among_back, among_split}
use Rattle.spnego_core.proofs.MechRounds.{request_begins}
use Rattle.spnego_core.proofs.Sizes.{answer_within}
use Rattle.spnego_core.proofs.Bares.{request-bare}
use Rattle.spnego_core.proofs.Spelled.{init_asks, init_reads, token_reads, token_short}
use Rattle.spnego_core.proofs.Turns.{MayCome, oid_on, chosen_on, end_at, Hears}
use Rattle.accept_book.specs.Booking.{BookOf, mark_of}
use Rattle.world_laws.specs.Deeds.{Opened}
use Rattle.world_laws.specs.Lanes.{opened_in, opened_of, request_of}
use Rattle.world_runs.specs.Meeting.{ReadyFor}
use Rattle.world_laws.specs.Premises.{Ticket, Account, Listed, GuardedSession, HasAuth}
use Rattle.world_laws.proofs.Apart.{split-back}
use Rattle.world_laws.proofs.Kerberos.{same-cred, not-both}
use Rattle.world_runs.proofs.MetMessages.{reply-short, token-holds, none-holds, gone_on as init_gone_on, takes-more}
use Rattle.world_runs.proofs.MetTokens as tickets
use Rattle.world_runs.proofs.MetTexts as texts
use Rattle.world_runs.proofs.MetFinishes.{bare, LastRound, Issues}
use Rattle.world_runs.proofs.MetRounds.{Setting, setup_in, Marked, IsNew, IsTyped, OneProof, Goes}

-- ---- the marking: the ticket of a credential, or its user

abbrev pub ticket_of : (setup : AcceptSetup) (own : PlainSetup) (credential : Granted) (occasion : Occasion) → TicketFits setup own credential occasion → Ticket
ticket_of setup own credential occasion fits = record { client = client_granted fits.fit.part; server = credential.server; service = fits.fit.service; session = credential.session; marked = true }

abbrev pub by_ticket : (book : BookOf) (own : PlainSetup) (now : ℕ) (credential : Granted) (drawn : List ℕ) → TicketFits book.setup own credential (record { now = now; drawn = drawn }) → Setting
by_ticket book own now credential drawn fits = record {
  book = book;
  own = own;
  now = now;
  marking = record { tickets = ticket_of book.setup own credential (record { now = now; drawn = drawn }) fits ∷ []; accounts = [] };
}

abbrev pub by_account : BookOf → PlainSetup → ℕ → List ℕ → List ℕ → Setting
by_account book own now user password = record { book = book; own = own; now = now; marking = record { tickets = []; accounts = (record { user = user; password = password }) ∷ [] } }

only : {A : Type 0} (x y : A) (place : ℕ) → slice_get (x ∷ []) place ≡ Some y → y ≡ x
only x y zero e = sym (same_Some x y e)
only x y (suc place) e = absurd (none-some y e)

no-listed : {A B : Type 0} (value : A) → Listed [] value → B
no-listed value listed = absurd (none-some value listed.there)

pub ticket-marked : (book : BookOf) (own : PlainSetup) (now : ℕ) (credential : Granted) (drawn : List ℕ) → (fits : TicketFits book.setup own credential (record { now = now; drawn = drawn })) → ticket_for own.list ≡ Some credential
    → Marked (by_ticket book own now credential drawn fits)
ticket-marked book own now credential drawn fits is_own = record {
  tickets = λ c t has listed.
      let one = only (ticket_of book.setup own credential (record { now = now; drawn = drawn }) fits) t listed.place listed.there in
      let same = same-cred own credential c is_own has in
      (ap (λ (z : Ticket). z.client) one ∙ (fits.fit.client ∙ ap (λ (g : Granted). g.client) same), ap (λ (z : Ticket). z.server) one ∙ ap (λ (g : Granted). g.server) same);
  servers = λ t listed. ap (λ (z : Ticket). z.server) (only (ticket_of book.setup own credential (record { now = now; drawn = drawn }) fits) t listed.place listed.there) ∙ fits.fit.credential_server;
  lines = λ account line listed. no-listed account listed;
}

pub account-marked : (book : BookOf) (own : PlainSetup) (now : ℕ) (user password : List ℕ) → ReadyFor book own now (creds.Scram user password) → Marked (by_account book own now user password)
account-marked book own now user password ready = record {
  tickets = λ c t has listed. no-listed t listed;
  servers = λ t listed. no-listed t listed;
  lines = λ account line listed there named.
      let one = only (record { user = user; password = password }) account listed.place listed.there in
      ready line there (named ∙ ap (λ (a : Account). a.user) one)
      ∙ ap (λ (a : Account). stored_key (record { password = a.password; salt = line.salt; rounds = line.rounds })) (sym one);
}

-- ---- which tickets are opened

pub issues-none : (x : Setting) (end : AcceptEnd) (octets : List ℕ) → request_of (setup_in x) end octets ≡ None → Issues x end octets
issues-none x end octets none = λ o e. absurd (none-some o (sym (ap (opened_in (setup_in x).keytab (setup_in x).own) none) ∙ e))

pub first-scram : (setup : AcceptSetup) (own : PlainSetup) (token : List ℕ) → is_own_list own.list ≡ true → IsShort (init_octets (first_sent own token)) → best setup.offer (own_list own) ≡ Some kinds.Scram → request_of setup accepts.New (init_octets (first_sent own token)) ≡ None
first-scram setup own token list short chosen = rw (init_asks setup own token list short, init_reads own token list short, chosen) (none-either (is_first_named (own_list own) kinds.Kerberos))
  where
    none-either : (b : Bool) → ◌≡◌ {A = Option (List ℕ)} (if b then None else None) None
    none-either true = refl
    none-either false = refl

pub first-other : (setup : AcceptSetup) (own : PlainSetup) (token : List ℕ) → is_own_list own.list ≡ true → IsShort (init_octets (first_sent own token)) → is_first_named (own_list own) kinds.Kerberos ≡ false → request_of setup accepts.New (init_octets (first_sent own token)) ≡ None
first-other setup own token list short other = rw (init_asks setup own token list short, init_reads own token list short, other) refl

pub first-request : (setup : AcceptSetup) (own : PlainSetup) (token : List ℕ) → is_own_list own.list ≡ true → IsShort (init_octets (first_sent own token)) → best setup.offer (own_list own) ≡ Some kinds.Kerberos → is_first_named (own_list own) kinds.Kerberos ≡ true
    → request_of setup accepts.New (init_octets (first_sent own token)) ≡ Some token
first-request setup own token list short chosen first = rw (init_asks setup own token list short, init_reads own token list short, chosen, first) refl

-- a request alone is one in the whole token
pub bare-request : (setup : AcceptSetup) (own : PlainSetup) (credential : Granted) → RequestFits credential own.stamp own.draws own.bindings → takes_bare setup ≡ true → request_of setup accepts.New (tickets.request_by own credential) ≡ Some (tickets.request_by own credential)
bare-request setup own credential made takes = rw (request-bare setup credential own.stamp own.draws own.bindings made takes) refl

pub later-request : (setup : AcceptSetup) (chosen : Chosen) (token : List ℕ) → IsShort (resp_octets (token_sent token)) → request_of setup (accepts.Runs (record { chosen = chosen; mech = mechs.Kerberos })) (resp_octets (token_sent token)) ≡ Some token
later-request setup chosen token short = rw (token_reads token short) refl

-- the request of a marked ticket
pub issues-request : (book : BookOf) (own : PlainSetup) (now : ℕ) (credential : Granted) (drawn : List ℕ) → (fits : TicketFits book.setup own credential (record { now = now; drawn = drawn })) → (end : AcceptEnd) (octets : List ℕ)
    → request_of book.setup end octets ≡ Some (tickets.request_by own credential) → Issues (by_ticket book own now credential drawn fits) end octets
issues-request book own now credential drawn fits end octets is = λ o e.
    let exchanged = tickets.exchanges book.setup own credential (record { now = now; drawn = drawn }) fits in
    let opens : opened_in book.setup.keytab book.setup.own (request_of book.setup end octets)
    ≡ Some (record { service = fits.fit.service; client = client_granted fits.fit.part; session = credential.session }) = ap (opened_in book.setup.keytab book.setup.own) is ∙ ap opened_of exchanged in
    let same = same_Some (record { service = fits.fit.service; client = client_granted fits.fit.part; session = credential.session }) o (sym opens ∙ e) in
    record {
      ticket = ticket_of book.setup own credential (record { now = now; drawn = drawn }) fits;
      issued = record { place = 0; there = refl };
      service = ap (λ (z : Opened). z.service) same;
      client = ap (λ (z : Opened). z.client) same;
      session = ap (λ (z : Opened). z.session) same;
    }

-- ---- Kerberos: one round

guarded-session : (book : BookOf) (own : PlainSetup) (now : ℕ) (credential : Granted) (drawn : List ℕ) → (fits : TicketFits book.setup own credential (record { now = now; drawn = drawn })) → GuardedSession (by_ticket book own now credential drawn fits).marking credential.session
guarded-session book own now credential drawn fits = record { ticket = ticket_of book.setup own credential (record { now = now; drawn = drawn }) fits; issued = record { place = 0; there = refl }; marked = refl; session = refl }

pub request-round : (book : BookOf) (own : PlainSetup) (now : ℕ) (credential : Granted) (drawn : List ℕ) (made : List MechMaking) → length own.draws ≡ 66 → length drawn ≡ 66 → (fits : TicketFits book.setup own credential (record { now = now; drawn = drawn }))
    → ticket_for own.list ≡ Some credential → IsNew (by_ticket book own now credential drawn fits) (judged_mark (tickets.judged_on book.setup own credential (record { now = now; drawn = drawn }) fits))
    → AmongMakings made (tickets.asking own credential)
    → LastRound (by_ticket book own now credential drawn fits) drawn mechs.Kerberos (request_begins own credential).mech (request_begins own credential).token made
    (tickets.outcome_with (tickets.judged_on book.setup own credential (record { now = now; drawn = drawn }) fits) drawn)
request-round book own now credential drawn made own_draws long fits is_own new asked =
    let occasion : Occasion = record { now = now; drawn = drawn } in
    let j : Judged = tickets.judged_on book.setup own credential occasion fits in
    record {
      taken = tickets.taken_with own credential j drawn;
      accepts = tickets.request-taken book.setup own credential occasion own_draws fits;
      lasts = j.ends;
      last = answer_token j drawn;
      passes = λ turn chosen. refl;
      makes = λ chosen. refl;
      size = omega (arith, (answer_within j drawn long).most);
      basis = ByRequest j;
      built = refl;
      found = λ m among. asked-one m among;
      mark = λ turn chosen mark e. subst (λ (z : Mark). IsNew (by_ticket book own now credential drawn fits) z) (same_Some (judged_mark j) mark e) new;
      replied = tickets.replied_with j drawn;
      replies = tickets.reply-taken book.setup own credential occasion long fits;
      done = refl;
      none = refl;
      verified = λ m among. among_back made (typed (answer_making j drawn) ∷ []) m among;
      final = record {
        guarded = record { credential = credential; is_own = is_own; guarded = guarded-session book own now credential drawn fits };
        on = guarded-session book own now credential drawn fits;
        by_request = λ request e. refl;
        by_proof = λ end text auth e. absurd (not-both j end text e);
      };
    }
  where
    asked-one : (m : MechMaking) → AmongMakings (tickets.asking own credential ∷ []) m → AmongMakings made m
    asked-one m (inl is) = subst (λ (z : MechMaking). AmongMakings made z) (sym is) asked
    asked-one m (inr none) = absurd none

-- ---- SCRAM: two rounds

-- the user, on the occasion of the first text
abbrev pub user_on : (book : BookOf) (own : PlainSetup) (now : ℕ) (user password drawn : List ℕ) → UserFits book.setup own user password (record { now = now; drawn = drawn }) → texts.Users
user_on book own now user password drawn fits = record { setup = book.setup; own = own; user = user; password = password; occasion = record { now = now; drawn = drawn }; fits = fits }

gone-passed : (after : Answered) → passed (gone_on after) ≡ gone_on after
gone-passed (afters.More end token) = refl
gone-passed (afters.Done outcome lasts token) = refl

gone-unmarked : (after : Answered) (mark : Mark) → mark_of (gone_on after) ≡ Some mark → ⊥
gone-unmarked (afters.More end token) mark e = none-some mark e
gone-unmarked (afters.Done outcome lasts token) mark e = none-some mark e

-- a list without proofs and this one has one proof
one-proof : (u : texts.Users) (now : ℕ) (before : List MechMaking) → ((m : MechMaking) → AmongMakings before m → IsTyped m) → OneProof (texts.auth_of u) (((before ++ []) ++ ((texts.proved u).makes ++ [])) ++ (texts.accepted u now).makes)
one-proof u now before typed_all key last proof long among = elim (among_split ((before ++ []) ++ ((texts.proved u).makes ++ [])) (texts.accepted u now).makes (proof_making key last proof) among) [
  | inl front ↦ elim (among_split (before ++ []) ((texts.proved u).makes ++ []) (proof_making key last proof) front) [
    | inl early ↦ (let t = typed_all (proof_making key last proof) (bare before (proof_making key last proof) early) in not-typed t.key t.is)
    | inr proved ↦ the-proof (bare (texts.proved u).makes (proof_making key last proof) proved)
  ]
  | inr signature ↦ no-signature signature
]
  where
    not-typed : {A : Type 0} (k : Key) → OfPassword key ≡ OfType k → A
    not-typed k e = absurd cc

    other-kind : {A : Type 0} → Proof ≡ Signature → A
    other-kind e = absurd cc

    the-proof : AmongMakings ((texts.proved u).makes) (proof_making key last proof) → texts.auth_of u ≡ last
    the-proof (inl is) = sym (split-back last proof (texts.auth_of u) (texts.proof_by u) (long ∙ sym (length-proof (texts.secret u) (texts.auth_of u))) (ap (λ (m : MechMaking). m.octets) is)).0
    the-proof (inr none) = absurd none

    no-signature : AmongMakings ((texts.accepted u now).makes) (proof_making key last proof) → texts.auth_of u ≡ last
    no-signature (inl is) = other-kind (ap (λ (m : MechMaking). m.kind) is)
    no-signature (inr none) = absurd none

pub proof-round : (book : BookOf) (own : PlainSetup) (now : ℕ) (user password drawn next : List ℕ) (before : List MechMaking) → (fits : UserFits book.setup own user password (record { now = now; drawn = drawn }))
    → cred_for own.list kinds.Scram ≡ Some (creds.Scram user password) → ((m : MechMaking) → AmongMakings before m → IsTyped m)
    → LastRound (by_account book own now user password) next (mechs.Proof (texts.accept_end (user_on book own now user password drawn fits))) (own_mechs.Proof (texts.proved (user_on book own now user password drawn fits)).end)
    (texts.proved (user_on book own now user password drawn fits)).token ((before ++ []) ++ ((texts.proved (user_on book own now user password drawn fits)).makes ++ []))
    (texts.outcome_with (user_on book own now user password drawn fits) now)
proof-round book own now user password drawn next before fits is_own typed_all =
    let u = user_on book own now user password drawn fits in
    record {
      taken = texts.proof_taken u now;
      accepts = texts.proof-taken u now next;
      lasts = (texts.accepted u now).done.ends;
      last = (texts.accepted u now).token;
      passes = λ turn chosen. gone-passed (finished turn chosen (texts.outcome_with u now) (texts.accepted u now).done.ends (texts.accepted u now).token);
      makes = λ chosen. refl;
      size = texts.final-short u now;
      basis = ByProof (texts.accept_end u) (texts.proved u).token;
      built = refl;
      found = λ m among. among_back (before ++ []) ((texts.proved u).makes ++ []) m (among_front (texts.proved u).makes [] m among);
      mark = λ turn chosen mark e. absurd (gone-unmarked (finished turn chosen (texts.outcome_with u now) (texts.accepted u now).done.ends (texts.accepted u now).token) mark e);
      replied = texts.proof_replied u now;
      replies = texts.proof-replied u now;
      done = refl;
      none = refl;
      verified = λ m among. among_back ((before ++ []) ++ ((texts.proved u).makes ++ [])) (texts.accepted u now).makes m among;
      final = record {
        guarded = record { account = record { user = user; password = password }; marked = record { place = 0; there = refl }; is_own = is_own };
        on = record { account = record { user = user; password = password }; marked = record { place = 0; there = refl }; named = refl; ranged = fits.honest.ranged };
        by_request = λ request e. absurd (not-both request (texts.accept_end u) (texts.proved u).token (sym e));
        by_proof = λ end text auth e has. subst (λ (a : List ℕ). OneProof a (((before ++ []) ++ ((texts.proved u).makes ++ [])) ++ (texts.accepted u now).makes)) (auth-is end text auth e has) (one-proof u now before typed_all);
      };
    }
  where
    same-end : (a b : AcceptModel) (x y : List ℕ) → ByProof a x ≡ ByProof b y → a ≡ b
    same-end a b x y e = cc

    same-text : (a b : AcceptModel) (x y : List ℕ) → ByProof a x ≡ ByProof b y → x ≡ y
    same-text a b x y e = cc

    auth-is : (end : AcceptModel) (text auth : List ℕ) → ByProof (texts.accept_end (user_on book own now user password drawn fits)) (texts.proved (user_on book own now user password drawn fits)).token ≡ ByProof end text → HasAuth end text auth
        → texts.auth_of (user_on book own now user password drawn fits) ≡ auth
    auth-is end text auth e has =
        texts.one-auth (user_on book own now user password drawn fits) auth
        (subst (λ (t : List ℕ). HasAuth (texts.accept_end (user_on book own now user password drawn fits)) t auth) (sym (same-text _ end _ text e))
        (subst (λ (a : AcceptModel). HasAuth a text auth) (sym (same-end _ end _ text e)) has))

-- the round of the texts
abbrev pub text-round : (book : BookOf) (own : PlainSetup) (now : ℕ) (user password drawn : List ℕ) (before : List MechMaking) (due : Bool) (turn : Turn) (end : AcceptEnd) (octets : List ℕ) → (fits : UserFits book.setup own user password (record { now = now; drawn = drawn }))
    → is_own own.list kinds.Scram ≡ true → MayCome turn own kinds.Scram → Hears book.setup end octets turn (chosen_on own kinds.Scram due) mechs.Scram (texts.one_token (user_on book own now user password drawn fits)) → Issues (by_account book own now user password) end octets
    → Goes (by_account book own now user password) end (end_at turn own kinds.Scram due (own_mechs.Scram (texts.init_end (user_on book own now user password drawn fits)))) octets drawn before []
text-round book own now user password drawn before due turn end octets fits is may hears issues = record {
  heard = record {
    accepted = ran_with turn (chosen_on own kinds.Scram due) (texts.text_taken (user_on book own now user password drawn fits));
    accepts = hears now drawn ∙ ap (run turn (chosen_on own kinds.Scram due)) (texts.text-taken (user_on book own now user password drawn fits));
    found = λ m none. absurd none;
    issued = issues;
    mark = λ mark e. absurd (none-some mark e);
    unmarked = λ none. refl;
  };
  after = accepts.Runs (record { chosen = chosen_on own kinds.Scram due; mech = mechs.Proof (texts.accept_end (user_on book own now user password drawn fits)) });
  reply = reply turn (oid_on own kinds.Scram) due false (Some (texts.two_text (user_on book own now user password drawn fits))) None;
  goes = refl;
  size = reply-short turn own kinds.Scram due false (Some (texts.two_text (user_on book own now user password drawn fits))) None (token-holds (texts.two_text (user_on book own now user password drawn fits)) (texts.text-short (user_on book own now user password drawn fits))) (none-holds 28);
  took = record {
    initiated = init_gone_on own kinds.Scram due (texts.text_replied (user_on book own now user password drawn fits)) (own_mechs.Proof (texts.proved (user_on book own now user password drawn fits)).end) (texts.proved (user_on book own now user password drawn fits)).token;
    initiates = takes-more turn own kinds.Scram due (own_mechs.Scram (texts.init_end (user_on book own now user password drawn fits))) (texts.two_text (user_on book own now user password drawn fits)) (texts.text_replied (user_on book own now user password drawn fits))
        (own_mechs.Proof (texts.proved (user_on book own now user password drawn fits)).end) (texts.proved (user_on book own now user password drawn fits)).token is may (texts.text-short (user_on book own now user password drawn fits))
        (texts.text-replied (user_on book own now user password drawn fits)) refl;
    found = λ m none. absurd none;
  };
  next = end_at Later own kinds.Scram due (own_mechs.Proof (texts.proved (user_on book own now user password drawn fits)).end);
  further = resp_octets (token_sent (texts.proved (user_on book own now user password drawn fits)).token);
  more = refl;
  short = token_short (texts.proved (user_on book own now user password drawn fits)).token (texts.proof-short (user_on book own now user password drawn fits));
}
