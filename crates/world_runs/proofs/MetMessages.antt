-- Single messages of an honest negotiation: what each end makes of the other's, hands out and finds.
use Rattle.std.proofs.Common.{◌≡◌, ℕ, ◌≤◌, Bool, true, false, refl, ap, ◌∙◌, arith, List, [], ◌∷◌, ◌++◌, length, Option, Some, None, Ok}
use Rattle.gss_base.specs.declared.mech.MechKind.{MechKind}
use Rattle.gss_base.specs.declared.mech.MechKind.TheVariants.{Kerberos}
use Rattle.gss_base.specs.declared.mech.KerberosName.TheVariants.{Standard}
use Rattle.krb_files.specs.Granted.{Granted}
use Rattle.krb_tokens.specs.declared.end.Side.TheVariants.{Initiator, Acceptor}
use Rattle.krb_tokens.specs.Mic.{mic_header, mic_of}
use Rattle.spnego_core.specs.declared.outcome.Outcome.{Outcome}
use Rattle.spnego_core.specs.declared.setup.AcceptSetup.{AcceptSetup}
use Rattle.spnego_core.specs.declared.setup.MechCred.{MechCred}
use Rattle.spnego_core.specs.declared.setup.MechCred.TheVariants as creds
use Rattle.spnego_core.specs.MechStates.{InitMech}
use Rattle.spnego_core.specs.MechStates as tells
use Rattle.spnego_core.specs.declared.accept_end.AcceptEnd.{AcceptEnd}
use Rattle.spnego_core.specs.declared.accept_end.AcceptEnd.TheVariants as accepts
use Rattle.spnego_core.specs.declared.accept_end.AcceptStep.TheVariants as accepted
use Rattle.spnego_core.specs.declared.accept_end.Turn.{Turn}
use Rattle.spnego_core.specs.declared.accept_end.Turn.TheVariants.{First, Later, Bare}
use Rattle.spnego_core.specs.Ends.{PlainSetup}
use Rattle.spnego_core.specs.Ends as inits
use Rattle.spnego_core.specs.EndSteps as initiated
use Rattle.spnego_core.specs.Choice.{is_first, is_first_named, best}
use Rattle.spnego_core.specs.ListMic.{list_mic, mic_making, mic_found}
use Rattle.spnego_core.specs.Tokens.{init_octets, resp_octets}
use Rattle.spnego_core.specs.AcceptMech.{accept_begun}
use Rattle.spnego_core.specs.Accepting as accepting
use Rattle.spnego_core.specs.InitMech.{kinds_of, is_own, is_own_list, cred_for, MechBegun, init_begun, MechReplied, init_taken}
use Rattle.spnego_core.specs.Initiating as initiating
use Rattle.spnego_core.specs.Sizes.{IsShort}
use Rattle.spnego_core.proofs.Pairs.{acceptors_mic, initiators_mic}
use Rattle.spnego_core.proofs.Listed.{listed-back, listed-few}
use Rattle.spnego_core.proofs.Short.{some-is, none-is, named_within, resp_within, list_mic_within, octets_short}
use Rattle.spnego_core.proofs.Sizes.{Within}
use Rattle.spnego_core.proofs.Spelled.{reply_reads, mic_reads, init_asks, init_reads}
use Rattle.spnego_core.proofs.Turns.{MayCome, oid_on, talk_on, chosen_on, end_at, signed_on, last_mic}

-- ---- replies

one-within : (octets : List ℕ) (n : ℕ) → length octets ≤ n → (v : List ℕ) → Some octets ≡ Some v → Within v n
one-within octets n h v e = some-is octets v n (record { most = h }) e

-- the token of a reply, and its MIC
abbrev Holds : Option (List ℕ) → ℕ → Type 0
Holds found n = (v : List ℕ) → found ≡ Some v → Within v n

-- a reply is short
pub reply-short : (turn : Turn) (own : PlainSetup) (kind : MechKind) (owes finished : Bool) (token mic : Option (List ℕ)) → Holds token 65000 → Holds mic 28 → length (accepting.reply turn (oid_on own kind) owes finished token mic) ≤ 65536
reply-short turn own kind owes finished token mic t m =
    let few : length (oid_on own kind) ≤ 32 = omega (arith, listed-few (initiating.own_list own) kind) in
    octets_short turn (accepting.reply_with turn (oid_on own kind) owes finished token mic)
    (omega (arith, (resp_within (accepting.reply_with turn (oid_on own kind) owes finished token mic) 65000 (λ v e. named_within turn (oid_on own kind) v few e) (λ v e. t v e) (λ v e. m v e)).most))
    (λ v e. omega (arith, (t v e).most))

pub token-holds : (token : List ℕ) → length token ≤ 65000 → Holds (Some token) 65000
token-holds token few = λ v e. one-within token 65000 few v e

pub none-holds : (n : ℕ) → Holds None n
none-holds n = λ v e. none-is v n e

pub mic-holds : (outcome : Outcome) (list : List (List ℕ)) → Holds (Some (list_mic outcome Acceptor list)) 28
mic-holds outcome list = λ v e. some-is (list_mic outcome Acceptor list) v 28 (list_mic_within outcome Acceptor list) e

-- ---- the initiator takes a reply

takes-first : (own : PlainSetup) (kind : MechKind) (due finished : Bool) (mech : InitMech) (token : List ℕ) (mic : Option (List ℕ)) → is_own own.list kind ≡ true → own.negotiates ≡ true → is_first (kinds_of own.list) kind ≡ true → length token ≤ 65000 → Holds mic 28
    → initiating.init_step (inits.Opens (record { own = own; mech = mech })) (accepting.reply First (oid_on own kind) due finished (Some token) mic)
    ≡ initiating.ran (talk_on own kind due) (accepting.state_said First due finished) mic (init_taken mech token)
unfolding initiating.opened initiating.picks initiating.run
takes-first own kind true finished mech token mic is negotiates first few m =
    rw (negotiates, reply_reads First (initiating.own_list own) kind true finished (Some token) mic (one-within token 65000 few) m, listed-back (initiating.own_list own) kind, is, first) refl
takes-first own kind false true mech token mic is negotiates first few m =
    rw (negotiates, reply_reads First (initiating.own_list own) kind false true (Some token) mic (one-within token 65000 few) m, listed-back (initiating.own_list own) kind, is, first) refl
takes-first own kind false false mech token mic is negotiates first few m =
    rw (negotiates, reply_reads First (initiating.own_list own) kind false false (Some token) mic (one-within token 65000 few) m, listed-back (initiating.own_list own) kind, is, first) refl

takes-later : (own : PlainSetup) (kind : MechKind) (due finished : Bool) (mech : InitMech) (token : List ℕ) (mic : Option (List ℕ)) → length token ≤ 65000 → Holds mic 28
    → initiating.init_step (inits.Talks (record { talk = talk_on own kind due; mech = mech })) (accepting.reply Later (oid_on own kind) due finished (Some token) mic)
    ≡ initiating.ran (talk_on own kind due) (accepting.state_said Later due finished) mic (init_taken mech token)
unfolding initiating.talked initiating.run
takes-later own kind true finished mech token mic few m = rw (reply_reads Later (initiating.own_list own) kind true finished (Some token) mic (one-within token 65000 few) m) refl
takes-later own kind false true mech token mic few m = rw (reply_reads Later (initiating.own_list own) kind false true (Some token) mic (one-within token 65000 few) m) refl
takes-later own kind false false mech token mic few m = rw (reply_reads Later (initiating.own_list own) kind false false (Some token) mic (one-within token 65000 few) m) refl

takes : (turn : Turn) (own : PlainSetup) (kind : MechKind) (due finished : Bool) (mech : InitMech) (token : List ℕ) (mic : Option (List ℕ)) → is_own own.list kind ≡ true → MayCome turn own kind → length token ≤ 65000 → Holds mic 28
    → initiating.init_step (end_at turn own kind due mech) (accepting.reply turn (oid_on own kind) due finished (Some token) mic)
    ≡ initiating.ran (talk_on own kind due) (accepting.state_said turn due finished) mic (init_taken mech token)
takes First own kind due finished mech token mic is may few m = takes-first own kind due finished mech token mic is may.0 may.1 few m
takes Later own kind due finished mech token mic is may few m = takes-later own kind due finished mech token mic few m
takes Bare own kind due finished mech token mic is may few m = absurd may

-- the mechanism goes on
abbrev pub gone_on : PlainSetup → MechKind → Bool → MechReplied → InitMech → List ℕ → initiating.Initiated
gone_on own kind due replied next further = record {
  step = initiated.More (inits.Talks (record { talk = talk_on own kind due; mech = next })) (resp_octets (initiating.token_sent further));
  chosen = Some kind;
  listed = false;
  makes = replied.makes ++ [];
  found = replied.found ++ [];
}

more-by : (turn : Turn) (own : PlainSetup) (kind : MechKind) (due : Bool) (replied : MechReplied) (next : InitMech) (further : List ℕ) → replied.answer ≡ tells.More next further
    → initiating.ran (talk_on own kind due) (accepting.state_said turn due false) None (Ok replied) ≡ Ok (gone_on own kind due replied next further)
more-by First own kind true replied next further e = rw e refl
more-by First own kind false replied next further e = rw e refl
more-by Later own kind true replied next further e = rw e refl
more-by Later own kind false replied next further e = rw e refl
more-by Bare own kind due replied next further e = rw e refl

pub takes-more : (turn : Turn) (own : PlainSetup) (kind : MechKind) (due : Bool) (mech : InitMech) (token : List ℕ) (replied : MechReplied) (next : InitMech) (further : List ℕ) → is_own own.list kind ≡ true → MayCome turn own kind → length token ≤ 65000
    → init_taken mech token ≡ Ok replied → replied.answer ≡ tells.More next further
    → initiating.init_step (end_at turn own kind due mech) (accepting.reply turn (oid_on own kind) due false (Some token) None) ≡ Ok (gone_on own kind due replied next further)
takes-more turn own kind due mech token replied next further is may few e more =
    takes turn own kind due false mech token None is may few (none-holds 28)
    ∙ (ap (initiating.ran (talk_on own kind due) (accepting.state_said turn due false) None) e ∙ more-by turn own kind due replied next further more)

-- it is done, and the MICs aren't due
abbrev pub ended_plain : MechKind → MechReplied → Outcome → initiating.Initiated
ended_plain kind replied outcome = record { step = initiated.Done outcome; chosen = Some kind; listed = false; makes = replied.makes ++ []; found = replied.found ++ [] }

plain-by : (turn : Turn) (own : PlainSetup) (kind : MechKind) (replied : MechReplied) (outcome : Outcome) → is_first (kinds_of own.list) kind ≡ true → replied.answer ≡ tells.Done outcome
    → initiating.ran (talk_on own kind false) (accepting.state_said turn false true) None (Ok replied) ≡ Ok (ended_plain kind replied outcome)
plain-by First own kind replied outcome first e = rw (e, first) refl
plain-by Later own kind replied outcome first e = rw (e, first) refl
plain-by Bare own kind replied outcome first e = rw (e, first) refl

pub takes-plain : (turn : Turn) (own : PlainSetup) (kind : MechKind) (mech : InitMech) (token : List ℕ) (replied : MechReplied) (outcome : Outcome) → is_own own.list kind ≡ true → MayCome turn own kind → is_first (kinds_of own.list) kind ≡ true → length token ≤ 65000
    → init_taken mech token ≡ Ok replied → replied.answer ≡ tells.Done outcome
    → initiating.init_step (end_at turn own kind false mech) (accepting.reply turn (oid_on own kind) false true (Some token) None) ≡ Ok (ended_plain kind replied outcome)
takes-plain turn own kind mech token replied outcome is may first few e done =
    takes turn own kind false true mech token None is may few (none-holds 28)
    ∙ (ap (initiating.ran (talk_on own kind false) (accepting.state_said turn false true) None) e ∙ plain-by turn own kind replied outcome first done)

-- it is done by a reply that comes without negotiation
pub takes-bare : (own : PlainSetup) (credential : Granted) (mech : InitMech) (token : List ℕ) (replied : MechReplied) (outcome : Outcome) → own.negotiates ≡ false → own.list ≡ creds.Kerberos Standard credential ∷ []
    → init_taken mech token ≡ Ok replied → replied.answer ≡ tells.Done outcome
    → initiating.init_step (inits.Opens (record { own = own; mech = mech })) (accepting.reply Bare (oid_on own Kerberos) false true (Some token) None) ≡ Ok (ended_plain Kerberos replied outcome)
unfolding initiating.opened initiating.picks initiating.run
takes-bare own credential mech token replied outcome negotiates list e done = rw (negotiates, list, e, done) refl

-- it is done, and the acceptor's MIC is there
abbrev pub ended_signed : PlainSetup → MechKind → MechReplied → Outcome → initiating.Initiated
ended_signed own kind replied outcome = record {
  step = initiated.More (signed_on own kind outcome) (last_mic own outcome);
  chosen = Some kind;
  listed = true;
  makes = replied.makes ++ mic_making outcome Initiator (initiating.own_list own) ∷ [];
  found = replied.found ++ mic_found outcome Initiator (initiating.own_list own) (list_mic outcome Acceptor (initiating.own_list own)) ∷ [];
}

signed-by : (turn : Turn) (own : PlainSetup) (kind : MechKind) (replied : MechReplied) (outcome : Outcome) → replied.answer ≡ tells.Done outcome
    → initiating.ran (talk_on own kind true) (accepting.state_said turn true true) (Some (list_mic outcome Acceptor (initiating.own_list own))) (Ok replied) ≡ Ok (ended_signed own kind replied outcome)
signed-by First own kind replied outcome e = rw (e, acceptors_mic outcome (initiating.own_list own)) refl
signed-by Later own kind replied outcome e = rw (e, acceptors_mic outcome (initiating.own_list own)) refl
signed-by Bare own kind replied outcome e = rw (e, acceptors_mic outcome (initiating.own_list own)) refl

pub takes-signed : (turn : Turn) (own : PlainSetup) (kind : MechKind) (mech : InitMech) (token : List ℕ) (replied : MechReplied) (outcome : Outcome) → is_own own.list kind ≡ true → MayCome turn own kind → length token ≤ 65000
    → init_taken mech token ≡ Ok replied → replied.answer ≡ tells.Done outcome
    → initiating.init_step (end_at turn own kind true mech) (accepting.reply turn (oid_on own kind) true true (Some token) (Some (list_mic outcome Acceptor (initiating.own_list own)))) ≡ Ok (ended_signed own kind replied outcome)
takes-signed turn own kind mech token replied outcome is may few e done =
    takes turn own kind true true mech token (Some (list_mic outcome Acceptor (initiating.own_list own))) is may few (mic-holds outcome (initiating.own_list own))
    ∙ (ap (initiating.ran (talk_on own kind true) (accepting.state_said turn true true) (Some (list_mic outcome Acceptor (initiating.own_list own)))) e ∙ signed-by turn own kind replied outcome done)

-- another mechanism than the own first was chosen
abbrev pub switched : PlainSetup → MechKind → MechBegun → initiating.Initiated
switched own kind begun = record {
  step = initiated.More (end_at Later own kind true begun.mech) (resp_octets (initiating.token_sent begun.token));
  chosen = Some kind;
  listed = false;
  makes = begun.makes;
  found = [];
}

pub switches : (own : PlainSetup) (kind : MechKind) (mech : InitMech) (cred : MechCred) (begun : MechBegun) → own.negotiates ≡ true → is_own own.list kind ≡ true → is_first (kinds_of own.list) kind ≡ false → cred_for own.list kind ≡ Some cred → init_begun own cred ≡ Ok begun
    → initiating.init_step (inits.Opens (record { own = own; mech = mech })) (accepting.reply First (oid_on own kind) true false None None) ≡ Ok (switched own kind begun)
unfolding initiating.opened initiating.picks init_begun resp_octets
switches own kind mech cred begun negotiates is other cred_is begins =
    rw (negotiates, reply_reads First (initiating.own_list own) kind true false None None (λ v e. none-is v 65000 e) (λ v e. none-is v 28 e), listed-back (initiating.own_list own) kind, is, other, cred_is, begins) refl

-- its MIC was taken
abbrev pub closed_with : MechKind → Outcome → initiating.Initiated
closed_with kind outcome = record { step = initiated.Done outcome; chosen = Some kind; listed = true; makes = []; found = [] }

pub closes : (own : PlainSetup) (kind : MechKind) (outcome : Outcome) → initiating.init_step (signed_on own kind outcome) [] ≡ Ok (closed_with kind outcome)
unfolding initiating.closed
closes own kind outcome = refl

-- ---- the acceptor takes a token

-- the first token, for another mechanism than the chosen one, which waits
abbrev pub waiting : PlainSetup → MechKind → accepting.Accepted
waiting own kind = record {
  step = accepted.More (accepts.Runs (record { chosen = chosen_on own kind true; mech = accept_begun kind })) (accepting.reply First (oid_on own kind) true false None None);
  makes = [];
  found = [];
  fixes = None;
}

pub waits : (setup : AcceptSetup) (own : PlainSetup) (kind : MechKind) (token : List ℕ) (now : ℕ) (drawn : List ℕ) → is_own_list own.list ≡ true → IsShort (init_octets (initiating.first_sent own token)) → best setup.offer (initiating.own_list own) ≡ Some kind → is_first_named (initiating.own_list own) kind ≡ false
    → accepting.accept_step setup accepts.New (init_octets (initiating.first_sent own token)) now drawn ≡ Ok (waiting own kind)
unfolding accepting.begins
waits setup own kind token now drawn list short chosen other = rw (init_asks setup own token list short, init_reads own token list short, chosen, other) refl

-- the end that owes the MIC, and its step
abbrev pub owes : PlainSetup → Outcome → ℕ → AcceptEnd
owes own outcome lasts = accepts.Owes (record { received = initiating.own_list own; outcome = outcome; lasts = lasts })

abbrev pub settled : PlainSetup → Outcome → ℕ → accepting.Accepted
settled own outcome lasts = record {
  step = accepted.Done outcome lasts [];
  makes = [];
  found = mic_found outcome Acceptor (initiating.own_list own) (list_mic outcome Initiator (initiating.own_list own)) ∷ [];
  fixes = None;
}

pub settles : (setup : AcceptSetup) (own : PlainSetup) (outcome : Outcome) (lasts now : ℕ) (drawn : List ℕ) → accepting.accept_step setup (owes own outcome lasts) (last_mic own outcome) now drawn ≡ Ok (settled own outcome lasts)
unfolding accepting.closes
settles setup own outcome lasts now drawn =
    rw (mic_reads (list_mic outcome Initiator (initiating.own_list own)) (list_mic_within outcome Initiator (initiating.own_list own)), initiators_mic outcome (initiating.own_list own)) refl

-- ---- what is found verified where a MIC is taken was handed out with it

pub acceptors-found : (outcome : Outcome) (list : List (List ℕ)) → mic_found outcome Initiator list (list_mic outcome Acceptor list) ≡ mic_making outcome Acceptor list
unfolding list_mic mic_of mic_header
acceptors-found outcome list = refl

pub initiators-found : (outcome : Outcome) (list : List (List ℕ)) → mic_found outcome Acceptor list (list_mic outcome Initiator list) ≡ mic_making outcome Initiator list
unfolding list_mic mic_of mic_header
initiators-found outcome list = refl
