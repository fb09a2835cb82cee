-- An honest pair.
use Rattle.std.proofs.Common.{◌≡◌, ℕ, true, false, List, [], ◌∷◌, length, Option, Ok, refl, ap}
use Rattle.gss_base.specs.declared.mech.MechKind.TheVariants.{Kerberos}
use Rattle.krb_tokens.specs.declared.end.Side.TheVariants.{Initiator, Acceptor}
use Rattle.krb_tokens.proofs.Taken.{mic-taken}
use Rattle.krb_tokens.specs.declared.done.MechDone.{MechDone}
use Rattle.krb_files.specs.Granted.{Granted}
use Rattle.spnego_msgs.specs.declared.neg_init.NegInit.{NegInit}
use Rattle.spnego_msgs.specs.declared.neg_resp.NegResp.{NegResp}
use Rattle.spnego_msgs.specs.NegInit.{neg_init}
use Rattle.spnego_msgs.specs.NegResp.{neg_resp}
use Rattle.spnego_msgs.specs.Lists.{list_octets}
use Rattle.spnego_msgs.proofs.TokenLaws.{neg_init_law, neg_resp_law}
use Rattle.ap_exchange.specs.declared.judged.Judged.{Judged}
use Rattle.ap_exchange.specs.Request.{request_token, request_of}
use Rattle.ap_exchange.specs.Judging.{judged_mark}
use Rattle.ap_exchange.specs.Answer.{answer_done, answer_token}
use Rattle.ap_exchange.specs.Laws.{honest_judged, Agrees}
use Rattle.ap_exchange.proofs.Honest.{honest_request, honest_reply}
use Rattle.spnego_core.specs.declared.outcome.Outcome.{Outcome}
use Rattle.spnego_core.specs.declared.setup.AcceptSetup.{AcceptSetup}
use Rattle.spnego_core.specs.declared.accept_end.AcceptEnd.TheVariants as accepts
use Rattle.spnego_core.specs.declared.accept_end.AcceptPause.{AcceptPause}
use Rattle.spnego_core.specs.declared.accept_end.AcceptStep.TheVariants as accepted
use Rattle.spnego_core.specs.declared.accept_end.Turn.TheVariants.{First, Bare}
use Rattle.spnego_core.specs.Ends.{PlainSetup}
use Rattle.spnego_core.specs.Ends as inits
use Rattle.spnego_core.specs.EndSteps as initiated
use Rattle.spnego_core.specs.Outcome.{outcome_of, token_end}
use Rattle.spnego_core.specs.ListMic.{list_mic, is_list_mic}
use Rattle.gss_base.specs.Mech.{oid_of}
use Rattle.spnego_core.specs.Choice.{is_first}
use Rattle.spnego_core.specs.Bare.{takes_bare}
use Rattle.spnego_core.specs.Tokens.{init_read, resp_read, init_octets, resp_octets}
use Rattle.spnego_core.specs.AcceptMech.{accept_taken}
use Rattle.spnego_core.specs.InitMech.{init_begun, init_taken}
use Rattle.spnego_core.specs.Accepting as accepting
use Rattle.spnego_core.specs.Initiating as initiating
use Rattle.spnego_core.proofs.Bares.{init-unbare, request-bare, takes-first}
use Rattle.spnego_core.specs.PairLaws.{setup_with, bare_setup, bare_end, Pair, first_token, opening_end, pair_outcome, plain_reply, signed_reply, DoneAtOnce, DoneAfterMics}

pub init_again : (init : NegInit) → neg_init.fits init ≡ true → init_read (init_octets init) ≡ Ok init
unfolding init_read init_octets
init_again init fits = rw (neg_init_law.again (length (neg_init.spell init)) init fits) refl

pub resp_again : (resp : NegResp) → neg_resp.fits resp ≡ true → resp_read (resp_octets resp) ≡ Ok resp
unfolding resp_read resp_octets
resp_again resp fits = rw (neg_resp_law.again (length (neg_resp.spell resp)) resp fits) refl

pub acceptors_mic : (outcome : Outcome) (list : List (List ℕ)) → is_list_mic outcome Initiator list (list_mic outcome Acceptor list) ≡ true
unfolding is_list_mic list_mic
acceptors_mic outcome list = rw (mic-taken (token_end outcome Acceptor) 0 (list_octets list)) refl

pub initiators_mic : (outcome : Outcome) (list : List (List ℕ)) → is_list_mic outcome Acceptor list (list_mic outcome Initiator list) ≡ true
unfolding is_list_mic list_mic
initiators_mic outcome list = rw (mic-taken (token_end outcome Initiator) 0 (list_octets list)) refl

pub begins : (setup : AcceptSetup) (now : ℕ) (drawn : List ℕ) (credential : Granted) (stamp : ℕ) (draws : List ℕ) (bindings : Option (List ℕ)) → Pair setup now drawn credential stamp draws bindings → initiating.sent_of (initiating.init_start (setup_with credential stamp draws bindings)) ≡ Ok (opening_end credential stamp draws bindings, first_token credential stamp draws bindings)
unfolding init_begun request_of
begins setup now drawn credential stamp draws bindings pair = rw pair.fit.is_ticket refl

-- ends that agree have one outcome
one_outcome : (a b : MechDone) → Agrees a b → outcome_of Kerberos a ≡ outcome_of Kerberos b
one_outcome a b g = λ i. record { mech = Kerberos; initiator = g.initiator_name i; acceptor = g.acceptor_name i; key = g.key i; subkey = g.subkey i; hash = g.hash i }

-- the pause of the acceptor
abbrev pause_of : AcceptSetup → Judged → List ℕ → List (List ℕ) → AcceptPause
pause_of setup j drawn list = record {
  mark = judged_mark j;
  after = accepting.finished First (accepting.begun setup list Kerberos).chosen (pair_outcome j drawn) j.ends (answer_token j drawn);
}

asks : (setup : AcceptSetup) (now : ℕ) (drawn : List ℕ) (credential : Granted) (stamp : ℕ) (draws : List ℕ) (bindings : Option (List ℕ)) → (pair : Pair setup now drawn credential stamp draws bindings)
    → neg_init.fits (initiating.first_sent (setup_with credential stamp draws bindings) (request_token credential stamp draws bindings)) ≡ true
    → accepting.step_of (accepting.accept_step setup accepts.New (first_token credential stamp draws bindings) now drawn) ≡ Ok (accepted.WantsAuth (pause_of setup (honest_judged credential stamp bindings pair.fit.part) drawn (initiating.own_list (setup_with credential stamp draws bindings))))
unfolding accepting.begins accept_taken
asks setup now drawn credential stamp draws bindings pair fits =
    rw (
      init-unbare setup (initiating.first_sent (setup_with credential stamp draws bindings) (request_token credential stamp draws bindings)) fits,
      init_again (initiating.first_sent (setup_with credential stamp draws bindings) (request_token credential stamp draws bindings)) fits,
      pair.offers,
      honest_request setup.keytab setup.own now setup.bindings credential stamp draws bindings pair.draws_long pair.requests pair.fit,
    ) refl

pub at_once : (setup : AcceptSetup) (now : ℕ) (drawn : List ℕ) (credential : Granted) (stamp : ℕ) (draws : List ℕ) (bindings : Option (List ℕ)) → (pair : Pair setup now drawn credential stamp draws bindings) → is_first setup.offer Kerberos ≡ true
    → neg_init.fits (initiating.first_sent (setup_with credential stamp draws bindings) (request_token credential stamp draws bindings)) ≡ true
    → neg_resp.fits (plain_reply (honest_judged credential stamp bindings pair.fit.part) drawn) ≡ true
    → DoneAtOnce setup now drawn (opening_end credential stamp draws bindings) (first_token credential stamp draws bindings) (pair_outcome (honest_judged credential stamp bindings pair.fit.part) drawn)
unfolding initiating.opened initiating.picks initiating.run init_taken
at_once setup now drawn credential stamp draws bindings pair first sent replied =
    let j : Judged = honest_judged credential stamp bindings pair.fit.part in
    let taken = honest_reply credential stamp draws bindings pair.fit.part drawn pair.drawn_long pair.answers in
    record {
      pause = pause_of setup j drawn (initiating.own_list (setup_with credential stamp draws bindings));
      asks = asks setup now drawn credential stamp draws bindings pair sent;
      lasts = j.ends;
      reply = resp_octets (plain_reply j drawn);
      goes_on = rw first refl;
      takes = rw (resp_again (plain_reply j drawn) replied, taken.1) (ap (λ (o : Outcome). Ok (initiated.Done o)) (one_outcome taken.0 (answer_done j drawn) taken.2));
    }

pub after_mics : (setup : AcceptSetup) (now : ℕ) (drawn : List ℕ) (credential : Granted) (stamp : ℕ) (draws : List ℕ) (bindings : Option (List ℕ)) → (pair : Pair setup now drawn credential stamp draws bindings) → is_first setup.offer Kerberos ≡ false
    → neg_init.fits (initiating.first_sent (setup_with credential stamp draws bindings) (request_token credential stamp draws bindings)) ≡ true
    → neg_resp.fits (signed_reply (honest_judged credential stamp bindings pair.fit.part) drawn (initiating.own_list (setup_with credential stamp draws bindings))) ≡ true
    → neg_resp.fits (initiating.mic_sent (list_mic (pair_outcome (honest_judged credential stamp bindings pair.fit.part) drawn) Initiator (initiating.own_list (setup_with credential stamp draws bindings)))) ≡ true
    → DoneAfterMics setup now drawn (opening_end credential stamp draws bindings) (first_token credential stamp draws bindings) (pair_outcome (honest_judged credential stamp bindings pair.fit.part) drawn)
unfolding initiating.opened initiating.picks initiating.run init_taken initiating.closed accepting.closes
after_mics setup now drawn credential stamp draws bindings pair other sent replied signed =
    let own : PlainSetup = setup_with credential stamp draws bindings in
    let list : List (List ℕ) = initiating.own_list own in
    let j : Judged = honest_judged credential stamp bindings pair.fit.part in
    let outcome : Outcome = pair_outcome j drawn in
    let taken = honest_reply credential stamp draws bindings pair.fit.part drawn pair.drawn_long pair.answers in
    let mic : List ℕ = list_mic outcome Initiator list in
    record {
      pause = pause_of setup j drawn list;
      asks = asks setup now drawn credential stamp draws bindings pair sent;
      owing = accepts.Owes (record { received = list; outcome = outcome; lasts = j.ends });
      reply = resp_octets (signed_reply j drawn list);
      goes_on = rw other refl;
      signed = inits.Signed (record { talk = record { own = own; chosen = Kerberos; asked = true }; outcome = outcome; listed = true });
      mic = resp_octets (initiating.mic_sent mic);
      takes = rw (resp_again (signed_reply j drawn list) replied, taken.1, one_outcome taken.0 (answer_done j drawn) taken.2, acceptors_mic outcome list) refl;
      lasts = j.ends;
      closes = λ later others. rw (resp_again (initiating.mic_sent mic) signed, initiators_mic outcome list) refl;
      ends = refl;
    }

-- ---- without negotiation

pub bare_begins : (setup : AcceptSetup) (now : ℕ) (drawn : List ℕ) (credential : Granted) (stamp : ℕ) (draws : List ℕ) (bindings : Option (List ℕ)) → Pair setup now drawn credential stamp draws bindings → initiating.sent_of (initiating.init_start (bare_setup credential stamp draws bindings)) ≡ Ok (bare_end credential stamp draws bindings, request_token credential stamp draws bindings)
unfolding init_begun request_of
bare_begins setup now drawn credential stamp draws bindings pair = rw pair.fit.is_ticket refl

-- the pause of the acceptor
abbrev bare_pause : AcceptSetup → Judged → List ℕ → AcceptPause
bare_pause setup j drawn = record {
  mark = judged_mark j;
  after = accepting.finished Bare (accepting.begun setup (oid_of Kerberos ∷ []) Kerberos).chosen (pair_outcome j drawn) j.ends (answer_token j drawn);
}

bare_asks : (setup : AcceptSetup) (now : ℕ) (drawn : List ℕ) (credential : Granted) (stamp : ℕ) (draws : List ℕ) (bindings : Option (List ℕ)) → (pair : Pair setup now drawn credential stamp draws bindings) → takes_bare setup ≡ true
    → accepting.step_of (accepting.accept_step setup accepts.New (request_token credential stamp draws bindings) now drawn) ≡ Ok (accepted.WantsAuth (bare_pause setup (honest_judged credential stamp bindings pair.fit.part) drawn))
unfolding accept_taken
bare_asks setup now drawn credential stamp draws bindings pair takes =
    rw (
      request-bare setup credential stamp draws bindings pair.requests takes,
      honest_request setup.keytab setup.own now setup.bindings credential stamp draws bindings pair.draws_long pair.requests pair.fit,
    ) refl

pub bare : (setup : AcceptSetup) (now : ℕ) (drawn : List ℕ) (credential : Granted) (stamp : ℕ) (draws : List ℕ) (bindings : Option (List ℕ)) → (pair : Pair setup now drawn credential stamp draws bindings) → takes_bare setup ≡ true
    → DoneAtOnce setup now drawn (bare_end credential stamp draws bindings) (request_token credential stamp draws bindings) (pair_outcome (honest_judged credential stamp bindings pair.fit.part) drawn)
unfolding initiating.opened initiating.picks initiating.run init_taken
bare setup now drawn credential stamp draws bindings pair takes =
    let j : Judged = honest_judged credential stamp bindings pair.fit.part in
    let taken = honest_reply credential stamp draws bindings pair.fit.part drawn pair.drawn_long pair.answers in
    record {
      pause = bare_pause setup j drawn;
      asks = bare_asks setup now drawn credential stamp draws bindings pair takes;
      lasts = j.ends;
      reply = answer_token j drawn;
      goes_on = rw (takes-first setup takes) refl;
      takes = rw taken.1 (ap (λ (o : Outcome). Ok (initiated.Done o)) (one_outcome taken.0 (answer_done j drawn) taken.2));
    }
