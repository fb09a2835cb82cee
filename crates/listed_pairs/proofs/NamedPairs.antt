-- An honest pair under either identifier of Kerberos.
use Rattle.std.proofs.Common.{◌≡◌, ℕ, true, false, List, Option, Ok, refl, ap}
use Rattle.gss_base.specs.declared.mech.KerberosName.{KerberosName}
use Rattle.gss_base.specs.declared.mech.KerberosName.TheVariants.{Standard, Microsoft}
use Rattle.gss_base.specs.declared.mech.MechKind.TheVariants.{Kerberos}
use Rattle.krb_tokens.specs.declared.end.Side.TheVariants.{Initiator}
use Rattle.krb_tokens.specs.declared.done.MechDone.{MechDone}
use Rattle.krb_files.specs.Granted.{Granted}
use Rattle.spnego_msgs.specs.NegInit.{neg_init}
use Rattle.spnego_msgs.specs.NegResp.{neg_resp}
use Rattle.ap_exchange.specs.declared.judged.Judged.{Judged}
use Rattle.ap_exchange.specs.Request.{request_token, request_of}
use Rattle.ap_exchange.specs.Judging.{judged_mark}
use Rattle.ap_exchange.specs.Answer.{answer_done, answer_token}
use Rattle.ap_exchange.specs.Laws.{honest_judged, Agrees}
use Rattle.ap_exchange.proofs.Honest.{honest_request, honest_reply}
use Rattle.spnego_core.specs.declared.outcome.Outcome.{Outcome}
use Rattle.spnego_core.specs.declared.setup.AcceptSetup.{AcceptSetup}
use Rattle.spnego_core.specs.declared.setup.MechCred.{MechCred}
use Rattle.spnego_core.specs.declared.accept_end.AcceptEnd.TheVariants as accepts
use Rattle.spnego_core.specs.declared.accept_end.AcceptPause.{AcceptPause}
use Rattle.spnego_core.specs.declared.accept_end.AcceptStep.TheVariants as accepted
use Rattle.spnego_core.specs.declared.accept_end.Turn.TheVariants.{First}
use Rattle.spnego_core.specs.Ends.{PlainSetup}
use Rattle.spnego_core.specs.Ends as inits
use Rattle.spnego_core.specs.EndSteps as initiated
use Rattle.spnego_core.specs.Outcome.{outcome_of}
use Rattle.spnego_core.specs.ListMic.{list_mic}
use Rattle.spnego_core.specs.Choice.{is_first}
use Rattle.spnego_core.specs.Tokens.{resp_octets}
use Rattle.spnego_core.specs.AcceptMech.{accept_taken}
use Rattle.spnego_core.specs.InitMech.{init_begun, init_taken}
use Rattle.spnego_core.specs.Accepting as accepting
use Rattle.spnego_core.specs.Initiating as initiating
use Rattle.spnego_core.specs.PairLaws.{Pair, pair_outcome, DoneAtOnce, DoneAfterMics}
use Rattle.spnego_core.proofs.Bares.{init-unbare}
use Rattle.spnego_core.proofs.Pairs.{init_again, resp_again, acceptors_mic, initiators_mic}
use Rattle.listed_pairs.specs.NamedPairs.{setup_named, first_token, opening_end, plain_reply, signed_reply}

pub begins : (setup : AcceptSetup) (now : ℕ) (drawn : List ℕ) (name : KerberosName) (credential : Granted) (others : List MechCred) (stamp : ℕ) (draws : List ℕ) (bindings : Option (List ℕ)) → Pair setup now drawn credential stamp draws bindings → initiating.sent_of (initiating.init_start (setup_named name credential others stamp draws bindings)) ≡ Ok (opening_end (setup_named name credential others stamp draws bindings) credential, first_token (setup_named name credential others stamp draws bindings) credential)
unfolding init_begun request_of
begins setup now drawn Standard credential others stamp draws bindings pair = rw pair.fit.is_ticket refl
begins setup now drawn Microsoft credential others stamp draws bindings pair = rw pair.fit.is_ticket refl

-- ends that agree have one outcome
one_outcome : (a b : MechDone) → Agrees a b → outcome_of Kerberos a ≡ outcome_of Kerberos b
one_outcome a b g = λ i. record { mech = Kerberos; initiator = g.initiator_name i; acceptor = g.acceptor_name i; key = g.key i; subkey = g.subkey i; hash = g.hash i }

-- the pause of the acceptor
abbrev pause_of : AcceptSetup → Judged → List ℕ → List (List ℕ) → AcceptPause
pause_of setup j drawn list = record {
  mark = judged_mark j;
  after = accepting.finished First (accepting.begun setup list Kerberos).chosen (pair_outcome j drawn) j.ends (answer_token j drawn);
}

asks : (setup : AcceptSetup) (now : ℕ) (drawn : List ℕ) (name : KerberosName) (credential : Granted) (others : List MechCred) (stamp : ℕ) (draws : List ℕ) (bindings : Option (List ℕ)) → (pair : Pair setup now drawn credential stamp draws bindings)
    → neg_init.fits (initiating.first_sent (setup_named name credential others stamp draws bindings) (request_token credential stamp draws bindings)) ≡ true
    → accepting.step_of (accepting.accept_step setup accepts.New (first_token (setup_named name credential others stamp draws bindings) credential) now drawn)
    ≡ Ok (accepted.WantsAuth (pause_of setup (honest_judged credential stamp bindings pair.fit.part) drawn (initiating.own_list (setup_named name credential others stamp draws bindings))))
unfolding accepting.begins accept_taken
asks setup now drawn Standard credential others stamp draws bindings pair fits =
    rw (
      init-unbare setup (initiating.first_sent (setup_named Standard credential others stamp draws bindings) (request_token credential stamp draws bindings)) fits,
      init_again (initiating.first_sent (setup_named Standard credential others stamp draws bindings) (request_token credential stamp draws bindings)) fits,
      pair.offers,
      honest_request setup.keytab setup.own now setup.bindings credential stamp draws bindings pair.draws_long pair.requests pair.fit,
    ) refl
asks setup now drawn Microsoft credential others stamp draws bindings pair fits =
    rw (
      init-unbare setup (initiating.first_sent (setup_named Microsoft credential others stamp draws bindings) (request_token credential stamp draws bindings)) fits,
      init_again (initiating.first_sent (setup_named Microsoft credential others stamp draws bindings) (request_token credential stamp draws bindings)) fits,
      pair.offers,
      honest_request setup.keytab setup.own now setup.bindings credential stamp draws bindings pair.draws_long pair.requests pair.fit,
    ) refl

pub at_once : (setup : AcceptSetup) (now : ℕ) (drawn : List ℕ) (name : KerberosName) (credential : Granted) (others : List MechCred) (stamp : ℕ) (draws : List ℕ) (bindings : Option (List ℕ)) → (pair : Pair setup now drawn credential stamp draws bindings) → is_first setup.offer Kerberos ≡ true
    → neg_init.fits (initiating.first_sent (setup_named name credential others stamp draws bindings) (request_token credential stamp draws bindings)) ≡ true
    → neg_resp.fits (plain_reply name (honest_judged credential stamp bindings pair.fit.part) drawn) ≡ true
    → DoneAtOnce setup now drawn (opening_end (setup_named name credential others stamp draws bindings) credential) (first_token (setup_named name credential others stamp draws bindings) credential) (pair_outcome (honest_judged credential stamp bindings pair.fit.part) drawn)
unfolding initiating.opened initiating.picks initiating.run init_taken
at_once setup now drawn Standard credential others stamp draws bindings pair first sent replied =
    let j : Judged = honest_judged credential stamp bindings pair.fit.part in
    let taken = honest_reply credential stamp draws bindings pair.fit.part drawn pair.drawn_long pair.answers in
    record {
      pause = pause_of setup j drawn (initiating.own_list (setup_named Standard credential others stamp draws bindings));
      asks = asks setup now drawn Standard credential others stamp draws bindings pair sent;
      lasts = j.ends;
      reply = resp_octets (plain_reply Standard j drawn);
      goes_on = rw first refl;
      takes = rw (resp_again (plain_reply Standard j drawn) replied, taken.1) (ap (λ (o : Outcome). Ok (initiated.Done o)) (one_outcome taken.0 (answer_done j drawn) taken.2));
    }
at_once setup now drawn Microsoft credential others stamp draws bindings pair first sent replied =
    let j : Judged = honest_judged credential stamp bindings pair.fit.part in
    let taken = honest_reply credential stamp draws bindings pair.fit.part drawn pair.drawn_long pair.answers in
    record {
      pause = pause_of setup j drawn (initiating.own_list (setup_named Microsoft credential others stamp draws bindings));
      asks = asks setup now drawn Microsoft credential others stamp draws bindings pair sent;
      lasts = j.ends;
      reply = resp_octets (plain_reply Microsoft j drawn);
      goes_on = rw first refl;
      takes = rw (resp_again (plain_reply Microsoft j drawn) replied, taken.1) (ap (λ (o : Outcome). Ok (initiated.Done o)) (one_outcome taken.0 (answer_done j drawn) taken.2));
    }

pub after_mics : (setup : AcceptSetup) (now : ℕ) (drawn : List ℕ) (name : KerberosName) (credential : Granted) (others : List MechCred) (stamp : ℕ) (draws : List ℕ) (bindings : Option (List ℕ)) → (pair : Pair setup now drawn credential stamp draws bindings) → is_first setup.offer Kerberos ≡ false
    → neg_init.fits (initiating.first_sent (setup_named name credential others stamp draws bindings) (request_token credential stamp draws bindings)) ≡ true
    → neg_resp.fits (signed_reply name (honest_judged credential stamp bindings pair.fit.part) drawn (initiating.own_list (setup_named name credential others stamp draws bindings))) ≡ true
    → neg_resp.fits (initiating.mic_sent (list_mic (pair_outcome (honest_judged credential stamp bindings pair.fit.part) drawn) Initiator (initiating.own_list (setup_named name credential others stamp draws bindings)))) ≡ true
    → DoneAfterMics setup now drawn (opening_end (setup_named name credential others stamp draws bindings) credential) (first_token (setup_named name credential others stamp draws bindings) credential) (pair_outcome (honest_judged credential stamp bindings pair.fit.part) drawn)
unfolding initiating.opened initiating.picks initiating.run init_taken initiating.closed accepting.closes
after_mics setup now drawn Standard credential others stamp draws bindings pair other sent replied signed =
    let own : PlainSetup = setup_named Standard credential others stamp draws bindings in
    let list : List (List ℕ) = initiating.own_list own in
    let j : Judged = honest_judged credential stamp bindings pair.fit.part in
    let outcome : Outcome = pair_outcome j drawn in
    let taken = honest_reply credential stamp draws bindings pair.fit.part drawn pair.drawn_long pair.answers in
    let mic : List ℕ = list_mic outcome Initiator list in
    record {
      pause = pause_of setup j drawn list;
      asks = asks setup now drawn Standard credential others stamp draws bindings pair sent;
      owing = accepts.Owes (record { received = list; outcome = outcome; lasts = j.ends });
      reply = resp_octets (signed_reply Standard j drawn list);
      goes_on = rw other refl;
      signed = inits.Signed (record { talk = record { own = own; chosen = Kerberos; asked = true }; outcome = outcome; listed = true });
      mic = resp_octets (initiating.mic_sent mic);
      takes = rw (resp_again (signed_reply Standard j drawn list) replied, taken.1, one_outcome taken.0 (answer_done j drawn) taken.2, acceptors_mic outcome list) refl;
      lasts = j.ends;
      closes = λ later others. rw (resp_again (initiating.mic_sent mic) signed, initiators_mic outcome list) refl;
      ends = refl;
    }
after_mics setup now drawn Microsoft credential others stamp draws bindings pair other sent replied signed =
    let own : PlainSetup = setup_named Microsoft credential others stamp draws bindings in
    let list : List (List ℕ) = initiating.own_list own in
    let j : Judged = honest_judged credential stamp bindings pair.fit.part in
    let outcome : Outcome = pair_outcome j drawn in
    let taken = honest_reply credential stamp draws bindings pair.fit.part drawn pair.drawn_long pair.answers in
    let mic : List ℕ = list_mic outcome Initiator list in
    record {
      pause = pause_of setup j drawn list;
      asks = asks setup now drawn Microsoft credential others stamp draws bindings pair sent;
      owing = accepts.Owes (record { received = list; outcome = outcome; lasts = j.ends });
      reply = resp_octets (signed_reply Microsoft j drawn list);
      goes_on = rw other refl;
      signed = inits.Signed (record { talk = record { own = own; chosen = Kerberos; asked = true }; outcome = outcome; listed = true });
      mic = resp_octets (initiating.mic_sent mic);
      takes = rw (resp_again (signed_reply Microsoft j drawn list) replied, taken.1, one_outcome taken.0 (answer_done j drawn) taken.2, acceptors_mic outcome list) refl;
      lasts = j.ends;
      closes = λ later others. rw (resp_again (initiating.mic_sent mic) signed, initiators_mic outcome list) refl;
      ends = refl;
    }
