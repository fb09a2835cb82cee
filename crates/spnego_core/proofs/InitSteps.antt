-- What an initiator's step shows, part by part.
use Rattle.std.proofs.Common.{◌≡◌, ◌⊎◌, ℕ, Bool, true, false, not, ◌||◌, if◌then◌else◌, refl, sym, ap, ◌∙◌, subst, inl, inr, List, [], ◌∷◌, ◌++◌, length, map, Option, Some, None, Result, Ok, Err}
use Rattle.gss_base.specs.declared.mech.KerberosName.{KerberosName}
use Rattle.gss_base.specs.declared.mech.MechKind.{MechKind}
use Rattle.gss_base.specs.declared.mech.MechKind.TheVariants as kinds
use Rattle.gss_base.specs.Mech.{mech_of}
use Rattle.krb_tokens.specs.declared.done.MechDone.{MechDone}
use Rattle.krb_tokens.specs.declared.end.Side.TheVariants.{Initiator}
use Rattle.krb_files.specs.Granted.{Granted}
use Rattle.spnego_msgs.specs.declared.neg_state.NegState.{NegState}
use Rattle.spnego_msgs.specs.declared.neg_resp.NegResp.{NegResp}
use Rattle.ap_exchange.specs.declared.refusal.ApRefusal.{ApRefusal}
use Rattle.ap_exchange.specs.declared.request.ApInit.{ApInit}
use Rattle.ap_exchange.specs.Request.{request_of, request_makes}
use Rattle.ap_exchange.specs.Reply.{reply_taken, reply_found}
use Rattle.ap_exchange.specs.Draws.{drawn_nonce}
use Rattle.scram_mech.specs.declared.refusal.ScramRefusal.{ScramRefusal}
use Rattle.scram_mech.specs.MechMaking.{MechMaking, AmongMakings, typed}
use Rattle.scram_mech.specs.Initiator.{InitModel, WaitModel, InitStarted, InitAnswered, InitFinished, init_started, init_answered, init_finished}
use Rattle.spnego_core.specs.declared.outcome.Outcome.{Outcome}
use Rattle.spnego_core.specs.declared.refusal.NegRefusal.{NegRefusal}
use Rattle.spnego_core.specs.declared.refusal.NegRefusal.TheVariants.{Defective, Rejected, MechNotMine, MicMissing, MicBad}
use Rattle.spnego_core.specs.declared.setup.MechCred.{MechCred}
use Rattle.spnego_core.specs.declared.setup.MechCred.TheVariants as creds
use Rattle.spnego_core.specs.MechStates.{InitMech}
use Rattle.spnego_core.specs.MechStates as mechs
use Rattle.spnego_core.specs.Ends.{PlainSetup, OpeningSays, TalkSays, TalkingSays, SignedSays, EndSays}
use Rattle.spnego_core.specs.Ends as ends
use Rattle.spnego_core.specs.EndSteps.{StepSays}
use Rattle.spnego_core.specs.EndSteps as steps
use Rattle.spnego_core.specs.Outcome.{outcome_of}
use Rattle.spnego_core.specs.Steps.{◌>>=◌, due, or_refuse}
use Rattle.spnego_core.specs.Tokens.{rejects, says_completed, first_read, resp_read, last_read, resp_octets}
use Rattle.spnego_core.specs.ListMic.{is_list_mic, mic_making, mic_found}
use Rattle.spnego_core.specs.Choice.{is_first, same_kind}
use Rattle.spnego_core.specs.InitMech.{kind_of, kinds_of, cred_for, ticket_for, request_begun, text_begun, init_begun, reply_answered, text_answered, final_answered, init_taken}
use Rattle.spnego_core.specs.Initiating.{Initiated, Started, opens, starts, init_start, opened, talked, closed, init_step, behind, own_list, ended, is_mic_owed, is_chosen, completes_now, completes_later, looks, token_sent, ran, run, begins_other, switched, switches, talk_with, talk_after, picks, own_kind, settles, looks_again}
use Rattle.spnego_core.specs.InitLaws.{own_of, chosen_of, finished_of, finished_in, answering, answers_next, answers_in, IsWaiting, IsFirstText, IsProved, IsMechOf, kind_of_mech, Covered, GoodInit, After, IsRequest, IsProof, IsOwnMic, IsFinish, SeesMic, InitLaw, StartLaw}
use Rattle.spnego_core.proofs.Makings.{among_front, among_back, among_split}
use Rattle.spnego_core.proofs.Requests.{request-waits}

-- a fact of a step that was taken
abbrev pub On : (Initiated → Type 0) → Result Initiated NegRefusal → Type 0
On P (Ok taken) = P taken
On P (Err refusal) = Unit {0}

-- one of two results by a test
either : (P : Initiated → Type 0) (b : Bool) (x y : Result Initiated NegRefusal) → (b ≡ true → On P x) → (b ≡ false → On P y) → On P (if b then x else y)
either P true x y f g = f refl
either P false x y f g = g refl

-- an end that goes on without an outcome has none
unfinished : (outcome : Outcome) → None ≡ Some outcome → ⊥
unfinished outcome e = cc

unchosen : (kind : MechKind) → None ≡ Some kind → ⊥
unchosen kind e = cc

one : (making first : MechMaking) → AmongMakings (first ∷ []) making → making ≡ first
one making first (inl e) = e
one making first (inr h) = absurd h

seen-more : (own : PlainSetup) (outcome : Outcome) (front back found : List MechMaking) → found ≡ front ++ back → SeesMic own front outcome → SeesMic own found outcome
seen-more own outcome front back found e s =
    record { mic = s.mic; right = s.right; verified = rw e (among_front front back _ s.verified) }

seen-behind : (own : PlainSetup) (outcome : Outcome) (front back : List MechMaking) → SeesMic own back outcome → SeesMic own (front ++ back) outcome
seen-behind own outcome front back s = record { mic = s.mic; right = s.right; verified = among_back front back _ s.verified }

front-only : (front : List MechMaking) (making : MechMaking) → AmongMakings (front ++ []) making → AmongMakings front making
front-only front making h = elim (among_split front [] making h) [ inl a ↦ a | inr b ↦ absurd b ]

-- ---- the end of a mechanism that is done

pub record Ended (talk : TalkSays) (outcome : Outcome) (taken : Initiated) : Type 0 where
  pub after : outcome.mech ≡ talk.chosen → After talk.own taken.chosen taken.listed taken.step
  pub finished : finished_in taken.step ≡ Some outcome
  pub answers : answers_in taken.step ≡ None
  pub chosen : taken.chosen ≡ Some talk.chosen
  pub covered : Covered talk.own talk.chosen taken.listed
  pub made : (making : MechMaking) → AmongMakings taken.makes making → making ≡ mic_making outcome Initiator (own_list talk.own)
  pub sees : taken.listed ≡ true → SeesMic talk.own taken.found outcome

ended-law : (talk : TalkSays) (outcome : Outcome) (listed completes : Bool) (found : List MechMaking) → Covered talk.own talk.chosen listed → (listed ≡ true → SeesMic talk.own found outcome) → On (Ended talk outcome) (behind [] found (Ok (ended talk outcome listed completes)))
ended-law talk outcome listed true found covered sees = record {
  after = λ e. tt;
  finished = refl;
  answers = refl;
  chosen = refl;
  covered = covered;
  made = λ making h. absurd h;
  sees = λ e. seen-more talk.own outcome found [] (found ++ []) refl (sees e);
}
ended-law talk outcome listed false found covered sees = record {
  after = λ e. record { own_is = refl; good = record { covered = covered; chosen = e }; chosen_is = refl; listed_is = refl };
  finished = refl;
  answers = refl;
  chosen = refl;
  covered = covered;
  made = λ making h. one making _ h;
  sees = λ e. seen-more talk.own outcome found [] (found ++ []) refl (sees e);
}

unowed : (first asked : Bool) → (not first || asked) ≡ false → first ≡ true
unowed true asked e = refl
unowed false asked e = cc

looks-law : (talk : TalkSays) (outcome : Outcome) (state : Option NegState) (mic : Option (List ℕ)) → On (Ended talk outcome) (looks talk outcome state mic)
looks-law talk outcome state None =
    either (Ended talk outcome) (is_mic_owed talk) (Err MicMissing) (Ok (ended talk outcome false (completes_now state false))) (λ e. tt)
    (λ e. ended-law talk outcome false (completes_now state false) [] (inl (unowed (is_first (kinds_of talk.own.list) talk.chosen) talk.asked e)) (λ f. absurd (let g : false ≡ true = f in cc)))
looks-law talk outcome state (Some mic) =
    let seen : List MechMaking = mic_found outcome Initiator (own_list talk.own) mic ∷ [] in
    either (Ended talk outcome) (is_list_mic outcome Initiator (own_list talk.own) mic) (behind [] seen (Ok (ended talk outcome true (completes_now state true)))) (Err MicBad)
    (λ e. ended-law talk outcome true (completes_now state true) seen (inr refl) (λ f. record { mic = mic; right = e; verified = inl refl })) (λ e. tt)

-- ---- a step of an end whose mechanism wasn't done

pub record Ran (own : PlainSetup) (before : Option MechKind) (next : Option InitModel) (kind : MechKind) (taken : Initiated) : Type 0 where
  pub after : After own taken.chosen taken.listed taken.step
  pub chosen : taken.chosen ≡ Some kind
  pub made : (making : MechMaking) → AmongMakings taken.makes making → IsRequest own taken.chosen making ⊎ (IsProof own next taken.chosen making ⊎ IsOwnMic own taken.step making)
  pub finishes : (outcome : Outcome) → finished_in taken.step ≡ Some outcome → IsFinish own taken.found outcome
  pub once : (k : MechKind) → before ≡ Some k → next ≡ None → answers_in taken.step ≡ None
  pub sees : (outcome : Outcome) → finished_in taken.step ≡ Some outcome → taken.listed ≡ true → SeesMic own taken.found outcome
  pub covered : (outcome : Outcome) → finished_in taken.step ≡ Some outcome → Covered own kind taken.listed
  pub mech : (outcome : Outcome) → finished_in taken.step ≡ Some outcome → outcome.mech ≡ kind

same-outcome : (step : StepSays) (a b : Outcome) → finished_in step ≡ Some a → finished_in step ≡ Some b → a ≡ b
same-outcome step a b e f = let both : Some a ≡ Some b = sym e ∙ f in cc

finish-more : (own : PlainSetup) (front back : List MechMaking) (outcome : Outcome) → IsFinish own front outcome → IsFinish own (front ++ back) outcome
finish-more own front back outcome (inl by) = inl (record {
  end = by.end;
  token = by.token;
  made = by.made;
  waits = by.waits;
  takes = by.takes;
  outcome_is = by.outcome_is;
  verified = λ making m. among_front front back making (by.verified making m);
})
finish-more own front back outcome (inr by) = inr (record {
  end = by.end;
  proved = by.proved;
  token = by.token;
  finished = by.finished;
  takes = by.takes;
  outcome_is = by.outcome_is;
  verified = λ making m. among_front front back making (by.verified making m);
})

ran-ended : (talk : TalkSays) (before : Option MechKind) (next : Option InitModel) (outcome : Outcome) (front : List MechMaking) → outcome.mech ≡ talk.chosen → IsFinish talk.own front outcome → (r : Result Initiated NegRefusal) → On (Ended talk outcome) r → On (Ran talk.own before next talk.chosen) (behind [] front r)
ran-ended talk before next outcome front mech by (Err refusal) h = tt
ran-ended talk before next outcome front mech by (Ok taken) h =
    let same : (o : Outcome) → finished_in taken.step ≡ Some o → outcome ≡ o = λ o e. same-outcome taken.step outcome o h.finished e in
    record {
      after = h.after mech;
      chosen = h.chosen;
      made = λ making m. inr (inr (record { outcome = outcome; finished = h.finished; made = h.made making m }));
      finishes = λ o e. subst (λ (x : Outcome). IsFinish talk.own (front ++ taken.found) x) (same o e) (finish-more talk.own front taken.found outcome by);
      once = λ k e f. h.answers;
      sees = λ o e l. subst (λ (x : Outcome). SeesMic talk.own (front ++ taken.found) x) (same o e) (seen-behind talk.own outcome front taken.found (h.sees l));
      covered = λ o e. h.covered;
      mech = λ o e. sym (ap (λ (x : Outcome). x.mech) (same o e)) ∙ mech;
    }

ran-law : (talk : TalkSays) (before : Option MechKind) (next : Option InitModel) (state : Option NegState) (mic : Option (List ℕ)) (end : ApInit) (token : List ℕ) (result : Result MechDone ApRefusal) → IsWaiting talk.own end → kinds.Kerberos ≡ talk.chosen → reply_taken end token ≡ result → On (Ran talk.own before next talk.chosen) (ran talk state mic (reply_answered (map typed (reply_found end token)) result))
ran-law talk before next state mic end token (Err refusal) waits mech takes = tt
ran-law talk before next state mic end token (Ok made) waits mech takes =
    ran-ended talk before next (outcome_of kinds.Kerberos made) (map typed (reply_found end token)) mech
    (inl (record { end = end; token = token; made = made; waits = waits; takes = takes; outcome_is = refl; verified = λ making m. m }))
    (looks talk (outcome_of kinds.Kerberos made) state mic) (looks-law talk (outcome_of kinds.Kerberos made) state mic)

-- SCRAM's proof is handed out, and the signature is due
proved-law : (talk : TalkSays) (before : Option MechKind) (state : Option NegState) (mic : Option (List ℕ)) (end : InitModel) (text : List ℕ) (result : Result InitAnswered ScramRefusal) → IsFirstText talk.own end → kinds.Scram ≡ talk.chosen → init_answered end text ≡ result → On (Ran talk.own before (Some end) talk.chosen) (ran talk state mic (text_answered result))
proved-law talk before state mic end text (Err refusal) first mech answers = tt
proved-law talk before state mic end text (Ok answered) first mech answers = by_state (says_completed state)
  where
    sent : Initiated
    sent = record {
      step = steps.More (ends.Talks (record { talk = talk; mech = mechs.Proof answered.end })) (resp_octets (token_sent answered.token));
      chosen = Some talk.chosen;
      listed = false;
      makes = [];
      found = [];
    }

    by_state : (b : Bool) → On (Ran talk.own before (Some end) talk.chosen) (behind answered.makes [] (if b then Err (Defective 0) else Ok sent))
    by_state true = tt
    by_state false = record {
      after = record {
        own_is = refl;
        good = record { mech = record { before = end; first = first; text = text; answered = answered; answers = answers; waits = refl }; chosen = mech };
        chosen_is = refl;
        listed_is = refl;
      };
      chosen = refl;
      made = λ making m. inr (inl (record { end = end; was = refl; first = first; text = text; answered = answered; answers = answers; made = front-only answered.makes making m; now = ap Some (sym mech) }));
      finishes = λ o e. absurd (unfinished o e);
      once = λ k e f. refl;
      sees = λ o e l. absurd (unfinished o e);
      covered = λ o e. absurd (unfinished o e);
      mech = λ o e. absurd (unfinished o e);
    }

signed-law : (talk : TalkSays) (before : Option MechKind) (next : Option InitModel) (state : Option NegState) (mic : Option (List ℕ)) (end : WaitModel) (token : List ℕ) (result : Result InitFinished ScramRefusal) → IsProved talk.own end → kinds.Scram ≡ talk.chosen → init_finished end token ≡ result → On (Ran talk.own before next talk.chosen) (ran talk state mic (final_answered result))
signed-law talk before next state mic end token (Err refusal) proved mech takes = tt
signed-law talk before next state mic end token (Ok made) proved mech takes =
    ran-ended talk before next (outcome_of kinds.Scram made.done) made.found mech
    (inr (record { end = end; proved = proved; token = token; finished = made; takes = takes; outcome_is = refl; verified = λ making m. m }))
    (looks talk (outcome_of kinds.Scram made.done) state mic) (looks-law talk (outcome_of kinds.Scram made.done) state mic)

run-law : (size : ℕ) (talk : TalkSays) (before : Option MechKind) (mech : InitMech) (state : Option NegState) (token mic : Option (List ℕ)) → IsMechOf talk.own mech → kind_of_mech mech ≡ talk.chosen → On (Ran talk.own before (answering mech) talk.chosen) (run size talk mech state token mic)
unfolding run init_taken
run-law size talk before mech state None mic waits kind = tt
run-law size talk before (mechs.Kerberos end) state (Some token) mic waits kind = ran-law talk before None state mic end token (reply_taken end token) waits kind refl
run-law size talk before (mechs.Scram end) state (Some token) mic waits kind = proved-law talk before state mic end token (init_answered end token) waits kind refl
run-law size talk before (mechs.Proof end) state (Some token) mic waits kind = signed-law talk before None state mic end token (init_finished end token) waits kind refl

-- ---- another mechanism begins

pub same_kind-is : (a b : MechKind) → same_kind a b ≡ true → a ≡ b
same_kind-is kinds.Kerberos kinds.Kerberos e = refl
same_kind-is kinds.Kerberos kinds.Scram e = cc
same_kind-is kinds.Scram kinds.Kerberos e = cc
same_kind-is kinds.Scram kinds.Scram e = refl

first-same : (list : List MechKind) (a b : MechKind) → is_first list a ≡ true → is_first list b ≡ true → a ≡ b
first-same [] a b e f = cc
first-same (first ∷ rest) a b e f = sym (same_kind-is first a e) ∙ same_kind-is first b f

by_test : (b : Bool) (kind : MechKind) (first cred : MechCred) (rest : Option MechCred) → (b ≡ true → kind_of first ≡ kind) → (rest ≡ Some cred → kind_of cred ≡ kind) → (if b then Some first else rest) ≡ Some cred → kind_of cred ≡ kind
by_test true kind first cred rest f g e = let same : first ≡ cred = cc in sym (ap kind_of same) ∙ f refl
by_test false kind first cred rest f g e = g e

pub cred_for-kind : (list : List MechCred) (kind : MechKind) (cred : MechCred) → cred_for list kind ≡ Some cred → kind_of cred ≡ kind
cred_for-kind [] kind cred e = cc
cred_for-kind (first ∷ rest) kind cred e =
    by_test (same_kind (kind_of first) kind) kind first cred (cred_for rest kind) (λ f. same_kind-is (kind_of first) kind f) (λ f. cred_for-kind rest kind cred f) e

request-begun : (talk : TalkSays) (next : Option InitModel) (credential : Granted) (result : Result (ApInit × List ℕ) ApRefusal) → kinds.Kerberos ≡ talk.chosen → ticket_for talk.own.list ≡ Some credential → request_of credential talk.own.stamp talk.own.draws talk.own.bindings ≡ result → On (Ran talk.own None next talk.chosen) (switched talk (request_begun (map typed (request_makes credential talk.own.stamp talk.own.draws talk.own.bindings)) result))
request-begun talk next credential (Err refusal) kind is_own sends = tt
request-begun talk next credential (Ok sent) kind is_own sends = record {
  after = record {
    own_is = refl;
    good = record {
      mech = record { credential = credential; is_own = is_own; waits = request-waits credential talk.own.stamp talk.own.draws talk.own.bindings sent sends };
      chosen = kind;
    };
    chosen_is = refl;
    listed_is = refl;
  };
  chosen = refl;
  made = λ making m. inl (record { credential = credential; is_own = is_own; made = one making _ m; now = ap Some (sym kind) });
  finishes = λ o e. absurd (unfinished o e);
  once = λ k e f. absurd (unchosen k e);
  sees = λ o e l. absurd (unfinished o e);
  covered = λ o e. absurd (unfinished o e);
  mech = λ o e. absurd (unfinished o e);
}

text-begun : (talk : TalkSays) (next : Option InitModel) (user password : List ℕ) (result : Result InitStarted ScramRefusal) → kinds.Scram ≡ talk.chosen → cred_for talk.own.list kinds.Scram ≡ Some (creds.Scram user password) → init_started user password (drawn_nonce talk.own.draws) talk.own.bindings ≡ result → On (Ran talk.own None next talk.chosen) (switched talk (text_begun result))
text-begun talk next user password (Err refusal) kind is_own starts = tt
text-begun talk next user password (Ok started) kind is_own starts = record {
  after = record {
    own_is = refl;
    good = record {
      mech = record { user = user; password = password; is_own = is_own; started = started; starts = starts; waits = refl };
      chosen = kind;
    };
    chosen_is = refl;
    listed_is = refl;
  };
  chosen = refl;
  made = λ making m. absurd m;
  finishes = λ o e. absurd (unfinished o e);
  once = λ k e f. absurd (unchosen k e);
  sees = λ o e l. absurd (unfinished o e);
  covered = λ o e. absurd (unfinished o e);
  mech = λ o e. absurd (unfinished o e);
}

switched-law : (talk : TalkSays) (next : Option InitModel) (cred : MechCred) → cred_for talk.own.list talk.chosen ≡ Some cred → On (Ran talk.own None next talk.chosen) (switched talk (init_begun talk.own cred))
unfolding init_begun
switched-law talk next (creds.Kerberos name credential) e =
    let kind : kinds.Kerberos ≡ talk.chosen = cred_for-kind talk.own.list talk.chosen (creds.Kerberos name credential) e in
    let found : cred_for talk.own.list kinds.Kerberos ≡ Some (creds.Kerberos name credential) = rw kind e in
    request-begun talk next credential (request_of credential talk.own.stamp talk.own.draws talk.own.bindings) kind (rw found refl) refl
switched-law talk next (creds.Scram user password) e =
    let kind : kinds.Scram ≡ talk.chosen = cred_for-kind talk.own.list talk.chosen (creds.Scram user password) e in
    text-begun talk next user password (init_started user password (drawn_nonce talk.own.draws) talk.own.bindings) kind (rw kind e) refl

begins_other-law : (talk : TalkSays) (next : Option InitModel) (found : Option MechCred) → cred_for talk.own.list talk.chosen ≡ found → On (Ran talk.own None next talk.chosen) (begins_other talk found)
begins_other-law talk next None e = tt
begins_other-law talk next (Some cred) e = switched-law talk next cred e

switches-law : (talk : TalkSays) (next : Option InitModel) (state : Option NegState) (token : Option (List ℕ)) → On (Ran talk.own None next talk.chosen) (switches talk state token)
switches-law talk next state (Some token) = tt
switches-law talk next state None =
    either (Ran talk.own None next talk.chosen) (says_completed state) (Err (Defective 0)) (begins_other talk (cred_for talk.own.list talk.chosen)) (λ e. tt)
    (λ e. begins_other-law talk next (cred_for talk.own.list talk.chosen) refl)

-- ---- the machine

picks-law : (size : ℕ) (opening : OpeningSays) (kind : MechKind) (state : Option NegState) (token mic : Option (List ℕ)) → GoodInit (ends.Opens opening) → On (Ran opening.own None (answering opening.mech) kind) (picks size opening kind state token mic)
unfolding picks
picks-law size opening kind state token mic good =
    either (Ran opening.own None (answering opening.mech) kind) (is_first (kinds_of opening.own.list) kind) (run size (talk_with opening.own kind state) opening.mech state token mic) (switches (talk_with opening.own kind state) state token)
    (λ e. run-law size (talk_with opening.own kind state) None opening.mech state token mic good.mech (first-same (kinds_of opening.own.list) (kind_of_mech opening.mech) kind good.first e))
    (λ e. switches-law (talk_with opening.own kind state) (answering opening.mech) state token)

on-bind : {A : Type 0} (P : Initiated → Type 0) (r : Result A NegRefusal) (next : A → Result Initiated NegRefusal) → ((x : A) → On P (next x)) → On P (r >>= next)
on-bind P (Ok x) next f = f x
on-bind P (Err refusal) next f = tt

-- what a step of an unfinished end shows
fresh : (old : EndSays) (kind : MechKind) → finished_of old ≡ None → ((k : MechKind) → chosen_of old ≡ Some k → kind ≡ k) → (r : Result Initiated NegRefusal) → On (Ran (own_of old) (chosen_of old) (answers_next old) kind) r → On (InitLaw old) r
fresh old kind unfinished_yet turns (Err refusal) h = tt
fresh old kind unfinished_yet turns (Ok taken) h = record {
  after = h.after;
  made = h.made;
  finishes = λ o e. inr (h.finishes o e);
  once = h.once;
  sees = λ o e l. inr (h.sees o e l);
  chosen = λ o e. h.chosen ∙ ap Some (sym (h.mech o e));
  covered = λ o e. subst (λ (k : MechKind). Covered (own_of old) k taken.listed) (sym (h.mech o (rw e refl))) (h.covered o (rw e refl));
  turns = λ k e. h.chosen ∙ ap Some (turns k e);
  stays = λ o e. absurd (let f : None ≡ Some o = sym unfinished_yet ∙ e in cc);
}

opened-law : (size : ℕ) (opening : OpeningSays) (resp : NegResp) → GoodInit (ends.Opens opening) → On (InitLaw (ends.Opens opening)) (opened size opening resp)
unfolding opened
opened-law size opening resp good =
    let P : Initiated → Type 0 = InitLaw (ends.Opens opening) in
    on-bind {A = Unit {0}} P (due Rejected (not (rejects resp.state)))
    (λ goes. or_refuse (Defective size) resp.state >>= (λ state. or_refuse (Defective size) resp.mech >>= (λ oid. or_refuse MechNotMine (own_kind opening.own.list (mech_of oid)) >>= (λ kind. picks size opening kind (Some state) resp.token resp.mic))))
    (λ goes. on-bind {A = NegState} P (or_refuse (Defective size) resp.state)
    (λ state. or_refuse (Defective size) resp.mech >>= (λ oid. or_refuse MechNotMine (own_kind opening.own.list (mech_of oid)) >>= (λ kind. picks size opening kind (Some state) resp.token resp.mic)))
    (λ state. on-bind {A = List ℕ} P (or_refuse (Defective size) resp.mech)
    (λ oid. or_refuse MechNotMine (own_kind opening.own.list (mech_of oid)) >>= (λ kind. picks size opening kind (Some state) resp.token resp.mic))
    (λ oid. on-bind {A = MechKind} P (or_refuse MechNotMine (own_kind opening.own.list (mech_of oid)))
    (λ kind. picks size opening kind (Some state) resp.token resp.mic)
    (λ kind. fresh (ends.Opens opening) kind refl (λ k e. absurd (let f : None ≡ Some k = e in cc)) (picks size opening kind (Some state) resp.token resp.mic)
    (picks-law size opening kind (Some state) resp.token resp.mic good)))))

talked-law : (size : ℕ) (talking : TalkingSays) (resp : NegResp) → GoodInit (ends.Talks talking) → On (InitLaw (ends.Talks talking)) (talked size talking resp)
unfolding talked
talked-law size talking resp good =
    let P : Initiated → Type 0 = InitLaw (ends.Talks talking) in
    on-bind {A = Unit {0}} P (due Rejected (not (rejects resp.state)))
    (λ goes. due MechNotMine (is_chosen talking.talk.chosen resp.mech) >>= (λ same. run size (talk_after talking.talk resp.state) talking.mech resp.state resp.token resp.mic))
    (λ goes. on-bind {A = Unit {0}} P (due MechNotMine (is_chosen talking.talk.chosen resp.mech))
    (λ same. run size (talk_after talking.talk resp.state) talking.mech resp.state resp.token resp.mic)
    (λ same. fresh (ends.Talks talking) talking.talk.chosen refl (λ k e. let f : Some talking.talk.chosen ≡ Some k = e in cc)
    (run size (talk_after talking.talk resp.state) talking.mech resp.state resp.token resp.mic)
    (run-law size (talk_after talking.talk resp.state) (Some talking.talk.chosen) talking.mech resp.state resp.token resp.mic good.mech good.chosen)))

settles-law : (signed : SignedSays) (listed completes : Bool) (found : List MechMaking) → GoodInit (ends.Signed signed) → (listed ≡ true → (signed.listed ≡ true) ⊎ SeesMic signed.talk.own found signed.outcome) → (signed.listed ≡ true → listed ≡ true) → On (InitLaw (ends.Signed signed)) (behind [] found (settles signed listed completes))
settles-law signed listed false found good sees grows = tt
settles-law signed listed true found good sees grows =
    let same : (o : Outcome) → Some signed.outcome ≡ Some o → signed.outcome ≡ o = λ o e. cc in
    record {
      after = tt;
      made = λ making m. absurd m;
      finishes = λ o e. inl e;
      once = λ k e f. refl;
      sees = λ o e l. seen o (same o e) (sees l);
      chosen = λ o e. ap Some (sym good.chosen ∙ ap (λ (x : Outcome). x.mech) (same o e));
      covered = λ o e. subst (λ (k : MechKind). Covered signed.talk.own k listed) (sym good.chosen ∙ ap (λ (x : Outcome). x.mech) (let f : signed.outcome ≡ o = cc in f)) (covers good.covered);
      turns = λ k e. e;
      stays = λ o e. e;
    }
  where
    seen : (o : Outcome) → signed.outcome ≡ o → (signed.listed ≡ true) ⊎ SeesMic signed.talk.own found signed.outcome → (signed.listed ≡ true) ⊎ SeesMic signed.talk.own (found ++ []) o
    seen o e (inl l) = inl l
    seen o e (inr s) = inr (subst (λ (x : Outcome). SeesMic signed.talk.own (found ++ []) x) e (seen-more signed.talk.own signed.outcome found [] (found ++ []) refl s))

    covers : Covered signed.talk.own signed.talk.chosen signed.listed → Covered signed.talk.own signed.talk.chosen listed
    covers (inl e) = inl e
    covers (inr e) = inr (grows e)

looks_again-law : (signed : SignedSays) (state : Option NegState) (mic : Option (List ℕ)) → GoodInit (ends.Signed signed) → On (InitLaw (ends.Signed signed)) (looks_again signed state mic)
looks_again-law signed state None good = unseen (completes_later state)
  where
    unseen : (completes : Bool) → On (InitLaw (ends.Signed signed)) (settles signed signed.listed completes)
    unseen true = settles-law signed signed.listed true [] good (λ l. inl l) (λ l. l)
    unseen false = tt
looks_again-law signed state (Some mic) good =
    let found : List MechMaking = mic_found signed.outcome Initiator (own_list signed.talk.own) mic ∷ [] in
    either (InitLaw (ends.Signed signed)) (is_list_mic signed.outcome Initiator (own_list signed.talk.own) mic) (behind [] found (settles signed true (completes_later state))) (Err MicBad)
    (λ e. settles-law signed true (completes_later state) found good (λ l. inr (record { mic = mic; right = e; verified = inl refl })) (λ l. refl)) (λ e. tt)

closed-law : (signed : SignedSays) (resp : NegResp) → GoodInit (ends.Signed signed) → On (InitLaw (ends.Signed signed)) (closed signed resp)
unfolding closed
closed-law signed resp good =
    let P : Initiated → Type 0 = InitLaw (ends.Signed signed) in
    on-bind {A = Unit {0}} P (due Rejected (not (rejects resp.state)))
    (λ goes. due MechNotMine (is_chosen signed.talk.chosen resp.mech) >>= (λ same. looks_again signed resp.state resp.mic))
    (λ goes. on-bind {A = Unit {0}} P (due MechNotMine (is_chosen signed.talk.chosen resp.mech))
    (λ same. looks_again signed resp.state resp.mic)
    (λ same. looks_again-law signed resp.state resp.mic good))

step-law : (old : EndSays) (token : List ℕ) → GoodInit old → On (InitLaw old) (init_step old token)
step-law (ends.Opens opening) token good =
    on-bind (InitLaw (ends.Opens opening)) (first_read opening.own.negotiates (own_list opening.own) token) (opened (length token) opening) (λ resp. opened-law (length token) opening resp good)
step-law (ends.Talks talking) token good =
    on-bind (InitLaw (ends.Talks talking)) (resp_read token) (talked (length token) talking) (λ resp. talked-law (length token) talking resp good)
step-law (ends.Signed signed) token good =
    on-bind (InitLaw (ends.Signed signed)) (last_read token) (closed signed) (λ resp. closed-law signed resp good)

on-ok : (P : Initiated → Type 0) (r : Result Initiated NegRefusal) (taken : Initiated) → r ≡ Ok taken → On P r → P taken
on-ok P r taken e h = subst (On P) e h

pub init_steps : (old : EndSays) (token : List ℕ) (taken : Initiated) → GoodInit old → init_step old token ≡ Ok taken → InitLaw old taken
init_steps old token taken good e = on-ok (InitLaw old) (init_step old token) taken e (step-law old token good)

-- ---- the start

OnStarted : (Started → Type 0) → Result Started NegRefusal → Type 0
OnStarted P (Ok started) = P started
OnStarted P (Err refusal) = Unit {0}

request-opens : (own : PlainSetup) (name : KerberosName) (credential : Granted) (rest : List MechCred) (result : Result (ApInit × List ℕ) ApRefusal) → own.list ≡ creds.Kerberos name credential ∷ rest → request_of credential own.stamp own.draws own.bindings ≡ result → OnStarted (StartLaw own) (opens own (request_begun (map typed (request_makes credential own.stamp own.draws own.bindings)) result))
unfolding OnStarted
request-opens own name credential rest (Err refusal) list sends = tt
request-opens own name credential rest (Ok sent) list sends =
    let is_own : ticket_for own.list ≡ Some credential = rw list refl in
    record {
      own_is = refl;
      good = record {
        mech = record { credential = credential; is_own = is_own; waits = request-waits credential own.stamp own.draws own.bindings sent sends };
        first = rw list refl;
      };
      unchosen = refl;
      made = λ making m. (credential, is_own, one making _ m);
    }

text-opens : (own : PlainSetup) (user password : List ℕ) (rest : List MechCred) (result : Result InitStarted ScramRefusal) → own.list ≡ creds.Scram user password ∷ rest → init_started user password (drawn_nonce own.draws) own.bindings ≡ result → OnStarted (StartLaw own) (opens own (text_begun result))
unfolding OnStarted
text-opens own user password rest (Err refusal) list starts = tt
text-opens own user password rest (Ok started) list starts =
    let is_own : cred_for own.list kinds.Scram ≡ Some (creds.Scram user password) = rw list refl in
    record {
      own_is = refl;
      good = record {
        mech = record { user = user; password = password; is_own = is_own; started = started; starts = starts; waits = refl };
        first = rw list refl;
      };
      unchosen = refl;
      made = λ making m. absurd m;
    }

starts-law : (own : PlainSetup) (list : List MechCred) → own.list ≡ list → OnStarted (StartLaw own) (starts own list)
unfolding OnStarted init_begun
starts-law own [] e = tt
starts-law own (creds.Kerberos name credential ∷ rest) e = request-opens own name credential rest (request_of credential own.stamp own.draws own.bindings) e refl
starts-law own (creds.Scram user password ∷ rest) e = text-opens own user password rest (init_started user password (drawn_nonce own.draws) own.bindings) e refl

pub init_starts : (own : PlainSetup) (started : Started) → init_start own ≡ Ok started → StartLaw own started
unfolding OnStarted
init_starts own started e = subst (OnStarted (StartLaw own)) e (starts-law own own.list refl)
