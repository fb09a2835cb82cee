-- What each step before the layer comes to.
use Rattle.std.proofs.Common.{◌≡◌, ◌⊎◌, inl, inr, ℕ, ◌∙◌, Bool, true, false, refl, sym, ap, subst, List, [], length, map}
use Rattle.std.specs.Prelude.{Option, Some, None, Result, Ok, Err, nat_lt, if◌then◌else◌}
use Rattle.krb_tokens.specs.declared.done.MechDone.{MechDone}
use Rattle.der_core.specs.Format.{all_of}
use Rattle.krb_msgs.specs.Ticket.{ticket}
use Rattle.ap_exchange.specs.declared.judged.Judged.{Judged}
use Rattle.ap_exchange.specs.declared.request.ApInit.{ApInit}
use Rattle.ap_exchange.specs.declared.refusal.Part.TheVariants.{Ticket}
use Rattle.ap_exchange.specs.declared.refusal.ApRefusal.{ApRefusal}
use Rattle.ap_exchange.specs.Steps.{der_in}
use Rattle.ap_exchange.specs.Request.{waiting, request_of, request_makes}
use Rattle.ap_exchange.specs.Judging.{judged}
use Rattle.ap_exchange.specs.Answer.{answer_done, answer_token}
use Rattle.ap_exchange.specs.Reply.{reply_taken, reply_found}
use Rattle.ap_exchange.proofs.Passed.{bind_ok}
use Rattle.scram_mech.specs.MechMaking.{MechMaking, typed}
use Rattle.spnego_core.specs.declared.setup.AcceptSetup.{AcceptSetup}
use Rattle.spnego_core.specs.declared.setup.MechCred.{MechCred}
use Rattle.spnego_core.specs.declared.setup.MechCred.TheVariants as creds
use Rattle.spnego_core.specs.MechStates.{InitMech}
use Rattle.spnego_core.specs.MechStates as mechs
use Rattle.spnego_core.specs.InitMech.{request_begun}
use Rattle.mech_objects.specs.Meaning.{as_end}
use Rattle.mech_objects.specs.Standard.{begun, state_begun, state_of, move_by, move_answered, answered, reply_answered}
use Rattle.sasl_layer.specs.declared.refusal.SaslRefusal.{SaslRefusal}
use Rattle.sasl_layer.specs.declared.refusal.SaslRefusal.TheVariants.{TooLong}
use Rattle.sasl_layer.specs.State.{LayerState}
use Rattle.sasl_layer.specs.declared.layer.Wish.{Wish}
use Rattle.sasl_gssapi.specs.declared.steps.Agreed.{Agreed}
use Rattle.sasl_gssapi.specs.declared.steps.Offer.{Offer}
use Rattle.sasl_gssapi.specs.declared.accept.SaslAccept.TheVariants as accepts
use Rattle.sasl_gssapi.specs.declared.accept.SaslAnswer.TheVariants as answers
use Rattle.sasl_gssapi.specs.Choosing.{most}
use Rattle.sasl_gssapi.specs.Steps.{unless_long, offers, takes_choice, takes_offer}
use Rattle.sasl_gssapi.specs.Ends.{Asks, Waits, StepMeans, More, Done}
use Rattle.sasl_gssapi.specs.Initiating.{goes_by, offer_taken, init_step}
use Rattle.sasl_gssapi.specs.Accepting.{answers_request, offered, chosen_by, accept_step}
use Rattle.sasl_pair.specs.Courses.{Start, object_of, request_taken, taken_of, asked_finds, init_finds}

-- ---- the client before Kerberos's reply

abbrev pub waits_for : Start → ApInit
waits_for s = waiting s.credential s.ask.stamp s.ask.draws s.ask.bindings

abbrev cred_of : Start → MechCred
cred_of s = creds.Kerberos s.name s.credential

ok-is : {A E : Type 0} (x y : A) → ◌≡◌ {A = Result A E} (Ok x) (Ok y) → x ≡ y
ok-is x y e = cc

sent-is : (s : Start) (sent : ApInit × List ℕ) → request_of s.credential s.ask.stamp s.ask.draws s.ask.bindings ≡ Ok sent → sent.0 ≡ waits_for s
unfolding request_of
sent-is s sent e =
    let b = bind_ok (der_in Ticket (ticket.read (all_of s.credential.ticket))) _ sent e in
    ap (λ (p : ApInit × List ℕ). p.0) (sym (ok-is _ sent b.2))

abbrev IsState : Start → Option InitMech → Type 0
IsState s state = (state ≡ None) ⊎ (state ≡ Some (mechs.Kerberos (waits_for s)))

by-request : (s : Start) (makes : List MechMaking) (r : Result (ApInit × List ℕ) ApRefusal) → request_of s.credential s.ask.stamp s.ask.draws s.ask.bindings ≡ r → IsState s (state_begun (request_begun makes r))
by-request s makes (Ok sent) e = inr (ap (λ (end : ApInit). Some (mechs.Kerberos end)) (sent-is s sent e))
by-request s makes (Err refusal) e = inl refl

state-is : (s : Start) → IsState s (state_of (cred_of s) s.ask [])
unfolding state_of begun
state-is s =
    by-request s (map typed (request_makes s.credential s.ask.stamp s.ask.draws s.ask.bindings)) (request_of s.credential s.ask.stamp s.ask.draws s.ask.bindings) refl

-- it takes the reply, and its empty message follows
pub record TakesReply (s : Start) (message : List ℕ) : Type 0 where
  pub done : MechDone
  pub taken : reply_taken (waits_for s) message ≡ Ok done
  pub step : init_step (Asks s.wish (object_of s)) message ≡ Ok (More (Waits (record { wish = s.wish; done = done })) [])
  pub finds : init_finds (Asks s.wish (object_of s)) message ≡ reply_found (waits_for s) message

pub record Refuses {A : Type 0} (answer : Result A SaslRefusal) : Type 0 where
  pub refusal : SaslRefusal
  pub is : answer ≡ Err refusal

abbrev stepped : Start → List ℕ → Bool → Option InitMech → Result StepMeans SaslRefusal
stepped s message long state = if long then Err TooLong else goes_by s.wish (object_of s) message (as_end (move_by state message))

abbrev Replied : Start → List ℕ → Bool → Type 0
Replied s message long = (done : MechDone) × (reply_taken (waits_for s) message ≡ Ok done) × (stepped s message long (Some (mechs.Kerberos (waits_for s))) ≡ Ok (More (Waits (record { wish = s.wish; done = done })) []))

replied : (s : Start) (message : List ℕ) (r : Result MechDone ApRefusal) → reply_taken (waits_for s) message ≡ r
    → Refuses (goes_by s.wish (object_of s) message (as_end (move_answered (reply_answered r))))
    ⊎ ((done : MechDone) × (r ≡ Ok done) × (goes_by s.wish (object_of s) message (as_end (move_answered (reply_answered r))) ≡ Ok (More (Waits (record { wish = s.wish; done = done })) [])))
replied s message (Ok done) e = inr (done, refl, refl)
replied s message (Err refusal) e = inl (record { refusal = _; is = refl })

by-reply : (s : Start) (message : List ℕ) (long : Bool) → Refuses (stepped s message long (Some (mechs.Kerberos (waits_for s)))) ⊎ Replied s message long
unfolding answered
by-reply s message true = inl (record { refusal = TooLong; is = refl })
by-reply s message false = elim (replied s message (reply_taken (waits_for s) message) refl) [
  | inl r ↦ inl r
  | inr d ↦ inr (d.0, d.1, d.2)
]

none-refuses : (s : Start) (message : List ℕ) (long : Bool) → Refuses (stepped s message long None)
none-refuses s message true = record { refusal = _; is = refl }
none-refuses s message false = record { refusal = _; is = refl }

pub asks : (s : Start) (message : List ℕ) → Refuses (init_step (Asks s.wish (object_of s)) message) ⊎ TakesReply s message
asks s message =
    let long : Bool = nat_lt most (length message) in
    elim (state-is s) [
      | inl e ↦ inl (subst (λ (o : Option InitMech). Refuses (stepped s message long o)) (sym e) (none-refuses s message long))
      | inr e ↦ elim (by-reply s message long) [
        | inl r ↦ inl (subst (λ (o : Option InitMech). Refuses (stepped s message long o)) (sym e) r)
        | inr d ↦ inr (record {
          done = d.0;
          taken = d.1;
          step = ap (stepped s message long) e ∙ d.2;
          finds = ap (λ (o : Option InitMech). asked_finds o message) e;
        })
      ]
    ]

-- ---- the client before the offer

pub record TakesOffer (agreed : Agreed) (message : List ℕ) : Type 0 where
  pub offer : Offer
  pub taken : takes_offer agreed message ≡ Ok offer
  pub unless : unless_long message (takes_offer agreed message) ≡ Ok offer
  pub step : init_step (Waits agreed) message ≡ Ok (Done offer.end offer.message)

by-offer : (agreed : Agreed) (message : List ℕ) (long : Bool) (r : Result Offer SaslRefusal) → Refuses (if long then Err TooLong else offer_taken r)
    ⊎ ((offer : Offer) × (r ≡ Ok offer) × ((if long then Err TooLong else r) ≡ Ok offer) × ((if long then Err TooLong else offer_taken r) ≡ Ok (Done offer.end offer.message)))
by-offer agreed message true r = inl (record { refusal = TooLong; is = refl })
by-offer agreed message false (Ok offer) = inr (offer, refl, refl, refl)
by-offer agreed message false (Err refusal) = inl (record { refusal = refusal; is = refl })

pub waits : (agreed : Agreed) (message : List ℕ) → Refuses (init_step (Waits agreed) message) ⊎ TakesOffer agreed message
waits agreed message = elim (by-offer agreed message (nat_lt most (length message)) (takes_offer agreed message)) [
  | inl r ↦ inl r
  | inr d ↦ inr (record { offer = d.0; taken = d.1; unless = d.2; step = d.3 })
]

-- ---- the server

pub record TakesRequest (setup : AcceptSetup) (wish : Wish) (message : List ℕ) (now : ℕ) (draws : List ℕ) : Type 0 where
  pub request : Judged
  pub judged_is : judged setup.keytab setup.own now setup.bindings message ≡ Ok request
  pub step : accept_step setup (accepts.Asked wish) message now draws
      ≡ Ok (answers.More (accepts.Replied (record { wish = wish; done = answer_done request draws })) (answer_token request draws))
  pub taken : request_taken setup message now draws ≡ Some (record { request = request; draws = draws })

by-asked : (wish : Wish) (draws : List ℕ) (long : Bool) (r : Result Judged ApRefusal)
    → Refuses (if long then Err TooLong else answers_request wish r draws)
    ⊎ ((request : Judged) × (r ≡ Ok request)
    × ((if long then Err TooLong else answers_request wish r draws) ≡ Ok (answers.More (accepts.Replied (record { wish = wish; done = answer_done request draws })) (answer_token request draws)))
    × ((if long then None else taken_of r draws) ≡ Some (record { request = request; draws = draws })))
by-asked wish draws true r = inl (record { refusal = TooLong; is = refl })
by-asked wish draws false (Ok request) = inr (request, refl, refl, refl)
by-asked wish draws false (Err refusal) = inl (record { refusal = _; is = refl })

pub asked : (setup : AcceptSetup) (wish : Wish) (message : List ℕ) (now : ℕ) (draws : List ℕ)
    → Refuses (accept_step setup (accepts.Asked wish) message now draws) ⊎ TakesRequest setup wish message now draws
asked setup wish message now draws = elim (by-asked wish draws (nat_lt most (length message)) (judged setup.keytab setup.own now setup.bindings message)) [
  | inl r ↦ inl r
  | inr d ↦ inr (record { request = d.0; judged_is = d.1; step = d.2; taken = d.3 })
]

pub record Offers (setup : AcceptSetup) (agreed : Agreed) (message : List ℕ) (now : ℕ) (draws : List ℕ) : Type 0 where
  pub offer : List ℕ
  pub unless : unless_long message (offers agreed message) ≡ Ok offer
  pub step : accept_step setup (accepts.Replied agreed) message now draws ≡ Ok (answers.More (accepts.Offered agreed) offer)

by-empty : (agreed : Agreed) (long : Bool) (r : Result (List ℕ) SaslRefusal) → Refuses (if long then Err TooLong else offered agreed r)
    ⊎ ((offer : List ℕ) × ((if long then Err TooLong else r) ≡ Ok offer) × ((if long then Err TooLong else offered agreed r) ≡ Ok (answers.More (accepts.Offered agreed) offer)))
by-empty agreed true r = inl (record { refusal = TooLong; is = refl })
by-empty agreed false (Ok offer) = inr (offer, refl, refl)
by-empty agreed false (Err refusal) = inl (record { refusal = refusal; is = refl })

pub replied_to : (setup : AcceptSetup) (agreed : Agreed) (message : List ℕ) (now : ℕ) (draws : List ℕ)
    → Refuses (accept_step setup (accepts.Replied agreed) message now draws) ⊎ Offers setup agreed message now draws
replied_to setup agreed message now draws = elim (by-empty agreed (nat_lt most (length message)) (offers agreed message)) [
  | inl r ↦ inl r
  | inr d ↦ inr (record { offer = d.0; unless = d.1; step = d.2 })
]

pub record TakesChoice (setup : AcceptSetup) (agreed : Agreed) (message : List ℕ) (now : ℕ) (draws : List ℕ) : Type 0 where
  pub end : LayerState
  pub taken : takes_choice agreed message ≡ Ok end
  pub step : accept_step setup (accepts.Offered agreed) message now draws ≡ Ok (answers.Done end)

by-choice : (long : Bool) (r : Result LayerState SaslRefusal) → Refuses (if long then Err TooLong else chosen_by r)
    ⊎ ((end : LayerState) × (r ≡ Ok end) × ((if long then Err TooLong else chosen_by r) ≡ Ok (answers.Done end)))
by-choice true r = inl (record { refusal = TooLong; is = refl })
by-choice false (Ok end) = inr (end, refl, refl)
by-choice false (Err refusal) = inl (record { refusal = refusal; is = refl })

pub offered_to : (setup : AcceptSetup) (agreed : Agreed) (message : List ℕ) (now : ℕ) (draws : List ℕ)
    → Refuses (accept_step setup (accepts.Offered agreed) message now draws) ⊎ TakesChoice setup agreed message now draws
offered_to setup agreed message now draws = elim (by-choice (nat_lt most (length message)) (takes_choice agreed message)) [
  | inl r ↦ inl r
  | inr d ↦ inr (record { end = d.0; taken = d.1; step = d.2 })
]
