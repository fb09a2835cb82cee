-- Events while no end is done, from the request on.
use Rattle.std.proofs.Common.{◌≡◌, ◌⊎◌, inl, inr, ℕ, ◌+◌, ◌∙◌, Bool, false, refl, sym, ap, subst, arith, List, [], ◌∷◌, ◌++◌, length, Option, Some}
use Rattle.std.specs.Prelude.{Result, Ok}
use Rattle.krb_derive.specs.declared.key.Key.{Key}
use Rattle.krb_derive.specs.Making.{Making, Among, sealed_making}
use Rattle.krb_tokens.specs.declared.done.MechDone.{MechDone}
use Rattle.krb_tokens.specs.declared.end.TokenEnd.{TokenEnd}
use Rattle.krb_tokens.specs.declared.end.Side.TheVariants.{Initiator, Acceptor}
use Rattle.krb_tokens.specs.End.{seal_usage, facing}
use Rattle.krb_tokens.specs.Wrap.{unwrapped}
use Rattle.krb_tokens.specs.Makings.{wrap_making}
use Rattle.ap_exchange.specs.declared.request.ApInit.{ApInit}
use Rattle.ap_exchange.specs.Keys.{reply_usage}
use Rattle.ap_exchange.specs.Laws.{TakesBy}
use Rattle.ap_exchange.specs.Answer.{acceptor_subkey, reply_octets, answer_making}
use Rattle.ap_exchange.specs.Reply.{reply_done}
use Rattle.ap_exchange.proofs.Found.{takes}
use Rattle.spnego_core.proofs.ReadBack.{Answered, answered, answered_number}
use Rattle.sasl_layer.specs.declared.refusal.SaslRefusal.{SaslRefusal}
use Rattle.sasl_layer.specs.State.{LayerState}
use Rattle.sasl_layer.specs.Layers.{bit_of, words_of}
use Rattle.sasl_layer.specs.Layered.{end_of, end_under}
use Rattle.sasl_layer.specs.Lines.{IsFront, Line, AreItsOwn, WereMade}
use Rattle.sasl_layer.proofs.Lines.{first_law}
use Rattle.sasl_layer.proofs.Runs.{same-end, facing-back}
use Rattle.sasl_layer.proofs.Told.{same-first}
use Rattle.sasl_gssapi.specs.declared.steps.Agreed.{Agreed}
use Rattle.sasl_gssapi.specs.declared.steps.Offer.{Offer}
use Rattle.sasl_gssapi.specs.declared.accept.SaslAccept.TheVariants as accepts
use Rattle.sasl_gssapi.specs.declared.accept.SaslAnswer.{SaslAnswer}
use Rattle.sasl_gssapi.specs.Ends.{InitMeans, Asks, Waits, StepMeans, Done}
use Rattle.sasl_gssapi.specs.Initiating.{init_step}
use Rattle.sasl_gssapi.specs.Accepting.{accept_step}
use Rattle.sasl_gssapi.proofs.Agreeing.{Took, took-by, Answered as Chosen, answered-by, own-by, no-front}
use Rattle.sasl_pair.specs.declared.event.PairEvent.TheVariants.{ToInit, ToAccept, SendInit, SendAccept}
use Rattle.sasl_pair.specs.declared.stage.ServerStage.{ServerStage}
use Rattle.sasl_pair.specs.declared.stage.ServerStage.TheVariants as servers
use Rattle.sasl_pair.specs.Moves.{ClientAt, Goes, client_after, server_after}
use Rattle.sasl_pair.specs.Courses.{Start, object_of, Taken, Course, Does, choice_made, offer_made, client_heard, server_heard, client_spoke, server_spoke, after, shown, init_finds, accept_finds, client_finds, server_finds, read_on, IsOneOf, Guarded, Unforged}
use Rattle.sasl_pair.proofs.Parts.{found-key}
use Rattle.sasl_pair.proofs.Exchanges.{waits_for, TakesReply, asks, TakesOffer, waits, replied_to, TakesChoice, offered_to}
use Rattle.sasl_pair.proofs.Stages.{client_start, server_done, server_end, server_agreed, client_agreed, offer_words, Known, Keyed, Waiting, Replies, Offered, Early, Late, Live}

-- ---- words

-- the course behind a step of the client before the layer, and of the server
abbrev pub heard-with : Course → Result StepMeans SaslRefusal → List Making → Course
heard-with c r made = record c {
  pair = record c.pair { client = (client_after r).to };
  client_read = read_on c.client_read (client_after r).says;
  makings = made ++ c.makings;
}

abbrev pub served-with : Course → Result SaslAnswer SaslRefusal → Option Taken → List Making → Course
served-with c r taken made = record c {
  pair = record c.pair { server = (server_after r).to };
  taken = taken;
  server_read = read_on c.server_read (server_after r).says;
  makings = made ++ c.makings;
}

-- what was found verified under a guarded key was made
abbrev pub AreMade : List Key → Course → List Making → Type 0
AreMade sessions c found = (m : Making) → Among found m → Guarded sessions c m.key → Among c.makings m

pub apart : {A : Type 0} (m : Making) (a b : ℕ) → m.usage ≡ a → m.usage ≡ b → (a ≡ b → ⊥) → A
apart m a b e f n = absurd (n (sym e ∙ f))

pub not-12-22 : ◌≡◌ {A = ℕ} 22 12 → ⊥
not-12-22 e = omega (arith, e)

pub not-24-22 : ◌≡◌ {A = ℕ} 24 22 → ⊥
not-24-22 e = omega (arith, e)

pub not-24-12 : ◌≡◌ {A = ℕ} 24 12 → ⊥
not-24-12 e = omega (arith, e)

pub not-22-24 : ◌≡◌ {A = ℕ} 22 24 → ⊥
not-22-24 e = omega (arith, e)

-- under the context's key it is guarded
pub built : (sessions : List Key) (t : Taken) (c : Course) (key : Key) → c.taken ≡ Some t → IsOneOf sessions t.request.session → (server_done t).key ≡ key → Guarded sessions c key
built sessions t c key is h e = inr (record { on = t; is = is; guarded = h; key_is = e })

-- ---- the client takes the reply

keyed-by : (sessions : List Key) (s : Start) (t : Taken) (c : Course) (message : List ℕ) → IsOneOf sessions t.request.session → Known s t → Early s t c
    → AreMade sessions c (client_finds (client_start s) message) → (d : TakesReply s message) → Keyed t d.done
keyed-by sessions s t c message h known early u d =
    let end : ApInit = waits_for s in
    let b : TakesBy end message d.done = takes end message d.done d.taken in
    let m : Making = sealed_making end.session reply_usage b.octets in
    let found : Among (client_finds (client_start s) message) m =
    subst (λ (r : Result StepMeans SaslRefusal). Among (shown r (init_finds (Asks s.wish (object_of s)) message)) m) (sym d.step)
    (subst (λ (ms : List Making). Among ms m) (sym (d.finds ∙ b.finds)) (inl refl)) in
    let is : m ≡ answer_making t.request t.draws = early.reply m (u m found (inl (subst (IsOneOf sessions) known.session h))) refl in
    let octets : b.octets ≡ reply_octets t.request t.draws = ap (λ (x : Making). x.octets) is in
    let a : Answered t.request t.draws end.stamp b.subkey = answered t.request t.draws b.octets b.said end.stamp b.subkey known.small octets b.says b.stamp b.subkey_is in
    let number : b.said.seq_number ≡ Some 0 = answered_number t.request t.draws b.octets b.said known.small octets b.says in
    let whole : d.done ≡ reply_done end (Some (acceptor_subkey t.request t.draws)) (Some 0) =
    b.done_is ∙ (ap (λ (k : Option Key). reply_done end k b.said.seq_number) a.subkey_is ∙ ap (λ (n : Option ℕ). reply_done end (Some (acceptor_subkey t.request t.draws)) n) number) in
    record { faces = ap (λ (x : MechDone). end_of x Initiator) whole; first = ap (λ (x : MechDone). x.first) whole }

start-hears : (sessions : List Key) (s : Start) (t : Taken) (c : Course) (message : List ℕ) → IsOneOf sessions t.request.session → Known s t → Early s t c
    → AreMade sessions c (client_finds (client_start s) message) → Live s t (client_heard c (client_start s) message)
start-hears sessions s t c message h known early u = elim (asks s message) [
  | inl r ↦ inl (ap (λ (a : Result StepMeans SaslRefusal). (client_after a).to) r.is)
  | inr d ↦
      subst (λ (a : Result StepMeans SaslRefusal). Live s t (heard-with c a [])) (sym d.step)
      (inr (inr (inl (record {
        client = inr (record { done = d.done; is = refl; keyed = keyed-by sessions s t c message h known early u d });
        server = elim early.server [
          | inl r ↦ inl (record { is = r.is; none = r.none })
          | inr o ↦ inr (record { is = o.is; theirs = o.theirs })
        ];
        silent = record { client_said = early.silent.client_said; client_read = early.silent.client_read; server_said = early.silent.server_said; server_read = early.silent.server_read };
        reply = early.reply;
        ours = early.ours;
      }))))
]

-- ---- the client takes the offer

-- what is found in the offer was made
offer-made : (sessions : List Key) (s : Start) (t : Taken) (c : Course) (message : List ℕ) (done : MechDone) → IsOneOf sessions t.request.session → c.taken ≡ Some t → Keyed t done
    → AreMade sessions c (client_finds (Goes (Waits (client_agreed s done))) message) → TakesOffer (client_agreed s done) message → WereMade (end_of done Initiator) message c.makings
offer-made sessions s t c message done h is keyed u d m a =
    u m (subst (λ (r : Result StepMeans SaslRefusal). Among (shown r (init_finds (Waits (client_agreed s done)) message)) m) (sym d.step) a)
    (built sessions t c m.key is h (sym (found-key (end_of done Initiator) message m a ∙ ap (λ (e : TokenEnd). e.key) keyed.faces)))

-- the making of the offer
offered-making : (s : Start) (t : Taken) (c : Course) (message : List ℕ) (done : MechDone) → Keyed t done → WereMade (end_of done Initiator) message c.makings
    → ((m : Making) → Among c.makings m → m.usage ≡ 22 → (octets : List ℕ) × (m ≡ wrap_making (server_end t) 0 false octets)) → (d : TakesOffer (client_agreed s done) message)
    → (m : Making) × Among c.makings m × (m.usage ≡ 22)
offered-making s t c message done keyed made theirs d =
    let k : Took (client_agreed s done) message d.offer = took-by (client_agreed s done) message d.offer d.taken in
    let line : Line = record { sender = server_end t; sealed = false; said = [] } in
    let x = first_law line c.makings message k.by_offer.content (λ m a key usage. inl (let w = theirs m a usage in record { octets = w.0; is = w.1 }))
    (subst (λ (e : TokenEnd). unwrapped e message ≡ Ok (record { sealed = false; content = k.by_offer.content })) keyed.faces k.by_offer.taken)
    (k.by_offer.number ∙ keyed.first) (subst (λ (e : TokenEnd). WereMade e message c.makings) keyed.faces made) in
    (x.0, x.1, ap (λ (m : Making). m.usage) x.2)

late-own : (end : TokenEnd) (sealed : Bool) (said : List (List ℕ)) (words : List ℕ) (makings : List Making) → ((m : Making) → Among makings m → m.usage ≡ 24 → ⊥) → end.side ≡ Initiator
    → AreItsOwn (record { sender = end; sealed = sealed; said = said }) (wrap_making end 0 false words ∷ makings)
late-own end sealed said words makings none side m (inl e) key usage = inl (record { octets = words; is = e })
late-own end sealed said words makings none side m (inr a) key usage = absurd (none m a (usage ∙ ap seal_usage side))

late-from : (s : Start) (t : Taken) (c : Course) (message : List ℕ) (done : MechDone) → Known s t → Keyed t done → Early s t c → Offered s t c → WereMade (end_of done Initiator) message c.makings
    → (d : TakesOffer (client_agreed s done) message)
    → Late s t (heard-with c (Ok (Done d.offer.end d.offer.message)) (choice_made (client_agreed s done) (Ok d.offer)))
late-from s t c message done known keyed early o made d =
    let k : Took (client_agreed s done) message d.offer = took-by (client_agreed s done) message d.offer d.taken in
    let one : LayerState = d.offer.end in
    let words : List ℕ = words_of (bit_of d.offer.end.facts.layer) s.wish.size in
    let sender : end_under one ≡ end_of done Initiator = ap end_under k.one_is in
    record {
      done = done;
      keyed = keyed;
      offer = message;
      taken = d.offer;
      took = d.taken;
      made = λ m a. inr (made m a);
      one = one;
      client = refl;
      facts = refl;
      key = ap (λ (l : LayerState). l.facts.done.key) k.one_is ∙ ap (λ (e : TokenEnd). e.key) keyed.faces;
      sender = sender;
      server = record {
        is = o.is;
        theirs = λ m a usage. elim a [
          | inl e ↦ apart m 24 22 (ap (λ (x : Making). x.usage) e) usage not-24-22
          | inr b ↦ o.theirs m b usage
        ];
      };
      server_said = early.silent.server_said;
      server_read = early.silent.server_read;
      only = λ octets a. elim a [
        | inl e ↦ same-first (end_of done Initiator) octets words e
        | inr b ↦ absurd (early.ours (wrap_making (end_of done Initiator) 0 false octets) b refl)
      ];
      bare = λ e. late-own (end_of done Initiator) false [] words c.makings early.ours refl;
      holds = λ sealed layer. record {
        faces = facing-back (end_of done Initiator) (server_end t) keyed.faces ∙ ap facing (sym sender);
        left_layer = layer;
        right_layer = layer;
        left_sends = ap (λ (l : LayerState). l.sends) k.one_is ∙ ap (λ (xs : List (List ℕ)). length xs + 1) (sym early.silent.client_said);
        right_sends = ap (λ (xs : List (List ℕ)). length xs + 1) (sym early.silent.server_said);
        left_takes = ap (λ (l : LayerState). l.takes) k.one_is ∙ (ap (λ (n : ℕ). n + 1) keyed.first ∙ ap (λ (xs : List (List ℕ)). length xs + 1) (sym early.silent.client_read));
        right_takes = ap (λ (xs : List (List ℕ)). length xs + 1) (sym early.silent.server_read);
        left_own = own-by (end_under one) (end_of done Initiator) sealed c.client_said (wrap_making (end_of done Initiator) 0 false words ∷ c.makings) sender
            (late-own (end_of done Initiator) sealed c.client_said words c.makings early.ours refl);
        right_own = λ m a key usage. elim a [
          | inl e ↦ apart m 24 22 (ap (λ (x : Making). x.usage) e) usage not-24-22
          | inr b ↦ inl (record { octets = offer_words s; is = o.theirs m b usage })
        ];
        left_front = subst (λ (xs : List (List ℕ)). IsFront xs c.client_said) (sym early.silent.server_read) (no-front c.client_said);
        right_front = subst (λ (xs : List (List ℕ)). IsFront xs c.server_said) (sym early.silent.client_read) (no-front c.server_said);
      };
    }

waiting-hears : (sessions : List Key) (s : Start) (t : Taken) (c : Course) (message : List ℕ) (done : MechDone) → IsOneOf sessions t.request.session → c.taken ≡ Some t → Known s t → Keyed t done → Early s t c
    → AreMade sessions c (client_finds (Goes (Waits (client_agreed s done))) message) → Live s t (client_heard c (Goes (Waits (client_agreed s done))) message)
waiting-hears sessions s t c message done h is known keyed early u =
    let agreed : Agreed = client_agreed s done in
    elim (waits agreed message) [
      | inl r ↦ inl (ap (λ (a : Result StepMeans SaslRefusal). (client_after a).to) r.is)
      | inr d ↦
          let made : WereMade (end_of done Initiator) message c.makings = offer-made sessions s t c message done h is keyed u d in
          elim early.server [
            | inl r ↦
                let x = offered-making s t c message done keyed made (λ m a usage. absurd (r.none m a usage)) d in
                absurd (r.none x.0 x.1 x.2)
            | inr o ↦
                subst (λ (z : Result Offer SaslRefusal). Live s t (heard-with c (init_step (Waits agreed) message) (choice_made agreed z))) (sym d.unless)
                (subst (λ (a : Result StepMeans SaslRefusal). Live s t (heard-with c a (choice_made agreed (Ok d.offer)))) (sym d.step)
                (inr (inr (inr (inl (late-from s t c message done known keyed early o made d))))))
          ]
    ]

pub early-hears : (sessions : List Key) (s : Start) (t : Taken) (c : Course) (message : List ℕ) → IsOneOf sessions t.request.session → c.taken ≡ Some t → Known s t → Early s t c
    → Unforged sessions c (Does (ToInit message)) → Live s t (after c (Does (ToInit message)))
early-hears sessions s t c message h is known early u = elim early.client [
  | inl e ↦
      subst (λ (at : ClientAt). AreMade sessions c (client_finds at message) → Live s t (client_heard c at message)) (sym e)
      (start-hears sessions s t c message h known early) u
  | inr w ↦
      subst (λ (at : ClientAt). AreMade sessions c (client_finds at message) → Live s t (client_heard c at message)) (sym w.is)
      (waiting-hears sessions s t c message w.done h is known w.keyed early) u
]

-- ---- the server

replies-hears : (s : Start) (t : Taken) (c : Course) (message : List ℕ) (now : ℕ) (draws : List ℕ) → Early s t c → Replies s t c
    → Live s t (server_heard c (servers.Goes (accepts.Replied (server_agreed s t))) message now draws)
replies-hears s t c message now draws early r =
    let agreed : Agreed = server_agreed s t in
    elim (replied_to c.pair.setup agreed message now draws) [
      | inl f ↦ inr (inl (ap (λ (a : Result SaslAnswer SaslRefusal). (server_after a).to) f.is))
      | inr d ↦
          subst (λ (z : Result (List ℕ) SaslRefusal). Live s t (served-with c (accept_step c.pair.setup (accepts.Replied agreed) message now draws) c.taken (offer_made agreed z))) (sym d.unless)
          (subst (λ (a : Result SaslAnswer SaslRefusal). Live s t (served-with c a c.taken (offer_made agreed (Ok d.offer)))) (sym d.step)
          (inr (inr (inl (record {
            client = early.client;
            server = inr (record {
              is = refl;
              theirs = λ m a usage. elim a [
                | inl e ↦ e
                | inr b ↦ absurd (r.none m b usage)
              ];
            });
            silent = record { client_said = early.silent.client_said; client_read = early.silent.client_read; server_said = early.silent.server_said; server_read = early.silent.server_read };
            reply = λ m a usage. elim a [
              | inl e ↦ apart m 22 12 (ap (λ (x : Making). x.usage) e) usage not-12-22
              | inr b ↦ early.reply m b usage
            ];
            ours = λ m a usage. elim a [
              | inl e ↦ apart m 22 24 (ap (λ (x : Making). x.usage) e) usage not-22-24
              | inr b ↦ early.ours m b usage
            ];
          })))))
    ]

pub choice-made : (sessions : List Key) (t : Taken) (c : Course) (agreed : Agreed) (message : List ℕ) (now : ℕ) (draws : List ℕ) → IsOneOf sessions t.request.session → c.taken ≡ Some t → agreed.done ≡ server_done t
    → AreMade sessions c (server_finds c.pair.setup (servers.Goes (accepts.Offered agreed)) message now draws) → TakesChoice c.pair.setup agreed message now draws
    → WereMade (end_of agreed.done Acceptor) message c.makings
choice-made sessions t c agreed message now draws h is same u d m a =
    u m (subst (λ (r : Result SaslAnswer SaslRefusal). Among (shown r (accept_finds c.pair.setup (accepts.Offered agreed) message)) m) (sym d.step) a)
    (built sessions t c m.key is h (sym (found-key (end_of agreed.done Acceptor) message m a ∙ ap (λ (x : MechDone). x.key) same)))

offered-hears : (sessions : List Key) (s : Start) (t : Taken) (c : Course) (message : List ℕ) (now : ℕ) (draws : List ℕ) → IsOneOf sessions t.request.session → c.taken ≡ Some t → Known s t → Early s t c
    → AreMade sessions c (server_finds c.pair.setup (servers.Goes (accepts.Offered (server_agreed s t))) message now draws)
    → Live s t (server_heard c (servers.Goes (accepts.Offered (server_agreed s t))) message now draws)
offered-hears sessions s t c message now draws h is known early u =
    let agreed : Agreed = server_agreed s t in
    elim (offered_to c.pair.setup agreed message now draws) [
      | inl f ↦ inr (inl (ap (λ (a : Result SaslAnswer SaslRefusal). (server_after a).to) f.is))
      | inr d ↦
          let made : WereMade (server_end t) message c.makings = choice-made sessions t c agreed message now draws h is refl u d in
          let k : Chosen agreed message d.end = answered-by agreed message d.end d.taken in
          let line : Line = record { sender = facing (server_end t); sealed = false; said = [] } in
          let x = first_law line c.makings message k.by_choice.content (λ m a key usage. absurd (early.ours m a usage))
          (subst (λ (e : TokenEnd). unwrapped e message ≡ Ok (record { sealed = false; content = k.by_choice.content })) (same-end (server_end t)) k.by_choice.taken)
          (k.by_choice.number ∙ known.first) (subst (λ (e : TokenEnd). WereMade e message c.makings) (same-end (server_end t)) made) in
          absurd (early.ours x.0 x.1 (ap (λ (m : Making). m.usage) x.2))
    ]

pub early-accepts : (sessions : List Key) (s : Start) (t : Taken) (c : Course) (message : List ℕ) (now : ℕ) (draws : List ℕ) → IsOneOf sessions t.request.session → c.taken ≡ Some t → Known s t → Early s t c
    → Unforged sessions c (Does (ToAccept message now draws)) → Live s t (after c (Does (ToAccept message now draws)))
early-accepts sessions s t c message now draws h is known early u = elim early.server [
  | inl r ↦ subst (λ (at : ServerStage). Live s t (server_heard c at message now draws)) (sym r.is) (replies-hears s t c message now draws early r)
  | inr o ↦
      subst (λ (at : ServerStage). AreMade sessions c (server_finds c.pair.setup at message now draws) → Live s t (server_heard c at message now draws)) (sym o.is)
      (offered-hears sessions s t c message now draws h is known early) u
]

-- ---- nothing is sent

spoke-as : (s : Start) (t : Taken) (c : Course) (end : InitMeans) (octets confounder : List ℕ) → Early s t c → ((Goes end ≡ client_start s) ⊎ Waiting s t (Goes end)) → Live s t (client_spoke c (Goes end) octets confounder)
spoke-as s t c end octets confounder early client = inr (inr (inl (record {
  client = client;
  server = elim early.server [
    | inl r ↦ inl (record { is = r.is; none = r.none })
    | inr o ↦ inr (record { is = o.is; theirs = o.theirs })
  ];
  silent = record { client_said = early.silent.client_said; client_read = early.silent.client_read; server_said = early.silent.server_said; server_read = early.silent.server_read };
  reply = early.reply;
  ours = early.ours;
})))

pub early-spoke : (s : Start) (t : Taken) (c : Course) (octets confounder : List ℕ) → Early s t c → Live s t (after c (Does (SendInit octets confounder)))
early-spoke s t c octets confounder early = elim early.client [
  | inl e ↦
      subst (λ (at : ClientAt). Live s t (client_spoke c at octets confounder)) (sym e)
      (spoke-as s t c (Asks s.wish (object_of s)) octets confounder early (inl refl))
  | inr w ↦
      subst (λ (at : ClientAt). Live s t (client_spoke c at octets confounder)) (sym w.is)
      (spoke-as s t c (Waits (client_agreed s w.done)) octets confounder early (inr (record { done = w.done; is = refl; keyed = w.keyed })))
]

pub early-said : (s : Start) (t : Taken) (c : Course) (octets confounder : List ℕ) → Early s t c → Live s t (after c (Does (SendAccept octets confounder)))
early-said s t c octets confounder early = elim early.server [
  | inl r ↦
      subst (λ (at : ServerStage). Live s t (server_spoke c at octets confounder)) (sym r.is) (inr (inr (inl (record {
        client = early.client;
        server = inl (record { is = refl; none = r.none });
        silent = record { client_said = early.silent.client_said; client_read = early.silent.client_read; server_said = early.silent.server_said; server_read = early.silent.server_read };
        reply = early.reply;
        ours = early.ours;
      }))))
  | inr o ↦
      subst (λ (at : ServerStage). Live s t (server_spoke c at octets confounder)) (sym o.is) (inr (inr (inl (record {
        client = early.client;
        server = inr (record { is = refl; theirs = o.theirs });
        silent = record { client_said = early.silent.client_said; client_read = early.silent.client_read; server_said = early.silent.server_said; server_read = early.silent.server_read };
        reply = early.reply;
        ours = early.ours;
      }))))
]
