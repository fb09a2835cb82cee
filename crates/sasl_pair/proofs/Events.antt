-- Each step leaves both ends at a stage, and so does each list of steps.
use Rattle.std.proofs.Common.{◌≡◌, inl, inr, ℕ, ◌*◌, ◌<◌, ◌∙◌, true, false, refl, sym, ap, subst, arith, List, [], ◌∷◌, ◌++◌, Option, Some}
use Rattle.std.specs.Prelude.{Result, Ok, Err}
use Rattle.krb_derive.specs.declared.key.Key.{Key}
use Rattle.krb_derive.specs.Making.{Making, Among, sealed_making}
use Rattle.krb_tokens.specs.declared.end.Side.{Side}
use Rattle.krb_tokens.specs.declared.end.Side.TheVariants.{Initiator, Acceptor}
use Rattle.krb_tokens.specs.End.{seal_usage}
use Rattle.ap_exchange.specs.declared.judged.Judged.{Judged}
use Rattle.ap_exchange.specs.Keys.{authenticator_usage, reply_usage}
use Rattle.ap_exchange.specs.Request.{authenticator_octets, number_stated}
use Rattle.ap_exchange.specs.Answer.{answer_making}
use Rattle.ap_exchange.specs.Laws.{JudgesBy, TakesBy}
use Rattle.ap_exchange.proofs.Found.{judges, takes}
use Rattle.spnego_core.specs.declared.setup.AcceptSetup.{AcceptSetup}
use Rattle.spnego_core.proofs.ReadBack.{Heard, heard}
use Rattle.sasl_layer.specs.declared.refusal.SaslRefusal.{SaslRefusal}
use Rattle.sasl_layer.specs.State.{LayerState}
use Rattle.sasl_gssapi.specs.declared.steps.Agreed.{Agreed}
use Rattle.sasl_gssapi.specs.declared.steps.Offer.{Offer}
use Rattle.sasl_gssapi.specs.declared.accept.SaslAccept.{SaslAccept}
use Rattle.sasl_gssapi.specs.declared.accept.SaslAccept.TheVariants as accepts
use Rattle.sasl_gssapi.specs.declared.accept.SaslAnswer.{SaslAnswer}
use Rattle.sasl_gssapi.specs.Steps.{unless_long, takes_offer}
use Rattle.sasl_gssapi.specs.Ends.{InitMeans, Asks, Waits, StepMeans}
use Rattle.sasl_gssapi.specs.Accepting.{accept_step}
use Rattle.sasl_pair.specs.declared.event.PairEvent.{PairEvent}
use Rattle.sasl_pair.specs.declared.event.PairEvent.TheVariants.{ToInit, ToAccept, SendInit, SendAccept}
use Rattle.sasl_pair.specs.declared.stage.ServerStage.{ServerStage}
use Rattle.sasl_pair.specs.declared.stage.ServerStage.TheVariants as servers
use Rattle.sasl_pair.specs.declared.event.PairHappened.{PairHappened}
use Rattle.sasl_pair.specs.Moves.{ClientAt, Goes, Stands, Over, PairAt, moves, loses, Comes, client_hears, client_gives, server_hears, server_gives, client_after, server_after}
use Rattle.sasl_pair.specs.Courses.{Start, object_of, IsSpelled, Taken, Course, course_of, Step, Does, Loses, choice_made, client_makes, client_gave, request_taken, answer_made, taken_on, server_heard, client_spoke, server_spoke, after, after_all, shown, init_finds, accept_finds, client_finds, server_finds, IsOneOf, Unforged, NoForgery, BothStand, Promised, SaslPair, IsPair, HistoryLaw}
use Rattle.sasl_pair.proofs.Parts.{layer-usage}
use Rattle.sasl_pair.proofs.Exchanges.{waits_for, TakesReply, asks, TakesRequest, asked, replied_to, offered_to}
use Rattle.sasl_pair.proofs.Stages.{own_request, client_start, server_agreed, is_asked, Known, Early, Both, Live, Going, Sole, Asking, Stage}
use Rattle.sasl_pair.proofs.Early.{served-with, AreMade, apart, early-hears, early-accepts, early-spoke, early-said}
use Rattle.sasl_pair.proofs.Late.{late-hears, late-accepts, late-spoke, late-said, both-hears, both-accepts, both-spoke, both-said, fronts}

-- ---- an end that is over stays so

client-over : (c : Course) (step : Step) → c.pair.client ≡ Over → (after c step).pair.client ≡ Over
client-over c (Does (ToInit message)) e = ap (λ (at : ClientAt). (client_hears at message).to) e
client-over c (Does (ToAccept message now draws)) e = e
client-over c (Does (SendInit octets confounder)) e = ap (λ (at : ClientAt). (client_gives at octets confounder).to) e
client-over c (Does (SendAccept octets confounder)) e = e
client-over c (Loses (ToInit message)) e = refl
client-over c (Loses (ToAccept message now draws)) e = e
client-over c (Loses (SendInit octets confounder)) e = refl
client-over c (Loses (SendAccept octets confounder)) e = e

server-over : (c : Course) (step : Step) → c.pair.server ≡ servers.Over → (after c step).pair.server ≡ servers.Over
server-over c (Does (ToInit message)) e = e
server-over c (Does (ToAccept message now draws)) e = ap (λ (at : ServerStage). (server_hears c.pair.setup at message now draws).to) e
server-over c (Does (SendInit octets confounder)) e = e
server-over c (Does (SendAccept octets confounder)) e = ap (λ (at : ServerStage). (server_gives at octets confounder).to) e
server-over c (Loses (ToInit message)) e = e
server-over c (Loses (ToAccept message now draws)) e = refl
server-over c (Loses (SendInit octets confounder)) e = e
server-over c (Loses (SendAccept octets confounder)) e = refl

-- ---- the request is taken once

true-false : {A : Type 0} → true ≡ false → A
true-false e = absurd (cc)

unasked-hears : (setup : AcceptSetup) (at : ServerStage) (message : List ℕ) (now : ℕ) (draws : List ℕ) → is_asked at ≡ false → is_asked (server_hears setup at message now draws).to ≡ false
unasked-hears setup (servers.Goes (accepts.Asked wish)) message now draws e = true-false e
unasked-hears setup (servers.Goes (accepts.Replied agreed)) message now draws e = elim (replied_to setup agreed message now draws) [
  | inl r ↦ ap (λ (a : Result SaslAnswer SaslRefusal). is_asked (server_after a).to) r.is
  | inr d ↦ ap (λ (a : Result SaslAnswer SaslRefusal). is_asked (server_after a).to) d.step
]
unasked-hears setup (servers.Goes (accepts.Offered agreed)) message now draws e = elim (offered_to setup agreed message now draws) [
  | inl r ↦ ap (λ (a : Result SaslAnswer SaslRefusal). is_asked (server_after a).to) r.is
  | inr d ↦ ap (λ (a : Result SaslAnswer SaslRefusal). is_asked (server_after a).to) d.step
]
unasked-hears setup (servers.Stands end) message now draws e = refl
unasked-hears setup servers.Over message now draws e = refl

unasked-gives : (at : ServerStage) (octets confounder : List ℕ) → is_asked at ≡ false → is_asked (server_gives at octets confounder).to ≡ false
unasked-gives (servers.Goes end) octets confounder e = e
unasked-gives (servers.Stands end) octets confounder e = refl
unasked-gives servers.Over octets confounder e = refl

unasked-after : (c : Course) (step : Step) → is_asked c.pair.server ≡ false → is_asked (after c step).pair.server ≡ false
unasked-after c (Does (ToInit message)) e = e
unasked-after c (Does (ToAccept message now draws)) e = unasked-hears c.pair.setup c.pair.server message now draws e
unasked-after c (Does (SendInit octets confounder)) e = e
unasked-after c (Does (SendAccept octets confounder)) e = unasked-gives c.pair.server octets confounder e
unasked-after c (Loses (ToInit message)) e = e
unasked-after c (Loses (ToAccept message now draws)) e = refl
unasked-after c (Loses (SendInit octets confounder)) e = e
unasked-after c (Loses (SendAccept octets confounder)) e = refl

taken-by : (before : Option Taken) (setup : AcceptSetup) (at : ServerStage) (message : List ℕ) (now : ℕ) (draws : List ℕ) → is_asked at ≡ false → taken_on before setup at message now draws ≡ before
taken-by before setup (servers.Goes (accepts.Asked wish)) message now draws e = true-false e
taken-by before setup (servers.Goes (accepts.Replied agreed)) message now draws e = refl
taken-by before setup (servers.Goes (accepts.Offered agreed)) message now draws e = refl
taken-by before setup (servers.Stands end) message now draws e = refl
taken-by before setup servers.Over message now draws e = refl

taken-stays : (c : Course) (step : Step) → is_asked c.pair.server ≡ false → (after c step).taken ≡ c.taken
taken-stays c (Does (ToInit message)) e = refl
taken-stays c (Does (ToAccept message now draws)) e = taken-by c.taken c.pair.setup c.pair.server message now draws e
taken-stays c (Does (SendInit octets confounder)) e = refl
taken-stays c (Does (SendAccept octets confounder)) e = refl
taken-stays c (Loses event) e = refl

-- ---- from the request on

live-after : (sessions : List Key) (s : Start) (t : Taken) (c : Course) (step : Step) → IsOneOf sessions t.request.session → c.taken ≡ Some t → Known s t → Live s t c
    → Unforged sessions c step → Live s t (after c step)
live-after sessions s t c step h is known (inl e) u = inl (client-over c step e)
live-after sessions s t c step h is known (inr (inl e)) u = inr (inl (server-over c step e))
live-after sessions s t c (Loses (ToInit message)) h is known live u = inl refl
live-after sessions s t c (Loses (ToAccept message now draws)) h is known live u = inr (inl refl)
live-after sessions s t c (Loses (SendInit octets confounder)) h is known live u = inl refl
live-after sessions s t c (Loses (SendAccept octets confounder)) h is known live u = inr (inl refl)
live-after sessions s t c (Does (ToInit message)) h is known (inr (inr (inl early))) u = early-hears sessions s t c message h is known early u
live-after sessions s t c (Does (ToAccept message now draws)) h is known (inr (inr (inl early))) u = early-accepts sessions s t c message now draws h is known early u
live-after sessions s t c (Does (SendInit octets confounder)) h is known (inr (inr (inl early))) u = early-spoke s t c octets confounder early
live-after sessions s t c (Does (SendAccept octets confounder)) h is known (inr (inr (inl early))) u = early-said s t c octets confounder early
live-after sessions s t c (Does (ToInit message)) h is known (inr (inr (inr (inl late)))) u = late-hears sessions s t c message h is late u
live-after sessions s t c (Does (ToAccept message now draws)) h is known (inr (inr (inr (inl late)))) u = late-accepts sessions s t c message now draws h is known late u
live-after sessions s t c (Does (SendInit octets confounder)) h is known (inr (inr (inr (inl late)))) u = late-spoke s t c octets confounder late
live-after sessions s t c (Does (SendAccept octets confounder)) h is known (inr (inr (inr (inl late)))) u = late-said s t c octets confounder late
live-after sessions s t c (Does (ToInit message)) h is known (inr (inr (inr (inr both)))) u = both-hears sessions s t c message h is both u
live-after sessions s t c (Does (ToAccept message now draws)) h is known (inr (inr (inr (inr both)))) u = both-accepts sessions s t c message now draws h is both u
live-after sessions s t c (Does (SendInit octets confounder)) h is known (inr (inr (inr (inr both)))) u = both-spoke s t c octets confounder both
live-after sessions s t c (Does (SendAccept octets confounder)) h is known (inr (inr (inr (inr both)))) u = both-said s t c octets confounder both

going-after : (sessions : List Key) (s : Start) (c : Course) (step : Step) → Going sessions s c → Unforged sessions c step → Going sessions s (after c step)
going-after sessions s c step g u = record {
  taken = g.taken;
  taken_is = taken-stays c step g.unasked ∙ g.taken_is;
  unasked = unasked-after c step g.unasked;
  live = λ h. ((g.live h).0, live-after sessions s g.taken c step h g.taken_is (g.live h).0 (g.live h).1 u);
}

-- ---- before the request

seal-not : (side : Side) → seal_usage side ≡ 11 → ⊥
seal-not Initiator e = let z : ◌≡◌ {A = ℕ} 24 11 = e in omega (arith, z)
seal-not Acceptor e = let z : ◌≡◌ {A = ℕ} 22 11 = e in omega (arith, z)

choice-usage : (agreed : Agreed) (r : Result Offer SaslRefusal) (m : Making) → Among (choice_made agreed r) m → m.usage ≡ 11 → ⊥
choice-usage agreed (Ok offer) m (inl e) usage = let z : ◌≡◌ {A = ℕ} 24 11 = sym (ap (λ (x : Making). x.usage) e) ∙ usage in omega (arith, z)
choice-usage agreed (Ok offer) m (inr a) usage = a
choice-usage agreed (Err refusal) m a usage = a

client-usage : (at : ClientAt) (message : List ℕ) (m : Making) → Among (client_makes at message) m → m.usage ≡ 11 → ⊥
client-usage (Goes (Asks wish o)) message m a usage = a
client-usage (Goes (Waits agreed)) message m a usage = choice-usage agreed (unless_long message (takes_offer agreed message)) m a usage
client-usage (Stands end) message m a usage = a
client-usage Over message m a usage = a

gave-usage : (at : ClientAt) (octets confounder : List ℕ) (m : Making) → Among (client_gave at octets confounder) m → m.usage ≡ 11 → ⊥
gave-usage (Goes end) octets confounder m a usage = a
gave-usage (Stands end) octets confounder m a usage = seal-not end.side (sym (layer-usage end octets confounder m a) ∙ usage)
gave-usage Over octets confounder m a usage = a

own-more : (s : Start) (made makings : List Making) → ((m : Making) → Among made m → m.usage ≡ 11 → ⊥) → ((m : Making) → Among makings m → m.usage ≡ 11 → m ≡ own_request s)
    → (m : Making) → Among (made ++ makings) m → m.usage ≡ 11 → m ≡ own_request s
own-more s [] makings none own m a usage = own m a usage
own-more s (x ∷ made) makings none own m (inl e) usage = absurd (none m (inl e) usage)
own-more s (x ∷ made) makings none own m (inr a) usage = own-more s made makings (λ n b. none n (inr b)) own m a usage

sole-usage : (s : Start) (makings : List Making) (m : Making) → makings ≡ own_request s ∷ [] → Among makings m → m.usage ≡ 11
sole-usage s makings m e a = elim (subst (λ (ms : List Making). Among ms m) e a) [
  | inl f ↦ ap (λ (x : Making). x.usage) f
  | inr f ↦ absurd f
]

-- the reply can't come before the request was taken
no-reply : (sessions : List Key) (s : Start) (c : Course) (message : List ℕ) → IsOneOf sessions s.credential.session → Sole s c → AreMade sessions c (client_finds (client_start s) message)
    → TakesReply s message → ⊥
no-reply sessions s c message g sole u d =
    let end = waits_for s in
    let b : TakesBy end message d.done = takes end message d.done d.taken in
    let m : Making = sealed_making end.session reply_usage b.octets in
    let found : Among (client_finds (client_start s) message) m =
    subst (λ (r : Result StepMeans SaslRefusal). Among (shown r (init_finds (Asks s.wish (object_of s)) message)) m) (sym d.step)
    (subst (λ (ms : List Making). Among ms m) (sym (d.finds ∙ b.finds)) (inl refl)) in
    let z : ◌≡◌ {A = ℕ} 12 11 = sole-usage s c.makings m sole.makings (u m found (inl g)) in
    omega (arith, z)

sole-hears : (sessions : List Key) (s : Start) (c : Course) (message : List ℕ) → IsOneOf sessions s.credential.session → Sole s c → Unforged sessions c (Does (ToInit message))
    → (after c (Does (ToInit message))).pair.client ≡ Over
sole-hears sessions s c message g sole u = elim (asks s message) [
  | inl r ↦ ap (λ (at : ClientAt). (client_hears at message).to) sole.client ∙ ap (λ (a : Result StepMeans SaslRefusal). (client_after a).to) r.is
  | inr d ↦ absurd (no-reply sessions s c message g sole (subst (λ (at : ClientAt). AreMade sessions c (client_finds at message)) sole.client u) d)
]

asking-hears : (sessions : List Key) (s : Start) (c : Course) (message : List ℕ) → Asking sessions s c → Unforged sessions c (Does (ToInit message)) → Asking sessions s (after c (Does (ToInit message)))
asking-hears sessions s c message a u = record {
  server = a.server;
  own = own-more s (client_makes c.pair.client message) c.makings (client-usage c.pair.client message) a.own;
  waits = λ g. elim (a.waits g) [
    | inl e ↦ inl (client-over c (Does (ToInit message)) e)
    | inr sole ↦ inl (sole-hears sessions s c message g sole u)
  ];
}

sole-spoke : (s : Start) (c : Course) (octets confounder : List ℕ) → Sole s c → Sole s (client_spoke c (client_start s) octets confounder)
sole-spoke s c octets confounder sole = record {
  client = refl;
  makings = sole.makings;
  silent = record { client_said = sole.silent.client_said; client_read = sole.silent.client_read; server_said = sole.silent.server_said; server_read = sole.silent.server_read };
}

asking-spoke : (sessions : List Key) (s : Start) (c : Course) (octets confounder : List ℕ) → Asking sessions s c → Asking sessions s (after c (Does (SendInit octets confounder)))
asking-spoke sessions s c octets confounder a = record {
  server = a.server;
  own = own-more s (client_gave c.pair.client octets confounder) c.makings (gave-usage c.pair.client octets confounder) a.own;
  waits = λ g. elim (a.waits g) [
    | inl e ↦ inl (client-over c (Does (SendInit octets confounder)) e)
    | inr sole ↦ inr (subst (λ (at : ClientAt). Sole s (client_spoke c at octets confounder)) (sym sole.client) (sole-spoke s c octets confounder sole))
  ];
}

sole-again : (s : Start) (c d : Course) → Sole s c → d.pair.client ≡ c.pair.client → d.makings ≡ c.makings → d.client_said ≡ c.client_said → d.client_read ≡ c.client_read → d.server_said ≡ c.server_said
    → d.server_read ≡ c.server_read → Sole s d
sole-again s c d sole a b e f g h = record {
  client = a ∙ sole.client;
  makings = b ∙ sole.makings;
  silent = record { client_said = e ∙ sole.silent.client_said; client_read = f ∙ sole.silent.client_read; server_said = g ∙ sole.silent.server_said; server_read = h ∙ sole.silent.server_read };
}

asking-said : (sessions : List Key) (s : Start) (c : Course) (octets confounder : List ℕ) → Asking sessions s c → Asking sessions s (after c (Does (SendAccept octets confounder)))
asking-said sessions s c octets confounder a =
    subst (λ (at : ServerStage). Asking sessions s (server_spoke c at octets confounder)) (sym a.server) (record {
      server = refl;
      own = a.own;
      waits = λ g. elim (a.waits g) [
        | inl e ↦ inl e
        | inr sole ↦ inr (sole-again s c _ sole refl refl refl refl refl refl)
      ];
    })

-- the request that is taken
known-by : (s : Start) (setup : AcceptSetup) (message : List ℕ) (now : ℕ) (request : Judged) → IsSpelled s → (b : JudgesBy setup.keytab setup.own setup.bindings message request)
    → sealed_making b.x.session authenticator_usage b.x.octets ≡ own_request s → Known s (record { request = request; draws = [] })
known-by s setup message now request spelled b is =
    let octets : b.x.octets ≡ authenticator_octets s.credential s.ask.stamp s.ask.draws s.ask.bindings = ap (λ (m : Making). m.octets) is in
    let h : Heard s.credential s.ask.stamp s.ask.bindings b.x.said request.hash =
    heard s.credential s.ask.stamp s.ask.draws s.ask.bindings b.x.octets b.x.said request.hash spelled octets b.says b.hash in
    let stamp : request.stamp ≡ s.ask.stamp = ap (λ (j : Judged). j.stamp) b.kept ∙ h.stamp_is in
    record {
      session = ap (λ (j : Judged). j.session) b.kept ∙ ap (λ (m : Making). m.key) is;
      first = ap (λ (j : Judged). j.first) b.kept ∙ ap number_stated h.number;
      small = subst (λ (n : ℕ). n < 253402300800 * 1000000) (sym stamp) h.small;
    }

early-from : (s : Start) (c : Course) (t : Taken) (at : ServerStage) → at ≡ servers.Goes (accepts.Replied (server_agreed s t)) → Sole s c
    → Early s t (record c { pair = record c.pair { server = at }; taken = Some t; makings = answer_making t.request t.draws ∷ c.makings })
early-from s c t at e sole = record {
  client = inl sole.client;
  server = inl (record {
    is = e;
    none = λ m a usage. elim a [
      | inl f ↦ let z : ◌≡◌ {A = ℕ} 12 22 = sym (ap (λ (x : Making). x.usage) f) ∙ usage in omega (arith, z)
      | inr b ↦ let z : ◌≡◌ {A = ℕ} 11 22 = sym (sole-usage s c.makings m sole.makings b) ∙ usage in omega (arith, z)
    ];
  });
  silent = record { client_said = sole.silent.client_said; client_read = sole.silent.client_read; server_said = sole.silent.server_said; server_read = sole.silent.server_read };
  reply = λ m a usage. elim a [
    | inl f ↦ f
    | inr b ↦ apart m 11 12 (sole-usage s c.makings m sole.makings b) usage (λ z. omega (arith, z))
  ];
  ours = λ m a usage. elim a [
    | inl f ↦ let z : ◌≡◌ {A = ℕ} 12 24 = sym (ap (λ (x : Making). x.usage) f) ∙ usage in omega (arith, z)
    | inr b ↦ let z : ◌≡◌ {A = ℕ} 11 24 = sym (sole-usage s c.makings m sole.makings b) ∙ usage in omega (arith, z)
  ];
}

going-from : (sessions : List Key) (s : Start) (c : Course) (message : List ℕ) (now : ℕ) (draws : List ℕ) → IsSpelled s → Asking sessions s c
    → AreMade sessions c (server_finds c.pair.setup (servers.Goes (accepts.Asked s.server_wish)) message now draws) → (d : TakesRequest c.pair.setup s.server_wish message now draws)
    → Going sessions s (served-with c (accept_step c.pair.setup (accepts.Asked s.server_wish) message now draws) (request_taken c.pair.setup message now draws) (answer_made (request_taken c.pair.setup message now draws)))
going-from sessions s c message now draws spelled a u d =
    let t : Taken = record { request = d.request; draws = draws } in
    subst (λ (o : Option Taken). Going sessions s (served-with c (accept_step c.pair.setup (accepts.Asked s.server_wish) message now draws) o (answer_made o))) (sym d.taken)
    (subst (λ (r : Result SaslAnswer SaslRefusal). Going sessions s (served-with c r (Some t) (answer_made (Some t)))) (sym d.step) (record {
      taken = t;
      taken_is = refl;
      unasked = refl;
      live = λ h.
          let b : JudgesBy c.pair.setup.keytab c.pair.setup.own c.pair.setup.bindings message d.request = judges c.pair.setup.keytab c.pair.setup.own now c.pair.setup.bindings message d.request d.judged_is in
          let m : Making = sealed_making b.x.session authenticator_usage b.x.octets in
          let found : Among (server_finds c.pair.setup (servers.Goes (accepts.Asked s.server_wish)) message now draws) m =
          subst (λ (r : Result SaslAnswer SaslRefusal). Among (shown r (accept_finds c.pair.setup (accepts.Asked s.server_wish) message)) m) (sym d.step)
          (subst (λ (ms : List Making). Among ms m) (sym b.finds) (inl refl)) in
          let session : d.request.session ≡ b.x.session = ap (λ (j : Judged). j.session) b.kept in
          let is : m ≡ own_request s = a.own m (u m found (inl (subst (IsOneOf sessions) session h))) refl in
          let k = known-by s c.pair.setup message now d.request spelled b is in
          let known : Known s t = record { session = k.session; first = k.first; small = k.small } in (
            known,
            elim (a.waits (subst (IsOneOf sessions) known.session h)) [
              | inl e ↦ inl e
              | inr sole ↦ inr (inr (inl (early-from s c t (servers.Goes (accepts.Replied (server_agreed s t))) refl sole)))
            ],
          );
    }))

asked-takes : (sessions : List Key) (s : Start) (c : Course) (message : List ℕ) (now : ℕ) (draws : List ℕ) → IsSpelled s → Asking sessions s c
    → AreMade sessions c (server_finds c.pair.setup (servers.Goes (accepts.Asked s.server_wish)) message now draws)
    → Stage sessions s (server_heard c (servers.Goes (accepts.Asked s.server_wish)) message now draws)
asked-takes sessions s c message now draws spelled a u = elim (asked c.pair.setup s.server_wish message now draws) [
  | inl f ↦ inr (inl (ap (λ (r : Result SaslAnswer SaslRefusal). (server_after r).to) f.is))
  | inr d ↦ inr (inr (going-from sessions s c message now draws spelled a u d))
]

asking-accepts : (sessions : List Key) (s : Start) (c : Course) (message : List ℕ) (now : ℕ) (draws : List ℕ) → IsSpelled s → Asking sessions s c → Unforged sessions c (Does (ToAccept message now draws))
    → Stage sessions s (after c (Does (ToAccept message now draws)))
asking-accepts sessions s c message now draws spelled a u =
    subst (λ (at : ServerStage). AreMade sessions c (server_finds c.pair.setup at message now draws) → Stage sessions s (server_heard c at message now draws)) (sym a.server)
    (asked-takes sessions s c message now draws spelled a) u

client-lost : (sessions : List Key) (s : Start) (c : Course) → Asking sessions s c → Asking sessions s (record c { pair = record c.pair { client = Over } })
client-lost sessions s c a = record { server = a.server; own = a.own; waits = λ g. inl refl }

asking-after : (sessions : List Key) (s : Start) (c : Course) (step : Step) → IsSpelled s → Asking sessions s c → Unforged sessions c step → Stage sessions s (after c step)
asking-after sessions s c (Does (ToInit message)) spelled a u = inl (asking-hears sessions s c message a u)
asking-after sessions s c (Does (ToAccept message now draws)) spelled a u = asking-accepts sessions s c message now draws spelled a u
asking-after sessions s c (Does (SendInit octets confounder)) spelled a u = inl (asking-spoke sessions s c octets confounder a)
asking-after sessions s c (Does (SendAccept octets confounder)) spelled a u = inl (asking-said sessions s c octets confounder a)
asking-after sessions s c (Loses (ToInit message)) spelled a u = inl (client-lost sessions s c a)
asking-after sessions s c (Loses (ToAccept message now draws)) spelled a u = inr (inl refl)
asking-after sessions s c (Loses (SendInit octets confounder)) spelled a u = inl (client-lost sessions s c a)
asking-after sessions s c (Loses (SendAccept octets confounder)) spelled a u = inr (inl refl)

-- ---- a list of steps

stage-after : (sessions : List Key) (s : Start) (c : Course) (step : Step) → IsSpelled s → Stage sessions s c → Unforged sessions c step → Stage sessions s (after c step)
stage-after sessions s c step spelled (inl a) u = asking-after sessions s c step spelled a u
stage-after sessions s c step spelled (inr (inl e)) u = inr (inl (server-over c step e))
stage-after sessions s c step spelled (inr (inr g)) u = inr (inr (going-after sessions s c step g u))

stage-all : (sessions : List Key) (s : Start) (c : Course) (steps : List Step) → IsSpelled s → Stage sessions s c → NoForgery sessions c steps → Stage sessions s (after_all c steps)
stage-all sessions s c [] spelled stage unforged = stage
stage-all sessions s c (step ∷ later) spelled stage unforged = stage-all sessions s (after c step) later spelled (stage-after sessions s c step spelled stage unforged.0) unforged.1

at-first : (sessions : List Key) (s : Start) → Stage sessions s (course_of s)
at-first sessions s = inl (record {
  server = refl;
  own = λ m a usage. elim a [
    | inl e ↦ e
    | inr b ↦ absurd b
  ];
  waits = λ g. inr (record { client = refl; makings = refl; silent = record { client_said = refl; client_read = refl; server_said = refl; server_read = refl } });
})

-- ---- the theorem

server-apart : {A : Type 0} (at : ServerStage) (end : LayerState) (go : SaslAccept) → at ≡ servers.Goes go → at ≡ servers.Stands end → A
server-apart at end go e f = absurd (cc)

server-lost : {A : Type 0} (at : ServerStage) (end : LayerState) → at ≡ servers.Over → at ≡ servers.Stands end → A
server-lost at end e f = absurd (cc)

client-apart : {A : Type 0} (at : ClientAt) (end : LayerState) (go : InitMeans) → at ≡ Goes go → at ≡ Stands end → A
client-apart at end go e f = absurd (cc)

client-gone : {A : Type 0} (at : ClientAt) (end : LayerState) → at ≡ Over → at ≡ Stands end → A
client-gone at end e f = absurd (cc)

client-same : (at : ClientAt) (a b : LayerState) → at ≡ Stands a → at ≡ Stands b → a ≡ b
client-same at a b e f = cc

server-same : (at : ServerStage) (a b : LayerState) → at ≡ servers.Stands a → at ≡ servers.Stands b → a ≡ b
server-same at a b e f = cc

taken-same : (o : Option Taken) (a b : Taken) → o ≡ Some a → o ≡ Some b → a ≡ b
taken-same o a b e f = cc

both-promised : (t : Taken) (c : Course) (client server : LayerState) (b : Both t c) → c.pair.client ≡ Stands client → c.pair.server ≡ servers.Stands server → Promised c client server
both-promised t c client server b e f =
    subst (λ (x : LayerState). Promised c x server) (client-same c.pair.client b.one client b.client e)
    (subst (λ (y : LayerState). Promised c b.one y) (server-same c.pair.server b.two server b.server f)
    (record { agree = b.agree; to_server = λ n. (fronts t c b n).0; to_client = λ n. (fronts t c b n).1 }))

live-promised : (s : Start) (t : Taken) (c : Course) (client server : LayerState) → Live s t c → c.pair.client ≡ Stands client → c.pair.server ≡ servers.Stands server → Promised c client server
live-promised s t c client server (inl o) e f = client-gone c.pair.client client o e
live-promised s t c client server (inr (inl o)) e f = server-lost c.pair.server server o f
live-promised s t c client server (inr (inr (inl early))) e f = elim early.client [
  | inl g ↦ client-apart c.pair.client client (Asks s.wish (object_of s)) g e
  | inr w ↦ client-apart c.pair.client client (Waits (record { wish = s.wish; done = w.done })) w.is e
]
live-promised s t c client server (inr (inr (inr (inl late)))) e f = server-apart c.pair.server server (accepts.Offered (server_agreed s t)) late.server.is f
live-promised s t c client server (inr (inr (inr (inr both)))) e f = both-promised t c client server both e f

stage-promised : (sessions : List Key) (s : Start) (c : Course) (client server : LayerState) → Stage sessions s c → BothStand sessions c client server → Promised c client server
stage-promised sessions s c client server (inl a) b = server-apart c.pair.server server (accepts.Asked s.server_wish) a.server b.server_is
stage-promised sessions s c client server (inr (inl e)) b = server-lost c.pair.server server e b.server_is
stage-promised sessions s c client server (inr (inr g)) b =
    live-promised s g.taken c client server
    (g.live (subst (λ (t : Taken). IsOneOf sessions t.request.session) (sym (taken-same c.taken g.taken b.taken g.taken_is b.taken_is)) b.guarded)).1 b.client_is b.server_is

pub sasl_pair : SaslPair
sasl_pair sessions s steps client server spelled unforged both =
    stage-promised sessions s (after_all (course_of s) steps) client server (stage-all sessions s (course_of s) steps spelled (at-first sessions s) unforged) both

-- ---- the ends of a course

all-append : (c : Course) (steps : List Step) (step : Step) → after_all c (steps ++ step ∷ []) ≡ after (after_all c steps) step
all-append c [] step = refl
all-append c (first ∷ steps) step = all-append (after c first) steps step

does-so : (c : Course) (event : PairEvent) → (moves c.pair event).to ≡ (after c (Does event)).pair
does-so c (ToInit message) = refl
does-so c (ToAccept message now draws) = refl
does-so c (SendInit octets confounder) = refl
does-so c (SendAccept octets confounder) = refl

loses-so : (c : Course) (event : PairEvent) → loses c.pair event ≡ (after c (Loses event)).pair
loses-so c event = refl

goes-on : (s : Start) (old new : PairAt) (event : PairEvent) (happened : PairHappened) → IsPair s old → Comes old event happened new → IsPair s new
goes-on s old new event happened p (inl came) = record {
  steps = p.steps ++ Does event ∷ [];
  is = came.0 ∙ (ap (λ (x : PairAt). (moves x event).to) p.is ∙ (does-so (after_all (course_of s) p.steps) event ∙ ap (λ (c : Course). c.pair) (sym (all-append (course_of s) p.steps (Does event)))));
}
goes-on s old new event happened p (inr came) = record {
  steps = p.steps ++ Loses event ∷ [];
  is = came.0 ∙ (ap (λ (x : PairAt). loses x event) p.is ∙ (loses-so (after_all (course_of s) p.steps) event ∙ ap (λ (c : Course). c.pair) (sym (all-append (course_of s) p.steps (Loses event)))));
}

pub history_law : HistoryLaw
history_law = record { begins = λ s. record { steps = []; is = refl }; goes = goes-on }
