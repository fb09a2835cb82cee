-- Events once the client is done, and once both are.
use Rattle.std.proofs.Common.{◌≡◌, ◌≢◌, ◌⊎◌, inl, inr, ℕ, ◌+◌, ◌<◌, ◌^◌, ◌∙◌, Bool, true, false, refl, sym, ap, subst, arith, List, [], length, Some}
use Rattle.std.specs.Prelude.{Result, Ok}
use Rattle.krb_derive.specs.declared.key.Key.{Key}
use Rattle.krb_derive.specs.Making.{Making, Among}
use Rattle.krb_tokens.specs.declared.end.TokenEnd.{TokenEnd}
use Rattle.krb_tokens.specs.declared.end.Side.{Side}
use Rattle.krb_tokens.specs.declared.end.Side.TheVariants.{Initiator}
use Rattle.krb_tokens.specs.End.{seal_usage}
use Rattle.krb_tokens.specs.Makings.{wrap_making}
use Rattle.sasl_layer.specs.declared.layer.Layer.{Layer}
use Rattle.sasl_layer.specs.declared.layer.Layer.TheVariants.{Bare, Signed, Sealed}
use Rattle.sasl_layer.specs.declared.facts.LayerFacts.{LayerFacts}
use Rattle.sasl_layer.specs.declared.refusal.SaslRefusal.{SaslRefusal}
use Rattle.sasl_layer.specs.State.{LayerState}
use Rattle.sasl_layer.specs.Layered.{end_of, end_under}
use Rattle.sasl_layer.specs.Lines.{IsFront, Line, AreItsOwn, WereMade}
use Rattle.sasl_layer.specs.Runs.{Two, layer_of, Stands as StandsTogether}
use Rattle.sasl_layer.proofs.Runs.{facing-back}
use Rattle.sasl_layer.proofs.Told.{first-apart, same-first}
use Rattle.sasl_gssapi.specs.declared.accept.SaslAccept.TheVariants as accepts
use Rattle.sasl_gssapi.specs.declared.accept.SaslAnswer.{SaslAnswer}
use Rattle.sasl_gssapi.specs.declared.accept.SaslAnswer.TheVariants as answers
use Rattle.sasl_gssapi.specs.Steps.{takes_choice}
use Rattle.sasl_gssapi.specs.Agreeing.{BothDone, AgreeOn}
use Rattle.sasl_gssapi.proofs.Agreeing.{Answered as Chosen, answered-by, own-by, agree}
use Rattle.sasl_pair.specs.declared.event.PairEvent.TheVariants.{ToInit, ToAccept, SendInit, SendAccept}
use Rattle.sasl_pair.specs.declared.stage.ServerStage.{ServerStage}
use Rattle.sasl_pair.specs.declared.stage.ServerStage.TheVariants as servers
use Rattle.sasl_pair.specs.Moves.{ClientAt, Stands, reads, gives, server_after}
use Rattle.sasl_pair.specs.Courses.{Start, Taken, Course, Does, layer_makes, layer_finds, client_heard, server_heard, client_spoke, server_spoke, after, client_finds, server_finds, IsOneOf, Unforged}
use Rattle.sasl_pair.proofs.Parts.{among-more, among-either, layer-key, layer-usage, layer-is, layer-bare, layer-small, reads-facts, reads-side, gives-facts, gives-side, left-heard, right-heard, left-spoke, right-spoke}
use Rattle.sasl_pair.proofs.Exchanges.{offered_to}
use Rattle.sasl_pair.proofs.Early.{served-with, AreMade, apart, not-24-22, built, choice-made}
use Rattle.sasl_pair.proofs.Stages.{server_done, server_end, server_agreed, client_agreed, offer_words, standin, two_of, Known, Late, Both, Live}

-- ---- words

layer-cases : (l : Layer) → (l ≡ Bare) ⊎ ((sealed : Bool) × (l ≡ layer_of sealed))
layer-cases Bare = inl refl
layer-cases Signed = inr (false, refl)
layer-cases Sealed = inr (true, refl)

layer-same : (a b : LayerState) → a.facts ≡ b.facts → a.facts.layer ≡ b.facts.layer
layer-same a b e = ap (λ (f : LayerFacts). f.layer) e

agree-left : (one other two : LayerState) → other.facts ≡ one.facts → AgreeOn one two → AgreeOn other two
agree-left one other two e a = record {
  layer = layer-same other one e ∙ a.layer;
  to_server = λ n. ap (λ (f : LayerFacts). f.outgoing) e ∙ a.to_server (λ b. n (layer-same other one e ∙ b));
  to_client = λ n. a.to_client (λ b. n (layer-same other one e ∙ b)) ∙ sym (ap (λ (f : LayerFacts). f.incoming) e);
}

agree-right : (one two other : LayerState) → other.facts ≡ two.facts → AgreeOn one two → AgreeOn one other
agree-right one two other e a = record {
  layer = a.layer ∙ sym (layer-same other two e);
  to_server = λ n. a.to_server n ∙ sym (ap (λ (f : LayerFacts). f.incoming) e);
  to_client = λ n. ap (λ (f : LayerFacts). f.outgoing) e ∙ a.to_client n;
}

same-sender : (a b : LayerState) → a.facts ≡ b.facts → a.side ≡ b.side → end_of a.facts.done a.side ≡ end_of b.facts.done b.side
same-sender a b f sd = ap (λ (x : LayerFacts). end_of x.done a.side) f ∙ ap (λ (x : Side). end_of b.facts.done x) sd

-- what is found under a layer was made
layer-made : (sessions : List Key) (t : Taken) (c : Course) (end : LayerState) (message : List ℕ) → IsOneOf sessions t.request.session → c.taken ≡ Some t → end.facts.done.key ≡ (server_done t).key
    → AreMade sessions c (layer_finds end message) → (m : Making) → Among (layer_finds end message) m → Among c.makings m
layer-made sessions t c end message h is key u m a = u m a (built sessions t c m.key is h (sym (layer-key end message m a ∙ key)))

-- ---- the client is done: it reads

late-reads : (sessions : List Key) (s : Start) (t : Taken) (c : Course) (message : List ℕ) → IsOneOf sessions t.request.session → c.taken ≡ Some t → (l : Late s t c)
    → AreMade sessions c (layer_finds l.one message) → Late s t (client_heard c (Stands l.one) message)
late-reads sessions s t c message h is l u =
    let one : LayerState = (reads l.one message).to in
    let facts : one.facts ≡ l.one.facts = reads-facts l.one message in
    record {
      done = l.done;
      keyed = l.keyed;
      offer = l.offer;
      taken = l.taken;
      took = l.took;
      made = l.made;
      one = one;
      client = refl;
      facts = facts ∙ l.facts;
      key = ap (λ (f : LayerFacts). f.done.key) facts ∙ l.key;
      sender = same-sender one l.one facts (reads-side l.one message) ∙ l.sender;
      server = record { is = l.server.is; theirs = l.server.theirs };
      server_said = l.server_said;
      server_read = l.server_read;
      only = l.only;
      bare = λ e. l.bare (sym (layer-same one l.one facts) ∙ e);
      holds = λ sealed layer.
          subst (λ (f : LayerFacts). StandsTogether sealed (two_of (client_heard c (Stands l.one) message) one (standin t f))) (sym facts)
          (left-heard sealed (two_of c l.one (standin t l.one.facts)) message (l.holds sealed (sym (layer-same one l.one facts) ∙ layer)) (layer-made sessions t c l.one message h is l.key u));
    }

pub late-hears : (sessions : List Key) (s : Start) (t : Taken) (c : Course) (message : List ℕ) → IsOneOf sessions t.request.session → c.taken ≡ Some t → Late s t c
    → Unforged sessions c (Does (ToInit message)) → Live s t (after c (Does (ToInit message)))
late-hears sessions s t c message h is l u =
    subst (λ (at : ClientAt). AreMade sessions c (client_finds at message) → Live s t (client_heard c at message)) (sym l.client)
    (λ made. inr (inr (inr (inl (late-reads sessions s t c message h is l made))))) u

-- ---- it sends

-- what it hands out isn't its choice
not-first : (l : LayerState) (w : Two) (sealed : Bool) (end : TokenEnd) (octets confounder other : List ℕ) → StandsTogether sealed w → w.left ≡ l → l.facts.layer ≡ layer_of sealed
    → Among (layer_makes l octets confounder) (wrap_making end 0 false other) → ⊥
not-first l w sealed end octets confounder other st same layer a =
    let number : l.sends ≡ length w.left_said + 1 = sym (ap (λ (x : LayerState). x.sends) same) ∙ st.left_sends in
    let is : wrap_making end 0 false other ≡ wrap_making (end_under l) l.sends sealed octets = layer-is sealed l octets confounder (wrap_making end 0 false other) layer a in
    let small : l.sends < 2 ^ 64 = layer-small l octets confounder (wrap_making end 0 false other) a in
    first-apart end (end_under l) (length w.left_said) sealed other octets (omega (arith, number, small)) (is ∙ ap (λ (n : ℕ). wrap_making (end_under l) n sealed octets) number)

late-gives : (s : Start) (t : Taken) (c : Course) (octets confounder : List ℕ) → (l : Late s t c) → Late s t (client_spoke c (Stands l.one) octets confounder)
late-gives s t c octets confounder l =
    let one : LayerState = (gives l.one octets confounder).to in
    let facts : one.facts ≡ l.one.facts = gives-facts l.one octets confounder in
    let made : List Making = layer_makes l.one octets confounder in
    let side : l.one.side ≡ Initiator = ap (λ (e : TokenEnd). e.side) l.sender in
    record {
      done = l.done;
      keyed = l.keyed;
      offer = l.offer;
      taken = l.taken;
      took = l.took;
      made = λ m a. among-more made c.makings m (l.made m a);
      one = one;
      client = refl;
      facts = facts ∙ l.facts;
      key = ap (λ (f : LayerFacts). f.done.key) facts ∙ l.key;
      sender = same-sender one l.one facts (gives-side l.one octets confounder) ∙ l.sender;
      server = record {
        is = l.server.is;
        theirs = λ m a usage. elim (among-either made c.makings m a) [
          | inl b ↦ apart m 24 22 (layer-usage l.one octets confounder m b ∙ ap seal_usage side) usage not-24-22
          | inr b ↦ l.server.theirs m b usage
        ];
      };
      server_said = l.server_said;
      server_read = l.server_read;
      only = λ other a. elim (among-either made c.makings (wrap_making (end_of l.done Initiator) 0 false other) a) [
        | inl b ↦ elim (layer-cases l.one.facts.layer) [
          | inl e ↦ absurd (layer-bare l.one octets confounder (wrap_making (end_of l.done Initiator) 0 false other) e b)
          | inr e ↦
              absurd (not-first l.one (two_of c l.one (standin t l.one.facts)) e.0 (end_of l.done Initiator) octets confounder other (l.holds e.0 e.1) refl e.1 b)
        ]
        | inr b ↦ l.only other b
      ];
      bare = λ e m a key usage. elim (among-either made c.makings m a) [
        | inl b ↦ absurd (layer-bare l.one octets confounder m (sym (layer-same one l.one facts) ∙ e) b)
        | inr b ↦ l.bare (sym (layer-same one l.one facts) ∙ e) m b key usage
      ];
      holds = λ sealed layer.
          subst (λ (f : LayerFacts). StandsTogether sealed (two_of (client_spoke c (Stands l.one) octets confounder) one (standin t f))) (sym facts)
          (left-spoke sealed (two_of c l.one (standin t l.one.facts)) octets confounder (l.holds sealed (sym (layer-same one l.one facts) ∙ layer)));
    }

pub late-spoke : (s : Start) (t : Taken) (c : Course) (octets confounder : List ℕ) → Late s t c → Live s t (after c (Does (SendInit octets confounder)))
late-spoke s t c octets confounder l =
    subst (λ (at : ClientAt). Live s t (client_spoke c at octets confounder)) (sym l.client) (inr (inr (inr (inl (late-gives s t c octets confounder l)))))

-- ---- the server takes the choice

late-line : (s : Start) (t : Taken) (c : Course) (l : Late s t c) → (line : Line) × (line.sender ≡ end_of l.done Initiator) × AreItsOwn line c.makings
late-line s t c l = elim (layer-cases l.one.facts.layer) [
  | inl e ↦ (record { sender = end_of l.done Initiator; sealed = false; said = [] }, refl, l.bare e)
  | inr e ↦ (
    record { sender = end_of l.done Initiator; sealed = e.0; said = c.client_said },
    refl,
    own-by (end_of l.done Initiator) (end_under l.one) e.0 c.client_said c.makings (sym l.sender) (l.holds e.0 e.1).left_own,
  )
]

agreed-by : (s : Start) (t : Taken) (c : Course) (message : List ℕ) (two : LayerState) → Known s t → (l : Late s t c) → takes_choice (server_agreed s t) message ≡ Ok two
    → WereMade (server_end t) message c.makings → AgreeOn l.taken.end two
agreed-by s t c message two known l taken made =
    let x = late-line s t c l in
    let line : Line = x.0 in
    let done : BothDone (client_agreed s l.done) (server_agreed s t) c.makings l.taken two = record {
      faces = facing-back (end_of l.done Initiator) (server_end t) l.keyed.faces;
      ours = line;
      ours_are = x.1;
      theirs = record { sender = server_end t; sealed = false; said = [] };
      theirs_are = refl;
      offers = record {
        own = λ m a key usage. inl (record { octets = offer_words s; is = l.server.theirs m a usage });
        only = λ octets a. same-first (server_end t) octets (offer_words s) (l.server.theirs (wrap_making (server_end t) 0 false octets) a refl);
      };
      chose = record {
        own = x.2;
        only = λ octets a. l.only octets (subst (λ (e : TokenEnd). Among c.makings (wrap_making e 0 false octets)) x.1 a);
      };
      offer = l.offer;
      took = l.took;
      offer_made = l.made;
      choice = message;
      answered = taken;
      choice_made = made;
      client_first = l.keyed.first;
      server_first = known.first;
      small = omega (arith, s.wish.most);
      small_too = omega (arith, s.server_wish.most);
    } in
    agree (client_agreed s l.done) (server_agreed s t) c.makings l.taken two done

both-from : (s : Start) (t : Taken) (c : Course) (message : List ℕ) (two : LayerState) → Known s t → (l : Late s t c) → takes_choice (server_agreed s t) message ≡ Ok two
    → WereMade (server_end t) message c.makings → Both t (served-with c (Ok (answers.Done two)) c.taken [])
both-from s t c message two known l taken made =
    let k : Chosen (server_agreed s t) message two = answered-by (server_agreed s t) message two taken in
    let ag : AgreeOn l.one two = agree-left l.taken.end l.one two l.facts (agreed-by s t c message two known l taken made) in
    let right : end_under two ≡ server_end t = ap end_under k.two_is in
    record {
      one = l.one;
      two = two;
      client = l.client;
      server = refl;
      key = l.key;
      key_too = ap (λ (x : LayerState). x.facts.done.key) k.two_is;
      agree = ag;
      holds = λ sealed layer.
          let st : StandsTogether sealed (two_of c l.one (standin t l.one.facts)) = l.holds sealed layer in
          record {
            faces = right ∙ st.faces;
            left_layer = layer;
            right_layer = sym ag.layer ∙ layer;
            left_sends = st.left_sends;
            right_sends = ap (λ (x : LayerState). x.sends) k.two_is ∙ st.right_sends;
            left_takes = st.left_takes;
            right_takes = ap (λ (x : LayerState). x.takes) k.two_is ∙ (ap (λ (n : ℕ). n + 1) known.first ∙ st.right_takes);
            left_own = st.left_own;
            right_own = own-by (end_under two) (server_end t) sealed c.server_said c.makings right st.right_own;
            left_front = st.left_front;
            right_front = st.right_front;
          };
    }

offered-takes : (sessions : List Key) (s : Start) (t : Taken) (c : Course) (message : List ℕ) (now : ℕ) (draws : List ℕ) → IsOneOf sessions t.request.session → c.taken ≡ Some t → Known s t → Late s t c
    → AreMade sessions c (server_finds c.pair.setup (servers.Goes (accepts.Offered (server_agreed s t))) message now draws)
    → Live s t (server_heard c (servers.Goes (accepts.Offered (server_agreed s t))) message now draws)
offered-takes sessions s t c message now draws h is known l u = elim (offered_to c.pair.setup (server_agreed s t) message now draws) [
  | inl f ↦ inr (inl (ap (λ (a : Result SaslAnswer SaslRefusal). (server_after a).to) f.is))
  | inr d ↦
      subst (λ (a : Result SaslAnswer SaslRefusal). Live s t (served-with c a c.taken [])) (sym d.step)
      (inr (inr (inr (inr (both-from s t c message d.end known l d.taken (choice-made sessions t c (server_agreed s t) message now draws h is refl u d))))))
]

pub late-accepts : (sessions : List Key) (s : Start) (t : Taken) (c : Course) (message : List ℕ) (now : ℕ) (draws : List ℕ) → IsOneOf sessions t.request.session → c.taken ≡ Some t → Known s t → Late s t c
    → Unforged sessions c (Does (ToAccept message now draws)) → Live s t (after c (Does (ToAccept message now draws)))
late-accepts sessions s t c message now draws h is known l u =
    subst (λ (at : ServerStage). AreMade sessions c (server_finds c.pair.setup at message now draws) → Live s t (server_heard c at message now draws)) (sym l.server.is)
    (offered-takes sessions s t c message now draws h is known l) u

pub late-said : (s : Start) (t : Taken) (c : Course) (octets confounder : List ℕ) → Late s t c → Live s t (after c (Does (SendAccept octets confounder)))
late-said s t c octets confounder l =
    subst (λ (at : ServerStage). Live s t (server_spoke c at octets confounder)) (sym l.server.is) (inr (inr (inr (inl (record {
      done = l.done;
      keyed = l.keyed;
      offer = l.offer;
      taken = l.taken;
      took = l.took;
      made = l.made;
      one = l.one;
      client = l.client;
      facts = l.facts;
      key = l.key;
      sender = l.sender;
      server = record { is = refl; theirs = l.server.theirs };
      server_said = l.server_said;
      server_read = l.server_read;
      only = l.only;
      bare = l.bare;
      holds = l.holds;
    })))))

-- ---- both are done

pub both-hears : (sessions : List Key) (s : Start) (t : Taken) (c : Course) (message : List ℕ) → IsOneOf sessions t.request.session → c.taken ≡ Some t → Both t c
    → Unforged sessions c (Does (ToInit message)) → Live s t (after c (Does (ToInit message)))
both-hears sessions s t c message h is b u =
    let one : LayerState = (reads b.one message).to in
    let facts : one.facts ≡ b.one.facts = reads-facts b.one message in
    subst (λ (at : ClientAt). AreMade sessions c (client_finds at message) → Live s t (client_heard c at message)) (sym b.client)
    (λ made. inr (inr (inr (inr (record {
      one = one;
      two = b.two;
      client = refl;
      server = b.server;
      key = ap (λ (f : LayerFacts). f.done.key) facts ∙ b.key;
      key_too = b.key_too;
      agree = agree-left b.one one b.two facts b.agree;
      holds = λ sealed layer. left-heard sealed (two_of c b.one b.two) message (b.holds sealed (sym (layer-same one b.one facts) ∙ layer)) (layer-made sessions t c b.one message h is b.key made);
    }))))) u

pub both-spoke : (s : Start) (t : Taken) (c : Course) (octets confounder : List ℕ) → Both t c → Live s t (after c (Does (SendInit octets confounder)))
both-spoke s t c octets confounder b =
    let one : LayerState = (gives b.one octets confounder).to in
    let facts : one.facts ≡ b.one.facts = gives-facts b.one octets confounder in
    subst (λ (at : ClientAt). Live s t (client_spoke c at octets confounder)) (sym b.client) (inr (inr (inr (inr (record {
      one = one;
      two = b.two;
      client = refl;
      server = b.server;
      key = ap (λ (f : LayerFacts). f.done.key) facts ∙ b.key;
      key_too = b.key_too;
      agree = agree-left b.one one b.two facts b.agree;
      holds = λ sealed layer. left-spoke sealed (two_of c b.one b.two) octets confounder (b.holds sealed (sym (layer-same one b.one facts) ∙ layer));
    })))))

pub both-accepts : (sessions : List Key) (s : Start) (t : Taken) (c : Course) (message : List ℕ) (now : ℕ) (draws : List ℕ) → IsOneOf sessions t.request.session → c.taken ≡ Some t → Both t c
    → Unforged sessions c (Does (ToAccept message now draws)) → Live s t (after c (Does (ToAccept message now draws)))
both-accepts sessions s t c message now draws h is b u =
    let two : LayerState = (reads b.two message).to in
    let facts : two.facts ≡ b.two.facts = reads-facts b.two message in
    subst (λ (at : ServerStage). AreMade sessions c (server_finds c.pair.setup at message now draws) → Live s t (server_heard c at message now draws)) (sym b.server)
    (λ made. inr (inr (inr (inr (record {
      one = b.one;
      two = two;
      client = b.client;
      server = refl;
      key = b.key;
      key_too = ap (λ (f : LayerFacts). f.done.key) facts ∙ b.key_too;
      agree = agree-right b.one b.two two facts b.agree;
      holds = λ sealed layer. right-heard sealed (two_of c b.one b.two) message (b.holds sealed layer) (layer-made sessions t c b.two message h is b.key_too made);
    }))))) u

pub both-said : (s : Start) (t : Taken) (c : Course) (octets confounder : List ℕ) → Both t c → Live s t (after c (Does (SendAccept octets confounder)))
both-said s t c octets confounder b =
    let two : LayerState = (gives b.two octets confounder).to in
    let facts : two.facts ≡ b.two.facts = gives-facts b.two octets confounder in
    subst (λ (at : ServerStage). Live s t (server_spoke c at octets confounder)) (sym b.server) (inr (inr (inr (inr (record {
      one = b.one;
      two = two;
      client = b.client;
      server = refl;
      key = b.key;
      key_too = ap (λ (f : LayerFacts). f.done.key) facts ∙ b.key_too;
      agree = agree-right b.one b.two two facts b.agree;
      holds = λ sealed layer. right-spoke sealed (two_of c b.one b.two) octets confounder (b.holds sealed layer);
    })))))

-- ---- what both that are done promise

pub fronts : (t : Taken) (c : Course) (b : Both t c) → b.one.facts.layer ≢ Bare → IsFront c.server_read c.client_said × IsFront c.client_read c.server_said
fronts t c b n = elim (layer-cases b.one.facts.layer) [
  | inl e ↦ absurd (n e)
  | inr e ↦ ((b.holds e.0 e.1).left_front, (b.holds e.0 e.1).right_front)
]
