-- Both ends have one layer, and each other's sizes.
use Rattle.std.proofs.Common.{◌≡◌, ◌≢◌, ℕ, ◌+◌, ◌*◌, ◌/◌, ◌%◌, ◌<◌, ◌^◌, ◌∙◌, Bool, true, false, refl, sym, ap, subst, arith, List, [], length}
use Rattle.std.specs.Prelude.{Option, Some, None, Result, Ok, Err, nat_lt, ◌==◌, not, if◌then◌else◌}
use Rattle.std.proofs.lemmas.Bool.{eqb-true}
use Rattle.krb_derive.specs.Making.{Making, Among}
use Rattle.krb_tokens.specs.declared.end.Side.{Side}
use Rattle.krb_tokens.specs.declared.end.Side.TheVariants.{Initiator, Acceptor}
use Rattle.krb_tokens.specs.declared.end.TokenEnd.{TokenEnd}
use Rattle.krb_tokens.specs.declared.end.TokenRefusal.{TokenRefusal}
use Rattle.krb_tokens.specs.declared.wrap.Unwrapped.{Unwrapped}
use Rattle.krb_tokens.specs.End.{facing}
use Rattle.krb_tokens.specs.Wrap.{unwrapped}
use Rattle.krb_tokens.proofs.Taken.{other-other}
use Rattle.sasl_layer.specs.declared.layer.Layer.{Layer}
use Rattle.sasl_layer.specs.declared.layer.Layer.TheVariants.{Bare, Signed, Sealed}
use Rattle.sasl_layer.specs.State.{LayerState}
use Rattle.sasl_layer.specs.Layers.{bit_of, has_layer, is_common, strongest, size_sent, words_of, layers_in, size_in, number_in}
use Rattle.sasl_layer.specs.Layered.{end_of, end_under}
use Rattle.sasl_layer.specs.Lines.{IsFront, Line, AreItsOwn, WereMade}
use Rattle.sasl_layer.proofs.Lines.{first_law}
use Rattle.sasl_gssapi.specs.declared.choosing.Judged.{Judged}
use Rattle.sasl_gssapi.specs.declared.steps.Agreed.{Agreed}
use Rattle.sasl_gssapi.specs.declared.steps.Offer.{Offer}
use Rattle.sasl_layer.specs.declared.refusal.SaslRefusal.{SaslRefusal}
use Rattle.sasl_layer.specs.declared.refusal.SaslRefusal.TheVariants as refusals
use Rattle.sasl_gssapi.specs.Choosing.{picked, limit, is_small, chosen, words_judged, offer_leads, choice_leads, offer_judged, choice_judged, layered}
use Rattle.sasl_gssapi.specs.Steps.{done_by, takes_choice, chooses, takes_offer}
use Rattle.sasl_gssapi.specs.Agreeing.{OwnTokens, AgreeLaw, JoinLaw}

-- ---- the four octets

layers-back : (layers size : ℕ) → layers_in (words_of layers size) ≡ layers
unfolding words_of
layers-back layers size = refl

by : (b : Bool) (size : ℕ) → size < 2 ^ 24 → (if b then 0 else size) < 2 ^ 24
by true size small = omega arith
by false size small = small

word-back : (n : ℕ) → n < 2 ^ 24 → 65536 * (n / 65536 % 256) + 256 * (n / 256 % 256) + n % 256 ≡ n
word-back n small = omega arith

size-back : (layers size : ℕ) → size < 2 ^ 24 → size_in (words_of layers size) ≡ size_sent layers size
unfolding words_of
size-back layers size small = word-back (size_sent layers size) (by (layers == 1) size small)

-- ---- what an end that is done judged

pub record JudgedBy (leads : List ℕ → Option Layer) (end : TokenEnd) (first : ℕ) (message : List ℕ) (judged : Judged) : Type 0 where
  pub content : List ℕ
  pub taken : unwrapped end message ≡ Ok (record { sealed = false; content = content })
  pub number : number_in message ≡ first
  pub layer : leads content ≡ Some judged.layer
  pub size : size_in content ≡ judged.size

not-ok : {A : Type 0} (r : SaslRefusal) (j : Judged) → Err r ≡ Ok j → A
not-ok r j e = absurd (cc)

chosen-tests : (layer : Layer) (words : List ℕ) (first : ℕ) (small identity due : Bool) (judged : Judged)
    → (if small then Err refusals.Size else if identity then Err refusals.Identity else if not due then Err (refusals.Order first) else Ok (record { layer = layer; size = size_in words })) ≡ Ok judged
    → (due ≡ true) × (layer ≡ judged.layer) × (size_in words ≡ judged.size)
chosen-tests layer words first true identity due judged e = not-ok refusals.Size judged e
chosen-tests layer words first false true due judged e = not-ok refusals.Identity judged e
chosen-tests layer words first false false false judged e = not-ok (refusals.Order first) judged e
chosen-tests layer words first false false true judged e = (refl, cc, cc)

chosen-is : (layer : Option Layer) (first : ℕ) (token words : List ℕ) (judged : Judged) → chosen layer first token words ≡ Ok judged
    → (number_in token ≡ first) × (layer ≡ Some judged.layer) × (size_in words ≡ judged.size)
chosen-is None first token words judged e = not-ok refusals.Layers judged e
chosen-is (Some layer) first token words judged e =
    let t = chosen-tests layer words first (is_small layer (size_in words)) (nat_lt 4 (length words)) (number_in token == first) judged e in
    (eqb-true (number_in token) first t.0, ap (λ (l : Layer). Some l) t.1, t.2)

words-tests : (leads : List ℕ → Option Layer) (end : TokenEnd) (first : ℕ) (message : List ℕ) (short sealed : Bool) (content : List ℕ) (judged : Judged)
    → unwrapped end message ≡ Ok (record { sealed = sealed; content = content })
    → words_judged short leads first message (record { sealed = sealed; content = content }) ≡ Ok judged → JudgedBy leads end first message judged
words-tests leads end first message true sealed content judged is e = not-ok refusals.Length judged e
words-tests leads end first message false true content judged is e = not-ok refusals.Layers judged e
words-tests leads end first message false false content judged is e =
    let t = chosen-is (leads content) first message content judged e in
    record { content = content; taken = is; number = t.0; layer = t.1; size = t.2 }

offer-is : (mask : ℕ) (end : TokenEnd) (first : ℕ) (message : List ℕ) (answer : Result Unwrapped TokenRefusal) (judged : Judged) → unwrapped end message ≡ answer
    → offer_judged mask first message answer ≡ Ok judged → JudgedBy (offer_leads mask) end first message judged
offer-is mask end first message (Err refusal) judged is e = not-ok (refusals.Token refusal) judged e
offer-is mask end first message (Ok held) judged is e = words-tests (offer_leads mask) end first message (not (length held.content == 4)) held.sealed held.content judged is e

choice-is : (mask : ℕ) (end : TokenEnd) (first : ℕ) (message : List ℕ) (answer : Result Unwrapped TokenRefusal) (judged : Judged) → unwrapped end message ≡ answer
    → choice_judged mask first message answer ≡ Ok judged → JudgedBy (choice_leads mask) end first message judged
choice-is mask end first message (Err refusal) judged is e = not-ok (refusals.Token refusal) judged e
choice-is mask end first message (Ok held) judged is e = words-tests (choice_leads mask) end first message (nat_lt (length held.content) 4) held.sealed held.content judged is e

-- ---- both steps

pub record Took (client : Agreed) (offer : List ℕ) (one : Offer) : Type 0 where
  pub judged : Judged
  pub by_offer : JudgedBy (offer_leads client.wish.layers) (end_of client.done Initiator) client.done.first offer judged
  pub one_is : one.end ≡ layered client.done Initiator client.wish judged

chooses-is : (client : Agreed) (one : Offer) (answer : Result Judged SaslRefusal) → chooses client answer ≡ Ok one
    → (judged : Judged) × (answer ≡ Ok judged) × (one.end ≡ layered client.done Initiator client.wish judged)
chooses-is client one (Err refusal) e = absurd (cc)
chooses-is client one (Ok judged) e = (judged, refl, cc)

pub took-by : (client : Agreed) (offer : List ℕ) (one : Offer) → takes_offer client offer ≡ Ok one → Took client offer one
took-by client offer one e =
    let answer : Result Judged SaslRefusal = offer_judged client.wish.layers client.done.first offer (unwrapped (end_of client.done Initiator) offer) in
    let c = chooses-is client one answer e in
    record { judged = c.0; by_offer = offer-is client.wish.layers (end_of client.done Initiator) client.done.first offer (unwrapped (end_of client.done Initiator) offer) c.0 refl c.1; one_is = c.2 }

pub record Answered (server : Agreed) (choice : List ℕ) (two : LayerState) : Type 0 where
  pub judged : Judged
  pub by_choice : JudgedBy (choice_leads server.wish.layers) (end_of server.done Acceptor) server.done.first choice judged
  pub two_is : two ≡ layered server.done Acceptor server.wish judged

done-is : (server : Agreed) (two : LayerState) (answer : Result Judged SaslRefusal) → done_by server answer ≡ Ok two
    → (judged : Judged) × (answer ≡ Ok judged) × (two ≡ layered server.done Acceptor server.wish judged)
done-is server two (Err refusal) e = absurd (cc)
done-is server two (Ok judged) e = (judged, refl, cc)

pub answered-by : (server : Agreed) (choice : List ℕ) (two : LayerState) → takes_choice server choice ≡ Ok two → Answered server choice two
answered-by server choice two e =
    let answer : Result Judged SaslRefusal = choice_judged server.wish.layers server.done.first choice (unwrapped (end_of server.done Acceptor) choice) in
    let c = done-is server two answer e in
    record { judged = c.0; by_choice = choice-is server.wish.layers (end_of server.done Acceptor) server.done.first choice (unwrapped (end_of server.done Acceptor) choice) c.0 refl c.1; two_is = c.2 }

-- ---- layers and sizes

one-of : (has : Bool) (x l : Layer) → (if has then Some x else None) ≡ Some l → l ≡ x
one-of true x l e = cc
one-of false x l e = let z : None ≡ Some l = e in absurd (cc)

picked-is : (mask : ℕ) (layer l : Layer) → picked mask (bit_of layer) ≡ Some l → l ≡ layer
picked-is mask Bare l e = one-of (has_layer mask Bare) Bare l e
picked-is mask Signed l e = one-of (has_layer mask Signed) Signed l e
picked-is mask Sealed l e = one-of (has_layer mask Sealed) Sealed l e

bare-mask : (other : ℕ) (l : Layer) → strongest 1 other ≡ Some l → l ≡ Bare
bare-mask other l e = one-of (is_common 1 other Bare) Bare l e

not-bare : (mask other : ℕ) (l : Layer) (b : Bool) → (mask == 1) ≡ b → strongest mask other ≡ Some l → l ≢ Bare → (mask == 1) ≡ false
not-bare mask other l false e s n = e
not-bare mask other l true e s n = absurd (n (bare-mask other l (subst (λ (m : ℕ). strongest m other ≡ Some l) (eqb-true mask 1 e) s)))

bit-is : (l : Layer) → l ≢ Bare → (bit_of l == 1) ≡ false
bit-is Bare n = absurd (n refl)
bit-is Signed n = refl
bit-is Sealed n = refl

limit-is : (l : Layer) (size : ℕ) → l ≢ Bare → limit l size ≡ size
limit-is Bare size n = absurd (n refl)
limit-is Signed size n = refl
limit-is Sealed size n = refl

sent-is : (layers size : ℕ) → (layers == 1) ≡ false → size_sent layers size ≡ size
sent-is layers size e = rw e refl

same-end : (b : TokenEnd) → b ≡ facing (facing b)
same-end b = ap (λ (s : Side). record b { side = s }) (sym (other-other b.side))

facing-back : (a b : TokenEnd) → a ≡ facing b → b ≡ facing a
facing-back a b e = rw e (same-end b)

-- ---- a first token holds what its end said

first-content : (line : Line) (makings : List Making) (first : List ℕ) (end : TokenEnd) (token content : List ℕ) → OwnTokens line makings first → end ≡ facing line.sender
    → unwrapped end token ≡ Ok (record { sealed = false; content = content }) → number_in token ≡ 0 → WereMade end token makings → content ≡ first
first-content line makings first end token content owns faces taken number made =
    let m = first_law line makings token content owns.own (subst (λ (e : TokenEnd). unwrapped e token ≡ Ok (record { sealed = false; content = content })) faces taken) number
    (subst (λ (e : TokenEnd). WereMade e token makings) faces made) in
    owns.only content (subst (λ (x : Making). Among makings x) m.2 m.1)

pub agree : AgreeLaw
agree client server makings one two d =
    let ce : TokenEnd = end_of client.done Initiator in
    let se : TokenEnd = end_of server.done Acceptor in
    let t : Took client d.offer one = took-by client d.offer one d.took in
    let a : Answered server d.choice two = answered-by server d.choice two d.answered in
    let offered : t.by_offer.content ≡ words_of server.wish.layers server.wish.size =
    first-content d.theirs makings (words_of server.wish.layers server.wish.size) ce d.offer t.by_offer.content d.offers (facing-back d.theirs.sender ce (d.theirs_are ∙ d.faces)) t.by_offer.taken (t.by_offer.number ∙ d.client_first) d.offer_made in
    let chose : a.by_choice.content ≡ words_of (bit_of one.end.facts.layer) client.wish.size =
    first-content d.ours makings (words_of (bit_of one.end.facts.layer) client.wish.size) se d.choice a.by_choice.content d.chose (d.faces ∙ ap facing (sym d.ours_are)) a.by_choice.taken (a.by_choice.number ∙ d.server_first) d.choice_made in
    let mine : one.end.facts.layer ≡ t.judged.layer = ap (λ (l : LayerState). l.facts.layer) t.one_is in
    let yours : two.facts.layer ≡ a.judged.layer = ap (λ (l : LayerState). l.facts.layer) a.two_is in
    let strong : strongest server.wish.layers client.wish.layers ≡ Some t.judged.layer =
    sym (ap (λ (n : ℕ). strongest n client.wish.layers) (ap layers_in offered ∙ layers-back server.wish.layers server.wish.size)) ∙ t.by_offer.layer in
    let picks : picked server.wish.layers (bit_of one.end.facts.layer) ≡ Some a.judged.layer =
    sym (ap (picked server.wish.layers) (ap layers_in chose ∙ layers-back (bit_of one.end.facts.layer) client.wish.size)) ∙ a.by_choice.layer in
    let same : a.judged.layer ≡ one.end.facts.layer = picked-is server.wish.layers one.end.facts.layer a.judged.layer picks in
    record {
      layer = sym (yours ∙ same);
      to_server = λ n.
          let nt : t.judged.layer ≢ Bare = λ e. n (mine ∙ e) in
          let na : a.judged.layer ≢ Bare = λ e. n (sym same ∙ e) in
          let size : t.judged.size ≡ server.wish.size =
          sym t.by_offer.size ∙ ap size_in offered ∙ size-back server.wish.layers server.wish.size d.small_too
          ∙ sent-is server.wish.layers server.wish.size (not-bare server.wish.layers client.wish.layers t.judged.layer (server.wish.layers == 1) refl strong nt) in
          ap (λ (l : LayerState). l.facts.outgoing) t.one_is ∙ limit-is t.judged.layer t.judged.size nt ∙ size
          ∙ sym (ap (λ (l : LayerState). l.facts.incoming) a.two_is ∙ limit-is a.judged.layer server.wish.size na);
      to_client = λ n.
          let nt : t.judged.layer ≢ Bare = λ e. n (mine ∙ e) in
          let na : a.judged.layer ≢ Bare = λ e. n (sym same ∙ e) in
          let size : a.judged.size ≡ client.wish.size =
          sym a.by_choice.size ∙ ap size_in chose ∙ size-back (bit_of one.end.facts.layer) client.wish.size d.small
          ∙ sent-is (bit_of one.end.facts.layer) client.wish.size (bit-is one.end.facts.layer n) in
          ap (λ (l : LayerState). l.facts.outgoing) a.two_is ∙ limit-is a.judged.layer a.judged.size na ∙ size
          ∙ sym (ap (λ (l : LayerState). l.facts.incoming) t.one_is ∙ limit-is t.judged.layer client.wish.size nt);
    }

-- ---- from there on

pub no-front : {A : Type 0} (said : List A) → IsFront [] said
no-front said = record { rest = said; is = refl }

pub own-by : (a b : TokenEnd) (sealed : Bool) (said : List (List ℕ)) (makings : List Making) → a ≡ b
    → AreItsOwn (record { sender = b; sealed = sealed; said = said }) makings → AreItsOwn (record { sender = a; sealed = sealed; said = said }) makings
own-by a b sealed said makings e own = subst (λ (t : TokenEnd). AreItsOwn (record { sender = t; sealed = sealed; said = said }) makings) (sym e) own

pub join : JoinLaw
join client server makings one two sealed said d layer ours theirs =
    let t : Took client d.offer one = took-by client d.offer one d.took in
    let a : Answered server d.choice two = answered-by server d.choice two d.answered in
    let left : end_under one.end ≡ end_of client.done Initiator = ap end_under t.one_is in
    let right : end_under two ≡ end_of server.done Acceptor = ap end_under a.two_is in
    record {
      faces = right ∙ d.faces ∙ ap facing (sym left);
      left_layer = layer;
      right_layer = sym (agree client server makings one two d).layer ∙ layer;
      left_sends = refl;
      right_sends = ap (λ (l : LayerState). l.sends) a.two_is;
      left_takes = ap (λ (l : LayerState). l.takes) t.one_is ∙ ap (λ (n : ℕ). n + 1) d.client_first;
      right_takes = ap (λ (l : LayerState). l.takes) a.two_is ∙ ap (λ (n : ℕ). n + 1) d.server_first;
      left_own = own-by (end_under one.end) (end_of client.done Initiator) sealed said makings left ours;
      right_own = own-by (end_under two) (end_of server.done Acceptor) sealed [] makings right theirs;
      left_front = no-front said;
      right_front = no-front [];
    }
