-- What a server makes of a message.
use Rattle.std.proofs.Common.{◌≡◌, ◌≢◌, refl, ap, sym, subst, ◌∙◌, ℕ, Bool, IsTrue, List, [], ◌∷◌, ◌++◌, length, take, Result, Ok, Err}
use Rattle.std.proofs.lemmas.List.{append-nil}
use Rattle.sec_base.specs.Link.{Wire}
use Rattle.sec_base.specs.Streams.{Put}
use Rattle.spnego_core.specs.declared.setup.AcceptSetup.{AcceptSetup}
use Rattle.sasl_frames.specs.Messages.{framed, all_framed}
use Rattle.sasl_layer.specs.State.{LayerState}
use Rattle.sasl_layer.specs.Layered.{sends, sent, receives, received}
use Rattle.sasl_layer.specs.declared.refusal.SaslRefusal.{SaslRefusal}
use Rattle.sasl_layer.specs.declared.refusal.SaslRefusal.TheVariants as refusals
use Rattle.sasl_gssapi.specs.Accepting.{accept_step}
use Rattle.sasl_gssapi.specs.declared.accept.SaslAccept.{SaslAccept}
use Rattle.sasl_gssapi.specs.declared.accept.SaslAnswer.{SaslAnswer}
use Rattle.sasl_gssapi.specs.declared.accept.SaslAnswer.TheVariants.{More, Done}
use Rattle.sasl_command.specs.Turns.{Went, Seen, Deals, Made, end_of}
use Rattle.sasl_command.specs.Serving.{Makes, Echoes, Answered}
use Rattle.sasl_command.specs.declared.serving.Stage.TheVariants.{Before, Under}
use Rattle.sasl_command.proofs.Devices.{went-put}

-- what clock and source gave beside what was written
pub deals-by : (w v : Wire) (k l : Bool) (m n : List ℕ) (d e : Bool) (o p : List ℕ) {ys ms os : List ℕ} → (IsTrue l → IsTrue k) → (IsTrue l → n ≡ m ++ ms) → (IsTrue e → IsTrue d) → (IsTrue e → p ≡ o ++ os) → Went w v [] ys
    → Deals (record { wire = w; clock = k; moments = m; draw = d; octets = o }) (record { wire = v; clock = l; moments = n; draw = e; octets = p }) [] ys ms os
deals-by w v k l m n d e o p kept given kept' given' went = record { went = went; clock = kept; moments_are = given; draw = kept'; octets_are = given' }

one-framed : (message : List ℕ) → framed message ≡ all_framed (message ∷ [])
one-framed message = sym (append-nil (framed message))

-- one message was written
pub wrote-one : {w v : Wire} (message : List ℕ) → Put w v (framed message) → Went w v [] (all_framed (message ∷ []))
wrote-one {w} {v} message p = subst (λ (ys : List ℕ). Went w v [] ys) (one-framed message) (went-put p)

-- a front of it was
pub wrote-front : {w v : Wire} (message : List ℕ) (count : ℕ) → Put w v (take count (framed message)) → Went w v [] (take count (all_framed (message ∷ [])))
wrote-front {w} {v} message count p = subst (λ (ys : List ℕ). Went w v [] (take count ys)) (one-framed message) (went-put p)

-- ---- before the layer

pub answered-more : (setup : AcceptSetup) (end : SaslAccept) (message : List ℕ) (now : ℕ) (draws : List ℕ) (next : SaslAccept) (reply : List ℕ) → length draws ≡ 66 → accept_step setup end message now draws ≡ Ok (More next reply) → Makes setup (Before end) message (now ∷ []) draws (reply ∷ []) (Ok (Before next))
answered-more setup end message now draws next reply size e =
    (now, refl, size, subst (λ (x : Result SaslAnswer SaslRefusal). Answered x (reply ∷ []) (Ok (Before next))) (sym e) (refl, refl))

pub answered-done : (setup : AcceptSetup) (end : SaslAccept) (message : List ℕ) (now : ℕ) (draws : List ℕ) (layer : LayerState) → length draws ≡ 66 → accept_step setup end message now draws ≡ Ok (Done layer) → Makes setup (Before end) message (now ∷ []) draws [] (Ok (Under layer))
answered-done setup end message now draws layer size e =
    (now, refl, size, subst (λ (x : Result SaslAnswer SaslRefusal). Answered x [] (Ok (Under layer))) (sym e) (refl, refl))

pub answered-not : (setup : AcceptSetup) (end : SaslAccept) (message : List ℕ) (now : ℕ) (draws : List ℕ) (refusal : SaslRefusal) → length draws ≡ 66 → accept_step setup end message now draws ≡ Err refusal → Makes setup (Before end) message (now ∷ []) draws [] (Err refusal)
answered-not setup end message now draws refusal size e =
    (now, refl, size, subst (λ (x : Result SaslAnswer SaslRefusal). Answered x [] (Err refusal)) (sym e) (refl, refl))

-- ---- a refusal ends a run

-- by a refusal other than want of memory; at that nothing is written
pub refused : {S : Type 0} (M : List ℕ → List ℕ → List (List ℕ) → Result S SaslRefusal → Type 0) (a b : Seen) (moments octets : List ℕ) (refusal : SaslRefusal) → Deals a b [] [] moments octets
    → (refusal ≢ refusals.NoMemory → M moments octets [] (Err refusal)) → Made M a b (Err (end_of refusal))
refused M a b moments octets refusals.NoKerberos d m = record { moments = moments; octets = octets; said = []; makes = m (λ e. cc); deals = d }
refused M a b moments octets (refusals.Mech refusal) d m = record { moments = moments; octets = octets; said = []; makes = m (λ e. cc); deals = d }
refused M a b moments octets (refusals.Token refusal) d m = record { moments = moments; octets = octets; said = []; makes = m (λ e. cc); deals = d }
refused M a b moments octets refusals.Length d m = record { moments = moments; octets = octets; said = []; makes = m (λ e. cc); deals = d }
refused M a b moments octets refusals.Layers d m = record { moments = moments; octets = octets; said = []; makes = m (λ e. cc); deals = d }
refused M a b moments octets refusals.Size d m = record { moments = moments; octets = octets; said = []; makes = m (λ e. cc); deals = d }
refused M a b moments octets refusals.Identity d m = record { moments = moments; octets = octets; said = []; makes = m (λ e. cc); deals = d }
refused M a b moments octets (refusals.Order expected) d m = record { moments = moments; octets = octets; said = []; makes = m (λ e. cc); deals = d }
refused M a b moments octets refusals.TooLong d m = record { moments = moments; octets = octets; said = []; makes = m (λ e. cc); deals = d }
refused M a b moments octets refusals.NoMemory d m = (moments, octets, d)

-- ---- under the layer

pub echoed : (layer : LayerState) (message carried octets reply : List ℕ) → length octets ≡ 16 → receives layer message ≡ Ok carried → sends (received layer (Ok carried)) carried octets ≡ Ok reply
    → Echoes layer message [] octets (reply ∷ []) (Ok (Under (sent (received layer (Ok carried)) (Ok reply))))
echoed layer message carried octets reply size e f = (refl, rw e (size, rw f (refl, refl)))

pub echoed-unsent : (layer : LayerState) (message carried octets : List ℕ) (refusal : SaslRefusal) → length octets ≡ 16 → receives layer message ≡ Ok carried → sends (received layer (Ok carried)) carried octets ≡ Err refusal
    → Echoes layer message [] octets [] (Err refusal)
echoed-unsent layer message carried octets refusal size e f = (refl, rw e (size, rw f (refl, refl)))

pub echoed-unread : (layer : LayerState) (message : List ℕ) (refusal : SaslRefusal) → receives layer message ≡ Err refusal → Echoes layer message [] [] [] (Err refusal)
echoed-unread layer message refusal e = (refl, rw e (refl, refl, refl))

pub echoed-by : (layer after last : LayerState) (message carried octets reply : List ℕ) → length octets ≡ 16 → receives layer message ≡ Ok carried → after ≡ received layer (Ok carried) → sends after carried octets ≡ Ok reply → last ≡ sent after (Ok reply)
    → Echoes layer message [] octets (reply ∷ []) (Ok (Under last))
echoed-by layer after last message carried octets reply size e after-is f last-is =
    let f' : sends (received layer (Ok carried)) carried octets ≡ Ok reply = subst (λ (l : LayerState). sends l carried octets ≡ Ok reply) after-is f in
    let is : last ≡ sent (received layer (Ok carried)) (Ok reply) = last-is ∙ ap (λ (l : LayerState). sent l (Ok reply)) after-is in
    subst (λ (l : LayerState). Echoes layer message [] octets (reply ∷ []) (Ok (Under l))) (sym is) (echoed layer message carried octets reply size e f')

pub unsent-by : (layer after : LayerState) (message carried octets : List ℕ) (refusal : SaslRefusal) → length octets ≡ 16 → receives layer message ≡ Ok carried → after ≡ received layer (Ok carried) → sends after carried octets ≡ Err refusal
    → Echoes layer message [] octets [] (Err refusal)
unsent-by layer after message carried octets refusal size e after-is f =
    echoed-unsent layer message carried octets refusal size e (subst (λ (l : LayerState). sends l carried octets ≡ Err refusal) after-is f)
