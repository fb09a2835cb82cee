-- The turns of a client.
use Rattle.std.proofs.Common.{◌≡◌, ◌≢◌, refl, ap, sym, subst, ◌∙◌, ℕ, Bool, true, false, nat_lt, List, [], ◌∷◌, length, take, Option, Some, None, Result, Ok, Err}
use Rattle.std.proofs.lemmas.List.{append-nil}
use Rattle.sec_base.specs.Link.{Wire}
use Rattle.sec_base.specs.Streams.{Put}
use Rattle.krb_tokens.specs.declared.done.MechDone.{MechDone}
use Rattle.mech_objects.specs.Meaning.{MechSays, next_by, takes}
use Rattle.mech_objects.specs.declared.ask.MechAsk.{MechAsk}
use Rattle.sasl_frames.specs.Messages.{framed, Hears}
use Rattle.sasl_frames.specs.declared.message.ReadEnd.{ReadEnd}
use Rattle.sasl_layer.specs.State.{LayerState}
use Rattle.sasl_layer.specs.Layered.{sends, sent, receives, received}
use Rattle.sasl_layer.specs.declared.layer.Wish.{Wish}
use Rattle.sasl_layer.specs.declared.refusal.SaslRefusal.{SaslRefusal}
use Rattle.sasl_layer.specs.declared.refusal.SaslRefusal.TheVariants as refusals
use Rattle.sasl_gssapi.specs.Choosing.{most}
use Rattle.sasl_gssapi.specs.Ends.{InitMeans, StepMeans, More, Done}
use Rattle.sasl_gssapi.specs.Ends.{Asks as InitAsks, Waits as InitWaits}
use Rattle.sasl_gssapi.specs.Steps.{unless_long}
use Rattle.sasl_layer.specs.declared.facts.LayerFacts.{LayerFacts}
use Rattle.sasl_command.specs.declared.asking.Asked.{Asked as Ran}
use Rattle.scram_mech.specs.MechMaking.{MechMaking}
use Rattle.ap_exchange.specs.declared.request.ApInit.{ApInit}
use Rattle.spnego_core.specs.InitMech.{request_begun}
use Rattle.spnego_core.specs.declared.setup.MechCred.TheVariants as creds
use Rattle.spnego_core.specs.declared.refusal.MechRefusal.{MechRefusal}
use Rattle.spnego_core.specs.declared.refusal.MechRefusal.TheVariants.{Ap}
use Rattle.spnego_core.specs.declared.refusal.NegRefusal.{NegRefusal}
use Rattle.spnego_core.specs.declared.refusal.NegRefusal.TheVariants.{Mech}
use Rattle.ap_exchange.specs.declared.refusal.ApRefusal.{ApRefusal}
use Rattle.ap_exchange.specs.Reply.{reply_taken}
use Rattle.gss_base.specs.declared.mech.KerberosName.{KerberosName}
use Rattle.krb_files.specs.Granted.{Granted}
use Rattle.mech_objects.specs.declared.ask.MechMove.{MechMove}
use Rattle.mech_objects.specs.declared.ask.MechMove.TheVariants.{Token, Done as Ended}
use Rattle.mech_objects.specs.Standard.{standard, begun, answered, state_of, state_begun, move_by}
use Rattle.sasl_gssapi.specs.Initiating.{begins, goes_by, init_step}
use Rattle.sasl_options.specs.declared.ending.RunEnd.{RunEnd}
use Rattle.sasl_options.specs.declared.ending.RunEnd.TheVariants.{LinkFault, PeerEnded, Finished}
use Rattle.sasl_command.specs.Turns.{Went, Seen, Deals, Did, Ended as RunEnded, Made, Leads, Spoken, beside, end_of, end_of_read}
use Rattle.sasl_command.specs.Asking.{Asker, Opens, Begun, Chosen, Awaits, Read, Asks, limit, facts_of, echo_of, IsAnswered, IsDue, Spoke, Reached, IsKerberos, IsFirst, IsSecondStep, Opened, OpenedBy, Stepped, SteppedBy, Sends, SentBy, Reads, ReadBy, Replied, message_of}
use Rattle.sasl_command.proofs.Devices.{deals-none, deals-took}
use Rattle.sasl_command.proofs.Turning.{turned, stopped, ended, unread, leads-one, leads-after, spoken-at, spoken-after}
use Rattle.sasl_command.proofs.Answering.{deals-by, wrote-one, wrote-front, refused}

-- only the link moved
deals-put : (a : Seen) (w v : Wire) {ys : List ℕ} → Went w v [] ys → Deals (beside a w) (beside a v) [] ys [] []
deals-put a w v went = deals-by w v a.clock a.clock a.moments a.moments a.draw a.draw a.octets a.octets (λ on. on) (λ on. sym (append-nil a.moments)) (λ on. on) (λ on. sym (append-nil a.octets)) went

-- ---- the first message

pub opened-so : (wish : Wish) (objects : List MechSays) (stamp : ℕ) (draws : List ℕ) (end : InitMeans) (token : List ℕ) → length draws ≡ 66 → begins objects (record { stamp = stamp; draws = draws; bindings = None }) wish ≡ Ok (end, token)
    → Opened wish objects (stamp ∷ []) draws (token ∷ []) (Ok (Begun end))
opened-so wish objects stamp draws end token size e =
    (stamp, refl, size, subst (λ (x : Result (InitMeans × List ℕ) SaslRefusal). OpenedBy x (token ∷ []) (Ok (Begun end))) (sym e) (refl, refl))

pub opened-not : (wish : Wish) (objects : List MechSays) (stamp : ℕ) (draws : List ℕ) (refusal : SaslRefusal) → length draws ≡ 66 → begins objects (record { stamp = stamp; draws = draws; bindings = None }) wish ≡ Err refusal
    → Opened wish objects (stamp ∷ []) draws [] (Err refusal)
opened-not wish objects stamp draws refusal size e =
    (stamp, refl, size, subst (λ (x : Result (InitMeans × List ℕ) SaslRefusal). OpenedBy x [] (Err refusal)) (sym e) (refl, refl))

pub opened-as : (wish : Wish) (objects : List MechSays) (stamp : ℕ) (draws : List ℕ) (end : InitMeans) (message token : List ℕ) → length draws ≡ 66 → begins objects (record { stamp = stamp; draws = draws; bindings = None }) wish ≡ Ok (end, message) → token ≡ message
    → Opened wish objects (stamp ∷ []) draws (token ∷ []) (Ok (Begun end))
opened-as wish objects stamp draws end message token size e is = subst (λ (o : List ℕ). Opened wish objects (stamp ∷ []) draws (o ∷ []) (Ok (Begun end))) (sym is) (opened-so wish objects stamp draws end message size e)

-- the first message was sent
pub opened-did : (wish : Wish) (sending : List ℕ) (objects : List MechSays) (end : InitMeans) {a b : Seen} → Made (Opened wish objects) a b (Ok (Begun end)) → Did (Asks wish sending) (Opens objects) (Begun end) a b
opened-did wish sending objects end {a} made = turned (Asks wish sending) (Opens objects) (Begun end) (Opened wish objects) [] (λ moments octets said answer m. (refl, m)) (deals-none a) made

pub opened-ended : (wish : Wish) (sending : List ℕ) (objects : List MechSays) (end : RunEnd) {a b : Seen} → Made (Opened wish objects) a b (Err end) → RunEnded (Asks wish sending) limit IsAnswered IsDue (Opens objects) a b end
opened-ended wish sending objects end {a} made = stopped (Asks wish sending) limit IsAnswered IsDue (Opens objects) (Opened wish objects) [] end (λ moments octets said answer m. (refl, m)) (deals-none a) made

-- ---- a message before the layer

stepped-more : (end : InitMeans) (message : List ℕ) (next : InitMeans) (reply : List ℕ) → init_step end message ≡ Ok (More next reply) → Stepped end message [] [] (reply ∷ []) (Ok (Begun next))
stepped-more end message next reply e = (refl, refl, subst (λ (x : Result StepMeans SaslRefusal). SteppedBy x (reply ∷ []) (Ok (Begun next))) (sym e) (refl, refl))

stepped-done : (end : InitMeans) (message : List ℕ) (layer : LayerState) (reply : List ℕ) → init_step end message ≡ Ok (Done layer reply) → Stepped end message [] [] (reply ∷ []) (Ok (Chosen layer))
stepped-done end message layer reply e = (refl, refl, subst (λ (x : Result StepMeans SaslRefusal). SteppedBy x (reply ∷ []) (Ok (Chosen layer))) (sym e) (refl, refl))

stepped-not : (end : InitMeans) (message : List ℕ) (refusal : SaslRefusal) → init_step end message ≡ Err refusal → Stepped end message [] [] [] (Err refusal)
stepped-not end message refusal e = (refl, refl, subst (λ (x : Result StepMeans SaslRefusal). SteppedBy x [] (Err refusal)) (sym e) (refl, refl))

pub replied : (wish : Wish) (sending : List ℕ) (end : InitMeans) (a : Seen) (w v u : Wire) (message : List ℕ) (step : StepMeans) → Hears most w v (Ok message) → init_step end message ≡ Ok step → Put v u (framed (message_of step)) → Replied wish sending end (beside a w) (beside a u) (Ok step)
replied wish sending end a w v u message (More next reply) h e p =
    turned (Asks wish sending) (Begun end) (Begun next) (Stepped end message) h.0 (λ moments octets said answer m. (message, h.1, m)) (deals-took (beside a w) v h.2)
    (record { moments = []; octets = []; said = reply ∷ []; makes = stepped-more end message next reply e; deals = deals-put a v u (wrote-one reply p) })
replied wish sending end a w v u message (Done layer reply) h e p =
    turned (Asks wish sending) (Begun end) (Chosen layer) (Stepped end message) h.0 (λ moments octets said answer m. (message, h.1, m)) (deals-took (beside a w) v h.2)
    (record { moments = []; octets = []; said = reply ∷ []; makes = stepped-done end message layer reply e; deals = deals-put a v u (wrote-one reply p) })

pub replied-cut : (wish : Wish) (sending : List ℕ) (end : InitMeans) (a : Seen) (w v u : Wire) (message : List ℕ) (step : StepMeans) (count : ℕ) → Hears most w v (Ok message) → init_step end message ≡ Ok step → Put v u (take count (framed (message_of step))) → Replied wish sending end (beside a w) (beside a u) (Err LinkFault)
replied-cut wish sending end a w v u message (More next reply) count h e p =
    stopped (Asks wish sending) limit IsAnswered IsDue (Begun end) (Stepped end message) h.0 LinkFault (λ moments octets said answer m. (message, h.1, m)) (deals-took (beside a w) v h.2)
    (record { moments = []; octets = []; said = reply ∷ []; next = Begun next; makes = stepped-more end message next reply e; count = count; deals = deals-put a v u (wrote-front reply count p) })
replied-cut wish sending end a w v u message (Done layer reply) count h e p =
    stopped (Asks wish sending) limit IsAnswered IsDue (Begun end) (Stepped end message) h.0 LinkFault (λ moments octets said answer m. (message, h.1, m)) (deals-took (beside a w) v h.2)
    (record { moments = []; octets = []; said = reply ∷ []; next = Chosen layer; makes = stepped-done end message layer reply e; count = count; deals = deals-put a v u (wrote-front reply count p) })

pub replied-not : (wish : Wish) (sending : List ℕ) (end : InitMeans) (a : Seen) (w v : Wire) (message : List ℕ) (refusal : SaslRefusal) → Hears most w v (Ok message) → (refusal ≢ refusals.NoMemory → init_step end message ≡ Err refusal) → Replied wish sending end (beside a w) (beside a v) (Err (end_of refusal))
replied-not wish sending end a w v message refusal h e =
    stopped (Asks wish sending) limit IsAnswered IsDue (Begun end) (Stepped end message) h.0 (end_of refusal) (λ moments octets said answer m. (message, h.1, m)) (deals-took (beside a w) v h.2)
    (refused (Stepped end message) (beside a v) (beside a v) [] [] refusal (deals-none (beside a v)) (λ other. stepped-not end message refusal (e other)))

pub unreplied : (wish : Wish) (sending : List ℕ) (end : InitMeans) (a : Seen) (w v : Wire) (read : ReadEnd) → Hears most w v (Err read) → Replied wish sending end (beside a w) (beside a v) (Err (end_of_read read PeerEnded))
unreplied wish sending end a w v read h =
    unread (Asks wish sending) limit IsAnswered IsDue (Begun end) PeerEnded (beside a w) v read (λ k. ended (Asks wish sending) limit IsAnswered IsDue (Begun end) (beside a w) v tt k) h

-- ---- under the layer

pub sent-so : (sending : List ℕ) (layer after : LayerState) (octets message : List ℕ) → length octets ≡ 16 → sends layer sending octets ≡ Ok message → after ≡ sent layer (Ok message) → Sends sending layer [] octets (message ∷ []) (Ok (Awaits after))
sent-so sending layer after octets message size e is =
    subst (λ (l : LayerState). Sends sending layer [] octets (message ∷ []) (Ok (Awaits l))) (sym is) (refl, size, subst (λ (x : Result (List ℕ) SaslRefusal). SentBy layer x (message ∷ []) (Ok (Awaits (sent layer (Ok message))))) (sym e) (refl, refl))

pub sent-not : (sending : List ℕ) (layer : LayerState) (octets : List ℕ) (refusal : SaslRefusal) → length octets ≡ 16 → sends layer sending octets ≡ Err refusal → Sends sending layer [] octets [] (Err refusal)
sent-not sending layer octets refusal size e = (refl, size, subst (λ (x : Result (List ℕ) SaslRefusal). SentBy layer x [] (Err refusal)) (sym e) (refl, refl))

read-so : (layer : LayerState) (message echo : List ℕ) → receives layer message ≡ Ok echo → Reads layer message [] [] [] (Ok (Read (received layer (Ok echo)) echo))
read-so layer message echo e = (refl, refl, refl, subst (λ (x : Result (List ℕ) SaslRefusal). ReadBy layer x (Ok (Read (received layer (Ok echo)) echo))) (sym e) refl)

read-not : (layer : LayerState) (message : List ℕ) (refusal : SaslRefusal) → receives layer message ≡ Err refusal → Reads layer message [] [] [] (Err refusal)
read-not layer message refusal e = (refl, refl, refl, subst (λ (x : Result (List ℕ) SaslRefusal). ReadBy layer x (Err refusal)) (sym e) refl)

pub heard : (wish : Wish) (sending : List ℕ) (layer : LayerState) (a : Seen) (w v : Wire) (message echo : List ℕ) → Hears layer.facts.incoming w v (Ok message) → receives layer message ≡ Ok echo → Did (Asks wish sending) (Awaits layer) (Read (received layer (Ok echo)) echo) (beside a w) (beside a v)
heard wish sending layer a w v message echo h e =
    turned (Asks wish sending) (Awaits layer) (Read (received layer (Ok echo)) echo) (Reads layer message) h.0 (λ moments octets said answer m. (message, h.1, m)) (deals-took (beside a w) v h.2)
    (record { moments = []; octets = []; said = []; makes = read-so layer message echo e; deals = deals-none (beside a v) })

-- the echo was read, and the run is finished
pub finished : (wish : Wish) (sending : List ℕ) (layer : LayerState) (echo : List ℕ) (a : Seen) → RunEnded (Asks wish sending) limit IsAnswered IsDue (Read layer echo) a a Finished
finished wish sending layer echo a = record {
  rest = record { took = []; wrote = []; moments = []; octets = [] };
  cause = (record { wrote = refl; moments = refl; octets = refl }, refl, tt);
  deals = deals-none a;
}

pub heard-not : (wish : Wish) (sending : List ℕ) (layer : LayerState) (a : Seen) (w v : Wire) (message : List ℕ) (refusal : SaslRefusal) → Hears layer.facts.incoming w v (Ok message) → (refusal ≢ refusals.NoMemory → receives layer message ≡ Err refusal) → RunEnded (Asks wish sending) limit IsAnswered IsDue (Awaits layer) (beside a w) (beside a v) (end_of refusal)
heard-not wish sending layer a w v message refusal h e =
    stopped (Asks wish sending) limit IsAnswered IsDue (Awaits layer) (Reads layer message) h.0 (end_of refusal) (λ moments octets said answer m. (message, h.1, m)) (deals-took (beside a w) v h.2)
    (refused (Reads layer message) (beside a v) (beside a v) [] [] refusal (deals-none (beside a v)) (λ other. read-not layer message refusal (e other)))

pub unheard : (wish : Wish) (sending : List ℕ) (layer : LayerState) (a : Seen) (w v : Wire) (read : ReadEnd) → Hears layer.facts.incoming w v (Err read) → RunEnded (Asks wish sending) limit IsAnswered IsDue (Awaits layer) (beside a w) (beside a v) (end_of_read read PeerEnded)
unheard wish sending layer a w v read h =
    unread (Asks wish sending) limit IsAnswered IsDue (Awaits layer) PeerEnded (beside a w) v read (λ k. ended (Asks wish sending) limit IsAnswered IsDue (Awaits layer) (beside a w) v tt k) h

-- ---- runs

pub spoke-at : (wish : Wish) (sending : List ℕ) (s : Asker) {a b : Seen} (end : RunEnd) → RunEnded (Asks wish sending) limit IsAnswered IsDue s a b end → Spoke wish sending s a b (facts_of s) (echo_of s) end
spoke-at wish sending s end e = record { stands = s; spoken = spoken-at (Asks wish sending) limit IsAnswered IsDue s end e; facts_are = refl; echo_is = refl }

pub spoke-after : (wish : Wish) (sending : List ℕ) (s t : Asker) {a b c : Seen} (facts : Option LayerFacts) (echo : Option (List ℕ)) (end : RunEnd) → Leads (Asks wish sending) s t a b → Spoke wish sending t b c facts echo end → Spoke wish sending s a c facts echo end
spoke-after wish sending s t facts echo end l k = record { stands = k.stands; spoken = spoken-after (Asks wish sending) limit IsAnswered IsDue s t k.stands end l k.spoken; facts_are = k.facts_are; echo_is = k.echo_is }

-- the same as a run came to
pub spoke-as : (wish : Wish) (sending : List ℕ) (s : Asker) {a b : Seen} {facts : Option LayerFacts} {echo : Option (List ℕ)} {end : RunEnd} (r : Ran) → r ≡ record { end = end; facts = facts; echo = echo } → Spoke wish sending s a b facts echo end → Spoke wish sending s a b r.facts r.echo r.end
spoke-as wish sending s {a} {b} r e k = record {
  stands = k.stands;
  spoken = subst (λ (n : RunEnd). Spoken (Asks wish sending) limit IsAnswered IsDue s k.stands a b n) (sym (ap (λ (x : Ran). x.end) e)) k.spoken;
  facts_are = ap (λ (x : Ran). x.facts) e ∙ k.facts_are;
  echo_is = ap (λ (x : Ran). x.echo) e ∙ k.echo_is;
}

-- what a function returned, by the facts that it was given
pub ran-as : {r : Ran} {end : RunEnd} {facts known : LayerFacts} {echo : Option (List ℕ)} → r ≡ record { end = end; facts = Some facts; echo = echo } → facts ≡ known → r ≡ record { end = end; facts = Some known; echo = echo }
ran-as {r} {end} {facts} {known} {echo} e f = e ∙ ap (λ (k : LayerFacts). record { end = end; facts = Some k; echo = echo }) f

pub reached-after : (wish : Wish) (sending : List ℕ) (s t : Asker) (a b c : Seen) (r : Result LayerState RunEnd) → Did (Asks wish sending) s t a b → Reached wish sending t b c r → Reached wish sending s a c r
reached-after wish sending s t a b c (Ok layer) d k = leads-after (Asks wish sending) s t (Chosen layer) (leads-one (Asks wish sending) s t d) k
reached-after wish sending s t a b c (Err end) d k = spoke-after wish sending s t None None end (leads-one (Asks wish sending) s t d) k

-- a step of the code
pub replied-more : (wish : Wish) (sending : List ℕ) (end next : InitMeans) (message : List ℕ) (step : StepMeans) {a b : Seen} → step ≡ More next message → Replied wish sending end a b (Ok step) → Did (Asks wish sending) (Begun end) (Begun next) a b
replied-more wish sending end next message step {a} {b} e k = subst (λ (s : StepMeans). Replied wish sending end a b (Ok s)) e k

pub replied-done : (wish : Wish) (sending : List ℕ) (end : InitMeans) (layer : LayerState) (message : List ℕ) (step : StepMeans) {a b : Seen} → step ≡ Done layer message → Replied wish sending end a b (Ok step) → Did (Asks wish sending) (Begun end) (Chosen layer) a b
replied-done wish sending end layer message step {a} {b} e k = subst (λ (s : StepMeans). Replied wish sending end a b (Ok s)) e k

-- ---- Kerberos is done behind one token

ended-token : {E : Type 0} (done : MechDone) (octets : List ℕ) (r : Result MechMove E) → r ≡ Ok (Ended done) → r ≡ Ok (Token octets) → ⊥
ended-token done octets (Ok (Ended other)) e f = absurd cc
ended-token done octets (Ok (Token other)) e f = absurd cc
ended-token done octets (Err refusal) e f = absurd cc

err-token : {E : Type 0} (refusal : E) (octets : List ℕ) (r : Result MechMove E) → r ≡ Err refusal → r ≡ Ok (Token octets) → ⊥
err-token refusal octets (Ok x) e f = absurd cc
err-token refusal octets (Err other) e f = absurd cc

kerberos-moves : (makes : List MechMaking) (sent : Result (ApInit × List ℕ) ApRefusal) (token octets : List ℕ) → move_by (state_begun (request_begun makes sent)) token ≡ Ok (Token octets) → ⊥
unfolding answered
kerberos-moves makes (Err refusal) token octets e = absurd cc
kerberos-moves makes (Ok sent) token octets e = go (reply_taken sent.0 token) refl
  where
    go : (r : Result MechDone ApRefusal) → reply_taken sent.0 token ≡ r → ⊥
    go (Ok done) f = ended-token done octets (Ok (Ended done)) refl (rw f at e)
    go (Err refusal) f = err-token (Ap refusal) octets (Err (Ap refusal)) refl (rw f at e)

kerberos-next : (name : KerberosName) (credential : Granted) (ask : Option MechAsk) (token octets : List ℕ) → next_by (Some (standard (creds.Kerberos name credential))) ask [] token ≡ Ok (Token octets) → ⊥
unfolding state_of begun
kerberos-next name credential None token octets e = absurd cc
kerberos-next name credential (Some ask) token octets e = go (move_by (state_of (creds.Kerberos name credential) ask []) token) refl
  where
    go : (r : Result MechMove MechRefusal) → move_by (state_of (creds.Kerberos name credential) ask []) token ≡ r → ⊥
    go (Ok (Token other)) f = kerberos-moves _ _ token other f
    go (Ok (Ended done)) f = ended-token done octets (Ok (Ended done)) refl (rw f at e)
    go (Err refusal) f = err-token (Mech refusal) octets (Err (Mech refusal)) refl (rw f at e)

takes-none : (m : MechSays) (token octets : List ℕ) → IsKerberos m → takes m token ≡ Ok (Token octets) → ⊥
takes-none m token octets k e = kerberos-next k.name k.credential m.ask token octets (rw (k.says_is, k.cred_is, k.taken_is) at e)

err-ok : {A : Type 0} (refusal : SaslRefusal) (x : A) → Err refusal ≡ Ok x → ⊥
err-ok refusal x e = absurd cc

short-only : {A : Type 0} (message : List ℕ) (answer : Result A SaslRefusal) (x : A) → unless_long message answer ≡ Ok x → answer ≡ Ok x
short-only {A} message answer x e = go (nat_lt most (length message)) refl
  where
    go : (b : Bool) → nat_lt most (length message) ≡ b → answer ≡ Ok x
    go true t = absurd (err-ok refusals.TooLong x (rw t at e))
    go false t = rw t at e

pub second-step : (end : InitMeans) (message : List ℕ) (step : StepMeans) → IsFirst end → init_step end message ≡ Ok step → IsSecondStep step
second-step (InitAsks wish m) message step k e = go (takes m message) refl step (short-only message _ step e)
  where
    go : (r : Result MechMove NegRefusal) → takes m message ≡ r → (s : StepMeans) → goes_by wish m message r ≡ Ok s → IsSecondStep s
    go (Ok (Token octets)) f s g = absurd (takes-none m message octets k f)
    go (Ok (Ended done)) f (More (InitWaits agreed) reply) g = tt
    go (Ok (Ended done)) f (More (InitAsks other n) reply) g = absurd cc
    go (Ok (Ended done)) f (Done layer reply) g = absurd cc
    go (Err refusal) f s g = absurd cc
second-step (InitWaits agreed) message step k e = elim k [ ]
