-- Who handed out a making, by its kind and its usage.
use Rattle.std.proofs.Common.{◌≡◌, ◌⊎◌, inl, inr, ℕ, ◌+◌, ◌*◌, ◌==◌, Bool, true, false, cond, refl, sym, ap, ◌∙◌, subst, arith, List, [], ◌∷◌, ◌++◌, map, Some, slice_get}
use Rattle.krb_derive.specs.declared.key.Key.{Key}
use Rattle.krb_derive.specs.Making.{Kind, Check, Sealed, Signature, Proof, Making}
use Rattle.krb_tokens.specs.declared.end.Side.TheVariants.{Acceptor}
use Rattle.krb_tokens.specs.Makings.{mic_making, wrap_making}
use Rattle.rpc_msgs.specs.Words.{word}
use Rattle.scram_mech.specs.MechMaking.{MechMaking, AmongMakings, typed}
use Rattle.scram_mech.specs.Initiator.{InitAnswered, answer_with, bare_of, secret_of, auth_of}
use Rattle.scram_mech.specs.Acceptor.{AcceptFinished, finish_with, auth_with}
use Rattle.scram_mech.specs.Laws.{Laws as ScramLaws}
use Rattle.spnego_core.specs.Ends.{PlainSetup}
use Rattle.gss_client.specs.Calling.{own_end}
use Rattle.gss_client.specs.Session.{SessionState}
use Rattle.world_laws.specs.State.{Context, World}
use Rattle.world_laws.specs.Initiators.{header_making, call_makings}
use Rattle.world_laws.specs.Premises.{IsWordMic, WasMade}
use Rattle.world_laws.proofs.Invariants.{MadeRequest, MadeProof, MadeListMic, MadeCall, InitMade, ByInitiator, MadeAnswer, MadeSignature, MadeAcceptMic, MadeResult, ContextMade, ByContext, Owning}

-- kind and usage as one number
abbrev pub code : Kind → ℕ
code Check = 0
code Sealed = 1
code Signature = 2
code Proof = 3

abbrev pub tag : MechMaking → ℕ
tag m = 4 * m.usage + code m.kind

-- its tag is one of a list
abbrev pub TagIs : ℕ → MechMaking → Type 0
TagIs n m = tag m ≡ n

tag-of : (m x : MechMaking) → m ≡ x → tag m ≡ tag x
tag-of m x e = ap tag e

-- ---- initiators

pub tag-request : (own : PlainSetup) (m : MechMaking) → MadeRequest own m → tag m ≡ 45
tag-request own m made = tag-of m _ made.made

pub only : (m x : MechMaking) → AmongMakings (x ∷ []) m → m ≡ x
only m x (inl e) = e
only m x (inr n) = absurd n

pub tag-proof : (scram : ScramLaws) (own : PlainSetup) (m : MechMaking) → MadeProof own m → tag m ≡ 3
tag-proof scram own m made =
    let p = scram.proves made.end made.text made.answered made.answers in
    let among : AmongMakings (answer_with made.end (bare_of made.end p.second) (secret_of made.end p.second) (auth_of made.end made.text p.second)).makes m = subst (λ (a : InitAnswered). AmongMakings a.makes m) p.same made.made in
    tag-of m _ (only m _ among)

pub tag-list_mic : (own : PlainSetup) (m : MechMaking) → MadeListMic own m → tag m ≡ 100
tag-list_mic own m made = tag-of m _ made.made

-- a MIC, or sealed octets, of an initiator
abbrev IsInitiators : MechMaking → Type 0
IsInitiators m = (tag m ≡ 100) ⊎ (tag m ≡ 97)

among-both : (front back : List Making) (m : MechMaking) → AmongMakings (map typed (front ++ back)) m → AmongMakings (map typed front) m ⊎ AmongMakings (map typed back) m
among-both [] back m a = inr a
among-both (x ∷ front) back m (inl e) = inl (inl e)
among-both (x ∷ front) back m (inr a) = further (among-both front back m a)
  where
    further : AmongMakings (map typed front) m ⊎ AmongMakings (map typed back) m → AmongMakings (map typed (x ∷ front)) m ⊎ AmongMakings (map typed back) m
    further (inl b) = inl (inr b)
    further (inr b) = inr b

null-header : (b : Bool) (x : Making) (m : MechMaking) → tag (typed x) ≡ 100 → AmongMakings (map typed (cond b (x ∷ []) [])) m → tag m ≡ 100
null-header true x m t (inl e) = tag-of m (typed x) e ∙ t
null-header true x m t (inr n) = absurd n
null-header false x m t n = absurd n

call-rest : (s : SessionState) (procedure : ℕ) (args : List ℕ) (m : MechMaking)
    → AmongMakings (map typed (header_making s 0 2 procedure ∷ header_making s 0 3 procedure ∷ header_making s 3 1 0
    ∷ mic_making (own_end s) (2 * s.number + 1) (word s.number ++ args) ∷ wrap_making (own_end s) (2 * s.number + 1) true (word s.number ++ args) ∷ [])) m → IsInitiators m
call-rest s procedure args m (inl e) = inl (tag-of m _ e)
call-rest s procedure args m (inr (inl e)) = inl (tag-of m _ e)
call-rest s procedure args m (inr (inr (inl e))) = inl (tag-of m _ e)
call-rest s procedure args m (inr (inr (inr (inl e)))) = inl (tag-of m _ e)
call-rest s procedure args m (inr (inr (inr (inr (inl e))))) = inr (tag-of m _ e)
call-rest s procedure args m (inr (inr (inr (inr (inr n))))) = absurd n

tag-calls : (s : SessionState) (procedure : ℕ) (args : List ℕ) (m : MechMaking) → AmongMakings (map typed (call_makings s procedure args)) m → IsInitiators m
tag-calls s procedure args m a = split (among-both (cond (procedure == 0) (header_making s 0 1 procedure ∷ []) []) _ m a)
  where
    split : AmongMakings (map typed (cond (procedure == 0) (header_making s 0 1 procedure ∷ []) [])) m
        ⊎ AmongMakings (map typed (header_making s 0 2 procedure ∷ header_making s 0 3 procedure ∷ header_making s 3 1 0
        ∷ mic_making (own_end s) (2 * s.number + 1) (word s.number ++ args) ∷ wrap_making (own_end s) (2 * s.number + 1) true (word s.number ++ args) ∷ [])) m → IsInitiators m
    split (inl a) = inl (null-header (procedure == 0) (header_making s 0 1 procedure) m refl a)
    split (inr a) = call-rest s procedure args m a

pub tag-call : (w : World) (i : ℕ) (own : PlainSetup) (m : MechMaking) → MadeCall w i own m → IsInitiators m
tag-call w i own m made = tag-calls made.session made.procedure made.args m made.made

-- ---- contexts

pub tag-answer : (x : Context) (m : MechMaking) → MadeAnswer x m → tag m ≡ 49
tag-answer x m made = tag-of m _ made.made

pub tag-signature : (scram : ScramLaws) (x : Context) (m : MechMaking) → MadeSignature x m → tag m ≡ 2
tag-signature scram x m made =
    let p = scram.accepts made.end made.text made.bindings made.now made.finished made.finishes in
    let among : AmongMakings (finish_with made.end p.third made.now (auth_with made.end p.third.bare)).makes m = subst (λ (a : AcceptFinished). AmongMakings a.makes m) p.same made.made in
    tag-of m _ (only m _ among)

pub tag-accept_mic : (x : Context) (m : MechMaking) → MadeAcceptMic x m → tag m ≡ 92
tag-accept_mic x m made = tag-of m _ made.made

abbrev IsAcceptors : MechMaking → Type 0
IsAcceptors m = (tag m ≡ 92) ⊎ (tag m ≡ 89)

tag-checked : (key : Key) (subkey : Bool) (number : ℕ) (octets : List ℕ) (m : MechMaking) → AmongMakings (map typed (mic_making (record { key = key; side = Acceptor; subkey = subkey }) number octets ∷ [])) m → tag m ≡ 92
tag-checked key subkey number octets m (inl e) = tag-of m _ e
tag-checked key subkey number octets m (inr n) = absurd n

tag-sealed : (key : Key) (subkey : Bool) (number : ℕ) (octets : List ℕ) (m : MechMaking) → AmongMakings (map typed (wrap_making (record { key = key; side = Acceptor; subkey = subkey }) number true octets ∷ [])) m → tag m ≡ 89
tag-sealed key subkey number octets m (inl e) = tag-of m _ e
tag-sealed key subkey number octets m (inr n) = absurd n

tag-results : (b c : Bool) (key : Key) (subkey : Bool) (number : ℕ) (octets : List ℕ) (m : MechMaking)
    → AmongMakings (map typed (cond b (mic_making (record { key = key; side = Acceptor; subkey = subkey }) number octets ∷ []) (cond c (wrap_making (record { key = key; side = Acceptor; subkey = subkey }) number true octets ∷ []) []))) m → IsAcceptors m
tag-results true c key subkey number octets m a = inl (tag-checked key subkey number octets m a)
tag-results false true key subkey number octets m a = inr (tag-sealed key subkey number octets m a)
tag-results false false key subkey number octets m a = absurd a

pub tag-result : (x : Context) (m : MechMaking) → MadeResult x m → IsAcceptors m
tag-result x m made =
    tag-results (made.service == 2) (made.service == 3) made.lease.outcome.key made.lease.outcome.subkey (2 * made.seq + 1)
    (word made.seq ++ made.result) m made.made

pub tag-word : (w : World) (m : MechMaking) → IsWordMic w m → tag m ≡ 92
tag-word w m made = tag-of m _ made.is_mic

-- ---- who handed it out

clash-init : {A : Type 0} (n : ℕ) (m : MechMaking) → IsInitiators m → tag m ≡ n → (n ≡ 100 → ⊥) → (n ≡ 97 → ⊥) → A
clash-init n m (inl a) t u v = absurd (u (sym t ∙ a))
clash-init n m (inr a) t u v = absurd (v (sym t ∙ a))

clash-accept : {A : Type 0} (n : ℕ) (m : MechMaking) → IsAcceptors m → tag m ≡ n → (n ≡ 92 → ⊥) → (n ≡ 89 → ⊥) → A
clash-accept n m (inl a) t u v = absurd (u (sym t ∙ a))
clash-accept n m (inr a) t u v = absurd (v (sym t ∙ a))

-- a context's answer to a request
pub record AnswerOf (w : World) (m : MechMaking) : Type 0 where
  pub place : ℕ
  pub context : Context
  pub there : slice_get w.fixed place ≡ Some context
  pub made : MadeAnswer context m

not-initiator : (scram : ScramLaws) (w : World) (i : ℕ) (own : PlainSetup) (m : MechMaking) (n : ℕ) → tag m ≡ n → (n ≡ 45 → ⊥) → (n ≡ 3 → ⊥) → (n ≡ 100 → ⊥) → (n ≡ 97 → ⊥) → InitMade w i own m → ⊥
not-initiator scram w i own m n t a b c d (inl made) = a (sym t ∙ tag-request own m made)
not-initiator scram w i own m n t a b c d (inr (inl made)) = b (sym t ∙ tag-proof scram own m made)
not-initiator scram w i own m n t a b c d (inr (inr (inl made))) = c (sym t ∙ tag-list_mic own m made)
not-initiator scram w i own m n t a b c d (inr (inr (inr made))) = clash-init n m (tag-call w i own m made) t c d

answer-made : (scram : ScramLaws) (x : Context) (m : MechMaking) → tag m ≡ 49 → ContextMade x m → MadeAnswer x m
answer-made scram x m t (inl made) = made
answer-made scram x m t (inr (inl made)) = absurd (omega (arith, t, tag-signature scram x m made))
answer-made scram x m t (inr (inr (inl made))) = absurd (omega (arith, t, tag-accept_mic x m made))
answer-made scram x m t (inr (inr (inr made))) = clash-accept 49 m (tag-result x m made) t (λ e. absurd (omega arith)) (λ e. absurd (omega arith))

pub from-answer : (scram : ScramLaws) (w : World) (m : MechMaking) → Owning w → WasMade w m → tag m ≡ 49 → AnswerOf w m
from-answer scram w m owning (inl among) t = by (owning.owned m among)
  where
    by : ByInitiator w m ⊎ ByContext w m → AnswerOf w m
    by (inl b) = absurd (not-initiator scram w b.i b.own m 49 t (λ e. absurd (omega arith)) (λ e. absurd (omega arith)) (λ e. absurd (omega arith)) (λ e. absurd (omega arith)) b.made)
    by (inr b) = record { place = b.place; context = b.context; there = b.there; made = answer-made scram b.context m t b.made }
from-answer scram w m owning (inr mic) t = absurd (omega (arith, t, tag-word w m mic))

-- an initiator's request
pub record RequestOf (w : World) (m : MechMaking) : Type 0 where
  pub i : ℕ
  pub own : PlainSetup
  pub there : slice_get w.facts i ≡ Some own
  pub made : MadeRequest own m
  pub among : AmongMakings w.makings m

pub not-context : (scram : ScramLaws) (x : Context) (m : MechMaking) (n : ℕ) → tag m ≡ n → (n ≡ 49 → ⊥) → (n ≡ 2 → ⊥) → (n ≡ 92 → ⊥) → (n ≡ 89 → ⊥) → ContextMade x m → ⊥
not-context scram x m n t a b c d (inl made) = a (sym t ∙ tag-answer x m made)
not-context scram x m n t a b c d (inr (inl made)) = b (sym t ∙ tag-signature scram x m made)
not-context scram x m n t a b c d (inr (inr (inl made))) = c (sym t ∙ tag-accept_mic x m made)
not-context scram x m n t a b c d (inr (inr (inr made))) = clash-accept n m (tag-result x m made) t c d

request-made : (scram : ScramLaws) (w : World) (i : ℕ) (own : PlainSetup) (m : MechMaking) → tag m ≡ 45 → InitMade w i own m → MadeRequest own m
request-made scram w i own m t (inl made) = made
request-made scram w i own m t (inr (inl made)) = absurd (omega (arith, t, tag-proof scram own m made))
request-made scram w i own m t (inr (inr (inl made))) = absurd (omega (arith, t, tag-list_mic own m made))
request-made scram w i own m t (inr (inr (inr made))) = clash-init 45 m (tag-call w i own m made) t (λ e. absurd (omega arith)) (λ e. absurd (omega arith))

pub from-request : (scram : ScramLaws) (w : World) (m : MechMaking) → Owning w → WasMade w m → tag m ≡ 45 → RequestOf w m
from-request scram w m owning (inl among) t = by (owning.owned m among)
  where
    by : ByInitiator w m ⊎ ByContext w m → RequestOf w m
    by (inl b) = record { i = b.i; own = b.own; there = b.there; made = request-made scram w b.i b.own m t b.made; among = among }
    by (inr b) = absurd (not-context scram b.context m 45 t (λ e. absurd (omega arith)) (λ e. absurd (omega arith)) (λ e. absurd (omega arith)) (λ e. absurd (omega arith)) b.made)
from-request scram w m owning (inr mic) t = absurd (omega (arith, t, tag-word w m mic))

-- an initiator's proof
pub record ProofOf (w : World) (m : MechMaking) : Type 0 where
  pub i : ℕ
  pub own : PlainSetup
  pub there : slice_get w.facts i ≡ Some own
  pub made : MadeProof own m
  pub among : AmongMakings w.makings m

proof-made : (scram : ScramLaws) (w : World) (i : ℕ) (own : PlainSetup) (m : MechMaking) → tag m ≡ 3 → InitMade w i own m → MadeProof own m
proof-made scram w i own m t (inl made) = absurd (omega (arith, t, tag-request own m made))
proof-made scram w i own m t (inr (inl made)) = made
proof-made scram w i own m t (inr (inr (inl made))) = absurd (omega (arith, t, tag-list_mic own m made))
proof-made scram w i own m t (inr (inr (inr made))) = clash-init 3 m (tag-call w i own m made) t (λ e. absurd (omega arith)) (λ e. absurd (omega arith))

pub from-proof : (scram : ScramLaws) (w : World) (m : MechMaking) → Owning w → WasMade w m → tag m ≡ 3 → ProofOf w m
from-proof scram w m owning (inl among) t = by (owning.owned m among)
  where
    by : ByInitiator w m ⊎ ByContext w m → ProofOf w m
    by (inl b) = record { i = b.i; own = b.own; there = b.there; made = proof-made scram w b.i b.own m t b.made; among = among }
    by (inr b) = absurd (not-context scram b.context m 3 t (λ e. absurd (omega arith)) (λ e. absurd (omega arith)) (λ e. absurd (omega arith)) (λ e. absurd (omega arith)) b.made)
from-proof scram w m owning (inr mic) t = absurd (omega (arith, t, tag-word w m mic))

-- a context's signature
pub record SignatureOf (w : World) (m : MechMaking) : Type 0 where
  pub place : ℕ
  pub context : Context
  pub there : slice_get w.fixed place ≡ Some context
  pub made : MadeSignature context m

signature-made : (scram : ScramLaws) (x : Context) (m : MechMaking) → tag m ≡ 2 → ContextMade x m → MadeSignature x m
signature-made scram x m t (inl made) = absurd (omega (arith, t, tag-answer x m made))
signature-made scram x m t (inr (inl made)) = made
signature-made scram x m t (inr (inr (inl made))) = absurd (omega (arith, t, tag-accept_mic x m made))
signature-made scram x m t (inr (inr (inr made))) = clash-accept 2 m (tag-result x m made) t (λ e. absurd (omega arith)) (λ e. absurd (omega arith))

pub from-signature : (scram : ScramLaws) (w : World) (m : MechMaking) → Owning w → WasMade w m → tag m ≡ 2 → SignatureOf w m
from-signature scram w m owning (inl among) t = by (owning.owned m among)
  where
    by : ByInitiator w m ⊎ ByContext w m → SignatureOf w m
    by (inl b) = absurd (not-initiator scram w b.i b.own m 2 t (λ e. absurd (omega arith)) (λ e. absurd (omega arith)) (λ e. absurd (omega arith)) (λ e. absurd (omega arith)) b.made)
    by (inr b) = record { place = b.place; context = b.context; there = b.there; made = signature-made scram b.context m t b.made }
from-signature scram w m owning (inr mic) t = absurd (omega (arith, t, tag-word w m mic))

-- a MIC of an acceptor: over a list that came, in a result, or over a word
pub record MicOf (w : World) (m : MechMaking) : Type 0 where
  pub place : ℕ
  pub context : Context
  pub there : slice_get w.fixed place ≡ Some context
  pub made : MadeAcceptMic context m ⊎ MadeResult context m

mic-made : (scram : ScramLaws) (x : Context) (m : MechMaking) → tag m ≡ 92 → ContextMade x m → MadeAcceptMic x m ⊎ MadeResult x m
mic-made scram x m t (inl made) = absurd (omega (arith, t, tag-answer x m made))
mic-made scram x m t (inr (inl made)) = absurd (omega (arith, t, tag-signature scram x m made))
mic-made scram x m t (inr (inr made)) = made

pub from-mic : (scram : ScramLaws) (w : World) (m : MechMaking) → Owning w → WasMade w m → tag m ≡ 92 → MicOf w m ⊎ IsWordMic w m
from-mic scram w m owning (inl among) t = by (owning.owned m among)
  where
    by : ByInitiator w m ⊎ ByContext w m → MicOf w m ⊎ IsWordMic w m
    by (inl b) = absurd (not-initiator scram w b.i b.own m 92 t (λ e. absurd (omega arith)) (λ e. absurd (omega arith)) (λ e. absurd (omega arith)) (λ e. absurd (omega arith)) b.made)
    by (inr b) = inl (record { place = b.place; context = b.context; there = b.there; made = mic-made scram b.context m t b.made })
from-mic scram w m owning (inr mic) t = inr mic
