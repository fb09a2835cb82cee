-- Whose call a record is, that was found verified under a key: by its header, and by its body.
use Rattle.std.proofs.Common.{◌≡◌, ◌⊎◌, inl, inr, ℕ, ◌+◌, ◌*◌, ◌<◌, ◌≤◌, ◌^◌, Bool, true, false, nat_le, refl, sym, ◌∙◌, ap, subst, arith, List, [], ◌∷◌, ◌++◌, length, length-append, take, drop}
use Rattle.std.specs.Int.{w32, from_be_bytes}
use Rattle.krb_derive.specs.declared.key.Key.{Key}
use Rattle.krb_derive.specs.Making.{check_making, sealed_making}
use Rattle.krb_tokens.specs.declared.end.Side.TheVariants.{Initiator}
use Rattle.krb_tokens.specs.Laws.{Laws as TokenLaws}
use Rattle.krb_tokens.specs.Mic.{mic_header}
use Rattle.krb_tokens.specs.Wrap.{wrap_header}
use Rattle.krb_tokens.specs.Makings.{content_of}
use Rattle.rpc_msgs.specs.Words.{word}
use Rattle.rpc_msgs.specs.Calls.{CallValue}
use Rattle.rpc_msgs.proofs.WordLengths.{length-word}
use Rattle.rpcsec_msgs.specs.Cred.{CredValue}
use Rattle.scram_mech.specs.MechMaking.{OfType, MechMaking, typed}
use Rattle.spnego_msgs.specs.Lists.{list_octets}
use Rattle.spnego_core.specs.Ends.{PlainSetup}
use Rattle.spnego_core.specs.Initiating.{own_list}
use Rattle.spnego_core.specs.Outcome.{token_end}
use Rattle.gss_client.specs.Calling.{own_end, header_of}
use Rattle.gss_client.specs.Session.{SessionState}
use Rattle.told_apart.specs.Apart.{NoHeader, NoList}
use Rattle.world_laws.specs.State.{World}
use Rattle.world_laws.specs.Premises.{WasMade, Completed}
use Rattle.world_laws.proofs.Makers.{tag, tag-word}
use Rattle.told_apart.proofs.Places.{word_of, drop-drop}
use Rattle.world_laws.proofs.OriginReading.{Told}
use Rattle.world_laws.proofs.OriginWords.{header-kind, header-version, header-procedure, header-proc, header-seq, header-service, header-long, number-first, args-behind}
use Rattle.world_laws.proofs.ListOctets.{IsHigh, high-list}
use Rattle.world_laws.proofs.OriginShown.{same-heads, content-sealed, HeaderMaking, BodyMaking, SealedMaking, one-of, NumberedBy}
use Rattle.world_laws.proofs.OriginCalls.{OwnListMic, Uncalled, Called, CalledMaking, Fitting, Calls}

-- ---- what was handed out, by its tag

pub of-made : (called : Called) (w : World) (m : MechMaking) → Calls called w → (tag m ≡ 92 → ⊥) → WasMade w m → CalledMaking called w m ⊎ Uncalled m
of-made called w m calls not (inl among) = calls.made m among
of-made called w m calls not (inr mic) = absurd (not (tag-word w m mic))

-- two checks of octets with 16 octets behind them
check-octets : (key last : Key) (a b x y : List ℕ) → length x ≡ 16 → length y ≡ 16 → typed (check_making key 25 (a ++ x)) ≡ typed (check_making last 25 (b ++ y)) → (a ≡ b) × (last ≡ key)
check-octets key last a b x y p q e = (same-heads 16 a b x y p q (ap (λ (m : MechMaking). m.octets) e), key-of last key (sym (ap (λ (m : MechMaking). m.key) e)))
  where
    key-of : (k l : Key) → OfType k ≡ OfType l → k ≡ l
    key-of k l f = cc

-- octets that are no list: their second word isn't so high, or they are few
pub no-list : (tokens : TokenLaws) (key : Key) (octets header : List ℕ) → length header ≡ 16 → (IsHigh octets → ⊥) → OwnListMic (typed (check_making key 25 (octets ++ header))) → ⊥
no-list tokens key octets header long not l =
    let is = (check-octets key l.made.outcome.key octets (list_octets (own_list l.own)) header (mic_header (token_end l.made.outcome Initiator) 0) long (tokens.long_mic (token_end l.made.outcome Initiator) 0) l.made.made).0 in
    not (subst IsHigh (sym is) (high-list l.own.list l.sized))

-- ---- a header

-- a call with this number, which is of this procedure where it is of data; without protection of procedure 0 alone
pub record HeaderFrom (called : Called) (w : World) (key : Key) (call : CallValue) (cred : CredValue) : Type 0 where
  pub i : ℕ
  pub own : PlainSetup
  pub session : SessionState
  pub procedure : ℕ
  pub args : List ℕ
  pub was : called i session.number procedure args
  pub completed : Completed w i own session.outcome
  pub key_is : session.outcome.key ≡ key
  pub number_is : session.number ≡ cred.seq
  pub service_low : 1 ≤ cred.service
  pub service_high : cred.service ≤ 3
  pub of_data : cred.proc ≡ 0 → (procedure ≡ call.procedure) × (cred.service ≡ 1 → procedure ≡ 0)
  pub left : cred.proc ≡ 0 → nat_le session.number 0x7fffffff ≡ true

-- the word behind a body's number and its arguments' first
second-behind : (n : ℕ) (args : List ℕ) → word_of 8 (word n ++ args) ≡ word_of 4 args
unfolding word
second-behind n args = refl

no-body : (header args : List ℕ) (n : ℕ) → NoHeader args → word_of 4 header ≡ 0 → word_of 8 header ≡ 2 → 48 ≤ length header → header ≡ word n ++ args → ⊥
no-body header args n apart zero_is two_is long is =
    let first : word_of 4 header ≡ word_of 0 args = ap (word_of 4) is ∙ ap (word_of 0) (args-behind n args) in
    let second : word_of 8 header ≡ word_of 4 args = ap (word_of 8) is ∙ second-behind n args in
    let few : length args < 44 = apart.few (sym first ∙ zero_is) (sym second ∙ two_is) in
    let size : length header ≡ length (word n) + length args = ap length is ∙ length-append (word n) args in
    let four = length-word n in
    omega (arith, few, size, four, long)

header-of-call : (called : Called) (w : World) (key : Key) (header : List ℕ) (call : CallValue) (cred : CredValue) (m : MechMaking) (by : CalledMaking called w m) → Calls called w → Told header call cred
    → (h : HeaderMaking by.session by.procedure m) → header ≡ header_of by.session h.proc h.service h.named → by.session.outcome.key ≡ key
    → (nat_le by.session.number 0x7fffffff ≡ false → header ≡ header_of by.session 3 1 0) → HeaderFrom called w key call cred
header-of-call called w key header call cred m by calls t h is key_is spent =
    let f : Fitting by.session.number by.procedure by.args = calls.fits by.i by.session.number by.procedure by.args by.was in
    let low = f.low in
    let served = f.served in
    let proc_low = h.proc_low in
    let service_low = h.service_low in
    let service_high = h.service_high in
    let named : h.named < 2 ^ 32 = small-name h.named by.procedure h.small served in
    let proc_is : cred.proc ≡ h.proc = t.proc ∙ (ap (word_of 36) is ∙ header-proc by.session h.proc h.service h.named (omega (arith, proc_low))) in
    let seq_is : cred.seq ≡ by.session.number = t.seq ∙ (ap (word_of 40) is ∙ header-seq by.session h.proc h.service h.named (omega (arith, low))) in
    let service_is : cred.service ≡ h.service = t.service ∙ (ap (word_of 44) is ∙ header-service by.session h.proc h.service h.named (omega (arith, service_high))) in
    let procedure_is : call.procedure ≡ h.named = t.procedure ∙ (ap (word_of 20) is ∙ header-procedure by.session h.proc h.service h.named named) in
    record {
      i = by.i;
      own = by.own;
      session = by.session;
      procedure = by.procedure;
      args = by.args;
      was = by.was;
      completed = by.completed;
      key_is = key_is;
      number_is = sym seq_is;
      service_low = omega (arith, service_is, service_low);
      service_high = omega (arith, service_is, service_high);
      of_data = λ z. (let d = h.of_data (sym proc_is ∙ z) in (sym d.0 ∙ sym procedure_is, λ q. d.1 (sym service_is ∙ q)));
      left = λ z. is-left (nat_le by.session.number 0x7fffffff) refl z;
    }
  where
    small-name : (name procedure : ℕ) → (name ≡ procedure) ⊎ (name ≡ 0) → procedure < 2 ^ 32 → name < 2 ^ 32
    small-name name procedure (inl e) served = subst (λ (k : ℕ). k < 2 ^ 32) (sym e) served
    small-name name procedure (inr e) served = omega (arith, e)

    -- what is handed out after the last call is no header of data
    is-left : (b : Bool) → nat_le by.session.number 0x7fffffff ≡ b → cred.proc ≡ 0 → nat_le by.session.number 0x7fffffff ≡ true
    is-left true e z = e
    is-left false e z = absurd (let three : cred.proc ≡ 3 = t.proc ∙ (ap (word_of 36) (spent e) ∙ header-proc by.session 3 1 0 (omega arith)) in omega (arith, z, three))

header-by : (called : Called) (tokens : TokenLaws) (w : World) (key : Key) (header tail : List ℕ) (call : CallValue) (cred : CredValue) → Calls called w → Told header call cred → length tail ≡ 16
    → (by : CalledMaking called w (typed (check_making key 25 (header ++ tail))))
    → HeaderMaking by.session by.procedure (typed (check_making key 25 (header ++ tail))) ⊎ (BodyMaking by.session by.args (typed (check_making key 25 (header ++ tail))) ⊎ SealedMaking by.session by.args (typed (check_making key 25 (header ++ tail))))
    → HeaderFrom called w key call cred
header-by called tokens w key header tail call cred calls t long by (inl h) =
    let same = check-octets key by.session.outcome.key header (header_of by.session h.proc h.service h.named) tail (mic_header (own_end by.session) (2 * by.session.number)) long (tokens.long_mic (own_end by.session) (2 * by.session.number)) h.is in
    header-of-call called w key header call cred _ by calls t h same.0 same.1
    (λ over. (check-octets key by.session.outcome.key header (header_of by.session 3 1 0) tail (mic_header (own_end by.session) (2 * by.session.number)) long (tokens.long_mic (own_end by.session) (2 * by.session.number)) (by.spent over)).0)
header-by called tokens w key header tail call cred calls t long by (inr (inl b)) =
    let same = check-octets key by.session.outcome.key header (word by.session.number ++ by.args) tail (mic_header (own_end by.session) (2 * by.session.number + 1)) long (tokens.long_mic (own_end by.session) (2 * by.session.number + 1)) b in
    let f : Fitting by.session.number by.procedure by.args = calls.fits by.i by.session.number by.procedure by.args by.was in
    absurd (no-body header by.args by.session.number f.apart t.kind t.version t.long same.0)
header-by called tokens w key header tail call cred calls t long by (inr (inr s)) = absurd (let e = ap tag s in omega (arith, e))

pub header-from : (called : Called) (tokens : TokenLaws) (w : World) (key : Key) (header tail : List ℕ) (call : CallValue) (cred : CredValue) → Calls called w → Told header call cred → length tail ≡ 16
    → WasMade w (typed (check_making key 25 (header ++ tail))) → HeaderFrom called w key call cred
header-from called tokens w key header tail call cred calls t long made =
    elim (of-made called w (typed (check_making key 25 (header ++ tail))) calls (λ e. absurd (omega (arith, e))) made) [
      | inl by ↦ header-by called tokens w key header tail call cred calls t long by (one-of by.session by.procedure by.args _ by.made)
      | inr un ↦ absurd (no-list tokens key header tail long (λ high. (let h = high.high in let k = t.kind in omega (arith, h, k))) (un.signed refl))
    ]

-- ---- a body

-- a call with this number and these arguments
pub record BodyFrom (called : Called) (w : World) (key : Key) (seq : ℕ) (args : List ℕ) : Type 0 where
  pub i : ℕ
  pub own : PlainSetup
  pub session : SessionState
  pub procedure : ℕ
  pub was : called i session.number procedure args
  pub completed : Completed w i own session.outcome
  pub key_is : session.outcome.key ≡ key
  pub number_is : session.number ≡ seq

body-of-call : (called : Called) (w : World) (key : Key) (seq : ℕ) (octets args : List ℕ) (m : MechMaking) (by : CalledMaking called w m) → Calls called w → NumberedBy seq octets args → octets ≡ word by.session.number ++ by.args
    → by.session.outcome.key ≡ key → BodyFrom called w key seq args
body-of-call called w key seq octets args m by calls n is key_is =
    let f : Fitting by.session.number by.procedure by.args = calls.fits by.i by.session.number by.procedure by.args by.was in
    let low = f.low in
    let args_is : by.args ≡ args = sym (n.args_is ∙ (ap (drop 4) is ∙ args-behind by.session.number by.args)) in
    record {
      i = by.i;
      own = by.own;
      session = by.session;
      procedure = by.procedure;
      was = subst (λ a. called by.i by.session.number by.procedure a) args_is by.was;
      completed = by.completed;
      key_is = key_is;
      number_is = sym (sym n.number ∙ (ap (word_of 0) is ∙ number-first by.session.number by.args (omega (arith, low))));
    }

-- a body's second word is its arguments' first
second-word : (seq : ℕ) (octets args : List ℕ) → NumberedBy seq octets args → (word_of 4 octets ≡ word_of 0 args) × (length octets ≡ 4 + length args)
second-word seq octets args n = (ap (word_of 0) (sym n.args_is), cut octets args n.long n.args_is)
  where
    cut : (xs ys : List ℕ) → 4 ≤ length xs → ys ≡ drop 4 xs → length xs ≡ 4 + length ys
    cut [] ys h e = absurd (omega (arith, h))
    cut (a ∷ []) ys h e = absurd (omega (arith, h))
    cut (a ∷ b ∷ []) ys h e = absurd (omega (arith, h))
    cut (a ∷ b ∷ c ∷ []) ys h e = absurd (omega (arith, h))
    cut (a ∷ b ∷ c ∷ d ∷ zs) ys h e = let same = ap length e in omega (arith, same)

-- and the one behind it their second
third-word : (seq : ℕ) (octets args : List ℕ) → NumberedBy seq octets args → word_of 4 args ≡ word_of 8 octets
third-word seq octets args n = ap (word_of 4) n.args_is ∙ ap (λ (k : List ℕ). from_be_bytes w32 (take 4 k)) (drop-drop 4 4 octets)

no-header : (seq : ℕ) (octets args : List ℕ) (s : SessionState) (proc service named : ℕ) → NoHeader args → NumberedBy seq octets args → octets ≡ header_of s proc service named → ⊥
no-header seq octets args s proc service named apart n is =
    let second = second-word seq octets args n in
    let size = second.1 in
    let few : length args < 44 = apart.few (sym second.0 ∙ (ap (word_of 4) is ∙ header-kind s proc service named)) (third-word seq octets args n ∙ (ap (word_of 8) is ∙ header-version s proc service named)) in
    let long : 48 ≤ length octets = subst (λ k. 48 ≤ length k) (sym is) (header-long s proc service named) in
    omega (arith, few, size, long)

not-high : (seq : ℕ) (octets args : List ℕ) → NoList args → NumberedBy seq octets args → IsHigh octets → ⊥
not-high seq octets args apart n high =
    let second = second-word seq octets args n in
    let size = second.1 in
    let long = high.long in
    let short = high.short in
    apart.other high.name (omega (arith, size, long)) (omega (arith, size, short)) (sym second.0 ∙ high.is)

checked-case : (called : Called) (tokens : TokenLaws) (w : World) (key : Key) (seq : ℕ) (octets tail args : List ℕ) → Calls called w → NoHeader args → NoList args → NumberedBy seq octets args → length tail ≡ 16
    → (by : CalledMaking called w (typed (check_making key 25 (octets ++ tail))))
    → HeaderMaking by.session by.procedure (typed (check_making key 25 (octets ++ tail))) ⊎ (BodyMaking by.session by.args (typed (check_making key 25 (octets ++ tail))) ⊎ SealedMaking by.session by.args (typed (check_making key 25 (octets ++ tail))))
    → BodyFrom called w key seq args
checked-case called tokens w key seq octets tail args calls apart other n long by (inl h) =
    let same = check-octets key by.session.outcome.key octets (header_of by.session h.proc h.service h.named) tail (mic_header (own_end by.session) (2 * by.session.number)) long (tokens.long_mic (own_end by.session) (2 * by.session.number)) h.is in
    absurd (no-header seq octets args by.session h.proc h.service h.named apart n same.0)
checked-case called tokens w key seq octets tail args calls apart other n long by (inr (inl b)) =
    let same = check-octets key by.session.outcome.key octets (word by.session.number ++ by.args) tail (mic_header (own_end by.session) (2 * by.session.number + 1)) long (tokens.long_mic (own_end by.session) (2 * by.session.number + 1)) b in
    body-of-call called w key seq octets args _ by calls n same.0 same.1
checked-case called tokens w key seq octets tail args calls apart other n long by (inr (inr s)) = absurd (let e = ap tag s in omega (arith, e))

pub checked-from : (called : Called) (tokens : TokenLaws) (w : World) (key : Key) (seq : ℕ) (octets tail args : List ℕ) → Calls called w → NoHeader args → NoList args → NumberedBy seq octets args → length tail ≡ 16
    → WasMade w (typed (check_making key 25 (octets ++ tail))) → BodyFrom called w key seq args
checked-from called tokens w key seq octets tail args calls apart other n long made =
    elim (of-made called w (typed (check_making key 25 (octets ++ tail))) calls (λ e. absurd (omega (arith, e))) made) [
      | inl by ↦ checked-case called tokens w key seq octets tail args calls apart other n long by (one-of by.session by.procedure by.args _ by.made)
      | inr un ↦ absurd (no-list tokens key octets tail long (not-high seq octets args other n) (un.signed refl))
    ]

sealed-plain : (key last : Key) (a b : List ℕ) → typed (sealed_making key 24 a) ≡ typed (sealed_making last 24 b) → (a ≡ b) × (last ≡ key)
sealed-plain key last a b e = (ap (λ (m : MechMaking). m.octets) e, key-of last key (sym (ap (λ (m : MechMaking). m.key) e)))
  where
    key-of : (k l : Key) → OfType k ≡ OfType l → k ≡ l
    key-of k l f = cc

sealed-case : (called : Called) (tokens : TokenLaws) (w : World) (key : Key) (seq : ℕ) (plain args : List ℕ) → Calls called w → NumberedBy seq (content_of plain) args
    → (by : CalledMaking called w (typed (sealed_making key 24 plain)))
    → HeaderMaking by.session by.procedure (typed (sealed_making key 24 plain)) ⊎ (BodyMaking by.session by.args (typed (sealed_making key 24 plain)) ⊎ SealedMaking by.session by.args (typed (sealed_making key 24 plain)))
    → BodyFrom called w key seq args
sealed-case called tokens w key seq plain args calls n by (inl h) = absurd (let e = ap tag h.is in omega (arith, e))
sealed-case called tokens w key seq plain args calls n by (inr (inl b)) = absurd (let e = ap tag b in omega (arith, e))
sealed-case called tokens w key seq plain args calls n by (inr (inr s)) =
    let same = sealed-plain key by.session.outcome.key plain ((word by.session.number ++ by.args) ++ wrap_header (own_end by.session) true 0 0 (2 * by.session.number + 1)) s in
    body-of-call called w key seq (content_of plain) args _ by calls n
    (ap content_of same.0 ∙ content-sealed (own_end by.session) (2 * by.session.number + 1) (word by.session.number ++ by.args) (tokens.long_wrap (own_end by.session) true 0 0 (2 * by.session.number + 1))) same.1

pub sealed-from : (called : Called) (tokens : TokenLaws) (w : World) (key : Key) (seq : ℕ) (plain args : List ℕ) → Calls called w → NumberedBy seq (content_of plain) args → WasMade w (typed (sealed_making key 24 plain))
    → BodyFrom called w key seq args
sealed-from called tokens w key seq plain args calls n made =
    elim (of-made called w (typed (sealed_making key 24 plain)) calls (λ e. absurd (omega (arith, e))) made) [
      | inl by ↦ sealed-case called tokens w key seq plain args calls n by (one-of by.session by.procedure by.args _ by.made)
      | inr un ↦ absurd (un.sealed refl)
    ]
