-- What a call's makings are, and what a body carries.
use Rattle.std.proofs.Common.{◌≡◌, ◌⊎◌, inl, inr, ℕ, ◌+◌, ◌-◌, ◌*◌, ◌≤◌, Bool, true, false, cond, refl, sym, ◌∙◌, ap, arith, List, [], ◌∷◌, ◌++◌, length, take, drop, map, Some, Result, Ok, Err, nat_lt}
use Rattle.std.specs.Prelude.{◌==◌, if◌then◌else◌}
use Rattle.std.specs.Int.{w32, from_be_bytes}
use Rattle.std.proofs.lemmas.Bool.{eqb-true}
use Rattle.std.proofs.lemmas.Bool.Decides.{nat_tests}
use Rattle.std.proofs.lemmas.List.{length-append}
use Rattle.std.proofs.lemmas.Option.{none-some, same_Some}
use Rattle.std.proofs.Math.Seq.{take-append_seam, drop-append_seam}
use Rattle.krb_derive.specs.Making.{Making}
use Rattle.krb_tokens.specs.declared.end.TokenEnd.{TokenEnd}
use Rattle.krb_tokens.specs.Wrap.{wrap_header, word_of}
use Rattle.krb_tokens.specs.Makings.{mic_making, wrap_making, content_of}
use Rattle.rpc_msgs.specs.Words.{word}
use Rattle.rpc_msgs.specs.declared.xdr_reader.XdrRefusal.{XdrRefusal}
use Rattle.rpc_msgs.specs.declared.xdr_reader.XdrWhy.TheVariants.{Short}
use Rattle.rpc_msgs.specs.Xdr.{Input, whole, behind, refusal, octets_at, word_at}
use Rattle.rpc_msgs.proofs.XdrLaws.{ok_is}
use Rattle.rpcsec_bodies.specs.Carried.{IsNumbered, IsCheckedBody, IsSealedBody, IsBody}
use Rattle.rpcsec_bodies.specs.Opening.{unprotected}
use Rattle.rpcsec_bodies.specs.Service.{service_of}
use Rattle.rpcsec_bodies.specs.declared.refusal.BodyRefusal.{BodyRefusal}
use Rattle.rpcsec_bodies.specs.declared.service.Service.TheVariants as services
use Rattle.rpcsec_bodies.proofs.Taken.{held-by}
use Rattle.rpcsec_msgs.specs.Cred.{CredValue}
use Rattle.scram_mech.specs.MechMaking.{MechMaking, AmongMakings, typed}
use Rattle.accept_book.specs.RecordShown.{taken_args, body_args}
use Rattle.gss_client.specs.Calling.{own_end}
use Rattle.gss_client.specs.Session.{SessionState}
use Rattle.world_laws.specs.Initiators.{header_making, call_makings}

-- ---- octets that end alike

pub same-heads : (n : ℕ) (a b x y : List ℕ) → length x ≡ n → length y ≡ n → a ++ x ≡ b ++ y → a ≡ b
same-heads n a b x y p q e =
    let first = length-append a x in
    let second = length-append b y in
    let all = ap length e in
    let long : length a ≡ length b = omega (arith, first, second, all, p, q) in
    sym (take-append_seam a x) ∙ (ap (take (length a)) e ∙ (ap (λ k. take k (b ++ y)) long ∙ take-append_seam b y))

no-extra : (end : TokenEnd) (number : ℕ) → word_of (wrap_header end true 0 0 number) 4 ≡ 0
unfolding wrap_header
no-extra end number = refl

-- the content of what a caller seals
pub content-sealed : (end : TokenEnd) (number : ℕ) (content : List ℕ) → length (wrap_header end true 0 0 number) ≡ 16 → content_of (content ++ wrap_header end true 0 0 number) ≡ content
content-sealed end number content long =
    let size : length (content ++ wrap_header end true 0 0 number) - 16 ≡ length content = let all = length-append content (wrap_header end true 0 0 number) in omega (arith, all, long) in
    let last : drop (length (content ++ wrap_header end true 0 0 number) - 16) (content ++ wrap_header end true 0 0 number) ≡ wrap_header end true 0 0 number =
    ap (λ k. drop k (content ++ wrap_header end true 0 0 number)) size ∙ drop-append_seam content (wrap_header end true 0 0 number) in
    let none : word_of (drop (length (content ++ wrap_header end true 0 0 number) - 16) (content ++ wrap_header end true 0 0 number)) 4 ≡ 0 = ap (λ h. word_of h 4) last ∙ no-extra end number in
    let cut : length (content ++ wrap_header end true 0 0 number) - 16 - word_of (drop (length (content ++ wrap_header end true 0 0 number) - 16) (content ++ wrap_header end true 0 0 number)) 4 ≡ length content = omega (arith, none, size) in
    ap (λ k. take k (content ++ wrap_header end true 0 0 number)) cut ∙ take-append_seam content (wrap_header end true 0 0 number)

-- ---- the makings of a call

-- of a header: of the call with a service, or of the destruction
pub record HeaderMaking (s : SessionState) (procedure : ℕ) (m : MechMaking) : Type 0 where
  pub proc : ℕ
  pub service : ℕ
  pub named : ℕ
  pub is : m ≡ typed (header_making s proc service named)
  pub proc_low : proc ≤ 3
  pub service_low : 1 ≤ service
  pub service_high : service ≤ 3
  pub of_data : proc ≡ 0 → (named ≡ procedure) × (service ≡ 1 → procedure ≡ 0)
  pub small : (named ≡ procedure) ⊎ (named ≡ 0)

-- of a body
abbrev pub BodyMaking : SessionState → List ℕ → MechMaking → Type 0
BodyMaking s args m = m ≡ typed (mic_making (own_end s) (2 * s.number + 1) (word s.number ++ args))

abbrev pub SealedMaking : SessionState → List ℕ → MechMaking → Type 0
SealedMaking s args m = m ≡ typed (wrap_making (own_end s) (2 * s.number + 1) true (word s.number ++ args))

abbrev OneOf : SessionState → ℕ → List ℕ → MechMaking → Type 0
OneOf s procedure args m = HeaderMaking s procedure m ⊎ (BodyMaking s args m ⊎ SealedMaking s args m)

rest-of : (s : SessionState) (procedure : ℕ) (args : List ℕ) (m : MechMaking)
    → AmongMakings (map typed (header_making s 0 2 procedure ∷ header_making s 0 3 procedure ∷ header_making s 3 1 0
    ∷ mic_making (own_end s) (2 * s.number + 1) (word s.number ++ args) ∷ wrap_making (own_end s) (2 * s.number + 1) true (word s.number ++ args) ∷ [])) m → OneOf s procedure args m
rest-of s procedure args m (inl e) = inl (record {
  proc = 0;
  service = 2;
  named = procedure;
  is = e;
  proc_low = omega arith;
  service_low = omega arith;
  service_high = omega arith;
  of_data = λ z. (refl, λ q. absurd (omega (arith, q)));
  small = inl refl;
})
rest-of s procedure args m (inr (inl e)) = inl (record {
  proc = 0;
  service = 3;
  named = procedure;
  is = e;
  proc_low = omega arith;
  service_low = omega arith;
  service_high = omega arith;
  of_data = λ z. (refl, λ q. absurd (omega (arith, q)));
  small = inl refl;
})
rest-of s procedure args m (inr (inr (inl e))) = inl (record {
  proc = 3;
  service = 1;
  named = 0;
  is = e;
  proc_low = omega arith;
  service_low = omega arith;
  service_high = omega arith;
  of_data = λ z. absurd (omega (arith, z));
  small = inr refl;
})
rest-of s procedure args m (inr (inr (inr (inl e)))) = inr (inl e)
rest-of s procedure args m (inr (inr (inr (inr (inl e))))) = inr (inr e)
rest-of s procedure args m (inr (inr (inr (inr (inr n))))) = absurd n

bare-of : (b : Bool) (s : SessionState) (procedure : ℕ) (args : List ℕ) (m : MechMaking) → (procedure == 0) ≡ b → AmongMakings (map typed (cond b (header_making s 0 1 procedure ∷ []) [])) m → OneOf s procedure args m
bare-of true s procedure args m z (inl e) = inl (record {
  proc = 0;
  service = 1;
  named = procedure;
  is = e;
  proc_low = omega arith;
  service_low = omega arith;
  service_high = omega arith;
  of_data = λ p. (refl, λ q. eqb-true procedure 0 z);
  small = inl refl;
})
bare-of true s procedure args m z (inr n) = absurd n
bare-of false s procedure args m z n = absurd n

among-split : (front back : List Making) (m : MechMaking) → AmongMakings (map typed (front ++ back)) m → AmongMakings (map typed front) m ⊎ AmongMakings (map typed back) m
among-split [] back m a = inr a
among-split (x ∷ front) back m (inl e) = inl (inl e)
among-split (x ∷ front) back m (inr a) = elim (among-split front back m a) [ inl b ↦ inl (inr b) | inr b ↦ inr b ]

pub one-of : (s : SessionState) (procedure : ℕ) (args : List ℕ) (m : MechMaking) → AmongMakings (map typed (call_makings s procedure args)) m → OneOf s procedure args m
one-of s procedure args m a = elim (among-split (cond (procedure == 0) (header_making s 0 1 procedure ∷ []) []) _ m a) [
  | inl b ↦ bare-of (procedure == 0) s procedure args m refl b
  | inr b ↦ rest-of s procedure args m b
]

-- ---- a body

pub record NumberedBy (seq : ℕ) (databody args : List ℕ) : Type 0 where
  pub long : 4 ≤ length databody
  pub number : from_be_bytes w32 (take 4 databody) ≡ seq
  pub args_is : args ≡ drop 4 databody

-- the number in front of octets, where there are four
abbrev word_by : Bool → List ℕ → Result (ℕ × Input) XdrRefusal
word_by true databody = Err (refusal Short (length databody))
word_by false databody = Ok (from_be_bytes w32 (take 4 databody), behind 4 (whole databody))

word-by : (databody : List ℕ) (b : Bool) → nat_lt (length databody) 4 ≡ b → word_at (whole databody) ≡ word_by b databody
unfolding word_at octets_at
word-by databody true e = rw e refl
word-by databody false e = rw e refl

pub numbered-by : (seq : ℕ) (databody args : List ℕ) → IsNumbered seq databody args → NumberedBy seq databody args
numbered-by seq databody args n = by (nat_lt (length databody) 4) refl (sym (word-by databody (nat_lt (length databody) 4) refl) ∙ n.read)
  where
    by : (b : Bool) → nat_lt (length databody) 4 ≡ b → word_by b databody ≡ Ok (seq, n.rest) → NumberedBy seq databody args
    by true p f = cc
    by false p f =
        let same = ok_is {E = XdrRefusal} (from_be_bytes w32 (take 4 databody), behind 4 (whole databody)) (seq, n.rest) f in
        record { long = grind (arith, nat_tests); number = ap (λ (x : ℕ × Input). x.0) same; args_is = n.content_is ∙ sym (ap (λ (x : ℕ × Input). x.1.octets) same) }

abbrev pub BodyBy : TokenEnd → CredValue → List ℕ → List ℕ → Type 0
BodyBy end cred body args =
    ((cred.service ≡ 1) × (body ≡ args)) ⊎ (((cred.service ≡ 2) × IsCheckedBody end cred.seq body args) ⊎ (((cred.service == 1) ≡ false) × ((cred.service == 2) ≡ false) × IsSealedBody end cred.seq body args))

taken-is : (r : Result (List ℕ) BodyRefusal) (args : List ℕ) → taken_args r ≡ Some args → r ≡ Ok args
taken-is (Ok x) args e = ap (λ (o : List ℕ). Ok o) (same_Some x args e)
taken-is (Err refusal) args e = absurd (none-some args e)

pub body-by : (end : TokenEnd) (cred : CredValue) (body args : List ℕ) → body_args end cred body ≡ Some args → BodyBy end cred body args
unfolding body_args
body-by end cred body args e =
    by (cred.service == 1) (cred.service == 2) refl refl (held-by end (service_of cred.service) cred.seq body args (taken-is (unprotected end (service_of cred.service) cred.seq body) args e))
  where
    by : (b c : Bool) → (cred.service == 1) ≡ b → (cred.service == 2) ≡ c → IsBody end (if b then services.None else if c then services.Integrity else services.Privacy) cred.seq body args → BodyBy end cred body args
    by true c p q f = inl (eqb-true cred.service 1 p, sym f)
    by false true p q f = inr (inl (eqb-true cred.service 2 q, f))
    by false false p q f = inr (inr (p, q, f))
