-- What a body that was taken carries.
use Rattle.std.specs.Prelude.{◌==◌}
use Rattle.std.proofs.Common.{◌≡◌, ◌<◌, ◌^◌, ℕ, Bool, true, false, List, ◌++◌, length, refl, ap, sym, ◌∙◌, eqb-true, arith, Result, Ok, Err, IfOk}
use Rattle.std.proofs.lemmas.Bool.Decides.{nat_tests}
use Rattle.sec_base.specs.Answers.{Gives}
use Rattle.krb_tokens.specs.declared.end.TokenEnd.{TokenEnd}
use Rattle.krb_tokens.specs.Mic.{checked_mic}
use Rattle.krb_tokens.specs.Wrap.{unwrapped}
use Rattle.rpc_msgs.specs.Words.{word}
use Rattle.rpc_msgs.specs.Xdr.{Input, whole, word_at}
use Rattle.rpc_msgs.specs.declared.xdr_reader.XdrRefusal.{XdrRefusal}
use Rattle.rpc_msgs.proofs.XdrLaws.{word_law}
use Rattle.rpcsec_msgs.specs.Bodies.{checked_at, sealed_at}
use Rattle.rpcsec_bodies.specs.declared.refusal.BodyRefusal.{BodyRefusal}
use Rattle.rpcsec_bodies.specs.declared.refusal.BodyRefusal.TheVariants.{Protection, Number, NoMemory}
use Rattle.rpcsec_bodies.specs.declared.service.Service.{Service}
use Rattle.rpcsec_bodies.specs.declared.service.Service.TheVariants as services
use Rattle.rpcsec_bodies.specs.Carried.{IsNumbered, IsCheckedBody, IsSealedBody, IsBody}
use Rattle.rpcsec_bodies.specs.Opening.{◌>>=◌, due, or_unprotected, or_unnumbered, numbered, checked_content, sealed_content, unprotected}

-- what was taken by a chain of rules
record Both {A B : Type 0} (r : Result A BodyRefusal) (next : A → Result B BodyRefusal) (y : B) : Type 0 where
  value : A
  first : r ≡ Ok value
  second : next value ≡ Ok y

both : {A B : Type 0} (r : Result A BodyRefusal) (next : A → Result B BodyRefusal) (y : B) → (r >>= next) ≡ Ok y → Both r next y
both (Ok x) next y e = record { value = x; first = refl; second = e }
both (Err refusal) next y e = cc

held : (refusal : BodyRefusal) (b : Bool) (u : Unit {0}) → due refusal b ≡ Ok u → b ≡ true
held refusal true u e = refl
held refusal false u e = cc

part-is : {A E : Type 0} (r : Result A E) (x : A) → or_unprotected r ≡ Ok x → r ≡ Ok x
part-is (Ok y) x e = cc
part-is (Err d) x e = cc

number-is : (r : Result (ℕ × Input) XdrRefusal) (x : ℕ × Input) → or_unnumbered r ≡ Ok x → r ≡ Ok x
number-is (Ok y) x e = cc
number-is (Err d) x e = cc

numbered-is : (seq : ℕ) (databody content : List ℕ) → numbered seq databody ≡ Ok content → IsNumbered seq databody content
unfolding numbered
numbered-is seq databody content e =
    let p = both (or_unnumbered (word_at (whole databody))) _ content e in
    let q = both (due Number (p.value.0 == seq)) _ content p.second in
    let same : p.value.0 ≡ seq = eqb-true _ _ (held Number _ q.value q.first) in
    record {
      rest = p.value.1;
      read = number-is _ p.value p.first ∙ ap (λ (n : ℕ). Ok (n, p.value.1)) same;
      content_is = let f : p.value.1.octets ≡ content = cc in sym f;
    }

checked-is : (end : TokenEnd) (seq : ℕ) (body content : List ℕ) → checked_content end seq body ≡ Ok content → IsCheckedBody end seq body content
unfolding checked_content
checked-is end seq body content e =
    let p = both (or_unprotected (checked_at body)) _ content e in
    let q = both (or_unprotected (checked_mic end p.value.1 p.value.0)) _ content p.second in
    record {
      databody = p.value.0;
      mic = p.value.1;
      split = part-is _ p.value p.first;
      proved = part-is _ tt q.first;
      numbered = numbered-is seq p.value.0 content q.second;
    }

sealed-is : (end : TokenEnd) (seq : ℕ) (body content : List ℕ) → sealed_content end seq body ≡ Ok content → IsSealedBody end seq body content
unfolding sealed_content
sealed-is end seq body content e =
    let p = both (or_unprotected (sealed_at body)) _ content e in
    let q = both (or_unprotected (unwrapped end p.value)) _ content p.second in
    let r = both (due Protection q.value.sealed) _ content q.second in
    let sealed : q.value.sealed ≡ true = held Protection _ r.value r.first in
    record {
      token = p.value;
      databody = q.value.content;
      split = part-is _ p.value p.first;
      opened = part-is _ q.value q.first ∙ ap (λ (b : Bool). Ok (record { sealed = b; content = q.value.content })) sealed;
      numbered = numbered-is seq q.value.content content r.second;
    }

-- a body that was taken holds its content
pub held-by : (end : TokenEnd) (service : Service) (seq : ℕ) (body content : List ℕ) → unprotected end service seq body ≡ Ok content → IsBody end service seq body content
unfolding unprotected
held-by end services.None seq body content e = let f : body ≡ content = cc in sym f
held-by end services.Integrity seq body content e = checked-is end seq body content e
held-by end services.Privacy seq body content e = sealed-is end seq body content e

-- the same of an answer of the code
pub found-by : (end : TokenEnd) (service : Service) (seq : ℕ) (body : List ℕ) (r : Result (List ℕ) BodyRefusal) → Gives NoMemory (λ o. o) r (unprotected end service seq body) → IfOk r (λ content. IsBody end service seq body content)
found-by end service seq body (Ok content) g = held-by end service seq body content g
found-by end service seq body (Err refusal) g = tt

eqb-same : (n : ℕ) → (n == n) ≡ true
eqb-same n = grind (arith, nat_tests)

-- the number and the content behind it
pub number-read : (n : ℕ) (content : List ℕ) → n < 2 ^ 32 → numbered n (word n ++ content) ≡ Ok content
unfolding numbered
number-read n content h = rw (word_law.only n content (length (word n ++ content)) h, eqb-same n) refl

-- the same of a body by integrity
pub checked-read : (end : TokenEnd) (n : ℕ) (content body mic : List ℕ) → n < 2 ^ 32 → checked_at body ≡ Ok (word n ++ content, mic) → checked_mic end mic (word n ++ content) ≡ Ok tt → unprotected end services.Integrity n body ≡ Ok content
unfolding unprotected checked_content
checked-read end n content body mic h split good = rw (split) (rw (good) (number-read n content h))

-- the same of a body by privacy
pub sealed-read : (end : TokenEnd) (n : ℕ) (content body token : List ℕ) → n < 2 ^ 32 → sealed_at body ≡ Ok token → unwrapped end token ≡ Ok (record { sealed = true; content = word n ++ content }) → unprotected end services.Privacy n body ≡ Ok content
unfolding unprotected sealed_content
sealed-read end n content body token h split good = rw (split) (rw (good) (number-read n content h))
