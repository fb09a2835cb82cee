-- What one end protects the facing end takes.
use Rattle.std.proofs.Common.{◌≡◌, ◌<◌, ◌≤◌, ◌+◌, ◌-◌, ◌*◌, ◌^◌, ◌%◌, lit<, ℕ, true, List, ◌++◌, length, refl, ap, sym, ◌∙◌, arith, Result, Ok, Err, IfOk}
use Rattle.std.proofs.Math.Nat.{zero-mod}
use Rattle.std.proofs.Math.Seq.{take-length, drop-length}
use Rattle.krb_tokens.specs.declared.end.TokenEnd.{TokenEnd}
use Rattle.krb_tokens.specs.End.{facing}
use Rattle.krb_tokens.specs.Mic.{mic_of}
use Rattle.krb_tokens.specs.Wrap.{turned_right, rotated, wrap_header, sealed_body, wrap_of, unwrapped}
use Rattle.krb_tokens.proofs.Taken.{mic-taken}
use Rattle.rpc_msgs.specs.Words.{word, opaque}
use Rattle.rpcsec_msgs.specs.Bodies.{checked_at, checked_octets, sealed_at}
use Rattle.rpcsec_msgs.proofs.BodyLaws.{sealed-only, checked-only}
use Rattle.rpcsec_bodies.specs.declared.service.Service.TheVariants as services
use Rattle.rpcsec_bodies.specs.Opening.{unprotected}
use Rattle.rpcsec_bodies.specs.Protection.{protected, Opens}
use Rattle.rpcsec_bodies.proofs.Lengths.{length-wrap_of, longest-databody, mic-size}
use Rattle.rpcsec_bodies.proofs.Taken.{checked-read, sealed-read}

unturned : (body : List ℕ) → turned_right 0 body ≡ body
unturned body =
    let none : 0 % length body ≡ 0 = zero-mod (length body) in
    let all : length body - 0 ≡ length body = omega arith in
    rw (none, all, take-length body, drop-length body) refl

-- a token that was made isn't rotated
unrotated : (end : TokenEnd) (number : ℕ) (confounder octets : List ℕ) → rotated 0 (wrap_of end number true confounder octets) ≡ wrap_of end number true confounder octets
unfolding rotated wrap_of wrap_header
unrotated end number confounder octets = ap (λ (zs : List ℕ). wrap_header end true 0 0 number ++ zs) (unturned (sealed_body end number confounder octets))

pub opens-made : (end : TokenEnd) (number : ℕ) (confounder octets token : List ℕ) → token ≡ wrap_of end number true confounder octets → ((rotation : ℕ) → rotation < 65536 → unwrapped (facing end) (rotated rotation token) ≡ Ok (record { sealed = true; content = octets })) → Opens end number confounder octets
opens-made end number confounder octets token e taken =
    ap (unwrapped (facing end)) (sym (unrotated end number confounder octets) ∙ ap (rotated 0) (sym e)) ∙ taken 0 (lit< tt)

pub checked-made : (end : TokenEnd) (seq : ℕ) (content : List ℕ) → seq < 2 ^ 32 → length content ≤ 130952
    → unprotected (facing end) services.Integrity seq (checked_octets (word seq ++ content) (mic_of end (2 * seq + 1) (word seq ++ content))) ≡ Ok content
checked-made end seq content h few =
    let mic : List ℕ = mic_of end (2 * seq + 1) (word seq ++ content) in
    let split : checked_at (checked_octets (word seq ++ content) mic) ≡ Ok (word seq ++ content, mic) = checked-only (word seq ++ content) mic (omega (arith, longest-databody seq content few)) (omega (arith, mic-size end (2 * seq + 1) (word seq ++ content))) in
    checked-read (facing end) seq content (checked_octets (word seq ++ content) mic) mic h split (mic-taken end (2 * seq + 1) (word seq ++ content))

pub sealed-made : (end : TokenEnd) (seq : ℕ) (confounder content : List ℕ) → seq < 2 ^ 32 → length content ≤ 130952 → length confounder ≡ 16 → Opens end (2 * seq + 1) confounder (word seq ++ content)
    → unprotected (facing end) services.Privacy seq (opaque (wrap_of end (2 * seq + 1) true confounder (word seq ++ content))) ≡ Ok content
sealed-made end seq confounder content h few block opens =
    let token : List ℕ = wrap_of end (2 * seq + 1) true confounder (word seq ++ content) in
    let split : sealed_at (opaque token) ≡ Ok token = sealed-only token (omega (arith, longest-databody seq content few, length-wrap_of end (2 * seq + 1) confounder (word seq ++ content) block)) in
    sealed-read (facing end) seq content (opaque token) token h split opens

-- ---- bodies of each service

pub none-made : (end : TokenEnd) (seq : ℕ) (confounder content : List ℕ) → unprotected (facing end) services.None seq (protected end services.None seq confounder content) ≡ Ok content
unfolding unprotected protected
none-made end seq confounder content = refl

pub integrity-made : (end : TokenEnd) (seq : ℕ) (confounder content : List ℕ) → seq < 2 ^ 32 → length content ≤ 130952
    → unprotected (facing end) services.Integrity seq (protected end services.Integrity seq confounder content) ≡ Ok content
unfolding protected
integrity-made end seq confounder content h few = checked-made end seq content h few

pub privacy-made : (end : TokenEnd) (seq : ℕ) (confounder content : List ℕ) → seq < 2 ^ 32 → length content ≤ 130952 → length confounder ≡ 16
    → Opens end (2 * seq + 1) confounder (word seq ++ content) → unprotected (facing end) services.Privacy seq (protected end services.Privacy seq confounder content) ≡ Ok content
unfolding protected
privacy-made end seq confounder content h few block opens = sealed-made end seq confounder content h few block opens

-- ---- of what the code made, if it did

pub any-ok : {A E : Type 0} (r : Result A E) (P : Type 0) → P → IfOk r (λ _. P)
any-ok (Ok x) P p = p
any-ok (Err e) P p = tt

pub ok-then : {A E : Type 0} (r : Result A E) (P Q : Type 0) → (P → Q) → IfOk r (λ _. P) → IfOk r (λ _. Q)
ok-then (Ok x) P Q f p = f p
ok-then (Err e) P Q f p = tt
