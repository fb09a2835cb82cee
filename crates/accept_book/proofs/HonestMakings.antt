-- Records that an end makes are honest.
use Rattle.std.proofs.Common.{◌≡◌, ◌<◌, ◌≤◌, ◌-◌, ◌^◌, ◌%◌, inl, inr, lit<, lit≤, ℕ, Bool, true, false, refl, ap, sym, arith, List, [], ◌++◌, length, take}
use Rattle.std.proofs.Math.Nat.{zero-mod}
use Rattle.std.proofs.Math.Seq.{take-append_seam, take-length, drop-length}
use Rattle.std.proofs.lemmas.List.{length-append, append-nil}
use Rattle.rpc_msgs.specs.Words.{word, opaque}
use Rattle.rpc_msgs.specs.Auths.{auth_octets}
use Rattle.rpc_msgs.specs.Calls.{CallValue, IsCall, secure_call}
use Rattle.rpc_msgs.proofs.CallLaws.{call-only}
use Rattle.rpc_msgs.proofs.WordLengths.{length-word, length-opaque}
use Rattle.rpcsec_msgs.specs.Cred.{CredValue, IsCred, is_service, cred_octets}
use Rattle.rpcsec_msgs.proofs.CredLaws.{cred-only}
use Rattle.krb_tokens.specs.declared.end.Side.{Side}
use Rattle.krb_tokens.specs.declared.end.Side.TheVariants.{Initiator, Acceptor}
use Rattle.krb_tokens.specs.declared.end.TokenEnd.{TokenEnd}
use Rattle.krb_tokens.specs.End.{is_sealed, flags_of}
use Rattle.krb_tokens.specs.Mic.{mic_header, mic_of}
use Rattle.krb_tokens.specs.Wrap.{turned_right, wrap_header, sealed_body, wrap_of}
use Rattle.krb_tokens.specs.Tokens.{HasFlags, IsMicOf, mic_header_with, IsWrapOf, wrap_header_with}
use Rattle.rpcsec_bodies.proofs.Lengths.{mic-size}
use Rattle.rpcsec_bodies.specs.Service.{number_of}
use Rattle.rpc_program.specs.Programs.{ProgramSays}
use Rattle.accept_book.specs.Honest.{IsOctets, Carries, Honest, IsId, data_header, made_call}

flags-of : (end : TokenEnd) (sealed : Bool) → HasFlags end (flags_of end sealed)
flags-of end sealed = by-flags end.side end.subkey sealed refl refl
  where
    by-flags : (side : Side) (subkey seals : Bool) → end.side ≡ side → end.subkey ≡ subkey → HasFlags end (flags_of end seals)
    by-flags Initiator true true e f = record { octet = rw (e, f) (lit< tt); sender = rw (e, f) refl; subkey = rw (e, f) refl }
    by-flags Initiator true false e f = record { octet = rw (e, f) (lit< tt); sender = rw (e, f) refl; subkey = rw (e, f) refl }
    by-flags Initiator false true e f = record { octet = rw (e, f) (lit< tt); sender = rw (e, f) refl; subkey = rw (e, f) refl }
    by-flags Initiator false false e f = record { octet = rw (e, f) (lit< tt); sender = rw (e, f) refl; subkey = rw (e, f) refl }
    by-flags Acceptor true true e f = record { octet = rw (e, f) (lit< tt); sender = rw (e, f) refl; subkey = rw (e, f) refl }
    by-flags Acceptor true false e f = record { octet = rw (e, f) (lit< tt); sender = rw (e, f) refl; subkey = rw (e, f) refl }
    by-flags Acceptor false true e f = record { octet = rw (e, f) (lit< tt); sender = rw (e, f) refl; subkey = rw (e, f) refl }
    by-flags Acceptor false false e f = record { octet = rw (e, f) (lit< tt); sender = rw (e, f) refl; subkey = rw (e, f) refl }

seals-of : (end : TokenEnd) → is_sealed (flags_of end true) ≡ true
seals-of end = by-flags end.side end.subkey refl refl
  where
    by-flags : (side : Side) (subkey : Bool) → end.side ≡ side → end.subkey ≡ subkey → is_sealed (flags_of end true) ≡ true
    by-flags Initiator true e f = rw (e, f) refl
    by-flags Initiator false e f = rw (e, f) refl
    by-flags Acceptor true e f = rw (e, f) refl
    by-flags Acceptor false e f = rw (e, f) refl

pub mic-made : (end : TokenEnd) (number : ℕ) (octets : List ℕ) → number < 2 ^ 64 → IsMicOf end octets (mic_of end number octets)
unfolding mic_of mic_header mic_header_with
mic-made end number octets h = record { flags = flags_of end false; number = number; flagged = flags-of end false; small = h; spelled = refl }

unturned : (body : List ℕ) → turned_right 0 body ≡ body
unturned body =
    let none : 0 % length body ≡ 0 = zero-mod (length body) in
    let all : length body - 0 ≡ length body = omega arith in
    rw (none, all, take-length body, drop-length body) refl

pub sealed-made : (end : TokenEnd) (number : ℕ) (confounder content : List ℕ) → number < 2 ^ 64 → length confounder ≡ 16 → IsOctets (confounder ++ content) → IsWrapOf end true content (wrap_of end number true confounder content)
unfolding wrap_of wrap_header wrap_header_with sealed_body
sealed-made end number confounder content h block small = record {
  flags = flags_of end true;
  extra = 0;
  rotation = 0;
  number = number;
  body = sealed_body end number confounder content;
  flagged = flags-of end true;
  sealing = seals-of end;
  few = lit< tt;
  turns = lit< tt;
  small = h;
  made = record { confounder = confounder; filling = []; octets = rw (append-nil content) small; block = block; count = refl; sealed = rw (append-nil content) refl };
  spelled = ap (λ (zs : List ℕ). wrap_header end true 0 0 number ++ zs) (sym (unturned (sealed_body end number confounder content)));
}

served : (end : TokenEnd) (service n : ℕ) (args body : List ℕ) → Carries end service n args body → (is_service 0 service ≡ true)
served end service n args body (inl b) = let s = b.0 in rw s refl
served end service n args body (inr (inl b)) = let s = b.0 in rw s refl
served end service n args body (inr (inr b)) = let s = b.0 in rw s refl

few-services : (end : TokenEnd) (service n : ℕ) (args body : List ℕ) → Carries end service n args body → service < 2 ^ 32
few-services end service n args body (inl b) = omega (arith, b.0)
few-services end service n args body (inr (inl b)) = omega (arith, b.0)
few-services end service n args body (inr (inr b)) = omega (arith, b.0)

cred-size : (n service : ℕ) (handle : List ℕ) → length handle ≡ 8 → length (cred_octets (record { proc = 0; seq = n; service = service; context = handle })) ≤ 400
cred-size n service handle e =
    omega (
      arith,
      e,
      length-append (word 1) (word 0 ++ (word n ++ (word service ++ opaque handle))),
      length-append (word 0) (word n ++ (word service ++ opaque handle)),
      length-append (word n) (word service ++ opaque handle),
      length-append (word service) (opaque handle),
      length-word 1,
      length-word 0,
      length-word n,
      length-word service,
      length-opaque handle,
    )

pub made-honest : (program : ProgramSays) (end : TokenEnd) (number xid n procedure service : ℕ) (handle args body : List ℕ) → IsId program.id → number < 2 ^ 64 → xid < 2 ^ 32 → n ≤ 0x80000000 → procedure < 2 ^ 32
    → program.has procedure ≡ true → number_of (program.needs procedure) ≤ service → length handle ≡ 8 → program.takes procedure args ≡ true → Carries end service n args body
    → Honest program (made_call program.id end number xid procedure (record { proc = 0; seq = n; service = service; context = handle }) body) end n procedure args
made-honest program end number xid n procedure service handle args body id small few-xids few low has allowed long proper carries =
    let cred : CredValue = record { proc = 0; seq = n; service = service; context = handle } in
    let front : List ℕ = data_header program.id xid procedure cred in
    let call : CallValue = secure_call xid program.id.number program.id.version procedure (cred_octets cred) (record { flavour = 6; body = mic_of end number front }) body in
    let is_call : IsCall call = record {
      xid = few-xids;
      program = id.number;
      version = id.version;
      procedure = low;
      cred = record { flavour = lit< tt; body = cred-size n service handle long };
      verf = record { flavour = lit< tt; body = omega (arith, mic-size end number front) };
      header = refl;
    } in
    let is_cred : IsCred cred = record {
      proc = lit≤ tt;
      seq = omega (arith, few);
      service = few-services end service n args body carries;
      served = served end service n args body carries;
      context = omega (arith, long);
    } in
    let seam : take (length front) (front ++ (auth_octets call.verf ++ body)) ≡ front = take-append_seam front (auth_octets call.verf ++ body) in
    record {
      call = call;
      cred = cred;
      reads = call-only call is_call;
      flavour = refl;
      header = cred-only cred is_cred;
      is_data = refl;
      number = refl;
      few = few;
      number_called = refl;
      version_called = refl;
      called = refl;
      served = has;
      allowed = allowed;
      secured = refl;
      verifier = rw seam (mic-made end number front small);
      body = carries;
      proper = proper;
    }
