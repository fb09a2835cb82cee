-- An honest record is answered by the admission of its number, by each lease whose key is one of octets.
use Rattle.std.proofs.Common.{◌≡◌, ◌<◌, ◌^◌, inl, inr, ℕ, true, false, refl, ap, ◌∙◌, arith, List, ◌++◌, Some, None, Ok}
use Rattle.std.specs.Prelude.{◌==◌}
use Rattle.rpc_msgs.specs.Words.{word}
use Rattle.rpc_program.specs.Programs.{Serving}
use Rattle.rpcsec_msgs.specs.Cred.{CredValue}
use Rattle.rpcsec_msgs.specs.Bodies.{sealed_at}
use Rattle.rpcsec_msgs.proofs.BodyLaws.{sealed-only}
use Rattle.aes_cts.specs.Cipher.{IsOctets}
use Rattle.krb_derive.specs.Key.{key_octets}
use Rattle.krb_tokens.specs.declared.end.TokenEnd.{TokenEnd}
use Rattle.krb_tokens.specs.Wrap.{unwrapped}
use Rattle.rpcsec_bodies.specs.declared.service.Service.TheVariants as services
use Rattle.rpcsec_bodies.specs.Opening.{unprotected}
use Rattle.rpcsec_bodies.proofs.Taken.{sealed-read}
use Rattle.accept_book.specs.declared.book_answer.Lease.{Lease}
use Rattle.accept_book.specs.RecordShown.{KeptAnswers, Look, waiting, handle_id, end_of, taken_args, body_args}
use Rattle.accept_book.specs.RecordRule.{call_ruling, record_ruling}
use Rattle.accept_book.specs.Honest.{caller_of, ByPrivacy, Carries, Honest}
use Rattle.accept_book.proofs.HonestRecords.{checked-carried, honest-ruled}
use Rattle.honest_calls.specs.HonestCalls.{HonestCallsLaw}
use Rattle.honest_calls.proofs.Unsealing.{unsealed}

-- ---- the body

sealed-carried : (lease : Lease) (n : ℕ) (args body : List ℕ) → IsOctets (key_octets lease.outcome.key) → n < 2 ^ 32 → ByPrivacy (caller_of lease) n args body → unprotected (end_of lease) services.Privacy n body ≡ Ok args
sealed-carried lease n args body kept h b =
    let read : sealed_at body ≡ Ok b.token = ap sealed_at b.spelled ∙ sealed-only b.token b.long in
    let good : unwrapped (end_of lease) b.token ≡ Ok (record { sealed = true; content = word n ++ args }) = unsealed (end_of lease) b.token (word n ++ args) kept b.sealed in
    sealed-read (end_of lease) n args body b.token h read good

body-carried : (lease : Lease) (cred : CredValue) (n : ℕ) (args body : List ℕ) → IsOctets (key_octets lease.outcome.key) → n < 2 ^ 32 → cred.seq ≡ n → Carries (caller_of lease) cred.service n args body → body_args (end_of lease) cred body ≡ Some args
unfolding body_args unprotected
body-carried lease cred n args body kept h e (inl b) = let s = b.0 in let same = b.1 in rw (s, same) refl
body-carried lease cred n args body kept h e (inr (inl b)) = let s = b.0 in rw (s, e) (ap taken_args (checked-carried lease n args body h b.1))
body-carried lease cred n args body kept h e (inr (inr b)) = let s = b.0 in rw (s, e) (ap taken_args (sealed-carried lease n args body kept h b.1))

-- ---- what it is answered

pub honest-calls : HonestCallsLaw
honest-calls lease key octets kept serves n procedure args h id handle look =
    let number : n < 2 ^ 32 = omega (arith, h.few) in
    honest-ruled octets kept serves n procedure args lease h id (body-carried lease h.cred n args h.call.args key number h.number h.body) handle look

-- first it asks for a look at its context
pub honest-looks : (octets : List ℕ) (kept : KeptAnswers) (serves : Serving) (n procedure : ℕ) (args : List ℕ) (end : TokenEnd) (h : Honest serves.program octets end n procedure args) (id : ℕ)
    → handle_id h.cred.context ≡ Some id → kept.looked ≡ None → record_ruling octets kept serves ≡ waiting (Look id kept.now)
unfolding record_ruling call_ruling
honest-looks octets kept serves n procedure args end h id handle look =
    let flavour : (h.call.cred.flavour == 0) ≡ false = rw h.flavour refl in
    let gss : (h.call.cred.flavour == 6) ≡ true = rw h.flavour refl in
    let is_data : (h.cred.proc == 0) ≡ true = rw h.is_data refl in
    let first : (h.cred.proc == 1) ≡ false = rw h.is_data refl in
    let second : (h.cred.proc == 2) ≡ false = rw h.is_data refl in
    rw (h.reads) (rw (flavour, gss, h.header) (rw (is_data, first, second) (rw (handle, look) refl)))
